use Rattle.std.proofs.Common.{◌+◌, ap, ◌∙◌}
use Rattle.processor.specs.Sources.{from_departure, last_of}
use Rattle.processor.proofs.Present.{last_of_run}
use Rattle.processor.proofs.history.History.reach.Goals as goal

pub returns : goal.returns
returns c i l =
    let b = c.args.access.now.address + i in
    c.up_to_last.ensures i l ∙ ap (last_of (from_departure b)) c.present.ensures ∙ last_of_run c.args.self.now.run b c.args.self.now.left
