use Rattle.std.proofs.Common.{ap, arith}
use Rattle.processor.specs.History.{Past, past}
use Rattle.processor.proofs.HistoryLaws.{counts-closed}
use Rattle.processor.proofs.history.History.close.Goals as goal

pub invariant_of-self : goal.invariant_of-self
invariant_of-self c =
    let h = c.self.inside in
    counts-closed (past h.run h.left) h.present_count c.self.invariant (omega (arith, ap (λ (p : Past). p.run) c.self.view_is, c.requires))
