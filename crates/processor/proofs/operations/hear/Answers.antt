use Rattle.processor.proofs.Hearing.{heard}
use Rattle.processor.proofs.operations.hear.Goals as goal

pub returns : goal.returns
returns c = heard c.args.message.now c.in_ok-event.event c.in_ok-event.ensures.reads
