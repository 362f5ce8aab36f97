use Rattle.std.proofs.Common.{arith}
use Rattle.processor.proofs.MachineFacts.{cut-facts}
use Rattle.processor.proofs.processor.Processor.cut.Goals as goal

pub invariant_of-self : goal.invariant_of-self
invariant_of-self c = rw (c.close.ensures, c.clear_all.ensures) (cut-facts _ c.self.invariant (omega (arith, c.run.ensures)))
