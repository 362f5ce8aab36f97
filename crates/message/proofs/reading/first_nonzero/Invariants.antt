use Rattle.message.specs.Format.{Zeros}
use Rattle.message.proofs.reading.first_nonzero.Given as goal

abbrev pub invariant-loop-i : goal.invariant-loop-i
invariant-loop-i l = Zeros l.tail 0 l.i
