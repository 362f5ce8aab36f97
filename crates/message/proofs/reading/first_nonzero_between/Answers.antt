use Rattle.std.proofs.Common.{rules}
use Rattle.message.proofs.Tails.{zeros_between, first_between}
use Rattle.message.proofs.reading.first_nonzero_between.Goals as goal

pub returns-in_err-i : goal.returns-in_err-i
returns-in_err-i c = rw c.from_residual.ensures (zeros_between c.args.message.now c.args.from c.args.end c.args.end (search rules) (λ k lo hi. c.in_err-i.ensures k lo (search rules)))

pub returns : goal.returns
returns c = first_between c.args.message.now c.args.from c.args.end c.in_ok-i.i _ (search rules) c.in_ok-i.ensures
