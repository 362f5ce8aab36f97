use Rattle.std.proofs.Common.{ap, ◌∙◌, arith}
use Rattle.processor.specs.Machine.{Machine}
use Rattle.processor.proofs.Steps.{bound_small, counted_is, counted-facts}
use Rattle.processor.proofs.processor.Processor.carry_out.Goals as goal

pub overflow_add-accepted : goal.overflow_add-accepted
overflow_add-accepted c = omega (arith, c.self.invariant.counted, bound_small _ c.self.invariant)

pub invariant_of-self : goal.invariant_of-self
invariant_of-self c =
    let m = c.args.self.now in
    let before = ap (λ (x : Machine). x.accepted) c.self.view_is in
    counted-facts m _ c.args.operation _ (c.self-2.view_is ∙ c.in_ok-perform.ensures.1) (omega arith) (rw (← c.self.view_is) c.self.invariant) c.self-2.invariant c.requires c.in_ok-perform.ensures.0

pub returns : goal.returns
returns c =
    let before = ap (λ (x : Machine). x.accepted) c.self.view_is in
    (c.in_ok-perform.ensures.0, counted_is c.args.self.now _ c.args.operation _ (c.self-2.view_is ∙ c.in_ok-perform.ensures.1) (omega arith))
