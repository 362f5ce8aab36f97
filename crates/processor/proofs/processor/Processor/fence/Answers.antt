use Rattle.std.proofs.Common.{ℕ, ap, ◌∙◌, arith}
use Rattle.processor.specs.Machine.{Machine, row}
use Rattle.processor.proofs.Bounds.{room_left}
use Rattle.processor.proofs.processor.Processor.fence.Goals as goal

pub leave-requires : goal.leave-requires
leave-requires c =
    let t : ℕ = c.args.thread in
    room_left _ _ t c.loop.counter _ (c.row-end.ensures ∙ ap (λ (m : Machine). row m t) c.self.view_is) c.loop.invariant (omega arith) c.requires

pub act-requires : goal.act-requires
act-requires c =
    let t : ℕ = c.args.thread in
    room_left _ _ t c.loop.counter _ (c.row-end.ensures ∙ ap (λ (m : Machine). row m t) c.self.view_is) c.loop.invariant (omega arith) c.requires
