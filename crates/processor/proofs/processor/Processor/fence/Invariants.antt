use Rattle.std.proofs.Common.{◌≡◌}
use Rattle.processor.specs.Machine.{drained_by}
use Rattle.processor.proofs.processor.Processor.fence.Given as goal

abbrev pub invariant-loop : goal.invariant-loop
invariant-loop l = l.self ≡ drained_by l.counter l.thread l.initial.self
