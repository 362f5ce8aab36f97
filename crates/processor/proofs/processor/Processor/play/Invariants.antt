use Rattle.std.proofs.Common.{◌≡◌, ◌+◌, ◌*◌, ◌<◌, length}
use Rattle.processor.specs.Playing.{Accepts, parts}
use Rattle.processor.proofs.processor.Processor.play.Given as goal

abbrev pub invariant-loop-part : goal.invariant-loop-part
invariant-loop-part l =
    (goal.iterator-loop-part).can_next l.part-iterator
    × (goal.iterator-loop-part).is_finite l.part-iterator
    × (l.part-iterator.recording.now ≡ l.recording)
    × (16 * l.part-iterator.next < length l.recording + 16)
    × Accepts l.initial.self (parts l.recording l.part-iterator.next) l.self
