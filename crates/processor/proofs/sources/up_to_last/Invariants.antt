use Rattle.std.proofs.Common.{◌≡◌, ℕ, ◌+◌, ◌<◌, ◌≤◌, length}
use Rattle.processor.specs.Sources.{from_departure, last_of}
use Rattle.processor.proofs.sources.up_to_last.Given as goal

-- none of those behind covers a byte
abbrev pub invariant-loop-rest : goal.invariant-loop-rest
invariant-loop-rest l =
    (length l.rest ≤ length l.left)
    × ((i : ℕ) → i < l.access.width → last_of (from_departure (l.access.address + i)) l.rest ≡ last_of (from_departure (l.access.address + i)) l.left)

abbrev pub decreases-loop-rest : goal.decreases-loop-rest
decreases-loop-rest l = length l.rest
