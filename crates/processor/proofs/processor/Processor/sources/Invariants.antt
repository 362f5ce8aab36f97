use Rattle.std.proofs.Common.{◌≡◌, ℕ, ◌<◌, ◌≤◌, None, length, get_or}
use Rattle.processor.specs.Sources.{source_within}
use Rattle.processor.proofs.processor.Processor.sources.Given as goal

-- the bytes before the place have their sources, the others none
abbrev pub invariant-loop-place : goal.invariant-loop-place
invariant-loop-place l =
    (length l.sources ≡ 8)
    × ((i : ℕ) → i < l.place → get_or l.sources i None ≡ source_within l.self l.thread l.access i)
    × ((i : ℕ) → l.place ≤ i → get_or l.sources i None ≡ None)
