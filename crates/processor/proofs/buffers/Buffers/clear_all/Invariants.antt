use Rattle.std.proofs.Common.{◌≡◌, ℕ, ◌<◌, [], length}
use Rattle.processor.specs.Waiting.{row_of}
use Rattle.processor.proofs.buffers.Buffers.clear_all.Given as goal

abbrev pub invariant-loop-thread : goal.invariant-loop-thread
invariant-loop-thread l = (length l.self.rows ≡ 4) × ((k : ℕ) → k < l.thread-index → row_of l.self.rows k ≡ [])
