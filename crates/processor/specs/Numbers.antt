-- Numbers below a limit, as those of the threads and of the cache lines are.
use Rattle.std.specs.Prelude.{◌≡◌, ℕ, ◌<◌, ◌≤◌, Result, Ok, Err}
use Rattle.processor.specs.declared.numbers.NotBelow.{NotBelow}

-- k is read as a number below n, or refused where it is none
abbrev pub Numbers : (n : ℕ) → ℕ → Result ℕ (NotBelow n) → Type 0
Numbers n k (Ok b) = (k < n) × (b ≡ k)
Numbers n k (Err e) = (n ≤ k) × (e.0 ≡ k)
