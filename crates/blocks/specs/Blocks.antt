-- What comes in, where the bytes that the input will give are known.
use Rattle.std.specs.Prelude.{◌≡◌, ℕ, ◌+◌, ◌<◌, ◌≤◌, ◌⊎◌, List, length, take, Some, None, Ok, Err, Option, Result}
use Rattle.std.specs.Io.KnownBytes.{Consumes, IsAtEnd}
use Rattle.arrayvec.specs.ArrayVec.{ArrayVec}
use Rattle.blocks.specs.declared.blocks.Blocks.{Blocks}

-- what the blocks are read from, and how many may come yet
abbrev pub input_of : {R : Type 0} → Blocks R → R
input_of b = b.input

abbrev pub left_of : {R : Type 0} → Blocks R → ℕ
left_of b = b.left

-- n bytes came into a block from the front of what the input has, and fewer than it has room for only at the end
abbrev pub Fills : Option (List ℕ) → Option (List ℕ) → ℕ → List ℕ → Type 0
Fills before after n block = (n ≤ length block) × Consumes before after (take n block) × (n < length block → IsAtEnd after)

-- A block is 1,024 bytes from the front of what the input has; or what is left of it, and then no more may come. None comes where
-- nothing was left, or no more may come. After an error of the input, nothing is said of what it has left.
abbrev pub Gives : {E : Type 0} → ℕ → Option (List ℕ) → Option (Result (ArrayVec ℕ) E) → ℕ → Option (List ℕ) → Type 0
Gives more before None more' after = IsAtEnd before ⊎ (more ≡ 0)
Gives more before (Some (Err e)) more' after = more' + 1 ≡ more
Gives more before (Some (Ok m)) more' after = (0 < length m.items) × Consumes before after m.items × (((length m.items ≡ 1024) × (more' + 1 ≡ more)) ⊎ ((length m.items < 1024) × IsAtEnd after × (more' ≡ 0)))
