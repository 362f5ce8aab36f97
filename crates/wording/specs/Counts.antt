-- The counts of the messages read.
use Rattle.std.specs.Prelude.{◌≡◌, ℕ, ◌+◌, ◌-◌, min, ◌≢◌, slice_index}
use Rattle.message.specs.Kinds.{number_of}
use Rattle.message.specs.declared.kinds.Kind.{Kind}
use Rattle.wording.specs.declared.tally.Tally.{Tally}

-- how many messages of a kind were counted
abbrev pub count_of : Tally → Kind → ℕ
count_of t k = slice_index t.counts (number_of k - 1)

-- one more in all and of a kind, each up to the largest number, and as many as before of each other kind
pub record Noted (before : Tally) (k : Kind) (after : Tally) : Type 0 where
  pub messages : after.messages ≡ min (before.messages + 1) 18446744073709551615
  pub more : count_of after k ≡ min (count_of before k + 1) 18446744073709551615
  pub others : (j : Kind) → (j ≢ k) → count_of after j ≡ count_of before j
