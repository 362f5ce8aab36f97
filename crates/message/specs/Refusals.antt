-- Refusals in the order of their operation: each has a rank in that order, and a condition.
use Rattle.std.specs.Prelude.{ℕ, ◌<◌}

-- a refusal comes where its condition holds, and that of none of a smaller rank does
pub record Comes {F : Type 0} (rank : F → ℕ) (Holds : F → Type 0) (f : F) : Type 0 where
  pub holds : Holds f
  pub first : (g : F) → rank g < rank f → Holds g → ⊥

-- no refusal's condition holds
abbrev pub NoneHolds : {F : Type 0} → (F → Type 0) → Type 0
NoneHolds {F} Holds = (f : F) → Holds f → ⊥
