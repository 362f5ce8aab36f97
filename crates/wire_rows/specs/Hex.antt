-- Bytes from hexadecimal digits.
use Rattle.std.specs.Prelude.{ℕ, ◌+◌, ◌-◌, ◌*◌, cond, List, [], ◌∷◌, Some, None, Option, nat_lt}

-- the number that a character stands for, 0 to 9 and then a to f
abbrev pub digit_of : ℕ → ℕ
digit_of c = cond (nat_lt c 97) (c - 48) (c - 87)

-- the bytes of digits that follow one that waits, if one does: a byte for each two; one that is left over counts for nothing
abbrev pub pairs : Option ℕ → List ℕ → List ℕ
pairs high [] = []
pairs None (c ∷ cs) = pairs (Some (digit_of c)) cs
pairs (Some h) (c ∷ cs) = (h * 16 + digit_of c) ∷ pairs None cs
