-- Which row a line of a table is.
use Rattle.std.specs.Prelude.{◌≡◌, List, ℕ, Some, Result, IfOk, codes}
use Rattle.std.specs.Borrow.{Bor}
use Rattle.std.specs.Str.Iter.{split_whitespace_rest, split_whitespace_steps}
use Rattle.wire_rows.specs.declared.rows.Row.{Row}
use Rattle.wire_rows.specs.declared.rows.Row.TheVariants.{Read, Pack, Parts}

-- the word that comes first in a line, white space aside
abbrev pub FirstWord : Bor (List ℕ) → Bor (List ℕ) → Type 0
FirstWord line word = (s : _) × (t : _) × (split_whitespace_rest s ≡ line.now) × split_whitespace_steps s (Some word) t

abbrev pub name_of : Row → List ℕ
name_of (Read hex) = codes "read"
name_of (Pack e n) = codes "pack"
name_of (Parts n) = codes "parts"

-- a row has the name that comes first in its line
abbrev pub Named : {E : Type 0} → Bor (List ℕ) → Result Row E → Type 0
Named line r = IfOk r (λ row. (word : Bor (List ℕ)) × FirstWord line word × (word.now ≡ name_of row))
