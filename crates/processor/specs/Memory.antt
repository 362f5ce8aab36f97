-- The memory: 4,096 bytes in 64 lines of 64 bytes; and bytes of it that one store writes or one load reads.
use Rattle.std.specs.Prelude.{ℕ, ◌+◌, ◌-◌, ◌/◌, ◌%◌, ◌<◌, ◌≤◌, Bool, cond, ◌&&◌, List, Some, None, Option, nat_le, nat_lt, slice_index}

-- the line of an address
abbrev pub line : ℕ → ℕ
line a = a / 64

-- `width` bytes from an address on, and their values
pub record Span : Type 0 where
  pub address : ℕ
  pub width : ℕ
  pub value : List ℕ

abbrev pub span : ℕ → ℕ → List ℕ → Span
span a w v = record { address = a; width = w; value = v }

-- all of them lie in one line
abbrev pub InLine : Span → Type 0
InLine x = (x.address < 4096) × (x.address % 64 + x.width ≤ 64) × (x.width ≤ 8)

-- whether the byte at an address is one of them, and its value if it is
abbrev pub covers : Span → ℕ → Bool
covers x b = nat_le x.address b && nat_lt b (x.address + x.width)

abbrev pub byte_at : Span → ℕ → Option ℕ
byte_at x b = cond (covers x b) (Some (slice_index x.value (b - x.address))) None

-- whether two, each of a byte or more, have a byte in common
abbrev pub overlap : Span → Span → Bool
overlap x y = nat_lt x.address (y.address + y.width) && nat_lt y.address (x.address + x.width)
