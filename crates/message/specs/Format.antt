-- How a message lies in its sixteen bytes: a bit map, then the fields whose bit stands, in bit order, then filler.
-- Numbers lie low byte first.
use Rattle.std.specs.Prelude.{◌≡◌, ℕ, zero, suc, ◌+◌, ◌*◌, ◌/◌, ◌%◌, ◌^◌, ◌<◌, ◌≤◌, Bool, true, cond, ◌≢◌, List, [], ◌∷◌, take, drop, ◌==◌, slice_index, slice_index_or}

-- the number of bytes of each field, by its bit: kind, thread, address, width, value
abbrev pub sizes : List ℕ
sizes = 1 ∷ 1 ∷ 2 ∷ 1 ∷ 8 ∷ []

-- whether bit n of a map stands
abbrev pub stands : ℕ → ℕ → Bool
stands m n = m / 2 ^ n % 2 == 1

abbrev pub Stands : ℕ → ℕ → Type 0
Stands m n = stands m n ≡ true

-- the bytes that the field of bit n takes under a map: none where the bit is clear
abbrev pub room : ℕ → ℕ → ℕ
room m n = cond (stands m n) (slice_index sizes n) 0

-- the offset of the field of bit n: behind the map and the fields of the lower bits
abbrev pub offset : ℕ → ℕ → ℕ
offset m zero = 1
offset m (suc n) = offset m n + room m n

-- the offset of the filler
abbrev pub fields_end : ℕ → ℕ
fields_end m = offset m 5

-- a number from its bytes, low byte first
abbrev pub little : List ℕ → ℕ
little [] = 0
little (x ∷ xs) = x + 256 * little xs

-- the n low bytes of a number, low byte first
abbrev pub bytes_of : ℕ → ℕ → List ℕ
bytes_of zero v = []
bytes_of (suc n) v = v % 256 ∷ bytes_of n (v / 256)

-- the map of a message
abbrev pub map_at : List ℕ → ℕ
map_at b = slice_index b 0

-- the number in the field of bit n, 0 where the message has no such field
abbrev pub field : List ℕ → ℕ → ℕ
field b n = little (take (room (map_at b) n) (drop (offset (map_at b) n) b))

-- the bytes from `a` to below `e` are all 0
abbrev pub Zeros : List ℕ → ℕ → ℕ → Type 0
Zeros b a e = (k : ℕ) → a ≤ k → k < e → slice_index b k ≡ 0

-- `i` is the first offset from `a` to below `e` whose byte is not 0
pub record FirstNonzero (b : List ℕ) (a e i : ℕ) : Type 0 where
  pub low : a ≤ i
  pub high : i < e
  pub nonzero : slice_index_or b i 0 ≢ 0
  pub zeros : Zeros b a i
