-- Numbers and their bytes, low byte first.
use Rattle.std.proofs.Common.{◌≡◌, ℕ, zero, suc, ◌+◌, ◌*◌, ◌/◌, ◌%◌, ◌^◌, ◌<◌, ◌≤◌, List, [], ◌∷◌, length, get_or, refl, ap, arith}
use native.Mathlib.Nat.{pow-succ'}
use Rattle.message.specs.Format.{little, bytes_of}

-- each element is a byte
abbrev pub Bytes : List ℕ → Type 0
Bytes b = (i : ℕ) → get_or b i 0 < 256

pub little-bytes_of : (n v : ℕ) → v < 256 ^ n → little (bytes_of n v) ≡ v
little-bytes_of zero v h = omega arith
little-bytes_of (suc n) v h =
    let small : v / 256 < 256 ^ n = omega (arith, pow-succ' 256 n) in
    let rest = little-bytes_of n (v / 256) small in
    omega arith

pub bytes_of-little : (b : List ℕ) → Bytes b → bytes_of (length b) (little b) ≡ b
bytes_of-little [] h = refl
bytes_of-little (x ∷ xs) h =
    let low : x < 256 = h 0 in
    let first : (x + 256 * little xs) % 256 ≡ x = omega arith in
    let rest : (x + 256 * little xs) / 256 ≡ little xs = omega arith in
    let tail = bytes_of-little xs (λ i. h (suc i)) in
    cc

pub length-bytes_of : (n v : ℕ) → length (bytes_of n v) ≡ n
length-bytes_of zero v = refl
length-bytes_of (suc n) v = ap suc (length-bytes_of n (v / 256))

-- a number below 256 ^ w has no byte from place w on
pub bytes_beyond : (n v w j : ℕ) → v < 256 ^ w → w ≤ j → get_or (bytes_of n v) j 0 ≡ 0
bytes_beyond zero v w j h le = refl
bytes_beyond (suc n) v zero zero h le = omega arith
bytes_beyond (suc n) v (suc w) zero h le = absurd (omega arith)
bytes_beyond (suc n) v zero (suc j) h le = bytes_beyond n (v / 256) zero j (omega arith) (omega arith)
bytes_beyond (suc n) v (suc w) (suc j) h le = bytes_beyond n (v / 256) w j (omega (arith, pow-succ' 256 w)) (omega arith)

-- bytes that are 0 from place w on make a number below 256 ^ w
pub little_below : (b : List ℕ) (w : ℕ) → Bytes b → ((i : ℕ) → w ≤ i → get_or b i 0 ≡ 0) → little b < 256 ^ w
little_below [] zero h z = omega arith
little_below [] (suc w) h z = omega (arith, pow-succ' 256 w, little_below [] w h (λ i le. refl))
little_below (x ∷ xs) zero h z =
    let none : x ≡ 0 = z 0 (omega arith) in
    omega (arith, little_below xs zero (λ i. h (suc i)) (λ i le. z (suc i) (omega arith)))
little_below (x ∷ xs) (suc w) h z =
    let low : x < 256 = h 0 in
    omega (arith, pow-succ' 256 w, little_below xs w (λ i. h (suc i)) (λ i le. z (suc i) (omega arith)))
