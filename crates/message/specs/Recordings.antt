-- A recording is messages end to end, sixteen bytes each; the last part may be shorter.
use Rattle.std.specs.Prelude.{◌≡◌, ℕ, ◌+◌, ◌*◌, ◌<◌, ◌≤◌, List, [], ◌∷◌, ◌++◌, length, take, drop, Some, None, Option}
use Rattle.std.specs.Borrow.{Bor}
use Rattle.message.specs.declared.recordings.Part.{Part}

-- a recording, and the ordinal of the part that comes next
pub record Place : Type 0 where
  pub recording : Bor (List ℕ)
  pub next : ℕ

abbrev pub place : Bor (List ℕ) → ℕ → Place
place b n = record { recording = b; next = n }

-- the bytes of the part at an ordinal: the sixteen from sixteen times the ordinal on, or what is left of them
abbrev pub part_at : List ℕ → ℕ → List ℕ
part_at xs n = take 16 (drop (16 * n) xs)

-- p is the part at an ordinal of the recording itself: the block of memory and the place in it, and what stands there
pub record PartOf (recording : Bor (List ℕ)) (n : ℕ) (p : Bor (List ℕ)) : Type 0 where
  pub within : 16 * n < length recording.now
  pub block : p.ref_ptr.0 ≡ recording.ref_ptr.0
  pub place : p.ref_ptr.1 ≡ recording.ref_ptr.1 + 16 * n
  pub bytes : p.now ≡ part_at recording.now n

-- a call of `next`: nothing once no byte is left, and otherwise the part whose turn it is
abbrev pub Steps : Place → Option Part → Place → Type 0
Steps s None t = (t ≡ s) × (length s.recording.now ≤ 16 * s.next)
Steps s (Some p) t = (p.ordinal ≡ s.next) × PartOf s.recording p.ordinal p.bytes × (t.recording ≡ s.recording) × (t.next ≡ s.next + 1)

-- calls of `next` up to the first that gives nothing, with the parts that they gave
abbrev pub Walk : Place → List Part → Type 0
Walk s [] = (t : Place) × Steps s None t
Walk s (p ∷ ps) = (t : Place) × Steps s (Some p) t × Walk t ps

-- the bytes of parts end to end
abbrev pub joined : List Part → List ℕ
joined [] = []
joined (p ∷ ps) = p.bytes.now ++ joined ps

-- the ordinals of parts count up from n
abbrev pub CountUp : ℕ → List Part → Type 0
CountUp n [] = Unit {0}
CountUp n (p ∷ ps) = (p.ordinal ≡ n) × CountUp (n + 1) ps

-- whoever calls `next` up to the end gets each byte of the recording once, in order, and ordinals from 0
abbrev pub Complete : Bor (List ℕ) → Place → Type 0
Complete recording s = (ps : List Part) → Walk s ps → (joined ps ≡ recording.now) × CountUp 0 ps
