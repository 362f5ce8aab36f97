-- Sixteen bytes that end in filler are the fields read from them, laid out again.
use Rattle.std.proofs.Common.{◌≡◌, ℕ, ◌+◌, ◌-◌, ◌<◌, ◌≤◌, Bool, true, false, cond, List, ◌∷◌, ◌++◌, length, get_or, take, drop, replicate, sym, refl, ap, ◌∙◌, subst, inl, inr, append_assoc, arith, drop-cons}
use Rattle.std.proofs.lemmas.List.{ext_get_or, get_or_past, get_or-take, get_or-drop, get_or-replicate, length-drop, length-take, length-replicate, take-append-drop, drop-drop}
use Rattle.std.proofs.lemmas.Bool.{cases_lt}
use Rattle.message.specs.Format.{stands, room, offset, fields_end, little, bytes_of, Zeros}
use Rattle.message.specs.Packing.{within, laid}
use Rattle.message.proofs.Numbers.{Bytes, bytes_of-little}
use Rattle.message.proofs.Places.{field_under, event_under, same_event}

module _ (b : List ℕ) (long : length b ≡ 16) (bytes : Bytes b) where
  abbrev part : ℕ → ℕ → List ℕ
  part o r = take r (drop o b)

  length_part : (o r : ℕ) → o + r ≤ 16 → length (part o r) ≡ r
  length_part o r h = simp (length-take, length-drop) (omega arith)

  pub part_bytes : (o r : ℕ) → o + r ≤ 16 → Bytes (part o r)
  part_bytes o r h i = elim (cases_lt i r) [
    | inl l ↦ rw (get_or-take r (drop o b) i 0 l, get_or-drop o b i 0) (bytes (o + i))
    | inr l ↦ rw (get_or_past (part o r) i 0 (omega (arith, length_part o r h))) (omega arith)
  ]

  -- a field's bytes, from the number in them
  again : (o r : ℕ) → o + r ≤ 16 → bytes_of r (little (part o r)) ≡ part o r
  again o r h = subst (λ (n : ℕ). bytes_of n (little (part o r)) ≡ part o r) (length_part o r h) (bytes_of-little (part o r) (part_bytes o r h))

  join : (o r : ℕ) → part o r ++ drop (o + r) b ≡ drop o b
  join o r = ap (λ (t : List ℕ). part o r ++ t) (sym (drop-drop r o b)) ∙ take-append-drop r (drop o b)

  rest_filler : (a : ℕ) → a ≤ 16 → Zeros b a 16 → drop a b ≡ replicate (16 - a) 0
  rest_filler a h z =
      ext_get_or 0 (drop a b) (replicate (16 - a) 0)
      (simp (length-drop, length-replicate) (omega arith))
      (λ i l. let small : i < 16 - a = omega (arith, length-drop a b) in
      get_or-drop a b i 0 ∙ z (a + i) (omega arith) (omega arith) ∙ sym (get_or-replicate (16 - a) i 0 0 small))

  pub laid_again : (m : ℕ) → get_or b 0 0 ≡ m → fields_end m ≤ 16 → Zeros b (fields_end m) 16 → laid m (event_under m b) ≡ b
  laid_again m head end filler =
      let field-again : (n : ℕ) → offset m n + room m n ≤ 16 → bytes_of (room m n) (field_under m b n) ≡ part (offset m n) (room m n) = λ n h. again (offset m n) (room m n) h in
      let f0 = field-again 0 (omega arith) in
      let f1 = field-again 1 (omega arith) in
      let f2 = field-again 2 (omega arith) in
      let f3 = field-again 3 (omega arith) in
      let f4 = field-again 4 (omega arith) in
      let j0 = join (offset m 0) (room m 0) in
      let j1 = join (offset m 1) (room m 1) in
      let j2 = join (offset m 2) (room m 2) in
      let j3 = join (offset m 3) (room m 3) in
      let j4 = join (offset m 4) (room m 4) in
      let tail = rest_filler (fields_end m) end filler in
      let all : b ≡ get_or b 0 0 ∷ drop 1 b = drop-cons b 0 0 (omega arith) in
      simp append_assoc (cc)

-- a field that the map lacks is 0 already
lacking : (t : Bool) (s o : ℕ) (b : List ℕ) → cond t (little (take (cond t s 0) (drop o b))) 0 ≡ little (take (cond t s 0) (drop o b))
lacking true s o b = refl
lacking false s o b = refl

pub within_again : (m : ℕ) (b : List ℕ) → within m (event_under m b) ≡ event_under m b
within_again m b = same_event refl (lacking (stands m 1) 1 (offset m 1) b) (lacking (stands m 2) 2 (offset m 2) b) (lacking (stands m 3) 1 (offset m 3) b) (lacking (stands m 4) 8 (offset m 4) b)
