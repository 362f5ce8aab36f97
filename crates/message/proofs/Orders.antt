-- The refusal that the checks of reading find is the first whose condition holds.
use Rattle.std.proofs.Common.{◌≡◌, ℕ, ◌+◌, ◌<◌, ◌≤◌, true, false, List, length, get_or, Some, sym, refl, ap, ◌∙◌, subst, inl, inr, arith, lit<, rules}
use Rattle.std.proofs.lemmas.Bool.{cases_lt, cases_eq, cases_Bool}
use Rattle.std.proofs.lemmas.Bool.Decides.{nat_tests}
use Rattle.message.specs.Checks.{MapSound, Head, event_at, Decodes, NotDecoded}
use Rattle.message.specs.Faults.{message_code}
use Rattle.message.specs.Fields.{FieldRefused}
use Rattle.message.specs.Format.{stands, Stands, offset, fields_end, map_at, Zeros, FirstNonzero}
use Rattle.message.specs.Kinds.{kind_of, map_of, map_for}
use Rattle.message.specs.Reading.{event_of, MapRefused, Refused}
use Rattle.message.specs.Refusals.{Comes, NoneHolds}
use Rattle.message.specs.declared.events.Event.{Event}
use Rattle.message.specs.declared.faults.FieldFault.{FieldFault}
use Rattle.message.specs.declared.faults.FieldFault.TheVariants.{Thread, Address, Width, Unaligned}
use Rattle.message.specs.declared.faults.MessageFault.{MessageFault}
use Rattle.message.specs.declared.faults.MessageFault.TheVariants.{Length, Map, Kind, MapOfKind, Filler, Field, Value}
use Rattle.message.specs.declared.kinds.Kind as kinds
use Rattle.message.specs.declared.kinds.Kind.TheVariants.{Store}
use Rattle.message.proofs.FieldOrders.{map_known, FieldsPassed, fields_before, field_holds, field_late, field_most}
use Rattle.message.proofs.Places.{event_places, kind_place, value_offset, of_maps}

high_bit : (m n : ℕ) → m < 32 → 5 ≤ n → n ≤ 7 → Stands m n → ⊥
high_bit m n low five seven s =
    elim (cases_eq n 5) [
      | inl e ↦ at 5 e (grind (arith, nat_tests))
      | inr x ↦ elim (cases_eq n 6) [ inl e ↦ at 6 e (grind (arith, nat_tests)) | inr y ↦ at 7 (omega arith) (grind (arith, nat_tests)) ]
    ]
  where
    at : (j : ℕ) → n ≡ j → stands m j ≡ false → ⊥
    at j e f = let t : stands m j ≡ true = subst (λ (i : ℕ). Stands m i) e s in grind arith

sound_map : (m : ℕ) → MapSound m → MapRefused m → ⊥
sound_map m s (inl clear) = grind (arith, nat_tests)
sound_map m s (inr (n, five, seven, stood)) = high_bit m n s.1 five seven stood

refused_map : (m : ℕ) → m < 256 → (MapSound m → ⊥) → MapRefused m
refused_map m byte h = elim (cases_Bool (stands m 0)) [
  | inl odd ↦ elim (cases_lt m 128) [
    | inl small ↦ elim (cases_lt m 64) [
      | inl smaller ↦ inr (5, omega arith, omega arith, (let low : 32 ≤ m = elim (cases_lt m 32) [ inl l ↦ absurd (h (grind (arith, nat_tests), l)) | inr l ↦ l ] in grind (arith, nat_tests)))
      | inr l ↦ inr (6, omega arith, omega arith, grind (arith, nat_tests))
    ]
    | inr l ↦ inr (7, omega arith, omega arith, grind (arith, nat_tests))
  ]
  | inr even ↦ inl even
]

-- the checks of a smaller number than n have passed
pub record Passed (b : List ℕ) (k : kinds.Kind) (n : ℕ) : Type 0 where
  pub long : length b ≡ 16
  pub map : 2 < n → MapSound (get_or b 0 0)
  pub kind : 3 < n → kind_of (get_or b 1 0) ≡ Some k
  pub agrees : 4 < n → get_or b 0 0 ≡ map_of k
  pub filler : 5 < n → Zeros b (fields_end (map_of k)) 16
  pub fields : FieldsPassed k (event_at b) n
  pub beyond : 10 < n → Stands (map_of k) 4 → Zeros b (6 + get_or b 5 0) 14

module _ (b : List ℕ) (k : kinds.Kind) where
  abbrev Beyond : ℕ → Event → ℕ → Type 0
  Beyond m e i = Stands m 4 × FirstNonzero b (offset m 4 + e.width) (offset m 4 + 8) i

  -- a field's condition, by the offsets
  fields_at : (n : ℕ) → Passed b k n → 5 < n → (f : FieldFault) → FieldRefused (map_at b) (event_of b) f → FieldRefused (map_of k) (event_at b) f
  fields_at n p l f h =
      let e : event_of b ≡ event_at b = event_places b p.long k (p.agrees (omega arith)) (p.filler l) in
      let g : FieldRefused (map_of k) (event_of b) f = subst (λ (m : ℕ). FieldRefused m (event_of b) f) (p.agrees (omega arith)) h in
      subst (λ (x : Event). FieldRefused (map_of k) x f) e g

  -- the condition on the value bytes beyond the width, by the offsets
  value_beyond : (n : ℕ) → Passed b k n → 5 < n → (i : ℕ) → Refused b (Value i) → Stands (map_of k) 4 × FirstNonzero b (6 + get_or b 5 0) 14 i
  value_beyond n p l i h =
      let e : event_of b ≡ event_at b = event_places b p.long k (p.agrees (omega arith)) (p.filler l) in
      let g : Beyond (map_of k) (event_of b) i = subst (λ (m : ℕ). Beyond m (event_of b) i) (p.agrees (omega arith)) h in
      let f : Beyond (map_of k) (event_at b) i = subst (λ (x : Event). Beyond (map_of k) x i) e g in
      (f.0, subst (λ (o : ℕ). FirstNonzero b (o + get_or b 5 0) (o + 8) i) (value_offset k f.0) f.1)

  none_before : (n : ℕ) → Passed b k n → (g : MessageFault) → (message_code g).number < n → Refused b g → ⊥
  none_before n p Length l h = h p.long
  none_before n p Map l h = sound_map (get_or b 0 0) (p.map l) h
  none_before n p Kind l h =
      let e = kind_place b p.long (p.map (omega arith)).0 in
      let f = p.kind l in
      let z : ◌≡◌ {A = ℕ} 0 1 = cc in
      omega arith
  none_before n p MapOfKind l h =
      let e = kind_place b p.long (p.map (omega arith)).0 in
      h (ap map_for e ∙ map_known (get_or b 1 0) k (p.kind (omega arith)) ∙ sym (p.agrees l))
  none_before n p (Filler i) l h =
      h.nonzero (p.filler l i (subst (λ (m : ℕ). fields_end m ≤ i) (p.agrees (omega arith)) h.low) h.high)
  none_before n p (Field f) l h = fields_before k (event_at b) n p.fields f l (fields_at n p (omega (arith, field_late f)) f h)
  none_before n p (Value i) l h =
      let g = value_beyond n p (omega arith) i h in
      g.1.nonzero (p.beyond l g.0 i g.1.low g.1.high)

sound_of : (k : kinds.Kind) → MapSound (map_of k)
sound_of = of_maps MapSound (refl, lit< tt) (refl, lit< tt) (refl, lit< tt) (refl, lit< tt)

head_sound : (b : List ℕ) (k : kinds.Kind) → Head b k → MapSound (get_or b 0 0)
head_sound b k h = subst MapSound (sym h.1) (sound_of k)

-- the kind of the message, where the checks came to know it
abbrev kind_in : (b : List ℕ) (f : MessageFault) → NotDecoded b f → kinds.Kind
kind_in b Length r = Store
kind_in b Map r = Store
kind_in b Kind r = Store
kind_in b MapOfKind r = r.0
kind_in b (Filler i) r = r.0
kind_in b (Field f) r = r.0
kind_in b (Value i) r = r.0

passed : (b : List ℕ) → length b ≡ 16 → (f : MessageFault) (r : NotDecoded b f) → Passed b (kind_in b f r) (message_code f).number
passed b long Length r = absurd r
passed b long Map r = search rules
passed b long Kind r = search rules
passed b long MapOfKind r = search rules
passed b long (Filler i) r = let s = head_sound b r.0 r.1 in search rules
passed b long (Field Thread) r = let s = head_sound b r.0 r.1.0 in search rules
passed b long (Field Address) r = let s = head_sound b r.0 r.1.0 in search rules
passed b long (Field Width) r = let s = head_sound b r.0 r.1.0 in search rules
passed b long (Field Unaligned) r = let s = head_sound b r.0 r.1.0 in search rules
passed b long (Value i) r = let s = head_sound b r.0 r.1.0 in search rules

module _ (b : List ℕ) (long : length b ≡ 16) where
  -- the condition of a field or of the value, from the offsets
  module _ (k : kinds.Kind) (head : Head b k) (filler : Zeros b (fields_end (map_of k)) 16) where
    same : event_at b ≡ event_of b
    same = sym (event_places b long k head.1 filler)

    field-refused : (f : FieldFault) → FieldRefused (map_of k) (event_at b) f → FieldRefused (map_at b) (event_of b) f
    field-refused f h =
        let g : FieldRefused (map_of k) (event_of b) f = subst (λ (x : Event). FieldRefused (map_of k) x f) same h in
        subst (λ (m : ℕ). FieldRefused m (event_of b) f) (sym head.1) g

    value-refused : (i : ℕ) → Stands (map_of k) 4 → FirstNonzero b (6 + get_or b 5 0) 14 i → Refused b (Value i)
    value-refused i s h =
        let f : Beyond b k (map_of k) (event_at b) i = (s, subst (λ (o : ℕ). FirstNonzero b (o + get_or b 5 0) (o + 8) i) (sym (value_offset k s)) h) in
        let g : Beyond b k (map_of k) (event_of b) i = subst (λ (x : Event). Beyond b k (map_of k) x i) same f in
        subst (λ (m : ℕ). Beyond b k m (event_of b) i) (sym head.1) g

  module _ (byte : get_or b 0 0 < 256) where
    holds : (f : MessageFault) → NotDecoded b f → Refused b f
    holds Length r = absurd r
    holds Map r = refused_map (get_or b 0 0) byte r
    holds Kind r = ap kind_of (kind_place b long r.0.0) ∙ r.1
    holds MapOfKind r = λ e. r.3 (sym e ∙ ap map_for (kind_place b long r.1.0) ∙ map_known (get_or b 1 0) r.0 r.2)
    holds (Filler i) r = subst (λ (m : ℕ). FirstNonzero b (fields_end m) 16 i) (sym r.1.1) r.2
    holds (Field f) r = field-refused r.0 r.1.0 r.1.1 f (field_holds r.0 (event_at b) f r.2)
    holds (Value i) r = value-refused r.0 r.1.0 r.1.1 i r.3 r.4

    pub comes : (f : MessageFault) → NotDecoded b f → Comes (λ g. (message_code g).number) (Refused b) f
    comes f r = record { holds = holds f r; first = none_before b (kind_in b f r) (message_code f).number (passed b long f r) }

  below : (f : MessageFault) → (message_code f).number < 11
  below Length = lit< tt
  below Map = lit< tt
  below Kind = lit< tt
  below MapOfKind = lit< tt
  below (Filler i) = lit< tt
  below (Field f) = omega (arith, field_most f)
  below (Value i) = lit< tt

  pub decoded_passes : (k : kinds.Kind) → Decodes b k → Passed b k 11
  decoded_passes k d = let s = head_sound b k d.head in search rules

  pub none_holds : (k : kinds.Kind) → Decodes b k → NoneHolds (Refused b)
  none_holds k d f = none_before b k 11 (decoded_passes k d) f (below f)

  pub event_same : (k : kinds.Kind) → Decodes b k → event_at b ≡ event_of b
  event_same k d = same k d.head d.filler
