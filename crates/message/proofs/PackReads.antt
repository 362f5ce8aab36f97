-- What was packed reads as the event, with 0 in each field that its kind lacks.
use Rattle.std.proofs.Common.{◌≡◌, ℕ, ◌+◌, ◌-◌, ◌%◌, ◌^◌, ◌<◌, List, [], ◌∷◌, length, get_or, drop, replicate, Some, None, sym, refl, ap, ◌∙◌, subst, inl, inr, arith}
use native.Mathlib.Nat.{div-div-eq-div-mul}
use Rattle.std.proofs.lemmas.List.{get_or_past, get_or-drop, get_or-replicate, get_or_append_left}
use Rattle.std.proofs.lemmas.Bool.{cases_lt}
use Rattle.message.specs.Checks.{event_at, bytes_at, FieldsFit, ValueFits, Decodes}
use Rattle.message.specs.Fields.{IsWidth}
use Rattle.message.specs.Format.{Stands, fields_end, bytes_of, Zeros}
use Rattle.message.specs.Kinds.{kinds, kind_of, map_of}
use Rattle.message.specs.Packing.{within, laid}
use Rattle.message.specs.declared.events.Event.{Event}
use Rattle.message.specs.declared.kinds.Kind.{Kind}
use Rattle.message.proofs.Numbers.{little-bytes_of, length-bytes_of, bytes_beyond}
use Rattle.message.proofs.Places.{of_maps, of_full, event_under, same_event, event_places}

-- each field that a map has takes no more bytes than the message has for it
record Sized (m : ℕ) (e : Event) : Type 0 where
  pub kind : e.kind < 256
  pub thread : Stands m 1 → e.thread < 256
  pub address : Stands m 2 → e.address < 65536
  pub width : Stands m 3 → e.width < 256
  pub value : Stands m 4 → e.value < 18446744073709551616

kind_small : (n : ℕ) (k : Kind) → kind_of n ≡ Some k → n < 256
kind_small n k h = elim (cases_lt n 256) [
  | inl l ↦ l
  | inr l ↦ let none : kind_of n ≡ None = get_or_past kinds n None (omega arith) in let z : ◌≡◌ {A = ℕ} 0 1 = cc in absurd (omega arith)
]

width_small : (w v : ℕ) → IsWidth w → (w < 256) × (v < 256 ^ w → v < 18446744073709551616)
width_small w v (inl (inl h)) = (omega arith, λ b. let c : v < 256 ^ 1 = subst (λ (n : ℕ). v < 256 ^ n) h b in omega arith)
width_small w v (inl (inr h)) = (omega arith, λ b. let c : v < 256 ^ 2 = subst (λ (n : ℕ). v < 256 ^ n) h b in omega arith)
width_small w v (inr (inl h)) = (omega arith, λ b. let c : v < 256 ^ 4 = subst (λ (n : ℕ). v < 256 ^ n) h b in omega arith)
width_small w v (inr (inr h)) = (omega arith, λ b. subst (λ (n : ℕ). v < 256 ^ n) h b)

-- a kind that has a value has a width, and one that has a width has an address
placed : (k : Kind) → Stands (map_of k) 3 → Stands (map_of k) 2
placed = of_full 3 refl refl refl (λ m. Stands m 2) refl

wide : (k : Kind) → Stands (map_of k) 4 → Stands (map_of k) 3
wide = of_full 4 refl refl refl (λ m. Stands m 3) refl

sized : (e : Event) (k : Kind) → kind_of e.kind ≡ Some k → FieldsFit k e → ValueFits k e → Sized (map_of k) e
sized e k known f v = record {
  kind = kind_small e.kind k known;
  thread = λ s. omega (arith, f.thread s);
  address = λ s. omega (arith, f.address s);
  width = λ s. (width_small e.width 0 (f.width s)).0;
  value = λ s. (width_small e.width e.value (f.width (wide k s))).1 (v s);
}

zeros_tail : (b : List ℕ) (a n : ℕ) → drop a b ≡ replicate n 0 → Zeros b a (a + n)
zeros_tail b a n same k lo hi =
    let place : a + (k - a) ≡ k = omega arith in
    ap (λ (i : ℕ). get_or b i 0) (sym place) ∙ sym (get_or-drop a b (k - a) 0) ∙ ap (λ (t : List ℕ). get_or t (k - a) 0) same ∙ get_or-replicate n (k - a) 0 0 (omega arith)

module _ (e : Event) (k : Kind) (known : kind_of e.kind ≡ Some k) (f : FieldsFit k e) (v : ValueFits k e) where
  byte : (x : ℕ) → x < 256 → x ≡ x % 256
  byte x h = omega arith

  -- what holds of each of the four maps where the fields have their sizes
  of_sized : (P : ℕ → Type 0) → (Sized 31 e → P 31) → (Sized 7 e → P 7) → (Sized 3 e → P 3) → (Sized 1 e → P 1) → P (map_of k)
  of_sized P full placed threaded bare = of_maps (λ m. Sized m e → P m) full placed threaded bare k (sized e k known f v)

  -- the two ways to write a message
  pub laid_places : bytes_at (map_of k) (within (map_of k) e) ≡ laid (map_of k) e
  laid_places =
      let v2 = div-div-eq-div-mul e.value 256 256 in
      let v3 = div-div-eq-div-mul e.value 65536 256 in
      let v4 = div-div-eq-div-mul e.value 16777216 256 in
      let v5 = div-div-eq-div-mul e.value 4294967296 256 in
      let v6 = div-div-eq-div-mul e.value 1099511627776 256 in
      let v7 = div-div-eq-div-mul e.value 281474976710656 256 in
      of_sized (λ m. bytes_at m (within m e) ≡ laid m e)
      (λ s. cc (byte e.kind s.kind, byte e.thread (s.thread refl), byte e.width (s.width refl)))
      (λ s. cc (byte e.kind s.kind, byte e.thread (s.thread refl)))
      (λ s. cc (byte e.kind s.kind, byte e.thread (s.thread refl)))
      (λ s. cc (byte e.kind s.kind))

  -- the fields of the message
  pub read_back : event_under (map_of k) (laid (map_of k) e) ≡ within (map_of k) e
  read_back =
      let kind = little-bytes_of 1 e.kind in
      let thread = little-bytes_of 1 e.thread in
      let address = little-bytes_of 2 e.address in
      of_sized (λ m. event_under m (laid m e) ≡ within m e)
      (λ s. same_event (kind s.kind) (thread (s.thread refl)) (address (s.address refl)) (little-bytes_of 1 e.width (s.width refl)) (little-bytes_of 8 e.value (s.value refl)))
      (λ s. same_event (kind s.kind) (thread (s.thread refl)) (address (s.address refl)) refl refl)
      (λ s. same_event (kind s.kind) (thread (s.thread refl)) refl refl refl)
      (λ s. same_event (kind s.kind) refl refl refl refl)

  pub long : length (laid (map_of k) e) ≡ 16
  long = of_maps (λ m. length (laid m e) ≡ 16) refl refl refl refl k

  filler : Zeros (laid (map_of k) e) (fields_end (map_of k)) 16
  filler =
      of_maps (λ m. Zeros (laid m e) (fields_end m) 16)
      (zeros_tail (laid 31 e) 14 2 refl) (zeros_tail (laid 7 e) 5 11 refl) (zeros_tail (laid 3 e) 3 13 refl) (zeros_tail (laid 1 e) 2 14 refl) k

  kind_byte : get_or (laid (map_of k) e) 1 0 ≡ e.kind
  kind_byte =
      let same = sym (byte e.kind (kind_small e.kind k known)) in
      of_maps (λ m. get_or (laid m e) 1 0 ≡ e.kind) same same same same k

  beyond_width : Sized 31 e → e.value < 256 ^ e.width → Zeros (laid 31 e) (6 + get_or (laid 31 e) 5 0) 14
  beyond_width s small i lo hi =
      let w = byte e.width (s.width refl) in
      let place : 6 + (i - 6) ≡ i = omega arith in
      ap (λ (j : ℕ). get_or (laid 31 e) j 0) (sym place)
      ∙ sym (get_or-drop 6 (laid 31 e) (i - 6) 0)
      ∙ get_or_append_left (bytes_of 8 e.value) (0 ∷ 0 ∷ []) 0 (i - 6) (omega (arith, length-bytes_of 8 e.value))
      ∙ bytes_beyond 8 e.value e.width (i - 6) small (omega arith)

  beyond : Stands (map_of k) 4 → e.value < 256 ^ e.width → Zeros (laid (map_of k) e) (6 + get_or (laid (map_of k) e) 5 0) 14
  beyond s small =
      of_full 4 refl refl refl (λ m. Sized m e → Zeros (laid m e) (6 + get_or (laid m e) 5 0) 14) (λ z. beyond_width z small) k s (sized e k known f v)

  fits_within : FieldsFit k (within (map_of k) e)
  fits_within = record {
    thread = λ s. rw s (f.thread s);
    address = λ s. rw s (f.address s);
    width = λ s. rw s (f.width s);
    aligned = λ s. rw (s, placed k s) (f.aligned s);
  }

  pub decodes : Decodes (laid (map_of k) e) k
  decodes =
      let same : within (map_of k) e ≡ event_at (laid (map_of k) e) = sym read_back ∙ event_places (laid (map_of k) e) long k refl filler in
      record {
        head = (ap kind_of kind_byte ∙ known, refl);
        filler = filler;
        fields = subst (λ (x : Event). FieldsFit k x) same fits_within;
        beyond = λ s. beyond s (v s);
      }
