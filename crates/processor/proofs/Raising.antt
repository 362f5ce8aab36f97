-- The floor of a line is the largest moment to which anything raises it.
use Rattle.std.proofs.Common.{◌≡◌, ℕ, zero, suc, ◌+◌, ◌<◌, ◌≤◌, max, Bool, true, false, cond, eqb, ◌⊎◌, List, [], ◌∷◌, ◌++◌, reverse, length, take, sym, refl, ap, ◌∙◌, subst, inl, inr, ⊎_elim, append-nil, arith}
use Rattle.std.proofs.ByRecursion.{All-weaker}
use Rattle.std.proofs.lemmas.List.{reverse-append, take_all}
use Rattle.std.proofs.lemmas.Bool.{eqb-true, eq-eqb, ne_eqb, cases_eq, cases_lt, cond-true, cond-false}
use Rattle.processor.specs.Departures.{of_run, count, mark, set_after, set_mark, raised, floor_after}
use Rattle.processor.specs.Floors.{Fenced, Raises, Largest}
use Rattle.processor.specs.History.{Dated}
use Rattle.processor.specs.declared.departures.Departure.{Departure}
use Rattle.processor.specs.declared.entries.Entry.{Entry}
use Rattle.processor.specs.declared.entries.Entry.TheVariants.{Store, StrongFlush, WeakFlush, StoreFence}
use Rattle.processor.proofs.FloorLaws.{no_departure, left_at, Early, floor_after_early, early_reverse, early_front, of_run_next}

-- no moment passes a newer one
abbrev pub Falls : List Departure → Type 0
Falls [] = Unit {0}
Falls (d ∷ older) = Early d.moment older × Falls older

-- ── one more ──
raises_more : (n k : ℕ) (h : List Departure) (d : Departure) → Raises n k h → Raises n k (d ∷ h)
raises_more n k h d r = record {
  newer = d ∷ r.newer;
  flush = r.flush;
  older = r.older;
  stands = ap (λ (x : List Departure). d ∷ x) r.stands;
  by = ⊎_elim (λ p. inl p) (λ p. inr (p.0, p.1, inr p.2)) r.by;
}

-- the floor does not fall
raised_up : (n : ℕ) (e : Entry) (j s f : ℕ) → f ≤ j → f ≤ raised n e j s f
raised_up n (Store x) j s f l = omega arith
raised_up n (StrongFlush k) j s f l = elim (eqb k n) as (λ b. f ≤ cond b j f) [ true ↦ l | false ↦ omega arith ]
raised_up n (WeakFlush k) j s f l = omega arith
raised_up n StoreFence j s f l = omega arith

floor_up : (n : ℕ) (d : Departure) (h : List Departure) → Falls (d ∷ h) → floor_after n h ≤ floor_after n (d ∷ h)
floor_up n d h falls = raised_up n d.entry d.moment (set_mark d.thread n h) (floor_after n h) (floor_after_early d.moment n h falls.0)

-- ── the flush set ──
-- the mark of a weak flush is in the set until its thread fences
set_keeps : (n : ℕ) (e : Entry) (s m : ℕ) → (e ≡ StoreFence → ⊥) → s ≤ set_after n e s m
set_keeps n (Store x) s m apart = omega arith
set_keeps n (StrongFlush k) s m apart = omega arith
set_keeps n (WeakFlush k) s m apart = elim (eqb k n) as (λ b. s ≤ cond b (max s m) s) [ true ↦ omega arith | false ↦ omega arith ]
set_keeps n StoreFence s m apart = absurd (apart refl)

is_fence : (e : Entry) → (e ≡ StoreFence) ⊎ (e ≡ StoreFence → ⊥)
is_fence (Store x) = inr (λ e. absurd (let z : ◌≡◌ {A = ℕ} 0 1 = cc in omega arith))
is_fence (StrongFlush k) = inr (λ e. absurd (let z : ◌≡◌ {A = ℕ} 0 1 = cc in omega arith))
is_fence (WeakFlush k) = inr (λ e. absurd (let z : ◌≡◌ {A = ℕ} 0 1 = cc in omega arith))
is_fence StoreFence = inl refl

module _ (n : ℕ) (w : Departure) (older : List Departure) (weak : w.entry ≡ WeakFlush n) where
  in_set : mark w.thread n older ≤ set_mark w.thread n (w ∷ older)
  in_set =
      let own : eqb w.thread w.thread ≡ true = eq-eqb w.thread w.thread refl in
      let same : eqb n n ≡ true = eq-eqb n n refl in
      let m : ℕ = mark w.thread n older in
      let s : ℕ = set_mark w.thread n older in
      let a : set_mark w.thread n (w ∷ older) ≡ set_after n w.entry s m = cond-true (eqb w.thread w.thread) (set_after n w.entry s m) s own in
      let b : set_after n w.entry s m ≡ set_after n (WeakFlush n) s m = ap (λ (x : Entry). set_after n x s m) weak in
      let c : set_after n (WeakFlush n) s m ≡ max s m = cond-true (eqb n n) (max s m) s same in
      omega arith

  -- what is newer keeps it, or its thread has fenced
  still_set : (newer : List Departure) → (mark w.thread n older ≤ set_mark w.thread n (newer ++ w ∷ older)) ⊎ Fenced w.thread newer
  still_set [] = inl in_set
  still_set (d ∷ newer) = elim (still_set newer) [
    | inr f ↦ inr (inr f)
    | inl l ↦ elim (cases_eq d.thread w.thread) [
      | inr other ↦
          let e = cond-false (eqb d.thread w.thread) (set_after n d.entry (set_mark w.thread n (newer ++ w ∷ older)) (mark w.thread n (newer ++ w ∷ older))) (set_mark w.thread n (newer ++ w ∷ older)) (ne_eqb d.thread w.thread other) in
          inl (omega arith)
      | inl own ↦ elim (is_fence d.entry) [
        | inl fence ↦ inr (inl (own, fence))
        | inr apart ↦
            let e = cond-true (eqb d.thread w.thread) (set_after n d.entry (set_mark w.thread n (newer ++ w ∷ older)) (mark w.thread n (newer ++ w ∷ older))) (set_mark w.thread n (newer ++ w ∷ older)) (eq-eqb d.thread w.thread own) in
            let k = set_keeps n d.entry (set_mark w.thread n (newer ++ w ∷ older)) (mark w.thread n (newer ++ w ∷ older)) apart in
            inl (omega arith)
      ]
    ]
  ]

-- ── nothing raises it higher ──
head_of : (x : List Departure) (d e : Departure) (y : List Departure) → d ∷ x ≡ e ∷ y → (d ≡ e) × (x ≡ y)
head_of x d e y p = (cc, cc)

above : (n k : ℕ) (h : List Departure) → Falls h → (newer : List Departure) (w : Departure) (older : List Departure) → h ≡ newer ++ w ∷ older
    → ((w.entry ≡ StrongFlush n) × (k ≡ w.moment)) ⊎ ((w.entry ≡ WeakFlush n) × (k ≡ mark w.thread n older) × Fenced w.thread newer)
    → k ≤ floor_after n h
above n k [] falls [] w older e b = absurd (let z : ◌≡◌ {A = ℕ} 0 1 = cc in omega arith)
above n k [] falls (d ∷ newer) w older e b = absurd (let z : ◌≡◌ {A = ℕ} 0 1 = cc in omega arith)
above n k (d ∷ h) falls [] w older e (inr b) = absurd b.2
above n k (d ∷ h) falls [] w older e (inl b) =
    let same = (head_of h d w older e).0 in
    let strong : d.entry ≡ StrongFlush n = ap (λ (x : Departure). x.entry) same ∙ b.0 in
    let s : ℕ = set_mark d.thread n h in
    let f : ℕ = floor_after n h in
    let here : floor_after n (d ∷ h) ≡ d.moment = ap (λ (x : Entry). raised n x d.moment s f) strong ∙ cond-true (eqb n n) d.moment f (eq-eqb n n refl) in
    omega (arith, ap (λ (x : Departure). x.moment) same, b.1)
above n k (d ∷ h) falls (c ∷ newer) w older e (inl b) =
    omega (arith, above n k h falls.1 newer w older (head_of h d c (newer ++ w ∷ older) e).1 (inl b), floor_up n d h falls)
above n k (d ∷ h) falls (c ∷ newer) w older e (inr (weak, is, inr f)) =
    omega (arith, above n k h falls.1 newer w older (head_of h d c (newer ++ w ∷ older) e).1 (inr (weak, is, f)), floor_up n d h falls)
above n k (d ∷ h) falls (c ∷ newer) w older e (inr (weak, is, inl (own, fence))) =
    let same = head_of h d c (newer ++ w ∷ older) e in
    let rest = above n k h falls.1 newer w older same.1 in
    elim (still_set n w older weak newer) [
      | inr f ↦ omega (arith, rest (inr (weak, is, f)), floor_up n d h falls)
      | inl l ↦
          let t : d.thread ≡ w.thread = ap (λ (x : Departure). x.thread) same.0 ∙ own in
          let s : set_mark d.thread n h ≡ set_mark w.thread n (newer ++ w ∷ older) = ap (λ j. set_mark j n h) t ∙ ap (λ (x : List Departure). set_mark w.thread n x) same.1 in
          let f : floor_after n (d ∷ h) ≡ max (floor_after n h) (set_mark d.thread n h) = ap (λ (x : Entry). raised n x d.moment (set_mark d.thread n h) (floor_after n h)) (ap (λ (x : Departure). x.entry) same.0 ∙ fence) in
          omega arith
    ]

-- ── something raises it that high ──
-- a weak flush in the set, with its mark
record InSet (t n k : ℕ) (h : List Departure) : Type 0 where
  newer : List Departure
  flush : Departure
  older : List Departure
  stands : h ≡ newer ++ flush ∷ older
  weak : flush.entry ≡ WeakFlush n
  own : flush.thread ≡ t
  is : k ≡ mark t n older

abbrev SetBy : ℕ → ℕ → ℕ → List Departure → Type 0
SetBy t n k h = (k ≡ 0) ⊎ InSet t n k h

set_same : (t n s k : ℕ) (h : List Departure) (d : Departure) → k ≡ s → SetBy t n s h → SetBy t n k (d ∷ h)
set_same t n s k h d e (inl z) = inl (e ∙ z)
set_same t n s k h d e (inr r) = inr (record { newer = d ∷ r.newer; flush = r.flush; older = r.older; stands = ap (λ (x : List Departure). d ∷ x) r.stands; weak = r.weak; own = r.own; is = e ∙ r.is })

set_weak : (t n : ℕ) (h : List Departure) (d : Departure) (l : ℕ) (b : Bool) → eqb l n ≡ b → d.entry ≡ WeakFlush l → d.thread ≡ t → (s k : ℕ) → SetBy t n s h → k ≡ cond b (max s (mark t n h)) s → SetBy t n k (d ∷ h)
set_weak t n h d l false e is own s k before eq = set_same t n s k h d eq before
set_weak t n h d l true e is own s k before eq = elim (cases_lt s (mark t n h)) [
  | inr above ↦ set_same t n s k h d (omega arith) before
  | inl below ↦ inr (record { newer = []; flush = d; older = h; stands = refl; weak = is ∙ ap (λ j. WeakFlush j) (eqb-true l n e); own = own; is = omega arith })
]

-- what an entry of the thread leaves in its set
set_own : (t n : ℕ) (h : List Departure) (d : Departure) (e : Entry) → d.entry ≡ e → d.thread ≡ t → (s k : ℕ) → SetBy t n s h → k ≡ set_after n e s (mark t n h) → SetBy t n k (d ∷ h)
set_own t n h d (Store x) is own s k before eq = set_same t n s k h d eq before
set_own t n h d (StrongFlush l) is own s k before eq = set_same t n s k h d eq before
set_own t n h d (WeakFlush l) is own s k before eq = set_weak t n h d l (eqb l n) refl is own s k before eq
set_own t n h d StoreFence is own s k before eq = inl eq

set_one : (t n : ℕ) (h : List Departure) (d : Departure) (b : Bool) → eqb d.thread t ≡ b → (k : ℕ) → SetBy t n (set_mark t n h) h → k ≡ cond b (set_after n d.entry (set_mark t n h) (mark t n h)) (set_mark t n h) → SetBy t n k (d ∷ h)
set_one t n h d true e k before eq = set_own t n h d d.entry refl (eqb-true d.thread t e) (set_mark t n h) k before eq
set_one t n h d false e k before eq = set_same t n (set_mark t n h) k h d eq before

in_the_set : (t n : ℕ) (h : List Departure) → SetBy t n (set_mark t n h) h
in_the_set t n [] = inl refl
in_the_set t n (d ∷ h) = set_one t n h d (eqb d.thread t) refl (set_mark t n (d ∷ h)) (in_the_set t n h) refl

abbrev RaisedBy : ℕ → ℕ → List Departure → Type 0
RaisedBy n k h = (k ≡ 0) ⊎ Raises n k h

floor_same : (n f k : ℕ) (h : List Departure) (d : Departure) → k ≡ f → RaisedBy n f h → RaisedBy n k (d ∷ h)
floor_same n f k h d e (inl z) = inl (e ∙ z)
floor_same n f k h d e (inr r) = inr (subst (λ j. Raises n j (d ∷ h)) (sym e) (raises_more n f h d r))

floor_strong : (n : ℕ) (h : List Departure) (d : Departure) (l : ℕ) (b : Bool) → eqb l n ≡ b → d.entry ≡ StrongFlush l → (f k : ℕ) → RaisedBy n f h → k ≡ cond b d.moment f → RaisedBy n k (d ∷ h)
floor_strong n h d l true e is f k before eq = inr (record { newer = []; flush = d; older = h; stands = refl; by = inl (is ∙ ap (λ j. StrongFlush j) (eqb-true l n e), eq) })
floor_strong n h d l false e is f k before eq = floor_same n f k h d eq before

floor_fence : (n : ℕ) (h : List Departure) (d : Departure) → d.entry ≡ StoreFence → (f s k : ℕ) → RaisedBy n f h → SetBy d.thread n s h → f < s → k ≡ max f s → RaisedBy n k (d ∷ h)
floor_fence n h d is f s k before (inl z) l eq = absurd (omega arith)
floor_fence n h d is f s k before (inr r) l eq =
    let k-is : k ≡ s = omega arith in
    inr (record {
      newer = d ∷ r.newer;
      flush = r.flush;
      older = r.older;
      stands = ap (λ (x : List Departure). d ∷ x) r.stands;
      by = inr (r.weak, k-is ∙ (r.is ∙ ap (λ j. mark j n r.older) (sym r.own)), inl (sym r.own, is));
    })

floor_one : (n : ℕ) (h : List Departure) (d : Departure) (e : Entry) → d.entry ≡ e → (f s k : ℕ) → RaisedBy n f h → SetBy d.thread n s h → k ≡ raised n e d.moment s f → RaisedBy n k (d ∷ h)
floor_one n h d (Store x) is f s k before set eq = floor_same n f k h d eq before
floor_one n h d (StrongFlush l) is f s k before set eq = floor_strong n h d l (eqb l n) refl is f k before eq
floor_one n h d (WeakFlush l) is f s k before set eq = floor_same n f k h d eq before
floor_one n h d StoreFence is f s k before set eq = elim (cases_lt f s) [
  | inl l ↦ floor_fence n h d is f s k before set l eq
  | inr l ↦ floor_same n f k h d (omega arith) before
]

reached : (n : ℕ) (h : List Departure) → RaisedBy n (floor_after n h) h
reached n [] = inl refl
reached n (d ∷ h) = floor_one n h d d.entry refl (floor_after n h) (set_mark d.thread n h) (floor_after n (d ∷ h)) (reached n h) (in_the_set d.thread n h) refl

largest : (n : ℕ) (h : List Departure) → Falls h → Largest n h
largest n h falls = record { above = λ k r. above n k h falls r.newer r.flush r.older r.stands r.by; reached = reached n h }

-- ── a run ──
falls_more : (r : ℕ) (D : List Departure) (d : Departure) (b : Bool) → eqb d.run r ≡ b → d.moment ≡ count d.run D + 1 → Early (count r D) (of_run r D) → Falls (reverse (of_run r D))
    → Falls (reverse (of_run r D ++ cond b (d ∷ []) []))
falls_more r D d false e is early h = subst (λ (x : List Departure). Falls (reverse x)) (sym (append-nil (of_run r D))) h
falls_more r D d true e is early h =
    let last : d.moment ≡ count r D + 1 = is ∙ ap (λ j. count j D + 1) (eqb-true d.run r e) in
    subst Falls (sym (reverse-append (of_run r D) (d ∷ [])))
    (early_reverse d.moment (of_run r D) (All-weaker (λ (x : Departure). x.moment ≤ count r D) (λ (x : Departure). x.moment ≤ d.moment) (λ x l. omega arith) (of_run r D) early), h)

falls_front : (r : ℕ) (D : List Departure) → Dated D → (i : ℕ) → i ≤ length D → Falls (reverse (of_run r (take i D)))
falls_front r D h zero l = tt
falls_front r D h (suc i) l =
    let d : Departure = left_at D i in
    subst (λ (x : List Departure). Falls (reverse x)) (sym (of_run_next r D i (omega arith))) (falls_more r (take i D) d (eqb d.run r) refl (h i no_departure (omega arith)) (early_front r D h i (omega arith)) (falls_front r D h i (omega arith)))

pub largest-floor : (r n : ℕ) (D : List Departure) → Dated D → Largest n (reverse (of_run r D))
largest-floor r n D h = largest n (reverse (of_run r D)) (subst (λ (x : List Departure). Falls (reverse (of_run r x))) (take_all (length D) D (omega arith)) (falls_front r D h (length D) (omega arith)))
