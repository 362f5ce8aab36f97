-- No floor and no mark passes the count of its run.
use Rattle.std.proofs.Common.{◌≡◌, ℕ, zero, suc, ◌+◌, ◌<◌, ◌≤◌, max, Bool, true, false, cond, ◌&&◌, eqb, List, [], ◌∷◌, ◌++◌, reverse, length, get_or, take, sym, refl, ap, ◌∙◌, subst, append-nil, add-one, arith}
use Rattle.std.specs.List.{AllByRecursion}
use Rattle.std.proofs.lemmas.List.Elements.{filter_more}
use Rattle.std.proofs.ByRecursion.{All-append, All-weaker}
use Rattle.std.proofs.lemmas.List.{reverse-append, length_push, take_all}
use Rattle.std.proofs.lemmas.Bool.{eqb-true}
use Rattle.processor.specs.Departures.{of_run, count, fences, writes, last_by, mark, set_after, set_mark, raised, floor_after, floor}
use Rattle.processor.specs.History.{Dated}
use Rattle.processor.specs.declared.departures.Departure.{Departure}
use Rattle.processor.specs.declared.entries.Entry.{Entry}
use Rattle.processor.specs.declared.entries.Entry.TheVariants.{Store, StrongFlush, WeakFlush, StoreFence}

-- ── where no moment passes k ──
abbrev pub Early : ℕ → List Departure → Type 0
Early k D = AllByRecursion (λ (d : Departure). d.moment ≤ k) D

last_by_early : (k t : ℕ) (test : Entry → Bool) (older : List Departure) → Early k older → last_by t test older ≤ k
last_by_early k t test [] h = omega arith
last_by_early k t test (d ∷ older) h =
    let rest = last_by_early k t test older h.1 in
    let here = h.0 in
    elim (eqb d.thread t && test d.entry) as (λ b. cond b d.moment (last_by t test older) ≤ k) [ true ↦ here | false ↦ rest ]

set_after_early : (k n : ℕ) (e : Entry) (s m : ℕ) → s ≤ k → m ≤ k → set_after n e s m ≤ k
set_after_early k n (Store x) s m p q = p
set_after_early k n (StrongFlush l) s m p q = p
set_after_early k n (WeakFlush l) s m p q = elim (eqb l n) as (λ b. cond b (max s m) s ≤ k) [ true ↦ omega arith | false ↦ p ]
set_after_early k n StoreFence s m p q = omega arith

pub set_mark_early : (k t n : ℕ) (older : List Departure) → Early k older → set_mark t n older ≤ k
set_mark_early k t n [] h = omega arith
set_mark_early k t n (d ∷ older) h =
    let rest = set_mark_early k t n older h.1 in
    let new : mark t n older ≤ k = omega (arith, last_by_early k t fences older h.1, last_by_early k t (writes n) older h.1) in
    let own = set_after_early k n d.entry (set_mark t n older) (mark t n older) rest new in
    elim (eqb d.thread t) as (λ b. cond b (set_after n d.entry (set_mark t n older) (mark t n older)) (set_mark t n older) ≤ k) [ true ↦ own | false ↦ rest ]

raised_early : (k n : ℕ) (e : Entry) (j s f : ℕ) → j ≤ k → s ≤ k → f ≤ k → raised n e j s f ≤ k
raised_early k n (Store x) j s f p q r = r
raised_early k n (StrongFlush l) j s f p q r = elim (eqb l n) as (λ b. cond b j f ≤ k) [ true ↦ p | false ↦ r ]
raised_early k n (WeakFlush l) j s f p q r = r
raised_early k n StoreFence j s f p q r = omega arith

pub floor_after_early : (k n : ℕ) (older : List Departure) → Early k older → floor_after n older ≤ k
floor_after_early k n [] h = omega arith
floor_after_early k n (d ∷ older) h =
    raised_early k n d.entry d.moment (set_mark d.thread n older) (floor_after n older) h.0 (set_mark_early k d.thread n older h.1) (floor_after_early k n older h.1)

-- ── moments that rise by one ──
pub early_reverse : (k : ℕ) (D : List Departure) → Early k D → Early k (reverse D)
early_reverse k [] h = tt
early_reverse k (d ∷ D) h = subst (Early k) (sym (reverse-append (d ∷ []) D)) (All-append (λ (x : Departure). x.moment ≤ k) (reverse D) (d ∷ []) (early_reverse k D h.1) (h.0, tt))

-- one more of the run, or of another one
early_more : (r : ℕ) (D : List Departure) (d : Departure) (b : Bool) → eqb d.run r ≡ b → d.moment ≡ count d.run D + 1 → Early (count r D) (of_run r D)
    → Early (length (of_run r D ++ cond b (d ∷ []) [])) (of_run r D ++ cond b (d ∷ []) [])
early_more r D d false e is h = subst (λ (x : List Departure). Early (length x) x) (sym (append-nil (of_run r D))) h
early_more r D d true e is h =
    let same : d.run ≡ r = eqb-true d.run r e in
    let last : d.moment ≡ count r D + 1 = is ∙ ap (λ j. count j D + 1) same in
    let more = length_push (of_run r D) d in
    All-append (λ (x : Departure). x.moment ≤ length (of_run r D ++ d ∷ [])) (of_run r D) (d ∷ [])
    (All-weaker (λ (x : Departure). x.moment ≤ count r D) (λ (x : Departure). x.moment ≤ length (of_run r D ++ d ∷ [])) (λ x l. omega arith) (of_run r D) h)
    (omega arith, tt)

-- what a look-up past the end gives
pub no_departure : Departure
no_departure = record { run = 0; moment = 0; thread = 0; entry = StoreFence }

abbrev pub left_at : List Departure → ℕ → Departure
left_at D i = get_or D i no_departure

pub of_run_next : (r : ℕ) (D : List Departure) (i : ℕ) → i < length D → of_run r (take (suc i) D) ≡ of_run r (take i D) ++ cond (eqb (left_at D i).run r) (left_at D i ∷ []) []
of_run_next r D i l = ap (λ j. of_run r (take j D)) (sym (add-one i)) ∙ filter_more (λ (x : Departure). eqb x.run r) D i no_departure l

pub early_front : (r : ℕ) (D : List Departure) → Dated D → (i : ℕ) → i ≤ length D → Early (count r (take i D)) (of_run r (take i D))
early_front r D h zero l = tt
early_front r D h (suc i) l =
    let d : Departure = left_at D i in
    subst (λ (x : List Departure). Early (length x) x) (sym (of_run_next r D i (omega arith))) (early_more r (take i D) d (eqb d.run r) refl (h i no_departure (omega arith)) (early_front r D h i (omega arith)))

early_run : (r : ℕ) (D : List Departure) → Dated D → Early (count r D) (of_run r D)
early_run r D h = subst (λ (x : List Departure). Early (count r x) (of_run r x)) (take_all (length D) D (omega arith)) (early_front r D h (length D) (omega arith))

pub floor_within : (r n : ℕ) (D : List Departure) → Dated D → floor r n D ≤ count r D
floor_within r n D h = floor_after_early (count r D) n (reverse (of_run r D)) (early_reverse (count r D) (of_run r D) (early_run r D h))

pub mark_within : (r t n : ℕ) (D : List Departure) → Dated D → set_mark t n (reverse (of_run r D)) ≤ count r D
mark_within r t n D h = set_mark_early (count r D) t n (reverse (of_run r D)) (early_reverse (count r D) (of_run r D) (early_run r D h))
