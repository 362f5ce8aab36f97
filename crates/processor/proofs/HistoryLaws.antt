-- What keeps the facts of all that has left.
use Rattle.std.proofs.Common.{◌≡◌, ℕ, ◌+◌, ◌<◌, ◌≤◌, true, false, cond, eqb, List, [], ◌∷◌, ◌++◌, length, sym, refl, ap, ◌∙◌, inl, inr, arith}
use Rattle.std.specs.List.{All}
use Rattle.std.proofs.lemmas.List.Elements.{filter-append, All-head, All-tail, All-push}
use Rattle.std.proofs.lemmas.List.Quantifiers.{all_pairs_push}
use Rattle.std.proofs.lemmas.List.{length_push, get_or_push, get_or_append_left, take-append-le, take_at}
use Rattle.std.proofs.lemmas.Bool.{cases_lt, eq-eqb, ne_eqb, cond-true, cond-false}
use Rattle.processor.specs.Departures.{of_run, count, departure}
use Rattle.processor.specs.History.{Past, closed, Dated, Recorded, Counts}
use Rattle.processor.specs.declared.departures.Departure.{Departure}
use Rattle.processor.specs.declared.entries.Entry.{Entry}

-- ── counts ──
-- one more of a run adds one to the count of that run
pub of_run_push : (r : ℕ) (D : List Departure) (d : Departure) → d.run ≡ r → of_run r (D ++ d ∷ []) ≡ of_run r D ++ d ∷ []
of_run_push r D d e = filter-append (λ x. eqb x.run r) D (d ∷ []) ∙ ap (λ (l : List Departure). of_run r D ++ l) (cond-true (eqb d.run r) (d ∷ []) [] (eq-eqb d.run r e))

-- and changes no other run
pub of_run_other : (r : ℕ) (D : List Departure) (d : Departure) → (d.run ≡ r → ⊥) → of_run r (D ++ d ∷ []) ≡ of_run r D ++ []
of_run_other r D d n = filter-append (λ x. eqb x.run r) D (d ∷ []) ∙ ap (λ (l : List Departure). of_run r D ++ l) (cond-false (eqb d.run r) (d ∷ []) [] (ne_eqb d.run r n))

pub count_few : (r : ℕ) (D : List Departure) → count r D ≤ length D
count_few r [] = omega arith
count_few r (d ∷ D) =
    let less = count_few r D in
    elim (eqb d.run r) as (λ b. length (cond b (d ∷ of_run r D) (of_run r D)) ≤ length (d ∷ D)) [ true ↦ omega arith | false ↦ omega arith ]

-- a run that has not begun
pub none_yet : (r : ℕ) (D : List Departure) → All (λ d. d.run < r) D → count r D ≡ 0
none_yet r [] h = refl
none_yet r (d ∷ D) h =
    let later = All-head (λ (x : Departure). x.run < r) d D h in
    ap (λ (l : List Departure). length l) (cond-false (eqb d.run r) (d ∷ of_run r D) (of_run r D) (ne_eqb d.run r (λ e. absurd (omega arith)))) ∙ none_yet r D (All-tail (λ (x : Departure). x.run < r) d D h)

-- ── the facts together ──
pub recorded_none : (run : ℕ) → Recorded run []
recorded_none run = record { placed = λ i d l. absurd (omega arith); in_turn = λ i j d l m. absurd (omega arith); dated = λ i d l. absurd (omega arith) }

pub recorded_later : (run : ℕ) (D : List Departure) → Recorded run D → Recorded (run + 1) D
recorded_later run D h = record { placed = λ i d l. let p = h.placed i d l in (omega (arith, p.0), p.1); in_turn = h.in_turn; dated = h.dated }

module _ (run : ℕ) (D : List Departure) (h : Recorded run D) (t : ℕ) (e : Entry) (four : t < 4) where
  abbrev new : Departure
  new = departure run D t e

  dated_push : Dated (D ++ new ∷ [])
  dated_push i d l = elim (cases_lt i (length D)) [
    | inl k ↦
        let at = get_or_append_left D (new ∷ []) d i k in
        let front = take-append-le i D (new ∷ []) (omega arith) in
        rw (at, front) (h.dated i d k)
    | inr k ↦
        let last : length D ≡ i = omega (arith, length_push D new) in
        let at = get_or_push D new d i last in
        let front = take_at D (new ∷ []) i last in
        rw (at, front) refl
  ]

  pub recorded_push : Recorded run (D ++ new ∷ [])
  recorded_push = record {
    placed = All-push (λ (d : Departure). (d.run ≤ run) × (d.thread < 4)) D new h.placed (omega arith, four);
    in_turn = all_pairs_push (λ (x y : Departure). x.run ≤ y.run) D new h.in_turn (λ i d l. (h.placed i d l).0);
    dated = dated_push;
  }

-- ── what the history keeps ──
pub counts-closed : (p : Past) (n : ℕ) → Counts p n → p.run < 4 → Counts (closed p) 0
counts-closed p n h l = record {
  within = omega arith;
  present = sym (none_yet (p.run + 1) p.left (λ i d l. omega (arith, (h.recorded.placed i d l).0)));
  recorded = recorded_later p.run p.left h.recorded;
}
