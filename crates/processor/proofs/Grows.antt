-- What left and the kept loads only grow, closed runs stay, and so do other threads' rows.
use Rattle.std.proofs.Common.{◌≡◌, ℕ, zero, suc, ◌≤◌, eqb, List, [], ◌∷◌, ◌++◌, reverse, length, sym, refl, ap, ◌∙◌, append_assoc, append-nil, arith}
use Rattle.std.proofs.lemmas.List.{get_or-set_other, reverse-append}
use Rattle.std.proofs.lemmas.Bool.{ne_eqb, cond-false}
use Rattle.processor.specs.Departures.{of_run, departure, mark, set_after, set_mark, flush_set}
use Rattle.processor.specs.Growth.{Grown, OthersStay}
use Rattle.processor.specs.Machine.{Machine, row, with_row, entered, acted, drained_from, drained_by, fenced, kept, cut, counted}
use Rattle.processor.specs.Operations.{step}
use Rattle.processor.specs.Sources.{load_of}
use Rattle.processor.specs.declared.departures.Departure.{Departure}
use Rattle.processor.specs.declared.entries.Entry.{Entry}
use Rattle.processor.specs.declared.entries.Entry.TheVariants.{StoreFence}
use Rattle.processor.specs.declared.loads.Load.{Load}
use Rattle.processor.specs.declared.operations.Operation.{Operation}
use Rattle.processor.specs.declared.operations.Operation.TheVariants.{Enter, Drain, FullFence, PowerCut}
use Rattle.processor.specs.declared.operations.Operation.TheVariants as asked
use Rattle.processor.proofs.HistoryLaws.{of_run_push, of_run_other}

-- ── growth ──
pub grown_trans : (x y z : Machine) → Grown x y → Grown y z → Grown x z
grown_trans x y z p q = record {
  runs = omega (arith, p.runs, q.runs);
  newly_left = p.newly_left ++ q.newly_left;
  left = q.left ∙ ap (λ D. D ++ q.newly_left) p.left ∙ append_assoc x.left p.newly_left q.newly_left;
  closed = λ r l. q.closed r (omega (arith, p.runs)) ∙ p.closed r l;
  new_loads = p.new_loads ++ q.new_loads;
  loads = q.loads ∙ ap (λ L. L ++ q.new_loads) p.loads ∙ append_assoc x.loads p.new_loads q.new_loads;
}

-- where nothing left and no load was kept
pub grown_same : (x y : Machine) → x.run ≤ y.run → y.left ≡ x.left → y.loads ≡ x.loads → Grown x y
grown_same x y l e f = record {
  runs = l;
  newly_left = [];
  left = e ∙ sym (append-nil x.left);
  closed = λ r _. ap (of_run r) e;
  new_loads = [];
  loads = f ∙ sym (append-nil x.loads);
}

grown_acted : (t : ℕ) (e : Entry) (m : Machine) → Grown m (acted t e m)
grown_acted t e m =
    let d : Departure = departure m.run m.left t e in
    record {
      runs = omega arith;
      newly_left = d ∷ [];
      left = refl;
      closed = λ r l. of_run_other r m.left d (λ z. absurd (let same : m.run ≡ r = z in omega arith)) ∙ append-nil (of_run r m.left);
      new_loads = [];
      loads = sym (append-nil m.loads);
    }

grown_drained : (es : List Entry) (t : ℕ) (m : Machine) → Grown m (drained_from es t m)
grown_drained [] t m = grown_same m m (omega arith) refl refl
grown_drained (e ∷ es) t m = grown_trans m (with_row t es m) (acted t e (with_row t es m)) (grown_same m (with_row t es m) (omega arith) refl refl) (grown_acted t e (with_row t es m))

grown_drained_by : (n t : ℕ) (m : Machine) → Grown m (drained_by n t m)
grown_drained_by zero t m = grown_same m m (omega arith) refl refl
grown_drained_by (suc n) t m = grown_trans m (drained_by n t m) (drained_by (suc n) t m) (grown_drained_by n t m) (grown_drained (row (drained_by n t m) t) t (drained_by n t m))

grown_kept : (l : Load) (m : Machine) → Grown m (kept l m)
grown_kept l m = record {
  runs = omega arith;
  newly_left = [];
  left = sym (append-nil m.left);
  closed = λ r _. refl;
  new_loads = l ∷ [];
  loads = refl;
}

grown_step : (o : Operation) (m : Machine) → Grown m (step o m)
grown_step (Enter t e) m = grown_same m (entered t e m) (omega arith) refl refl
grown_step (Drain t) m = grown_drained (row m t) t m
grown_step (FullFence t) m =
    let n : ℕ = length (row m t) in
    grown_trans m (drained_by n t m) (fenced t m) (grown_drained_by n t m) (grown_acted t StoreFence (drained_by n t m))
grown_step (asked.Load t x) m = grown_kept (load_of m t x) m
grown_step PowerCut m = grown_same m (cut m) (omega arith) refl refl

pub grown_counted : (o : Operation) (m : Machine) → Grown m (counted (step o m))
grown_counted o m = grown_trans m (step o m) (counted (step o m)) (grown_step o m) (grown_same (step o m) (counted (step o m)) (omega arith) refl refl)

-- ── other threads ──
-- what thread k has in run r is as it was
abbrev Same : ℕ → Machine → Machine → Type 0
Same k x y = (y.run ≡ x.run) × (row y k ≡ row x k) × ((n : ℕ) → flush_set x.run k n y.left ≡ flush_set x.run k n x.left)

same_trans : (k : ℕ) (x y z : Machine) → Same k x y → Same k y z → Same k x z
same_trans k x y z p q = (q.0 ∙ p.0, q.1 ∙ p.1, λ n. ap (λ r. flush_set r k n z.left) (sym p.0) ∙ (q.2 n ∙ (ap (λ r. flush_set r k n y.left) p.0 ∙ p.2 n)))

same_row : (t k : ℕ) (es : List Entry) (m : Machine) → (k ≡ t → ⊥) → Same k m (with_row t es m)
same_row t k es m ne = (refl, get_or-set_other m.waits t k es [] ne, λ n. refl)

same_acted : (t k : ℕ) (e : Entry) (m : Machine) → (k ≡ t → ⊥) → Same k m (acted t e m)
same_acted t k e m ne = (
  refl,
  refl,
  λ n.
      let d : Departure = departure m.run m.left t e in
      let older : List Departure = reverse (of_run m.run m.left) in
      let back : reverse (of_run m.run (m.left ++ d ∷ [])) ≡ d ∷ older = ap (λ (x : List Departure). reverse x) (of_run_push m.run m.left d refl) ∙ reverse-append (of_run m.run m.left) (d ∷ []) in
      ap (λ (x : List Departure). set_mark k n x) back ∙ cond-false (eqb t k) (set_after n e (set_mark k n older) (mark k n older)) (set_mark k n older) (ne_eqb t k (λ z. ne (sym z))),
)

same_drained : (es : List Entry) (t k : ℕ) (m : Machine) → (k ≡ t → ⊥) → Same k m (drained_from es t m)
same_drained [] t k m ne = (refl, refl, λ n. refl)
same_drained (e ∷ es) t k m ne = same_trans k m (with_row t es m) (acted t e (with_row t es m)) (same_row t k es m ne) (same_acted t k e (with_row t es m) ne)

same_drained_by : (n t k : ℕ) (m : Machine) → (k ≡ t → ⊥) → Same k m (drained_by n t m)
same_drained_by zero t k m ne = (refl, refl, λ n. refl)
same_drained_by (suc n) t k m ne = same_trans k m (drained_by n t m) (drained_by (suc n) t m) (same_drained_by n t k m ne) (same_drained (row (drained_by n t m) t) t k (drained_by n t m) ne)

same_fenced : (t k : ℕ) (m : Machine) → (k ≡ t → ⊥) → Same k m (fenced t m)
same_fenced t k m ne =
    let n : ℕ = length (row m t) in
    same_trans k m (drained_by n t m) (fenced t m) (same_drained_by n t k m ne) (same_acted t k StoreFence (drained_by n t m) ne)

pub others_stay : (o : Operation) (m : Machine) → OthersStay o m
others_stay (Enter t e) m k ne = let s = same_row t k (row m t ++ e ∷ []) m ne in (s.1, s.2)
others_stay (Drain t) m k ne = let s = same_drained (row m t) t k m ne in (s.1, s.2)
others_stay (FullFence t) m k ne = let s = same_fenced t k m ne in (s.1, s.2)
others_stay (asked.Load t x) m k ne = (refl, λ n. refl)
others_stay PowerCut m k ne = absurd (ne tt)
