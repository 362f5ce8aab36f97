-- What the processor keeps with every step.
use Rattle.std.proofs.Common.{◌≡◌, ℕ, ◌<◌, ◌≤◌, List, [], ◌∷◌, ◌++◌, length, get_or, set, replicate, Ok, Err, Result, MatchResult, sym, refl, ap, ◌∙◌, subst, inl, inr, arith}
use Rattle.std.proofs.lemmas.List.Elements.{All-push}
use Rattle.std.proofs.lemmas.List.{get_or_past, get_or-replicate, get_or-set_same, get_or-set_other, set_past, length-set, length_push}
use Rattle.std.proofs.lemmas.Bool.{cases_eq, cases_lt}
use Rattle.tables.specs.declared.full.Full.{Full}
use Rattle.processor.specs.Departures.{departure}
use Rattle.processor.specs.Machine.{Machine, machine_with, row, opened, with_row, entered, acted, kept, cut}
use Rattle.processor.specs.Memory.{InLine}
use Rattle.processor.specs.Sound.{Facts}
use Rattle.processor.specs.Waiting.{total}
use Rattle.processor.specs.declared.entries.Entry.{Entry}
use Rattle.processor.specs.declared.loads.Load.{Load}
use Rattle.processor.proofs.Bounds.{total_few, bound_leaves, bound-entered, bound-kept, bound-cut}

-- ── rows ──
pub at_set : {X : Type 0} (xs : List X) (r : ℕ) (v d : X) (P : X → Type 0) (k : ℕ) → P v → P (get_or xs k d) → P (get_or (set xs r v) k d)
at_set xs r v d P k here other = elim (cases_eq k r) [
  | inl e ↦ elim (cases_lt r (length xs)) [
    | inl l ↦ subst P (sym (ap (λ j. get_or (set xs r v) j d) e ∙ get_or-set_same xs r v d l)) here
    | inr l ↦ subst (λ ys. P (get_or ys k d)) (sym (set_past xs r v l)) other
  ]
  | inr e ↦ subst P (sym (get_or-set_other xs r k v d e)) other
]

rows_set : (W : List (List Entry)) (t : ℕ) (es : List Entry) → length es ≤ 8 → ((k : ℕ) → length (get_or W k []) ≤ 8) → (k : ℕ) → length (get_or (set W t es) k []) ≤ 8
rows_set W t es l h k = at_set W t es [] (λ r. length r ≤ 8) k l (h k)

pub no_rows : (t : ℕ) → get_or {A = List Entry} (replicate 4 []) t [] ≡ []
no_rows t = elim (cases_lt t 4) [
  | inl l ↦ get_or-replicate {A = List Entry} 4 t [] [] l
  | inr l ↦ get_or_past {X = List Entry} (replicate 4 []) t [] l
]

none_long : (t : ℕ) → length (get_or {A = List Entry} (replicate 4 []) t []) ≤ 8
none_long t = omega (arith, ap (λ (r : List Entry). length r) (no_rows t))

module _ (m : Machine) (f : Facts m) where
  pub few_wait : total m.waits ≤ 32
  few_wait = omega (arith, total_few 8 m.waits f.rows, f.four)

  -- ── an entry acts, and the oldest leaves ──
  pub acted-facts : (t : ℕ) (e : Entry) → length m.left < 512 → Facts (acted t e m)
  acted-facts t e room =
      let more = length_push m.left (departure m.run m.left t e) in
      record { loaded = f.loaded; counted = omega (arith, f.counted); four = f.four; cuts = f.cuts; moments = omega arith; rows = f.rows; loads = f.loads }

  pub leave_facts : (t : ℕ) (e : Entry) (es : List Entry) → row m t ≡ e ∷ es → length m.left < 512 → Facts (acted t e (with_row t es m))
  leave_facts t e es w room = record {
    loaded = f.loaded;
    counted = omega (arith, bound_leaves m t e es w, f.counted);
    four = length-set m.waits t es ∙ f.four;
    cuts = f.cuts;
    moments = omega (arith, length_push m.left (departure m.run m.left t e));
    rows = rows_set m.waits t es (omega (arith, ap (λ (l : List Entry). length l) w, f.rows t)) f.rows;
    loads = f.loads;
  }

  -- ── an entry enters, a load is kept ──
  pub entered-facts : (t : ℕ) (e : Entry) → t < 4 → length (row m t) < 8 → Facts (entered t e m)
  entered-facts t e l room = record {
    loaded = f.loaded;
    counted = omega (arith, f.counted, bound-entered t e m (omega (arith, f.four)));
    four = length-set m.waits t (row m t ++ e ∷ []) ∙ f.four;
    cuts = f.cuts;
    moments = f.moments;
    rows = rows_set m.waits t (row m t ++ e ∷ []) (omega (arith, length_push (row m t) e)) f.rows;
    loads = f.loads;
  }

  pub kept-facts : (l : Load) → l.run ≤ m.run → InLine l.access → length m.loads < 256 → Facts (kept l m)
  kept-facts l p q room = record {
    loaded = All-push (λ (x : Load). (x.run ≤ m.run) × InLine x.access) m.loads l f.loaded (p, q);
    counted = omega (arith, f.counted, bound-kept l m);
    four = f.four;
    cuts = f.cuts;
    moments = f.moments;
    rows = f.rows;
    loads = omega (arith, length_push m.loads l);
  }

  -- kept, or with no room left
  pub loads-facts : (L : List Load) (l : Load) (r : Result (Unit {0}) Full) → MatchResult r (λ _. (length m.loads < 256) × (L ≡ m.loads ++ l ∷ [])) (λ _. (256 ≤ length m.loads) × (L ≡ m.loads)) → l.run ≤ m.run → InLine l.access
      → Facts (machine_with m.run m.left m.waits L m.accepted)
  loads-facts L l (Ok u) h p q = rw h.1 (kept-facts l p q h.0)
  loads-facts L l (Err e) h p q = rw h.1 f

  -- ── a cut ──
  pub cut-facts : m.run < 4 → Facts (cut m)
  cut-facts l = record {
    loaded = λ i d l. let p = f.loaded i d l in (omega (arith, p.0), p.1);
    counted = omega (arith, bound-cut m few_wait, f.counted);
    four = refl;
    cuts = omega arith;
    moments = f.moments;
    rows = none_long;
    loads = f.loads;
  }

-- ── the opened case ──
pub facts-opened : Facts opened
facts-opened = record { loaded = λ i d l. absurd (omega arith); counted = omega arith; four = refl; cuts = omega arith; moments = omega arith; rows = none_long; loads = omega arith }
