-- How the bound on the messages accepted grows, and moments with it.
use Rattle.std.proofs.Common.{◌≡◌, ℕ, zero, suc, ◌+◌, ◌*◌, ◌<◌, ◌≤◌, List, [], ◌∷◌, ◌++◌, length, get_or, set, refl, ap, inl, inr, le_of_suc-le-suc, not-suc-le-zero, add-mul, arith}
use Rattle.std.proofs.lemmas.List.{get_or_past, length_push}
use Rattle.std.proofs.lemmas.Bool.{cases_lt}
use Rattle.processor.specs.Departures.{departure}
use Rattle.processor.specs.Machine.{Machine, row, with_row, entered, acted, drained_from, drained_by, fenced, kept, cut}
use Rattle.processor.specs.Sound.{bound}
use Rattle.processor.specs.Waiting.{total}
use Rattle.processor.specs.declared.entries.Entry.{Entry}
use Rattle.processor.specs.declared.entries.Entry.TheVariants.{StoreFence}
use Rattle.processor.specs.declared.loads.Load.{Load}

-- ── waiting entries ──
pub total-set : (rows : List (List Entry)) (t : ℕ) (es : List Entry) → t < length rows → total (set rows t es) + length (get_or rows t []) ≡ total rows + length es
total-set [] t es h = absurd (not-suc-le-zero h)
total-set (r ∷ rows) zero es h = omega arith
total-set (r ∷ rows) (suc t) es h = omega (arith, total-set rows t es (le_of_suc-le-suc h))

pub total_few : (k : ℕ) (rows : List (List Entry)) → ((t : ℕ) → length (get_or rows t []) ≤ k) → total rows ≤ length rows * k
total_few k [] h = omega arith
total_few k (r ∷ rows) h = omega (arith, h 0, total_few k rows (λ t. h (suc t)), add-mul 1 (length rows) k)

-- a thread with a waiting entry is one of the table
pub row_there : (rows : List (List Entry)) (t : ℕ) (e : Entry) (es : List Entry) → get_or rows t [] ≡ e ∷ es → t < length rows
row_there rows t e es w = elim (cases_lt t (length rows)) [
  | inl l ↦ l
  | inr l ↦ absurd (let z = get_or_past rows t [] l in let y = ap length w in let x = ap (λ (v : List Entry). length v) z in omega arith)
]

-- ── one step ──
-- the oldest entry leaves
pub bound_leaves : (m : Machine) (t : ℕ) (e : Entry) (es : List Entry) → row m t ≡ e ∷ es → bound (acted t e (with_row t es m)) ≡ bound m + 1
bound_leaves m t e es w = omega (arith, total-set m.waits t es (row_there m.waits t e es w), ap length w, length_push m.left (departure m.run m.left t e))

pub bound-entered : (t : ℕ) (e : Entry) (m : Machine) → t < length m.waits → bound (entered t e m) ≡ bound m + 1
bound-entered t e m l = omega (arith, total-set m.waits t (row m t ++ e ∷ []) l, length_push (row m t) e)

pub bound-kept : (l : Load) (m : Machine) → bound (kept l m) ≡ bound m + 1
bound-kept l m = omega (arith, length_push m.loads l)

pub bound-cut : (m : Machine) → total m.waits ≤ 32 → bound m + 1 ≤ bound (cut m)
bound-cut m l = omega arith

bound-drained : (es : List Entry) (t : ℕ) (m : Machine) → row m t ≡ es → bound m ≤ bound (drained_from es t m)
bound-drained [] t m w = omega arith
bound-drained (e ∷ es) t m w = omega (arith, bound_leaves m t e es w)

bound-drained_by : (n t : ℕ) (m : Machine) → bound m ≤ bound (drained_by n t m)
bound-drained_by zero t m = omega arith
bound-drained_by (suc n) t m = omega (arith, bound-drained_by n t m, bound-drained (row (drained_by n t m) t) t (drained_by n t m) refl)

pub bound-fenced : (t : ℕ) (m : Machine) → bound m + 1 ≤ bound (fenced t m)
bound-fenced t m =
    let x = drained_by (length (row m t)) t m in
    omega (arith, bound-drained_by (length (row m t)) t m, length_push x.left (departure x.run x.left t StoreFence))

-- ── moments ──
taken_drained : (es : List Entry) (t : ℕ) (m : Machine) → length (drained_from es t m).left ≤ length m.left + 1
taken_drained [] t m = omega arith
taken_drained (e ∷ es) t m = omega (arith, length_push m.left (departure m.run m.left t e))

pub taken_drained_by : (n t : ℕ) (m : Machine) → length (drained_by n t m).left ≤ length m.left + n
taken_drained_by zero t m = omega arith
taken_drained_by (suc n) t m = omega (arith, taken_drained_by n t m, taken_drained (row (drained_by n t m) t) t (drained_by n t m))

-- moments are left while those entries leave that waited at first
pub room_left : (m n : Machine) (t k : ℕ) (es : List Entry) → es ≡ row m t → n ≡ drained_by k t m → k ≤ length es → length m.left + length (row m t) < 512 → length n.left < 512
room_left m n t k es same is few room = omega (arith, ap (λ (l : List Entry). length l) same, ap (λ (x : Machine). length x.left) is, taken_drained_by k t m)
