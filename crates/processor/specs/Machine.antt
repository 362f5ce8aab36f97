-- The processor, in its own terms: threads 0 to 3, lines 0 to 63, runs 0 to 4, and in each run moments from 1 on.
use Rattle.std.specs.Prelude.{ℕ, zero, suc, ◌+◌, List, [], ◌∷◌, ◌++◌, length, replicate, slice_index_or, slice_set}
use Rattle.processor.specs.Departures.{departure}
use Rattle.processor.specs.declared.departures.Departure.{Departure}
use Rattle.processor.specs.declared.entries.Entry.{Entry}
use Rattle.processor.specs.declared.entries.Entry.TheVariants.{StoreFence}
use Rattle.processor.specs.declared.loads.Load.{Load}

-- The number of the present run, and so of the cuts made; what has left the buffers in all runs; the waiting entries by thread;
-- the kept loads; the messages accepted. Every list stands oldest first. Cached stores, flush sets, floors and counts follow
-- from what has left.
pub record Machine : Type 0 where
  pub run : ℕ
  pub left : List Departure
  pub waits : List (List Entry)
  pub loads : List Load
  pub accepted : ℕ

abbrev pub machine_with : ℕ → List Departure → List (List Entry) → List Load → ℕ → Machine
machine_with run left waits loads accepted = record { run = run; left = left; waits = waits; loads = loads; accepted = accepted }

abbrev pub row : Machine → ℕ → List Entry
row m t = slice_index_or m.waits t []

abbrev pub opened : Machine
opened = machine_with 0 [] (replicate 4 []) [] 0

-- ── the steps ──
-- the waiting entries of thread t are `es`
abbrev pub with_row : ℕ → List Entry → Machine → Machine
with_row t es m = machine_with m.run m.left (slice_set m.waits t es) m.loads m.accepted

-- an entry enters its thread's buffer
abbrev pub entered : ℕ → Entry → Machine → Machine
entered t e m = with_row t (row m t ++ e ∷ []) m

-- an entry takes the next moment and acts
abbrev pub acted : ℕ → Entry → Machine → Machine
acted t e m = machine_with m.run (m.left ++ departure m.run m.left t e ∷ []) m.waits m.loads m.accepted

-- the oldest of thread t's waiting entries leaves; nothing changes where none waits
abbrev pub drained_from : List Entry → ℕ → Machine → Machine
drained_from [] t m = m
drained_from (e ∷ es) t m = acted t e (with_row t es m)

abbrev pub drained : ℕ → Machine → Machine
drained t m = drained_from (row m t) t m

-- n of them leave in order
abbrev pub drained_by : ℕ → ℕ → Machine → Machine
drained_by zero t m = m
drained_by (suc n) t m = drained t (drained_by n t m)

-- a full fence: all of the thread's entries leave in order, and then it takes a moment and does what a store fence does
abbrev pub fenced : ℕ → Machine → Machine
fenced t m = acted t StoreFence (drained_by (length (row m t)) t m)

-- a load is kept
abbrev pub kept : Load → Machine → Machine
kept l m = machine_with m.run m.left m.waits (m.loads ++ l ∷ []) m.accepted

-- the power is cut: the next run begins, and all buffers are lost
abbrev pub cut : Machine → Machine
cut m = machine_with (m.run + 1) m.left (replicate 4 []) m.loads m.accepted

-- one more message is accepted
abbrev pub counted : Machine → Machine
counted m = machine_with m.run m.left m.waits m.loads (m.accepted + 1)
