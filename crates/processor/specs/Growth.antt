-- What no later message changes.
use Rattle.std.specs.Prelude.{◌≡◌, ℕ, ◌<◌, ◌≤◌, List, ◌++◌}
use Rattle.processor.specs.Departures.{of_run, flush_set}
use Rattle.processor.specs.Machine.{Machine, row}
use Rattle.processor.specs.Operations.{step}
use Rattle.processor.specs.declared.departures.Departure.{Departure}
use Rattle.processor.specs.declared.loads.Load.{Load}
use Rattle.processor.specs.declared.operations.Operation.{Operation}
use Rattle.processor.specs.declared.operations.Operation.TheVariants.{Enter, Drain, FullFence, PowerCut}
use Rattle.processor.specs.declared.operations.Operation.TheVariants as asked

-- y is x some messages later: what left is only added to, and so are the kept loads; and in the runs that were closed nothing
-- was added, so that their cached stores, floors and counts are the same
pub record Grown (x y : Machine) : Type 0 where
  pub runs : x.run ≤ y.run
  pub newly_left : List Departure
  pub left : y.left ≡ x.left ++ newly_left
  pub closed : (r : ℕ) → r < x.run → of_run r y.left ≡ of_run r x.left
  pub new_loads : List Load
  pub loads : y.loads ≡ x.loads ++ new_loads

-- whether an operation is one of thread t; a cut is of every thread
abbrev pub Of : ℕ → Operation → Type 0
Of t (Enter k e) = t ≡ k
Of t (Drain k) = t ≡ k
Of t (FullFence k) = t ≡ k
Of t (asked.Load k x) = t ≡ k
Of t PowerCut = Unit {0}

-- what waits in a thread's buffer and what is in its flush set stay where the operation is another thread's
abbrev pub OthersStay : Operation → Machine → Type 0
OthersStay o m = (t : ℕ) → (Of t o → ⊥) → (row (step o m) t ≡ row m t) × ((n : ℕ) → flush_set m.run t n (step o m).left ≡ flush_set m.run t n m.left)
