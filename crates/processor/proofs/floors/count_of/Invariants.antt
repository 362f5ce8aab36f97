use Rattle.std.proofs.Common.{◌≡◌, ◌≤◌, take}
use Rattle.processor.specs.Departures.{count}
use Rattle.processor.proofs.floors.count_of.Given as goal

abbrev pub invariant-loop-departure : goal.invariant-loop-departure
invariant-loop-departure l = (l.count ≤ l.departure-index) × (l.count ≡ count l.run (take l.departure-index l.left))
