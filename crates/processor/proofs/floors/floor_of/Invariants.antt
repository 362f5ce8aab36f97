use Rattle.std.proofs.Common.{reverse, take}
use Rattle.processor.specs.Departures.{of_run}
use Rattle.processor.proofs.Passing.{Tracks}
use Rattle.processor.proofs.floors.floor_of.Given as goal

abbrev pub invariant-loop-departure : goal.invariant-loop-departure
invariant-loop-departure l = Tracks l.line (reverse (of_run l.run (take l.departure-index l.left))) l.flushes
