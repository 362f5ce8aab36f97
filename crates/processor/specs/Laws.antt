-- Laws over every list of messages.
use Rattle.std.specs.Prelude.{ℕ, List}
use Rattle.processor.specs.Growth.{Grown, OthersStay}
use Rattle.processor.specs.Machine.{Machine, opened}
use Rattle.processor.specs.Playing.{Accepts}
use Rattle.processor.specs.Sound.{Sound}
use Rattle.processor.specs.Sources.{last_of, Last, from_waiting, from_cached}
use Rattle.processor.specs.declared.departures.Departure.{Departure}
use Rattle.processor.specs.declared.entries.Entry.{Entry}
use Rattle.processor.specs.declared.operations.Operation.{Operation}

pub record Laws : Type 0 where
  -- a case begins sound, and stays sound with every message that it accepts: moments of a run rise, a floor is the largest
  -- moment to which anything raises it, no floor and no mark passes the count, and messages are few
  pub begins : Sound opened
  pub keeps : (m : Machine) (bs : List (List ℕ)) (m' : Machine) → Sound m → Accepts m bs m' → Sound m'
  -- no message changes a closed run or a kept load
  pub grows : (m : Machine) (bs : List (List ℕ)) (m' : Machine) → Accepts m bs m' → Grown m m'
  -- what one thread does leaves the rows and flush sets of the others
  pub others : (o : Operation) (m : Machine) → OthersStay o m
  -- a loaded byte comes from the youngest waiting store that covers it, and from none exactly where no waiting store does; and
  -- likewise from the last cached store of the run
  pub youngest : (b : ℕ) (entries : List Entry) → Last (from_waiting b) entries (last_of (from_waiting b) entries)
  pub latest : (r b : ℕ) (left : List Departure) → Last (from_cached r b) left (last_of (from_cached r b) left)
