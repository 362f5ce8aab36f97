-- What logging a message answers, and what the machine is then.
use Rattle.std.specs.Prelude.{◌≡◌, ℕ, ◌⊎◌, List, Some, Ok, Err, Result, MatchResult}
use Rattle.message.specs.Reading.{Reading, Refused, event_of}
use Rattle.message.specs.Refusals.{Comes, NoneHolds}
use Rattle.message.specs.declared.faults.MessageFault.{MessageFault}
use Rattle.message.specs.declared.known.KnownEvent.{KnownEvent}
use Rattle.processor.specs.Faults.{case_number}
use Rattle.processor.specs.Machine.{Machine, counted}
use Rattle.processor.specs.Operations.{operation, operation_for, InRange, Refuses, step}
use Rattle.processor.specs.declared.faults.BufferFault.{BufferFault}
use Rattle.processor.specs.declared.faults.BufferFault.TheVariants.{Message, Full, Empty}
use Rattle.processor.specs.declared.faults.CaseFault.{CaseFault}
use Rattle.processor.specs.declared.faults.CaseFault.TheVariants.{Buffer}
use Rattle.processor.specs.declared.operations.Operation.{Operation}

-- what a message asks
abbrev pub Asks : List ℕ → Operation → Type 0
Asks b o = operation_for (event_of b) ≡ Some o

-- the condition of each refusal: those of reading the message, and those of what it asks
abbrev pub LogRefused : Machine → List ℕ → CaseFault → Type 0
LogRefused m b f = ((g : MessageFault) × (f ≡ Buffer (Message g)) × Refused b g) ⊎ ((o : Operation) × Asks b o × Refuses m o f)

-- where no refusal holds the message is followed and counted; else the first refusal comes, in the order of the numbers, and
-- the machine stays
abbrev pub Logs : Machine → List ℕ → Result (Unit {0}) CaseFault → Machine → Type 0
Logs m b (Ok _) m' = NoneHolds (LogRefused m b) × ((o : Operation) × Asks b o × (m' ≡ counted (step o m)))
Logs m b (Err f) m' = Comes case_number (LogRefused m b) f × (m' ≡ m)

-- the same, with the event that was followed
abbrev pub Follows : Machine → List ℕ → Result KnownEvent CaseFault → Machine → Type 0
Follows m b r m' = MatchResult r (λ k. Logs m b (Ok tt) m' × (k.event ≡ event_of b)) (λ f. Logs m b (Err f) m')

-- a message that is read, and what its event asks
pub record Heard (b : List ℕ) (k : KnownEvent) : Type 0 where
  pub read : Reading b (Ok k.event)
  pub in_range : InRange (operation k.kind k.event)

abbrev pub NotHeard : List ℕ → BufferFault → Type 0
NotHeard b (Message f) = Reading b (Err f)
NotHeard b (Full t) = ⊥
NotHeard b (Empty t) = ⊥
