-- Events of a kind that there is.
use Rattle.std.specs.Prelude.{◌≡◌, ℕ, List, None, Ok, Err, Result, MatchResult}
use Rattle.message.specs.Kinds.{kind_of}
use Rattle.message.specs.Reading.{Reading}
use Rattle.message.specs.declared.events.Event.{Event}
use Rattle.message.specs.declared.known.KnownEvent.{KnownEvent}
use Rattle.message.specs.declared.faults.MessageFault.{MessageFault}
use Rattle.message.specs.declared.kinds.UnknownKind.{UnknownKind}

-- the same event, where some kind has its number; or the number, where none has
abbrev pub KnownGives : Event → Result KnownEvent UnknownKind → Type 0
KnownGives e r = MatchResult r (λ k. k.event ≡ e) (λ u. (kind_of e.kind ≡ None) × (u.0 ≡ e.kind))

-- what reading answers, with the kind of the event
abbrev pub ReadingKnown : List ℕ → Result KnownEvent MessageFault → Type 0
ReadingKnown b r = MatchResult r (λ k. Reading b (Ok k.event)) (λ f. Reading b (Err f))
