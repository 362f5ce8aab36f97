-- What a listing says of a message.
use Rattle.std.specs.Prelude.{◌≡◌, MatchResult}
use Rattle.message.specs.declared.known.KnownEvent.{KnownEvent}
use Rattle.wording.specs.Counts.{Noted}
use Rattle.wording.specs.declared.lines.Line.{Line}
use Rattle.wording.specs.declared.tally.Tally.{Tally}

-- the ordinal is the number of messages listed before; a message that is refused is not counted, and any other is
abbrev pub Listed : {F : Type 0} → Tally → Line F KnownEvent → Tally → Type 0
Listed before line after = (line.ordinal ≡ before.messages) × MatchResult line.said (λ k. Noted before k.kind after) (λ _. after ≡ before)
