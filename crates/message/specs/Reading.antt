-- What reading a list of bytes answers.
use Rattle.std.specs.Prelude.{◌≡◌, ℕ, ◌+◌, ◌≤◌, false, ◌⊎◌, List, length, None, Ok, Err, Result}
use Rattle.message.specs.Faults.{message_code}
use Rattle.message.specs.Fields.{FieldRefused}
use Rattle.message.specs.Format.{stands, Stands, offset, fields_end, map_at, field, FirstNonzero}
use Rattle.message.specs.Kinds.{kind_of, map_for}
use Rattle.message.specs.Refusals.{Comes, NoneHolds}
use Rattle.message.specs.declared.events.Event.{Event}
use Rattle.message.specs.declared.faults.MessageFault.{MessageFault}
use Rattle.message.specs.declared.faults.MessageFault.TheVariants.{Length, Map, Kind, MapOfKind, Filler, Field, Value}

-- the event in the fields of a message
abbrev pub event_of : List ℕ → Event
event_of b = record { kind = field b 0; thread = field b 1; address = field b 2; width = field b 3; value = field b 4 }

-- bit 0 is clear, or a bit of 5 to 7 is set
abbrev pub MapRefused : ℕ → Type 0
MapRefused m = (stands m 0 ≡ false) ⊎ ((n : ℕ) × (5 ≤ n) × (n ≤ 7) × Stands m n)

-- the condition of each refusal, whatever the others say
abbrev pub Refused : List ℕ → MessageFault → Type 0
Refused b Length = length b ≡ 16 → ⊥
Refused b Map = MapRefused (map_at b)
Refused b Kind = kind_of (field b 0) ≡ None
Refused b MapOfKind = map_for (field b 0) ≡ map_at b → ⊥
Refused b (Filler i) = FirstNonzero b (fields_end (map_at b)) 16 i
Refused b (Field f) = FieldRefused (map_at b) (event_of b) f
Refused b (Value i) = Stands (map_at b) 4 × FirstNonzero b (offset (map_at b) 4 + (event_of b).width) (offset (map_at b) 4 + 8) i

-- an event where no refusal's condition holds, and else the first refusal whose condition does, in the order of the numbers
abbrev pub Reading : List ℕ → Result Event MessageFault → Type 0
Reading b (Ok e) = NoneHolds (Refused b) × (e ≡ event_of b)
Reading b (Err f) = Comes (λ g. (message_code g).number) (Refused b) f
