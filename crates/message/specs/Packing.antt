-- What packing an event into a caller's memory answers, and what the memory holds then.
use Rattle.std.specs.Prelude.{◌≡◌, ℕ, ◌-◌, ◌^◌, ◌<◌, ◌≤◌, cond, List, ◌∷◌, ◌++◌, length, drop, replicate, None, Ok, Err, Result}
use Rattle.message.specs.Faults.{pack_code}
use Rattle.message.specs.Fields.{FieldRefused}
use Rattle.message.specs.Format.{stands, Stands, room, fields_end, bytes_of}
use Rattle.message.specs.Kinds.{kind_of, map_for}
use Rattle.message.specs.Refusals.{Comes, NoneHolds}
use Rattle.message.specs.declared.events.Event.{Event}
use Rattle.message.specs.declared.faults.PackFault.{PackFault}
use Rattle.message.specs.declared.faults.PackFault.TheVariants.{Kind, Field, Value, Short}

-- the event with 0 in each field that a map lacks
abbrev pub within : ℕ → Event → Event
within m e = record {
  kind = e.kind;
  thread = cond (stands m 1) e.thread 0;
  address = cond (stands m 2) e.address 0;
  width = cond (stands m 3) e.width 0;
  value = cond (stands m 4) e.value 0;
}

-- the event with 0 in each field that its kind lacks
abbrev pub carried : Event → Event
carried e = within (map_for e.kind) e

-- the fields of an event under a map, each low byte first
abbrev pub fields_of : ℕ → Event → List ℕ
fields_of m e = bytes_of (room m 0) e.kind ++ (bytes_of (room m 1) e.thread ++ (bytes_of (room m 2) e.address ++ (bytes_of (room m 3) e.width ++ bytes_of (room m 4) e.value)))

-- the sixteen bytes of an event under a map: the map, its fields, and filler
abbrev pub laid : ℕ → Event → List ℕ
laid m e = m ∷ (fields_of m e ++ replicate (16 - fields_end m) 0)

-- the message of an event
abbrev pub message_of : Event → List ℕ
message_of e = laid (map_for e.kind) e

-- the condition of each refusal, given how many bytes the caller's memory has
abbrev pub PackRefused : Event → ℕ → PackFault → Type 0
PackRefused e n Kind = kind_of e.kind ≡ None
PackRefused e n (Field f) = FieldRefused (map_for e.kind) e f
PackRefused e n Value = Stands (map_for e.kind) 4 × (256 ^ e.width ≤ e.value)
PackRefused e n Short = n < 16

-- the message stands in front and all behind it is as it was; or the first refusal comes, in the order of the numbers, and
-- the memory stays
abbrev pub Packing : Event → List ℕ → List ℕ → Result (Unit {0}) PackFault → Type 0
Packing e before after (Ok _) = NoneHolds (PackRefused e (length before)) × (after ≡ message_of e ++ drop 16 before)
Packing e before after (Err f) = Comes (λ g. (pack_code g).number) (PackRefused e (length before)) f × (after ≡ before)
