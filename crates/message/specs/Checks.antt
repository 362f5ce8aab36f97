-- What the single checks of reading and packing find, for the proofs of `read` and `pack`; their contracts do not cite it.
-- Every kind's fields are the first ones of the full layout, so each has one offset, and a lacking field lies in filler.
use Rattle.std.specs.Prelude.{◌≡◌, ℕ, ◌+◌, ◌*◌, ◌/◌, ◌%◌, ◌^◌, ◌<◌, ◌≤◌, List, [], ◌∷◌, Some, None, ◌≢◌, slice_index}
use Rattle.message.specs.Fields.{IsWidth}
use Rattle.message.specs.Format.{Stands, fields_end, Zeros, FirstNonzero}
use Rattle.message.specs.Kinds.{kind_of, map_of}
use Rattle.message.specs.Packing.{within}
use Rattle.message.specs.declared.events.Event.{Event}
use Rattle.message.specs.declared.faults.FieldFault.{FieldFault}
use Rattle.message.specs.declared.faults.FieldFault.TheVariants.{Thread, Address, Width, Unaligned}
use Rattle.message.specs.declared.faults.MessageFault.{MessageFault}
use Rattle.message.specs.declared.faults.MessageFault.TheVariants as message
use Rattle.message.specs.declared.faults.PackFault.{PackFault}
use Rattle.message.specs.declared.faults.PackFault.TheVariants as pack
use Rattle.message.specs.declared.kinds.Kind.{Kind}

abbrev pub MapSound : ℕ → Type 0
MapSound m = (m % 2 ≡ 1) × (m < 32)

-- the map and the kind byte are those of a kind
abbrev pub Head : List ℕ → Kind → Type 0
Head b k = (kind_of (slice_index b 1) ≡ Some k) × (slice_index b 0 ≡ map_of k)

abbrev pub NoHead : List ℕ → MessageFault → Type 0
NoHead b message.Length = ⊥
NoHead b message.Map = MapSound (slice_index b 0) → ⊥
NoHead b message.Kind = MapSound (slice_index b 0) × (kind_of (slice_index b 1) ≡ None)
NoHead b message.MapOfKind = (k : Kind) × MapSound (slice_index b 0) × (kind_of (slice_index b 1) ≡ Some k) × (slice_index b 0 ≢ map_of k)
NoHead b (message.Filler i) = ⊥
NoHead b (message.Field f) = ⊥
NoHead b (message.Value i) = ⊥

abbrev pub value_at : List ℕ → ℕ
value_at b = slice_index b 6 + slice_index b 7 * 256 + slice_index b 8 * 65536 + slice_index b 9 * 16777216 + slice_index b 10 * 4294967296 + slice_index b 11 * 1099511627776 + slice_index b 12 * 281474976710656 + slice_index b 13 * 72057594037927936

-- the event at the offsets of the full layout
abbrev pub event_at : List ℕ → Event
event_at b = record { kind = slice_index b 1; thread = slice_index b 2; address = slice_index b 3 + slice_index b 4 * 256; width = slice_index b 5; value = value_at b }

abbrev pub ThreadFits : Kind → Event → Type 0
ThreadFits k e = Stands (map_of k) 1 → e.thread ≤ 3

abbrev pub AddressFits : Kind → Event → Type 0
AddressFits k e = Stands (map_of k) 2 → e.address ≤ 4095

pub record FieldsFit (k : Kind) (e : Event) : Type 0 where
  pub thread : ThreadFits k e
  pub address : AddressFits k e
  pub width : Stands (map_of k) 3 → IsWidth e.width
  pub aligned : Stands (map_of k) 3 → e.address % e.width ≡ 0

abbrev pub FieldsFail : Kind → Event → FieldFault → Type 0
FieldsFail k e Thread = Stands (map_of k) 1 × (3 < e.thread)
FieldsFail k e Address = ThreadFits k e × Stands (map_of k) 2 × (4095 < e.address)
FieldsFail k e Width = ThreadFits k e × AddressFits k e × Stands (map_of k) 3 × (IsWidth e.width → ⊥)
FieldsFail k e Unaligned = ThreadFits k e × AddressFits k e × Stands (map_of k) 3 × IsWidth e.width × (e.address % e.width ≢ 0)

pub record Decodes (b : List ℕ) (k : Kind) : Type 0 where
  pub head : Head b k
  pub filler : Zeros b (fields_end (map_of k)) 16
  pub fields : FieldsFit k (event_at b)
  pub beyond : Stands (map_of k) 4 → Zeros b (6 + slice_index b 5) 14

-- the checks up to the filler pass
abbrev pub Filled : List ℕ → Kind → Type 0
Filled b k = Head b k × Zeros b (fields_end (map_of k)) 16

abbrev pub NotDecoded : List ℕ → MessageFault → Type 0
NotDecoded b message.Length = ⊥
NotDecoded b message.Map = NoHead b message.Map
NotDecoded b message.Kind = NoHead b message.Kind
NotDecoded b message.MapOfKind = NoHead b message.MapOfKind
NotDecoded b (message.Filler i) = (k : Kind) × Head b k × FirstNonzero b (fields_end (map_of k)) 16 i
NotDecoded b (message.Field f) = (k : Kind) × Filled b k × FieldsFail k (event_at b) f
NotDecoded b (message.Value i) = (k : Kind) × Filled b k × FieldsFit k (event_at b) × Stands (map_of k) 4 × FirstNonzero b (6 + slice_index b 5) 14 i

-- the sixteen bytes of an event at the offsets of the full layout
abbrev pub bytes_at : ℕ → Event → List ℕ
bytes_at m e = m ∷ e.kind ∷ e.thread ∷ (e.address % 256) ∷ (e.address / 256 % 256) ∷ e.width ∷ (e.value % 256) ∷ (e.value / 256 % 256) ∷ (e.value / 65536 % 256) ∷ (e.value / 16777216 % 256) ∷ (e.value / 4294967296 % 256) ∷ (e.value / 1099511627776 % 256) ∷ (e.value / 281474976710656 % 256) ∷ (e.value / 72057594037927936 % 256) ∷ 0 ∷ 0 ∷ []

abbrev pub ValueFits : Kind → Event → Type 0
ValueFits k e = Stands (map_of k) 4 → e.value < 256 ^ e.width

pub record Encodes (e : Event) (k : Kind) (packed : List ℕ) : Type 0 where
  pub kind : kind_of e.kind ≡ Some k
  pub fields : FieldsFit k e
  pub value : ValueFits k e
  pub bytes : packed ≡ bytes_at (map_of k) (within (map_of k) e)

abbrev pub NotEncoded : Event → PackFault → Type 0
NotEncoded e pack.Kind = kind_of e.kind ≡ None
NotEncoded e (pack.Field f) = (k : Kind) × (kind_of e.kind ≡ Some k) × FieldsFail k e f
NotEncoded e pack.Value = (k : Kind) × (kind_of e.kind ≡ Some k) × FieldsFit k e × Stands (map_of k) 4 × (e.value < 256 ^ e.width → ⊥)
NotEncoded e pack.Short = ⊥
