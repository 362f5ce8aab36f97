-- What both reading and packing know of the fields that they have checked.
use Rattle.std.proofs.Common.{◌≡◌, ℕ, ◌%◌, ◌<◌, Some, refl, arith, lit<}
use Rattle.message.specs.Checks.{ThreadFits, AddressFits, FieldsFail}
use Rattle.message.specs.Faults.{field_number}
use Rattle.message.specs.Fields.{IsWidth, FieldRefused}
use Rattle.message.specs.Format.{Stands}
use Rattle.message.specs.Kinds.{kind_of, map_of, map_for}
use Rattle.message.specs.declared.events.Event.{Event}
use Rattle.message.specs.declared.faults.FieldFault.{FieldFault}
use Rattle.message.specs.declared.faults.FieldFault.TheVariants.{Thread, Address, Width, Unaligned}
use Rattle.message.specs.declared.kinds.Kind.{Kind}

pub map_known : (n : ℕ) (k : Kind) → kind_of n ≡ Some k → map_for n ≡ map_of k
map_known n k e = rw e refl

-- the checks of fields with a smaller number than n have passed
pub record FieldsPassed (k : Kind) (e : Event) (n : ℕ) : Type 0 where
  pub thread : 6 < n → ThreadFits k e
  pub address : 7 < n → AddressFits k e
  pub width : 8 < n → Stands (map_of k) 3 → IsWidth e.width
  pub aligned : 9 < n → Stands (map_of k) 3 → e.address % e.width ≡ 0

pub fields_before : (k : Kind) (e : Event) (n : ℕ) → FieldsPassed k e n → (f : FieldFault) → field_number f < n → FieldRefused (map_of k) e f → ⊥
fields_before k e n p Thread l h = omega (arith, p.thread l h.0, h.1)
fields_before k e n p Address l h = omega (arith, p.address l h.0, h.1)
fields_before k e n p Width l h = h.1 (p.width l h.0)
fields_before k e n p Unaligned l h = h.1 (p.aligned l h.0)

pub field_holds : (k : Kind) (e : Event) (f : FieldFault) → FieldsFail k e f → FieldRefused (map_of k) e f
field_holds k e Thread r = r
field_holds k e Address r = (r.1, r.2)
field_holds k e Width r = (r.2, r.3)
field_holds k e Unaligned r = (r.2, r.4)

pub field_late : (f : FieldFault) → 5 < field_number f
field_late Thread = lit< tt
field_late Address = lit< tt
field_late Width = lit< tt
field_late Unaligned = lit< tt

pub field_most : (f : FieldFault) → field_number f < 10
field_most Thread = lit< tt
field_most Address = lit< tt
field_most Width = lit< tt
field_most Unaligned = lit< tt
