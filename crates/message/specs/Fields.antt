-- What the fields of an event may hold. A field counts only where its bit stands in the map.
use Rattle.std.specs.Prelude.{◌≡◌, ℕ, ◌%◌, ◌<◌, ◌⊎◌, ◌≢◌}
use Rattle.message.specs.Format.{Stands}
use Rattle.message.specs.declared.events.Event.{Event}
use Rattle.message.specs.declared.faults.FieldFault.{FieldFault}
use Rattle.message.specs.declared.faults.FieldFault.TheVariants.{Thread, Address, Width, Unaligned}

abbrev pub IsWidth : ℕ → Type 0
IsWidth w = ((w ≡ 1) ⊎ (w ≡ 2)) ⊎ ((w ≡ 4) ⊎ (w ≡ 8))

-- when a field of an event is refused: threads are 0 to 3, addresses 0 to 4,095, an address is a multiple of the width
abbrev pub FieldRefused : ℕ → Event → FieldFault → Type 0
FieldRefused m e Thread = Stands m 1 × (3 < e.thread)
FieldRefused m e Address = Stands m 2 × (4095 < e.address)
FieldRefused m e Width = Stands m 3 × (IsWidth e.width → ⊥)
FieldRefused m e Unaligned = Stands m 3 × (e.address % e.width ≢ 0)
