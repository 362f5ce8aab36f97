-- The number, layer and place of each fault. Layer 1 is the message, and its place the offset of a byte; layer 4 is a
-- call at fault itself, and its place 0.
use Rattle.std.specs.Prelude.{ℕ}
use Rattle.message.specs.declared.faults.FaultCode.{FaultCode}
use Rattle.message.specs.declared.faults.FieldFault.{FieldFault}
use Rattle.message.specs.declared.faults.FieldFault.TheVariants.{Thread, Address, Width, Unaligned}
use Rattle.message.specs.declared.faults.MessageFault.{MessageFault}
use Rattle.message.specs.declared.faults.MessageFault.TheVariants.{Length, Map, Kind, MapOfKind, Filler, Field, Value}
use Rattle.message.specs.declared.faults.PackFault.{PackFault}
use Rattle.message.specs.declared.faults.PackFault.TheVariants as pack
use Rattle.message.specs.declared.layers.Layer.{Layer}
use Rattle.message.specs.declared.layers.Layer.TheVariants as layer

abbrev pub layer_number : Layer → ℕ
layer_number layer.Message = 1
layer_number layer.Buffers = 2
layer_number layer.Case = 3
layer_number layer.Call = 4

-- the number of a field's fault
abbrev pub field_number : FieldFault → ℕ
field_number Thread = 6
field_number Address = 7
field_number Width = 8
field_number Unaligned = 9

-- the offset in a message of the field at fault
abbrev pub field_place : FieldFault → ℕ
field_place Thread = 2
field_place Address = 3
field_place Width = 5
field_place Unaligned = 3

abbrev pub message_code : MessageFault → FaultCode
message_code Length = record { number = 1; layer = layer.Message; place = 0 }
message_code Map = record { number = 2; layer = layer.Message; place = 0 }
message_code Kind = record { number = 3; layer = layer.Message; place = 1 }
message_code MapOfKind = record { number = 4; layer = layer.Message; place = 0 }
message_code (Filler offset) = record { number = 5; layer = layer.Message; place = offset }
message_code (Field fault) = record { number = field_number fault; layer = layer.Message; place = field_place fault }
message_code (Value offset) = record { number = 10; layer = layer.Message; place = offset }

abbrev pub pack_code : PackFault → FaultCode
pack_code pack.Kind = record { number = 3; layer = layer.Call; place = 0 }
pack_code (pack.Field fault) = record { number = field_number fault; layer = layer.Call; place = 0 }
pack_code pack.Value = record { number = 10; layer = layer.Call; place = 0 }
pack_code pack.Short = record { number = 18; layer = layer.Call; place = 0 }
