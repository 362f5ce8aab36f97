-- The words in which kinds, layers and faults are told.
use Rattle.std.specs.Prelude.{ℕ, ◌++◌, List, codes}
use Rattle.std.specs.Fmt.{decimal}
use Rattle.message.specs.Faults.{layer_number}
use Rattle.message.specs.declared.faults.FaultCode.{FaultCode}
use Rattle.message.specs.declared.faults.FieldFault.{FieldFault}
use Rattle.message.specs.declared.faults.FieldFault.TheVariants.{Thread, Address, Width, Unaligned}
use Rattle.message.specs.declared.faults.MessageFault.{MessageFault}
use Rattle.message.specs.declared.faults.MessageFault.TheVariants as message
use Rattle.message.specs.declared.faults.PackFault.{PackFault}
use Rattle.message.specs.declared.faults.PackFault.TheVariants as pack
use Rattle.message.specs.declared.kinds.Kind.{Kind}
use Rattle.message.specs.declared.kinds.Kind.TheVariants.{Store, StrongFlush, WeakFlush, StoreFence, FullFence, Drain, Load, PowerCut}
use Rattle.message.specs.declared.layers.Layer.{Layer}
use Rattle.message.specs.declared.layers.Layer.TheVariants as layer

abbrev pub kind_words : Kind → List ℕ
kind_words Store = codes "store"
kind_words StrongFlush = codes "strong flush"
kind_words WeakFlush = codes "weak flush"
kind_words StoreFence = codes "store fence"
kind_words FullFence = codes "full fence"
kind_words Drain = codes "drain"
kind_words Load = codes "load"
kind_words PowerCut = codes "power cut"

abbrev pub layer_words : Layer → List ℕ
layer_words layer.Message = codes "message"
layer_words layer.Buffers = codes "buffers"
layer_words layer.Case = codes "case"
layer_words layer.Call = codes "call"

-- ── why a message or an event is refused ──
abbrev pub field_words : FieldFault → List ℕ
field_words Thread = codes "its thread is above 3"
field_words Address = codes "its address is above 4095"
field_words Width = codes "its width is not 1, 2, 4 or 8"
field_words Unaligned = codes "its address is not a multiple of its width"

abbrev pub message_words : MessageFault → List ℕ
message_words message.Length = codes "it is not 16 bytes long"
message_words message.Map = codes "bit 0 of its map is clear, or a bit of 5 to 7 is set"
message_words message.Kind = codes "its kind is unknown"
message_words message.MapOfKind = codes "its map is not that of its kind"
message_words (message.Filler i) = codes "a filler byte is not 0"
message_words (message.Field f) = field_words f
message_words (message.Value i) = codes "a value byte beyond the width is not 0"

abbrev pub pack_words : PackFault → List ℕ
pack_words pack.Kind = codes "its kind is unknown"
pack_words (pack.Field f) = field_words f
pack_words pack.Value = codes "its value takes more bytes than its width"
pack_words pack.Short = codes "the memory has fewer than 16 bytes"

-- ── a fault by its numbers ──
-- what the place of a layer's fault is a number of
abbrev pub place_name : Layer → List ℕ
place_name layer.Message = codes "byte"
place_name layer.Buffers = codes "thread"
place_name layer.Case = codes "run"
place_name layer.Call = codes "place"

abbrev pub code_words : FaultCode → List ℕ
code_words c = codes "fault " ++ (decimal c.number ++ (codes " of layer " ++ (decimal (layer_number c.layer) ++ (codes " (" ++ (layer_words c.layer ++ (codes ") at " ++ (place_name c.layer ++ (codes " " ++ decimal c.place))))))))
