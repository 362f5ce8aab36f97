-- The number, layer and place of each fault. A fault of the message keeps those of its own layer; layer 2 is the buffers,
-- and its place the thread; layer 3 is the case, and its place the present run.
use Rattle.std.specs.Prelude.{ℕ}
use Rattle.message.specs.Faults.{message_code}
use Rattle.message.specs.declared.faults.FaultCode.{FaultCode}
use Rattle.message.specs.declared.layers.Layer.TheVariants as layer
use Rattle.processor.specs.declared.faults.BufferFault.{BufferFault}
use Rattle.processor.specs.declared.faults.BufferFault.TheVariants.{Message, Full, Empty}
use Rattle.processor.specs.declared.faults.CaseFault.{CaseFault}
use Rattle.processor.specs.declared.faults.CaseFault.TheVariants.{Buffer, Moments, Loads, Cuts}

abbrev pub buffer_code : BufferFault → FaultCode
buffer_code (Message f) = message_code f
buffer_code (Full t) = record { number = 11; layer = layer.Buffers; place = t }
buffer_code (Empty t) = record { number = 12; layer = layer.Buffers; place = t }

abbrev pub case_code : CaseFault → FaultCode
case_code (Buffer f) = buffer_code f
case_code (Moments r) = record { number = 13; layer = layer.Case; place = r }
case_code (Loads r) = record { number = 14; layer = layer.Case; place = r }
case_code (Cuts r) = record { number = 15; layer = layer.Case; place = r }

abbrev pub case_number : CaseFault → ℕ
case_number f = (case_code f).number
