-- What a message asks of the processor, when that is refused, and what it does.
use Rattle.std.specs.Prelude.{◌≡◌, ◌+◌, ◌<◌, ◌≤◌, ◌⊎◌, [], length, Ok, Err, Option, Result}
use Rattle.std.specs.Option.{option_map}
use Rattle.message.specs.Format.{bytes_of}
use Rattle.message.specs.Kinds.{kind_of}
use Rattle.message.specs.Refusals.{Comes, NoneHolds}
use Rattle.message.specs.declared.events.Event.{Event}
use Rattle.message.specs.declared.kinds.Kind.{Kind}
use Rattle.message.specs.declared.kinds.Kind.TheVariants as kind
use Rattle.processor.specs.Faults.{case_number}
use Rattle.processor.specs.Machine.{Machine, row, entered, drained, fenced, kept, cut, counted}
use Rattle.processor.specs.Entries.{Fits}
use Rattle.processor.specs.Memory.{span, line, InLine}
use Rattle.processor.specs.Sources.{load_of}
use Rattle.processor.specs.declared.accesses.Access.{Access}
use Rattle.processor.specs.declared.entries.Entry.TheVariants as entry
use Rattle.processor.specs.declared.faults.BufferFault.TheVariants.{Full, Empty}
use Rattle.processor.specs.declared.faults.CaseFault.{CaseFault}
use Rattle.processor.specs.declared.faults.CaseFault.TheVariants.{Buffer, Moments, Loads, Cuts}
use Rattle.processor.specs.declared.operations.Operation.{Operation}
use Rattle.processor.specs.declared.operations.Operation.TheVariants.{Enter, Drain, FullFence, Load, PowerCut}

-- ── what a message asks ──
-- the bytes that a store or load names, its value low byte first
abbrev pub access_of : Event → Access
access_of e = span e.address e.width (bytes_of 8 e.value)

-- a store, a flush and a store fence enter their thread's buffer
abbrev pub operation : Kind → Event → Operation
operation kind.Store e = Enter e.thread (entry.Store (access_of e))
operation kind.StrongFlush e = Enter e.thread (entry.StrongFlush (line e.address))
operation kind.WeakFlush e = Enter e.thread (entry.WeakFlush (line e.address))
operation kind.StoreFence e = Enter e.thread entry.StoreFence
operation kind.FullFence e = FullFence e.thread
operation kind.Drain e = Drain e.thread
operation kind.Load e = Load e.thread (access_of e)
operation kind.PowerCut e = PowerCut

-- what an event asks, if some kind has its number
abbrev pub operation_for : Event → Option Operation
operation_for e = option_map (λ k. operation k e) (kind_of e.kind)

-- it names a thread that there is, and bytes of one line
abbrev pub InRange : Operation → Type 0
InRange (Enter t e) = (t < 4) × Fits e
InRange (Drain t) = t < 4
InRange (FullFence t) = t < 4
InRange (Load t x) = (t < 4) × InLine x
InRange PowerCut = Unit {0}

-- ── when it is refused ──
-- A buffer has room for 8 entries; a case for 512 moments, 256 loads and 4 cuts.
abbrev pub Refuses : Machine → Operation → CaseFault → Type 0
Refuses m (Enter t e) f = (f ≡ Buffer (Full t)) × (8 ≤ length (row m t))
Refuses m (Drain t) f = ((f ≡ Buffer (Empty t)) × (row m t ≡ [])) ⊎ ((f ≡ Moments m.run) × (512 ≤ length m.left))
Refuses m (FullFence t) f = (f ≡ Moments m.run) × (512 < length m.left + length (row m t) + 1)
Refuses m (Load t x) f = (f ≡ Loads m.run) × (256 ≤ length m.loads)
Refuses m PowerCut f = (f ≡ Cuts m.run) × (4 ≤ m.run)

-- ── what it does ──
abbrev pub step : Operation → Machine → Machine
step (Enter t e) m = entered t e m
step (Drain t) m = drained t m
step (FullFence t) m = fenced t m
step (Load t x) m = kept (load_of m t x) m
step PowerCut m = cut m

-- it is done where no refusal holds; or the first refusal comes, in the order of the numbers, and nothing changes
abbrev pub Performs : Operation → Machine → Result (Unit {0}) CaseFault → Machine → Type 0
Performs o m (Ok _) m' = NoneHolds (Refuses m o) × (m' ≡ step o m)
Performs o m (Err f) m' = Comes case_number (Refuses m o) f × (m' ≡ m)

-- the same with a count of what is done
abbrev pub CarriesOut : Operation → Machine → Result (Unit {0}) CaseFault → Machine → Type 0
CarriesOut o m (Ok _) m' = NoneHolds (Refuses m o) × (m' ≡ counted (step o m))
CarriesOut o m (Err f) m' = Comes case_number (Refuses m o) f × (m' ≡ m)
