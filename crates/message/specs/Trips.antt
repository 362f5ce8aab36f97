-- Reading and packing undo each other.
use Rattle.std.specs.Prelude.{◌≡◌, ℕ, ◌≤◌, List, ◌++◌, length, take, drop, Ok}
use Rattle.message.specs.Packing.{carried, Packing}
use Rattle.message.specs.Reading.{Reading}
use Rattle.message.specs.declared.events.Event.{Event}

-- reading the message in front of a memory gives the event, with 0 in each field that its kind lacks
abbrev pub ReadsBack : Event → List ℕ → Type 0
ReadsBack e memory = Reading (take 16 memory) (Ok (carried e))

-- an event has 0 in each field that its kind lacks, and packing it into any memory with room puts the message there
pub record PacksBack (message : List ℕ) (e : Event) : Type 0 where
  pub whole : carried e ≡ e
  pub packs : (memory : List ℕ) → 16 ≤ length memory → Packing e memory (message ++ drop 16 memory) (Ok tt)
