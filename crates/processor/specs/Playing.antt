-- What playing a recording answers, and what the machine is then.
use Rattle.std.specs.Prelude.{◌≡◌, ℕ, ◌+◌, ◌*◌, ◌<◌, ◌≤◌, List, [], ◌∷◌, map, length, Some, None, Ok, Err, Option}
use Rattle.std.specs.List.{range_with_len}
use Rattle.message.specs.Recordings.{part_at}
use Rattle.processor.specs.Logging.{Logs}
use Rattle.processor.specs.Machine.{Machine}
use Rattle.processor.specs.declared.faults.CaseFault.{CaseFault}
use Rattle.processor.specs.declared.processor.log.Playback.{Playback}

-- messages logged one by one, each of them accepted
abbrev pub Accepts : Machine → List (List ℕ) → Machine → Type 0
Accepts m [] m' = m' ≡ m
Accepts m (b ∷ bs) m' = (n : Machine) × Logs m b (Ok tt) n × Accepts n bs m'

-- the first n parts of a recording
abbrev pub parts : List ℕ → ℕ → List (List ℕ)
parts recording n = map (part_at recording) (range_with_len 0 n)

-- the recording ended behind its first n parts; or the part after them is refused with a fault
abbrev pub Stops : Machine → List ℕ → ℕ → Option CaseFault → Type 0
Stops m recording n None = (length recording ≤ 16 * n) × (16 * n < length recording + 16)
Stops m recording n (Some f) = (16 * n < length recording) × Logs m (part_at recording n) (Err f) m

-- the parts before the end or the first fault are accepted one by one, and counted
pub record Plays (m : Machine) (recording : List ℕ) (r : Playback) (m' : Machine) : Type 0 where
  pub accepts : Accepts m (parts recording r.accepted) m'
  pub stops : Stops m' recording r.accepted r.fault
