-- What holds of a case at all times.
use Rattle.std.specs.Prelude.{◌≡◌, ℕ, ◌+◌, ◌*◌, ◌≤◌, reverse, length}
use Rattle.std.specs.List.{All}
use Rattle.processor.specs.Departures.{of_run, count, flush_set, floor}
use Rattle.processor.specs.Floors.{Largest}
use Rattle.processor.specs.History.{Placed, Fitting, InTurn, Dated}
use Rattle.processor.specs.Machine.{Machine, row}
use Rattle.processor.specs.Memory.{InLine}
use Rattle.processor.specs.Waiting.{AllFit, total}

-- a kept load lies in one line, and was kept in a run up to now
abbrev pub Loaded : Machine → Type 0
Loaded m = All (λ l. (l.run ≤ m.run) × InLine l.access) m.loads

-- Few messages are accepted: one that makes an entry wait adds 1 here, a drain takes a waiting entry and adds a moment, a full
-- fence adds a moment at least, a load adds a load, and a cut loses at most 32 entries.
abbrev pub bound : Machine → ℕ
bound m = 2 * length m.left + total m.waits + length m.loads + 33 * m.run

abbrev pub Counted : Machine → Type 0
Counted m = m.accepted ≤ bound m

abbrev pub Four : Machine → Type 0
Four m = length m.waits ≡ 4

-- what the processor keeps with every step, whether or not a message asks for it
pub record Facts (m : Machine) : Type 0 where
  pub loaded : Loaded m
  pub counted : Counted m
  pub four : Four m
  pub cuts : m.run ≤ 4
  pub moments : length m.left ≤ 512
  pub rows : (t : ℕ) → length (row m t) ≤ 8
  pub loads : length m.loads ≤ 256

pub record Sound (m : Machine) : Type 0 where
  -- what has left: moments of a run rise by one, from 1, and runs follow one another
  pub placed : Placed m.run m.left
  pub fitting : Fitting m.left
  pub in_turn : InTurn m.left
  pub dated : Dated m.left
  -- the floor of a line is the largest moment to which a strong flush, or a weak flush with a later fence of its thread, raises it
  pub largest : (r n : ℕ) → Largest n (reverse (of_run r m.left))
  -- no floor passes the count of its run, and no mark in a flush set that of the present run
  pub floored : (r n : ℕ) → floor r n m.left ≤ count r m.left
  pub marked : (t n : ℕ) → flush_set m.run t n m.left ≤ count m.run m.left
  -- what waits, and the kept loads
  pub four : Four m
  pub waiting : (t : ℕ) → AllFit (row m t)
  pub loaded : Loaded m
  -- the room that a case has
  pub cuts : m.run ≤ 4
  pub moments : length m.left ≤ 512
  pub rows : (t : ℕ) → length (row m t) ≤ 8
  pub loads : length m.loads ≤ 256
  -- the messages accepted
  pub counted : Counted m
  pub few : m.accepted ≤ 1444
