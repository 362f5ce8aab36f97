-- What has left the buffers, with the number of the present run; and what holds of it at all times.
use Rattle.std.specs.Prelude.{◌≡◌, ℕ, ◌+◌, ◌<◌, ◌≤◌, List, [], ◌∷◌, ◌++◌, length, take, slice_index_or}
use Rattle.std.specs.List.{All, AllPairs}
use Rattle.processor.specs.Departures.{count, departure}
use Rattle.processor.specs.Entries.{Fits}
use Rattle.processor.specs.declared.departures.Departure.{Departure}
use Rattle.processor.specs.declared.entries.Entry.{Entry}

pub record Past : Type 0 where
  pub run : ℕ
  pub left : List Departure

abbrev pub past : ℕ → List Departure → Past
past r D = record { run = r; left = D }

-- an entry of thread t leaves at the next moment
abbrev pub left_next : ℕ → Entry → Past → Past
left_next t e p = past p.run (p.left ++ departure p.run p.left t e ∷ [])

-- a cut closes the present run
abbrev pub closed : Past → Past
closed p = past (p.run + 1) p.left

-- ── facts ──
-- each left in a run up to now, from the buffer of one of the four threads
abbrev pub Placed : ℕ → List Departure → Type 0
Placed run D = All (λ d. (d.run ≤ run) × (d.thread < 4)) D

abbrev pub OfThreads : List Departure → Type 0
OfThreads D = All (λ d. d.thread < 4) D

-- each names bytes of one line, or a line that there is
abbrev pub Fitting : List Departure → Type 0
Fitting D = All (λ d. Fits d.entry) D

-- what left in a later run comes later
abbrev pub InTurn : List Departure → Type 0
InTurn D = AllPairs (λ d later. d.run ≤ later.run) D

-- moments of a run rise by one, from 1
abbrev pub Dated : List Departure → Type 0
Dated D = (i : ℕ) (d : Departure) → i < length D → (slice_index_or D i d).moment ≡ count (slice_index_or D i d).run (take i D) + 1

pub record Recorded (run : ℕ) (D : List Departure) : Type 0 where
  pub placed : Placed run D
  pub in_turn : InTurn D
  pub dated : Dated D

-- what the history keeps, which has the count of the present run
pub record Counts (p : Past) (n : ℕ) : Type 0 where
  pub within : p.run ≤ 4
  pub present : n ≡ count p.run p.left
  pub recorded : Recorded p.run p.left
