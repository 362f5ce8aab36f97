-- What raises the floor of a line, as a law over a whole run. What left in the run stands newest first.
use Rattle.std.specs.Prelude.{◌≡◌, ℕ, ◌≤◌, ◌⊎◌, List, [], ◌∷◌, ◌++◌}
use Rattle.processor.specs.Departures.{mark, floor_after}
use Rattle.processor.specs.declared.departures.Departure.{Departure}
use Rattle.processor.specs.declared.entries.Entry.TheVariants.{StrongFlush, WeakFlush, StoreFence}

-- thread t has fenced
abbrev pub Fenced : ℕ → List Departure → Type 0
Fenced t [] = ⊥
Fenced t (d ∷ older) = ((d.thread ≡ t) × (d.entry ≡ StoreFence)) ⊎ Fenced t older

-- k is a moment to which something that left raises the floor of line n: the moment of a strong flush of the line, or the mark
-- of a weak flush of the line that its thread fenced later
pub record Raises (n k : ℕ) (left : List Departure) : Type 0 where
  pub newer : List Departure
  pub flush : Departure
  pub older : List Departure
  pub stands : left ≡ newer ++ flush ∷ older
  pub by : ((flush.entry ≡ StrongFlush n) × (k ≡ flush.moment)) ⊎ ((flush.entry ≡ WeakFlush n) × (k ≡ mark flush.thread n older) × Fenced flush.thread newer)

-- the floor is the largest moment to which anything raises it, and 0 where nothing does
pub record Largest (n : ℕ) (left : List Departure) : Type 0 where
  pub above : (k : ℕ) → Raises n k left → k ≤ floor_after n left
  pub reached : (floor_after n left ≡ 0) ⊎ Raises n (floor_after n left) left
