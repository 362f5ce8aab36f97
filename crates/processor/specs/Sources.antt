-- Which store of the present run gives a byte.
use Rattle.std.specs.Prelude.{◌≡◌, ℕ, ◌+◌, ◌<◌, cond, List, [], ◌∷◌, ◌++◌, map, Some, None, Option, ◌==◌, nat_lt}
use Rattle.std.specs.List.{range_with_len, AllByRecursion}
use Rattle.std.specs.Option.{option_map, option_or}
use Rattle.processor.specs.Machine.{Machine, row}
use Rattle.processor.specs.Memory.{byte_at}
use Rattle.processor.specs.declared.accesses.Access.{Access}
use Rattle.processor.specs.declared.departures.Departure.{Departure}
use Rattle.processor.specs.declared.entries.Entry.{Entry}
use Rattle.processor.specs.declared.entries.Entry.TheVariants.{Store, StrongFlush, WeakFlush, StoreFence}
use Rattle.processor.specs.declared.loads.Load.{Load}
use Rattle.processor.specs.declared.sources.Source.{Source}
use Rattle.processor.specs.declared.sources.Source.TheVariants.{Waiting, Cached}

-- what the last of a list that gives anything gives
abbrev pub last_of : {A B : Type 0} → (A → Option B) → List A → Option B
last_of f [] = None
last_of f (x ∷ xs) = option_or (last_of f xs) (f x)

-- the same as a law: nothing where no element gives anything; else what some element gives, behind which none gives anything
abbrev pub Last : {A B : Type 0} → (A → Option B) → List A → Option B → Type 0
Last f xs None = AllByRecursion (λ x. f x ≡ None) xs
Last {A} f xs (Some y) = (before : List A) × (x : A) × (after : List A) × (xs ≡ before ++ x ∷ after) × (f x ≡ Some y) × AllByRecursion (λ z. f z ≡ None) after

-- what a waiting entry gives for the byte at b
abbrev pub from_waiting : ℕ → Entry → Option Source
from_waiting b (Store x) = option_map Waiting (byte_at x b)
from_waiting b (StrongFlush n) = None
from_waiting b (WeakFlush n) = None
from_waiting b StoreFence = None

-- what an entry that left at a moment gives for it: a store is cached then
abbrev pub from_left : ℕ → ℕ → Entry → Option Source
from_left b k (Store x) = option_map (Cached k) (byte_at x b)
from_left b k (StrongFlush n) = None
from_left b k (WeakFlush n) = None
from_left b k StoreFence = None

abbrev pub from_departure : ℕ → Departure → Option Source
from_departure b d = from_left b d.moment d.entry

-- what a store cached in run r gives for it
abbrev pub from_cached : ℕ → ℕ → Departure → Option Source
from_cached r b d = cond (d.run == r) (from_left b d.moment d.entry) None

-- these, of what left in run r, are enough for an access: for each of its bytes, the last store of them that covers it is the
-- last one that was cached in the run
abbrev pub Reaches : ℕ → List Departure → Access → List Departure → Type 0
Reaches r D x reach = (i : ℕ) → i < x.width → last_of (from_departure (x.address + i)) reach ≡ last_of (from_cached r (x.address + i)) D

-- the youngest store waiting in the thread's own buffer that covers the byte; without one, the last store cached in the present
-- run that does
abbrev pub source : Machine → ℕ → ℕ → Option Source
source m t b = option_or (last_of (from_waiting b) (row m t)) (last_of (from_cached m.run b) m.left)

-- the source of the byte of an access at a place, counted from its address; none beyond its width
abbrev pub source_within : Machine → ℕ → Access → ℕ → Option Source
source_within m t x i = cond (nat_lt i x.width) (source m t (x.address + i)) None

-- the sources of the bytes of an access, from its address on, in eight places
abbrev pub sources_of : Machine → ℕ → Access → List (Option Source)
sources_of m t x = map (source_within m t x) (range_with_len 0 8)

-- the load that thread t makes now
abbrev pub load_of : Machine → ℕ → Access → Load
load_of m t x = record { run = m.run; thread = t; access = x; sources = sources_of m t x }
