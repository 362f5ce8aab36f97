-- What has left the buffers, and what follows from it: the counts, marks and floors of the runs.
use Rattle.std.specs.Prelude.{ℕ, ◌+◌, max, Bool, true, false, cond, ◌&&◌, List, [], ◌∷◌, reverse, length, filter, ◌==◌, nat_eq}
use Rattle.processor.specs.Memory.{line}
use Rattle.processor.specs.declared.departures.Departure.{Departure}
use Rattle.processor.specs.declared.entries.Entry.{Entry}
use Rattle.processor.specs.declared.entries.Entry.TheVariants.{Store, StrongFlush, WeakFlush, StoreFence}

-- what left in run r, oldest first
abbrev pub of_run : ℕ → List Departure → List Departure
of_run r D = filter (λ d. nat_eq d.run r) D

-- the count of a run: how many left in it, and so the last moment taken in it, or 0
abbrev pub count : ℕ → List Departure → ℕ
count r D = length (of_run r D)

-- an entry of thread t that takes the next moment of run r
abbrev pub departure : ℕ → List Departure → ℕ → Entry → Departure
departure r D t e = record { run = r; moment = count r D + 1; thread = t; entry = e }

-- ── marks: here what left in one run stands newest first ──
-- a fence; a full fence acts as a store fence that leaves
abbrev pub fences : Entry → Bool
fences (Store x) = false
fences (StrongFlush k) = false
fences (WeakFlush k) = false
fences StoreFence = true

-- a store or a strong flush on line n
abbrev pub writes : ℕ → Entry → Bool
writes n (Store x) = line x.address == n
writes n (StrongFlush k) = k == n
writes n (WeakFlush k) = false
writes n StoreFence = false

-- the moment of the last entry of thread t that passes a test, or 0
abbrev pub last_by : ℕ → (Entry → Bool) → List Departure → ℕ
last_by t test [] = 0
last_by t test (d ∷ older) = cond (d.thread == t && test d.entry) d.moment (last_by t test older)

-- the mark of a weak flush of line n by thread t that leaves next: the larger of the moments of the thread's last fence and of
-- its last cached store or strong flush on the line, or 0
abbrev pub mark : ℕ → ℕ → List Departure → ℕ
mark t n older = max (last_by t fences older) (last_by t (writes n) older)

-- The flush set of thread t at line n: the largest mark of the thread's weak flushes of the line since its last fence, or 0.
-- A set of several marks of one line acts as their largest, and a line without one as 0, since a floor raised to at least 0
-- stays.
abbrev pub set_after : ℕ → Entry → ℕ → ℕ → ℕ
set_after n (Store x) set new = set
set_after n (StrongFlush k) set new = set
set_after n (WeakFlush k) set new = cond (k == n) (max set new) set
set_after n StoreFence set new = 0

abbrev pub set_mark : ℕ → ℕ → List Departure → ℕ
set_mark t n [] = 0
set_mark t n (d ∷ older) = cond (d.thread == t) (set_after n d.entry (set_mark t n older) (mark t n older)) (set_mark t n older)

-- the same in run r
abbrev pub flush_set : ℕ → ℕ → ℕ → List Departure → ℕ
flush_set r t n D = set_mark t n (reverse (of_run r D))

-- ── floors ──
-- a strong flush of line n that leaves at moment k raises its floor to k; a fence raises it to at least the mark in its
-- thread's flush set
abbrev pub raised : ℕ → Entry → ℕ → ℕ → ℕ → ℕ
raised n (Store x) k set floor = floor
raised n (StrongFlush l) k set floor = cond (l == n) k floor
raised n (WeakFlush l) k set floor = floor
raised n StoreFence k set floor = max floor set

abbrev pub floor_after : ℕ → List Departure → ℕ
floor_after n [] = 0
floor_after n (d ∷ older) = raised n d.entry d.moment (set_mark d.thread n older) (floor_after n older)

-- the floor of line n in run r
abbrev pub floor : ℕ → ℕ → List Departure → ℕ
floor r n D = floor_after n (reverse (of_run r D))
