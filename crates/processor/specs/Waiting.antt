-- What waits in the four threads' buffers: the rows of entries, by thread, each oldest first.
use Rattle.std.specs.Prelude.{◌≡◌, ℕ, ◌+◌, ◌<◌, ◌≤◌, List, [], ◌∷◌, ◌++◌, length, slice_index_or, slice_set}
use Rattle.std.specs.List.{All}
use Rattle.processor.specs.Entries.{Fits}
use Rattle.processor.specs.declared.entries.Entry.{Entry}
use Rattle.processor.specs.declared.faults.BufferFault.{BufferFault}
use Rattle.processor.specs.declared.faults.BufferFault.TheVariants.{Message, Full, Empty}

-- each of the entries fits the memory
abbrev pub AllFit : List Entry → Type 0
AllFit es = All Fits es

-- the row of a thread
abbrev pub row_of : List (List Entry) → ℕ → List Entry
row_of W t = slice_index_or W t []

-- the entry waits last in its thread's row, and no other row is changed
abbrev pub Pushed : List (List Entry) → ℕ → Entry → List (List Entry) → Type 0
Pushed W t e V = (length (row_of W t) < 8) × (V ≡ slice_set W t (row_of W t ++ e ∷ []))

-- eight entries wait
abbrev pub PushRefused : List (List Entry) → ℕ → BufferFault → Type 0
PushRefused W t (Message f) = ⊥
PushRefused W t (Full k) = (8 ≤ length (row_of W t)) × (k ≡ t)
PushRefused W t (Empty k) = ⊥

-- the oldest entry has left its thread's row, and no other row is changed
abbrev pub Drained : List (List Entry) → ℕ → Entry → List (List Entry) → Type 0
Drained W t e V = (row_of W t ≡ e ∷ row_of V t) × (V ≡ slice_set W t (row_of V t))

-- how many entries wait in all
abbrev pub total : List (List Entry) → ℕ
total [] = 0
total (es ∷ rows) = length es + total rows
