-- What is answered to a row.
use Rattle.std.specs.Prelude.{◌≡◌, ℕ, ◌%◌, ◌++◌, List, map, replicate, None, codes}
use Rattle.std.specs.Fmt.{decimal}
use Rattle.std.specs.List.{range_with_len}
use Rattle.message.specs.Faults.{layer_number}
use Rattle.message.specs.Packing.{Packing}
use Rattle.message.specs.Reading.{Reading}
use Rattle.message.specs.declared.faults.FaultCode.{FaultCode}
use Rattle.wire_rows.specs.Hex.{pairs}
use Rattle.wire_rows.specs.declared.answers.Answer.{Answer}
use Rattle.wire_rows.specs.declared.answers.Answer.TheVariants as answer
use Rattle.wire_rows.specs.declared.rows.Row.{Row}
use Rattle.wire_rows.specs.declared.rows.Row.TheVariants.{Read, Pack, Parts}

-- bytes count up from 0, and begin again after 255
abbrev pub CountsUp : ℕ → List ℕ → Type 0
CountsUp n bytes = bytes ≡ map (λ i. i % 256) (range_with_len 0 n)

-- what reading the bytes answers; what packing the event answers and leaves of a memory that holds AA everywhere; or a
-- recording whose bytes count up from 0
abbrev pub Answers : Row → Answer → Type 0
Answers (Read hex) (answer.Read r) = Reading (pairs None hex.now) r
Answers (Pack e n) (answer.Pack r memory) = Packing e (replicate n 170) memory.items r
Answers (Parts n) (answer.Parts bytes) = CountsUp n bytes.items
Answers (Read hex) (answer.Pack r memory) = ⊥
Answers (Read hex) (answer.Parts bytes) = ⊥
Answers (Pack e n) (answer.Read r) = ⊥
Answers (Pack e n) (answer.Parts bytes) = ⊥
Answers (Parts n) (answer.Read r) = ⊥
Answers (Parts n) (answer.Pack r memory) = ⊥

-- a fault by its three numbers, in words
abbrev pub numbers_told : FaultCode → List ℕ
numbers_told c = codes "fault " ++ (decimal c.number ++ (codes " " ++ (decimal (layer_number c.layer) ++ (codes " " ++ decimal c.place))))
