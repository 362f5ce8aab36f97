use Rattle.std.proofs.Common.{◌≡◌, ◌<◌, ◌++◌, None, MatchOption}
use Rattle.wire_rows.specs.Hex.{pairs}
use Rattle.wire_rows.proofs.hex.bytes_of.Given as goal

-- what is there, and what the digits that are left will add
abbrev pub invariant-loop-b : goal.invariant-loop-b
invariant-loop-b l =
    MatchOption l.high (Unit {0}) (λ h. h < 16)
    × (l.bytes.items ++ pairs l.high l.b-iterator.rest.now ≡ pairs None l.fn.hex)
