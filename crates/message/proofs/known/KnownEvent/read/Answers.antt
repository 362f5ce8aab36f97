use Rattle.std.proofs.Common.{ℕ, List, subst, arith}
use Rattle.message.proofs.Trips.{Decoding, reading, packing_back}
use Rattle.message.proofs.known.KnownEvent.read.Goals as goal

pub returns : goal.returns
returns c =
    let b = c.args.message.now in
    let d = subst (λ (x : List ℕ). Decoding x c.decode.result) c.in-Some.ensures.cases.same c.decode.ensures in
    let whole = c.in-Some.ensures.cases.long in
    record {
      reads = reading b whole (λ i. omega (arith, c.type_inv.message i)) c.decode.result d;
      packs = packing_back b whole (λ i. omega (arith, c.type_inv.message i)) c.decode.result d;
    }
