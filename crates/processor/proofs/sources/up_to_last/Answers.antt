use Rattle.std.proofs.Common.{◌+◌, ◌-◌, length, refl, ◌∙◌, length-take, arith}
use Rattle.processor.specs.Sources.{from_departure}
use Rattle.processor.proofs.Last.{last_before}
use Rattle.processor.proofs.sources.up_to_last.Goals as goal

pub loop-rest-preserved : goal.loop-rest-preserved
loop-rest-preserved c =
    let D = c.loop-rest.rest.now in (
      omega (arith, length-take (length D - 1) D),
      λ i l. last_before (from_departure (c.args.access.now.address + i)) D c.departure-item.result (omega arith) c.departure-item.is (c.if-not-is_store_over.ensures refl i l) ∙ c.loop-rest.invariant.1 i l,
    )
