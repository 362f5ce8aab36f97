use Rattle.std.proofs.Common.{◌≡◌, ◌-◌, length, drop, ap, ap₂, ◌∙◌, length-drop, arith}
use Rattle.std.proofs.lemmas.List.{take_all}
use Rattle.processor.specs.Departures.{count, of_run}
use Rattle.processor.specs.History.{Past}
use Rattle.processor.proofs.HistoryLaws.{count_few}
use Rattle.processor.proofs.Present.{present_is}
use Rattle.processor.proofs.history.History.present.Goals as goal

pub overflow_sub-closed : goal.overflow_sub-closed
overflow_sub-closed c = omega (arith, c.self.invariant.present, c.len.ensures.items, count_few c.self.inside.run c.self.inside.left)

pub returns : goal.returns
returns c =
    let D = c.as_slice.result.now in
    let k = c.len.result - c.self.inside.present_count in
    let closed : k ≡ length c.self.inside.left - count c.self.inside.run c.self.inside.left = ap₂ (λ n m. n - m) c.len.ensures.items c.self.invariant.present in
    take_all (length D - k) (drop k D) (omega (arith, length-drop k D))
    ∙ ap₂ drop closed c.as_slice.ensures.items
    ∙ present_is c.self.inside.run c.self.inside.left c.self.invariant.recorded
    ∙ ap (λ (p : Past). of_run p.run p.left) c.self.view_is
