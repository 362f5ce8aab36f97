use Rattle.std.proofs.Common.{length, ap, arith}
use Rattle.processor.specs.History.{Past}
use Rattle.processor.proofs.HistoryLaws.{count_few}
use Rattle.processor.proofs.history.History.leave.Goals as goal

pub overflow_add-moment : goal.overflow_add-moment
overflow_add-moment c =
    let h = c.self.inside in
    omega (arith, c.self.invariant.present, count_few h.run h.left, ap (λ (p : Past). length p.left) c.self.view_is, c.requires)
