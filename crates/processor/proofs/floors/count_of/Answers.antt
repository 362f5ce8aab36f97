use Rattle.std.proofs.Common.{◌≡◌, ℕ, cond, eqb, get_or, sym, ap, ◌∙◌, arith}
use Rattle.std.proofs.lemmas.List.Filters.{length-filter_more}
use Rattle.std.proofs.lemmas.List.{take_all}
use Rattle.std.proofs.lemmas.Bool.{eq-eqb, ne_eqb, cond-true, cond-false}
use Rattle.processor.specs.Departures.{count}
use Rattle.processor.specs.declared.departures.Departure.{Departure}
use Rattle.processor.proofs.floors.count_of.Goals as goal
use Rattle.processor.proofs.floors.count_of.Goals.{then-departure-run, else-departure-run}

pub loop-departure-preserved : goal.loop-departure-preserved
loop-departure-preserved c =
    let D = c.args.left.now in
    let i : ℕ = c.loop-departure.departure-index in
    let d : Departure = c.departure-item.result in
    let r : ℕ = c.args.run in
    let here : (get_or D i d).run ≡ d.run = ap (λ (x : Departure). x.run) (sym c.departure-item.is) in
    let more = length-filter_more (λ (x : Departure). eqb x.run r) D i d (omega arith) in
    elim c.if-departure-run.branch [
      | then-departure-run w ↦
          let one : ◌≡◌ {A = ℕ} (cond (eqb (get_or D i d).run r) 1 0) 1 = cond-true (eqb (get_or D i d).run r) 1 0 (eq-eqb (get_or D i d).run r (here ∙ w.if-departure-run.true)) in
          (omega (arith, w.count-is, c.loop-departure.invariant.0), omega (arith, w.count-is, c.loop-departure.invariant.1))
      | else-departure-run w ↦
          let none : ◌≡◌ {A = ℕ} (cond (eqb (get_or D i d).run r) 1 0) 0 = cond-false (eqb (get_or D i d).run r) 1 0 (ne_eqb (get_or D i d).run r (λ e. w.if-departure-run.false (sym here ∙ e))) in
          (omega (arith, w.count-is, c.loop-departure.invariant.0), omega (arith, w.count-is, c.loop-departure.invariant.1))
    ]

pub returns : goal.returns
returns c = c.loop-departure.invariant.1 ∙ ap (count c.args.run) (take_all c.loop-departure.departure-index c.args.left.now (omega arith))
