use Rattle.std.proofs.Common.{◌<◌, List, [], reverse, sym, ap, ◌∙◌, subst, arith}
use Rattle.std.proofs.lemmas.List.{take_all}
use Rattle.processor.specs.Departures.{of_run, floor_after}
use Rattle.processor.specs.declared.departures.Departure.{Departure}
use Rattle.processor.proofs.Passing.{Tracks, tracks_none, same_run, other_run}
use Rattle.processor.proofs.floors.floor_of.Goals as goal
use Rattle.processor.proofs.floors.floor_of.Goals.{then-departure-run, else-departure-run}

pub loop-departure-init : goal.loop-departure-init
loop-departure-init c = subst (Tracks c.args.line []) (sym c.new-flushes.ensures) (tracks_none c.args.line)

pub note-requires : goal.note-requires
note-requires c =
    subst (λ (x : Departure). x.thread < 4) (sym c.departure-item.is) (c.requires c.loop-departure.departure-index c.departure-item.result (omega arith))

pub loop-departure-preserved : goal.loop-departure-preserved
loop-departure-preserved c =
    let D = c.args.left.now in
    let i = c.loop-departure.departure-index in
    let d : Departure = c.departure-item.result in
    elim c.if-departure-run.branch [
      | then-departure-run w ↦ same_run c.args.run c.args.line D i d (omega arith) c.departure-item.is c.loop-departure.flushes c.loop-departure.invariant w.if-departure-run.true (subst (λ (x : Departure). x.thread < 4) (sym c.departure-item.is) (c.requires i d (omega arith))) c.if-departure-run.flushes (w.flushes-is ∙ w.note.ensures)
      | else-departure-run w ↦ subst (Tracks c.args.line _) (sym w.flushes-is) (other_run c.args.run c.args.line D i d (omega arith) c.departure-item.is c.loop-departure.flushes c.loop-departure.invariant w.if-departure-run.false)
    ]

pub returns : goal.returns
returns c = c.loop-departure.invariant.floor ∙ ap (λ (D : List Departure). floor_after c.args.line (reverse (of_run c.args.run D))) (take_all c.loop-departure.departure-index c.args.left.now (omega arith))
