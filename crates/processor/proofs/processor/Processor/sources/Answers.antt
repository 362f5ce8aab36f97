use Rattle.std.proofs.Common.{◌≡◌, ◌+◌, None, ltb, sym, ap, ◌∙◌, inl, inr, arith}
use Rattle.std.proofs.lemmas.Bool.{cases_lt, cond-false, le-ltb}
use Rattle.std.proofs.lemmas.List.FromFn.{fill_by_all}
use Rattle.processor.specs.Memory.{Span}
use Rattle.processor.specs.Sources.{source, source_within}
use Rattle.processor.proofs.processor.Processor.sources.Goals as goal

pub returns : goal.returns
returns c =
    let m = c.args.self.now in
    let x : Span = c.args.access.now in
    let (long, low, high) = c.loop-place.invariant in
    let width : c.access.inside.width ≡ x.width = ap (λ (y : Span). y.width) c.access.view_is in
    fill_by_all (source_within m c.args.thread x) c.loop-place.sources 8 None long (λ i l. elim (cases_lt i c.loop-place.place) [
      | inl b ↦ low i b
      | inr b ↦ high i b ∙ sym (cond-false (ltb i x.width) (source m c.args.thread (x.address + i)) None (le-ltb i x.width (omega arith)))
    ])
