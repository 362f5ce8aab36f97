use Rattle.std.proofs.Common.{◌≡◌, ℕ, List, length, ap, ◌∙◌, arith, Bor}
use Rattle.message.specs.Recordings.{part_at}
use Rattle.processor.proofs.Played.{part_accepted}
use Rattle.processor.proofs.processor.Processor.play.Goals as goal

pub loop-part-preserved : goal.loop-part-preserved
loop-part-preserved c =
    let inv = c.loop-part.invariant in
    let step = c.in-Some.ensures.steps in
    let whole : List ℕ = c.args.recording.now in
    let n : ℕ = c.loop-part.part-iterator.next in
    let part : List ℕ = c.in-Some.part.bytes.now in
    let same : c.loop-part.part-iterator.recording.now ≡ whole = inv.2 in
    let is : part ≡ part_at whole n = step.1.bytes ∙ (ap (λ (l : List ℕ). part_at l c.in-Some.part.ordinal) same ∙ ap (λ (k : ℕ). part_at whole k) step.0) in (
      tt,
      tt,
      ap (λ (r : Bor (List ℕ)). r.now) step.2 ∙ same,
      omega (arith, step.0, step.3, step.1.within, ap length same),
      rw (step.3) (part_accepted c.args.self.now c.loop-part.self c.log.new.self whole n part inv.4 is c.in_default.ensures),
    )
