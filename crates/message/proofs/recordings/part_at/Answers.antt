use Rattle.std.proofs.Common.{◌≡◌, ℕ, ◌*◌, take, drop, refl, ap, ◌∙◌, arith}
use Rattle.message.proofs.Walks.{part_rest}
use Rattle.message.proofs.recordings.part_at.Goals as goal

pub returns : goal.returns
returns c =
    let xs = c.args.recording.now in
    let at : c.in_ok-start.start ≡ 16 * c.args.ordinal = omega (arith, c.in_ok-start.ensures) in
    record {
      within = omega arith;
      block = refl;
      place = omega arith;
      bytes = part_rest xs c.in_ok-start.start c.min.result c.min.ensures ∙ ap (λ (s : ℕ). take 16 (drop s xs)) at;
    }
