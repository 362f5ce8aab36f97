use Rattle.std.proofs.Common.{◌≡◌, ap, ◌∙◌, rules, tests}
use Rattle.processor.specs.Sources.{last_of, from_departure}
use Rattle.processor.proofs.Last.{found_last}
use Rattle.processor.proofs.sources.last_store.Goals as goal

pub returns : goal.returns
returns c =
    let (p, from, said) = c.find_map.ensures.runs in
    let (q, start, same) = c.rev.ensures.runs p p.seen from in
    let all : q.from.rest.now ≡ c.args.left.now = cc in
    found_last p q same (λ y. y.now) q.from.rest.now (c.iter.ensures.runs_back q q.seen) (from_departure c.args.at) (λ x o f k. search (rules, tests)) c.find_map.result said
    ∙ ap (last_of (from_departure c.args.at)) all
