use Rattle.std.proofs.Common.{◌≡◌, ◌-◌, length, take, ◌∙◌, rules, tests, arith}
use Rattle.std.specs.Option.{option_or}
use Rattle.processor.specs.Sources.{from_departure, last_of}
use Rattle.processor.proofs.Last.{last_or_before}
use Rattle.processor.proofs.sources.last_cached.Goals as goal

pub returns : goal.returns
returns c =
    let f = from_departure c.args.at in
    let D = c.args.left.now in
    let given : c.or_else.result ≡ option_or (f c.departure-item.result) (last_of f (take (length D - 1) D)) = search (rules, tests) in
    given ∙ last_or_before f D c.departure-item.result (omega arith) c.departure-item.is
