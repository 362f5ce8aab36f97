use Rattle.std.proofs.Common.{rules, arith}
use Rattle.processor.specs.Memory.{InLine}
use Rattle.processor.proofs.MachineFacts.{loads-facts}
use Rattle.processor.proofs.processor.Processor.keep_load.Goals as goal

pub invariant_of-self : goal.invariant_of-self
invariant_of-self c =
    let in_line : InLine c.args.access = search rules in
    loads-facts _ c.self.invariant c.push.new.self _ c.push.result c.push.ensures (omega (arith, c.run-run.ensures)) in_line
