use Rattle.processor.proofs.Sounds.{laws}
use Rattle.processor.proofs.processor.Processor.open.Goals as goal

pub returns-clause-laws : goal.returns-clause-laws
returns-clause-laws c = laws
