use Rattle.message.proofs.Walks.{complete}
use Rattle.message.proofs.recordings.Recording.new.Goals as goal

pub returns-clause-complete : goal.returns-clause-complete
returns-clause-complete c = complete c.args.bytes
