use Rattle.walk.proofs.Sights.{same_walk}
use Rattle.walk.proofs.laws.walk_reads_only_what_is_readable.Goals as goal

pub returns : goal.returns
returns c = record { law = same_walk }
