use Rattle.model_next.proofs.Examples.{sights_stand}
use Rattle.model_next.proofs.small_tree.Goals as goal

pub returns : goal.returns
returns c = sights_stand
