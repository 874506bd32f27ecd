use Rattle.model_next.proofs.Laws.{tree_stands}
use Rattle.model_next.proofs.smallest_below.Goals as goal

pub returns : goal.returns
returns c = tree_stands
