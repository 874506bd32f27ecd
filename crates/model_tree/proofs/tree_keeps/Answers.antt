use Rattle.model_tree.proofs.tree_keeps.Goals as goal
use Rattle.model_tree.proofs.Theorems.{tree_keeps_lem}

pub returns : goal.returns
returns c = tree_keeps_lem
