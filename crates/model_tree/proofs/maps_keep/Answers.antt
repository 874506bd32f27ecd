use Rattle.model_tree.proofs.maps_keep.Goals as goal
use Rattle.model_tree.proofs.Theorems.{maps_keep_lem}

pub returns : goal.returns
returns c = maps_keep_lem
