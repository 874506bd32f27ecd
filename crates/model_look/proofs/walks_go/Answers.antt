use Rattle.model_look.proofs.walks_go.Goals as goal
use Rattle.model_look.proofs.Looking.{walks_go_lem}

pub returns : goal.returns
returns c = walks_go_lem
