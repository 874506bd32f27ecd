use Rattle.model_look.proofs.compares_alike.Goals as goal
use Rattle.model_look.proofs.Comparing.{compares}

pub returns : goal.returns
returns c = compares
