use Rattle.model_look.proofs.looks_tell.Goals as goal
use Rattle.model_look.proofs.Looking.{looks_tell_lem}

pub returns : goal.returns
returns c = looks_tell_lem
