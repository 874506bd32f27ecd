use Rattle.model_look.proofs.meets_tell.Goals as goal
use Rattle.model_look.proofs.Meeting.{meeting}

pub returns : goal.returns
returns c = meeting
