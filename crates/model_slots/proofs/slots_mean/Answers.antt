use Rattle.model_slots.proofs.slots_mean.Goals as goal
use Rattle.model_slots.proofs.Words.{words}

pub returns : goal.returns
returns c = words
