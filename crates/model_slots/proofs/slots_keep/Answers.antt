use Rattle.model_slots.proofs.slots_keep.Goals as goal
use Rattle.model_slots.proofs.Promised.{promise}

pub returns : goal.returns
returns c = promise
