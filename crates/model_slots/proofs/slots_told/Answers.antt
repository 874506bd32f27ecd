use Rattle.model_slots.proofs.slots_told.Goals as goal
use Rattle.model_slots.proofs.Told.{told}

pub returns : goal.returns
returns c = told
