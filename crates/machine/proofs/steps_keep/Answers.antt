use Rattle.machine.proofs.Keeping.{steps_keep_lem}
use Rattle.machine.proofs.steps_keep.Goals as goal

pub returns : goal.returns
returns c = steps_keep_lem
