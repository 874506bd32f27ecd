use Rattle.model_look.proofs.Looking.{look_says}
use Rattle.model_look.proofs.look_told.Goals as goal

pub returns : goal.returns
returns g c = record { seen = c.look.ensures; told = look_says _ _ _ _ _ c.look.ensures }
