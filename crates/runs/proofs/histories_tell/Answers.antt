use Rattle.runs.proofs.Telling.{histories_tell_lem}
use Rattle.runs.proofs.histories_tell.Goals as goal

pub returns : goal.returns
returns g c = histories_tell_lem g.C.Coding.accepts g.C.Coding.bytes
