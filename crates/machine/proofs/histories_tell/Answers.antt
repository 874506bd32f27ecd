use Rattle.machine.specs.Runs.{New}
use Rattle.machine.proofs.Telling.{histories_tell_lem}
use Rattle.machine.proofs.histories_tell.Goals as goal

pub returns : goal.returns
returns g c = histories_tell_lem g.C.Coding.accepts g.C.Coding.bytes New (λ N σ n. n)
