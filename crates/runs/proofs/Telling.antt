-- The history of a run tells its calls, its epoch and its seats.
use Rattle.std.proofs.Common.{ℕ, List}
use Rattle.machine.specs.Told.{HistoriesTell}
use Rattle.machine.proofs.Telling as machine
use Rattle.runs.specs.Runs.{New}

pub histories_tell_lem : {K : Type 0} (accepts : K → Type 0) (bytes : K → List ℕ) → HistoriesTell New accepts bytes
histories_tell_lem accepts bytes = machine.histories_tell_lem accepts bytes New (λ N σ n. n.made)
