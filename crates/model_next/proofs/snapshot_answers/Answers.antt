use Rattle.model_next.specs.Walk.{plain, held}
use Rattle.model_next.proofs.Snapshot.{snapshot_stands}
use Rattle.model_next.proofs.snapshot_answers.Goals as goal

pub returns-clause-plain : goal.returns-clause-plain
returns-clause-plain c = snapshot_stands plain

pub returns-clause-with_permits : goal.returns-clause-with_permits
returns-clause-with_permits c = snapshot_stands held
