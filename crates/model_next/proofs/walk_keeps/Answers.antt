use Rattle.model_next.specs.Walk.{plain, held}
use Rattle.model_next.proofs.Laws.{walk_stands}
use Rattle.model_next.proofs.walk_keeps.Goals as goal

pub returns-clause-plain : goal.returns-clause-plain
returns-clause-plain c = walk_stands plain

pub returns-clause-with_permits : goal.returns-clause-with_permits
returns-clause-with_permits c = walk_stands held
