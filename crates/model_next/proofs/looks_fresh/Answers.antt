use Rattle.model_next.specs.Walk.{plain, held}
use Rattle.model_next.proofs.Laws.{fresh_stands}
use Rattle.model_next.proofs.looks_fresh.Goals as goal

pub returns-clause-plain : goal.returns-clause-plain
returns-clause-plain c = fresh_stands plain

pub returns-clause-with_permits : goal.returns-clause-with_permits
returns-clause-with_permits c = fresh_stands held
