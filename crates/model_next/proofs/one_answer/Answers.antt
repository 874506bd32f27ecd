use Rattle.model_next.proofs.Laws.{one_stands}
use Rattle.model_next.proofs.one_answer.Goals as goal

pub returns : goal.returns
returns c = one_stands
