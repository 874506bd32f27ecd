use Rattle.model_next.proofs.Laws.{order_stands}
use Rattle.model_next.proofs.byte_order.Goals as goal

pub returns : goal.returns
returns c = order_stands
