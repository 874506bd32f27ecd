use Rattle.look.proofs.Meeting.{parts_inside}
use Rattle.look.proofs.look_ops.ranks.Goals as goal

pub at-requires : goal.at-requires
at-requires c = (parts_inside _ _ _ c.in-Parts.ensures).0

pub bounds-rest-i : goal.bounds-rest-i
bounds-rest-i c = rw c.rest_of-rest.ensures (parts_inside _ _ _ c.in-Parts.ensures).1
