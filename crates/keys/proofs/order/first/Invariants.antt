use Rattle.std.proofs.Common.{◌≡◌, length, take}
use Rattle.keys.proofs.order.first.Given as goal

abbrev pub invariant-loop-a : goal.invariant-loop-a
invariant-loop-a l = take (length l.yielded) l.s ≡ take (length l.yielded) l.t
