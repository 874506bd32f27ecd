use Rattle.std.proofs.Common.{◌≡◌, ℕ, ◌<◌, ◌≤◌, cond, eqb, length, get_or}
use Rattle.nodes.proofs.placed_ops.rename.Given as goal

abbrev pub invariant-loop-i : goal.invariant-loop-i
invariant-loop-i l =
    (length l.places ≡ 256)
    × ((k : ℕ) → k < l.i → get_or l.places k 0 ≡ cond (eqb (get_or l.initial.places k 0) l.old) l.new (get_or l.initial.places k 0))
    × ((k : ℕ) → l.i ≤ k → get_or l.places k 0 ≡ get_or l.initial.places k 0)
