use Rattle.std.proofs.Common.{◌≡◌, ℕ, ◌<◌, ◌≤◌, None}
use Rattle.nodes.specs.Kinds.{of_placed}
use Rattle.nodes.proofs.placed_ops.PlacedBranch.from.Given as goal

abbrev pub invariant-loop-i : goal.invariant-loop-i
invariant-loop-i l = (k : ℕ) → l.start ≤ k → k < l.i → of_placed l.self k ≡ None
