use Rattle.std.proofs.Common.{◌≡◌, ℕ, ◌<◌, ◌≤◌, None}
use Rattle.nodes.specs.Kinds.{of_direct}
use Rattle.nodes.proofs.direct_ops.DirectBranch.from.Given as goal

abbrev pub invariant-loop-i : goal.invariant-loop-i
invariant-loop-i l = (k : ℕ) → l.start ≤ k → k < l.i → of_direct l.self k ≡ None
