use Rattle.std.proofs.Common.{◌≡◌, ℕ, ◌<◌, ◌≤◌, None}
use Rattle.nodes.specs.Walking.{walked, reached}
use Rattle.nodes.proofs.across.carry.Given as goal

abbrev pub invariant-loop-edge : goal.invariant-loop-edge
invariant-loop-edge g l =
    (goal.iterator-loop-edge g).can_next l.edge-iterator
    × (goal.iterator-loop-edge g).is_finite l.edge-iterator
    × (walked l.edge-iterator ≡ l.node)
    × ((k : ℕ) → k < reached l.edge-iterator → g.B.Branch.view l.out k ≡ g.A.Branch.view l.node k)
    × ((k : ℕ) → reached l.edge-iterator ≤ k → g.B.Branch.view l.out k ≡ None)
