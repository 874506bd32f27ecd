use Rattle.std.proofs.Common.{◌≡◌, ◌≤◌, ◌++◌, length, take, drop}
use Rattle.index.specs.Sweeps.{older, freed_by, kept_by, Unswept}
use Rattle.index.specs.Trees.{spare_of, retired_of}
use Rattle.index.proofs.tree.Tree.sweep.Given as goal

-- the first i records are swept, and the kept ones among them stand behind the others
abbrev pub invariant-loop-i : goal.invariant-loop-i
invariant-loop-i l =
    (retired_of l.self ≡ drop l._i (retired_of l.initial.self) ++ kept_by (older l.seats) (take l._i (retired_of l.initial.self)))
    × (spare_of l.self ≡ spare_of l.initial.self ++ freed_by (older l.seats) (take l._i (retired_of l.initial.self)))
    × (l.count ≡ length (freed_by (older l.seats) (take l._i (retired_of l.initial.self))))
    × (l.count ≤ l._i)
    × (l.self.epoch ≡ l.initial.self.epoch)
    × Unswept l.initial.self l.self
