-- What holds of a seat with an operation of find, add or remove on its way down.
use Rattle.std.specs.Prelude.{◌≡◌, ℕ, ◌<◌, ◌≤◌, List, [], ◌∷◌, length, Some}
use Rattle.model.specs.Bytes.{◌≼◌}
use Rattle.model.specs.Refs.{Ref, root, IsNode}
use Rattle.model.specs.Tree.{Linked}
use Rattle.model.specs.Holds.{Hold}
use Rattle.model.specs.Operations.{Operation, Stage}
use Rattle.model.specs.Sights.{seen, onward}
use Rattle.machine.specs.State.{State, Numbers}
use Rattle.machine.specs.Choices.{decided}
use Rattle.invariant.specs.Ghosts.{Ghosts, ghost, SoundAt, Safe}

module _ (N : Numbers) (σ : State) (g : Ghosts) (o : Operation) where
  -- while a check of h would pass, h is linked, and the key begins with its path
  abbrev pub Placed : Hold → Type 0
  Placed h = SoundAt σ h → Linked (ghost g) h.at × (g.path h.at ≼ o.key) × (length (g.path h.at) ≡ h.depth)

  -- while a check of p would pass, a look at p leads to y
  abbrev pub LeadsTo : Hold → Ref → ℕ → Type 0
  LeadsTo p y d = SoundAt σ p → seen N.deep σ.tree o.key p.at p.depth ≡ onward y d

  -- while a check of n would pass, a look at n decides on this stage
  abbrev pub Decides : Hold → Stage → Type 0
  Decides n k = SoundAt σ n → decided σ.tree o.key n o.task (seen N.deep σ.tree o.key n.at n.depth) ≡ Some k

  -- p led to n, or to the node that will be taken
  pub record Above (p : Hold) (y : Ref) (d : ℕ) : Type 0 where
    pub placed : Placed p
    pub leads : LeadsTo p y d
    pub deeper : p.depth < d
    pub within : d ≤ N.deep
    pub inner : y ≡ root → ⊥

  -- where a walk stands at n: at the root with nothing else held, or below p
  pub data Stand : List Hold → Hold → Type 0 where
    at_root : (n : Hold) → n.at ≡ root → n.depth ≡ 0 → Placed n → Stand [] n
    below : (p n : Hold) → Above p n.at n.depth → Placed n → Stand (p ∷ []) n

  -- what is held above p: nothing, or a node that the walk came through
  pub data Aloft (p : Hold) : List Hold → Type 0 where
    none_aloft : Aloft p []
    one_aloft : (q : Hold) → Placed q → q.depth < p.depth → Aloft p (q ∷ [])

  -- a node that is held or is to be taken
  abbrev pub Reads : Ref → Type 0
  Reads x = IsNode x × Safe o.begun g x
