-- Runs from a just made index none of whose nodes has a child.
use Rattle.std.specs.Prelude.{◌≡◌, ℕ, List, None}
use Rattle.model.specs.Refs.{Ref}
use Rattle.model.specs.Tree.{child}
use Rattle.machine.specs.State.{State, Numbers}
use Rattle.machine.specs.Runs as machine

-- just made, and no node has a child, linked or not
pub record New (N : Numbers) (σ : State) : Type 0 where
  pub made : machine.New N σ
  pub children : (x : Ref) (b : ℕ) → child σ.tree x b ≡ None

-- runs from such an index
abbrev pub Run : {K : Type 0} → Numbers → (K → Type 0) → (K → List ℕ) → State → Type 0
Run N accepts bytes σ = machine.Run (New N) N accepts bytes σ
