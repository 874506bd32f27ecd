-- What a step does to the map of what is held.
use Rattle.std.specs.Prelude.{◌≡◌, ℕ, ◌≤◌, List, Some}
use Rattle.std.specs.List.{slice_get}
use Rattle.keys.specs.Bytes.{First}
use Rattle.model.specs.Tree.{Holds}
use Rattle.model.specs.Holds.{Hold}
use Rattle.model.specs.Operations.{Task, find, add, remove, Answer, found, absent, added, present, removed, no_room, first_is, none}
use Rattle.model_tree.specs.Meets.{Lacks}
use Rattle.model_next.specs.Next.{FirstFrom}
use Rattle.machine.specs.State.{State}
use Rattle.invariant.specs.Ghosts.{Ghosts, ghost, SoundAt}
use Rattle.invariant.specs.Changes.{HoldsSame, Puts, Drops}

-- what is held gives this answer to a task with this key
pub data Said (σ : State) (g : Ghosts) : Task → List ℕ → Answer → Type 0 where
  finds : (k : List ℕ) (v : ℕ) → Holds σ.tree (ghost g) k v → Said σ g find k (found v)
  finds_not : (k : List ℕ) → Lacks σ.tree (ghost g) k → Said σ g find k absent
  adds_not : (k : List ℕ) (v w : ℕ) → Holds σ.tree (ghost g) k w → Said σ g (add v) k (present w)
  adds_nowhere : (k : List ℕ) (v pool : ℕ) → Said σ g (add v) k (no_room pool)
  removes_not : (k : List ℕ) → Lacks σ.tree (ghost g) k → Said σ g remove k absent

-- the step of a task that gives this answer
pub data Acted (σ τ : State) (g h : Ghosts) : Task → List ℕ → Answer → Type 0 where
  says : (t : Task) (k : List ℕ) (a : Answer) → Said σ g t k a → HoldsSame σ τ g h → Acted σ τ g h t k a
  puts : (k : List ℕ) (v : ℕ) → Puts σ τ g h k v → Acted σ τ g h (add v) k added
  drops : (k : List ℕ) (v : ℕ) → Drops σ τ g h k v → Acted σ τ g h remove k (removed v)

-- next's answer is the first pair not below its key among what is held, or none where all is below it
pub data NextSaid (Has : List ℕ → ℕ → Type 0) (k : List ℕ) : Answer → Type 0 where
  comes : (a : List ℕ) (v : ℕ) → FirstFrom Has k a v → NextSaid Has k (first_is a v)
  comes_not : ((b : List ℕ) (w : ℕ) → Has b w → First b k) → NextSaid Has k none

-- a permit at place i or behind it would be refused
abbrev pub Unsound : State → List Hold → ℕ → Type 0
Unsound σ hs i = (j : ℕ) × (h : Hold) × (i ≤ j) × (slice_get hs j ≡ Some h) × (SoundAt σ h → ⊥)
