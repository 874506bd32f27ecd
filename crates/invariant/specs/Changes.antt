-- What a call may change, as the seats that did not make it see it.
use Rattle.std.specs.Prelude.{◌≡◌, ℕ, ◌≤◌, cond, ◌⊎◌, List, Some, ◌≢◌}
use Rattle.model.specs.Refs.{Ref, leaf, root, is, IsNode}
use Rattle.model.specs.Tree.{child, prefix, Status, TreeOk, Holds}
use Rattle.model.specs.Holds.{Hold, Locked}
use Rattle.model.specs.Operations.{Operation, busy}
use Rattle.model_tree.specs.Graft.{Closed, UpTo}
use Rattle.model_tree.specs.Meets.{Lacks}
use Rattle.model_tree.specs.Writes.{Added, Removed}
use Rattle.model_words.specs.Words.{In}
use Rattle.model_words.specs.Effects.{Run}
use Rattle.model_words.specs.Places.{PlacesOk}
use Rattle.model_slots.specs.Slots.{has}
use Rattle.model_slots.specs.Laws.{Mark, linked, spare, drawn, retired}
use Rattle.machine.specs.State.{State, Numbers}
use Rattle.invariant.specs.Ghosts.{Ghosts, ghost, place_at, held_by, words_of, Safe, Flux}
use Rattle.invariant.specs.Invariant.{Spelled, SeatOk}

module _ (σ τ : State) (g h : Ghosts) where
  -- a node keeps its contents and its place
  pub record Same (x : Ref) : Type 0 where
    pub prefix_same : prefix τ.tree x ≡ prefix σ.tree x
    pub child_same : (b : ℕ) → child τ.tree x b ≡ child σ.tree x b
    pub path_same : h.path x ≡ g.path x
    pub full_same : h.full x ≡ g.full x
    pub mark_same : h.mark x ≡ g.mark x

  -- the seat j holds x locked
  abbrev pub LockedBy : ℕ → Ref → Type 0
  LockedBy j x = (e : Hold) × In e (held_by (σ.seats j)) × (e.at ≡ x) × (e.grip ≡ Locked)

  -- a retired slot that no open operation may read
  abbrev pub Unread : Ref → Type 0
  Unread x = (r : ℕ) × (g.mark x ≡ retired r) × ((s : ℕ) (o : Operation) → σ.seats s ≡ busy o → o.begun ≤ r → ⊥)

  -- a call of the seat j, or of none: it changes nodes that j has locked, that it draws or has drawn, or that nobody reads
  pub record Change (N : Numbers) (j : ℕ) : Type 0 where
    pub words : Run N.limit (λ k. k ≡ j) (words_of σ) (words_of τ)
    pub others : (s : ℕ) → (s ≢ j) → τ.seats s ≡ σ.seats s
    pub nodes : (x : Ref) → IsNode x → Same x ⊎ (LockedBy j x ⊎ ((g.mark x ≡ spare) ⊎ ((g.mark x ≡ drawn j) ⊎ Unread x)))
    pub leaves : (i : ℕ) → (τ.tree.entries i ≡ σ.tree.entries i) ⊎ (g.mark (leaf i) ≡ spare)
    pub safe : (s : ℕ) (o : Operation) → σ.seats s ≡ busy o → (x : Ref) → Safe o.begun g x → Safe o.begun h x
    pub drawn' : (x : Ref) (s : ℕ) → (s ≢ j) → g.mark x ≡ drawn s → h.mark x ≡ drawn s
    pub epoch : σ.epoch ≤ τ.epoch

-- the marks after the seat s drew x, and after a write in epoch e that linked new and unlinked old
abbrev pub drew : ℕ → Ref → (Ref → Mark) → Ref → Mark
drew s x μ y = cond (is y x) (drawn s) (μ y)

abbrev pub wrote : ℕ → List Ref → List Ref → (Ref → Mark) → Ref → Mark
wrote e new old μ x = cond (has x old) (retired e) (cond (has x new) linked (μ x))

-- what a step of the seat s leaves, beside the words: a good tree, what the other seats may rely on, and its own seat
pub record Leaves (N : Numbers) (Key : List ℕ → Type 0) (σ τ : State) (g h : Ghosts) (s : ℕ) : Type 0 where
  pub tree : TreeOk N.deep Key (Flux τ) τ.tree (ghost h)
  pub spelled : Spelled N Key τ h
  pub closed' : Closed τ.tree (ghost h)
  pub rootless : (x : Ref) (r b : ℕ) → (ghost h).st x ≡ Status.retired r → child τ.tree x b ≢ Some root
  pub upto : UpTo (ghost h) τ.epoch
  pub places : PlacesOk (place_at h) τ.words
  pub nodes : (x : Ref) → IsNode x → Same σ τ g h x ⊎ (LockedBy σ τ g h s x ⊎ ((g.mark x ≡ spare) ⊎ (g.mark x ≡ drawn s)))
  pub leaves : (i : ℕ) → (τ.tree.entries i ≡ σ.tree.entries i) ⊎ (g.mark (leaf i) ≡ spare)
  pub safe : (t : ℕ) (o : Operation) → σ.seats t ≡ busy o → (x : Ref) → Safe o.begun g x → Safe o.begun h x
  pub drawn' : (x : Ref) (t : ℕ) → (t ≢ s) → g.mark x ≡ drawn t → h.mark x ≡ drawn t
  pub seat : (u : Operation) → τ.seats s ≡ busy u → SeatOk N Key τ h s u

-- the map of what is held stays
abbrev pub HoldsSame : State → State → Ghosts → Ghosts → Type 0
HoldsSame σ τ g h = (k : List ℕ) (v : ℕ) → (Holds τ.tree (ghost h) k v → Holds σ.tree (ghost g) k v) × (Holds σ.tree (ghost g) k v → Holds τ.tree (ghost h) k v)

-- an add puts its pair in where the key was not held; a removal takes out the pair that it answers
pub record Puts (σ τ : State) (g h : Ghosts) (k : List ℕ) (v : ℕ) : Type 0 where
  pub lacked : Lacks σ.tree (ghost g) k
  pub added : Added σ.tree (ghost g) τ.tree (ghost h) k v

pub record Drops (σ τ : State) (g h : Ghosts) (k : List ℕ) (v : ℕ) : Type 0 where
  pub held : Holds σ.tree (ghost g) k v
  pub removed : Removed σ.tree (ghost g) τ.tree (ghost h) k
