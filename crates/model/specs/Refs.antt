-- Leaves and nodes by their slots.
use Rattle.std.specs.Prelude.{◌≡◌, ℕ, Bool, true, false}
use Rattle.std.proofs.Math.Decide.{ℕ_discrete}

pub data Kind : Type 0 where
  four sixteen forty_eight whole : Kind
  deriving Discrete as Kind-discrete

-- how many children a node has room for
abbrev pub room : Kind → ℕ
room four = 4
room sixteen = 16
room forty_eight = 48
room whole = 256

-- a leaf, or an inner node, by its slot
pub data Ref : Type 0 where
  leaf : ℕ → Ref
  node : Kind → ℕ → Ref
  deriving Discrete as Ref-discrete

abbrev pub same : (x y : Ref) → Dec (x ≡ y)
same x y = Ref-discrete ℕ_discrete Kind-discrete x y

unfoldable pub is : Ref → Ref → Bool
is x y = elim (same x y) [ yes _ ↦ true | no _ ↦ false ]

abbrev pub root : Ref
root = node whole 0

abbrev pub IsNode : Ref → Type 0
IsNode (leaf i) = ⊥
IsNode (node k i) = Unit {0}

-- the pool that a slot belongs to: 1 for leaves, else the kind's number
abbrev pub pool : Ref → ℕ
pool (leaf i) = 1
pool (node k i) = room k
