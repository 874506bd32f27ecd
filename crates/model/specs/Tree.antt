-- The tree as a mathematical value, and what holds of it at every time.
use Rattle.std.specs.Prelude.{◌≡◌, ℕ, zero, suc, ◌+◌, ◌<◌, ◌≤◌, ◌⊎◌, List, [], ◌∷◌, ◌++◌, length, Some, None, Option, ◌≢◌}
use Rattle.model.specs.Bytes.{◌≼◌}
use Rattle.model.specs.Refs.{Kind, room, Ref, leaf, node, root, IsNode}

pub record Content : Type 0 where
  pub prefix : List ℕ
  pub child : ℕ → Option Ref

pub record Entry : Type 0 where
  pub key : List ℕ
  pub value : ℕ

pub record Tree : Type 0 where
  pub contents : Kind → ℕ → Content
  pub entries : ℕ → Entry

abbrev pub child : Tree → Ref → ℕ → Option Ref
child S (leaf i) b = None
child S (node k i) b = (S.contents k i).child b

abbrev pub prefix : Tree → Ref → List ℕ
prefix S (leaf i) = []
prefix S (node k i) = (S.contents k i).prefix

abbrev pub one : Option Ref → ℕ
one None = 0
one (Some y) = 1

-- how many children stand under bytes below n
unfoldable pub count : (ℕ → Option Ref) → ℕ → ℕ
count f zero = 0
count f (suc n) = one (f n) + count f n

unfoldable pub fan : Tree → Ref → ℕ
fan S x = count (child S x) 256

abbrev pub cap : Ref → ℕ
cap (leaf i) = 0
cap (node k i) = room k

pub data Status : Type 0 where
  linked spare drawn : Status
  retired : ℕ → Status

-- path: the bytes before a node's prefix, or up to a leaf with its branch byte; full: path and prefix of a node together
pub record Ghost : Type 0 where
  pub st : Ref → Status
  pub path : Ref → List ℕ
  pub full : Ref → List ℕ

abbrev pub Linked : Ghost → Ref → Type 0
Linked G x = G.st x ≡ linked

abbrev pub Retired : Ghost → Ref → Type 0
Retired G x = (r : ℕ) × (G.st x ≡ retired r)

-- the steady part of the tree; Key are the bytes of accepted keys, deep the bound of depth, flux the nodes whose prefix is being moved
pub record TreeOk (deep : ℕ) (Key : List ℕ → Type 0) (flux : Ref → Type 0) (S : Tree) (G : Ghost) : Type 0 where
  pub root_linked : Linked G root
  pub root_path : G.path root ≡ []
  pub root_full : G.full root ≡ []
  pub root_prefix : prefix S root ≡ []
  pub kid : (x : Ref) (b : ℕ) (y : Ref) → Linked G x → child S x b ≡ Some y → Linked G y × (G.path y ≡ G.full x ++ (b ∷ []))
  pub parent : (y : Ref) → Linked G y → (y ≢ root) → (x : Ref) × (b : ℕ) × Linked G x × (child S x b ≡ Some y)
  pub split : (x : Ref) → IsNode x → Linked G x → (G.path x ≼ G.full x) × ((G.path x ++ prefix S x ≡ G.full x) ⊎ flux x)
  pub entry : (i : ℕ) → Linked G (leaf i) → (G.path (leaf i) ≼ (S.entries i).key) × Key (S.entries i).key
  pub short : (x : Ref) → IsNode x → Linked G x → (length (G.full x) < deep) × ((k : List ℕ) → Key k → k ≼ G.full x → ⊥)
  pub wide : (x : Ref) → IsNode x → (x ≢ root) → Linked G x ⊎ Retired G x → 2 ≤ fan S x
  pub narrow : (x : Ref) → IsNode x → fan S x ≤ cap x

-- what is held: the entry of a linked leaf
abbrev pub Holds : Tree → Ghost → List ℕ → ℕ → Type 0
Holds S G k v = (i : ℕ) × Linked G (leaf i) × ((S.entries i).key ≡ k) × ((S.entries i).value ≡ v)

-- from x down to z by children
pub data Reach (S : Tree) (x : Ref) : Ref → Type 0 where
  here : Reach S x x
  down : {y : Ref} (b : ℕ) (z : Ref) → Reach S x y → child S y b ≡ Some z → Reach S x z
