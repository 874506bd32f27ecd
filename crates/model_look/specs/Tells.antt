-- What a look at a node says of the tree.
use Rattle.std.specs.Prelude.{◌≡◌, ℕ, suc, ◌+◌, ◌<◌, Bool, true, List, [], ◌∷◌, ◌++◌, length, take, drop, Some, None, Option, ◌≢◌, slice_index, slice_index_or}
use Rattle.keys.specs.Room.{longest_key}
use Rattle.nodes.specs.declared.child.NodeKind.{NodeKind}
use Rattle.nodes.specs.declared.child.NodeKind.TheVariants.{Node4, Node16, Node48, Node256}
use Rattle.nodes.specs.declared.child.Child.{Child}
use Rattle.nodes.specs.declared.child.Child.TheVariants as kid
use Rattle.nodes.specs.View.{View}
use Rattle.look.specs.declared.seen.Met.TheVariants.{Parts, Ends, Goes}
use Rattle.look.specs.declared.seen.Seen.{Seen}
use Rattle.look.specs.declared.seen.Seen.TheVariants as seen
use Rattle.look.specs.Look.{meet, looked}
use Rattle.model.specs.Bytes.{◌≼◌}
use Rattle.model.specs.Refs.{Kind, Ref, root, IsNode}
use Rattle.model.specs.Tree.{Tree, child, prefix, Ghost, Linked, TreeOk, Holds}
use Rattle.model.specs.Refs.Kind.{four, sixteen, forty_eight, whole}
use Rattle.model.specs.Refs.Ref.{leaf, node}
use Rattle.model_tree.specs.Meets.{Lacks}

-- a prefix p and the rest r of a key
pub record Meeting (p r : List ℕ) : Type 0 where
  pub goes : (b : ℕ) → meet p r ≡ Goes b → (b ≡ slice_index r (length p)) × ((p ++ (b ∷ [])) ≼ r)
  pub parts : (i : ℕ) → meet p r ≡ Parts i
      → (i < length p) × (take i p ++ (slice_index p i ∷ []) ++ drop (suc i) p ≡ p) × ((take i p ++ (slice_index r i ∷ [])) ≼ r) × (slice_index r i ≢ slice_index p i)
  pub ends : meet p r ≡ Ends → r ≼ p

abbrev pub MeetsTell : Type 0
MeetsTell = (p r : List ℕ) → Meeting p r

abbrev pub kind_of : NodeKind → Kind
kind_of Node4 = four
kind_of Node16 = sixteen
kind_of Node48 = forty_eight
kind_of Node256 = whole

abbrev pub ref_of : Child → Ref
ref_of (kid.Leaf s) = leaf s
ref_of (kid.Node k s) = node (kind_of k) s

abbrev pub refs : Option Child → Option Ref
refs None = None
refs (Some c) = Some (ref_of c)

-- the tree has at x the prefix p and the children f
pub record Shows (S : Tree) (x : Ref) (p : List ℕ) (f : View) : Type 0 where
  pub same_prefix : prefix S x ≡ p
  pub same_child : (b : ℕ) → child S x b ≡ refs (f b)

-- a walk for k is at x, and d of the key's bytes come before x's prefix
pub record Walks (S : Tree) (G : Ghost) (x : Ref) (k : List ℕ) (d : ℕ) : Type 0 where
  pub at : IsNode x
  pub here : Linked G x
  pub steady : G.path x ++ prefix S x ≡ G.full x
  pub way : G.path x ≼ k
  pub depth : length (G.path x) ≡ d

-- the key parts from the prefix p at place i
pub record Missed (S : Tree) (G : Ghost) (x : Ref) (p k : List ℕ) (d i : ℕ) : Type 0 where
  pub inside : i < length p
  pub apart : slice_index_or k (d + i) 0 ≡ slice_index p i → ⊥
  pub cut : G.path x ++ take i p ++ (slice_index p i ∷ []) ++ drop (suc i) p ≡ G.full x
  pub way : (G.path x ++ take i p ++ (slice_index k (d + i) ∷ [])) ≼ k
  pub lacks : Lacks S G k

-- the key goes on past x by the byte b, where o stands
pub record GoesOn (S : Tree) (G : Ghost) (x : Ref) (k : List ℕ) (b : ℕ) (o : Option Ref) : Type 0 where
  pub there : child S x b ≡ o
  pub way : (G.full x ++ (b ∷ [])) ≼ k

pub record LeafSeen (S : Tree) (G : Ghost) (k : List ℕ) (s : ℕ) : Type 0 where
  pub other : ((S.entries s).key ≢ k) → Lacks S G k
  pub same : (S.entries s).key ≡ k → Holds S G k (S.entries s).value

pub record NodeSeen (G : Ghost) (k : List ℕ) (y : Ref) (e : ℕ) : Type 0 where
  pub linked' : Linked G y
  pub way : G.path y ≼ k
  pub depth : length (G.path y) ≡ e

abbrev pub Tells : (List ℕ → Type 0) → Tree → Ghost → Ref → List ℕ → List ℕ → ℕ → Seen → Type 0
Tells Key S G x p k d seen.Stale = Key k → ⊥
Tells Key S G x p k d (seen.Miss i) = Missed S G x p k d i
Tells Key S G x p k d seen.Empty = GoesOn S G x k (slice_index k (d + length p)) None × Lacks S G k
Tells Key S G x p k d (seen.Leaf s) = GoesOn S G x k (slice_index k (d + length p)) (Some (leaf s)) × LeafSeen S G k s
Tells Key S G x p k d (seen.Node c s e) =
    GoesOn S G x k (slice_index k (d + length p)) (Some (node (kind_of c) s)) × NodeSeen G k (node (kind_of c) s) e

-- what r, seen at the prefix p and the children f, says of any tree in which they stand on the key's way;
-- a contract holds no statement over all predicates, so this is over tests
abbrev pub Told : List ℕ → View → List ℕ → ℕ → Seen → Type 0
Told p f k d r = (key : List ℕ → Bool) (flux : Ref → Bool) (S : Tree) (G : Ghost) → TreeOk longest_key (λ k. key k ≡ true) (λ x. flux x ≡ true) S G
    → (x : Ref) → Shows S x p f → Walks S G x k d → Tells (λ k. key k ≡ true) S G x p k d r

abbrev pub LooksTell : Type 0
LooksTell = (p : List ℕ) (f : View) (k : List ℕ) (d : ℕ) → Told p f k d (looked p f k d)

-- a walk starts at the root, and a node that it saw and that is not in flux is where it goes on
pub record GoesDown (flux : Ref → Type 0) (S : Tree) (G : Ghost) (k : List ℕ) : Type 0 where
  pub start : Walks S G root k 0
  pub next : (y : Ref) (e : ℕ) → IsNode y → (flux y → ⊥) → NodeSeen G k y e → Walks S G y k e

abbrev pub WalksGo : Type 0
WalksGo = (key : List ℕ → Bool) (flux : Ref → Bool) (S : Tree) (G : Ghost) → TreeOk longest_key (λ k. key k ≡ true) (λ x. flux x ≡ true) S G
    → (k : List ℕ) → GoesDown (λ x. flux x ≡ true) S G k
