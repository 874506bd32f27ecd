-- One child of one node is exchanged: new ones come in, old ones go out, and some move.
use Rattle.std.specs.Prelude.{◌≡◌, ℕ, ◌<◌, ◌≤◌, ◌⊎◌, List, [], ◌∷◌, ◌++◌, length, Some, Option, ◌≢◌}
use Rattle.model.specs.Bytes.{◌≼◌}
use Rattle.model.specs.Refs.{Ref, root, IsNode}
use Rattle.model.specs.Tree.{Tree, child, prefix, fan, cap, Ghost, Linked}
use Rattle.model.specs.Refs.Ref.{leaf}
use Rattle.model.specs.Tree.Status.{drawn, retired}

abbrev pub In : Ref → List Ref → Type 0
In x [] = ⊥
In x (y ∷ ys) = (x ≡ y) ⊎ In x ys

abbrev pub All : (Ref → Type 0) → List Ref → Type 0
All P [] = Unit {0}
All P (y ∷ ys) = P y × All P ys

-- y is a child of a member of xs
abbrev pub KidOf : Tree → List Ref → Ref → Type 0
KidOf S xs y = (x : Ref) × In x xs × (c : ℕ) × (child S x c ≡ Some y)

-- what the write does to the tree: the child of a under b is now z
pub record Wrote (S T : Tree) (a : Ref) (b : ℕ) (z : Option Ref) : Type 0 where
  pub there : child T a b ≡ z
  pub elsewhere : (x : Ref) (c : ℕ) → (x ≡ a → c ≢ b) → child T x c ≡ child S x c
  pub prefixes : (x : Ref) → prefix T x ≡ prefix S x
  pub entries : (i : ℕ) → T.entries i ≡ S.entries i

-- where everything stands after it
pub record Turned (G H : Ghost) (new old moved : List Ref) (now : ℕ) : Type 0 where
  pub come : All (λ x. (G.st x ≡ drawn) × Linked H x) new
  pub gone : All (λ x. Linked G x × (H.st x ≡ retired now)) old
  pub stay : (x : Ref) → (In x new → ⊥) → (In x old → ⊥) → H.st x ≡ G.st x
  pub paths : (x : Ref) → (In x new → ⊥) → (In x moved → ⊥) → H.path x ≡ G.path x
  pub fulls : (x : Ref) → (In x new → ⊥) → H.full x ≡ G.full x

-- what a node or a leaf in its new place needs
pub record Fits (deep : ℕ) (Key : List ℕ → Type 0) (flux : Ref → Type 0) (S : Tree) (H : Ghost) (x : Ref) : Type 0 where
  pub split : IsNode x → (H.path x ≼ H.full x) × ((H.path x ++ prefix S x ≡ H.full x) ⊎ flux x)
  pub entry : (i : ℕ) → x ≡ leaf i → (H.path x ≼ (S.entries i).key) × Key (S.entries i).key

-- what a node that comes in needs besides
pub record Grown (deep : ℕ) (Key : List ℕ → Type 0) (S : Tree) (H : Ghost) (x : Ref) : Type 0 where
  pub short : IsNode x → (length (H.full x) < deep) × ((k : List ℕ) → Key k → k ≼ H.full x → ⊥)
  pub wide : IsNode x → 2 ≤ fan S x
  pub kids : (c : ℕ) (y : Ref) → child S x c ≡ Some y → Linked H y × (H.path y ≡ H.full x ++ (c ∷ []))

pub record Graft (deep : ℕ) (Key : List ℕ → Type 0) (flux flux' : Ref → Type 0) (S T : Tree) (G H : Ghost) (a : Ref) (b : ℕ) (z : Option Ref) (new old moved : List Ref) (now : ℕ) : Type 0 where
  pub wrote : Wrote S T a b z
  pub turned : Turned G H new old moved now
  pub flows : (x : Ref) → (In x new → ⊥) → (In x moved → ⊥) → flux x → flux' x
  pub at : IsNode a
  pub before : Linked G a
  pub after : Linked H a
  pub enough : (a ≢ root) → 2 ≤ fan T a
  pub room : fan T a ≤ cap a
  pub put : (y : Ref) → z ≡ Some y → Linked H y × (H.path y ≡ G.full a ++ (b ∷ []))
  pub fit : All (Fits deep Key flux' S H) new
  pub grown : All (Grown deep Key S H) new
  pub fit_moved : All (Fits deep Key flux' S H) moved
  -- who comes in hangs from a or from another who comes in
  pub hung : All (λ y. (z ≡ Some y) ⊎ KidOf S new y) new
  -- who goes out or moves hung from a or from another who goes out
  pub cut : All (λ y. (child S a b ≡ Some y) ⊎ KidOf S old y) old
  pub taken : All (λ y. (child S a b ≡ Some y) ⊎ KidOf S old y) moved
  -- who hung there goes out too, or hangs again
  pub kept : (y : Ref) → child S a b ≡ Some y → In y old ⊎ ((z ≡ Some y) ⊎ KidOf S new y)
  pub kept_below : All (λ x. (c : ℕ) (y : Ref) → child S x c ≡ Some y → In y old ⊎ ((z ≡ Some y) ⊎ KidOf S new y)) old

-- what a retired one still shows is linked, or retired no earlier
abbrev pub Closed : Tree → Ghost → Type 0
Closed S G = (x : Ref) (r b : ℕ) (y : Ref) → G.st x ≡ retired r → child S x b ≡ Some y → Linked G y ⊎ ((q : ℕ) × (G.st y ≡ retired q) × (r ≤ q))

abbrev pub UpTo : Ghost → ℕ → Type 0
UpTo G now = (x : Ref) (r : ℕ) → G.st x ≡ retired r → r ≤ now
