-- The writes that link or unlink, what each needs, and what it leaves.
use Rattle.std.specs.Prelude.{◌≡◌, ℕ, ◌<◌, ◌≤◌, ◌⊎◌, List, [], ◌∷◌, ◌++◌, length, Some, None, Option, ◌≢◌}
use Rattle.model.specs.Bytes.{◌≼◌}
use Rattle.model.specs.Refs.{Ref, root, IsNode}
use Rattle.model.specs.Tree.{Tree, child, prefix, fan, cap, Ghost, Linked, Retired, TreeOk, Holds}
use Rattle.model.specs.Refs.Ref.{leaf}
use Rattle.model.specs.Tree.Status.{drawn, retired}
use Rattle.model_tree.specs.Graft.{Turned, Closed, UpTo}

-- what is known of the bytes of accepted keys
pub record Laws (deep : ℕ) (Key : List ℕ → Type 0) : Type 0 where
  pub fits : (k : List ℕ) → Key k → length k ≤ deep
  pub apart : (k j : List ℕ) → Key k → Key j → k ≼ j → k ≡ j
  pub bytes : (k u : List ℕ) (b : ℕ) → Key k → (u ++ (b ∷ [])) ≼ k → b < 256

-- a drawn leaf that holds k and v
pub record Fresh (Key : List ℕ → Type 0) (S : Tree) (G : Ghost) (i : ℕ) (k : List ℕ) (v : ℕ) : Type 0 where
  pub drawn' : G.st (leaf i) ≡ drawn
  pub key : (S.entries i).key ≡ k
  pub value : (S.entries i).value ≡ v
  pub accepted : Key k

-- a drawn node with two children
pub record Fork (S : Tree) (G : Ghost) (y : Ref) (c : ℕ) (u : Ref) (d : ℕ) (w : Ref) : Type 0 where
  pub node' : IsNode y
  pub drawn' : G.st y ≡ drawn
  pub c_byte : c < 256
  pub d_byte : d < 256
  pub apart : c ≡ d → ⊥
  pub first : child S y c ≡ Some u
  pub second : child S y d ≡ Some w
  pub rest : (e : ℕ) → (e ≢ c) → (e ≢ d) → child S y e ≡ None

pub record Insert (Key : List ℕ → Type 0) (S : Tree) (G : Ghost) (n : Ref) (b i : ℕ) (k : List ℕ) (v : ℕ) : Type 0 where
  pub at : IsNode n
  pub here : Linked G n
  pub byte : b < 256
  pub free : child S n b ≡ None
  pub room : fan S n < cap n
  pub way : (G.full n ++ (b ∷ [])) ≼ k
  pub fresh : Fresh Key S G i k v

-- y takes the place of the leaf j, and has j and i as children
pub record Split (Key : List ℕ → Type 0) (S : Tree) (G : Ghost) (n : Ref) (b j : ℕ) (y : Ref) (c d i : ℕ) (k : List ℕ) (v : ℕ) : Type 0 where
  pub at : IsNode n
  pub here : Linked G n
  pub byte : b < 256
  pub there : child S n b ≡ Some (leaf j)
  pub fork : Fork S G y c (leaf i) d (leaf j)
  pub way : (G.full n ++ (b ∷ []) ++ prefix S y ++ (c ∷ [])) ≼ k
  pub way_other : (G.full n ++ (b ∷ []) ++ prefix S y ++ (d ∷ [])) ≼ (S.entries j).key
  pub fresh : Fresh Key S G i k v

-- y takes the place of n under p, with n's children and the leaf i
pub record Grow (Key : List ℕ → Type 0) (S : Tree) (G : Ghost) (p : Ref) (b : ℕ) (n y : Ref) (c i : ℕ) (k : List ℕ) (v : ℕ) : Type 0 where
  pub at : IsNode p
  pub here : Linked G p
  pub byte : b < 256
  pub there : child S p b ≡ Some n
  pub old : IsNode n
  pub steady : G.path n ++ prefix S n ≡ G.full n
  pub node' : IsNode y
  pub drawn' : G.st y ≡ drawn
  pub same_prefix : prefix S y ≡ prefix S n
  pub c_byte : c < 256
  pub free : child S n c ≡ None
  pub added : child S y c ≡ Some (leaf i)
  pub rest : (e : ℕ) → (e ≢ c) → child S y e ≡ child S n e
  pub way : (G.full n ++ (c ∷ [])) ≼ k
  pub fresh : Fresh Key S G i k v

-- y comes between p and n, whose prefix was cut before; it has n and the leaf i as children
pub record Miss (Key : List ℕ → Type 0) (S : Tree) (G : Ghost) (p : Ref) (b : ℕ) (n y : Ref) (c d i : ℕ) (k : List ℕ) (v : ℕ) : Type 0 where
  pub at : IsNode p
  pub here : Linked G p
  pub byte : b < 256
  pub there : child S p b ≡ Some n
  pub old : IsNode n
  pub cut : G.path n ++ prefix S y ++ (d ∷ []) ++ prefix S n ≡ G.full n
  pub fork : Fork S G y c (leaf i) d n
  pub way : (G.path n ++ prefix S y ++ (c ∷ [])) ≼ k
  pub fresh : Fresh Key S G i k v

pub record InPlace (S : Tree) (G : Ghost) (n : Ref) (b i : ℕ) : Type 0 where
  pub at : IsNode n
  pub here : Linked G n
  pub byte : b < 256
  pub there : child S n b ≡ Some (leaf i)
  pub enough : (n ≢ root) → 3 ≤ fan S n

-- n has the leaf i and w left; w takes its place under p
pub record Collapse (S : Tree) (G : Ghost) (p : Ref) (b : ℕ) (n : Ref) (c i d : ℕ) (w : Ref) : Type 0 where
  pub at : IsNode p
  pub here : Linked G p
  pub byte : b < 256
  pub there : child S p b ≡ Some n
  pub apart : c ≡ d → ⊥
  pub first : child S n c ≡ Some (leaf i)
  pub second : child S n d ≡ Some w
  pub rest : (e : ℕ) → (e ≢ c) → (e ≢ d) → child S n e ≡ None
  -- a node was given its longer prefix before
  pub joined : IsNode w → G.path n ++ prefix S w ≡ G.full w

-- the tree after a write: good again, with everybody's new place
pub record After (deep : ℕ) (Key : List ℕ → Type 0) (flux : Ref → Type 0) (S T : Tree) (G : Ghost) (new old moved : List Ref) (now : ℕ) : Type 0 where
  pub ghost' : Ghost
  pub turned : Turned G ghost' new old moved now
  pub good : TreeOk deep Key flux T ghost'
  pub closed : UpTo G now → Closed S G → Closed T ghost'

abbrev pub Added : Tree → Ghost → Tree → Ghost → List ℕ → ℕ → Type 0
Added S G T H k v = (j : List ℕ) (u : ℕ) → (Holds T H j u → ((j ≡ k) × (u ≡ v)) ⊎ Holds S G j u) × (((j ≡ k) × (u ≡ v)) ⊎ Holds S G j u → Holds T H j u)

abbrev pub Removed : Tree → Ghost → Tree → Ghost → List ℕ → Type 0
Removed S G T H k = (j : List ℕ) (u : ℕ) → (Holds T H j u → Holds S G j u × (j ≢ k)) × (Holds S G j u × (j ≢ k) → Holds T H j u)

-- only the prefix of n is written, and n is in flux from then on
pub record Moves (flux flux' : Ref → Type 0) (S T : Tree) (n : Ref) : Type 0 where
  pub others : (x : Ref) → (x ≢ n) → prefix T x ≡ prefix S x
  pub kids : (x : Ref) (c : ℕ) → child T x c ≡ child S x c
  pub entries : (i : ℕ) → T.entries i ≡ S.entries i
  pub from : (x : Ref) → flux x → flux' x
  pub now : flux' n
  pub inner : n ≡ root → ⊥

-- the map m is what is held
abbrev pub Means : (List ℕ → Option ℕ) → Tree → Ghost → Type 0
Means m S G = (k : List ℕ) (v : ℕ) → (m k ≡ Some v → Holds S G k v) × (Holds S G k v → m k ≡ Some v)

-- n is m with o at the key k
pub record Put (m n : List ℕ → Option ℕ) (k : List ℕ) (o : Option ℕ) : Type 0 where
  pub at : n k ≡ o
  pub elsewhere : (j : List ℕ) → (j ≢ k) → n j ≡ m j

-- nothing linked is touched: a slot is drawn and filled, put back, or freed
pub record Aside (S T : Tree) (G H : Ghost) : Type 0 where
  pub to : (x : Ref) → Linked G x → Linked H x
  pub from : (x : Ref) → Linked H x → Linked G x
  pub kids : (x : Ref) → Linked G x ⊎ Retired H x → (c : ℕ) → child T x c ≡ child S x c
  pub prefixes : (x : Ref) → Linked G x → prefix T x ≡ prefix S x
  pub entries : (i : ℕ) → Linked G (leaf i) → T.entries i ≡ S.entries i
  pub paths : (x : Ref) → Linked G x → H.path x ≡ G.path x
  pub fulls : (x : Ref) → Linked G x → H.full x ≡ G.full x
  pub since : (x : Ref) (r : ℕ) → H.st x ≡ retired r → G.st x ≡ retired r
  -- who is freed was retired before whoever is not
  pub later : (x y : Ref) (r q : ℕ) → H.st x ≡ retired r → G.st y ≡ retired q → r ≤ q → H.st y ≡ retired q
  pub room : (x : Ref) → IsNode x → fan T x ≤ cap x
