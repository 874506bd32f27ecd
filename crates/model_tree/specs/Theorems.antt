-- What is proved of the tree.
use Rattle.std.specs.Prelude.{◌≡◌, ℕ, ◌+◌, ◌<◌, Bool, true, ◌⊎◌, List, [], ◌∷◌, ◌++◌, length, Some, None, Option, ◌≢◌}
use Rattle.model.specs.Bytes.{◌≼◌}
use Rattle.model.specs.Refs.{Ref, root, IsNode}
use Rattle.model.specs.Tree.{Tree, child, prefix, Ghost, Linked, TreeOk, Holds, Reach}
use Rattle.model.specs.Refs.Ref.{leaf}
use Rattle.model_tree.specs.Graft.{Wrote, Graft, Closed, UpTo, In}
use Rattle.model_tree.specs.Writes.{Laws, Insert, Split, Grow, Miss, InPlace, Collapse, After, Added, Removed, Moves, Means, Put, Aside}
use Rattle.model_tree.specs.Meets.{Meet, Stands, Lacks}

-- what a good tree says of itself
pub record Reads (S : Tree) (G : Ghost) : Type 0 where
  pub reached : (z : Ref) → (Linked G z → Reach S root z) × (Reach S root z → Linked G z)
  pub under : (x z : Ref) → Linked G x → Reach S x z → Linked G z × (G.path x ≼ G.path z)
  pub compared : (x z : Ref) → Linked G x → Linked G z → G.path x ≼ G.path z → Reach S x z
  pub path_one : (x z : Ref) → Linked G x → Linked G z → G.path x ≡ G.path z → z ≡ x
  pub key_one : (i j : ℕ) → Linked G (leaf i) → Linked G (leaf j) → (S.entries i).key ≡ (S.entries j).key → leaf i ≡ leaf j
  pub full_one : (x z : Ref) → IsNode x → IsNode z → Linked G x → Linked G z → G.full x ≡ G.full z → x ≡ z
  pub parent_one : (x z : Ref) (b c : ℕ) (y : Ref) → Linked G x → Linked G z → child S x b ≡ Some y → child S z c ≡ Some y → (x ≡ z) × (b ≡ c)
  pub branch : (x : Ref) (i : ℕ) → IsNode x → Linked G x → Linked G (leaf i) → G.path x ≼ (S.entries i).key
      → (b : ℕ) × (y : Ref) × (child S x b ≡ Some y) × Reach S y (leaf i) × ((G.full x ++ (b ∷ [])) ≼ (S.entries i).key)
  pub absent : (x : Ref) (k : List ℕ) → IsNode x → Linked G x → G.path x ≼ k
      → ((b : ℕ) (y : Ref) → (G.full x ++ (b ∷ [])) ≼ k → child S x b ≡ Some y → (j : ℕ) × (y ≡ leaf j) × ((S.entries j).key ≢ k))
      → (v : ℕ) → Holds S G k v → ⊥
  pub present : (x : Ref) (b i : ℕ) → Linked G x → child S x b ≡ Some (leaf i) → Holds S G (S.entries i).key (S.entries i).value

-- what a walk for k learns at x, where the key goes on by r
pub record Looks (deep : ℕ) (Key : List ℕ → Type 0) (S : Tree) (G : Ghost) (x : Ref) (k r : List ℕ) : Type 0 where
  pub meet : Meet (prefix S x) r
  pub goes_on : Key k → (r ≼ prefix S x → ⊥) × (length (G.path x) + length (prefix S x) < deep)
  pub differs : (q : List ℕ) (d c : ℕ) (u : List ℕ) → q ++ (d ∷ []) ++ u ≡ prefix S x → (q ++ (c ∷ [])) ≼ r → (c ≢ d) → Lacks S G k
  pub none : (b : ℕ) → (prefix S x ++ (b ∷ [])) ≼ r → child S x b ≡ None → Lacks S G k
  pub other : (b : ℕ) (j : ℕ) → (prefix S x ++ (b ∷ [])) ≼ r → child S x b ≡ Some (leaf j) → ((S.entries j).key ≢ k) → Lacks S G k
  pub same : (b : ℕ) (j : ℕ) → child S x b ≡ Some (leaf j) → (S.entries j).key ≡ k → Holds S G k (S.entries j).value
  pub down : (b : ℕ) (y : Ref) → IsNode y → (prefix S x ++ (b ∷ [])) ≼ r → child S x b ≡ Some y → Linked G y × (G.path y ≼ k) × (length (G.path y) ≡ length (G.path x) + length (prefix S x) + 1)
  pub parts : Laws deep Key → Key k → (b j : ℕ) → (prefix S x ++ (b ∷ [])) ≼ r → child S x b ≡ Some (leaf j) → ((S.entries j).key ≢ k)
      → (q : List ℕ) × (c : ℕ) × (d : ℕ) × (c ≢ d) × (c < 256) × (d < 256)
      × ((G.full x ++ (b ∷ []) ++ q ++ (c ∷ [])) ≼ k) × ((G.full x ++ (b ∷ []) ++ q ++ (d ∷ [])) ≼ (S.entries j).key)

-- of any bound, any accepted keys, and any nodes in flux before and after
pub record Keeps (deep : ℕ) (Key : List ℕ → Type 0) (flux flux' : Ref → Type 0) : Type 0 where
  pub reads : (S : Tree) (G : Ghost) → TreeOk deep Key flux S G → Reads S G
  pub graft : (S T : Tree) (G H : Ghost) (a : Ref) (b : ℕ) (z : Option Ref) (new old moved : List Ref) (now : ℕ)
      → TreeOk deep Key flux S G → Graft deep Key flux flux' S T G H a b z new old moved now
      → TreeOk deep Key flux' T H × (UpTo G now → Closed S G → Closed T H)
      × ((x : Ref) → (Linked H x → In x new ⊎ (Linked G x × (In x old → ⊥))) × (In x new ⊎ (Linked G x × (In x old → ⊥)) → Linked H x))
  pub insert : (S T : Tree) (G : Ghost) → TreeOk deep Key flux S G → (n : Ref) (b i : ℕ) (k : List ℕ) (v now : ℕ)
      → Insert Key S G n b i k v → Wrote S T n b (Some (leaf i))
      → (A : After deep Key flux S T G (leaf i ∷ []) [] [] now) × Added S G T A.ghost' k v
  pub split : (S T : Tree) (G : Ghost) → Laws deep Key → TreeOk deep Key flux S G → (n : Ref) (b j : ℕ) (y : Ref) (c d i : ℕ) (k : List ℕ) (v now : ℕ)
      → Split Key S G n b j y c d i k v → Wrote S T n b (Some y)
      → (A : After deep Key flux S T G (y ∷ leaf i ∷ []) [] (leaf j ∷ []) now) × Added S G T A.ghost' k v
  pub grow : (S T : Tree) (G : Ghost) → TreeOk deep Key flux S G → (p : Ref) (b : ℕ) (n y : Ref) (c i : ℕ) (k : List ℕ) (v now : ℕ)
      → Grow Key S G p b n y c i k v → Wrote S T p b (Some y)
      → (A : After deep Key flux S T G (y ∷ leaf i ∷ []) (n ∷ []) [] now) × Added S G T A.ghost' k v
  pub miss : (S T : Tree) (G : Ghost) → Laws deep Key → TreeOk deep Key flux S G → (p : Ref) (b : ℕ) (n y : Ref) (c d i : ℕ) (k : List ℕ) (v now : ℕ)
      → Miss Key S G p b n y c d i k v → Wrote S T p b (Some y) → ((x : Ref) → (x ≢ n) → flux x → flux' x)
      → (A : After deep Key flux' S T G (y ∷ leaf i ∷ []) [] (n ∷ []) now) × Added S G T A.ghost' k v
  pub in_place : (S T : Tree) (G : Ghost) → TreeOk deep Key flux S G → (n : Ref) (b i now : ℕ)
      → InPlace S G n b i → Wrote S T n b None
      → (A : After deep Key flux S T G [] (leaf i ∷ []) [] now) × Removed S G T A.ghost' (S.entries i).key
  pub collapse : (S T : Tree) (G : Ghost) → TreeOk deep Key flux S G → (p : Ref) (b : ℕ) (n : Ref) (c i d : ℕ) (w : Ref) (now : ℕ)
      → Collapse S G p b n c i d w → Wrote S T p b (Some w) → ((x : Ref) → (x ≢ w) → flux x → flux' x)
      → (A : After deep Key flux' S T G [] (n ∷ leaf i ∷ []) (w ∷ []) now) × Removed S G T A.ghost' (S.entries i).key
  pub prefix_write : (S T : Tree) (G : Ghost) → TreeOk deep Key flux S G → (n : Ref) → Moves flux flux' S T n → TreeOk deep Key flux' T G
  pub aside : (S T : Tree) (G H : Ghost) → TreeOk deep Key flux S G → Aside S T G H
      → TreeOk deep Key flux T H × (Closed S G → Closed T H) × ((k : List ℕ) (v : ℕ) → (Holds T H k v → Holds S G k v) × (Holds S G k v → Holds T H k v))
  -- from nothing, by one add, to a tree that holds a key
  pub witness : Laws deep Key → (b v : ℕ) (u : List ℕ) → Key (b ∷ u) → (T : Tree) × (H : Ghost) × TreeOk deep Key flux T H × Holds T H (b ∷ u) v
  pub start : (S : Tree) → 0 < deep → (Key [] → ⊥) → ((x : Ref) (c : ℕ) → child S x c ≡ None) → prefix S root ≡ [] → (G : Ghost) × TreeOk deep Key flux S G × ((k : List ℕ) → Lacks S G k)
  pub looks : (S : Tree) (G : Ghost) → TreeOk deep Key flux S G → (x : Ref) (k r : List ℕ) → Stands S G x k r → Looks deep Key S G x k r

-- the map after an add and a removal
pub record Mapped (S T : Tree) (G H : Ghost) (m n : List ℕ → Option ℕ) (k : List ℕ) : Type 0 where
  pub added : (v : ℕ) → Lacks S G k → Put m n k (Some v) → Added S G T H k v → Means n T H
  pub removed : Put m n k None → Removed S G T H k → Means n T H

abbrev pub MapsKeep : Type 0
MapsKeep = (S T : Tree) (G H : Ghost) (m n : List ℕ → Option ℕ) (k : List ℕ) → Means m S G → Mapped S T G H m n k

-- a contract holds no statement over all predicates, so these are over tests
abbrev pub TreeKeeps : Type 0
TreeKeeps = (deep : ℕ) (key : List ℕ → Bool) (flux flux' : Ref → Bool) → Keeps deep (λ k. key k ≡ true) (λ x. flux x ≡ true) (λ x. flux' x ≡ true)
