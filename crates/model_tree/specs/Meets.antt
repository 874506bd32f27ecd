-- How the rest of a key meets a prefix, and what that says of the tree.
use Rattle.std.specs.Prelude.{◌≡◌, ℕ, List, [], ◌∷◌, ◌++◌, ◌≢◌}
use Rattle.model.specs.Bytes.{◌≼◌}
use Rattle.model.specs.Refs.{Ref, IsNode}
use Rattle.model.specs.Tree.{Tree, prefix, Ghost, Linked, Holds}

-- the rest r goes on past p by the byte b; or the two differ after q, p by d and r by c; or r ends
pub data Meet (p r : List ℕ) : Type 0 where
  goes : (b : ℕ) → (p ++ (b ∷ [])) ≼ r → Meet p r
  differs : (q : List ℕ) (d c : ℕ) (s : List ℕ) → q ++ (d ∷ []) ++ s ≡ p → (q ++ (c ∷ [])) ≼ r → (c ≢ d) → Meet p r
  ends : r ≼ p → Meet p r

-- where a walk for the key k stands at x: x is linked, not in flux, and the key goes on by r from x's path
pub record Stands (S : Tree) (G : Ghost) (x : Ref) (k r : List ℕ) : Type 0 where
  pub at : IsNode x
  pub here : Linked G x
  pub steady : G.path x ++ prefix S x ≡ G.full x
  pub rest : G.path x ++ r ≡ k

-- no leaf has the key k
abbrev pub Lacks : Tree → Ghost → List ℕ → Type 0
Lacks S G k = (v : ℕ) → Holds S G k v → ⊥
