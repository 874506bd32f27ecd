-- What a look at a node sees for a key, by the tree alone.
use Rattle.std.specs.Prelude.{ℕ, suc, ◌+◌, Bool, true, false, cond, List, [], ◌∷◌, length, drop, Some, None, Option, ◌==◌, nat_le}
use Rattle.model.specs.Refs.{Ref, leaf, node}
use Rattle.model.specs.Tree.{Tree, child, prefix}

-- a prefix against the rest of a key: they differ at a place, the key ends, or it goes on past the prefix by a byte
pub data Met : Type 0 where
  differs : ℕ → Met
  ends : Met
  goes : ℕ → Met

abbrev pub later : Met → Met
later (differs i) = differs (suc i)
later ends = ends
later (goes b) = goes b

-- the first place where they differ goes before the key's end
abbrev pub meet : List ℕ → List ℕ → Met
meet [] [] = ends
meet [] (b ∷ r) = goes b
meet (a ∷ p) [] = ends
meet (a ∷ p) (b ∷ r) = cond (a == b) (later (meet p r)) (differs 0)

-- what find, add and remove see
pub data Seen : Type 0 where
  stale empty : Seen
  missed other : ℕ → Seen
  same_key : ℕ → ℕ → Seen
  onward : Ref → ℕ → Seen

-- byte lists are the same
abbrev pub alike : List ℕ → List ℕ → Bool
alike [] [] = true
alike [] (b ∷ v) = false
alike (a ∷ u) [] = false
alike (a ∷ u) (b ∷ v) = cond (a == b) (alike u v) false

abbrev pub leaf_seen : Tree → List ℕ → ℕ → Seen
leaf_seen S k i = cond (alike (S.entries i).key k) (same_key i (S.entries i).value) (other i)

abbrev pub child_seen : Tree → List ℕ → ℕ → Option Ref → Seen
child_seen S k e None = empty
child_seen S k e (Some (leaf i)) = leaf_seen S k i
child_seen S k e (Some (node c i)) = onward (node c i) e

abbrev pub met_seen : Tree → List ℕ → Ref → ℕ → Met → Seen
met_seen S k x e (differs i) = missed i
met_seen S k x e ends = stale
met_seen S k x e (goes b) = child_seen S k e (child S x b)

-- x with d key bytes before its prefix; deep bounds the bytes of a key
abbrev pub seen : ℕ → Tree → List ℕ → Ref → ℕ → Seen
seen deep S k x d = cond (nat_le deep (d + length (prefix S x))) stale (met_seen S k x (suc (d + length (prefix S x))) (meet (prefix S x) (drop d k)))
