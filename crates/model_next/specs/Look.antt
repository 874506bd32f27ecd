-- What a look of `next` at a node sees, and the nodes that it holds.
use Rattle.std.specs.Prelude.{◌≡◌, ℕ, zero, suc, ◌+◌, ◌-◌, cond, List, [], ◌∷◌, length, drop, Some, None, Option, nat_le, slice_index}
use Rattle.model.specs.Refs.{Ref, leaf, node}
use Rattle.model.specs.Tree.{Tree, child, prefix}
use Rattle.model_next.specs.Bytes.{comes, Compared, larger, smaller, ended, same, against}

-- stale: start again. onward: the node under the key's byte. aside: a node picked otherwise. got: a leaf. back: nothing here.
-- With a node goes the count of key bytes before its prefix.
pub data Sight : Type 0 where
  stale back : Sight
  onward aside : Ref → ℕ → Sight
  got : ℕ → Sight

abbrev pub or_else : ℕ → Option Ref → Option (ℕ × Ref) → Option (ℕ × Ref)
or_else b None r = r
or_else b (Some y) r = Some (b, y)

-- the smallest child under the n bytes from b on
unfoldable pub least : (ℕ → Option Ref) → ℕ → ℕ → Option (ℕ × Ref)
least f b zero = None
least f b (suc n) = or_else b (f b) (least f (suc b) n)

unfoldable pub smallest : Tree → Ref → Option (ℕ × Ref)
smallest S x = least (child S x) 0 256

unfoldable pub past : Tree → Ref → ℕ → Option (ℕ × Ref)
past S x b = least (child S x) (suc b) (255 - b)

abbrev pub picks : Ref → ℕ → Sight
picks (leaf i) e = got i
picks (node c i) e = aside (node c i) e

abbrev pub picked : Option (ℕ × Ref) → ℕ → Sight → Sight
picked None e w = w
picked (Some (b, y)) e w = picks y e

abbrev pub under : Tree → List ℕ → Ref → ℕ → ℕ → Option Ref → Sight
under S k x e b None = picked (past S x b) e back
under S k x e b (Some (leaf i)) = cond (comes (S.entries i).key k) (picked (past S x b) e back) (got i)
under S k x e b (Some (node c i)) = onward (node c i) e

abbrev pub keyed : Tree → List ℕ → Ref → ℕ → Compared → Sight
keyed S k x e larger = picked (smallest S x) e stale
keyed S k x e smaller = back
keyed S k x e ended = stale
keyed S k x e (same b) = under S k x e b (child S x b)

-- d is the count of key bytes before the prefix of x, deep the bound of depth
abbrev pub within : ℕ → Tree → Ref → ℕ → Sight → Sight
within deep S x d s = cond (nat_le deep (d + length (prefix S x))) stale s

unfoldable pub key_sight : ℕ → Tree → List ℕ → Ref → ℕ → Sight
key_sight deep S k x d = within deep S x d (keyed S k x (suc (d + length (prefix S x))) (against (prefix S x) (drop d k)))

unfoldable pub back_sight : ℕ → Tree → ℕ → Ref → ℕ → Sight
back_sight deep S b x d = within deep S x d (picked (past S x b) (suc (d + length (prefix S x))) back)

unfoldable pub down_sight : ℕ → Tree → Ref → ℕ → Sight
down_sight deep S x d = within deep S x d (picked (smallest S x) (suc (d + length (prefix S x))) stale)

-- a kind of held node: where one stands, and the count of key bytes before its prefix
pub record Held (H : Type 0) : Type 0 where
  pub at : H → Ref
  pub depth : H → ℕ

module _ {H : Type 0} (V : Held H) where
  -- the byte taken above h
  abbrev pub taken : List ℕ → H → ℕ
  taken k h = slice_index k (V.depth h - 1)

  -- What the nodes on the key's way saw, oldest first, where their permits still hold (Ok): each saw the next one under the key's byte;
  -- those behind place n saw nothing more in going back, and the newest look at place n saw s.
  abbrev pub Saw : ℕ → Tree → List ℕ → (H → Type 0) → List H → ℕ → Sight → Type 0
  Saw deep S k Ok [] n s = ⊥
  Saw deep S k Ok (h ∷ []) zero s = Ok h → key_sight deep S k (V.at h) (V.depth h) ≡ s
  Saw deep S k Ok (h ∷ []) (suc n) s = ⊥
  Saw deep S k Ok (h ∷ g ∷ hs) zero s =
      (Ok h → key_sight deep S k (V.at h) (V.depth h) ≡ onward (V.at g) (V.depth g)) × Saw deep S k Ok (g ∷ hs) zero back
      × (Ok h → back_sight deep S (taken k g) (V.at h) (V.depth h) ≡ s)
  Saw deep S k Ok (h ∷ g ∷ hs) (suc n) s =
      (Ok h → key_sight deep S k (V.at h) (V.depth h) ≡ onward (V.at g) (V.depth g)) × Saw deep S k Ok (g ∷ hs) n s

  -- the nodes on the way down by smallest children, oldest first: each saw the next one, and the last saw s
  abbrev pub SawDown : ℕ → Tree → (H → Type 0) → H → List H → Sight → Type 0
  SawDown deep S Ok h [] s = Ok h → down_sight deep S (V.at h) (V.depth h) ≡ s
  SawDown deep S Ok h (g ∷ hs) s = (Ok h → down_sight deep S (V.at h) (V.depth h) ≡ aside (V.at g) (V.depth g)) × SawDown deep S Ok g hs s

  -- the newest look on the key's way saw s, and by way of the nodes below that led to the leaf i, or to none
  abbrev pub Led : ℕ → Tree → (H → Type 0) → Sight → List H → Option ℕ → Type 0
  Led deep S Ok s [] None = s ≡ back
  Led deep S Ok s [] (Some i) = s ≡ got i
  Led deep S Ok s (h ∷ hs) None = ⊥
  Led deep S Ok s (h ∷ hs) (Some i) = (s ≡ aside (V.at h) (V.depth h)) × SawDown deep S Ok h hs (got i)
