-- A look reads its node, and the key of the leaf under the key's byte: where these stay, it sees the same.
use Rattle.std.proofs.Common.{◌≡◌, ℕ, suc, ◌+◌, cond, leb, List, length, drop, Some, None, Option, refl, ap, ◌∙◌, ap₂}
use Rattle.model.specs.Refs.{Ref}
use Rattle.model.specs.Tree.{Tree, child, prefix}
use Rattle.model.specs.Refs.Ref.{leaf, node}
use Rattle.model_next.specs.Bytes.{comes, Compared, larger, smaller, ended, same, against}
use Rattle.model_next.specs.Look.{Sight, stale, back, got, least, picked, smallest, past, under, keyed, key_sight, back_sight, down_sight, Held}
use Rattle.model_next.specs.Walk.{Stays}

module _ (k : List ℕ) (S S' : Tree) (x : Ref) (p : prefix S' x ≡ prefix S x) (c : child S' x ≡ child S x)
    (l : (b i : ℕ) → child S x b ≡ Some (leaf i) → (S'.entries i).key ≡ (S.entries i).key) where
  under_same : (e b : ℕ) (o : Option Ref) → child S x b ≡ o → under S' k x e b o ≡ under S k x e b o
  unfolding past
  under_same e b None q = ap (λ (f : ℕ → Option Ref). picked (least f (suc b) (Prim.Native.Nat.◌-◌ 255 b)) e back) c
  under_same e b (Some (leaf i)) q =
      ap₂ (λ (f : ℕ → Option Ref) (a : List ℕ). cond (comes a k) (picked (least f (suc b) (Prim.Native.Nat.◌-◌ 255 b)) e back) (got i)) c (l b i q)
  under_same e b (Some (node d i)) q = refl

  keyed_same : (e : ℕ) (o : Compared) → keyed S' k x e o ≡ keyed S k x e o
  unfolding smallest
  keyed_same e larger = ap (λ (f : ℕ → Option Ref). picked (least f 0 256) e stale) c
  keyed_same e smaller = refl
  keyed_same e ended = refl
  keyed_same e (same b) = ap (λ (f : ℕ → Option Ref). under S' k x e b (f b)) c ∙ under_same e b (child S x b) refl

  pub key_same : (deep d : ℕ) → key_sight deep S' k x d ≡ key_sight deep S k x d
  unfolding key_sight
  key_same deep d =
      ap (λ (u : List ℕ). cond (leb deep (d + length u)) stale (keyed S' k x (suc (d + length u)) (against u (drop d k)))) p
      ∙ ap (λ (s : Sight). cond (leb deep (d + length (prefix S x))) stale s) (keyed_same (suc (d + length (prefix S x))) (against (prefix S x) (drop d k)))

  pub back_same : (deep d b : ℕ) → back_sight deep S' b x d ≡ back_sight deep S b x d
  unfolding back_sight past
  back_same deep d b =
      ap₂ (λ (u : List ℕ) (f : ℕ → Option Ref). cond (leb deep (d + length u)) stale (picked (least f (suc b) (Prim.Native.Nat.◌-◌ 255 b)) (suc (d + length u)) back)) p c

  pub down_same : (deep d : ℕ) → down_sight deep S' x d ≡ down_sight deep S x d
  unfolding down_sight smallest
  down_same deep d =
      ap₂ (λ (u : List ℕ) (f : ℕ → Option Ref). cond (leb deep (d + length u)) stale (picked (least f 0 256) (suc (d + length u)) stale)) p c

-- what others must leave alone while a permit stays sound
pub stays : {H : Type 0} (V : Held H) (deep : ℕ) (k : List ℕ) (S S' : Tree) (Ok Ok' : H → Type 0) (h : H) → (Ok' h → Ok h)
    → (Ok' h → (prefix S' (V.at h) ≡ prefix S (V.at h)) × (child S' (V.at h) ≡ child S (V.at h)) × ((b i : ℕ) → child S (V.at h) b ≡ Some (leaf i) → (S'.entries i).key ≡ (S.entries i).key))
    → Stays V deep k S S' Ok Ok' h
stays V deep k S S' Ok Ok' h w r = record {
  was = w;
  key = λ o. let q = r o in key_same k S S' (V.at h) q.0 q.1 q.2 deep (V.depth h);
  back = λ o b. let q = r o in back_same k S S' (V.at h) q.0 q.1 q.2 deep (V.depth h) b;
  down = λ o. let q = r o in down_same k S S' (V.at h) q.0 q.1 q.2 deep (V.depth h);
}
