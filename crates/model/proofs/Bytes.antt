-- Beginnings of byte lists, and small tools.
use Rattle.std.proofs.Common.{◌≡◌, ℕ, suc, ◌≤◌, ◌⊎◌, List, [], ◌∷◌, ◌++◌, length, Some, None, Option, sym, refl, ap, ◌∙◌, subst, inl, inr, arith, length-append}
use native.Mathlib.Decide.{dec_le, ℕ_discrete}
use Rattle.model.specs.Bytes.{◌≼◌}
use Rattle.model.specs.Refs.{Ref, Ref-discrete, Kind-discrete, IsNode}
use Rattle.model.specs.Tree.{Tree, child}

pub pick : {P : Type 0} (a b : Ref) → (a ≡ b → P) → ((a ≡ b → ⊥) → P) → P
pick a b f h = elim (Ref-discrete ℕ_discrete Kind-discrete a b) [ yes e ↦ f e | no n ↦ h n ]

pub none_some : {A : Type 0} {y : A} → None ≡ Some y → ⊥
none_some {A} {y} e = let z : ◌≡◌ {A = ℕ} 0 1 = cc e in absurd (omega (arith, z))

pub some_inj : {A : Type 0} (x y : A) → ◌≡◌ {A = Option A} (Some x) (Some y) → x ≡ y
some_inj x y e = cc e

pub cons_inj : (a b : ℕ) (u v : List ℕ) → ◌≡◌ {A = List ℕ} (a ∷ u) (b ∷ v) → (a ≡ b) × (u ≡ v)
cons_inj a b u v e = (cc e, cc e)

pub cons_nil : (a : ℕ) (u : List ℕ) → ◌≡◌ {A = List ℕ} (a ∷ u) [] → ⊥
cons_nil a u e = let z : ◌≡◌ {A = ℕ} 0 1 = cc e in absurd (omega (arith, z))

pub is_node_lem : (S : Tree) (x : Ref) (b : ℕ) (y : Ref) → child S x b ≡ Some y → IsNode x
is_node_lem S (Ref.leaf i) b y e = none_some e
is_node_lem S (Ref.node k i) b y e = tt

pub ≼_refl : (u : List ℕ) → u ≼ u
≼_refl [] = tt
≼_refl (a ∷ u) = (refl, ≼_refl u)

pub ≼_of : (u v : List ℕ) → u ≡ v → u ≼ v
≼_of u v e = subst (λ (w : List ℕ). u ≼ w) e (≼_refl u)

pub ≼_app : (u w : List ℕ) → u ≼ (u ++ w)
≼_app [] w = tt
≼_app (a ∷ u) w = (refl, ≼_app u w)

pub ≼_under : (p u v : List ℕ) → u ≼ v → (p ++ u) ≼ (p ++ v)
≼_under [] u v h = h
≼_under (a ∷ p) u v h = (refl, ≼_under p u v h)

pub ≼_trans : (u v w : List ℕ) → u ≼ v → v ≼ w → u ≼ w
≼_trans [] v w h g = tt
≼_trans (a ∷ u) [] w h g = absurd h
≼_trans (a ∷ u) (b ∷ v) [] h g = absurd g
≼_trans (a ∷ u) (b ∷ v) (c ∷ w) h g = (h.0 ∙ g.0, ≼_trans u v w h.1 g.1)

pub ≼_len : (u v : List ℕ) → u ≼ v → length u ≤ length v
≼_len [] v h = omega arith
≼_len (a ∷ u) [] h = absurd h
≼_len (a ∷ u) (b ∷ v) h = omega (arith, ≼_len u v h.1)

pub ≼_same : (u v : List ℕ) → u ≼ v → length v ≤ length u → u ≡ v
≼_same [] [] h l = refl
≼_same [] (b ∷ v) h l = absurd (omega (arith, l))
≼_same (a ∷ u) [] h l = absurd h
≼_same (a ∷ u) (b ∷ v) h l = let r : u ≡ v = ≼_same u v h.1 (omega (arith, l)) in cc (h.0, r)

-- two beginnings of one list: the shorter begins the longer
pub ≼_both : (u v k : List ℕ) → length u ≤ length v → u ≼ k → v ≼ k → u ≼ v
≼_both [] v k l h g = tt
≼_both (a ∷ u) [] k l h g = absurd (omega (arith, l))
≼_both (a ∷ u) (b ∷ v) [] l h g = absurd h
≼_both (a ∷ u) (b ∷ v) (c ∷ k) l h g = (h.0 ∙ sym g.0, ≼_both u v k (omega (arith, l)) h.1 g.1)

pub ≼_or : (u v k : List ℕ) → u ≼ k → v ≼ k → (u ≼ v) ⊎ (v ≼ u)
≼_or u v k h g = elim (dec_le (length u) (length v)) [
  | yes l ↦ inl (≼_both u v k l h g)
  | no n ↦ inr (≼_both v u k (omega (arith, n)) g h)
]

pub snoc_len : (u : List ℕ) (b : ℕ) → length (u ++ (b ∷ [])) ≡ suc (length u)
snoc_len u b = let e = length-append u (b ∷ []) in omega (arith, e)

-- the byte after a beginning is one
pub snoc_byte : (u v : List ℕ) (b c : ℕ) → (u ++ (b ∷ [])) ≼ v → (u ++ (c ∷ [])) ≼ v → b ≡ c
snoc_byte [] [] b c h g = absurd h
snoc_byte [] (d ∷ v) b c h g = h.0 ∙ sym g.0
snoc_byte (a ∷ u) [] b c h g = absurd h
snoc_byte (a ∷ u) (d ∷ v) b c h g = snoc_byte u v b c h.1 g.1

pub snoc_inj : (u v : List ℕ) (b c : ℕ) → u ++ (b ∷ []) ≡ v ++ (c ∷ []) → (u ≡ v) × (b ≡ c)
snoc_inj [] [] b c e = (refl, (cons_inj b c [] [] e).0)
snoc_inj [] (d ∷ v) b c e = absurd (omega (arith, snoc_len v c, ap length (cons_inj b d [] (v ++ (c ∷ [])) e).1))
snoc_inj (a ∷ u) [] b c e = absurd (omega (arith, snoc_len u b, ap length (cons_inj a c (u ++ (b ∷ [])) [] e).1))
snoc_inj (a ∷ u) (d ∷ v) b c e =
    let i = cons_inj a d (u ++ (b ∷ [])) (v ++ (c ∷ [])) e in
    let r = snoc_inj u v b c i.1 in
    (ap (λ (x : List ℕ). a ∷ x) r.0 ∙ ap (λ (x : ℕ). x ∷ v) i.0, r.1)

pub ≼_rest : (u v : List ℕ) → u ≼ v → (w : List ℕ) × (u ++ w ≡ v)
≼_rest [] v h = (v, refl)
≼_rest (a ∷ u) [] h = absurd h
≼_rest (a ∷ u) (b ∷ v) h = let r = ≼_rest u v h.1 in (r.0, ap (λ (x : List ℕ). a ∷ x) r.1 ∙ ap (λ (x : ℕ). x ∷ v) h.0)
