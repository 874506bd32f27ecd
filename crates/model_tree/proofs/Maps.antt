-- What the writes are to the map of what is held.
use Rattle.std.proofs.Common.{◌≡◌, ℕ, ◌⊎◌, List, Some, None, Option, sym, ap, ◌∙◌, subst, inl, inr, ⊎_elim}
use mathlib.Core.List.{List-discrete}
use native.Mathlib.Decide.{ℕ_discrete}
use Rattle.model.specs.Tree.{Tree, Ghost, Holds}
use Rattle.model_tree.specs.Writes.{Added, Removed, Means, Put}
use Rattle.model.proofs.Bytes.{none_some, some_inj}

value_one : (n : List ℕ → Option ℕ) (j k : List ℕ) (u v : ℕ) → n k ≡ Some v → j ≡ k → u ≡ v → n j ≡ Some u
value_one n j k u v e p q = ap n p ∙ e ∙ ap {B = Option ℕ} Some (sym q)

same : (j k : List ℕ) → Dec (j ≡ k)
same j k = List-discrete ℕ_discrete j k

-- what is held is what was, with v at the key k
abbrev With : Tree → Ghost → Tree → Ghost → List ℕ → ℕ → Type 0
With S G T H k v = (j : List ℕ) (u : ℕ) → (Holds T H j u → ((j ≡ k) × (u ≡ v)) ⊎ (Holds S G j u × (j ≡ k → ⊥))) × (((j ≡ k) × (u ≡ v)) ⊎ (Holds S G j u × (j ≡ k → ⊥)) → Holds T H j u)

module _ (S T : Tree) (G H : Ghost) (m n : List ℕ → Option ℕ) (k : List ℕ) (w : Means m S G) where
  means_with : (v : ℕ) → Put m n k (Some v) → With S G T H k v → Means n T H
  means_with v p a j u = (
    (λ e. (a j u).1 (elim (same j k) [
      | yes q ↦ inl (q, some_inj u v (sym e ∙ ap n q ∙ p.at))
      | no ne ↦ inr ((w j u).0 (sym (p.elsewhere j ne) ∙ e), ne)
    ])),
    (λ h. ⊎_elim (λ q. value_one n j k u v p.at q.0 q.1) (λ q. p.elsewhere j q.1 ∙ (w j u).1 q.0) ((a j u).0 h)),
  )

  pub means_removed : Put m n k None → Removed S G T H k → Means n T H
  means_removed p a j u = (
    (λ e. (a j u).1 (elim (same j k) [
      | yes q ↦ absurd (none_some (sym p.at ∙ ap n (sym q) ∙ e))
      | no ne ↦ ((w j u).0 (sym (p.elsewhere j ne) ∙ e), ne)
    ])),
    (λ h. let q = (a j u).0 h in p.elsewhere j q.1 ∙ (w j u).1 q.0),
  )

  pub means_added : (v : ℕ) → ((u : ℕ) → Holds S G k u → ⊥) → Put m n k (Some v) → Added S G T H k v → Means n T H
  means_added v lacks p a = means_with v p (λ j u. (
    (λ h. ⊎_elim inl (λ q. inr (q, λ e. lacks u (subst (λ (x : List ℕ). Holds S G x u) e q))) ((a j u).0 h)),
    (λ s. (a j u).1 (⊎_elim inl (λ q. inr q.0) s)),
  ))
