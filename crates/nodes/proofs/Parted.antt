use Rattle.std.proofs.Common.{◌≡◌, Bool, ℕ, suc, ◌+◌, eqb, List, [], ◌∷◌, refl, sym, ap₂, ◌∙◌, subst, ⊎_elim, arith}
use Rattle.std.proofs.lemmas.Bool.{cases_eq, cond-true, cond-false, eq-eqb, ne_eqb}
use Rattle.std.specs.List.{zip, prefix_len}
use Rattle.nodes.specs.Kept.{Agree}

-- whether the two of a pair are one
abbrev pub same : ℕ × ℕ → Bool
same p = eqb p.0 p.1

-- two lists agree on as many bytes as there are equal pairs from the front on
pub agree_zip : (xs ys : List ℕ) → Agree xs ys (prefix_len same (zip xs ys))
agree_zip [] ys = (omega arith, omega arith, refl, (λ l m q. omega arith))
agree_zip (x ∷ xs) [] = (omega arith, omega arith, refl, (λ l m q. omega arith))
agree_zip (x ∷ xs) (y ∷ ys) =
    let n = prefix_len same (zip xs ys) in
    ⊎_elim
    (λ (e : x ≡ y).
    let i = agree_zip xs ys in
    let long : suc n ≡ prefix_len same (zip (x ∷ xs) (y ∷ ys)) = (let s : suc n ≡ 1 + n = omega arith in s ∙ sym (cond-true (eqb x y) (1 + n) 0 (eq-eqb x y e))) in
    subst (λ (m : ℕ). Agree (x ∷ xs) (y ∷ ys) m) long (omega arith, omega arith, ap₂ ◌∷◌ e i.2, (λ l m q. i.3 (omega arith) (omega arith) q)))
    (λ (e : x ≡ y → ⊥).
    let none : 0 ≡ prefix_len same (zip (x ∷ xs) (y ∷ ys)) = sym (cond-false (eqb x y) (1 + n) 0 (ne_eqb x y e)) in
    subst (λ (m : ℕ). Agree (x ∷ xs) (y ∷ ys) m) none (omega arith, omega arith, refl, (λ l m q. e q)))
    (cases_eq x y)
