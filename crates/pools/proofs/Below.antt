use Rattle.std.proofs.Common.{◌≡◌, ℕ, suc, List, [], ◌∷◌, Some, arith}
use Rattle.pools.specs.Contents.{first, rest}
use Rattle.pools.specs.Spare.{Below}

pub below_rest : (xs : List ℕ) (n : ℕ) → Below xs n → Below (rest xs) n
below_rest [] n f = f
below_rest (x ∷ xs) n f = λ k h. f (suc k) (omega arith)

pub first_rest : {A : Type 0} (xs : List A) (x : A) → Some x ≡ first xs → xs ≡ x ∷ rest xs
first_rest [] x e = let z : ◌≡◌ {A = ℕ} 0 1 = cc in absurd (omega arith)
first_rest (y ∷ xs) x e = let z : x ≡ y = cc in cc
