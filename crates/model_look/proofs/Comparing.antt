use Rattle.std.proofs.Common.{◌≡◌, ℕ, Bool, true, false, cond, eqb, ltb, List, [], ◌∷◌, refl, ◌∙◌}
use Rattle.look.specs.declared.seen.Met.{Met}
use Rattle.look.specs.declared.seen.Met.TheVariants.{Parts, Ends, Goes}
use Rattle.look.specs.declared.seen.Rank.TheVariants.{Larger, Smaller}
use Rattle.look.specs.Look.{later, meet, rank_by}
use Rattle.model_next.specs.Bytes.{larger, smaller, against}
use Rattle.model_look.specs.Compares.{compared, Compares}

shifted : (a b : ℕ) (p r : List ℕ) (m : Met) → compared (rank_by p r m) ≡ compared (rank_by (a ∷ p) (b ∷ r) (later m))
shifted a b p r (Parts i) = refl
shifted a b p r Ends = refl
shifted a b p r (Goes c) = refl

either : (t : Bool) → cond t smaller larger ≡ compared (cond t Smaller Larger)
either true = refl
either false = refl

pub compares : Compares
compares [] [] = refl
compares [] (b ∷ r) = refl
compares (a ∷ p) [] = refl
compares (a ∷ p) (b ∷ r) = go (compares p r) (eqb a b)
  where
    go : against p r ≡ compared (rank_by p r (meet p r)) → (t : Bool)
        → cond t (against p r) (cond (ltb a b) smaller larger) ≡ compared (rank_by (a ∷ p) (b ∷ r) (cond t (later (meet p r)) (Parts 0)))
    go h true = h ∙ shifted a b p r (meet p r)
    go h false = either (ltb a b)
