-- How a prefix and the rest of a key meet, in terms of beginnings.
use Rattle.std.proofs.Common.{◌≡◌, ℕ, suc, ◌<◌, Bool, true, false, cond, eqb, List, [], ◌∷◌, ◌++◌, length, get_or, take, drop, sym, refl, ap, subst, arith}
use Rattle.std.proofs.lemmas.Bool.{eqb-true, eqb-false}
use Rattle.look.specs.declared.seen.Met.{Met}
use Rattle.look.specs.declared.seen.Met.TheVariants.{Parts, Ends, Goes}
use Rattle.look.specs.Look.{later, meet}
use Rattle.model.specs.Bytes.{◌≼◌}
use Rattle.model_look.specs.Tells.{Meeting}

-- what m says of p and r
abbrev Says : List ℕ → List ℕ → Met → Type 0
Says p r (Parts i) =
    (i < length p) × (take i p ++ (get_or p i 0 ∷ []) ++ drop (suc i) p ≡ p) × ((take i p ++ (get_or r i 0 ∷ [])) ≼ r) × (get_or r i 0 ≡ get_or p i 0 → ⊥)
Says p r Ends = r ≼ p
Says p r (Goes b) = (b ≡ get_or r (length p) 0) × ((p ++ (b ∷ [])) ≼ r)

further : (a b : ℕ) (p r : List ℕ) → a ≡ b → (m : Met) → Says p r m → Says (a ∷ p) (b ∷ r) (later m)
further a b p r e (Parts i) h =
    let l = h.0 in
    (omega arith, ap (λ (u : List ℕ). a ∷ u) h.1, (e, h.2), h.3)
further a b p r e Ends h = (sym e, h)
further a b p r e (Goes c) h = (h.0, (e, h.1))

says : (p r : List ℕ) → Says p r (meet p r)
says [] [] = tt
says [] (b ∷ r) = (refl, (refl, tt))
says (a ∷ p) [] = tt
says (a ∷ p) (b ∷ r) = go (says p r) (eqb a b) refl
  where
    go : Says p r (meet p r) → (t : Bool) → eqb a b ≡ t → Says (a ∷ p) (b ∷ r) (cond t (later (meet p r)) (Parts 0))
    go h true e = further a b p r (eqb-true a b e) (meet p r) h
    go h false e = (omega arith, refl, (refl, tt), (λ q. eqb-false a b e (sym q)))

said : (p r : List ℕ) (m : Met) → meet p r ≡ m → Says p r m
said p r m e = subst (λ (n : Met). Says p r n) e (says p r)

pub meeting : (p r : List ℕ) → Meeting p r
meeting p r = record { goes = λ b e. said p r (Goes b) e; parts = λ i e. said p r (Parts i) e; ends = λ e. said p r Ends e }
