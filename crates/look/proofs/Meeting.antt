-- From how many bytes agree to how the two lists meet.
use Rattle.std.proofs.Common.{◌≡◌, ℕ, zero, suc, ◌<◌, ◌≤◌, Bool, true, false, cond, eqb, List, [], ◌∷◌, length, get_or, take, sym, refl, ap, ◌∙◌, subst, arith}
use Rattle.std.proofs.lemmas.Bool.{cond-true, cond-false, eq-eqb, ne_eqb}
use Rattle.nodes.specs.Kept.{Agree}
use Rattle.look.specs.declared.seen.Met.{Met}
use Rattle.look.specs.declared.seen.Met.TheVariants.{Parts, Ends, Goes}
use Rattle.look.specs.Look.{later, meet}

heads : (a b : ℕ) (u v : List ℕ) → ◌≡◌ {A = List ℕ} (a ∷ u) (b ∷ v) → (a ≡ b) × (u ≡ v)
heads a b u v e = (cc e, cc e)

tails : (a b : ℕ) (p r : List ℕ) (i : ℕ) → Agree (a ∷ p) (b ∷ r) (suc i) → (a ≡ b) × Agree p r i
tails a b p r i h =
    let e = heads a b (take i p) (take i r) h.2 in
    let m = h.0 in
    let n = h.1 in
    (e.0, (omega arith, omega arith, e.1, (λ x y q. h.3 (omega arith) (omega arith) q)))

-- equal first bytes: the rest decides
more : (a b : ℕ) (p r : List ℕ) (m : Met) → a ≡ b → meet p r ≡ m → meet (a ∷ p) (b ∷ r) ≡ later m
more a b p r m e h = cond-true (eqb a b) (later (meet p r)) (Parts 0) (eq-eqb a b e) ∙ ap later h

pub ends_of : (p r : List ℕ) (i : ℕ) → Agree p r i → length r ≤ i → meet p r ≡ Ends
ends_of [] [] i h l = refl
ends_of [] (b ∷ r) i h l = absurd (omega (arith, h.0))
ends_of (a ∷ p) [] i h l = refl
ends_of (a ∷ p) (b ∷ r) zero h l = absurd (omega arith)
ends_of (a ∷ p) (b ∷ r) (suc i) h l = let t = tails a b p r i h in more a b p r Ends t.0 (ends_of p r i t.1 (omega arith))

pub parts_of : (p r : List ℕ) (i : ℕ) → Agree p r i → i < length r → i < length p → meet p r ≡ Parts i
parts_of [] r i h l m = absurd (omega arith)
parts_of (a ∷ p) [] i h l m = absurd (omega arith)
parts_of (a ∷ p) (b ∷ r) zero h l m = cond-false (eqb a b) (later (meet p r)) (Parts 0) (ne_eqb a b (h.3 m l))
parts_of (a ∷ p) (b ∷ r) (suc i) h l m =
    let t = tails a b p r i h in more a b p r (Parts i) t.0 (parts_of p r i t.1 (omega arith) (omega arith))

pub goes_of : (p r : List ℕ) (i : ℕ) → Agree p r i → i < length r → length p ≤ i → meet p r ≡ Goes (get_or r i 0)
goes_of [] [] i h l m = absurd (omega arith)
goes_of [] (b ∷ r) zero h l m = refl
goes_of [] (b ∷ r) (suc i) h l m = absurd (omega (arith, h.0))
goes_of (a ∷ p) [] i h l m = absurd (omega arith)
goes_of (a ∷ p) (b ∷ r) zero h l m = absurd (omega arith)
goes_of (a ∷ p) (b ∷ r) (suc i) h l m =
    let t = tails a b p r i h in more a b p r (Goes (get_or r i 0)) t.0 (goes_of p r i t.1 (omega arith) (omega arith))

-- where the two differ, both have a byte
abbrev Inside : List ℕ → List ℕ → Met → Type 0
Inside p r (Parts i) = (i < length p) × (i < length r)
Inside p r Ends = Unit {0}
Inside p r (Goes b) = Unit {0}

inside_more : (a b : ℕ) (p r : List ℕ) (m : Met) → Inside p r m → Inside (a ∷ p) (b ∷ r) (later m)
inside_more a b p r (Parts i) h = let x = h.0 in let y = h.1 in (omega arith, omega arith)
inside_more a b p r Ends h = tt
inside_more a b p r (Goes c) h = tt

inside : (p r : List ℕ) → Inside p r (meet p r)
inside [] [] = tt
inside [] (b ∷ r) = tt
inside (a ∷ p) [] = tt
inside (a ∷ p) (b ∷ r) = go (inside p r) (eqb a b)
  where
    go : Inside p r (meet p r) → (t : Bool) → Inside (a ∷ p) (b ∷ r) (cond t (later (meet p r)) (Parts 0))
    go h true = inside_more a b p r (meet p r) h
    go h false = (omega arith, omega arith)

pub parts_inside : (p r : List ℕ) (i : ℕ) → Parts i ≡ meet p r → (i < length p) × (i < length r)
parts_inside p r i e = subst (λ (m : Met). Inside p r m) (sym e) (inside p r)
