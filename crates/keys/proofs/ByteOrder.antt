-- The order of slices is byte order.
use Rattle.std.specs.Prelude.{Bool, Some, Option, Decides}
use Rattle.std.specs.Ordering.{nat_cmp, is_some_and, is_lt, partial_ordering_then}
use Rattle.std.specs.Cmp.Lexicographic.{slice_partial_cmp}
use Rattle.std.proofs.Common.{◌≡◌, ℕ, ◌<◌, min, ltb, ◌⊎◌, List, [], ◌∷◌, ◌++◌, length, get_or, take, drop, sym, refl, ap, ◌∙◌, subst, ap₂, inl, inr, ⊎_elim, arith, Ordering, Less, Equal, Greater, length-drop, take-append-drop}
use Rattle.std.proofs.lemmas.List.{drop_more}
use Rattle.std.proofs.lemmas.Bool.{lt-ltb, ltb-true, cases_lt, false≢true}
use Rattle.std.proofs.lemmas.Cmp.{ranked}
use Rattle.keys.specs.Bytes.{First}

abbrev compared : List ℕ → List ℕ → Option Ordering
compared = slice_partial_cmp (λ x y. Some (nat_cmp x y))

abbrev Orders : (s t : List ℕ) → Option Ordering → Type 0
Orders s t o = Decides (is_some_and is_lt o) (First s t)

heads : (x y : ℕ) (xs ys : List ℕ) (o : Ordering) → o ≡ nat_cmp x y → Orders xs ys (compared xs ys) →
    Orders (x ∷ xs) (y ∷ ys) (partial_ordering_then (Some o) (compared xs ys))
heads x y xs ys Less e h = (λ _. inl (ranked x y Less e), λ _. refl)
heads x y xs ys Equal e h = (λ t. inr (ranked x y Equal e, h.0 t), elim [ inl l ↦ absurd (omega (arith, ranked x y Equal e)) | inr (_, f) ↦ h.1 f ])
heads x y xs ys Greater e h =
    (λ t. absurd (false≢true t), elim [ inl l ↦ absurd (omega (arith, ranked x y Greater e)) | inr (q, _) ↦ absurd (omega (arith, ranked x y Greater e)) ])

ordered : (s t : List ℕ) → Orders s t (compared s t)
ordered [] [] = (λ t. absurd (false≢true t), λ f. absurd f)
ordered [] (y ∷ ys) = (λ _. tt, λ _. refl)
ordered (x ∷ xs) [] = (λ t. absurd (false≢true t), λ f. absurd f)
ordered (x ∷ xs) (y ∷ ys) = heads x y xs ys (nat_cmp x y) refl (ordered xs ys)

-- what `<` answers
pub less_decides : (s t : List ℕ) (r : Bool) → r ≡ is_some_and is_lt (compared s t) → Decides r (First s t)
less_decides s t r e = (λ h. (ordered s t).0 (sym e ∙ h), λ f. e ∙ (ordered s t).1 f)

-- the order behind a common beginning
first_behind : (p u v : List ℕ) → First u v → First (p ++ u) (p ++ v)
first_behind [] u v f = f
first_behind (x ∷ p) u v f = inr (refl, first_behind p u v f)

behind_first : (p u v : List ℕ) → First (p ++ u) (p ++ v) → First u v
behind_first [] u v f = f
behind_first (x ∷ p) u v (inl l) = absurd (omega arith)
behind_first (x ∷ p) u v (inr (e, f)) = behind_first p u v f

-- s and t are alike up to i
split : (s t : List ℕ) (i : ℕ) → take i s ≡ take i t → First s t ≡ First (take i s ++ drop i s) (take i s ++ drop i t)
split s t i e = ap₂ First (sym (take-append-drop i s)) (sym (take-append-drop i t) ∙ ap (λ x. x ++ drop i t) (sym e))

pub at_difference : (s t : List ℕ) (i : ℕ) → take i s ≡ take i t → i < length s → i < length t → (get_or s i 0 ≡ get_or t i 0 → ⊥) →
    Decides (ltb (get_or s i 0) (get_or t i 0)) (First s t)
at_difference s t i e h k n =
    let p = drop_more s i 0 h in
    let q = drop_more t i 0 k in (
      λ l. subst (λ (X : Type 0). X) (sym (split s t i e)) (first_behind (take i s) (drop i s) (drop i t) (rw (p, q) (inl (ltb-true (get_or s i 0) (get_or t i 0) l)))),
      λ f. let g = behind_first (take i s) (drop i s) (drop i t) (subst (λ (X : Type 0). X) (split s t i e) f) in
          lt-ltb (get_or s i 0) (get_or t i 0) (⊎_elim (λ l. l) (λ x. absurd (n x.0)) (rw (p, q) at g)),
    )

short_first : (u v : List ℕ) → (length u ≡ 0) ⊎ (length v ≡ 0) → Decides (ltb (length u) (length v)) (First u v)
short_first [] [] z = (λ l. absurd (omega (arith, ltb-true 0 0 l)), λ f. absurd f)
short_first [] (y ∷ v) z = (λ _. tt, λ _. lt-ltb 0 (length (y ∷ v)) (omega arith))
short_first (x ∷ u) [] z = (λ l. absurd (omega (arith, ltb-true (length (x ∷ u)) 0 l)), λ f. absurd f)
short_first (x ∷ u) (y ∷ v) (inl z) = absurd (omega arith)
short_first (x ∷ u) (y ∷ v) (inr z) = absurd (omega arith)

pub at_end : (s t : List ℕ) (n : ℕ) → take n s ≡ take n t → n ≡ min (length s) (length t) → Decides (ltb (length s) (length t)) (First s t)
at_end s t n e m =
    let a = length-drop n s in
    let b = length-drop n t in
    let z : (length (drop n s) ≡ 0) ⊎ (length (drop n t) ≡ 0) = ⊎_elim (λ l. inl (omega arith)) (λ l. inr (omega arith)) (cases_lt (length s) (length t)) in
    let d = short_first (drop n s) (drop n t) z in (
      λ l. subst (λ (X : Type 0). X) (sym (split s t n e)) (first_behind (take n s) (drop n s) (drop n t) (d.0 (lt-ltb (length (drop n s)) (length (drop n t)) (omega (arith, ltb-true (length s) (length t) l))))),
      λ f. lt-ltb (length s) (length t) (omega (arith, ltb-true (length (drop n s)) (length (drop n t)) (d.1 (behind_first (take n s) (drop n s) (drop n t) (subst (λ (X : Type 0). X) (split s t n e) f))))),
    )
