-- Byte order: total and transitive, and how it goes along beginnings.
use Rattle.std.proofs.Common.{◌≡◌, ℕ, ◌<◌, Bool, true, false, cond, eqb, ltb, ◌⊎◌, List, [], ◌∷◌, ◌++◌, length, get_or, drop, sym, refl, ◌∙◌, ap₂, inl, inr, ⊎_elim, arith}
use Rattle.std.proofs.lemmas.Bool.{eqb-true, eqb-false, ltb-true, ltb-false, cases_order, lt-ltb, eq-eqb, ne_eqb}
use Rattle.model.specs.Bytes.{◌≼◌}
use Rattle.keys.specs.Bytes.{First}
use Rattle.model_next.specs.Bytes.{comes, larger, smaller, ended, same, against}

pub first_not : (u : List ℕ) → First u u → ⊥
first_not [] f = f
first_not (x ∷ u) (inl l) = omega arith
first_not (x ∷ u) (inr (e, f)) = first_not u f

pub first_asym : (u v : List ℕ) → First u v → First v u → ⊥
first_asym [] [] f g = f
first_asym [] (y ∷ v) f g = g
first_asym (x ∷ u) [] f g = f
first_asym (x ∷ u) (y ∷ v) (inl l) (inl m) = omega arith
first_asym (x ∷ u) (y ∷ v) (inl l) (inr (e, g)) = omega arith
first_asym (x ∷ u) (y ∷ v) (inr (e, f)) (inl m) = omega arith
first_asym (x ∷ u) (y ∷ v) (inr (e, f)) (inr (d, g)) = first_asym u v f g

pub first_trans : (u v w : List ℕ) → First u v → First v w → First u w
first_trans [] [] w f g = absurd f
first_trans [] (y ∷ v) [] f g = absurd g
first_trans [] (y ∷ v) (z ∷ w) f g = tt
first_trans (x ∷ u) [] w f g = absurd f
first_trans (x ∷ u) (y ∷ v) [] f g = absurd g
first_trans (x ∷ u) (y ∷ v) (z ∷ w) (inl l) (inl m) = inl (omega arith)
first_trans (x ∷ u) (y ∷ v) (z ∷ w) (inl l) (inr (e, g)) = inl (omega arith)
first_trans (x ∷ u) (y ∷ v) (z ∷ w) (inr (e, f)) (inl m) = inl (omega arith)
first_trans (x ∷ u) (y ∷ v) (z ∷ w) (inr (e, f)) (inr (d, g)) = inr (e ∙ d, first_trans u v w f g)

pub first_total : (u v : List ℕ) → (u ≡ v) ⊎ (First u v ⊎ First v u)
first_total [] [] = inl refl
first_total [] (y ∷ v) = inr (inl tt)
first_total (x ∷ u) [] = inr (inr tt)
first_total (x ∷ u) (y ∷ v) =
    ⊎_elim
    (λ e. ⊎_elim (λ h. inl (ap₂ ◌∷◌ e h)) (λ h. inr (⊎_elim (λ f. inl (inr (e, f))) (λ f. inr (inr (sym e, f))) h)) (first_total u v))
    (λ h. inr (⊎_elim (λ l. inl (inl l)) (λ l. inr (inl l)) h))
    (cases_order x y)

-- the test decides the order
pub comes_first : (u v : List ℕ) → comes u v ≡ true → First u v
comes_first [] [] h = let z : ◌≡◌ {A = ℕ} 0 1 = cc in absurd (omega arith)
comes_first [] (y ∷ v) h = tt
comes_first (x ∷ u) [] h = let z : ◌≡◌ {A = ℕ} 0 1 = cc in absurd (omega arith)
comes_first (x ∷ u) (y ∷ v) h = go (eqb x y) refl (comes_first u v) h
  where
    go : (b : Bool) → eqb x y ≡ b → (comes u v ≡ true → First u v) → cond b (comes u v) (ltb x y) ≡ true → First (x ∷ u) (y ∷ v)
    go true e ih h = inr (eqb-true x y e, ih h)
    go false e ih h = inl (ltb-true x y h)

pub first_comes : (u v : List ℕ) → First u v → comes u v ≡ true
first_comes [] [] f = absurd f
first_comes [] (y ∷ v) f = refl
first_comes (x ∷ u) [] f = absurd f
first_comes (x ∷ u) (y ∷ v) (inl l) = rw (ne_eqb x y (omega arith)) (lt-ltb x y l)
first_comes (x ∷ u) (y ∷ v) (inr (e, f)) = rw (eq-eqb x y e) (first_comes u v f)

-- beginnings
pub begins_self : (u : List ℕ) → u ≼ u
begins_self [] = tt
begins_self (a ∷ u) = (refl, begins_self u)

pub begins_trans : (u v w : List ℕ) → u ≼ v → v ≼ w → u ≼ w
begins_trans [] v w h g = tt
begins_trans (a ∷ u) [] w h g = absurd h
begins_trans (a ∷ u) (b ∷ v) [] h g = absurd g
begins_trans (a ∷ u) (b ∷ v) (c ∷ w) h g = (h.0 ∙ g.0, begins_trans u v w h.1 g.1)

pub begins_append : (u v : List ℕ) → u ≼ u ++ v
begins_append [] v = tt
begins_append (a ∷ u) v = (refl, begins_append u v)

-- a beginning of both, and what is left
pub first_behind : (u v w : List ℕ) → u ≼ v → u ≼ w → First (drop (length u) v) (drop (length u) w) → First v w
first_behind [] v w h g f = f
first_behind (a ∷ u) [] w h g f = absurd h
first_behind (a ∷ u) (b ∷ v) [] h g f = absurd g
first_behind (a ∷ u) (b ∷ v) (c ∷ w) h g f = inr (sym h.0 ∙ g.0, first_behind u v w h.1 g.1 f)

pub begins_drop : (u p v : List ℕ) → u ++ p ≼ v → p ≼ drop (length u) v
begins_drop [] p v h = h
begins_drop (a ∷ u) p [] h = absurd h
begins_drop (a ∷ u) p (b ∷ v) h = begins_drop u p v h.1

pub drop_begins : (u p v : List ℕ) → u ≼ v → p ≼ drop (length u) v → u ++ p ≼ v
drop_begins [] p v h g = g
drop_begins (a ∷ u) p [] h g = absurd h
drop_begins (a ∷ u) p (b ∷ v) h g = (h.0, drop_begins u p v h.1 g)

-- two lists that part behind u, under the bytes a and b
pub fork : (u v w : List ℕ) (a b : ℕ) → u ++ a ∷ [] ≼ v → u ++ b ∷ [] ≼ w → a < b → First v w
fork [] [] w a b h g l = absurd h
fork [] (c ∷ v) [] a b h g l = absurd g
fork [] (c ∷ v) (d ∷ w) a b h g l = inl (omega (arith, h.0, g.0))
fork (e ∷ u) [] w a b h g l = absurd h
fork (e ∷ u) (c ∷ v) [] a b h g l = absurd g
fork (e ∷ u) (c ∷ v) (d ∷ w) a b h g l = inr (sym h.0 ∙ g.0, fork u v w a b h.1 g.1 l)

-- the byte behind u in what begins with u and b
pub byte_at : (u v : List ℕ) (b : ℕ) → u ++ b ∷ [] ≼ v → get_or v (length u) 0 ≡ b
byte_at [] [] b h = absurd h
byte_at [] (c ∷ v) b h = sym h.0
byte_at (a ∷ u) [] b h = absurd h
byte_at (a ∷ u) (c ∷ v) b h = byte_at u v b h.1

-- what the comparison of a prefix says
module _ (a b : ℕ) (p r : List ℕ) where
  go_larger : (v : List ℕ) (t s : Bool) → eqb a b ≡ t → ltb a b ≡ s → (against p r ≡ larger → p ≼ v → First r v) → cond t (against p r) (cond s smaller larger) ≡ larger
      → (c : ℕ) → a ≡ c → p ≼ v → First (b ∷ r) (c ∷ v)
  go_larger v true s e l ih h c i q = inr (sym (eqb-true a b e) ∙ i, ih h q)
  go_larger v false true e l ih h c i q = let z : ◌≡◌ {A = ℕ} 0 1 = cc in absurd (omega arith)
  go_larger v false false e l ih h c i q = let n = eqb-false a b e in inl (omega (arith, ltb-false a b l, n))

  go_smaller : (v : List ℕ) (t s : Bool) → eqb a b ≡ t → ltb a b ≡ s → (against p r ≡ smaller → p ≼ v → First v r) → cond t (against p r) (cond s smaller larger) ≡ smaller
      → (c : ℕ) → a ≡ c → p ≼ v → First (c ∷ v) (b ∷ r)
  go_smaller v true s e l ih h c i q = inr (sym i ∙ eqb-true a b e, ih h q)
  go_smaller v false true e l ih h c i q = inl (omega (arith, ltb-true a b l))
  go_smaller v false false e l ih h c i q = let z : ◌≡◌ {A = ℕ} 0 1 = cc in absurd (omega arith)

  go_same : (y : ℕ) (t s : Bool) → eqb a b ≡ t → (against p r ≡ same y → p ++ y ∷ [] ≼ r) → cond t (against p r) (cond s smaller larger) ≡ same y
      → (a ≡ b) × (p ++ y ∷ [] ≼ r)
  go_same y true s e ih h = (eqb-true a b e, ih h)
  go_same y false true e ih h = let z : ◌≡◌ {A = ℕ} 0 1 = cc in absurd (omega arith)
  go_same y false false e ih h = let z : ◌≡◌ {A = ℕ} 0 1 = cc in absurd (omega arith)

  go_ended : (t s : Bool) → eqb a b ≡ t → (against p r ≡ ended → r ≼ p) → cond t (against p r) (cond s smaller larger) ≡ ended → (b ≡ a) × (r ≼ p)
  go_ended true s e ih h = (sym (eqb-true a b e), ih h)
  go_ended false true e ih h = let z : ◌≡◌ {A = ℕ} 0 1 = cc in absurd (omega arith)
  go_ended false false e ih h = let z : ◌≡◌ {A = ℕ} 0 1 = cc in absurd (omega arith)

-- every list that begins with a larger prefix comes behind
pub larger_first : (p r v : List ℕ) → against p r ≡ larger → p ≼ v → First r v
larger_first [] [] v h q = let z : ◌≡◌ {A = ℕ} 0 1 = cc in absurd (omega arith)
larger_first [] (b ∷ r) v h q = let z : ◌≡◌ {A = ℕ} 0 1 = cc in absurd (omega arith)
larger_first (a ∷ p) [] v h q = let z : ◌≡◌ {A = ℕ} 0 1 = cc in absurd (omega arith)
larger_first (a ∷ p) (b ∷ r) [] h q = absurd q
larger_first (a ∷ p) (b ∷ r) (c ∷ v) h q = go_larger a b p r v (eqb a b) (ltb a b) refl refl (larger_first p r v) h c q.0 q.1

pub smaller_first : (p r v : List ℕ) → against p r ≡ smaller → p ≼ v → First v r
smaller_first [] [] v h q = let z : ◌≡◌ {A = ℕ} 0 1 = cc in absurd (omega arith)
smaller_first [] (b ∷ r) v h q = let z : ◌≡◌ {A = ℕ} 0 1 = cc in absurd (omega arith)
smaller_first (a ∷ p) [] v h q = let z : ◌≡◌ {A = ℕ} 0 1 = cc in absurd (omega arith)
smaller_first (a ∷ p) (b ∷ r) [] h q = absurd q
smaller_first (a ∷ p) (b ∷ r) (c ∷ v) h q = go_smaller a b p r v (eqb a b) (ltb a b) refl refl (smaller_first p r v) h c q.0 q.1

pub same_begins : (p r : List ℕ) (y : ℕ) → against p r ≡ same y → p ++ y ∷ [] ≼ r
same_begins [] [] y h = let z : ◌≡◌ {A = ℕ} 0 1 = cc in absurd (omega arith)
same_begins [] (b ∷ r) y h = let e : b ≡ y = cc in (sym e, tt)
same_begins (a ∷ p) [] y h = let z : ◌≡◌ {A = ℕ} 0 1 = cc in absurd (omega arith)
same_begins (a ∷ p) (b ∷ r) y h = go_same a b p r y (eqb a b) (ltb a b) refl (same_begins p r y) h

pub ended_begins : (p r : List ℕ) → against p r ≡ ended → r ≼ p
ended_begins [] [] h = tt
ended_begins [] (b ∷ r) h = let z : ◌≡◌ {A = ℕ} 0 1 = cc in absurd (omega arith)
ended_begins (a ∷ p) [] h = tt
ended_begins (a ∷ p) (b ∷ r) h = go_ended a b p r (eqb a b) (ltb a b) refl (ended_begins p r) h

pub begins_behind : (u v p : List ℕ) → u ≼ v → drop (length u) v ≼ p → v ≼ u ++ p
begins_behind [] v p h g = g
begins_behind (a ∷ u) [] p h g = tt
begins_behind (a ∷ u) (b ∷ v) p h g = (sym h.0, begins_behind u v p h.1 g)

pub nil_not_larger : (r : List ℕ) → against [] r ≡ larger → ⊥
nil_not_larger [] h = let z : ◌≡◌ {A = ℕ} 0 1 = cc h in omega arith
nil_not_larger (b ∷ r) h = let z : ◌≡◌ {A = ℕ} 0 1 = cc h in omega arith
