-- Counting in lists.
use Rattle.std.proofs.Common.{◌≡◌, ℕ, zero, suc, ◌+◌, ◌<◌, ◌≤◌, Bool, true, false, cond, ◌⊎◌, List, [], ◌∷◌, ◌++◌, Option, sym, refl, ap, inl, inr, ⊎_elim, arith}
use Rattle.model.specs.Refs.{Ref, same, is}
use Rattle.model.specs.Records.{Record}
use Rattle.model_slots.specs.Slots.{bit, both, count, has, refs, stamped, keep, clear}

pub is_tells : (x y : Ref) → ((is x y ≡ true) × (x ≡ y)) ⊎ ((is x y ≡ false) × (x ≡ y → ⊥))
unfolding is
is_tells x y = look (same x y)
  where
    look : (d : Dec (x ≡ y)) → ((elim d [ yes _ ↦ true | no _ ↦ false ] ≡ true) × (x ≡ y)) ⊎ ((elim d [ yes _ ↦ true | no _ ↦ false ] ≡ false) × (x ≡ y → ⊥))
    look (yes e) = inl (refl, e)
    look (no n) = inr (refl, n)

pub is_self : (x : Ref) → is x x ≡ true
is_self x = ⊎_elim (λ a. a.0) (λ b. absurd (b.1 refl)) (is_tells x x)

pub bit_most : (b : Bool) → bit b ≤ 1
bit_most true = omega arith
bit_most false = omega arith

pub bit_true : (b : Bool) → 0 < bit b → b ≡ true
bit_true true h = refl
bit_true false h = absurd (omega arith)

pub true_bit : (b : Bool) → b ≡ true → bit b ≡ 1
true_bit b e = ap bit e

pub both_true : (a b : Bool) → both a b ≡ true → (a ≡ true) × (b ≡ true)
both_true true b e = (refl, e)
both_true false b e = let z : ◌≡◌ {A = ℕ} 0 1 = cc e in absurd (omega arith)

pub count_app : (x : Ref) (l m : List Ref) → count x (l ++ m) ≡ count x l + count x m
count_app x [] m = omega arith
count_app x (y ∷ l) m = omega (arith, count_app x l m)

pub refs_app : (l m : List Record) → refs (l ++ m) ≡ refs l ++ refs m
refs_app [] m = refl
refs_app (r ∷ l) m = ap (λ (k : List Ref). r.ref ∷ k) (refs_app l m)

pub refs_stamped : (n : ℕ) (l : List Ref) → refs (stamped n l) ≡ l
refs_stamped n [] = refl
refs_stamped n (y ∷ l) = ap (λ (k : List Ref). y ∷ k) (refs_stamped n l)

pub has_none : (x : Ref) (l : List Ref) → has x l ≡ false → count x l ≡ 0
has_none x [] e = refl
has_none x (y ∷ l) e = go (is x y) e (λ q. has_none x l q)
  where
    go : (b : Bool) → cond b true (has x l) ≡ false → (has x l ≡ false → count x l ≡ 0) → bit b + count x l ≡ 0
    go true q k = let z : ◌≡◌ {A = ℕ} 0 1 = cc q in absurd (omega arith)
    go false q k = omega (arith, k q)

pub has_some : (x : Ref) (l : List Ref) → has x l ≡ true → 0 < count x l
has_some x [] e = let z : ◌≡◌ {A = ℕ} 0 1 = cc e in absurd (omega arith)
has_some x (y ∷ l) e = go (is x y) e (λ q. has_some x l q)
  where
    go : (b : Bool) → cond b true (has x l) ≡ true → (has x l ≡ true → 0 < count x l) → 0 < bit b + count x l
    go true q k = omega arith
    go false q k = omega (arith, k q)

pub has_counted : (x : Ref) (l : List Ref) → 0 < count x l → has x l ≡ true
has_counted x l h = go (has x l) refl
  where
    go : (b : Bool) → has x l ≡ b → has x l ≡ true
    go true e = e
    go false e = absurd (omega (arith, has_none x l e, h))

-- each record of a list
abbrev pub Each : (Record → Type 0) → List Record → Type 0
Each P [] = Unit {0}
Each P (r ∷ l) = P r × Each P l

pub each_map : (P Q : Record → Type 0) → ((r : Record) → P r → Q r) → (l : List Record) → Each P l → Each Q l
each_map P Q f [] h = tt
each_map P Q f (r ∷ l) h = (f r h.0, each_map P Q f l h.1)

pub each_app : (P : Record → Type 0) (l m : List Record) → Each P l → Each P m → Each P (l ++ m)
each_app P [] m h k = k
each_app P (r ∷ l) m h k = (h.0, each_app P l m h.1 k)

pub each_keep : (P : Record → Type 0) (q : Record → Bool) (l : List Record) → Each P l → Each (λ r. P r × (q r ≡ true)) (keep q l)
each_keep P q [] h = tt
each_keep P q (r ∷ l) h = go (q r) refl (each_keep P q l h.1)
  where
    go : (b : Bool) → q r ≡ b → Each (λ r. P r × (q r ≡ true)) (keep q l) → Each (λ r. P r × (q r ≡ true)) (cond b (r ∷ keep q l) (keep q l))
    go true e k = ((h.0, e), k)
    go false e k = k

pub count_keep_most : (x : Ref) (q : Record → Bool) (l : List Record) → count x (refs (keep q l)) ≤ count x (refs l)
count_keep_most x q [] = omega arith
count_keep_most x q (r ∷ l) = go (q r) (count_keep_most x q l)
  where
    go : (b : Bool) → count x (refs (keep q l)) ≤ count x (refs l) → count x (refs (cond b (r ∷ keep q l) (keep q l))) ≤ bit (is x r.ref) + count x (refs l)
    go true k = omega (arith, k)
    go false k = omega (arith, k)

pub each_stamped : (n : ℕ) (P : Ref → Type 0) (l : List Ref) → ((y : Ref) → 0 < count y l → P y) → Each (λ r. P r.ref × (r.epoch ≡ n)) (stamped n l)
each_stamped n P [] h = tt
each_stamped n P (y ∷ l) h = ((h y (let z : bit (is y y) ≡ 1 = ap bit (is_self y) in omega (arith, z)), refl), each_stamped n P l (λ w k. h w (omega (arith, k))))

-- where the records of x are all kept, or all left out
pub count_keep : (x : Ref) (q : Record → Bool) (b : Bool) (l : List Record) → Each (λ r. r.ref ≡ x → q r ≡ b) l
    → count x (refs (keep q l)) ≡ cond b (count x (refs l)) 0
count_keep x q true [] h = refl
count_keep x q false [] h = refl
count_keep x q b (r ∷ l) h = ⊎_elim
    (λ a. mine b (q r) (h.0 (sym a.1)) a.0 (count_keep x q b l h.1))
    (λ a. theirs b (q r) a.0 (count_keep x q b l h.1))
    (is_tells x r.ref)
  where
    mine : (b c : Bool) → c ≡ b → is x r.ref ≡ true → count x (refs (keep q l)) ≡ cond b (count x (refs l)) 0
        → count x (refs (cond c (r ∷ keep q l) (keep q l))) ≡ cond b (bit (is x r.ref) + count x (refs l)) 0
    mine true true e i k = omega (arith, k)
    mine false false e i k = k
    mine true false e i k = let z : ◌≡◌ {A = ℕ} 0 1 = cc e in absurd (omega arith)
    mine false true e i k = let z : ◌≡◌ {A = ℕ} 0 1 = cc e in absurd (omega arith)

    theirs : (b c : Bool) → is x r.ref ≡ false → count x (refs (keep q l)) ≡ cond b (count x (refs l)) 0
        → count x (refs (cond c (r ∷ keep q l) (keep q l))) ≡ cond b (bit (is x r.ref) + count x (refs l)) 0
    theirs true true i k = let z : bit (is x r.ref) ≡ 0 = ap bit i in omega (arith, k, z)
    theirs true false i k = let z : bit (is x r.ref) ≡ 0 = ap bit i in omega (arith, k, z)
    theirs false true i k = let z : bit (is x r.ref) ≡ 0 = ap bit i in omega (arith, k, z)
    theirs false false i k = k

pub clear_same : (f g : ℕ → Option ℕ) → ((s : ℕ) → f s ≡ g s) → (r n : ℕ) → clear f r n ≡ clear g r n
clear_same f g h r zero = refl
clear_same f g h r (suc n) = rw (h n, clear_same f g h r n)
