-- Records swept one by one.
use Rattle.std.proofs.Common.{◌≡◌, ℕ, suc, ◌+◌, ◌<◌, ◌≤◌, Bool, true, false, cond, List, [], ◌∷◌, ◌++◌, length, get_or, take, drop, Some, sym, refl, ap, ◌∙◌, subst, append_assoc, arith, length-append}
use Rattle.std.specs.Prelude.{not, map}
use Rattle.std.proofs.lemmas.List.Elements.{filter-append}
use mir.Val.{bool_byte}
use Rattle.std.proofs.ByRecursion.{All-push, All-get_or, All-from_get_or}
use Rattle.std.proofs.lemmas.List.{drop_more, take_more, map-append}
use Rattle.pools.specs.Contents.{first, rest}
use Rattle.pools.proofs.Below.{first_rest}
use Rattle.index.specs.declared.tree.Retired.{Retired}
use Rattle.index.specs.Sizes.{leaf_count}
use Rattle.index.specs.Sweeps.{freed_by, kept_by}
use Rattle.index.specs.Kept.{Ours, no_record}

-- the first record goes behind the others, or away
pub ours_first : (xs : List Retired) (x : Retired) → Some x ≡ first xs → Ours xs → x.slot < leaf_count
ours_first xs x e h =
    let whole = first_rest xs x e in
    subst Ours whole h 0 (omega arith)

pub ours_rest : (xs : List Retired) → Ours xs → Ours (rest xs)
ours_rest [] h = h
ours_rest (x ∷ xs) h = λ k l. h (suc k) (omega arith)

pub ours_turned : (xs : List Retired) (x : Retired) → Some x ≡ first xs → Ours xs → Ours (rest xs ++ x ∷ [])
ours_turned xs x e h =
    let P : Retired → Type 0 = λ r. r.slot < leaf_count in
    λ k l. All-get_or P (rest xs ++ x ∷ []) k no_record l (All-push P (rest xs) x (All-from_get_or P (rest xs) no_record (ours_rest xs h)) (ours_first xs x e h))

pub freed_push : (p : ℕ → Bool) (xs : List Retired) (x : Retired) → freed_by p (xs ++ x ∷ []) ≡ freed_by p xs ++ cond (p x.epoch) (x.slot ∷ []) []
freed_push p xs x =
    let last : map (λ (r : Retired). r.slot) (cond (p x.epoch) (x ∷ []) []) ≡ cond (p x.epoch) (x.slot ∷ []) [] = elim (p x.epoch) as (λ b. map (λ (r : Retired). r.slot) (cond b (x ∷ []) []) ≡ cond b (x.slot ∷ []) []) [ true ↦ refl | false ↦ refl ] in
    simp (filter-append, map-append, last)

pub kept_push : (p : ℕ → Bool) (xs : List Retired) (x : Retired) → kept_by p (xs ++ x ∷ []) ≡ kept_by p xs ++ cond (p x.epoch) [] (x ∷ [])
kept_push p xs x =
    let last : cond (not (p x.epoch)) (x ∷ []) [] ≡ cond (p x.epoch) [] (x ∷ []) = elim (p x.epoch) as (λ b. cond (not b) (x ∷ []) [] ≡ cond b [] (x ∷ [])) [ true ↦ refl | false ↦ refl ] in
    simp (filter-append, last)

-- one record more of R, with S the slots that were spare before
module _ (p : ℕ → Bool) (R : List Retired) (i : ℕ) (d : Retired) (h : i < length R) where
  pub first_left : drop i R ++ kept_by p (take i R) ≡ get_or R i d ∷ (drop (i + 1) R ++ kept_by p (take i R))
  first_left = ap (λ xs. xs ++ kept_by p (take i R)) (drop_more R i d h)

  pub kept_more : (drop (i + 1) R ++ kept_by p (take i R)) ++ cond (p (get_or R i d).epoch) [] (get_or R i d ∷ []) ≡ drop (i + 1) R ++ kept_by p (take (i + 1) R)
  kept_more =
      append_assoc (drop (i + 1) R) (kept_by p (take i R)) (cond (p (get_or R i d).epoch) [] (get_or R i d ∷ []))
      ∙ ap (λ xs. drop (i + 1) R ++ xs) (sym (kept_push p (take i R) (get_or R i d)) ∙ ap (kept_by p) (sym (take_more R i d h)))

  pub freed_more : freed_by p (take i R) ++ cond (p (get_or R i d).epoch) ((get_or R i d).slot ∷ []) [] ≡ freed_by p (take (i + 1) R)
  freed_more = sym (freed_push p (take i R) (get_or R i d)) ∙ ap (freed_by p) (sym (take_more R i d h))

  pub spare_more : (S : List ℕ) → (S ++ freed_by p (take i R)) ++ cond (p (get_or R i d).epoch) ((get_or R i d).slot ∷ []) [] ≡ S ++ freed_by p (take (i + 1) R)
  spare_more S = append_assoc S (freed_by p (take i R)) (cond (p (get_or R i d).epoch) ((get_or R i d).slot ∷ []) []) ∙ ap (λ xs. S ++ xs) freed_more

  length_one : (b : Bool) (x : ℕ) → length (cond b (x ∷ []) []) ≡ bool_byte b
  length_one true x = refl
  length_one false x = refl

  pub count_more : length (freed_by p (take i R)) + bool_byte (p (get_or R i d).epoch) ≡ length (freed_by p (take (i + 1) R))
  count_more =
      ap (λ n. length (freed_by p (take i R)) + n) (sym (length_one (p (get_or R i d).epoch) (get_or R i d).slot))
      ∙ sym (length-append (freed_by p (take i R)) (cond (p (get_or R i d).epoch) ((get_or R i d).slot ∷ []) []))
      ∙ ap length freed_more

pub one_or_none : (b : Bool) → bool_byte b ≤ 1
one_or_none true = omega arith
one_or_none false = omega arith
