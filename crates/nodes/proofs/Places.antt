use Rattle.std.proofs.Common.{◌≡◌, ℕ, zero, suc, ◌+◌, ◌-◌, ◌<◌, ◌≤◌, cond, eqb, ◌⊎◌, List, length, get_or, set, replicate, Some, None, Option, sym, refl, ap, ◌∙◌, subst, inl, inr, ⊎_elim, arith, get_or-set_other, get_or-set_same}
use Rattle.std.proofs.lemmas.Bool.{cases_eq, eq-eqb, ne_eqb, cond-true, cond-false}
use Rattle.nodes.specs.declared.child.Child.{Child}
use Rattle.nodes.specs.View.{Changed, Taken}
use Rattle.nodes.specs.Listed.{no_child}
use Rattle.nodes.specs.Placing.{direct, at_place, placed, Inside, Apart}
use Rattle.nodes.proofs.Views.{changed_from}

-- a list of one value, read with that value as the default
pub get_d_one : {A : Type 0} (n k : ℕ) (a : A) → get_or (replicate n a) k a ≡ a
get_d_one zero k a = refl
get_d_one (suc n) zero a = refl
get_d_one (suc n) (suc k) a = get_d_one n k a

pub direct_changed : (cs : List (Option Child)) (i b : ℕ) (o : Option Child) → i ≡ b → i < length cs → Changed (direct cs) (direct (set cs i o)) b o
direct_changed cs i b o e l = subst (λ (b : ℕ). Changed (direct cs) (direct (set cs i o)) b o) e
    (changed_from (direct cs) (direct (set cs i o)) i o (get_or-set_same cs i o None l) (λ k n. get_or-set_other cs i k o None n))

at_some : (cs : List Child) (p : ℕ) → 0 < p → at_place cs p ≡ Some (get_or cs (p - 1) no_child)
at_some cs p l = cond-false (eqb p 0) None (Some (get_or cs (p - 1) no_child)) (ne_eqb p 0 (λ e. omega arith))

pub at_none : (cs : List Child) (p : ℕ) → p ≡ 0 → at_place cs p ≡ None
at_none cs p e = cond-true (eqb p 0) None (Some (get_or cs (p - 1) no_child)) (eq-eqb p 0 e)

pub taken_place : (cs : List Child) (p : ℕ) → Taken (at_place cs p) → 0 < p
taken_place cs p t = ⊎_elim (λ (e : p ≡ 0). absurd (subst Taken (at_none cs p e) t)) (λ (n : p ≡ 0 → ⊥). omega arith) (cases_eq p 0)

-- another place is as it was
at_other : (cs : List Child) (p q : ℕ) (c : Child) → (q ≡ p + 1 → ⊥) → at_place (set cs p c) q ≡ at_place cs q
at_other cs p q c n =
    ⊎_elim
    (λ (e : q ≡ 0). at_none (set cs p c) q e ∙ sym (at_none cs q e))
    (λ (m : q ≡ 0 → ⊥).
    at_some (set cs p c) q (omega arith) ∙ ap Some (get_or-set_other cs p (q - 1) c no_child (λ e. n (omega arith))) ∙ sym (at_some cs q (omega arith)))
    (cases_eq q 0)

at_same : (cs : List Child) (p q : ℕ) (c : Child) → p < length cs → q ≡ p + 1 → at_place (set cs p c) q ≡ Some c
at_same cs p q c l e =
    let f : q - 1 ≡ p = omega arith in
    at_some (set cs p c) q (omega arith) ∙ ap (λ j. Some (get_or (set cs p c) j no_child)) f ∙ ap Some (get_or-set_same cs p c no_child l)

-- a child put in at the end
pub added_changed : (n : ℕ) (ps : List ℕ) (cs : List Child) (b k : ℕ) (c : Child) → b ≡ k → b < length ps → n < length cs → Inside n ps → Changed (placed ps cs) (placed (set ps b (n + 1)) (set cs n c)) k (Some c)
added_changed n ps cs b k c at l m inside = subst (λ (k : ℕ). Changed (placed ps cs) (placed (set ps b (n + 1)) (set cs n c)) k (Some c)) at
    (changed_from (placed ps cs) (placed (set ps b (n + 1)) (set cs n c)) b (Some c)
    (at_same cs n (get_or (set ps b (n + 1)) b 0) c m (get_or-set_same ps b (n + 1) 0 l))
    (λ k ne.
    let h = inside k in
    ap (at_place (set cs n c)) (get_or-set_other ps b k (n + 1) 0 ne) ∙ at_other cs n (get_or ps k 0) c (λ e. omega arith)))

pub added_inside : (n : ℕ) (ps : List ℕ) (b : ℕ) → b < length ps → Inside n ps → Inside (n + 1) (set ps b (n + 1))
added_inside n ps b l inside k =
    ⊎_elim
    (λ (e : k ≡ b). let f = ap (λ j. get_or (set ps b (n + 1)) j 0) e ∙ get_or-set_same ps b (n + 1) 0 l in omega arith)
    (λ (ne : k ≡ b → ⊥). let f = get_or-set_other ps b k (n + 1) 0 ne in let h = inside k in omega arith)
    (cases_eq k b)

pub added_apart : (n : ℕ) (ps : List ℕ) (b : ℕ) → b < length ps → Inside n ps → Apart ps → Apart (set ps b (n + 1))
added_apart n ps b l inside apart j k w =
    let u = w.0 in
    let v = w.1 in
    let s = get_or-set_same ps b (n + 1) 0 l in
    let hj = inside j in
    let hk = inside k in
    ⊎_elim
    (λ (e : j ≡ b).
    let f = ap (λ i. get_or (set ps b (n + 1)) i 0) e in
    ⊎_elim
    (λ (d : k ≡ b). e ∙ sym d)
    (λ (d : k ≡ b → ⊥). let g = get_or-set_other ps b k (n + 1) 0 d in absurd (omega arith))
    (cases_eq k b))
    (λ (e : j ≡ b → ⊥).
    let f = get_or-set_other ps b j (n + 1) 0 e in
    ⊎_elim
    (λ (d : k ≡ b). let g = ap (λ i. get_or (set ps b (n + 1)) i 0) d in absurd (omega arith))
    (λ (d : k ≡ b → ⊥). let g = get_or-set_other ps b k (n + 1) 0 d in apart j k (omega arith, omega arith))
    (cases_eq k b))
    (cases_eq j b)

-- another child at the place p of b
pub swapped_changed : (ps : List ℕ) (cs : List Child) (b p : ℕ) (c : Child) → get_or ps b 0 ≡ p → 0 < p → p ≤ length cs → Apart ps → Changed (placed ps cs) (placed ps (set cs (p - 1) c)) b (Some c)
swapped_changed ps cs b p c e l m apart =
    changed_from (placed ps cs) (placed ps (set cs (p - 1) c)) b (Some c)
    (at_same cs (p - 1) (get_or ps b 0) c (omega arith) (omega arith))
    (λ k ne. at_other cs (p - 1) (get_or ps k 0) c (λ q. ne (sym (apart b k (omega arith, omega arith)))))

-- each place n becomes p
abbrev pub Renamed : ℕ → ℕ → List ℕ → List ℕ → Type 0
Renamed n p ps rs = (k : ℕ) → get_or rs k 0 ≡ cond (eqb (get_or ps k 0) n) p (get_or ps k 0)

-- b gives up its place p, and the last place n is renamed to p
pub record Freed (n p b : ℕ) (ps rs : List ℕ) : Type 0 where
  pub within : b < length rs
  pub place : get_or ps b 0 ≡ p
  pub taken : 0 < p
  pub renamed : Renamed n p ps rs

-- what stands under another byte when b is freed
freed_other : (n p b : ℕ) (ps rs : List ℕ) → Freed n p b ps rs → (k : ℕ) → (k ≡ b → ⊥) → ((get_or ps k 0 ≡ n) × (get_or (set rs b 0) k 0 ≡ p)) ⊎ ((get_or ps k 0 ≡ n → ⊥) × (get_or (set rs b 0) k 0 ≡ get_or ps k 0))
freed_other n p b ps rs f k ne =
    let o = get_or-set_other rs b k 0 0 ne in
    ⊎_elim
    (λ (e : get_or ps k 0 ≡ n). inl (e, o ∙ f.renamed k ∙ cond-true (eqb (get_or ps k 0) n) p (get_or ps k 0) (eq-eqb (get_or ps k 0) n e)))
    (λ (d : get_or ps k 0 ≡ n → ⊥). inr (d, o ∙ f.renamed k ∙ cond-false (eqb (get_or ps k 0) n) p (get_or ps k 0) (ne_eqb (get_or ps k 0) n d)))
    (cases_eq (get_or ps k 0) n)

-- no other byte has b's place
freed_own : (n p b : ℕ) (ps rs : List ℕ) → Apart ps → Freed n p b ps rs → (k : ℕ) → get_or ps k 0 ≡ p → k ≡ b
freed_own n p b ps rs apart f k e = let t = f.taken in apart k b (omega arith, e ∙ sym f.place)

pub freed_changed : (n p b k : ℕ) (ps rs : List ℕ) (cs : List Child) → b ≡ k → n ≤ length cs → Inside n ps → Apart ps → Freed n p b ps rs → Changed (placed ps cs) (placed (set rs b 0) (set cs (p - 1) (get_or cs (n - 1) no_child))) k None
freed_changed n p b k ps rs cs at m inside apart f =
    let c = get_or cs (n - 1) no_child in
    let ib = inside b in
    let place = f.place in
    let taken = f.taken in
    subst (λ (k : ℕ). Changed (placed ps cs) (placed (set rs b 0) (set cs (p - 1) c)) k None) at
    (changed_from (placed ps cs) (placed (set rs b 0) (set cs (p - 1) c)) b None
    (at_none (set cs (p - 1) c) (get_or (set rs b 0) b 0) (get_or-set_same rs b 0 0 f.within))
    (λ k ne.
    ⊎_elim
    (λ w.
    let e = w.0 in
    let d = w.1 in
    at_same cs (p - 1) (get_or (set rs b 0) k 0) c (omega arith) (omega arith)
    ∙ ap (λ j. Some (get_or cs (j - 1) no_child)) (sym e) ∙ sym (at_some cs (get_or ps k 0) (omega arith)))
    (λ w.
    ap (at_place (set cs (p - 1) c)) w.1
    ∙ at_other cs (p - 1) (get_or ps k 0) c (λ e. ne (freed_own n p b ps rs apart f k (omega arith))))
    (freed_other n p b ps rs f k ne)))

pub freed_inside : (n p b : ℕ) (ps rs : List ℕ) → Inside n ps → Apart ps → Freed n p b ps rs → Inside (n - 1) (set rs b 0)
freed_inside n p b ps rs inside apart f k =
    let ib = inside b in
    let ik = inside k in
    let place = f.place in
    ⊎_elim
    (λ (e : k ≡ b). let d = ap (λ j. get_or (set rs b 0) j 0) e ∙ get_or-set_same rs b 0 0 f.within in omega arith)
    (λ (ne : k ≡ b → ⊥).
    ⊎_elim
    (λ w.
    let e = w.0 in
    let d = w.1 in
    ⊎_elim
    (λ (q : p ≡ n). absurd (ne (freed_own n p b ps rs apart f k (e ∙ sym q))))
    (λ (q : p ≡ n → ⊥). omega arith)
    (cases_eq p n))
    (λ w. let e = w.0 in let d = w.1 in omega arith)
    (freed_other n p b ps rs f k ne))
    (cases_eq k b)

pub freed_apart : (n p b : ℕ) (ps rs : List ℕ) → Inside n ps → Apart ps → Freed n p b ps rs → Apart (set rs b 0)
freed_apart n p b ps rs inside apart f j k w =
    let u = w.0 in
    let v = w.1 in
    let s = get_or-set_same rs b 0 0 f.within in
    let ib = inside b in
    let place = f.place in
    let taken = f.taken in
    ⊎_elim
    (λ (e : j ≡ b). let d = ap (λ i. get_or (set rs b 0) i 0) e in absurd (omega arith))
    (λ (nj : j ≡ b → ⊥).
    ⊎_elim
    (λ (e : k ≡ b). let d = ap (λ i. get_or (set rs b 0) i 0) e in absurd (omega arith))
    (λ (nk : k ≡ b → ⊥).
    ⊎_elim
    (λ x.
    let xe = x.0 in
    ⊎_elim
    (λ y. apart j k (omega arith, x.0 ∙ sym y.0))
    (λ y. absurd (nk (freed_own n p b ps rs apart f k (sym y.1 ∙ sym v ∙ x.1))))
    (freed_other n p b ps rs f k nk))
    (λ x.
    let xd = x.1 in
    ⊎_elim
    (λ y. absurd (nj (freed_own n p b ps rs apart f j (sym x.1 ∙ v ∙ y.1))))
    (λ y. apart j k (omega arith, sym x.1 ∙ v ∙ y.1))
    (freed_other n p b ps rs f k nk))
    (freed_other n p b ps rs f j nj))
    (cases_eq k b))
    (cases_eq j b)

pub fresh_inside : (n : ℕ) → Inside 0 (replicate n 0)
fresh_inside n k = let e = get_d_one {A = ℕ} n k 0 in omega arith

pub fresh_apart : (n : ℕ) → Apart (replicate n 0)
fresh_apart n j k w = let e = get_d_one {A = ℕ} n j 0 in let u = w.0 in absurd (omega arith)
