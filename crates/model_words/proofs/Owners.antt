-- Who holds what: locked words have one owner, and what nobody holds is free.
use Rattle.std.proofs.Common.{◌≡◌, ℕ, zero, suc, ◌+◌, ◌<◌, ◌≤◌, true, false, List, [], ◌∷◌, sym, refl, ap, subst, inl, inr, arith}
use native.Mathlib.Decide.{ℕ_discrete}
use Rattle.model.specs.Holds.{Grip, Hold}
use Rattle.model.specs.Refs.{Ref, same}
use Rattle.model_words.specs.Words.{State, only, bit, lock_of, grip_weight, tally, total, sum, Every, In, Unheld, WordsOk}
use Rattle.model.specs.Holds.Grip.{Permit, Locked}
use Rattle.model_words.proofs.Sums.{pick, only_no, tally_none, tally_in, total_zero, total_one, total_two}
use Rattle.model_words.proofs.Keep.{bit_le, bit_false, bit_true}

pub sum_none : (f : Grip → ℕ) (x : Ref) (S : State) → ((i : ℕ) → i < 8 → Unheld S i x) → sum f x S ≡ 0
unfolding sum
sum_none f x S n = total_zero (λ (i : ℕ). tally f x (S.held i)) 8 (λ i l. tally_none f x (S.held i) (n i l))

pub sum_in : (f : Grip → ℕ) (S : State) (i : ℕ) (h : Hold) → i < 8 → In h (S.held i) → f h.grip ≤ sum f h.at S
unfolding sum
sum_in f S i h l m = omega (arith, tally_in f h (S.held i) m, total_one (λ (i : ℕ). tally f h.at (S.held i)) i 8 l)

pub sum_two : (f : Grip → ℕ) (S : State) (i j : ℕ) (h k : Hold) → i < 8 → j < 8 → (i ≡ j → ⊥) → In h (S.held i) → In k (S.held j) → h.at ≡ k.at
    → f h.grip + f k.grip ≤ sum f h.at S
unfolding sum
sum_two f S i j h k li lj ne m n e =
    let a : tally f h.at (S.held j) ≡ tally f k.at (S.held j) = ap (λ (y : Ref). tally f y (S.held j)) e in
    omega (arith, a, tally_in f h (S.held i) m, tally_in f k (S.held j) n, total_two (λ (i : ℕ). tally f h.at (S.held i)) i j 8 li lj ne)

lock_one : (g : Grip) → g ≡ Locked → lock_of g ≡ 1
lock_one g e = ap lock_of e

only_le : (P : Type 0) (d : Dec P) (n : ℕ) → only d n ≤ n
only_le P d n = elim d as (λ (q : Dec P). only q n ≤ n) [ yes e ↦ omega arith | no m ↦ omega arith ]

-- a positive sum has an entry
tally_find : (x : Ref) (hs : List Hold) → 1 ≤ tally lock_of x hs → (h : Hold) × In h hs × (h.at ≡ x) × (h.grip ≡ Locked)
unfolding tally
tally_find x [] l = absurd (omega (arith, l))
tally_find x (h ∷ hs) l =
    let later : 1 ≤ tally lock_of x hs → (k : Hold) × In k (h ∷ hs) × (k.at ≡ x) × (k.grip ≡ Locked) = λ p.
    let r = tally_find x hs p in (r.0, inr r.1, r.2, r.3) in
    pick h.at x
    (λ e. let go : (g : Grip) → h.grip ≡ g → (k : Hold) × In k (h ∷ hs) × (k.at ≡ x) × (k.grip ≡ Locked) = λ g. elim g as (λ (g : Grip). h.grip ≡ g → (k : Hold) × In k (h ∷ hs) × (k.at ≡ x) × (k.grip ≡ Locked)) [
      | Permit c w ↦ (λ q. let z : lock_of h.grip ≡ 0 = ap lock_of q in later (omega (arith, l, z, only_le (h.at ≡ x) (same h.at x) (lock_of h.grip))))
      | Locked ↦ (λ q. (h, inl refl, e, q))
    ] in go h.grip refl)
    (λ n. later (omega (arith, l, only_no (h.at ≡ x) (same h.at x) (lock_of h.grip) n)))

total_find : (f : ℕ → ℕ) (n : ℕ) → 1 ≤ total f n → (i : ℕ) × (i < n) × (1 ≤ f i)
unfolding total
total_find f zero l = absurd (omega (arith, l))
total_find f (suc n) l = elim (ℕ_discrete (f n) 0) [
  | yes e ↦ (let r = total_find f n (omega (arith, l, e)) in (r.0, omega (arith, r.1), r.2))
  | no ne ↦ (n, omega arith, omega (arith, ne))
]

module _ {limit : ℕ} (S : State) (ok : WordsOk limit S) where
  pub owner : (i : ℕ) (h : Hold) → i < 8 → In h (S.held i) → h.grip ≡ Locked → (S.words h.at).locked ≡ true
  owner i h l m e = bit_true (S.words h.at).locked (omega (arith, sum_in lock_of S i h l m, lock_one h.grip e, ok.locks h.at))

  pub owner_one : (i j : ℕ) (h k : Hold) → i < 8 → j < 8 → In h (S.held i) → In k (S.held j) → h.at ≡ k.at → h.grip ≡ Locked → k.grip ≡ Locked → i ≡ j
  owner_one i j h k li lj m n e p q = elim (ℕ_discrete i j) [
    | yes r ↦ r
    | no ne ↦ absurd (omega (arith, sum_two lock_of S i j h k li lj ne m n e, lock_one h.grip p, lock_one k.grip q, ok.locks h.at, bit_le (S.words h.at).locked))
  ]

  pub owned : (x : Ref) → (S.words x).locked ≡ true → (i : ℕ) × (i < 8) × (h : Hold) × In h (S.held i) × (h.at ≡ x) × (h.grip ≡ Locked)
  unfolding sum
  owned x e =
      let b : bit (S.words x).locked ≡ 1 = ap bit e in
      let r = total_find (λ (i : ℕ). tally lock_of x (S.held i)) 8 (omega (arith, b, ok.locks x)) in
      let s = tally_find x (S.held r.0) r.2 in
      (r.0, r.1, s.0, s.1, s.2, s.3)

  pub free : (x : Ref) → ((i : ℕ) → i < 8 → Unheld S i x) → ((S.words x).locked ≡ false) × ((S.words x).shares ≡ 0)
  free x n = (
    bit_false (S.words x).locked (omega (arith, sum_none lock_of x S n, ok.locks x)),
    omega (arith, sum_none grip_weight x S n, ok.shares x),
  )

  pub alone : (i : ℕ) → ((j : ℕ) → j < 8 → (j ≡ i → ⊥) → S.held j ≡ []) → (x : Ref) → Unheld S i x → ((S.words x).locked ≡ false) × ((S.words x).shares ≡ 0)
  alone i h x n = free x (λ j l. elim (ℕ_discrete j i) [
    | yes e ↦ subst (λ (k : ℕ). Unheld S k x) (sym e) n
    | no ne ↦ subst (Every (λ h. h.at ≡ x → ⊥)) (sym (h j l ne)) tt
  ])
