-- Sums over lists of entries and over seats.
use Rattle.std.proofs.Common.{◌≡◌, ℕ, zero, suc, ◌+◌, ◌<◌, ◌≤◌, List, [], ◌∷◌, ◌++◌, Some, None, Option, sym, refl, ap, inl, inr, arith}
use native.Mathlib.Decide.{ℕ_discrete}
use Rattle.model.specs.Holds.{Grip, Hold}
use Rattle.model.specs.Refs.{Ref, same}
use Rattle.model_words.specs.Words.{State, only, tally, total, sum, Every, In}
use Rattle.model_words.specs.Effects.{spot, Turn}

pub pick : {P : Type 0} (a b : Ref) → (a ≡ b → P) → ((a ≡ b → ⊥) → P) → P
pick a b f h = elim (same a b) [ yes e ↦ f e | no n ↦ h n ]

pub only_yes : (P : Type 0) (d : Dec P) (n : ℕ) → P → only d n ≡ n
only_yes P d n p = elim d as (λ (q : Dec P). only q n ≡ n) [ yes e ↦ refl | no m ↦ absurd (m p) ]

pub only_no : (P : Type 0) (d : Dec P) (n : ℕ) → (P → ⊥) → only d n ≡ 0
only_no P d n p = elim d as (λ (q : Dec P). only q n ≡ 0) [ yes e ↦ absurd (p e) | no m ↦ refl ]

pub tally-++ : (f : Grip → ℕ) (x : Ref) (a b : List Hold) → tally f x (a ++ b) ≡ tally f x a + tally f x b
unfolding tally
tally-++ f x [] b = omega arith
tally-++ f x (h ∷ a) b = omega (arith, tally-++ f x a b)

-- the sum that an entry on its own node adds
abbrev pub of : (Grip → ℕ) → Option Grip → ℕ
of f None = 0
of f (Some g) = f g

pub tally_spot : (f : Grip → ℕ) (x : Ref) (d : ℕ) (o : Option Grip) → tally f x (spot x d o) ≡ of f o
unfolding tally
tally_spot f x d None = refl
tally_spot f x d (Some g) = omega (arith, only_yes (x ≡ x) (same x x) (f g) refl)

pub tally_else : (f : Grip → ℕ) (x y : Ref) (d : ℕ) (o : Option Grip) → (y ≡ x → ⊥) → tally f y (spot x d o) ≡ 0
unfolding tally
tally_else f x y d None n = refl
tally_else f x y d (Some g) n = omega (arith, only_no (x ≡ y) (same x y) (f g) (λ e. n (sym e)))

pub tally_none : (f : Grip → ℕ) (x : Ref) (hs : List Hold) → Every (λ h. h.at ≡ x → ⊥) hs → tally f x hs ≡ 0
unfolding tally
tally_none f x [] n = refl
tally_none f x (h ∷ hs) n = omega (arith, only_no (h.at ≡ x) (same h.at x) (f h.grip) n.0, tally_none f x hs n.1)

pub tally_in : (f : Grip → ℕ) (h : Hold) (hs : List Hold) → In h hs → f h.grip ≤ tally f h.at hs
unfolding tally
tally_in f h [] i = absurd i
tally_in f h (g ∷ hs) (inl e) =
    let a : only (same g.at h.at) (f g.grip) ≡ f g.grip = only_yes (g.at ≡ h.at) (same g.at h.at) (f g.grip) (ap (λ (k : Hold). k.at) (sym e)) in
    let b : f h.grip ≡ f g.grip = ap (λ (k : Hold). f k.grip) e in
    omega (arith, a, b)
tally_in f h (g ∷ hs) (inr i) = omega (arith, tally_in f h hs i)

pub total_same : (f g : ℕ → ℕ) (n : ℕ) → ((c : ℕ) → c < n → g c ≡ f c) → total g n ≡ total f n
unfolding total
total_same f g zero h = refl
total_same f g (suc n) h = omega (arith, h n (omega arith), total_same f g n (λ c l. h c (omega (arith, l))))

-- one seat exchanged
pub total_put : (f g : ℕ → ℕ) (b n : ℕ) → b < n → ((c : ℕ) → (c ≡ b → ⊥) → g c ≡ f c) → total g n + f b ≡ total f n + g b
unfolding total
total_put f g b zero l h = absurd (omega (arith, l))
total_put f g b (suc n) l h = elim (ℕ_discrete b n) [
  | yes e ↦ (let s = total_same f g n (λ c k. h c (λ q. omega (arith, q, e, k))) in
      let u : f b ≡ f n = ap f e in
      let v : g b ≡ g n = ap g e in
      omega (arith, s, u, v))
  | no ne ↦ omega (arith, h n (λ q. ne (sym q)), total_put f g b n (omega (arith, l, ne)) h)
]

pub total_zero : (f : ℕ → ℕ) (n : ℕ) → ((c : ℕ) → c < n → f c ≡ 0) → total f n ≡ 0
unfolding total
total_zero f zero h = refl
total_zero f (suc n) h = omega (arith, h n (omega arith), total_zero f n (λ c l. h c (omega (arith, l))))

pub total_one : (f : ℕ → ℕ) (b n : ℕ) → b < n → f b ≤ total f n
unfolding total
total_one f b zero l = absurd (omega (arith, l))
total_one f b (suc n) l = elim (ℕ_discrete b n) [
  | yes e ↦ (let u : f b ≡ f n = ap f e in omega (arith, u))
  | no ne ↦ omega (arith, total_one f b n (omega (arith, l, ne)))
]

pub total_two : (f : ℕ → ℕ) (a b n : ℕ) → a < n → b < n → (a ≡ b → ⊥) → f a + f b ≤ total f n
unfolding total
total_two f a b zero l k ne = absurd (omega (arith, l))
total_two f a b (suc n) l k ne = elim (ℕ_discrete a n) [
  | yes e ↦ (let u : f a ≡ f n = ap f e in omega (arith, u, total_one f b n (omega (arith, k, e, ne))))
  | no na ↦ elim (ℕ_discrete b n) [
    | yes e ↦ (let u : f b ≡ f n = ap f e in omega (arith, u, total_one f a n (omega (arith, l, na))))
    | no nb ↦ omega (arith, total_two f a b n (omega (arith, l, na)) (omega (arith, k, nb)) ne)
  ]
]

-- what an exchange does to a sum, at its own node and at another
module _ (f : Grip → ℕ) {S T : State} {i : ℕ} {x : Ref} {d : ℕ} {out new : Option Grip} (t : Turn S T i x d out new) where
  list_put : (y : Ref) → tally f y (T.held i) + tally f y (spot x d out) ≡ tally f y (S.held i) + tally f y (spot x d new)
  list_put y =
      let a : tally f y (S.held i) ≡ tally f y (t.before ++ (spot x d out ++ t.after)) = ap (tally f y) t.was in
      let b : tally f y (T.held i) ≡ tally f y (t.before ++ (spot x d new ++ t.after)) = ap (tally f y) t.is in
      omega (
        arith,
        a,
        b,
        tally-++ f y t.before (spot x d out ++ t.after),
        tally-++ f y (spot x d out) t.after,
        tally-++ f y t.before (spot x d new ++ t.after),
        tally-++ f y (spot x d new) t.after,
      )

  sum_put : (y : Ref) → sum f y T + tally f y (spot x d out) ≡ sum f y S + tally f y (spot x d new)
  unfolding sum
  sum_put y = omega (
    arith,
    list_put y,
    total_put (λ (j : ℕ). tally f y (S.held j)) (λ (j : ℕ). tally f y (T.held j)) i 8 t.seat (λ j n. ap (tally f y) (t.others j n)),
  )

  pub sum_there : sum f x T + of f out ≡ sum f x S + of f new
  sum_there = omega (arith, sum_put x, tally_spot f x d out, tally_spot f x d new)

  pub sum_else : (y : Ref) → (y ≡ x → ⊥) → sum f y T ≡ sum f y S
  sum_else y n = omega (arith, sum_put y, tally_else f x y d out n, tally_else f x y d new n)
