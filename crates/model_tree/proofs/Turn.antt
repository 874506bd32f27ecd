-- The ghost after an exchange, made from who comes, goes and moves.
use Rattle.std.proofs.Common.{◌≡◌, ℕ, ◌⊎◌, List, [], ◌∷◌, refl, ◌∙◌, inl, inr, ⊎_elim}
use native.Mathlib.Decide.{ℕ_discrete}
use Rattle.model.specs.Refs.{Ref, Ref-discrete, Kind-discrete}
use Rattle.model.specs.Tree.{Ghost, Linked}
use Rattle.model.specs.Tree.Status.{linked, drawn, retired}
use Rattle.model_tree.specs.Graft.{In, All, Turned}
use Rattle.model_tree.proofs.Graft.{all_in, linked_drawn}

pub choose : {A : Type 0} → Ref → List Ref → A → A → A
choose x [] u v = v
choose x (y ∷ ys) u v = elim (Ref-discrete ℕ_discrete Kind-discrete x y) [ yes _ ↦ u | no _ ↦ choose x ys u v ]

pub choose_in : {A : Type 0} (x : Ref) (ys : List Ref) (u v : A) → In x ys → choose x ys u v ≡ u
unfolding choose
choose_in x [] u v i = absurd i
choose_in x (y ∷ ys) u v i = go (λ j. choose_in x ys u v j) (Ref-discrete ℕ_discrete Kind-discrete x y)
  where
    go : (In x ys → choose x ys u v ≡ u) → (d : Dec (x ≡ y)) → (elim d [ yes _ ↦ u | no _ ↦ choose x ys u v ]) ≡ u
    go h (yes e) = refl
    go h (no n) = h (⊎_elim (λ e. absurd (n e)) (λ j. j) i)

pub choose_out : {A : Type 0} (x : Ref) (ys : List Ref) (u v : A) → (In x ys → ⊥) → choose x ys u v ≡ v
unfolding choose
choose_out x [] u v n = refl
choose_out x (y ∷ ys) u v n = go (choose_out x ys u v (λ i. n (inr i))) (Ref-discrete ℕ_discrete Kind-discrete x y)
  where
    go : choose x ys u v ≡ v → (d : Dec (x ≡ y)) → (elim d [ yes _ ↦ u | no _ ↦ choose x ys u v ]) ≡ v
    go h (yes e) = absurd (n (inl e))
    go h (no m) = h

-- a place, and the bytes that it gets
pub record Place : Type 0 where
  pub ref : Ref
  pub bytes : List ℕ

abbrev pub to : Ref → List ℕ → Place
to x u = record { ref = x; bytes = u }

abbrev pub refs : List Place → List Ref
refs [] = []
refs (p ∷ ps) = p.ref ∷ refs ps

pub assign : (Ref → List ℕ) → List Place → Ref → List ℕ
assign f [] x = f x
assign f (p ∷ ps) x = elim (Ref-discrete ℕ_discrete Kind-discrete x p.ref) [ yes _ ↦ p.bytes | no _ ↦ assign f ps x ]

pub assign_same : (f : Ref → List ℕ) (p : Place) (ps : List Place) → assign f (p ∷ ps) p.ref ≡ p.bytes
unfolding assign
assign_same f p ps = go (Ref-discrete ℕ_discrete Kind-discrete p.ref p.ref)
  where
    go : (d : Dec (p.ref ≡ p.ref)) → (elim d [ yes _ ↦ p.bytes | no _ ↦ assign f ps p.ref ]) ≡ p.bytes
    go (yes e) = refl
    go (no n) = absurd (n refl)

pub assign_next : (f : Ref → List ℕ) (p : Place) (ps : List Place) (x : Ref) → (x ≡ p.ref → ⊥) → assign f (p ∷ ps) x ≡ assign f ps x
unfolding assign
assign_next f p ps x n = go (Ref-discrete ℕ_discrete Kind-discrete x p.ref)
  where
    go : (d : Dec (x ≡ p.ref)) → (elim d [ yes _ ↦ p.bytes | no _ ↦ assign f ps x ]) ≡ assign f ps x
    go (yes e) = absurd (n e)
    go (no m) = refl

pub assign_else : (f : Ref → List ℕ) (ps : List Place) (x : Ref) → (In x (refs ps) → ⊥) → assign f ps x ≡ f x
unfolding assign
assign_else f [] x n = refl
assign_else f (p ∷ ps) x n = assign_next f p ps x (λ e. n (inl e)) ∙ assign_else f ps x (λ i. n (inr i))

pub all_of : (P : Ref → Type 0) (ys : List Ref) → ((x : Ref) → In x ys → P x) → All P ys
all_of P [] f = tt
all_of P (y ∷ ys) f = (f y (inl refl), all_of P ys (λ x i. f x (inr i)))

abbrev pub turn : Ghost → List Ref → List Ref → List Place → List Place → ℕ → Ghost
turn G new old paths fulls now = record {
  st = λ x. choose x new linked (choose x old (retired now) (G.st x));
  path = assign G.path paths;
  full = assign G.full fulls;
}

-- the paths are of those that come or move, the fulls of those that come
pub turns : (G : Ghost) (new old moved : List Ref) (paths fulls : List Place) (now : ℕ)
    → All (λ x. G.st x ≡ drawn) new → All (λ x. Linked G x) old
    → ((x : Ref) → In x (refs paths) → In x new ⊎ In x moved) → ((x : Ref) → In x (refs fulls) → In x new)
    → Turned G (turn G new old paths fulls now) new old moved now
turns G new old moved paths fulls now d l ps fs = record {
  come = all_of (λ x. (G.st x ≡ drawn) × Linked (turn G new old paths fulls now) x) new
      (λ x i. (all_in (λ x. G.st x ≡ drawn) new d x i, choose_in x new linked (choose x old (retired now) (G.st x)) i));
  gone = all_of (λ x. Linked G x × ((turn G new old paths fulls now).st x ≡ retired now)) old
      (λ x i. let lx = all_in (λ x. Linked G x) old l x i in (
        lx,
        choose_out x new linked (choose x old (retired now) (G.st x)) (λ j. linked_drawn (G.st x) lx (all_in (λ x. G.st x ≡ drawn) new d x j))
            ∙ choose_in x old (retired now) (G.st x) i,
      ));
  stay = λ x n o. choose_out x new linked (choose x old (retired now) (G.st x)) n ∙ choose_out x old (retired now) (G.st x) o;
  paths = λ x n m. assign_else G.path paths x (λ i. ⊎_elim n m (ps x i));
  fulls = λ x n. assign_else G.full fulls x (λ i. n (fs x i));
}
