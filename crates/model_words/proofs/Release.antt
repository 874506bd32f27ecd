-- A release is a run of its seat.
use Rattle.std.proofs.Common.{◌≡◌, ℕ, ◌<◌, ◌≤◌, List, [], ◌∷◌, Some, None, sym, refl, ◌∙◌, subst, arith}
use native.Mathlib.Decide.{ℕ_discrete}
use Rattle.model.specs.Holds.{Grip, Hold, put, let_go, let_go_all}
use Rattle.model.specs.Refs.{Ref, same}
use Rattle.latches.specs.declared.word.Meaning.{Meaning}
use Rattle.model_words.specs.Words.{State, Every, Unheld, WordsOk}
use Rattle.model.specs.Holds.Grip.{Permit, Locked}
use Rattle.latches.specs.Rules.{returned, freed}
use Rattle.model_words.specs.Effects.{Turn, Does, Run, seat_put, act, Released}
use Rattle.model_words.specs.Effects.Does.{give, unlock, pass}
use Rattle.model_words.specs.Effects.Run.{stop, more}
use Rattle.model_words.proofs.Rely.{keeps_run}

pub put_same : (f : Ref → Meaning) (x : Ref) (m : Meaning) → put f x m x ≡ m
put_same f x m = elim (same x x) as (λ (d : Dec (x ≡ x)). elim d [ yes e ↦ m | no n ↦ f x ] ≡ m) [ yes e ↦ refl | no n ↦ absurd (n refl) ]

pub put_else : (f : Ref → Meaning) (x y : Ref) (m : Meaning) → (y ≡ x → ⊥) → put f x m y ≡ f y
put_else f x y m ne = elim (same y x) as (λ (d : Dec (y ≡ x)). elim d [ yes e ↦ m | no n ↦ f y ] ≡ f y) [ yes e ↦ absurd (ne e) | no n ↦ refl ]

pub seat_same : (f : ℕ → List Hold) (i : ℕ) (hs : List Hold) → seat_put f i hs i ≡ hs
seat_same f i hs = elim (ℕ_discrete i i) as (λ (d : Dec (i ≡ i)). elim d [ yes e ↦ hs | no n ↦ f i ] ≡ hs) [ yes e ↦ refl | no n ↦ absurd (n refl) ]

pub seat_else : (f : ℕ → List Hold) (i : ℕ) (hs : List Hold) (j : ℕ) → (j ≡ i → ⊥) → seat_put f i hs j ≡ f j
seat_else f i hs j ne = elim (ℕ_discrete j i) as (λ (d : Dec (j ≡ i)). elim d [ yes e ↦ hs | no n ↦ f j ] ≡ f j) [ yes e ↦ absurd (ne e) | no n ↦ refl ]

-- the first entry of seat i let go
abbrev next : State → ℕ → Ref → Grip → List Hold → State
next S i x g hs = act S i x hs (let_go g (S.words x)) S.accepted

next_turn : (S : State) (i : ℕ) (x : Ref) (d : ℕ) (g : Grip) (hs : List Hold) → i < 8 → S.held i ≡ record { at = x; depth = d; grip = g } ∷ hs
    → Turn S (next S i x g hs) i x d (Some g) None
next_turn S i x d g hs l e = record {
  seat = l;
  before = [];
  after = hs;
  was = e;
  is = seat_same S.held i hs;
  others = seat_else S.held i hs;
  words = λ y n. put_else S.words x y (let_go g (S.words x)) n;
}

next_does : (limit : ℕ) (S : State) (i : ℕ) (x : Ref) (d : ℕ) (g : Grip) (hs : List Hold) → i < 8 → S.held i ≡ record { at = x; depth = d; grip = g } ∷ hs
    → Does limit i x S (next S i x g hs)
next_does limit S i x d (Grip.Permit c w) hs l e = give d c w (next_turn S i x d (Permit c w) hs l e) (put_same S.words x (returned w (S.words x))) (omega arith)
next_does limit S i x d Grip.Locked hs l e = unlock d (next_turn S i x d Locked hs l e) (put_same S.words x (freed (S.words x))) (omega arith)

run_first : {limit : ℕ} {who : ℕ → Type 0} (S : State) {M T : State} (i : ℕ) (x : Ref) → who i → Does limit i x S M → Run limit who M T → Run limit who S T
run_first S {M} {T} i x p a stop = more i x M stop p a
run_first S {M} {T} i x p a (more j y U r q b) = more j y U (run_first S i x p a r) q b

goes : (limit i : ℕ) (hs : List Hold) (S T : State) → i < 8 → S.held i ≡ hs → T.held i ≡ [] → ((j : ℕ) → (j ≡ i → ⊥) → T.held j ≡ S.held j)
    → ((y : Ref) → T.words y ≡ let_go_all hs S.words y) → S.accepted ≤ T.accepted → Run limit (λ j. j ≡ i) S T
goes limit i [] S T l s e o w t =
    let x : Ref = Ref.leaf 0 in
    more i x T stop refl (pass 0 (record { seat = l; before = []; after = []; was = s; is = e; others = o; words = λ y _. w y }) (w x) t)
goes limit i (h ∷ hs) S T l s e o w t =
    let M : State = next S i h.at h.grip hs in
    run_first S i h.at refl (next_does limit S i h.at h.depth h.grip hs l s)
    (goes limit i hs M T l (seat_same S.held i hs) e (λ j n. o j n ∙ sym (seat_else S.held i hs j n)) w t)

pub release : (limit i : ℕ) (S T : State) → Released i S T → Run limit (λ j. j ≡ i) S T
release limit i S T r = goes limit i (S.held i) S T r.seat refl r.empty r.others r.words r.time

pub released : (limit i : ℕ) (S T : State) → Released i S T → WordsOk limit S → WordsOk limit T
released limit i S T r ok = keeps_run (release limit i S T r) ok

pub nothing : (i : ℕ) (S T : State) → Released i S T → (x : Ref) → Unheld T i x
nothing i S T r x = subst (Every (λ h. h.at ≡ x → ⊥)) (sym r.empty) tt
