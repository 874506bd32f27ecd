-- An entry sound at the end means that nobody wrote.
use Rattle.std.proofs.Common.{◌≡◌, ℕ, ◌<◌, true, List, sym, refl, ◌∙◌, subst}
use Rattle.model.specs.Holds.{Grip, Hold}
use Rattle.model.specs.Refs.{Ref}
use Rattle.model_words.specs.Words.{State, In, Sound, SoundIn, WordsOk}
use Rattle.model.specs.Holds.Grip.{Locked}
use Rattle.model_words.specs.Effects.{Run}
use Rattle.model_words.specs.Effects.Run.{stop, more}
use Rattle.model_words.specs.Contents.{Course}
use Rattle.model_words.specs.Theorems.{Still}
use Rattle.model_words.proofs.Owners.{owner, owner_one}
use Rattle.model_words.proofs.Rely.{true_false, keeps_run, rely_effect, rely_run, every_in}

pub run_of : {C : Type 0} {limit : ℕ} {who : ℕ → Type 0} {S : State} {f : Ref → C} {T : State} {g : Ref → C} → Course C limit who S f T g → Run limit who S T
run_of Course.stop = stop
run_of (Course.does i x T r p a) = more i x T (run_of r) p a
run_of (Course.write i h k r p l m e w) = run_of r
run_of (Course.fill x k r n w) = run_of r

module _ {C : Type 0} {limit : ℕ} (i : ℕ) (l : i < 8) (S : State) (f : Ref → C) (ok : WordsOk limit S) (h : Hold) (m : In h (S.held i)) where
  ok_then : (T : State) (g : Ref → C) → Course C limit (λ j. j ≡ i → ⊥) S f T g → WordsOk limit T
  ok_then T g r = keeps_run (run_of r) ok

  held_then : (T : State) (g : Ref → C) → Course C limit (λ j. j ≡ i → ⊥) S f T g → In h (T.held i)
  held_then T g r = subst (In h) (sym (rely_run i l (run_of r) ok).list) m

  -- a sound entry and another seat's lock are not on the same node
  apart : (T : State) → WordsOk limit T → In h (T.held i) → (j : ℕ) (k : Hold) → (j ≡ i → ⊥) → j < 8 → In k (T.held j) → k.grip ≡ Locked → (g : Grip) → h.grip ≡ g → Sound (T.words h.at) g → h.at ≡ k.at → ⊥
  apart T okT mT j k n lj mj e (Grip.Permit c w) q s a = true_false (T.words h.at).locked (subst (λ (z : Ref). (T.words z).locked ≡ true) (sym a) (owner T okT j k lj mj e)) s.1
  apart T okT mT j k n lj mj e Grip.Locked q s a = n (sym (owner_one T okT i j h k l lj mT mj a q e))

  pub still_held : {T : State} {g : Ref → C} → Course C limit (λ j. j ≡ i → ⊥) S f T g → SoundIn T h → g h.at ≡ f h.at
  still_held Course.stop s = refl
  still_held {T} (Course.does {M} {g} j x U r n a) s = still_held r ((rely_effect (ok_then M g r) l n a).sound h (held_then M g r) s)
  still_held {T} (Course.write {M} {g} j k v r n lj mj e w) s =
      w h.at (apart T (ok_then T g r) (held_then T g r) j k n lj mj e h.grip refl s) ∙ still_held r s
  still_held {T} (Course.fill {M} {g} x v r n w) s =
      w h.at (every_in (λ k. k.at ≡ x → ⊥) (T.held i) h (n i l) (held_then T g r)) ∙ still_held r s

pub still : (limit : ℕ) → Still (List ℕ) limit
still limit = record { still = λ i S T f g l r ok h m s. still_held i l S f ok h m r s }
