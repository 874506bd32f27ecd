-- What the calls of a latch do to one word and to the list of one seat.
use Rattle.std.specs.Prelude.{◌≡◌, ℕ, ◌<◌, ◌≤◌, true, false, List, [], ◌∷◌, ◌++◌, Some, None, Option, ◌≢◌}
use Rattle.std.proofs.Math.Decide.{ℕ_discrete}
use Rattle.model.specs.Holds.{Grip, Hold, put, let_go_all}
use Rattle.model.specs.Refs.{Ref}
use Rattle.latches.specs.declared.word.Meaning.{Meaning}
use Rattle.latches.specs.Rules.{shared, returned, held as shut, freed, freed_gone, revived}
use Rattle.model_words.specs.Words.{State, Sound, SoundIn, In}
use Rattle.model.specs.Holds.Grip.{Permit, Locked}

-- no entry or one
abbrev pub spot : Ref → ℕ → Option Grip → List Hold
spot x d None = []
spot x d (Some g) = record { at = x; depth = d; grip = g } ∷ []

-- one entry of seat i on x goes out, or comes in, or is exchanged; no other word than x's changes
pub record Turn (S T : State) (i : ℕ) (x : Ref) (d : ℕ) (out new : Option Grip) : Type 0 where
  pub seat : i < 8
  pub before : List Hold
  pub after : List Hold
  pub was : S.held i ≡ before ++ (spot x d out ++ after)
  pub is : T.held i ≡ before ++ (spot x d new ++ after)
  pub others : (j : ℕ) → (j ≢ i) → T.held j ≡ S.held j
  pub words : (y : Ref) → (y ≢ x) → T.words y ≡ S.words y

pub record MayTake (limit : ℕ) (m : Meaning) (w : ℕ) : Type 0 where
  pub here : m.gone ≡ false
  pub loose : m.locked ≡ false
  pub room : m.shares ≡ limit → ⊥
  pub light : w ≤ 1

pub record MayLock (m : Meaning) (c w : ℕ) : Type 0 where
  pub passes : Sound m (Permit c w)
  pub alone : m.shares ≤ w

-- one effect of seat i on x; a lock and a revival use up an accepted call
pub data Does (limit : ℕ) (i : ℕ) (x : Ref) (S T : State) : Type 0 where
  take : (d w : ℕ) → MayTake limit (S.words x) w → Turn S T i x d None (Some (Permit (S.words x).count w)) → T.words x ≡ shared w (S.words x) → S.accepted ≤ T.accepted → Does limit i x S T
  give : (d c w : ℕ) → Turn S T i x d (Some (Permit c w)) None → T.words x ≡ returned w (S.words x) → S.accepted ≤ T.accepted → Does limit i x S T
  lock : (d c w : ℕ) → MayLock (S.words x) c w → Turn S T i x d (Some (Permit c w)) (Some Locked) → T.words x ≡ shut (S.words x) → S.accepted < T.accepted → Does limit i x S T
  unlock : (d : ℕ) → Turn S T i x d (Some Locked) None → T.words x ≡ freed (S.words x) → S.accepted ≤ T.accepted → Does limit i x S T
  unlock_gone : (d : ℕ) → Turn S T i x d (Some Locked) None → T.words x ≡ freed_gone (S.words x) → S.accepted ≤ T.accepted → Does limit i x S T
  revive : (d : ℕ) → Turn S T i x d None None → T.words x ≡ revived (S.words x) → S.accepted < T.accepted → Does limit i x S T
  pass : (d : ℕ) → Turn S T i x d None None → T.words x ≡ S.words x → S.accepted ≤ T.accepted → Does limit i x S T

-- effects one after another, each of a seat that who admits
pub data Run (limit : ℕ) (who : ℕ → Type 0) (S : State) : State → Type 0 where
  stop : Run limit who S S
  more : {M : State} (i : ℕ) (x : Ref) (T : State) → Run limit who S M → who i → Does limit i x M T → Run limit who S T

-- what time does to a word: a permit that is refused stays refused
pub record Later (m n : Meaning) : Type 0 where
  pub rises : m.count ≤ n.count
  pub stays : m.count ≡ n.count → n.gone ≡ false → n.locked ≡ false → (m.gone ≡ false) × (m.locked ≡ false)

abbrev pub seat_put : (ℕ → List Hold) → ℕ → List Hold → ℕ → List Hold
seat_put f i hs j = elim (ℕ_discrete j i) [ yes e ↦ hs | no n ↦ f j ]

-- seat i has the list hs and x the word m; t calls are accepted
abbrev pub act : State → ℕ → Ref → List Hold → Meaning → ℕ → State
act S i x hs m t = record { words = put S.words x m; held = seat_put S.held i hs; accepted = t }

-- a restart or an answer: seat i lets go of everything
pub record Released (i : ℕ) (S T : State) : Type 0 where
  pub seat : i < 8
  pub empty : T.held i ≡ []
  pub others : (j : ℕ) → (j ≢ i) → T.held j ≡ S.held j
  pub words : (y : Ref) → T.words y ≡ let_go_all (S.held i) S.words y
  pub time : S.accepted ≤ T.accepted

-- what seat i may rely on while others act
pub record Rely (i : ℕ) (S T : State) : Type 0 where
  pub list : T.held i ≡ S.held i
  pub rises : (x : Ref) → (S.words x).count ≤ (T.words x).count
  pub sound : (h : Hold) → In h (S.held i) → SoundIn T h → SoundIn S h
  -- a word that seat i has locked stays as it is, but for shares
  pub locked : (h : Hold) → In h (S.held i) → h.grip ≡ Locked
      → ((T.words h.at).locked ≡ true) × ((T.words h.at).gone ≡ (S.words h.at).gone) × ((T.words h.at).count ≡ (S.words h.at).count)
