-- What is proved of the words.
use Rattle.std.specs.Prelude.{◌≡◌, ℕ, ◌+◌, ◌<◌, ◌≤◌, true, false, List, [], ◌∷◌, ◌++◌, ◌≢◌}
use Rattle.model.specs.Holds.{Hold}
use Rattle.model.specs.Refs.{Ref}
use Rattle.latches.specs.declared.word.Meaning.{Meaning}
use Rattle.model_words.specs.Words.{State, WordsOk, In, Unheld, OldIn, SoundIn, HeavySound}
use Rattle.model.specs.Holds.Grip.{Permit, Locked}
use Rattle.latches.specs.Rules.{fresh, revived}
use Rattle.model_words.specs.Effects.{Does, Run, Later, Released, Rely, MayTake, MayLock}
use Rattle.model_words.specs.Places.{Place, Suits, PlacesOk, Proper, NoneRetired}
use Rattle.model_words.specs.Contents.{Course}

abbrev pub Anyone : ℕ → Type 0
Anyone i = Unit {0}

abbrev pub start_state : State
start_state = record { words = λ x. fresh; held = λ i. []; accepted = 0 }

pub record Keeps (limit : ℕ) : Type 0 where
  -- each effect, and any number of them
  pub effect : (i : ℕ) (x : Ref) (S T : State) → Does limit i x S T → WordsOk limit S → WordsOk limit T
  pub run : (S T : State) → Run limit Anyone S T → WordsOk limit S → WordsOk limit T
  -- a permit that would be refused is refused for ever, whoever acts
  pub later : (S T : State) → Run limit Anyone S T → (y : Ref) → Later (S.words y) (T.words y)
  pub lasting : (S T : State) → Run limit Anyone S T → (h : Hold) → OldIn S h → SoundIn T h → SoundIn S h
  pub refused : (S T : State) → Run limit Anyone S T → WordsOk limit S → (i : ℕ) (h : Hold) → i < 8 → In h (S.held i) → (SoundIn S h → ⊥) → SoundIn T h → ⊥
  -- a permit that is sound after it was sound all the time between
  pub between : (S M T : State) → Run limit Anyone S M → Run limit Anyone M T → WordsOk limit S → (i : ℕ) (h : Hold) → i < 8 → In h (S.held i) → SoundIn T h → SoundIn M h
  pub rely : (i : ℕ) (S T : State) → i < 8 → Run limit (λ j. j ≢ i) S T → WordsOk limit S → Rely i S T
  -- a lock entry means a locked word, and there is one only
  pub owner : (S : State) (i : ℕ) (h : Hold) → WordsOk limit S → i < 8 → In h (S.held i) → h.grip ≡ Locked → (S.words h.at).locked ≡ true
  pub owner_one : (S : State) (i j : ℕ) (h k : Hold) → WordsOk limit S → i < 8 → j < 8 → In h (S.held i) → In k (S.held j)
      → h.at ≡ k.at → h.grip ≡ Locked → k.grip ≡ Locked → i ≡ j
  -- a locked word has its owner
  pub owned : (S : State) (x : Ref) → WordsOk limit S → (S.words x).locked ≡ true → (i : ℕ) × (i < 8) × (h : Hold) × In h (S.held i) × (h.at ≡ x) × (h.grip ≡ Locked)
  -- a restart or an answer
  pub release : (i : ℕ) (S T : State) → Released i S T → Run limit (λ j. j ≡ i) S T
  pub released : (i : ℕ) (S T : State) → Released i S T → WordsOk limit S → WordsOk limit T
  pub nothing : (i : ℕ) (S T : State) → Released i S T → (x : Ref) → Unheld T i x
  -- what nobody holds is free
  pub free : (S : State) (x : Ref) → WordsOk limit S → ((i : ℕ) → i < 8 → Unheld S i x) → ((S.words x).locked ≡ false) × ((S.words x).shares ≡ 0)
  pub alone : (S : State) (i : ℕ) → WordsOk limit S → ((j : ℕ) → j < 8 → (j ≢ i) → S.held j ≡ [])
      → (x : Ref) → Unheld S i x → ((S.words x).locked ≡ false) × ((S.words x).shares ≡ 0)
  -- where a permit has weight, nobody can lock, so it never fails
  pub heavy : (S T : State) → Run limit Anyone S T → WordsOk limit S → HeavySound S → HeavySound T
  -- places of nodes, where each effect is proper
  pub places : (st : Ref → Place) (i : ℕ) (x : Ref) (S T : State) (a : Does limit i x S T) → Proper (st x) a → PlacesOk st S.words → PlacesOk st T.words
  pub places_turn : (st st' : Ref → Place) (f : Ref → Meaning) (x : Ref) → PlacesOk st f → ((y : Ref) → (y ≢ x) → st' y ≡ st y) → Suits (st' x) (f x) → PlacesOk st' f
  -- a node that nobody holds, revived, is as a new one but for its count
  pub drawn : (S T : State) (x : Ref) → WordsOk limit S → ((i : ℕ) → i < 8 → Unheld S i x) → T.words x ≡ revived (S.words x)
      → ((T.words x).locked ≡ false) × ((T.words x).gone ≡ false) × ((T.words x).shares ≡ 0)
  pub places_release : (st : Ref → Place) (i : ℕ) (S T : State) → Released i S T → NoneRetired st (S.held i) → PlacesOk st S.words → PlacesOk st T.words

-- n accepted calls from the start, each a run of one seat
pub data Calls (limit : ℕ) : ℕ → State → Type 0 where
  none : Calls limit 0 start_state
  call : {S : State} (n i : ℕ) (T : State) → Calls limit n S → Run limit (λ j. j ≡ i) S T → T.accepted ≡ n + 1 → Calls limit (n + 1) T

pub record Reached (limit n : ℕ) (S : State) : Type 0 where
  pub ok : WordsOk limit S
  pub heavy : HeavySound S
  pub accepted : S.accepted ≡ n
  pub counts : (x : Ref) → (S.words x).count ≤ n
  -- when nobody holds anything all words are free
  pub quiet : ((i : ℕ) → i < 8 → S.held i ≡ []) → (x : Ref) → ((S.words x).locked ≡ false) × ((S.words x).shares ≡ 0)

-- what nodes hold: where seat i has an entry that is sound after the others acted, nobody wrote
pub record Still (C : Type 0) (limit : ℕ) : Type 0 where
  pub still : (i : ℕ) (S T : State) (f g : Ref → C) → i < 8 → Course C limit (λ j. j ≢ i) S f T g → WordsOk limit S → (h : Hold) → In h (S.held i) → SoundIn T h
      → g h.at ≡ f h.at

-- each effect can happen where its conditions hold, and all words zero with nothing held is a start
pub record Able (limit : ℕ) : Type 0 where
  pub start : WordsOk limit start_state
  pub take : (S : State) (i : ℕ) (x : Ref) (d w : ℕ) → i < 8 → MayTake limit (S.words x) w
      → (T : State) × Does limit i x S T × (T.held i ≡ S.held i ++ (record { at = x; depth = d; grip = Permit (S.words x).count w } ∷ []))
  pub give : (S : State) (i : ℕ) (x : Ref) (d c w : ℕ) (a b : List Hold) → i < 8 → S.held i ≡ a ++ (record { at = x; depth = d; grip = Permit c w } ∷ b)
      → (T : State) × Does limit i x S T × (T.held i ≡ a ++ b)
  pub lock : (S : State) (i : ℕ) (x : Ref) (d c w : ℕ) (a b : List Hold) → i < 8 → MayLock (S.words x) c w → S.held i ≡ a ++ (record { at = x; depth = d; grip = Permit c w } ∷ b)
      → (T : State) × Does limit i x S T × (T.held i ≡ a ++ (record { at = x; depth = d; grip = Locked } ∷ b))
  pub unlock : (S : State) (i : ℕ) (x : Ref) (d : ℕ) (a b : List Hold) → i < 8 → S.held i ≡ a ++ (record { at = x; depth = d; grip = Locked } ∷ b)
      → (T : State) × Does limit i x S T × (T.held i ≡ a ++ b) × ((T.words x).gone ≡ (S.words x).gone)
  pub unlock_gone : (S : State) (i : ℕ) (x : Ref) (d : ℕ) (a b : List Hold) → i < 8 → S.held i ≡ a ++ (record { at = x; depth = d; grip = Locked } ∷ b)
      → (T : State) × Does limit i x S T × (T.held i ≡ a ++ b) × ((T.words x).gone ≡ true)
  pub revive : (S : State) (i : ℕ) (x : Ref) → i < 8 → (T : State) × Does limit i x S T × ((T.words x).gone ≡ false)
  -- take and lock in one step
  pub take_lock : (S : State) (i : ℕ) (x : Ref) (d w : ℕ) → i < 8 → MayTake limit (S.words x) w → (S.words x).shares ≡ 0
      → (T : State) × Run limit (λ j. j ≡ i) S T × (T.held i ≡ S.held i ++ (record { at = x; depth = d; grip = Locked } ∷ [])) × (T.accepted ≡ S.accepted + 1)
  pub release : (S : State) (i : ℕ) → i < 8 → (T : State) × Released i S T

abbrev pub WordsKeep : Type 0
WordsKeep = (limit : ℕ) → Keeps limit × Still (List ℕ) limit × Able limit × ((n : ℕ) (S : State) → Calls limit n S → Reached limit n S)
