-- The latch words, what the seats hold, and how the two agree at every time.
use Rattle.std.specs.Prelude.{◌≡◌, ℕ, zero, suc, ◌+◌, ◌<◌, ◌≤◌, Bool, true, false, ◌⊎◌, List, [], ◌∷◌, ◌≢◌}
use Rattle.model.specs.Refs.{Ref, same}
use Rattle.model.specs.Holds.{Grip, Hold}
use Rattle.latches.specs.declared.word.Meaning.{Meaning}

pub record State : Type 0 where
  pub words : Ref → Meaning
  pub held : ℕ → List Hold
  pub accepted : ℕ

abbrev pub bit : Bool → ℕ
bit false = 0
bit true = 1

abbrev pub lock_of : Grip → ℕ
lock_of (Grip.Permit c w) = 0
lock_of Grip.Locked = 1

abbrev pub grip_weight : Grip → ℕ
grip_weight (Grip.Permit c w) = w
grip_weight Grip.Locked = 0

abbrev pub only : {P : Type 0} → Dec P → ℕ → ℕ
only d n = elim d [ yes e ↦ n | no m ↦ 0 ]

-- the sum of f over the entries on x
unfoldable pub tally : (Grip → ℕ) → Ref → List Hold → ℕ
tally f x [] = 0
tally f x (h ∷ hs) = only (same h.at x) (f h.grip) + tally f x hs

unfoldable pub total : (ℕ → ℕ) → ℕ → ℕ
total f zero = 0
total f (suc n) = f n + total f n

-- the sum of f over all entries on x of the eight seats
unfoldable pub sum : (Grip → ℕ) → Ref → State → ℕ
sum f x S = total (λ (i : ℕ). tally f x (S.held i)) 8

abbrev pub Every : (Hold → Type 0) → List Hold → Type 0
Every P [] = Unit {0}
Every P (h ∷ hs) = P h × Every P hs

abbrev pub In : Hold → List Hold → Type 0
In h [] = ⊥
In h (g ∷ hs) = (h ≡ g) ⊎ In h hs

-- a permit's count is none of the future
abbrev pub Old : Meaning → Grip → Type 0
Old W (Grip.Permit c w) = c ≤ W.count
Old W Grip.Locked = Unit {0}

abbrev pub OldIn : State → Hold → Type 0
OldIn S h = Old (S.words h.at) h.grip

-- a check of this grip would pass
abbrev pub Sound : Meaning → Grip → Type 0
Sound W (Grip.Permit c w) = (W.gone ≡ false) × (W.locked ≡ false) × (W.count ≡ c)
Sound W Grip.Locked = Unit {0}

abbrev pub SoundIn : State → Hold → Type 0
SoundIn S h = Sound (S.words h.at) h.grip

pub record WordsOk (limit : ℕ) (S : State) : Type 0 where
  -- one lock entry where the word is locked, else none
  pub locks : (x : Ref) → sum lock_of x S ≡ bit (S.words x).locked
  pub shares : (x : Ref) → sum grip_weight x S ≡ (S.words x).shares
  pub within : (x : Ref) → (S.words x).shares ≤ limit
  pub apart : (x : Ref) → bit (S.words x).gone + bit (S.words x).locked ≤ 1
  pub counts : (x : Ref) → (S.words x).count + bit (S.words x).locked ≤ S.accepted
  pub old : (i : ℕ) → i < 8 → Every (OldIn S) (S.held i)

-- seat i has no entry on x
abbrev pub Unheld : State → ℕ → Ref → Type 0
Unheld S i x = Every (λ h. h.at ≢ x) (S.held i)

-- a permit that counts among the shares always passes
abbrev pub HeavySound : State → Type 0
HeavySound S = (i : ℕ) (h : Hold) → i < 8 → In h (S.held i) → (c w : ℕ) → h.grip ≡ Grip.Permit c w → 1 ≤ w → Sound (S.words h.at) (Grip.Permit c w)
