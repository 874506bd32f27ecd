-- Where a node stands, and which words are gone.
use Rattle.std.specs.Prelude.{◌≡◌, ℕ, true, false, ◌⊎◌, List, ◌≢◌}
use Rattle.model.specs.Holds.{Hold}
use Rattle.model.specs.Refs.{Ref}
use Rattle.latches.specs.declared.word.Meaning.{Meaning}
use Rattle.model_words.specs.Words.{State, Every}
use Rattle.model.specs.Holds.Grip.{Locked}
use Rattle.model_words.specs.Effects.{Does}
use Rattle.model_words.specs.Effects.Does.{take, give, lock, unlock, unlock_gone, revive, pass}

pub data Place : Type 0 where
  linked spare drawn retired : Place

-- no permit on it passes
abbrev pub Barred : Meaning → Type 0
Barred m = (m.gone ≡ true) ⊎ (m.locked ≡ true)

abbrev pub Suits : Place → Meaning → Type 0
Suits Place.linked m = m.gone ≡ false
Suits Place.drawn m = m.gone ≡ false
Suits Place.spare m = Unit {0}
Suits Place.retired m = Barred m

abbrev pub PlacesOk : (Ref → Place) → (Ref → Meaning) → Type 0
PlacesOk st f = (x : Ref) → Suits (st x) (f x)

-- which effects a node in this place may meet: a retired one is unlocked as gone, and no other; a spare one is revived
abbrev pub Proper : {limit i : ℕ} {x : Ref} {S T : State} → Place → Does limit i x S T → Type 0
Proper p (take d w may t e l) = Unit {0}
Proper p (give d c w t e l) = Unit {0}
Proper p (lock d c w may t e l) = Unit {0}
Proper p (unlock d t e l) = p ≡ Place.retired → ⊥
Proper p (unlock_gone d t e l) = p ≡ Place.retired
Proper p (revive d t e l) = p ≡ Place.spare
Proper p (pass d t e l) = Unit {0}

-- nothing that is still locked is retired
abbrev pub NoneRetired : (Ref → Place) → List Hold → Type 0
NoneRetired st hs = Every (λ h. h.grip ≡ Locked → st h.at ≢ Place.retired) hs
