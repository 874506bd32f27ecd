-- What nodes hold: written under a lock, or filled in where nobody holds the node.
use Rattle.std.specs.Prelude.{◌≡◌, ℕ, ◌<◌, ◌≢◌}
use Rattle.model.specs.Holds.{Hold}
use Rattle.model.specs.Refs.{Ref}
use Rattle.model_words.specs.Words.{State, In, Unheld}
use Rattle.model.specs.Holds.Grip.{Locked}
use Rattle.model_words.specs.Effects.{Does}

-- effects, writes and fillings one after another; each of the last two changes what one node holds
pub data Course (C : Type 0) (limit : ℕ) (who : ℕ → Type 0) (S : State) (f : Ref → C) : State → (Ref → C) → Type 0 where
  stop : Course C limit who S f S f
  does : {M : State} {g : Ref → C} (i : ℕ) (x : Ref) (T : State) → Course C limit who S f M g → who i → Does limit i x M T → Course C limit who S f T g
  write : {M : State} {g : Ref → C} (i : ℕ) (h : Hold) (k : Ref → C) → Course C limit who S f M g → who i → i < 8 → In h (M.held i) → h.grip ≡ Locked
      → ((y : Ref) → (y ≢ h.at) → k y ≡ g y) → Course C limit who S f M k
  fill : {M : State} {g : Ref → C} (x : Ref) (k : Ref → C) → Course C limit who S f M g → ((i : ℕ) → i < 8 → Unheld M i x)
      → ((y : Ref) → (y ≢ x) → k y ≡ g y) → Course C limit who S f M k
