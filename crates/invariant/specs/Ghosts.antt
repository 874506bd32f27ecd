-- What the proof keeps beside the state, and how the words of the theories read on it.
use Rattle.std.specs.Prelude.{◌≡◌, ℕ, ◌<◌, ◌≤◌, ◌⊎◌, List, [], ◌∷◌, Option}
use Rattle.terms.specs.Limits.{seat_count}
use Rattle.model.specs.Refs.{Ref, leaf, node, IsNode}
use Rattle.model.specs.Tree.{Ghost, Status, Linked}
use Rattle.model.specs.Holds.{Grip, Locked, Hold}
use Rattle.model.specs.Operations.{Operation, Seat, closed, idle, busy, miss, collapse, Item, write_p, Drawn, act}
use Rattle.model_words.specs.Words as words
use Rattle.model_words.specs.Words.{Sound}
use Rattle.model_words.specs.Places.{Place}
use Rattle.model_slots.specs.Laws.{Mark, linked, spare, outside, drawn, retired}
use Rattle.machine.specs.State.{State}

-- where each slot stands; the bytes before a node's prefix; and those with it
pub record Ghosts : Type 0 where
  pub mark : Ref → Mark
  pub path : Ref → List ℕ
  pub full : Ref → List ℕ

abbrev pub status_of : Mark → Status
status_of linked = Status.linked
status_of spare = Status.spare
status_of outside = Status.spare
status_of (drawn s) = Status.drawn
status_of (retired r) = Status.retired r

abbrev pub ghost : Ghosts → Ghost
ghost g = record { st = λ x. status_of (g.mark x); path = g.path; full = g.full }

abbrev pub place_of : Mark → Place
place_of linked = Place.linked
place_of spare = Place.spare
place_of outside = Place.spare
place_of (drawn s) = Place.drawn
place_of (retired r) = Place.retired

-- a leaf's word is never used
abbrev pub place_at : Ghosts → Ref → Place
place_at g (leaf i) = Place.spare
place_at g (node k i) = place_of (g.mark (node k i))

abbrev pub held_by : Seat → List Hold
held_by closed = []
held_by idle = []
held_by (busy o) = o.held

abbrev pub words_of : State → words.State
words_of σ = record { words = σ.words; held = λ s. held_by (σ.seats s); accepted = σ.calls }

-- a check of what is held would pass
abbrev pub SoundAt : State → Hold → Type 0
SoundAt σ h = Sound (σ.words h.at) h.grip

-- an operation begun in epoch e may still read x: it is linked, or was retired no earlier
abbrev pub Safe : ℕ → Ghosts → Ref → Type 0
Safe e g x = Linked (ghost g) x ⊎ ((r : ℕ) × ((ghost g).st x ≡ Status.retired r) × (e ≤ r))

abbrev pub IsPermit : Hold → Type 0
IsPermit h = (c : ℕ) × (w : ℕ) × (h.grip ≡ Grip.Permit c w)

abbrev pub IsLocked : Hold → Type 0
IsLocked h = h.grip ≡ Locked

abbrev pub Permits : List Hold → Type 0
Permits [] = Unit {0}
Permits (h ∷ hs) = IsPermit h × Permits hs

-- the node whose prefix an operation has written, while the write that links is still to come
pub data FluxOf (o : Operation) : Ref → Type 0 where
  cut : (v i : ℕ) (rest : List Item) (d : Option Drawn) (p n : Hold) → o.stage ≡ act (miss v i) (write_p ∷ rest) d → o.held ≡ p ∷ n ∷ [] → FluxOf o n.at
  joined : (v l : ℕ) (m : Ref) (rest : List Item) (d : Option Drawn) → IsNode m → o.stage ≡ act (collapse v l m) (write_p ∷ rest) d → FluxOf o m

abbrev pub Flux : State → Ref → Type 0
Flux σ x = (s : ℕ) × (o : Operation) × (s < seat_count) × (σ.seats s ≡ busy o) × FluxOf o x
