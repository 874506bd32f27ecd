-- The promise of slots, over runs.
use Rattle.std.specs.Prelude.{◌≡◌, ℕ, suc, ◌<◌, Bool, true, ◌⊎◌, List, ◌∷◌, length}
use Rattle.model.specs.Refs.{Ref, pool}
use Rattle.model_slots.specs.Slots.{count, has, State, Event, May, Run, history}
use Rattle.model_slots.specs.Slots.Event.{write, sweep}
use Rattle.model_slots.specs.Laws.{sweeps, Clear, Waits}
use Rattle.model_slots.specs.Words.{drawn_by, retired_by, spare_by}

module _ {root : Ref} {all : Ref → Bool} {σ : State} (r : Run root all σ) (x : Ref) where
  abbrev pub IsLinked : Type 0
  IsLinked = σ.linked x ≡ true

  abbrev pub IsSpare : Type 0
  IsSpare = spare_by x r ≡ true

  abbrev pub IsDrawn : Type 0
  IsDrawn = (t : ℕ) × (drawn_by t x r ≡ true)

  abbrev pub IsRetired : Type 0
  IsRetired = retired_by x r ≡ true

  pub record Single : Type 0 where
    pub some : IsLinked ⊎ (IsSpare ⊎ (IsDrawn ⊎ IsRetired))
    pub linked_spare : IsLinked → IsSpare → ⊥
    pub linked_drawn : IsLinked → IsDrawn → ⊥
    pub linked_retired : IsLinked → IsRetired → ⊥
    pub spare_drawn : IsSpare → IsDrawn → ⊥
    pub spare_retired : IsSpare → IsRetired → ⊥
    pub drawn_retired : IsDrawn → IsRetired → ⊥

-- a sweep's answer n is how many slots it turned from retired to spare
pub record Turned {root : Ref} {all : Ref → Bool} {σ : State} (r : Run root all σ) (n : ℕ) (m : May (sweep n) σ) : Type 0 where
  pub list : List Ref
  pub long : length list ≡ n
  pub each : (x : Ref) → IsRetired r x → IsSpare (Run.on r (sweep n) m) x → count x list ≡ 1
  pub only : (x : Ref) → 0 < count x list → IsRetired r x × IsSpare (Run.on r (sweep n) m) x

-- a write that unlinked x, since which no sweep found each open operation begun at or after its fence
pub record Origin (x : Ref) (h : List Event) : Type 0 where
  pub seat : ℕ
  pub new : List Ref
  pub old : List Ref
  pub before : List Event
  pub unlinked : has x old ≡ true
  pub waits : Waits (suc (sweeps before)) (write seat new old ∷ before) h

-- x was retired by a write after g, with sweeps g sweeps before it, so that its fence is the sweep number suc (sweeps g)
pub record Told : Type 0 where
  pub one : {root : Ref} {all : Ref → Bool} {σ : State} (r : Run root all σ) (x : Ref) → all x ≡ true → Single r x
  pub once : {root : Ref} {all : Ref → Bool} {σ : State} (r : Run root all σ) (x : Ref) → IsSpare r x → count x (σ.spare (pool x)) ≡ 1
  pub only : {root : Ref} {all : Ref → Bool} {σ : State} (r : Run root all σ) (x : Ref) (p : ℕ) → 0 < count x (σ.spare p) → IsSpare r x × (pool x ≡ p)
  pub stays : {root : Ref} {all : Ref → Bool} {σ : State} (r : Run root all σ) (x : Ref) (s : ℕ) (new old : List Ref) (g : List Event) → has x old ≡ true
      → Waits (suc (sweeps g)) (write s new old ∷ g) (history r) → IsRetired r x
  pub turns : {root : Ref} {all : Ref → Bool} {σ : State} (r : Run root all σ) (x : Ref) (s : ℕ) (new old : List Ref) (g : List Event) → has x old ≡ true
      → Waits (suc (sweeps g)) (write s new old ∷ g) (history r) → Clear (history r) (suc (sweeps g)) → (n : ℕ) (m : May (sweep n) σ) → IsSpare (Run.on r (sweep n) m) x
  pub answer : {root : Ref} {all : Ref → Bool} {σ : State} (r : Run root all σ) (n : ℕ) (m : May (sweep n) σ) → Turned r n m
  pub origin : {root : Ref} {all : Ref → Bool} {σ : State} (r : Run root all σ) (x : Ref) → IsRetired r x → Origin x (history r)
