-- The slots of a run, by what happened to them.
use Rattle.std.specs.Prelude.{◌≡◌, ℕ, suc, ◌<◌, true, ◌⊎◌, List, ◌∷◌}
use Rattle.model.specs.Refs.{Ref, root, pool}
use Rattle.model.specs.Tree.{Reach}
use Rattle.model_slots.specs.Slots.{Event, write, sweep, has, count}
use Rattle.model_slots.specs.Laws as law
use Rattle.model_slots.specs.Laws.{sweeps, Clear, Waits, Counted}
use Rattle.machine.specs.State.{State, Numbers}
use Rattle.machine.specs.Calls.{Call, swept, Did}
use Rattle.runs.specs.Runs.{Run}
use Rattle.runs.specs.Happened.{events, in_pool}

module _ {K : Type 0} (N : Numbers) (accepts : K → Type 0) (bytes : K → List ℕ) {σ : State} (r : Run N accepts bytes σ) where
  -- reached from the root
  abbrev pub Linked : Ref → Type 0
  Linked x = Reach σ.tree root x

  -- never drawn, or given back or freed by a sweep since its last draw
  abbrev pub Spare : Ref → Type 0
  Spare x = law.Spare root (in_pool N) (events r) x

  -- an open operation's draw took it, and it was neither linked nor given back since
  abbrev pub Drawn : Ref → Type 0
  Drawn x = law.Drawn root (in_pool N) (events r) x

  -- a write unlinked it, and no sweep freed it since
  abbrev pub Retired : Ref → Type 0
  Retired x = law.Retired root (in_pool N) (events r) x

  pub record One (x : Ref) : Type 0 where
    pub some : Linked x ⊎ (Spare x ⊎ (Drawn x ⊎ Retired x))
    pub linked_spare : Linked x → Spare x → ⊥
    pub linked_drawn : Linked x → Drawn x → ⊥
    pub linked_retired : Linked x → Retired x → ⊥
    pub spare_drawn : Spare x → Drawn x → ⊥
    pub spare_retired : Spare x → Retired x → ⊥
    pub drawn_retired : Drawn x → Retired x → ⊥

  -- x was unlinked by a write after g; its fence is the sweep after the sweeps of g
  pub record Slotted : Type 0 where
    pub root_linked : Linked root
    pub one : (x : Ref) → in_pool N x ≡ true → One x
    -- the spare slots stand once each in their pool's queue, and nothing else does
    pub queued : (x : Ref) → Spare x → count x (σ.spare (pool x)) ≡ 1
    pub only : (x : Ref) (p : ℕ) → 0 < count x (σ.spare p) → Spare x × (pool x ≡ p)
    -- from its fence on, a slot stays retired while each sweep finds an operation begun before the fence
    pub origin : (x : Ref) → Retired x → (s : ℕ) × (new : List Ref) × (old : List Ref) × (g : List Event) × (has x old ≡ true) × Waits (suc (sweeps g)) (write s new old ∷ g) (events r)
    pub stays : (x : Ref) (s : ℕ) (new old : List Ref) (g : List Event) → has x old ≡ true → Waits (suc (sweeps g)) (write s new old ∷ g) (events r) → Retired x
    -- and turns spare at the first that finds none
    pub turns : (x : Ref) (s : ℕ) (new old : List Ref) (g : List Event) → has x old ≡ true → Waits (suc (sweeps g)) (write s new old ∷ g) (events r) → Clear (events r) (suc (sweeps g))
        → (τ : State) (n : ℕ) → Did N accepts bytes σ τ Call.sweep (swept n) → law.Spare root (in_pool N) (sweep n ∷ events r) x
    -- a sweep answers how many it turned
    pub counted : (τ : State) (n : ℕ) → Did N accepts bytes σ τ Call.sweep (swept n) → Counted root (in_pool N) n (events r)
