-- What each slot is, told from the events alone, and what every run keeps.
use Rattle.std.specs.Prelude.{◌≡◌, ℕ, suc, ◌<◌, ◌≤◌, Bool, true, false, cond, ◌⊎◌, List, [], ◌∷◌, length, Some, None, Option, ◌==◌}
use Rattle.model.specs.Refs.{Ref, pool, is}
use Rattle.model_slots.specs.Slots.{count, has, clear, State, Event, May, Run, history}
use Rattle.model_slots.specs.Slots.Event.{begin, answer, draw, back, write, sweep, other}

-- how many sweeps there were
abbrev pub sweeps : List Event → ℕ
sweeps [] = 0
sweeps (begin s ∷ h) = sweeps h
sweeps (answer s ∷ h) = sweeps h
sweeps (draw s x ∷ h) = sweeps h
sweeps (back s x ∷ h) = sweeps h
sweeps (write s new old ∷ h) = sweeps h
sweeps (sweep n ∷ h) = suc (sweeps h)
sweeps (other ∷ h) = sweeps h

-- a seat's open operation, by the sweeps before it began
abbrev pub opens : List Event → ℕ → Option ℕ
opens [] t = None
opens (begin s ∷ h) t = cond (t == s) (Some (sweeps h)) (opens h t)
opens (answer s ∷ h) t = cond (t == s) None (opens h t)
opens (draw s x ∷ h) t = opens h t
opens (back s x ∷ h) t = opens h t
opens (write s new old ∷ h) t = opens h t
opens (sweep n ∷ h) t = opens h t
opens (other ∷ h) t = opens h t

-- the last that befell a slot: drawn by a seat, linked, retired after so many sweeps, or spare, since never drawn, given back or freed
pub data Mark : Type 0 where
  linked spare outside : Mark
  drawn retired : ℕ → Mark

abbrev pub swept : (ℕ → Bool) → Mark → Mark
swept f linked = linked
swept f spare = spare
swept f outside = outside
swept f (drawn s) = drawn s
swept f (retired r) = cond (f r) spare (retired r)

unfoldable pub mark : Ref → (Ref → Bool) → List Event → Ref → Mark
mark root all [] x = cond (is x root) linked (cond (all x) spare outside)
mark root all (begin s ∷ h) x = mark root all h x
mark root all (answer s ∷ h) x = mark root all h x
mark root all (draw s y ∷ h) x = cond (is x y) (drawn s) (mark root all h x)
mark root all (back s y ∷ h) x = cond (is x y) spare (mark root all h x)
mark root all (write s new old ∷ h) x = cond (has x old) (retired (sweeps h)) (cond (has x new) linked (mark root all h x))
mark root all (sweep n ∷ h) x = swept (λ r. clear (opens h) r 8) (mark root all h x)
mark root all (other ∷ h) x = mark root all h x

abbrev pub is_spare : Mark → Bool
is_spare linked = false
is_spare spare = true
is_spare outside = false
is_spare (drawn s) = false
is_spare (retired r) = false

abbrev pub is_linked : Mark → Bool
is_linked linked = true
is_linked spare = false
is_linked outside = false
is_linked (drawn s) = false
is_linked (retired r) = false

abbrev pub is_retired : Mark → Bool
is_retired linked = false
is_retired spare = false
is_retired outside = false
is_retired (drawn s) = false
is_retired (retired r) = true

abbrev pub is_drawn : ℕ → Mark → Bool
is_drawn s linked = false
is_drawn s spare = false
is_drawn s outside = false
is_drawn s (drawn t) = s == t
is_drawn s (retired r) = false

-- no open operation began before the sweep number f
abbrev pub Clear : List Event → ℕ → Type 0
Clear h f = (s e : ℕ) → s < 8 → opens h s ≡ Some e → f ≤ e

abbrev pub Still : Event → Type 0
Still (begin s) = Unit {0}
Still (answer s) = Unit {0}
Still (draw s x) = Unit {0}
Still (back s x) = Unit {0}
Still (write s new old) = Unit {0}
Still (sweep n) = ⊥
Still other = Unit {0}

-- from g on, no sweep found each open operation begun at or after the sweep number f
pub data Waits (f : ℕ) (g : List Event) : List Event → Type 0 where
  start : Waits f g g
  still : {h : List Event} (e : Event) → Waits f g h → Still e → Waits f g (e ∷ h)
  held : {h : List Event} (n : ℕ) → Waits f g h → (Clear h f → ⊥) → Waits f g (sweep n ∷ h)

module _ (root : Ref) (all : Ref → Bool) where
  -- linked is of the state: reached from the root
  abbrev pub Linked : State → Ref → Type 0
  Linked σ x = σ.linked x ≡ true

  abbrev pub Spare : List Event → Ref → Type 0
  Spare h x = mark root all h x ≡ spare

  abbrev pub Drawn : List Event → Ref → Type 0
  Drawn h x = (s : ℕ) × (e : ℕ) × (opens h s ≡ Some e) × (mark root all h x ≡ drawn s)

  abbrev pub Retired : List Event → Ref → Type 0
  Retired h x = (r : ℕ) × (mark root all h x ≡ retired r)

  pub record One (h : List Event) (σ : State) (x : Ref) : Type 0 where
    pub some : Linked σ x ⊎ (Spare h x ⊎ (Drawn h x ⊎ Retired h x))
    pub linked_spare : Linked σ x → Spare h x → ⊥
    pub linked_drawn : Linked σ x → Drawn h x → ⊥
    pub linked_retired : Linked σ x → Retired h x → ⊥
    pub spare_drawn : Spare h x → Drawn h x → ⊥
    pub spare_retired : Spare h x → Retired h x → ⊥
    pub drawn_retired : Drawn h x → Retired h x → ⊥

  -- the spare slots stand once each in their pool's queue, and nothing else does
  pub record Queued (h : List Event) (σ : State) (x : Ref) (p : ℕ) : Type 0 where
    pub once : Spare h x → pool x ≡ p → count x (σ.spare p) ≡ 1
    pub only : 0 < count x (σ.spare p) → Spare h x × (pool x ≡ p)

  -- the slots that the sweep n after h turned, in a list, are n
  pub record Counted (n : ℕ) (h : List Event) : Type 0 where
    pub list : List Ref
    pub long : length list ≡ n
    pub turned : (x : Ref) → Retired h x → Spare (sweep n ∷ h) x → count x list ≡ 1
    pub only : (x : Ref) → 0 < count x list → Retired h x × Spare (sweep n ∷ h) x

-- x is retired by a write after g; its fence is the next sweep
pub record Promise : Type 0 where
  pub queued : {root : Ref} {all : Ref → Bool} {σ : State} (r : Run root all σ) (x : Ref) (p : ℕ) → Queued root all (history r) σ x p
  pub one : {root : Ref} {all : Ref → Bool} {σ : State} (r : Run root all σ) (x : Ref) → all x ≡ true → One root all (history r) σ x
  pub counted : {root : Ref} {all : Ref → Bool} {σ : State} (r : Run root all σ) (n : ℕ) → May (sweep n) σ → Counted root all n (history r)
  pub waits : {root : Ref} {all : Ref → Bool} {σ : State} (r : Run root all σ) (x : Ref) (s : ℕ) (new old : List Ref) (g : List Event) → has x old ≡ true
      → Waits (suc (sweeps g)) (write s new old ∷ g) (history r) → Retired root all (history r) x
  pub turns : {root : Ref} {all : Ref → Bool} {σ : State} (r : Run root all σ) (x : Ref) (s n : ℕ) (new old : List Ref) (g : List Event) → has x old ≡ true
      → Waits (suc (sweeps g)) (write s new old ∷ g) (history r) → Clear (history r) (suc (sweeps g)) → Spare root all (sweep n ∷ history r) x
