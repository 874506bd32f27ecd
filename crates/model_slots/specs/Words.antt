-- Drawn, retired and spare, each by what happened last, and that they are the marks.
use Rattle.std.specs.Prelude.{◌≡◌, ℕ, Bool, true, false, ◌==◌}
use Rattle.model.specs.Refs.{Ref, pool, is}
use Rattle.model_slots.specs.Slots.{both, not, has, State, Event, after, Run, history}
use Rattle.model_slots.specs.Slots.Event.{begin, answer, draw, back, write, sweep, other}
use Rattle.model_slots.specs.Laws.{mark, is_spare, is_retired, is_drawn}

abbrev pub either : Bool → Bool → Bool
either true b = true
either false b = b

-- in a run there was an event a, and no event b since
abbrev pub since : (Event → State → Bool) → (Event → State → Bool) → {root : Ref} {all : Ref → Bool} {σ : State} → Run root all σ → Bool
since a b (Run.made n) = false
since a b (Run.on {σ = σ} r e m) = either (a e σ) (both (since a b r) (not (b e σ)))

abbrev pub never : (Event → State → Bool) → {root : Ref} {all : Ref → Bool} {σ : State} → Run root all σ → Bool
never a (Run.made n) = true
never a (Run.on {σ = σ} r e m) = both (never a r) (not (a e σ))

abbrev pub draws : Ref → Event → State → Bool
draws x (begin s) σ = false
draws x (answer s) σ = false
draws x (draw s y) σ = is x y
draws x (back s y) σ = false
draws x (write s new old) σ = false
draws x (sweep n) σ = false
draws x other σ = false

abbrev pub draws_by : ℕ → Ref → Event → State → Bool
draws_by t x (begin s) σ = false
draws_by t x (answer s) σ = false
draws_by t x (draw s y) σ = both (is x y) (t == s)
draws_by t x (back s y) σ = false
draws_by t x (write s new old) σ = false
draws_by t x (sweep n) σ = false
draws_by t x other σ = false

-- the seat t answers, or x is linked or given back
abbrev pub ends : ℕ → Ref → Event → State → Bool
ends t x (begin s) σ = false
ends t x (answer s) σ = t == s
ends t x (draw s y) σ = false
ends t x (back s y) σ = is x y
ends t x (write s new old) σ = has x new
ends t x (sweep n) σ = false
ends t x other σ = false

abbrev pub unlinks : Ref → Event → State → Bool
unlinks x (begin s) σ = false
unlinks x (answer s) σ = false
unlinks x (draw s y) σ = false
unlinks x (back s y) σ = false
unlinks x (write s new old) σ = has x old
unlinks x (sweep n) σ = false
unlinks x other σ = false

-- a sweep brought x into its pool's queue
abbrev pub frees : Ref → Event → State → Bool
frees x (begin s) σ = false
frees x (answer s) σ = false
frees x (draw s y) σ = false
frees x (back s y) σ = false
frees x (write s new old) σ = false
frees x (sweep n) σ = both (not (has x (σ.spare (pool x)))) (has x ((after (sweep n) σ).spare (pool x)))
frees x other σ = false

abbrev pub returns : Ref → Event → State → Bool
returns x (begin s) σ = false
returns x (answer s) σ = false
returns x (draw s y) σ = false
returns x (back s y) σ = is x y
returns x (write s new old) σ = false
returns x (sweep n) σ = frees x (sweep n) σ
returns x other σ = false

abbrev pub drawn_by : ℕ → Ref → {root : Ref} {all : Ref → Bool} {σ : State} → Run root all σ → Bool
drawn_by t x r = since (draws_by t x) (ends t x) r

abbrev pub retired_by : Ref → {root : Ref} {all : Ref → Bool} {σ : State} → Run root all σ → Bool
retired_by x r = since (unlinks x) (frees x) r

-- a slot of a pool, and not the root, never drawn; or given back or freed since its last draw
abbrev pub spare_by : Ref → {root : Ref} {all : Ref → Bool} {σ : State} → Run root all σ → Bool
spare_by x {root} {all} r = either (both (both (not (is x root)) (all x)) (never (draws x) r)) (since (returns x) (draws x) r)

pub record Words : Type 0 where
  pub drawn : {root : Ref} {all : Ref → Bool} {σ : State} (r : Run root all σ) (x : Ref) (t : ℕ) → drawn_by t x r ≡ is_drawn t (mark root all (history r) x)
  pub retired : {root : Ref} {all : Ref → Bool} {σ : State} (r : Run root all σ) (x : Ref) → retired_by x r ≡ is_retired (mark root all (history r) x)
  pub spare : {root : Ref} {all : Ref → Bool} {σ : State} (r : Run root all σ) (x : Ref) → spare_by x r ≡ is_spare (mark root all (history r) x)
