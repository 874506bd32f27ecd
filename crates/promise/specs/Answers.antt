-- The answers of a run, explained by the ordered map at the named steps.
use Rattle.std.specs.Prelude.{◌≡◌, ℕ, suc, ◌≤◌, List, ◌∷◌, ◌++◌, length, Some, None}
use Rattle.model.specs.Operations.{Task, Answer, Outcome, answers}
use Rattle.machine.specs.State.{State, Numbers}
use Rattle.machine.specs.Calls.{Call, came}
use Rattle.machine.specs.Runs.{Event, history}
use Rattle.machine.specs.Told.{asked, told}
use Rattle.runs.specs.Runs.{Run}
use Rattle.promise.specs.Map.{Map, Empty, Fed}
use Rattle.runs.specs.Named.{Feed, named}

-- in the history h, after t calls, the seat's operation that began after b calls with this task and key made a step that came to r
pub record StepAt {K : Type 0} (h : List (Event K)) (t b : ℕ) (task : Task) (key : K) (r : Outcome) : Type 0 where
  pub later : List (Event K)
  pub earlier : List (Event K)
  pub seat : ℕ
  pub sweeps : ℕ
  pub restarts : ℕ
  pub split : h ≡ later ++ record { call = Call.step seat; reply = came r } ∷ earlier
  pub time : length earlier ≡ t
  pub own : told earlier seat ≡ asked task key b sweeps restarts

module _ {K : Type 0} (N : Numbers) (accepts : K → Type 0) (before : K → K → Type 0) (bytes : K → List ℕ) where
  -- the map before each call: fed where a step is named, and else as it was
  pub data Replay {σ : State} (r : Run N accepts bytes σ) : ℕ → Map K → Type 0 where
    start : (m : Map K) → Empty accepts m → Replay r 0 m
    fed : (t : ℕ) (m n : Map K) (f : Feed K) → Replay r t m → named r t ≡ Some f → Fed accepts before bytes m n f.task f.key f.answer → Replay r (suc t) n
    passed : (t : ℕ) (m : Map K) → Replay r t m → named r t ≡ None → Replay r (suc t) m

  pub record Answered {σ : State} (r : Run N accepts bytes σ) : Type 0 where
    -- a named step is one of its operation's own
    pub own : (t : ℕ) (f : Feed K) → named r t ≡ Some f → (o : Outcome) × StepAt (history r) t f.since f.task f.key o
    -- an operation has at most one named step
    pub one : (t u : ℕ) (f e : Feed K) → named r t ≡ Some f → named r u ≡ Some e → f.since ≡ e.since → t ≡ u
    -- an answered operation has one, with its answer
    pub answered : (t b : ℕ) (task : Task) (key : K) (a : Answer) → StepAt (history r) t b task key (answers a)
        → (u : ℕ) × (u ≤ t) × (named r u ≡ Some (record { since = b; task = task; key = key; answer = a }))
    -- the ordered map at the named steps gives every answer
    pub explained : (m : Map K) × Replay r (length (history r)) m
