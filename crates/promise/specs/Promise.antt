-- The whole promise.
use Rattle.std.specs.Prelude.{◌≡◌, ℕ, List, Some}
use Rattle.machine.specs.State.{State, Numbers}
use Rattle.machine.specs.Calls.{Did}
use Rattle.machine.specs.Runs.{Event, on}
use Rattle.runs.specs.Runs.{Run}
use Rattle.promise.specs.Answers.{Answered}
use Rattle.runs.specs.Named.{Feed, named}
use Rattle.promise.specs.Slots.{Slotted}
use Rattle.promise.specs.Waiting.{Waited}

module _ {K : Type 0} (N : Numbers) (accepts : K → Type 0) (before : K → K → Type 0) (bytes : K → List ℕ) where
  pub record Kept {σ : State} (r : Run N accepts bytes σ) : Type 0 where
    pub answers : Answered N accepts before bytes r
    pub slots : Slotted N accepts bytes r
    pub waiting : Waited N accepts bytes σ

  pub record Promise : Type 0 where
    pub kept : {σ : State} (r : Run N accepts bytes σ) → Kept r
    -- a named step stays named as the run goes on
    pub stays : {σ τ : State} (r : Run N accepts bytes σ) (e : Event K) (d : Did N accepts bytes σ τ e.call e.reply) (t : ℕ) (f : Feed K) → named r t ≡ Some f → named (on r e d) t ≡ Some f
