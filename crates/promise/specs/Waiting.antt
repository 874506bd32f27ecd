-- How long an operation waits that is alone.
use Rattle.std.specs.Prelude.{◌≡◌, ℕ, suc, ◌+◌, ◌<◌, ◌≤◌, List, ◌≢◌}
use Rattle.terms.specs.Limits.{call_limit}
use Rattle.terms.specs.declared.Refusal.{Refusal}
use Rattle.model.specs.Operations.{Operation, busy, Outcome, Answer, answers}
use Rattle.machine.specs.State.{State, Numbers}
use Rattle.machine.specs.Calls.{Call, came, refused, Did}

-- an operation alone is answered within so many steps
abbrev pub step_bound : ℕ
step_bound = 300

-- the seat s has an operation open, and no other seat has
pub record Alone (s : ℕ) (σ : State) : Type 0 where
  pub operation : Operation
  pub busy' : σ.seats s ≡ busy operation
  pub others : (t : ℕ) (o : Operation) → σ.seats t ≡ busy o → t ≡ s

module _ {K : Type 0} (N : Numbers) (accepts : K → Type 0) (bytes : K → List ℕ) where
  -- n steps of the seat s, none of which answers, with only refused calls between
  pub data Waits (s : ℕ) (σ : State) : ℕ → State → Type 0 where
    now : Waits s σ 0 σ
    steps : (n : ℕ) (τ υ : State) (r : Outcome) → Waits s σ n τ → Did N accepts bytes τ υ (Call.step s) (came r) → ((a : Answer) → r ≢ answers a) → Waits s σ (suc n) υ
    refuses : (n : ℕ) (τ υ : State) (c : Call K) (e : Refusal) → Waits s σ n τ → Did N accepts bytes τ υ c (refused e) → Waits s σ n υ

  pub record Soon (s : ℕ) (σ : State) : Type 0 where
    pub bounded : (n : ℕ) (τ : State) → Waits s σ n τ → n < step_bound
    -- and no step of it is refused meanwhile
    pub accepted : (n : ℕ) (τ υ : State) (e : Refusal) → Waits s σ n τ → Did N accepts bytes τ υ (Call.step s) (refused e) → ⊥

  abbrev pub Waited : State → Type 0
  Waited σ = (s : ℕ) → Alone s σ → σ.calls + step_bound ≤ call_limit → Soon s σ
