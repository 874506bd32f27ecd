-- What every step keeps of its operation.
use Rattle.std.specs.Prelude.{◌≡◌, suc, []}
use Rattle.model.specs.Operations.{Operation, Seat, closed, idle, busy, Outcome, go, again, answers, Answer}
use Rattle.machine.specs.State.{State, Numbers}
use Rattle.machine.specs.Steps.{Row}

-- restarts are counted, and nothing is held after one
abbrev pub Counted : Operation → Operation → Outcome → Type 0
Counted o u go = u.restarts ≡ o.restarts
Counted o u (again c x d) = (u.restarts ≡ suc o.restarts) × (u.held ≡ [])
Counted o u (answers a) = ⊥

pub record Asked (o u : Operation) : Type 0 where
  pub task : u.task ≡ o.task
  pub key : u.key ≡ o.key
  pub begun : u.begun ≡ o.begun

abbrev pub Kept : Operation → Seat → Outcome → Type 0
Kept o closed r = ⊥
Kept o idle r = (a : Answer) × (r ≡ answers a)
Kept o (busy u) r = Asked o u × Counted o u r

abbrev pub StepsKeep : Type 0
StepsKeep = (N : Numbers) (σ τ : State) (o : Operation) (z : Seat) (r : Outcome) → Row N σ τ o z r → Kept o z r
