-- The whole promise, from its parts.
use Rattle.std.proofs.Common.{ℕ, ◌+◌, ◌*◌, ◌≤◌, List}
use Rattle.keys.specs.Laws as coding
use Rattle.machine.specs.State.{State, Numbers}
use Rattle.runs.specs.Runs.{Run}
use Rattle.invariant.specs.Invariant.{Lawful}
use Rattle.invariant.proofs.Runs.{KeyOf}
use Rattle.promise.specs.Promise.{Kept, Promise}
use Rattle.promise.specs.Waiting.{step_bound}
use Rattle.promise.proofs.Names.{names_ok, names_stay}
use Rattle.promise.proofs.Maps.{replay}
use Rattle.promise.proofs.Slotting.{slotted}
use Rattle.promise.proofs.Soon.{waited}

module _ {K : Type 0} {N : Numbers} {accepts : K → Type 0} {before : K → K → Type 0} {bytes : K → List ℕ} {longest : ℕ} (code : coding.Lawful accepts before bytes longest) (law : Lawful N (KeyOf accepts bytes)) (few : 2 * (9 * N.deep + 6) ≤ step_bound) where
  kept : {σ : State} (r : Run N accepts bytes σ) → Kept N accepts before bytes r
  kept r = record {
    answers = let n = names_ok law r in record { own = n.own; one = n.one; answered = n.answered; explained = replay law code r };
    slots = slotted law r;
    waiting = waited law few r;
  }

  pub promised : Promise N accepts before bytes
  promised = record { kept = kept; stays = names_stay law }
