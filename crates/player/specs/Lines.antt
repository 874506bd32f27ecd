-- What a line of a script does to the index, and its reply.
use Rattle.std.specs.Prelude.{◌≡◌, ℕ, Bool, List, Some, None, Ok, Err, Option, Result}
use Rattle.latches.specs.Rules.{Face}
use Rattle.terms.specs.declared.Refusal.{Refusal}
use Rattle.terms.specs.declared.Refusal.TheVariants.{Grammar}
use Rattle.terms.specs.declared.outcome.Outcome.{Outcome}
use Rattle.script.specs.declared.reply.Done.TheVariants.{Accepted, Stepped, Swept}
use Rattle.script.specs.Replies.{Reply}
use Rattle.script.specs.Grammar.{call_of}
use Rattle.script.specs.Means.{Meant, opens, closes, finds, adds, steps, sweeps}
use Rattle.index.specs.declared.operation.Task.{Task}
use Rattle.index.specs.declared.operation.Task.TheVariants.{Find, Add}
use Rattle.index.specs.Calls.{State, DidOpen, DidClose, DidBegin, DidStep, DidSweep}

abbrev pub plain_reply : Result (Unit {0}) Refusal → Reply
plain_reply (Ok _) = Ok Accepted
plain_reply (Err e) = Err e

abbrev pub step_reply : Result Outcome Refusal → Reply
step_reply (Ok o) = Ok (Stepped o)
step_reply (Err e) = Err e

abbrev pub sweep_reply : Result ℕ Refusal → Reply
sweep_reply (Ok n) = Ok (Swept n)
sweep_reply (Err e) = Err e

-- the call answered x, and that is the reply
abbrev pub Told : {X : Type 0} → (X → Type 0) → (X → Reply) → Reply → Type 0
Told {X} did says r = (x : X) × did x × (r ≡ says x)

module _ {K : Type 0} (accepts : K → Type 0) (bytes : K → List ℕ) (reads : Bool × List ℕ → Option K → Type 0) where
  -- a begin with the key that its word is; a word that is no key of the coding is outside the grammar
  abbrev pub BegunBy : ℕ → Task → State → State → Reply → Option K → Type 0
  BegunBy s t σ τ r None = (r ≡ Err Grammar) × (τ ≡ σ)
  BegunBy s t σ τ r (Some k) = Told (DidBegin accepts bytes s k t σ τ) plain_reply r

  abbrev pub BeginReplied : ℕ → Bool × List ℕ → Task → State → State → Reply → Type 0
  BeginReplied s w t σ τ r = (k : Option K) × reads w k × BegunBy s t σ τ r k

module _ (f : Face) {K : Type 0} (accepts : K → Type 0) (bytes : K → List ℕ) (reads : Bool × List ℕ → Option K → Type 0) where
  abbrev pub CallReplied : Meant → State → State → Reply → Type 0
  CallReplied (opens s) σ τ r = Told (DidOpen s σ τ) plain_reply r
  CallReplied (closes s) σ τ r = Told (DidClose s σ τ) plain_reply r
  CallReplied (finds s w) σ τ r = BeginReplied accepts bytes reads s w Find σ τ r
  CallReplied (adds s w v) σ τ r = BeginReplied accepts bytes reads s w (Add v) σ τ r
  CallReplied (steps s) σ τ r = Told (DidStep f s σ τ) step_reply r
  CallReplied sweeps σ τ r = Told (DidSweep σ τ) sweep_reply r

  abbrev pub ReadAs : State → State → Reply → Result Meant Refusal → Type 0
  ReadAs σ τ r (Ok m) = CallReplied m σ τ r
  ReadAs σ τ r (Err e) = (r ≡ Err e) × (τ ≡ σ)

  -- the call that the line asks for was made, or the line is outside the grammar
  abbrev pub Replied : List ℕ → State → State → Reply → Type 0
  Replied line σ τ r = ReadAs σ τ r (call_of line)
