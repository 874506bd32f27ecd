-- What each call does to the whole index.
use Rattle.std.specs.Prelude.{◌≡◌, ℕ, ◌+◌, Bool, true, false, cond, List, replicate, Some, None, Ok, Err, Decides, Option, Result, nat_le, slice_index_or, slice_set}
use Rattle.inline_bytes.specs.Held.{bytes_of}
use Rattle.keys.specs.Room.{Code}
use Rattle.keys.specs.declared.coding.Coding as Coding
use Rattle.latches.specs.Rules.{Face}
use Rattle.latches.specs.declared.latch.Latch as Latch
use Rattle.terms.specs.declared.Refusal.{Refusal}
use Rattle.terms.specs.declared.Refusal.TheVariants.{NoSuchSeat, NotOpen, AlreadyOpen, Busy as SeatBusy, NoOperation, Key, CallLimit}
use Rattle.terms.specs.declared.outcome.Outcome.{Outcome}
use Rattle.index.specs.declared.operation.Met.{Met}
use Rattle.index.specs.declared.operation.Operation.{Operation}
use Rattle.index.specs.declared.operation.Stage.TheVariants.{Take}
use Rattle.index.specs.declared.operation.Task.{Task}
use Rattle.index.specs.declared.seat.Seat.{Seat}
use Rattle.index.specs.declared.seat.Seat.TheVariants.{Closed, Idle, Busy}
use Rattle.index.specs.declared.tree.Tree.{Tree}
use Rattle.index.specs.declared.index.Index.{Index}
use Rattle.index.specs.Machine.{moved}
use Rattle.index.specs.Meets.{Meets}
use Rattle.terms.specs.Limits.{seat_count, call_limit}
use Rattle.index.specs.Sweeps.{Swept}
use Rattle.index.specs.Trees.{Made}

-- an index, whatever its coding and its latch
pub record State : Type 0 where
  pub tree : Tree
  pub seats : List Seat
  pub calls : ℕ

abbrev pub state_of : {C K L : Type 0} {g : Coding.Ghosts C L} {h : Latch.Ghosts K} → Index C K L g h → State
state_of i = record { tree = i.tree; seats = i.seats; calls = i.calls }

abbrev pub seat_at : State → ℕ → Seat
seat_at σ s = slice_index_or σ.seats s Closed

pub record NewIndex (σ : State) : Type 0 where
  pub tree : Made σ.tree
  pub seats : σ.seats ≡ replicate seat_count Closed
  pub calls : σ.calls ≡ 0

-- The table of refusals: the topmost row that fits.
abbrev pub row : Bool → Refusal → Option Refusal → Option Refusal
row fits refusal below = cond fits (Some refusal) below

abbrev pub is_closed : Seat → Bool
is_closed Closed = true
is_closed Idle = false
is_closed (Busy o) = false

abbrev pub is_open : Seat → Bool
is_open Closed = false
is_open Idle = true
is_open (Busy o) = true

abbrev pub is_busy : Seat → Bool
is_busy Closed = false
is_busy Idle = false
is_busy (Busy o) = true

abbrev pub is_idle : Seat → Bool
is_idle Closed = false
is_idle Idle = true
is_idle (Busy o) = false

-- the last row of every call
abbrev pub limit_row : State → Option Refusal
limit_row σ = row (nat_le call_limit σ.calls) CallLimit None

-- the rows of a call on a seat that is to be idle, above those below
abbrev pub idle_rows : Seat → Option Refusal → Option Refusal
idle_rows z below = row (is_closed z) NotOpen (row (is_busy z) SeatBusy below)

-- one call more is counted, unless that was the last
abbrev pub DidCount : State → State → Result (Unit {0}) Refusal → Type 0
DidCount σ τ (Ok _) = (limit_row σ ≡ None) × (τ ≡ record σ { calls = σ.calls + 1 })
DidCount σ τ (Err e) = (limit_row σ ≡ Some e) × (τ ≡ σ)

abbrev pub open_refusal : ℕ → State → Option Refusal
open_refusal s σ = row (nat_le seat_count s) NoSuchSeat (row (is_open (seat_at σ s)) AlreadyOpen (limit_row σ))

abbrev pub close_refusal : ℕ → State → Option Refusal
close_refusal s σ = row (nat_le seat_count s) NoSuchSeat (idle_rows (seat_at σ s) (limit_row σ))

abbrev pub begin_refusal : ℕ → Bool → State → Option Refusal
begin_refusal s refuses σ = row (nat_le seat_count s) NoSuchSeat (idle_rows (seat_at σ s) (row refuses Key (limit_row σ)))

abbrev pub step_refusal : ℕ → State → Option Refusal
step_refusal s σ = row (nat_le seat_count s) NoSuchSeat (row (is_closed (seat_at σ s)) NotOpen (row (is_idle (seat_at σ s)) NoOperation (limit_row σ)))

-- one seat differs, the tree stays, and one call more was accepted
abbrev pub with_seat : ℕ → Seat → State → State
with_seat s x σ = record { tree = σ.tree; seats = slice_set σ.seats s x; calls = σ.calls + 1 }

abbrev pub DidOpen : ℕ → State → State → Result (Unit {0}) Refusal → Type 0
DidOpen s σ τ (Ok _) = (open_refusal s σ ≡ None) × (τ ≡ with_seat s Idle σ)
DidOpen s σ τ (Err e) = (open_refusal s σ ≡ Some e) × (τ ≡ σ)

abbrev pub DidClose : ℕ → State → State → Result (Unit {0}) Refusal → Type 0
DidClose s σ τ (Ok _) = (close_refusal s σ ≡ None) × (τ ≡ with_seat s Closed σ)
DidClose s σ τ (Err e) = (close_refusal s σ ≡ Some e) × (τ ≡ σ)

-- a begin of this task: the key's bytes and the epoch are noted, and Take follows
pub record Begun {K : Type 0} (accepts : K → Type 0) (bytes : K → List ℕ) (s : ℕ) (k : K) (t : Task) (σ τ : State) : Type 0 where
  pub accepted : accepts k
  pub none : begin_refusal s false σ ≡ None
  pub code : Code
  pub noted : bytes_of code ≡ bytes k
  pub after : τ ≡ with_seat s (Busy (record { task = t; key = code; begun = σ.tree.epoch; stage = Take })) σ

-- a begin that is refused, its key counting as the coding has it
pub record BeginRefused {K : Type 0} (accepts : K → Type 0) (s : ℕ) (k : K) (σ τ : State) (e : Refusal) : Type 0 where
  pub row : (refuses : Bool) → Decides refuses (accepts k → ⊥) → begin_refusal s refuses σ ≡ Some e
  pub same : τ ≡ σ

abbrev pub DidBegin : {K : Type 0} → (K → Type 0) → (K → List ℕ) → ℕ → K → Task → State → State → Result (Unit {0}) Refusal → Type 0
DidBegin accepts bytes s k t σ τ (Ok _) = Begun accepts bytes s k t σ τ
DidBegin accepts bytes s k t σ τ (Err e) = BeginRefused accepts s k σ τ e

-- a step: what the stage of the seat's operation meets, and what that comes to; the seven other seats stay
pub record Stepped (f : Face) (s : ℕ) (σ τ : State) (o : Outcome) : Type 0 where
  pub none : step_refusal s σ ≡ None
  pub operation : Operation
  pub busy : seat_at σ s ≡ Busy operation
  pub met : Met
  pub meets : Meets f operation.key σ.tree τ.tree operation.stage met
  pub moves : moved operation met ≡ Some (seat_at τ s, o)
  pub others : τ.seats ≡ slice_set σ.seats s (seat_at τ s)
  pub calls : τ.calls ≡ σ.calls + 1

abbrev pub DidStep : Face → ℕ → State → State → Result Outcome Refusal → Type 0
DidStep f s σ τ (Ok o) = Stepped f s σ τ o
DidStep f s σ τ (Err e) = (step_refusal s σ ≡ Some e) × (τ ≡ σ)

pub record SweptAll (σ τ : State) (n : ℕ) : Type 0 where
  pub none : limit_row σ ≡ None
  pub tree : Swept σ.seats σ.tree τ.tree n
  pub seats : τ.seats ≡ σ.seats
  pub calls : τ.calls ≡ σ.calls + 1

abbrev pub DidSweep : State → State → Result ℕ Refusal → Type 0
DidSweep σ τ (Ok n) = SweptAll σ τ n
DidSweep σ τ (Err e) = (limit_row σ ≡ Some e) × (τ ≡ σ)
