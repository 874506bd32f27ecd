-- The calls on an index: when each is refused, and what it does else.
use Rattle.std.specs.Prelude.{◌≡◌, ℕ, suc, ◌≤◌, Bool, List, [], ◌++◌, length, Some, None, Option, ◌==◌, ◌≢◌}
use Rattle.terms.specs.Limits.{seat_count, call_limit}
use Rattle.terms.specs.Numbers.{refusal_number}
use Rattle.terms.specs.declared.Refusal.{Refusal}
use Rattle.terms.specs.declared.Refusal.TheVariants.{NoSuchSeat, NotOpen, AlreadyOpen, Busy, NoOperation, Key, CallLimit}
use Rattle.model.specs.Refs.{pool, root}
use Rattle.model.specs.Records.{Record}
use Rattle.model.specs.Operations.{Task, by_key, take, Operation, Seat, closed, idle, busy, Outcome}
use Rattle.model_slots.specs.Slots.{both, not, refs, keep, clear}
use Rattle.machine.specs.State.{State, Numbers, Still, WordsAre}
use Rattle.machine.specs.Steps.{Row}

pub data Call (K : Type 0) : Type 0 where
  open_seat close_seat step : ℕ → Call K
  begin : ℕ → Task → K → Call K
  sweep : Call K

-- what a call returns: it was done, what a step came to, how many slots a sweep turned, or a refusal
pub data Reply : Type 0 where
  ok : Reply
  came : Outcome → Reply
  swept : ℕ → Reply
  refused : Refusal → Reply

abbrev pub seat_of : {K : Type 0} → Call K → Option ℕ
seat_of (Call.open_seat s) = Some s
seat_of (Call.close_seat s) = Some s
seat_of (Call.step s) = Some s
seat_of (Call.begin s t k) = Some s
seat_of Call.sweep = None

-- the rows of the table of refusals that fit a call
pub data Fits {K : Type 0} (accepts : K → Type 0) (σ : State) : Call K → Refusal → Type 0 where
  no_such_seat : {c : Call K} (s : ℕ) → seat_of c ≡ Some s → seat_count ≤ s → Fits accepts σ c NoSuchSeat
  close_not_open : (s : ℕ) → σ.seats s ≡ closed → Fits accepts σ (Call.close_seat s) NotOpen
  begin_not_open : (s : ℕ) (t : Task) (k : K) → σ.seats s ≡ closed → Fits accepts σ (Call.begin s t k) NotOpen
  step_not_open : (s : ℕ) → σ.seats s ≡ closed → Fits accepts σ (Call.step s) NotOpen
  already_open : (s : ℕ) → (σ.seats s ≢ closed) → Fits accepts σ (Call.open_seat s) AlreadyOpen
  close_busy : (s : ℕ) (o : Operation) → σ.seats s ≡ busy o → Fits accepts σ (Call.close_seat s) Busy
  begin_busy : (s : ℕ) (t : Task) (k : K) (o : Operation) → σ.seats s ≡ busy o → Fits accepts σ (Call.begin s t k) Busy
  no_operation : (s : ℕ) → σ.seats s ≡ idle → Fits accepts σ (Call.step s) NoOperation
  key : (s : ℕ) (t : Task) (k : K) → (accepts k → ⊥) → Fits accepts σ (Call.begin s t k) Key
  at_call_limit : (c : Call K) → call_limit ≤ σ.calls → Fits accepts σ c CallLimit

-- the topmost row that fits: rows stand in the order of their numbers
pub record Refused {K : Type 0} (accepts : K → Type 0) (σ : State) (c : Call K) (e : Refusal) : Type 0 where
  pub fits : Fits accepts σ c e
  pub topmost : (d : Refusal) → Fits accepts σ c d → refusal_number e ≤ refusal_number d

abbrev pub Accepted : {K : Type 0} → (K → Type 0) → State → Call K → Type 0
Accepted accepts σ c = (e : Refusal) → Fits accepts σ c e → ⊥

-- tree, words and pools stay
pub record Calm (σ τ : State) : Type 0 where
  pub still : Still σ τ
  pub words : WordsAre σ.words τ

-- one seat becomes z, the others stay; one call more was accepted, in the same epoch
pub record Turns (σ τ : State) (s : ℕ) (z : Seat) : Type 0 where
  pub there : τ.seats s ≡ z
  pub elsewhere : (t : ℕ) → (t ≢ s) → τ.seats t ≡ σ.seats t
  pub epoch : τ.epoch ≡ σ.epoch
  pub calls : τ.calls ≡ suc σ.calls

-- an operation that begins: it notes its key and the epoch, holds nothing, and will take the root
abbrev pub started : Task → List ℕ → ℕ → Seat
started t k e = busy (record { task = t; key = k; begun = e; restarts = 0; mode = by_key; held = []; stage = take root 0 })

-- the epoch that an open operation noted
abbrev pub begun_at : Seat → Option ℕ
begun_at closed = None
begun_at idle = None
begun_at (busy o) = Some o.begun

-- whether a slot was retired in an epoch before that of each open operation
abbrev pub due : State → Record → Bool
due σ r = clear (λ s. begun_at (σ.seats s)) r.epoch seat_count

-- a sweep: the epoch rises, and every slot that is due turns spare, behind the spare ones of its pool
pub record Swept (σ τ : State) (n : ℕ) : Type 0 where
  pub tree : τ.tree ≡ σ.tree
  pub words : WordsAre σ.words τ
  pub seats : (s : ℕ) → τ.seats s ≡ σ.seats s
  pub epoch : τ.epoch ≡ suc σ.epoch
  pub calls : τ.calls ≡ suc σ.calls
  pub spare : (p : ℕ) → τ.spare p ≡ σ.spare p ++ refs (keep (λ r. both (due σ r) (pool r.ref == p)) σ.retired)
  pub retired : τ.retired ≡ keep (λ r. not (due σ r)) σ.retired
  pub turned : n ≡ length (keep (due σ) σ.retired)

-- what a call does, for a coding that accepts these keys and gives them these bytes
pub data Did {K : Type 0} (N : Numbers) (accepts : K → Type 0) (bytes : K → List ℕ) (σ τ : State) : Call K → Reply → Type 0 where
  refuses : (c : Call K) (e : Refusal) → Refused accepts σ c e → τ ≡ σ → Did N accepts bytes σ τ c (refused e)
  opens : (s : ℕ) → Accepted accepts σ (Call.open_seat s) → Turns σ τ s idle → Calm σ τ → Did N accepts bytes σ τ (Call.open_seat s) ok
  closes : (s : ℕ) → Accepted accepts σ (Call.close_seat s) → Turns σ τ s closed → Calm σ τ → Did N accepts bytes σ τ (Call.close_seat s) ok
  begins : (s : ℕ) (t : Task) (k : K) → Accepted accepts σ (Call.begin s t k) → accepts k → Turns σ τ s (started t (bytes k) σ.epoch) → Calm σ τ
      → Did N accepts bytes σ τ (Call.begin s t k) ok
  steps : (s : ℕ) (o : Operation) (z : Seat) (r : Outcome) → Accepted accepts σ (Call.step s) → σ.seats s ≡ busy o → Turns σ τ s z → Row N σ τ o z r
      → Did N accepts bytes σ τ (Call.step s) (came r)
  sweeps : (n : ℕ) → Accepted accepts σ Call.sweep → Swept σ τ n → Did N accepts bytes σ τ Call.sweep (swept n)
