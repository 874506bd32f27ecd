-- What the history of a run tells of calls, epoch and seats.
use Rattle.std.specs.Prelude.{◌≡◌, ℕ, suc, ◌≤◌, cond, List, [], ◌∷◌, length, ◌==◌}
use Rattle.terms.specs.Limits.{seat_count, call_limit}
use Rattle.model.specs.Operations.{Task, Operation, Seat, closed, idle, busy, Outcome, go, again, answers}
use Rattle.machine.specs.State.{State, Numbers}
use Rattle.machine.specs.Calls.{Call, Reply, ok, came, swept, refused}
use Rattle.machine.specs.Runs.{Event, Run, history}

-- one accepted call more, or one sweep more, where the reply says so
abbrev pub plus_call : Reply → ℕ → ℕ
plus_call ok n = suc n
plus_call (came r) n = suc n
plus_call (swept m) n = suc n
plus_call (refused e) n = n

abbrev pub plus_sweep : Reply → ℕ → ℕ
plus_sweep ok n = n
plus_sweep (came r) n = n
plus_sweep (swept m) n = suc n
plus_sweep (refused e) n = n

-- how many calls were accepted, and how many of them were sweeps
abbrev pub accepted : {K : Type 0} → List (Event K) → ℕ
accepted [] = 0
accepted (e ∷ h) = plus_call e.reply (accepted h)

abbrev pub sweeps_of : {K : Type 0} → List (Event K) → ℕ
sweeps_of [] = 0
sweeps_of (e ∷ h) = plus_sweep e.reply (sweeps_of h)

-- a seat is closed, idle, or busy with what it was asked, how many calls and how many sweeps came before, and how often
-- it started again
pub data Told (K : Type 0) : Type 0 where
  shut free : Told K
  asked : Task → K → ℕ → ℕ → ℕ → Told K

abbrev pub again_asked : {K : Type 0} → Told K → Told K
again_asked shut = shut
again_asked free = free
again_asked (asked t k b e n) = asked t k b e (suc n)

abbrev pub stepped : {K : Type 0} → Outcome → Told K → Told K
stepped go w = w
stepped (again c x d) w = again_asked w
stepped (answers a) w = free

-- what a call makes of the seat s that was w, with b calls and e sweeps before
abbrev pub done : {K : Type 0} → Call K → ℕ → ℕ → ℕ → Told K → Told K
done (Call.open_seat u) b e s w = cond (s == u) free w
done (Call.close_seat u) b e s w = cond (s == u) shut w
done (Call.step u) b e s w = w
done (Call.begin u t k) b e s w = cond (s == u) (asked t k b e 0) w
done Call.sweep b e s w = w

abbrev pub moved : {K : Type 0} → Call K → Outcome → ℕ → Told K → Told K
moved (Call.open_seat u) r s w = w
moved (Call.close_seat u) r s w = w
moved (Call.step u) r s w = cond (s == u) (stepped r w) w
moved (Call.begin u t k) r s w = w
moved Call.sweep r s w = w

abbrev pub turned : {K : Type 0} → Call K → Reply → ℕ → ℕ → ℕ → Told K → Told K
turned c ok b e s w = done c b e s w
turned c (came r) b e s w = moved c r s w
turned c (swept n) b e s w = w
turned c (refused f) b e s w = w

abbrev pub told : {K : Type 0} → List (Event K) → ℕ → Told K
told [] s = shut
told (e ∷ h) s = turned e.call e.reply (length h) (sweeps_of h) s (told h s)

-- a seat with the operation that it was asked for
pub record Asks {K : Type 0} (accepts : K → Type 0) (bytes : K → List ℕ) (t : Task) (k : K) (e n : ℕ) (z : Seat) : Type 0 where
  pub operation : Operation
  pub seat : z ≡ busy operation
  pub accepted : accepts k
  pub task : operation.task ≡ t
  pub key : operation.key ≡ bytes k
  pub begun : operation.begun ≡ e
  pub restarts : operation.restarts ≡ n

abbrev pub Agrees : {K : Type 0} → (K → Type 0) → (K → List ℕ) → Told K → Seat → Type 0
Agrees accepts bytes shut z = z ≡ closed
Agrees accepts bytes free z = z ≡ idle
Agrees accepts bytes (asked t k b e n) z = Asks accepts bytes t k e n z

pub record Tells {K : Type 0} (accepts : K → Type 0) (bytes : K → List ℕ) (h : List (Event K)) (σ : State) : Type 0 where
  pub calls : σ.calls ≡ accepted h
  pub limit : accepted h ≤ call_limit
  pub epoch : σ.epoch ≡ sweeps_of h
  pub seats : (s : ℕ) → Agrees accepts bytes (told h s) (σ.seats s)
  pub outside : (s : ℕ) → seat_count ≤ s → σ.seats s ≡ closed

abbrev pub HistoriesTell : {K : Type 0} → (Numbers → State → Type 0) → (K → Type 0) → (K → List ℕ) → Type 0
HistoriesTell Made accepts bytes = (N : Numbers) (σ : State) (r : Run (Made N) N accepts bytes σ) → Tells accepts bytes (history r) σ
