-- Which step of an operation is named.
use Rattle.std.specs.Prelude.{ℕ, zero, suc, Bool, true, false, cond, List, length, Some, None, Option, ◌==◌}
use Rattle.latches.specs.declared.word.Meaning.{Meaning}
use Rattle.model.specs.Refs.{Ref}
use Rattle.model.specs.Holds.{Hold}
use Rattle.model.specs.Operations as op
use Rattle.model.specs.Operations.{Task, Answer, no_room, Course, course_answer, Item, Drawn, Stage, take, check_p, look, check_n, act, scan, Operation, Seat, closed, idle, busy, Outcome}
use Rattle.machine.specs.State.{State, Numbers}
use Rattle.machine.specs.Items.{Does}
use Rattle.machine.specs.Steps.{Row}
use Rattle.machine.specs.Calls.{Call, Reply, Did}
use Rattle.machine.specs.Runs.{made, on, history}
use Rattle.machine.specs.Told.{Told, shut, free, asked, told}
use Rattle.runs.specs.Runs.{Run}

-- an operation, by how many calls came before its begin, with what it was asked and what it answers
pub record Feed (K : Type 0) : Type 0 where
  pub since : ℕ
  pub task : Task
  pub key : K
  pub answer : Answer

-- what a step names: nothing, itself, or the first check after the last look; with the answer
pub data Names : Type 0 where
  nothing : Names
  itself first_check : Answer → Names

-- the write that links or unlinks is the last of a course
abbrev pub item_names : {N : Numbers} {σ τ : State} {o : Operation} {c : Course} {a : Item} {d d' : Option Drawn} {f : Ref → Meaning} {hs : List Hold} → Does N σ τ o c a d f hs d' → Names
item_names (Does.locks_p p n e l q) = nothing
item_names (Does.locks_n hs n e l q) = nothing
item_names (Does.locks_m hs n e t l q) = nothing
item_names (Does.draws_leaf hs n v i ls e a q b k r f y) = nothing
item_names (Does.draws_both hs n v i j kind filled ls ns e a q b k r t u y x f w) = nothing
item_names (Does.inserts v i hs n e w) = itself (course_answer (op.insert v))
item_names (Does.splits {v = v} {j = j} hs n e w) = itself (course_answer (op.split v j))
item_names (Does.grows v i p n e w) = itself (course_answer (op.grow v))
item_names (Does.cuts hs n e w a b) = nothing
item_names (Does.misses {v = v} {m = m} p n e w) = itself (course_answer (op.miss v m))
item_names (Does.removes {v = v} {l = l} hs n e w) = itself (course_answer (op.in_place v l))
item_names (Does.joins v l b p n m e k w x y) = nothing
item_names (Does.collapses {v = v} {l = l} x p n ms e w) = itself (course_answer (op.collapse v l x))
item_names (Does.unlocks hs x p e q) = nothing
item_names (Does.unlocks_gone hs x e q) = nothing

abbrev pub row_names : {N : Numbers} {σ τ : State} {o : Operation} {z : Seat} {r : Outcome} → Row N σ τ o z r → Names
row_names (Row.takes x d g t s w) = nothing
row_names (Row.takes_not x d e g t s) = nothing
row_names (Row.checks_p p g e t s w) = nothing
row_names (Row.checks_p_not p e g q t s) = nothing
row_names (Row.looks_on hs n y e g t h q s w) = nothing
row_names (Row.looks_decides hs n k g t h q s w) = nothing
row_names (Row.looks_stale hs n g t h q s) = nothing
row_names (Row.checks_n a hs n g h q s e) = itself a
row_names (Row.checks_n_not a hs n e g h q s) = nothing
row_names (Row.picks_on n j keys s g t h q k w) = nothing
row_names (Row.picks_stale n j keys g t h s) = nothing
row_names (Row.scans i a h g q t l s w) = nothing
row_names (Row.scans_last i a h g q t l s e) = first_check a
row_names (Row.scans_not i a h e g q t s) = nothing
row_names (Row.acts c a is g g' f hs e d w) = item_names d
row_names (Row.acts_not c a is g e x d q t s) = nothing
row_names (Row.no_room c is g q e t h k s) = itself (no_room q)

-- the seat that a step is of, and what it names
abbrev pub step_names : {K : Type 0} {N : Numbers} {accepts : K → Type 0} {bytes : K → List ℕ} {σ τ : State} {c : Call K} {r : Reply} → Did N accepts bytes σ τ c r → Option (ℕ × Names)
step_names (Did.refuses c e f q) = None
step_names (Did.opens s a t k) = None
step_names (Did.closes s a t k) = None
step_names (Did.begins s t k a b w x) = None
step_names (Did.steps s o z r a e t w) = Some (s, row_names w)
step_names (Did.sweeps n a w) = None

abbrev pub is_first_check : Stage → Bool
is_first_check (take x d) = false
is_first_check check_p = false
is_first_check look = false
is_first_check (check_n a) = false
is_first_check (act c is d) = false
is_first_check (scan zero a) = true
is_first_check (scan (suc i) a) = false

-- whether a call is the first check of the seat's next
abbrev pub checks_first : {K : Type 0} {N : Numbers} {accepts : K → Type 0} {bytes : K → List ℕ} {σ τ : State} {c : Call K} {r : Reply} → ℕ → Did N accepts bytes σ τ c r → Bool
checks_first u (Did.refuses c e f q) = false
checks_first u (Did.opens s a t k) = false
checks_first u (Did.closes s a t k) = false
checks_first u (Did.begins s t k a b w x) = false
checks_first u (Did.steps s o z r a e t w) = cond (s == u) (is_first_check o.stage) false
checks_first u (Did.sweeps n a w) = false

-- what the seat was asked, with the answer
abbrev pub feed : {K : Type 0} → Told K → Answer → Option (Feed K)
feed shut a = None
feed free a = None
feed (asked t k b e n) a = Some (record { since = b; task = t; key = k; answer = a })

-- what the call after t calls is named for, where the newest call came after `now` calls, its seat's first check was at
-- `first`, its seat was asked w, and `rest` was named before
abbrev pub named_by : {K : Type 0} → ℕ → ℕ → ℕ → Told K → Names → Option (Feed K) → Option (Feed K)
named_by t now first w nothing rest = rest
named_by t now first w (itself a) rest = cond (t == now) (feed w a) rest
named_by t now first w (first_check a) rest = cond (t == first) (feed w a) rest

module _ {K : Type 0} {N : Numbers} {accepts : K → Type 0} {bytes : K → List ℕ} where
  -- when the seat's newest first check was, by the number of calls before it
  abbrev pub checked_at : {σ : State} → Run N accepts bytes σ → ℕ → ℕ
  checked_at (made n) u = 0
  checked_at (on r e d) u = cond (checks_first u d) (length (history r)) (checked_at r u)

  abbrev pub named_on : {σ : State} → Run N accepts bytes σ → (ℕ → ℕ) → ℕ → Option (ℕ × Names) → Option (Feed K) → Option (Feed K)
  named_on r first t None rest = rest
  named_on r first t (Some (u, n)) rest = named_by t (length (history r)) (first u) (told (history r) u) n rest

  -- the operation that a call is named for, by the number of calls before it
  abbrev pub named : {σ : State} → Run N accepts bytes σ → ℕ → Option (Feed K)
  named (made n) t = None
  named (on r e d) t = named_on r (checked_at (on r e d)) t (step_names d) (named r t)
