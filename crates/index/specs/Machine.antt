-- The machine of a seat: what its stage, together with what it meets, comes to.
use Rattle.std.specs.Prelude.{Some, None, Option}
use Rattle.latches.specs.declared.word.Permit.{Permit}
use Rattle.terms.specs.declared.Cause.{Cause}
use Rattle.terms.specs.declared.Kind.TheVariants.{Node256}
use Rattle.terms.specs.declared.outcome.Answer.TheVariants.{Found, Absent, Added, Present, NoRoom as NoRoomIn}
use Rattle.terms.specs.declared.outcome.Outcome.{Outcome}
use Rattle.terms.specs.declared.outcome.Outcome.TheVariants.{Go, Again, Answered}
use Rattle.index.specs.declared.operation.Task.{Task}
use Rattle.index.specs.declared.operation.Task.TheVariants.{Find, Add}
use Rattle.index.specs.declared.operation.Course.TheVariants.{Insert, Split}
use Rattle.index.specs.declared.operation.Stage.{Stage}
use Rattle.index.specs.declared.operation.Stage.TheVariants.{Take, Look, Check, Lock, Draw, Write, Unlock}
use Rattle.index.specs.declared.operation.Sight.{Sight}
use Rattle.index.specs.declared.operation.Sight.TheVariants.{Nothing, Same, Other}
use Rattle.index.specs.declared.operation.Met.{Met}
use Rattle.index.specs.declared.operation.Met.TheVariants.{Refused, NoRoom, Granted, Saw, Drew, Done}
use Rattle.index.specs.declared.operation.Operation.{Operation}
use Rattle.index.specs.declared.seat.Seat.{Seat}
use Rattle.index.specs.declared.seat.Seat.TheVariants.{Idle, Busy}

-- what follows a look
abbrev pub decided : Task → Permit → Sight → Stage
decided Find p Nothing = Check p Absent
decided Find p (Same v) = Check p (Found v)
decided Find p Other = Check p Absent
decided (Add v) p Nothing = Lock p (Insert v)
decided (Add v) p (Same w) = Check p (Present w)
decided (Add v) p Other = Lock p (Split v)

abbrev pub clash_at_root : Cause → Outcome
clash_at_root c = Again (record { cause = c; kind = Node256; slot = 0; depth = 0 })

-- a seat with the operation at another stage
abbrev pub busy_at : Operation → Stage → Seat
busy_at o g = Busy (record { task = o.task; key = o.key; begun = o.begun; stage = g })

-- after a look; no other stage sees
abbrev pub moved_saw : Operation → Sight → Stage → Option (Seat × Outcome)
moved_saw o s Take = None
moved_saw o s (Look p) = Some (busy_at o (decided o.task p s), Go)
moved_saw o s (Check p a) = None
moved_saw o s (Lock p w) = None
moved_saw o s (Draw w) = None
moved_saw o s (Write l) = None
moved_saw o s Unlock = None

-- after a check, lock, write or unlock was done; no other stage is done so
abbrev pub moved_done : Operation → Stage → Option (Seat × Outcome)
moved_done o Take = None
moved_done o (Look p) = None
moved_done o (Check p a) = Some (Idle, Answered a)
moved_done o (Lock p w) = Some (busy_at o (Draw w), Go)
moved_done o (Draw w) = None
moved_done o (Write l) = Some (busy_at o Unlock, Go)
moved_done o Unlock = Some (Idle, Answered Added)

-- the seat and the outcome after a step; nothing where the stage cannot meet that
abbrev pub moved : Operation → Met → Option (Seat × Outcome)
moved o (Refused c) = Some (busy_at o Take, clash_at_root c)
moved o (NoRoom k) = Some (Idle, Answered (NoRoomIn k))
moved o (Granted p) = Some (busy_at o (Look p), Go)
moved o (Saw s) = moved_saw o s o.stage
moved o (Drew l) = Some (busy_at o (Write l), Go)
moved o Done = moved_done o o.stage
