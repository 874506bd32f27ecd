-- A refusal carries the smallest cause that applies.
use Rattle.std.specs.Prelude.{◌≡◌, ◌≤◌, Bool, true, Some, None, Option}
use Rattle.terms.specs.declared.Cause.{Cause}
use Rattle.terms.specs.declared.Cause.TheVariants.{Gone, Locked, Changed, Shared}
use Rattle.terms.specs.Numbers.{cause_number}
use Rattle.latches.specs.Rules.{smallest}

-- whether a cause applies, by the four tests
abbrev pub Applies : Bool → Bool → Bool → Bool → Cause → Type 0
Applies gone locked changed shared Gone = gone ≡ true
Applies gone locked changed shared Locked = locked ≡ true
Applies gone locked changed shared Changed = changed ≡ true
Applies gone locked changed shared Shared = shared ≡ true

-- the cause applies, and any other that applies has a larger number; or none applies
abbrev pub Least : (Cause → Type 0) → Option Cause → Type 0
Least applies (Some c) = applies c × ((k : Cause) → applies k → cause_number c ≤ cause_number k)
Least applies None = (k : Cause) → applies k → ⊥

abbrev pub SmallestCause : Type 0
SmallestCause = (gone locked changed shared : Bool) → Least (Applies gone locked changed shared) (smallest gone locked changed shared)
