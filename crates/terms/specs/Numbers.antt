-- The numbers of refusals, causes and kinds, as they are printed.
use Rattle.std.specs.Prelude.{ℕ}
use Rattle.terms.specs.declared.Refusal.{Refusal}
use Rattle.terms.specs.declared.Refusal.TheVariants.{NoSuchSeat, NotOpen, AlreadyOpen, Busy, NoOperation, Key, CallLimit, BufferEnd, Grammar, ScriptLength}
use Rattle.terms.specs.declared.Cause.{Cause}
use Rattle.terms.specs.declared.Cause.TheVariants.{Gone, Locked, Changed, Shared}
use Rattle.terms.specs.declared.Kind.{Kind}
use Rattle.terms.specs.declared.Kind.TheVariants.{Leaf, Node4, Node16, Node48, Node256}

abbrev pub refusal_number : Refusal → ℕ
refusal_number NoSuchSeat = 1
refusal_number NotOpen = 2
refusal_number AlreadyOpen = 3
refusal_number Busy = 4
refusal_number NoOperation = 5
refusal_number Key = 6
refusal_number CallLimit = 7
refusal_number BufferEnd = 8
refusal_number Grammar = 9
refusal_number ScriptLength = 10

abbrev pub cause_number : Cause → ℕ
cause_number Gone = 1
cause_number Locked = 2
cause_number Changed = 3
cause_number Shared = 4

-- a leaf's pool is 1, a node's its number of children
abbrev pub kind_number : Kind → ℕ
kind_number Leaf = 1
kind_number Node4 = 4
kind_number Node16 = 16
kind_number Node48 = 48
kind_number Node256 = 256
