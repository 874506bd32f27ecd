-- What each call of a latch answers, by the meaning of its word.
use Rattle.std.specs.Prelude.{◌≡◌, ℕ, ◌+◌, ◌-◌, ◌^◌, ◌<◌, Bool, true, false, cond, not, Some, None, Ok, Err, Option, Result, ◌==◌, nat_lt}
use Rattle.terms.specs.declared.Cause.{Cause}
use Rattle.terms.specs.declared.Cause.TheVariants.{Gone, Locked, Changed, Shared}
use Rattle.latches.specs.declared.word.Word.{Word}
use Rattle.latches.specs.declared.word.Meaning.{Meaning}
use Rattle.latches.specs.declared.word.Permit.{Permit}

-- What a latch shows: what its words mean, what a permit weighs, and how many shares may be out.
pub record Face : Type 0 where
  pub means : Word → Meaning
  pub weight : Permit → ℕ
  pub limit : ℕ

-- the largest limit of any latch
abbrev pub most_shares : ℕ
most_shares = 512

-- a latch may rely on counts below this
abbrev pub count_limit : ℕ
count_limit = 2 ^ 50

-- the word that every node starts with, and what it means
abbrev pub zero_word : Word
zero_word = record { bits = 0 }

abbrev pub fresh : Meaning
fresh = record { locked = false; gone = false; shares = 0; count = 0 }

-- the smallest cause whose test applies
abbrev pub smallest : Bool → Bool → Bool → Bool → Option Cause
smallest gone locked changed shared = cond gone (Some Gone) (cond locked (Some Locked) (cond changed (Some Changed) (cond shared (Some Shared) None)))

abbrev pub changed : Permit → Meaning → Bool
changed p m = not (m.count == p.count)

abbrev pub take_refusal : ℕ → Meaning → Option Cause
take_refusal limit m = smallest m.gone m.locked false (m.shares == limit)

abbrev pub check_refusal : Permit → Meaning → Option Cause
check_refusal p m = smallest m.gone m.locked (changed p m) false

abbrev pub lock_refusal : ℕ → Permit → Meaning → Option Cause
lock_refusal weight p m = smallest m.gone m.locked (changed p m) (nat_lt weight m.shares)

-- what a permit notes
abbrev pub noted : Meaning → Permit
noted m = record { count = m.count }

-- the meaning after each call that changes it
abbrev pub shared : ℕ → Meaning → Meaning
shared weight m = record { locked = m.locked; gone = m.gone; shares = m.shares + weight; count = m.count }

abbrev pub returned : ℕ → Meaning → Meaning
returned weight m = record { locked = m.locked; gone = m.gone; shares = m.shares - weight; count = m.count }

abbrev pub held : Meaning → Meaning
held m = record { locked = true; gone = m.gone; shares = 0; count = m.count }

abbrev pub freed : Meaning → Meaning
freed m = record { locked = false; gone = m.gone; shares = m.shares; count = m.count + 1 }

abbrev pub freed_gone : Meaning → Meaning
freed_gone m = record { locked = false; gone = true; shares = m.shares; count = m.count + 1 }

abbrev pub raised : Meaning → Meaning
raised m = record { locked = m.locked; gone = false; shares = m.shares; count = m.count + 1 }

abbrev pub revived : Meaning → Meaning
revived m = cond m.gone (raised m) m

-- Take answers the new word and the permit together, or the cause.
abbrev pub Took : Face → Word → Result (Word × Permit) Cause → Type 0
Took f w (Ok (v, p)) = (take_refusal f.limit (f.means w) ≡ None) × (f.means v ≡ shared (f.weight p) (f.means w)) × (p ≡ noted (f.means w))
Took f w (Err c) = take_refusal f.limit (f.means w) ≡ Some c

abbrev pub Passed : Face → Word → Permit → Result (Unit {0}) Cause → Type 0
Passed f w p (Ok _) = check_refusal p (f.means w) ≡ None
Passed f w p (Err c) = check_refusal p (f.means w) ≡ Some c

abbrev pub Held : Face → Word → Permit → Result Word Cause → Type 0
Held f w p (Ok v) = (lock_refusal (f.weight p) p (f.means w) ≡ None) × (f.means v ≡ held (f.means w))
Held f w p (Err c) = lock_refusal (f.weight p) p (f.means w) ≡ Some c

abbrev pub Returned : Face → Word → Permit → Word → Type 0
Returned f w p v = f.means v ≡ returned (f.weight p) (f.means w)

abbrev pub Freed : Face → Word → Word → Type 0
Freed f w v = (f.means w).count < count_limit → f.means v ≡ freed (f.means w)

abbrev pub FreedGone : Face → Word → Word → Type 0
FreedGone f w v = (f.means w).count < count_limit → f.means v ≡ freed_gone (f.means w)

abbrev pub Revived : Face → Word → Word → Type 0
Revived f w v = (f.means w).count < count_limit → f.means v ≡ revived (f.means w)
