-- What an operation holds, and how it lets go.
use Rattle.std.specs.Prelude.{ℕ, List, [], ◌∷◌}
use Rattle.latches.specs.declared.word.Meaning.{Meaning}
use Rattle.latches.specs.Rules.{returned, freed}
use Rattle.model.specs.Refs.{Ref, same}

-- a permit with the count that it notes and its weight, or a lock
pub data Grip : Type 0 where
  Permit : ℕ → ℕ → Grip
  Locked : Grip

-- a node that is held, with the count of key bytes before its prefix as it was noted
pub record Hold : Type 0 where
  pub at : Ref
  pub depth : ℕ
  pub grip : Grip

-- one word is m, all others are as they were
abbrev pub put : (Ref → Meaning) → Ref → Meaning → Ref → Meaning
put f x m y = elim (same y x) [ yes e ↦ m | no n ↦ f y ]

-- a permit is given back, a lock is ended
abbrev pub let_go : Grip → Meaning → Meaning
let_go (Permit c w) m = returned w m
let_go Locked m = freed m

-- all entries of a list let go, the first one first
abbrev pub let_go_all : List Hold → (Ref → Meaning) → Ref → Meaning
let_go_all [] f = f
let_go_all (h ∷ hs) f = let_go_all hs (put f h.at (let_go h.grip (f h.at)))
