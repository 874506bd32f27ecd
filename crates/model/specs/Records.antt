-- Retired slots.
use Rattle.std.specs.Prelude.{ℕ}
use Rattle.model.specs.Refs.{Ref}

-- a slot that a write took out of the tree, with the epoch of that write
pub record Record : Type 0 where
  pub ref : Ref
  pub epoch : ℕ
