use Rattle.std.specs.Prelude.{◌≡◌, ℕ, ◌≤◌, List, length}
use Rattle.keys.specs.Bytes.{First, Begins}
use Rattle.keys.specs.Room.{longest_key}

-- The four laws of a coding, over its accepted keys, their order, their bytes and its longest length.
-- (That decoding gives the key back is what decode ensures.)
pub record Lawful {K : Type 0} (accepts : K → Type 0) (before : K → K → Type 0) (bytes : K → List ℕ) (longest : ℕ) : Type 0 where
  -- keys with the same bytes are the same key
  pub same : (a b : K) → accepts a → accepts b → bytes a ≡ bytes b → a ≡ b
  -- a key before another has the bytes that come first, and the other way round
  pub first : (a b : K) → accepts a → accepts b → before a b → First (bytes a) (bytes b)
  pub comes : (a b : K) → accepts a → accepts b → First (bytes a) (bytes b) → before a b
  -- bytes that begin another key's bytes are that key's
  pub apart : (a b : K) → accepts a → accepts b → Begins (bytes a) (bytes b) → a ≡ b
  -- the length
  pub some : (a : K) → accepts a → 1 ≤ length (bytes a)
  pub most : (a : K) → accepts a → length (bytes a) ≤ longest
  pub room : longest ≤ longest_key
