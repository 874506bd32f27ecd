-- Byte-by-byte order of byte lists, computed.
use Rattle.std.specs.Prelude.{ℕ, Bool, true, false, cond, List, [], ◌∷◌, ◌==◌, nat_lt}

-- whether one list comes before another, byte by byte
abbrev pub comes : List ℕ → List ℕ → Bool
comes [] [] = false
comes [] (y ∷ ys) = true
comes (x ∷ xs) [] = false
comes (x ∷ xs) (y ∷ ys) = cond (x == y) (comes xs ys) (nat_lt x y)

-- a prefix against what is left of a key
pub data Compared : Type 0 where
  larger smaller ended : Compared
  same : ℕ → Compared

-- same b: all of the prefix is met, and b is the key's next byte; ended: the key ends without a difference
abbrev pub against : List ℕ → List ℕ → Compared
against [] [] = ended
against [] (b ∷ k) = same b
against (a ∷ p) [] = ended
against (a ∷ p) (b ∷ k) = cond (a == b) (against p k) (cond (nat_lt a b) smaller larger)
