-- A line put into the buffer in two pieces.
use Rattle.std.proofs.Common.{◌≡◌, ℕ, ◌+◌, ◌≤◌, List, ◌++◌, length, arith, rules}
use Rattle.std.proofs.lemmas.List.{places, same_lists}
use Rattle.script.specs.Written.{written}

-- a piece after a piece that fits
pub written_both : (out a b : List ℕ) (s : ℕ) → s + length a ≤ length out → written (written out s a) (s + length a) b ≡ written out s (a ++ b)
written_both out a b s room = same_lists _ _ (search (rules, places)) (λ k d h. grind (arith, places))
