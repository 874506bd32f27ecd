-- The order of a prefix and the rest of a key, as the search for the next key has it.
use Rattle.std.specs.Prelude.{◌≡◌, ℕ, List}
use Rattle.look.specs.declared.seen.Rank.{Rank}
use Rattle.look.specs.declared.seen.Rank.TheVariants.{Larger, Smaller, Ended, Same}
use Rattle.look.specs.Look.{rank}
use Rattle.model_next.specs.Bytes.{Compared, larger, smaller, ended, same, against}

abbrev pub compared : Rank → Compared
compared Larger = larger
compared Smaller = smaller
compared Ended = ended
compared (Same b) = same b

abbrev pub Compares : Type 0
Compares = (p r : List ℕ) → against p r ≡ compared (rank p r)
