-- The size of the one pool.
use Rattle.std.specs.Prelude.{ℕ}

abbrev pub leaf_count : ℕ
leaf_count = 512
