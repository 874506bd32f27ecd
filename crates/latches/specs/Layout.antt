-- Where the parts of a packed word lie: from the lowest bit, 1 locked, 1 gone, 10 shares, 52 count.
use Rattle.std.specs.Prelude.{ℕ, ◌/◌, ◌%◌, min, ◌==◌}
use Rattle.latches.specs.declared.word.Meaning.{Meaning}
use Rattle.latches.specs.declared.word.Word.{Word}
use Rattle.latches.specs.Rules.{Face}

-- shares past the limit count as the limit: no call makes them
abbrev pub meant : ℕ → Word → Meaning
meant most w = record { locked = (w.bits % 2 == 1); gone = (w.bits / 2 % 2 == 1); shares = min (w.bits / 4 % 1024) most; count = w.bits / 4096 }

-- the layout under a weight and a limit
abbrev pub packed_face : ℕ → ℕ → Face
packed_face own most = record { means = meant most; weight = λ _. own; limit = most }
