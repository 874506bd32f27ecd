use Rattle.std.specs.Prelude.{◌≡◌, ℕ, ◌<◌, ◌≤◌, List, length, take, ◌≢◌, slice_index}
use Rattle.inline_bytes.specs.Held.{bytes_of}
use Rattle.nodes.specs.declared.prefix.Prefix.{Prefix}

-- the bytes of a prefix
abbrev pub kept : Prefix → List ℕ
kept p = bytes_of p.bytes

-- the two lists agree on their first n bytes, and either part there or one ends
abbrev pub Agree : List ℕ → List ℕ → ℕ → Type 0
Agree xs ys n = (n ≤ length xs) × (n ≤ length ys) × (take n xs ≡ take n ys) × (n < length xs → n < length ys → slice_index xs n ≢ slice_index ys n)
