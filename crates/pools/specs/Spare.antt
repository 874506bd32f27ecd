use Rattle.std.specs.Prelude.{ℕ, ◌+◌, ◌<◌, ◌≤◌, List, length, slice_index}
use Rattle.std.specs.List.{range_with_len}
use Rattle.std.proofs.Common.{arith}
use Rattle.std.proofs.lemmas.List.FromFn.{length-range_with_len, get_or-range_with_len}
use Rattle.pools.specs.Contents.{contents, Fits}
use Rattle.pools.specs.declared.slots.Slots.{Slots}

-- the spare slots, the first to be drawn first
abbrev pub spare : {n : ℕ} → List ℕ → Slots n → List ℕ
spare table s = contents table s.queue

abbrev pub Below : List ℕ → ℕ → Type 0
Below xs n = (k : ℕ) → k < length xs → slice_index xs k < n

-- the queue fits the table, its slots are the pool's, and there is room for what is owed
abbrev pub Sound : {n : ℕ} → List ℕ → Slots n → Type 0
Sound {n} table s = (length table ≤ n) × Fits table s.queue × Below (spare table s) n × (s.queue.len + s.owed ≤ length table)

-- rising numbers stay below what comes after the last
pub counting_below : (a n m : ℕ) → a + n ≤ m → Below (range_with_len a n) m
counting_below a n m h k l = let b : k < n = rw length-range_with_len at l in omega (arith, get_or-range_with_len a n k 0 b)
