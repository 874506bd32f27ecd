-- What the memory of a tree keeps.
use Rattle.std.specs.Prelude.{◌≡◌, ℕ, ◌+◌, ◌<◌, ◌≤◌, List, length, get_or}
use Rattle.pools.specs.Contents.{contents, Fits}
use Rattle.pools.specs.declared.queue.Queue.{Queue}
use Rattle.pools.specs.declared.slots.Slots.{Slots}
use Rattle.pools.specs.Spare.{Sound}
use Rattle.index.specs.Sizes.{leaf_count}
use Rattle.index.specs.declared.tree.Retired.{Retired}

abbrev pub no_record : Retired
no_record = record { slot = 0; epoch = 0 }

-- records of slots that the pool has
abbrev pub Ours : List Retired → Type 0
Ours rs = (k : ℕ) → k < length rs → (get_or rs k no_record).slot < leaf_count

-- both queues fit their tables, nothing is owed, what is retired finds room among the spare, and is the pool's
abbrev pub Ready : List ℕ → Slots leaf_count → List Retired → Queue → Type 0
Ready table slots records retired =
    Sound table slots × Fits records retired × (slots.owed ≡ 0) × (slots.queue.len + retired.len ≤ leaf_count) × Ours (contents records retired)
