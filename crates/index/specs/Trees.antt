-- The memory of a tree, as its contracts read it.
use Rattle.std.specs.Prelude.{◌≡◌, ℕ, List, [], replicate, None, slice_index_or}
use Rattle.std.specs.List.{range_with_len}
use Rattle.inline_bytes.specs.Held.{no_bytes}
use Rattle.latches.specs.Rules.{zero_word}
use Rattle.pools.specs.Contents.{contents}
use Rattle.pools.specs.Spare.{spare}
use Rattle.index.specs.Sizes.{leaf_count}
use Rattle.index.specs.declared.tree.Leaf.{Leaf}
use Rattle.index.specs.declared.tree.Retired.{Retired}
use Rattle.index.specs.declared.tree.Tree.{Tree}

-- the spare slots and the retired ones, the oldest first
abbrev pub spare_of : Tree → List ℕ
spare_of t = spare t.table t.slots

abbrev pub retired_of : Tree → List Retired
retired_of t = contents t.records t.retired

-- what a slot holds that no leaf was put into
abbrev pub no_leaf : Leaf
no_leaf = record { key = no_bytes; value = 0 }

abbrev pub leaf_at : Tree → ℕ → Leaf
leaf_at t i = slice_index_or t.leaves i no_leaf

-- an empty tree: no children, every leaf spare in rising order, nothing retired
pub record Made (t : Tree) : Type 0 where
  pub children : t.children ≡ replicate 256 None
  pub word : t.word ≡ zero_word
  pub spare : spare_of t ≡ range_with_len 0 leaf_count
  pub retired : retired_of t ≡ []
  pub epoch : t.epoch ≡ 0
