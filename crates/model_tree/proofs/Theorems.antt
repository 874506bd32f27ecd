-- All of it together.
use Rattle.std.proofs.Common.{◌≡◌, ℕ, true, List}
use Rattle.model.specs.Refs.{Ref}
use Rattle.model.specs.Tree.{prefix}
use Rattle.model_tree.specs.Theorems.{Keeps, MapsKeep, TreeKeeps}
use Rattle.model.proofs.Reach.{linked_is_reached, under, compared, path_one, key_one, full_one, parent_one, branch, absent, present}
use Rattle.model_tree.proofs.Graft.{grafted, closed_after, linked_after}
use Rattle.model_tree.proofs.Adds.{insert_keeps, split_keeps, grow_keeps, miss_keeps}
use Rattle.model_tree.proofs.Removes.{inplace_keeps, collapse_keeps}
use Rattle.model_tree.proofs.Moves.{moved}
use Rattle.model_tree.proofs.Aside.{aside, aside_closed, aside_holds}
use Rattle.model_tree.proofs.Witness.{witness}
use Rattle.model_tree.proofs.Start.{first, starts, starts_empty}
use Rattle.model_tree.proofs.Looks.{meet, goes_on, differs_lacks, none_lacks, other_lacks, same_holds, steps_down, split_parts}
use Rattle.model_tree.proofs.Maps.{means_added, means_removed}

pub keeps : (deep : ℕ) (Key : List ℕ → Type 0) (flux flux' : Ref → Type 0) → Keeps deep Key flux flux'
keeps deep Key flux flux' = record {
  reads = λ S G t. record {
    reached = linked_is_reached t;
    under = under t;
    compared = compared t;
    path_one = path_one t;
    key_one = key_one t;
    full_one = full_one t;
    parent_one = parent_one t;
    branch = branch t;
    absent = absent t;
    present = present t;
  };
  graft = λ S T G H a b z new old moved now t g. (grafted t g, closed_after t g, linked_after t g);
  insert = λ S T G t n b i k v now p w. insert_keeps t n b i k v now p w;
  split = λ S T G laws t n b j y c d i k v now p w. split_keeps laws t n b j y c d i k v now p w;
  grow = λ S T G t r b n y c i k v now p w. grow_keeps t r b n y c i k v now p w;
  miss = λ S T G laws t r b n y c d i k v now p w fl. miss_keeps laws t r b n y c d i k v now p w fl;
  in_place = λ S T G t n b i now p w. inplace_keeps t n b i now p w;
  collapse = λ S T G t r b n c i d m now p w fl. collapse_keeps t r b n c i d m now p w fl;
  prefix_write = λ S T G t n m. moved t n m;
  aside = λ S T G H t a. (aside t a, aside_closed t a, aside_holds t a);
  witness = λ laws b v u a. witness laws b v u a;
  start = λ S d ne h p. (first, starts S d ne h p, starts_empty S);
  looks = λ S G t x k r s. record {
    meet = meet (prefix S x) r;
    goes_on = goes_on t x k r s;
    differs = differs_lacks t x k r s;
    none = none_lacks t x k r s;
    other = other_lacks t x k r s;
    same = same_holds t x k r s;
    down = steps_down t x k r s;
    parts = split_parts t x k r s;
  };
}

pub tree_keeps_lem : TreeKeeps
tree_keeps_lem deep key flux flux' = keeps deep (λ k. key k ≡ true) (λ x. flux x ≡ true) (λ x. flux' x ≡ true)

pub maps_keep_lem : MapsKeep
maps_keep_lem S T G H m n k w = record { added = means_added S T G H m n k w; removed = means_removed S T G H m n k w }
