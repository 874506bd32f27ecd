-- A just made index, as a value.
use Rattle.std.specs.Prelude.{◌≡◌, ℕ, ◌++◌, [], length, take, replicate, None, refl}
use Rattle.std.specs.List.{range_with_len}
use Rattle.std.proofs.Common.{ap, ◌∙◌, append-nil, arith}
use Rattle.std.proofs.lemmas.List.{take_all, length-replicate}
use Rattle.std.proofs.lemmas.List.FromFn.{length-range_with_len}
use Rattle.terms.specs.Limits.{seat_count}
use Rattle.latches.specs.Rules.{zero_word}
use Rattle.pools.specs.Spare.{Below, counting_below}
use Rattle.pools.specs.declared.slots.Slots.{Slots}
use Rattle.index.specs.Calls.{State, NewIndex}
use Rattle.index.specs.Kept.{no_record, Ready}
use Rattle.index.specs.Sizes.{leaf_count}
use Rattle.index.specs.Trees.{no_leaf}
use Rattle.index.specs.declared.seat.Seat.TheVariants.{Closed}

whole_table : (n : ℕ) → take n (range_with_len 0 n ++ []) ≡ range_with_len 0 n
whole_table n = ap (take n) (append-nil (range_with_len 0 n)) ∙ take_all n (range_with_len 0 n) (omega (arith, length-range_with_len 0 n))

-- every slot is spare, and none is retired
abbrev new_slots : Slots leaf_count
new_slots = record { queue = record { head = 0; len = leaf_count }; owed = 0; small = omega arith }

below : (n : ℕ) → Below (take n (range_with_len 0 n ++ [])) n
below n = rw (whole_table n) (counting_below 0 n n (omega arith))

new_ready : Ready (range_with_len 0 leaf_count) new_slots (replicate leaf_count no_record) (record { head = 0; len = 0 })
new_ready =
    let t : length (range_with_len 0 leaf_count) ≡ leaf_count = length-range_with_len 0 leaf_count in
    let r : length (replicate leaf_count no_record) ≡ leaf_count = length-replicate leaf_count no_record in
    ((omega arith, (omega arith, omega arith), below leaf_count, omega arith), (omega arith, omega arith), refl, omega arith, λ k l. absurd (omega arith))

-- an index that was just made
pub new_state : State
new_state =
    record {
      tree = record { children = replicate 256 None; word = zero_word; leaves = replicate leaf_count no_leaf; table = range_with_len 0 leaf_count; slots = new_slots; records = replicate leaf_count no_record; retired = record { head = 0; len = 0 }; epoch = 0; ready = new_ready };
      seats = replicate seat_count Closed;
      calls = 0;
    }

-- it keeps what the contract of `new` says
pub new_state_new : NewIndex new_state
unfolding new_state
new_state_new = record { tree = record { children = refl; word = refl; spare = whole_table leaf_count; retired = refl; epoch = refl }; seats = refl; calls = refl }
