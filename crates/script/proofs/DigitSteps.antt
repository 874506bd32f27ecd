-- What digits come to that pass their most.
use Rattle.std.proofs.Common.{◌≡◌, ℕ, ◌+◌, ◌-◌, ◌*◌, ◌<◌, ◌≤◌, List, [], ◌∷◌, length, get_or, drop, None, sym, arith}
use Rattle.std.proofs.lemmas.Bool.{and_right, cond-false, lt-leb}
use Rattle.std.proofs.lemmas.List.{at_drop_more}
use Rattle.script.specs.Numbers.{value_on, value_of, plain, number_of}

pub none_large : (most : ℕ) (ds : List ℕ) → most < value_of ds → None ≡ number_of most ds
none_large most ds h = sym (cond-false _ _ _ (and_right (plain ds) _ (lt-leb _ _ h)))

pub value_on_ge : (n : ℕ) (ds : List ℕ) → n ≤ value_on n ds
value_on_ge n [] = omega arith
value_on_ge n (c ∷ cs) = omega (arith, value_on_ge (n * 10 + (c - 48)) cs)

pub value_step : (n : ℕ) (ds : List ℕ) (i : ℕ) → i < length ds → value_on n (drop i ds) ≡ value_on (n * 10 + (get_or ds i 0 - 48)) (drop (i + 1) ds)
value_step n ds i h = at_drop_more (value_on n) ds i 0 h
