-- The numbers of a script.
use Rattle.std.specs.Prelude.{ℕ, ◌+◌, ◌-◌, ◌*◌, ◌^◌, Bool, cond, not, ◌&&◌, List, [], ◌∷◌, length, drop, ℤ, pos, neg_ℤ, Some, None, Option, ◌==◌, nat_le, nat_lt, slice_index}
use Rattle.std.specs.Str.{all_ascii_digits}

-- the value of digits, after a number so far
abbrev pub value_on : ℕ → List ℕ → ℕ
value_on n [] = n
value_on n (c ∷ cs) = value_on (n * 10 + (c - 48)) cs

abbrev pub value_of : List ℕ → ℕ
value_of ds = value_on 0 ds

-- at least one byte, and no zero before another byte
abbrev pub led : List ℕ → Bool
led ds = nat_lt 0 (length ds) && not (nat_lt 1 (length ds) && slice_index ds 0 == 48)

-- digits, at least one, with no leading zeros
abbrev pub plain : List ℕ → Bool
plain ds = led ds && all_ascii_digits ds

-- the number that the digits write, where they are plain and it is at most `most`
abbrev pub number_of : ℕ → List ℕ → Option ℕ
number_of most ds = cond (plain ds && nat_le (value_of ds) most) (Some (value_of ds)) None

abbrev pub as_pos : Option ℕ → Option ℤ
as_pos None = None
as_pos (Some n) = Some (pos n)

abbrev pub as_neg : Option ℕ → Option ℤ
as_neg None = None
as_neg (Some n) = cond (n == 0) None (Some (neg_ℤ (pos n)))

-- a key: `-` only below zero, within 32 signed bits
abbrev pub key_of : List ℕ → Option ℤ
key_of bs = cond (slice_index bs 0 == 45) (as_neg (number_of (2 ^ 31) (drop 1 bs))) (as_pos (number_of (2 ^ 31 - 1) bs))
