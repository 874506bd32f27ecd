-- The grammar of a line behind the first.
use Rattle.std.specs.Prelude.{ℕ, ◌-◌, ◌^◌, Bool, cond, ◌&&◌, List, length, Some, None, Err, Option, Result, ◌==◌, nat_lt, slice_index}
use Rattle.std.specs.Option.{option_map, ok_or}
use Rattle.std.specs.Char.{is_ascii_digit}
use Rattle.terms.specs.declared.Refusal.{Refusal}
use Rattle.terms.specs.declared.Refusal.TheVariants.{Grammar}
use Rattle.script.specs.Numbers.{number_of}
use Rattle.script.specs.Words.{first_word, after_word, word_of}
use Rattle.script.specs.Means.{Meant, opens, closes, finds, adds, steps, sweeps}

-- the most bytes of a line
abbrev pub longest_line : ℕ
longest_line = 64

-- a seat is one digit
abbrev pub digit_of : List ℕ → Option ℕ
digit_of w = cond (length w == 1 && is_ascii_digit (slice_index w 0)) (Some (slice_index w 0 - 48)) None

abbrev pub with_rest : Option ℕ → Option (List ℕ) → Option (ℕ × Option (List ℕ))
with_rest None rest = None
with_rest (Some s) rest = Some (s, rest)

-- the seat that begins what is left of a line, and what is left then
abbrev pub seat_of : Option (List ℕ) → Option (ℕ × Option (List ℕ))
seat_of None = None
seat_of (Some bs) = with_rest (digit_of (first_word bs)) (after_word bs)

-- a seat with nothing behind it
abbrev pub seat_alone : Option (ℕ × Option (List ℕ)) → Option ℕ
seat_alone None = None
seat_alone (Some (s, None)) = Some s
seat_alone (Some (s, Some more)) = None

-- O s, C s, S s
abbrev pub open_of : Option (List ℕ) → Option Meant
open_of rest = option_map opens (seat_alone (seat_of rest))

abbrev pub close_of : Option (List ℕ) → Option Meant
close_of rest = option_map closes (seat_alone (seat_of rest))

abbrev pub step_of : Option (List ℕ) → Option Meant
step_of rest = option_map steps (seat_alone (seat_of rest))

-- F s key
abbrev pub with_key : ℕ → Bool × List ℕ → Option (List ℕ) → Option Meant
with_key s w None = Some (finds s w)
with_key s w (Some more) = None

abbrev pub find_behind : Option (ℕ × Option (List ℕ)) → Option Meant
find_behind None = None
find_behind (Some (s, None)) = None
find_behind (Some (s, Some more)) = with_key s (word_of (first_word more)) (after_word more)

abbrev pub find_of : Option (List ℕ) → Option Meant
find_of rest = find_behind (seat_of rest)

-- A s key value
abbrev pub with_value : ℕ → Bool × List ℕ → Option (List ℕ) → Option Meant
with_value s w None = None
with_value s w (Some bs) = option_map (adds s w) (number_of (2 ^ 32 - 1) bs)

abbrev pub add_behind : Option (ℕ × Option (List ℕ)) → Option Meant
add_behind None = None
add_behind (Some (s, None)) = None
add_behind (Some (s, Some more)) = with_value s (word_of (first_word more)) (after_word more)

abbrev pub add_of : Option (List ℕ) → Option Meant
add_of rest = add_behind (seat_of rest)

-- W
abbrev pub sweep_of : Option (List ℕ) → Option Meant
sweep_of None = Some sweeps
sweep_of (Some more) = None

-- the letter, then what follows its space
abbrev pub letter_of : ℕ → Option (List ℕ) → Option Meant
letter_of b rest =
    cond (b == 0x4F) (open_of rest) (cond (b == 0x43) (close_of rest) (cond (b == 0x46) (find_of rest) (cond (b == 0x41) (add_of rest) (cond (b == 0x53) (step_of rest) (cond (b == 0x57) (sweep_of rest) None)))))

abbrev pub call_by_letter : ℕ → Option (List ℕ) → Result Meant Refusal
call_by_letter b rest = ok_or (letter_of b rest) Grammar

abbrev pub call_of : List ℕ → Result Meant Refusal
call_of line = cond (nat_lt longest_line (length line)) (Err Grammar) (cond (length (first_word line) == 1) (call_by_letter (slice_index (first_word line) 0) (after_word line)) (Err Grammar))
