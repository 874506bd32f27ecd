-- How many seats an index has, and how many calls it accepts.
use Rattle.std.specs.Prelude.{ℕ, ◌^◌}

abbrev pub seat_count : ℕ
seat_count = 8

abbrev pub call_limit : ℕ
call_limit = 2 ^ 50
