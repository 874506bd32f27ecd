use Rattle.std.proofs.Common.{◌≡◌, ◌≤◌, true, drop}
use Rattle.std.specs.Str.{all_ascii_digits}
use Rattle.script.specs.Numbers.{value_on, value_of, led}
use Rattle.script.proofs.digits.number.Given as goal

abbrev pub invariant-loop-b : goal.invariant-loop-b
invariant-loop-b l =
    (value_on l.value (drop l.b-index l.digits) ≡ value_of l.digits)
    × (all_ascii_digits (drop l.b-index l.digits) ≡ all_ascii_digits l.digits)
    × (l.value ≤ l.most)
    × (led l.digits ≡ true)
