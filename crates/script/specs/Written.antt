-- Lines in a lent buffer.
use Rattle.std.specs.Prelude.{ℕ, ◌+◌, ◌-◌, Bool, true, false, cond, List, [], ◌∷◌, ◌++◌, length, take, drop, Ok, Err, Result, nat_le}
use Rattle.terms.specs.declared.Refusal.{Refusal}
use Rattle.terms.specs.declared.Refusal.TheVariants.{BufferEnd}

-- a line with its end
abbrev pub ended : List ℕ → List ℕ
ended text = text ++ 0x0A ∷ []

-- the buffer after as much of the line as fits was written at the place
abbrev pub written : List ℕ → ℕ → List ℕ → List ℕ
written out at line = take at out ++ (take (length out - at) line ++ drop (at + length line) out)

-- the line fits from the place to the buffer's end
abbrev pub fits : List ℕ → ℕ → List ℕ → Bool
fits out at line = nat_le (at + length line) (length out)

-- behind the line where it fits, else where it began
abbrev pub place_after : List ℕ → ℕ → List ℕ → ℕ
place_after out at line = cond (fits out at line) (at + length line) at

abbrev pub wrote : Bool → Result (Unit {0}) Refusal
wrote true = Ok tt
wrote false = Err BufferEnd
