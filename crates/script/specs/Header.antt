-- Line 1 of a script: `=`, the coding and the latch.
use Rattle.std.specs.Prelude.{ℕ, Bool, cond, ◌&&◌, List, length, Some, None, Ok, Err, Option, Result, ◌==◌, slice_index}
use Rattle.terms.specs.declared.Refusal.{Refusal}
use Rattle.terms.specs.declared.Refusal.TheVariants.{Grammar}
use Rattle.script.specs.declared.header.Header.{Header}
use Rattle.script.specs.declared.header.CodingName.{CodingName}
use Rattle.script.specs.declared.header.CodingName.TheVariants.{Number, Text}
use Rattle.script.specs.declared.header.LatchName.{LatchName}
use Rattle.script.specs.declared.header.LatchName.TheVariants.{Optimistic, Coupling}

abbrev pub coding_of : ℕ → Option CodingName
coding_of b = cond (b == 0x6E) (Some Number) (cond (b == 0x74) (Some Text) None)

abbrev pub latch_of : ℕ → Option LatchName
latch_of b = cond (b == 0x6F) (Some Optimistic) (cond (b == 0x63) (Some Coupling) None)

abbrev pub named : Option CodingName → Option LatchName → Result Header Refusal
named None l = Err Grammar
named (Some c) None = Err Grammar
named (Some c) (Some l) = Ok (record { coding = c; latch = l })

-- five bytes: `= `, a letter, a space, a letter
abbrev pub formed : List ℕ → Bool
formed line = length line == 5 && (slice_index line 0 == 0x3D && (slice_index line 1 == 0x20 && slice_index line 3 == 0x20))

abbrev pub header_of : List ℕ → Result Header Refusal
header_of line = cond (formed line) (named (coding_of (slice_index line 2)) (latch_of (slice_index line 4))) (Err Grammar)
