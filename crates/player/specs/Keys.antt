-- Which keys the words of a script are.
use Rattle.std.specs.Prelude.{◌≡◌, ℕ, ◌<◌, Bool, true, false, List, length, ℤ, Some, None, Option}
use Rattle.keys.specs.declared.text.Text.{Text}
use Rattle.keys.specs.Room.{text_room}
use Rattle.keys.specs.Texts.{spelled}
use Rattle.script.specs.Numbers.{key_of}
use Rattle.script.specs.Words.{Printable}

-- a word that is no text, and writes a number of 32 signed bits
abbrev pub ReadsNumber : Bool × List ℕ → Option ℤ → Type 0
ReadsNumber (false, bs) r = r ≡ key_of bs
ReadsNumber (true, bs) r = r ≡ None

-- a text of printable bytes, no more than a text holds
abbrev pub ReadsText : Bool × List ℕ → Option Text → Type 0
ReadsText (false, bs) None = Unit {0}
ReadsText (false, bs) (Some t) = ⊥
ReadsText (true, bs) None = Printable bs → text_room < length bs
ReadsText (true, bs) (Some t) = Printable bs × (spelled t ≡ bs)
