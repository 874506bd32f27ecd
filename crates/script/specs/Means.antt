-- What the reader's types mean, without their references.
use Rattle.std.specs.Prelude.{ℕ, Bool, true, false, List, Ok, Err, Option, Result}
use Rattle.std.specs.Option.{option_map}
use Rattle.terms.specs.declared.Refusal.{Refusal}
use Rattle.script.specs.declared.word.Word.{Word}
use Rattle.script.specs.declared.word.Word.TheVariants.{Number, Text}
use Rattle.script.specs.declared.grammar.Seated.{Seated}
use Rattle.script.specs.declared.call.Call.{Call}
use Rattle.script.specs.declared.call.Call.TheVariants.{Open, Close, Find, Add, Step, Sweep}

-- a word: whether it is a text, and its bytes
abbrev pub word_meant : Word → Bool × List ℕ
word_meant (Number x) = (false, x.now)
word_meant (Text x) = (true, x.now)

abbrev pub seat_meant : Seated → ℕ × Option (List ℕ)
seat_meant s = (s.seat, option_map (λ x. x.now) s.rest)

-- a call, by seat, key and value
pub data Meant : Type 0 where
  opens : ℕ → Meant
  closes : ℕ → Meant
  finds : ℕ → Bool × List ℕ → Meant
  adds : ℕ → Bool × List ℕ → ℕ → Meant
  steps : ℕ → Meant
  sweeps : Meant

abbrev pub call_meant : Call → Meant
call_meant (Open s) = opens s
call_meant (Close s) = closes s
call_meant (Find s w) = finds s (word_meant w)
call_meant (Add s w v) = adds s (word_meant w) v
call_meant (Step s) = steps s
call_meant Sweep = sweeps

-- what was read
abbrev pub read : Result Call Refusal → Result Meant Refusal
read (Ok c) = Ok (call_meant c)
read (Err e) = Err e
