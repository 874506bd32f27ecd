use Rattle.std.specs.Prelude.{◌≡◌, ℕ, ◌<◌, List, [], ◌∷◌, ◌++◌, length, Ok, Err, Result}
use Rattle.std.specs.List.{AllByRecursion}
use Rattle.terms.specs.declared.Refusal.{Refusal}
use Rattle.terms.specs.Numbers.{refusal_number}
use Rattle.inline_bytes.specs.Held.{bytes_of}
use Rattle.keys.specs.Bytes.{First}
use Rattle.keys.specs.Room.{longest_key, text_room}
use Rattle.keys.specs.declared.text.Text.{Text}

-- the bytes of a text
abbrev pub spelled : Text → List ℕ
spelled t = bytes_of t.bytes

-- the text of these bytes, or refusal 6 where they are more than a text holds
abbrev pub Made : List ℕ → Result Text Refusal → Type 0
Made s (Ok t) = spelled t ≡ s
Made s (Err e) = (refusal_number e ≡ 6) × (text_room < length s)

-- bytes with room for an end behind them, none of them 00
abbrev pub Plain : List ℕ → Type 0
Plain s = (length s < longest_key) × AllByRecursion (λ b. 0 < b) s

abbrev pub Accepted : Text → Type 0
Accepted t = Plain (spelled t)

-- byte order, a beginning before its longer text
abbrev pub Earlier : Text → Text → Type 0
Earlier a b = First (spelled a) (spelled b)

-- the text and then 00
abbrev pub text_bytes : Text → List ℕ
text_bytes t = spelled t ++ 0 ∷ []
