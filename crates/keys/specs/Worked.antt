-- Worked lines of the codings.
use Rattle.std.specs.Prelude.{◌≡◌, ℕ, ◌<◌, List, [], ◌∷◌, length, negsuc, Ok, Err, Result}
use Rattle.std.specs.List.{AllByRecursion}
use Rattle.terms.specs.declared.Refusal.{Refusal}
use Rattle.terms.specs.Numbers.{refusal_number}
use Rattle.keys.specs.Room.{Code}
use Rattle.keys.specs.declared.text.Text.{Text}
use Rattle.inline_bytes.specs.Held.{bytes_of}
use Rattle.keys.specs.Coding.{Coded}
use Rattle.keys.specs.Numbers.{Signed32, number_bytes}
use Rattle.keys.specs.Texts.{Accepted, spelled, text_bytes}

-- r is a code of just these bytes
abbrev pub Gives : Result Code Refusal → List ℕ → Type 0
Gives (Ok c) s = bytes_of c ≡ s
Gives (Err e) s = ⊥

abbrev pub Passes : Result Code Refusal → Type 0
Passes (Ok c) = Unit {0}
Passes (Err e) = ⊥

abbrev pub Refuses : Result Code Refusal → ℕ → Type 0
Refuses (Ok c) n = ⊥
Refuses (Err e) n = refusal_number e ≡ n

-- what any coder that keeps its promise answers
pub record WorkedKeys : Type 0 where
  -- -1
  pub minus_one : (r : Result Code Refusal) → Coded Signed32 number_bytes (negsuc 0) r → Gives r (0x7F ∷ 0xFF ∷ 0xFF ∷ 0xFF ∷ [])
  -- the empty text, and "a"
  pub empty : (t : Text) (r : Result Code Refusal) → spelled t ≡ [] → Coded Accepted text_bytes t r → Gives r (0x00 ∷ [])
  pub one : (t : Text) (r : Result Code Refusal) → spelled t ≡ 0x61 ∷ [] → Coded Accepted text_bytes t r → Gives r (0x61 ∷ 0x00 ∷ [])
  -- fifteen bytes, and sixteen
  pub fifteen : (t : Text) (r : Result Code Refusal) → length (spelled t) ≡ 15 → AllByRecursion (λ b. 0 < b) (spelled t) → Coded Accepted text_bytes t r → Passes r
  pub sixteen : (t : Text) (r : Result Code Refusal) → length (spelled t) ≡ 16 → Coded Accepted text_bytes t r → Refuses r 6
