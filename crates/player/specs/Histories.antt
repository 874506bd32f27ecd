-- The history of a script: its lines played one by one on a just made index.
use Rattle.std.specs.Prelude.{◌≡◌, ℕ, ◌+◌, ◌<◌, ◌≤◌, Bool, true, false, cond, List, [], ◌∷◌, ◌++◌, length, take, Ok, Err, Result, ◌==◌, nat_lt}
use Rattle.latches.specs.Layout.{packed_face}
use Rattle.terms.specs.Numbers.{refusal_number}
use Rattle.terms.specs.declared.Refusal.{Refusal}
use Rattle.terms.specs.declared.Refusal.TheVariants.{ScriptLength}
use Rattle.keys.specs.Numbers.{Signed32, number_bytes}
use Rattle.keys.specs.Texts.{Accepted as AcceptedText, text_bytes}
use Rattle.script.specs.declared.header.Header.{Header}
use Rattle.script.specs.declared.header.CodingName.{CodingName}
use Rattle.script.specs.declared.header.CodingName.TheVariants.{Number, Text}
use Rattle.script.specs.declared.header.LatchName.{LatchName}
use Rattle.script.specs.declared.header.LatchName.TheVariants.{Optimistic, Coupling}
use Rattle.script.specs.declared.reply.Done.TheVariants.{Accepted}
use Rattle.script.specs.Header.{header_of}
use Rattle.script.specs.Replies.{Reply, line_of}
use Rattle.script.specs.Written.{ended}
use Rattle.index.specs.Calls.{State, NewIndex}
use Rattle.player.specs.Keys.{ReadsNumber, ReadsText}
use Rattle.player.specs.Lines.{Replied}

-- the most bytes of a script
abbrev pub longest_script : ℕ
longest_script = 32768

abbrev pub before : ℕ → List (List ℕ) → List (List ℕ)
before b [] = (b ∷ []) ∷ []
before b (l ∷ ls) = (b ∷ l) ∷ ls

-- the lines of a script, parted by 0A; a final 0A starts no line
abbrev pub lines_of : List ℕ → List (List ℕ)
lines_of [] = []
lines_of (b ∷ bs) = cond (b == 0x0A) ([] ∷ lines_of bs) (before b (lines_of bs))

-- line 1, empty where there is none, and the lines behind it
abbrev pub first_line : List (List ℕ) → List ℕ
first_line [] = []
first_line (l ∷ ls) = l

abbrev pub other_lines : List (List ℕ) → List (List ℕ)
other_lines [] = []
other_lines (l ∷ ls) = ls

-- the output line of a reply, with its end
abbrev pub printed : ℕ → Reply → List ℕ
printed n r = ended (line_of n r)

-- Lines played one by one from a state on, the first of them having this number, and what is printed of them:
-- of all lines, or of some first ones.
pub data Plays (R : List ℕ → State → State → Reply → Type 0) : State → ℕ → List (List ℕ) → List ℕ → Bool → Type 0 where
  done : {σ : State} {n : ℕ} → Plays R σ n [] [] true
  stopped : {σ : State} {n : ℕ} {ls : List (List ℕ)} → Plays R σ n ls [] false
  goes : {σ τ : State} {n : ℕ} {l : List ℕ} {ls : List (List ℕ)} {r : Reply} {text : List ℕ} {whole : Bool}
      → R l σ τ r → Plays R τ (n + 1) ls text whole → Plays R σ n (l ∷ ls) (printed n r ++ text) whole

-- on a just made index, behind line 1
pub record FromNew (R : List ℕ → State → State → Reply → Type 0) (ls : List (List ℕ)) (text : List ℕ) (whole : Bool) : Type 0 where
  pub start : State
  pub new : NewIndex start
  pub plays : Plays R start 2 ls text whole

-- by the coding and the latch that line 1 names
abbrev pub PlayedBy : CodingName → LatchName → List (List ℕ) → List ℕ → Bool → Type 0
PlayedBy Number Optimistic ls text whole = FromNew (Replied (packed_face 0 1) Signed32 number_bytes ReadsNumber) ls text whole
PlayedBy Number Coupling ls text whole = FromNew (Replied (packed_face 1 512) Signed32 number_bytes ReadsNumber) ls text whole
PlayedBy Text Optimistic ls text whole = FromNew (Replied (packed_face 0 1) AcceptedText text_bytes ReadsText) ls text whole
PlayedBy Text Coupling ls text whole = FromNew (Replied (packed_face 1 512) AcceptedText text_bytes ReadsText) ls text whole

-- behind an accepted line 1
pub record Behind (h : Header) (ls : List (List ℕ)) (text : List ℕ) (whole : Bool) : Type 0 where
  pub rest : List ℕ
  pub text_is : text ≡ printed 1 (Ok Accepted) ++ rest
  pub played : PlayedBy h.coding h.latch ls rest whole

abbrev pub Headed : List (List ℕ) → List ℕ → Bool → Result Header Refusal → Type 0
Headed ls text whole (Err e) = text ≡ printed 1 (Err e)
Headed ls text whole (Ok h) = Behind h (other_lines ls) text whole

abbrev pub Sized : List ℕ → List ℕ → Bool → Bool → Type 0
Sized s text whole true = text ≡ printed 1 (Err ScriptLength)
Sized s text whole false = Headed (lines_of s) text whole (header_of (first_line (lines_of s)))

-- The text is the history of the script, or of some first lines of it. A script that is too long, and one whose line 1
-- is faulty or missing, has one output line.
abbrev pub History : List ℕ → List ℕ → Bool → Type 0
History s text whole = Sized s text whole (nat_lt longest_script (length s))

-- the whole history stands at the buffer's beginning
pub record WroteAll (script out : List ℕ) (n : ℕ) : Type 0 where
  pub text : List ℕ
  pub history : History script text true
  pub long : n ≡ length text
  pub kept : take n out ≡ text
  pub room : n ≤ length out

-- the history passes the buffer's end: as much of it as fits is there
pub record PassedEnd (script out : List ℕ) : Type 0 where
  pub text : List ℕ
  pub history : History script text false
  pub past : length out < length text
  pub kept : out ≡ take (length out) text

abbrev pub Wrote : List ℕ → List ℕ → Result ℕ Refusal → Type 0
Wrote script out (Ok n) = WroteAll script out n
Wrote script out (Err e) = (refusal_number e ≡ 8) × PassedEnd script out

-- text was added behind what the buffer held up to a place; or it passes the end, and as much of it as fits is there
pub record AddedAll (P : List ℕ → Bool → Type 0) (out : List ℕ) (at : ℕ) (out' : List ℕ) (at' : ℕ) : Type 0 where
  pub text : List ℕ
  pub plays : P text true
  pub long : at' ≡ at + length text
  pub kept : take at' out' ≡ take at out ++ text
  pub room : at' ≤ length out'
  pub same : length out' ≡ length out

pub record AddedPart (P : List ℕ → Bool → Type 0) (out : List ℕ) (at : ℕ) (out' : List ℕ) : Type 0 where
  pub text : List ℕ
  pub plays : P text false
  pub past : length out < at + length text
  pub kept : out' ≡ take (length out) (take at out ++ text)

abbrev pub AddedTo : (List ℕ → Bool → Type 0) → List ℕ → ℕ → List ℕ → ℕ → Result (Unit {0}) Refusal → Type 0
AddedTo P out at out' at' (Ok _) = AddedAll P out at out' at'
AddedTo P out at out' at' (Err e) = (refusal_number e ≡ 8) × AddedPart P out at out'

abbrev pub Added : (List ℕ → State → State → Reply → Type 0) → List (List ℕ) → List ℕ → ℕ → List ℕ → ℕ → Result (Unit {0}) Refusal → Type 0
Added R ls out at out' at' r = AddedTo (FromNew R ls) out at out' at' r

abbrev pub AddedBy : CodingName → LatchName → List (List ℕ) → List ℕ → ℕ → List ℕ → ℕ → Result (Unit {0}) Refusal → Type 0
AddedBy c l ls out at out' at' r = AddedTo (PlayedBy c l ls) out at out' at' r
