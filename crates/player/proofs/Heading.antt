-- What line 1 of a script makes of its history.
use Rattle.std.proofs.Common.{◌≡◌, ℕ, ◌≤◌, Bool, true, false, List, [], ◌∷◌, ◌++◌, length, take, Some, None, Option, Ok, Err, Bor, Result, sym, refl, ap, ◌∙◌, subst, append-nil, arith}
use Rattle.std.proofs.lemmas.List.{length-take}
use Rattle.std.proofs.lemmas.Bool.{le-ltb}
use Rattle.std.specs.Option.{MatchOption, unwrap_or}
use Rattle.std.specs.Result.{result_and}
use Rattle.terms.specs.declared.Refusal.{Refusal}
use Rattle.script.specs.declared.header.Header.{Header}
use Rattle.script.specs.declared.header.CodingName.{CodingName}
use Rattle.script.specs.declared.header.CodingName.TheVariants.{Number, Text}
use Rattle.script.specs.declared.header.LatchName.{LatchName}
use Rattle.script.specs.declared.header.LatchName.TheVariants.{Optimistic, Coupling}
use Rattle.script.specs.declared.reply.Done.TheVariants.{Accepted}
use Rattle.script.specs.Header.{header_of}
use Rattle.index.specs.New.{new_state, new_state_new}
use Rattle.player.specs.Histories.{longest_script, lines_of, first_line, other_lines, printed, stopped, PlayedBy, Headed, History, WroteAll, PassedEnd, AddedAll, AddedPart}
use Rattle.player.proofs.Buffers.{Filled, Cut, filled_more, cut_more}

-- no line played yet
unplayed : (c : CodingName) (l : LatchName) (ls : List (List ℕ)) → PlayedBy c l ls [] false
unplayed Number Optimistic ls = record { start = new_state; new = new_state_new; plays = stopped }
unplayed Number Coupling ls = record { start = new_state; new = new_state_new; plays = stopped }
unplayed Text Optimistic ls = record { start = new_state; new = new_state_new; plays = stopped }
unplayed Text Coupling ls = record { start = new_state; new = new_state_new; plays = stopped }

-- the line that the first call of next gave, empty where it gave none, and the lines that it left
pub heads : (r : Option (Bor (List ℕ))) (d u : Bor (List ℕ)) (ls ms : List (List ℕ)) → u ≡ unwrap_or r d → d.now ≡ [] → MatchOption r ((ls ≡ []) × (ms ≡ [])) (λ x. ls ≡ x.now ∷ ms)
    → (u.now ≡ first_line ls) × (ms ≡ other_lines ls)
heads None d u ls ms is empty e = (ap (λ x. x.now) is ∙ empty ∙ sym (ap first_line e.0), e.1 ∙ sym (ap other_lines e.0))
heads (Some x) d u ls ms is empty e = (ap (λ x. x.now) is ∙ sym (ap first_line e), sym (ap other_lines e))

pub wrote_all : {script text out out' : List ℕ} {n : ℕ} → History script text true → Filled out 0 text out' n → WroteAll script out' n
wrote_all {text} h f = record { text = text; history = h; long = omega arith; kept = f.kept; room = f.room }

pub passed_end : {script text out out' : List ℕ} → History script text false → Cut out 0 text out' → PassedEnd script out'
passed_end {text} {out} {out'} h f =
    let same : length out' ≡ length out = ap length f.kept ∙ length-take (length out) text ∙ omega arith in
    record { text = text; history = h; past = omega arith; kept = f.kept ∙ ap (λ n. take n text) (sym same) }

module _ (s : List ℕ) (small : length s ≤ longest_script) where
  headed : (text : List ℕ) (whole : Bool) (r : Result Header Refusal) → r ≡ header_of (first_line (lines_of s)) → Headed (lines_of s) text whole r → History s text whole
  headed text whole r is t = rw (le-ltb longest_script (length s) small) (subst (Headed (lines_of s) text whole) is t)

  pub faulty : (whole : Bool) (x : Refusal) → Err x ≡ header_of (first_line (lines_of s)) → History s (printed 1 (Err x)) whole
  faulty whole x is = headed _ whole (Err x) is refl

  pub accepted : (h : Header) (rest : List ℕ) (whole : Bool) → Ok h ≡ header_of (first_line (lines_of s)) → PlayedBy h.coding h.latch (other_lines (lines_of s)) rest whole → History s (printed 1 (Ok Accepted) ++ rest) whole
  accepted h rest whole named p = headed _ whole (Ok h) named (record { rest = rest; text_is = refl; played = p })

  -- the reply to line 1, and no line played
  pub line_one : (r : Result Header Refusal) → r ≡ header_of (first_line (lines_of s)) → History s (printed 1 (result_and r (Ok Accepted))) false
  line_one (Ok h) named = rw (append-nil (printed 1 (Ok Accepted))) at (accepted h [] false named (unplayed h.coding h.latch _))
  line_one (Err x) is = faulty false x is

  -- the reply to an accepted line 1, and the other lines played behind it
  module _ (h : Header) (ms : List (List ℕ)) (named : Ok h ≡ header_of (first_line (lines_of s))) (others : ms ≡ other_lines (lines_of s)) where
    played : (text : List ℕ) (whole : Bool) → PlayedBy h.coding h.latch ms text whole → History s (printed 1 (Ok Accepted) ++ text) whole
    played text whole p = accepted h text whole named (subst (λ ls. PlayedBy h.coding h.latch ls text whole) others p)

    pub played_all : {out out₁ out₂ : List ℕ} {at₁ at₂ : ℕ} → Filled out 0 (printed 1 (Ok Accepted)) out₁ at₁ → AddedAll (PlayedBy h.coding h.latch ms) out₁ at₁ out₂ at₂ → WroteAll s out₂ at₂
    played_all f a = wrote_all (played a.text true a.plays) (filled_more f (record { long = a.long; kept = a.kept; room = a.room; same = a.same }))

    pub played_part : {out out₁ out₂ : List ℕ} {at₁ : ℕ} → Filled out 0 (printed 1 (Ok Accepted)) out₁ at₁ → AddedPart (PlayedBy h.coding h.latch ms) out₁ at₁ out₂ → PassedEnd s out₂
    played_part f a = passed_end (played a.text false a.plays) (cut_more f (record { past = a.past; kept = a.kept }))
