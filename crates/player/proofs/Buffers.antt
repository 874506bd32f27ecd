-- Text added to a lent buffer, piece by piece.
use Rattle.std.proofs.Common.{◌≡◌, ℕ, ◌+◌, ◌-◌, ◌<◌, ◌≤◌, Bool, true, false, List, [], ◌++◌, length, take, drop, Ok, Err, Result, sym, refl, ap, ◌∙◌, append_assoc, append-nil, arith, rules}
use Rattle.std.proofs.lemmas.List.{length-append, length-take, length-take-le, length-drop, take_at, take_all, places, same_lists}
use Rattle.std.proofs.lemmas.Bool.{cond-true, leb-true, leb-false}
use Rattle.terms.specs.declared.Refusal.{Refusal}
use Rattle.terms.specs.declared.Refusal.TheVariants.{BufferEnd}
use Rattle.terms.specs.Numbers.{refusal_number}
use Rattle.script.specs.Written.{written, fits, place_after, wrote}

-- what writing a line at the place came to
abbrev pub Put : List ℕ → ℕ → List ℕ → List ℕ → ℕ → Result (Unit {0}) Refusal → Type 0
Put out at line out' at' r =
    record {
      value : r ≡ wrote (fits out at line);
      place : at' ≡ place_after out at line;
      bytes : out' ≡ written out at line;
    }

-- the text stands behind what the buffer held up to the place
pub record Filled (out : List ℕ) (at : ℕ) (text out' : List ℕ) (at' : ℕ) : Type 0 where
  pub long : at' ≡ at + length text
  pub kept : take at' out' ≡ take at out ++ text
  pub room : at' ≤ length out'
  pub same : length out' ≡ length out

-- the text passes the end, and as much of it as fits is there
pub record Cut (out : List ℕ) (at : ℕ) (text out' : List ℕ) : Type 0 where
  pub past : length out < at + length text
  pub kept : out' ≡ take (length out) (take at out ++ text)

unfit : (b : Bool) (x : Refusal) → ◌≡◌ {A = Result (Unit {0}) Refusal} (Err x) (wrote b) → (b ≡ false) × (refusal_number x ≡ 8)
unfit true x e = let z : ◌≡◌ {A = ℕ} 0 1 = cc in absurd (omega arith)
unfit false x e = let same : x ≡ BufferEnd = cc in (refl, ap refusal_number same)

fit : (b : Bool) → ◌≡◌ {A = Result (Unit {0}) Refusal} (Ok tt) (wrote b) → b ≡ true
fit true e = refl
fit false e = let z : ◌≡◌ {A = ℕ} 0 1 = cc in absurd (omega arith)

length_written : (out line : List ℕ) (at : ℕ) → at ≤ length out → length (written out at line) ≡ length out
length_written out line at h = simp (length-append, length-take, length-drop) (omega arith)

pub filled_none : (out : List ℕ) (at : ℕ) → at ≤ length out → Filled out at [] out at
filled_none out at h = record { long = omega arith; kept = sym (append-nil (take at out)); room = h; same = refl }

pub filled_put : (out : List ℕ) (at : ℕ) (line out' : List ℕ) (at' : ℕ) → Put out at line out' at' (Ok tt) → Filled out at line out' at'
filled_put out at line out' at' put =
    let fitted : fits out at line ≡ true = fit (fits out at line) put.value in
    let h : at + length line ≤ length out = leb-true _ _ fitted in
    let long : at' ≡ at + length line = put.place ∙ cond-true _ _ _ fitted in
    let same : length out' ≡ length out = ap length put.bytes ∙ length_written out line at (omega arith) in
    let whole : take (length out - at) line ≡ line = take_all _ line (omega arith) in
    let front : length (take at out ++ line) ≡ at' = length-append (take at out) line ∙ omega (arith, length-take-le at out (omega arith)) in
    let parts : written out at line ≡ (take at out ++ line) ++ drop (at + length line) out = rw whole (sym (append_assoc (take at out) line _)) in
    record {
      long = long;
      kept = ap (take at') (put.bytes ∙ parts) ∙ take_at (take at out ++ line) _ at' front;
      room = omega arith;
      same = same;
    }

pub filled_more : {out a out₁ b out₂ : List ℕ} {at at₁ at₂ : ℕ} → Filled out at a out₁ at₁ → Filled out₁ at₁ b out₂ at₂ → Filled out at (a ++ b) out₂ at₂
filled_more {out} {a} {out₁} {b} {out₂} {at} {at₁} {at₂} f g =
    record {
      long = omega (arith, length-append a b);
      kept = g.kept ∙ ap (λ l. l ++ b) f.kept ∙ append_assoc (take at out) a b;
      room = g.room;
      same = g.same ∙ f.same;
    }

pub cut_put : (out : List ℕ) (at : ℕ) (line out' : List ℕ) (at' : ℕ) (x : Refusal) → at ≤ length out → Put out at line out' at' (Err x) → (refusal_number x ≡ 8) × Cut out at line out'
cut_put out at line out' at' x h put =
    let no = unfit (fits out at line) x put.value in
    let over : length out < at + length line = leb-false _ _ no.0 in
    let cut : written out at line ≡ take (length out) (take at out ++ line) = same_lists _ _ (search (rules, places)) (λ k d h. grind (arith, places)) in
    (no.1, record { past = over; kept = put.bytes ∙ cut })

pub cut_more : {out a out₁ b out₂ : List ℕ} {at at₁ : ℕ} → Filled out at a out₁ at₁ → Cut out₁ at₁ b out₂ → Cut out at (a ++ b) out₂
cut_more {out} {a} {out₁} {b} {out₂} {at} {at₁} f g =
    record {
      past = omega (arith, length-append a b);
      kept = g.kept ∙ ap (λ n. take n (take at₁ out₁ ++ b)) f.same ∙ ap (take (length out)) (ap (λ l. l ++ b) f.kept ∙ append_assoc (take at out) a b);
    }
