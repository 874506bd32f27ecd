use Rattle.std.specs.Prelude.{◌≡◌, ℕ, Bool, ◌&&◌, nat_eq, Decides, ◌-◌, ◌++◌, length, take, drop, replicate}
use Rattle.std.proofs.Common.{sym, ap, ap₂, ◌∙◌, arith, length-take, take-append-drop}
use Rattle.std.specs.Str.{bytes_eq}
use Rattle.std.proofs.lemmas.Slice.Eq.{bytes_eq-Decides}
use Rattle.std.proofs.lemmas.Bool.Decides.{Decides-eqb}
use Rattle.std.proofs.lemmas.Bool.{and_parts, and_from}
use denote.Param.{param, number}
use Rattle.inline_bytes.specs.Held.{bytes_of}
use Rattle.inline_bytes.specs.declared.inline_bytes.InlineBytes.{InlineBytes}
use Rattle.inline_bytes.specs.contracts.inline_bytes.InlineBytes as row

length_held : {N : ℕ} (s : InlineBytes N) → length (bytes_of s) ≡ s.len
length_held s = simp length-take (omega (arith, s.fits, s.whole))

same_fields : {N : ℕ} (a b : InlineBytes N) → a.bytes ≡ b.bytes → a.len ≡ b.len → a ≡ b
same_fields {N} a b p q = (row.the_row (param 0 (number N))).coded.inj a b (cc)

-- a short string is its bytes
pub same_bytes : {N : ℕ} (a b : InlineBytes N) → bytes_of a ≡ bytes_of b → a ≡ b
same_bytes {N} a b e =
    let n : a.len ≡ b.len = sym (length_held a) ∙ ap length e ∙ length_held b in
    let d : drop a.len a.bytes ≡ drop b.len b.bytes = a.clear ∙ ap (λ k. replicate (N - k) 0) n ∙ sym b.clear in
    same_fields a b (sym (take-append-drop a.len a.bytes) ∙ ap₂ ◌++◌ e d ∙ take-append-drop b.len b.bytes) n

-- what `==` answers
pub eq_decides : {N : ℕ} (a b : InlineBytes N) (r : Bool) → r ≡ (bytes_eq a.bytes b.bytes && nat_eq a.len b.len) → Decides r (bytes_of a ≡ bytes_of b)
eq_decides a b r e = (
  λ t.
      let p = and_parts (bytes_eq a.bytes b.bytes) (nat_eq a.len b.len) (sym e ∙ t) in
      let q : a.bytes ≡ b.bytes = (bytes_eq-Decides a.bytes b.bytes).0 p.0 in
      let l : a.len ≡ b.len = (Decides-eqb a.len b.len).0 p.1 in
      ap₂ take l q,
  λ h.
      let s = same_bytes a b h in
      e ∙ and_from _ _ ((bytes_eq-Decides a.bytes b.bytes).1 (ap (λ x. x.bytes) s)) ((Decides-eqb a.len b.len).1 (ap (λ x. x.len) s)),
)
