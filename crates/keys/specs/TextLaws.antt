use Rattle.std.specs.Prelude.{◌≡◌, ℕ, ◌<◌, Bool, true, false, not, List, [], ◌∷◌, ◌++◌, length, Decides, ◌≢◌, slice_index, refl}
use Rattle.std.proofs.Common.{ap, ◌∙◌, inl, inr, arith}
use Rattle.std.specs.List.{ContainsAt as Has, AllByRecursion}
use Rattle.std.proofs.ByRecursion.{all-has, All-from_get_or}
use Rattle.std.proofs.lemmas.List.{same_from_push, length_push, get_or_default}
use Rattle.std.proofs.lemmas.Bool.{false≢true}
use Rattle.inline_bytes.specs.Same.{same_bytes}
use Rattle.keys.specs.Bytes.{First}
use Rattle.keys.specs.Laws.{Lawful}
use Rattle.keys.specs.Room.{longest_key}
use Rattle.keys.specs.Texts.{Accepted, Earlier, Plain, spelled, text_bytes}
use Rattle.keys.specs.declared.text.Text.{Text}

-- no byte is 00
abbrev Filled : List ℕ → Type 0
Filled = AllByRecursion (λ b. 0 < b)

-- an end of 00 keeps the order
first_ended : (s t : List ℕ) → Filled s → Filled t → First s t → First (s ++ 0 ∷ []) (t ++ 0 ∷ [])
first_ended [] [] h k f = absurd f
first_ended [] (y ∷ t) h k f = inl k.0
first_ended (x ∷ s) [] h k f = absurd f
first_ended (x ∷ s) (y ∷ t) h k (inl l) = inl l
first_ended (x ∷ s) (y ∷ t) h k (inr (e, f)) = inr (e, first_ended s t h.1 k.1 f)

ended_first : (s t : List ℕ) → Filled s → Filled t → First (s ++ 0 ∷ []) (t ++ 0 ∷ []) → First s t
ended_first [] [] h k (inl l) = absurd (omega arith)
ended_first [] [] h k (inr (e, f)) = absurd f
ended_first [] (y ∷ t) h k f = tt
ended_first (x ∷ s) [] h k (inl l) = absurd (omega arith)
ended_first (x ∷ s) [] h k (inr (e, f)) = absurd (omega (arith, h.0))
ended_first (x ∷ s) (y ∷ t) h k (inl l) = inl l
ended_first (x ∷ s) (y ∷ t) h k (inr (e, f)) = inr (e, ended_first s t h.1 k.1 f)

-- no ended text begins another
ended_apart : (s t u : List ℕ) → Filled s → Filled t → t ++ 0 ∷ [] ≡ (s ++ 0 ∷ []) ++ u → s ≡ t
ended_apart [] [] u h k e = refl
ended_apart [] (y ∷ t) u h k e = let z : y ≡ 0 = cc in absurd (omega (arith, k.0))
ended_apart (x ∷ s) [] u h k e = let z : x ≡ 0 = cc in absurd (omega (arith, h.0))
ended_apart (x ∷ s) (y ∷ t) u h k e =
    let p : t ++ 0 ∷ [] ≡ (s ++ 0 ∷ []) ++ u = cc in
    let q : s ≡ t = ended_apart s t u h.1 k.1 p in
    let r : x ≡ y = cc in
    cc

-- a text is its bytes
same_text : (a b : Text) → spelled a ≡ spelled b → a ≡ b
same_text a b e = ap (λ s. record { bytes = s }) (same_bytes a.bytes b.bytes e)

pub text_lawful : Lawful Accepted Earlier text_bytes longest_key
text_lawful = record {
  same = λ a b h k e. same_text a b (same_from_push (spelled a) (spelled b) 0 0 e).0;
  first = λ a b h k f. first_ended (spelled a) (spelled b) h.1 k.1 f;
  comes = λ a b h k f. ended_first (spelled a) (spelled b) h.1 k.1 f;
  apart = λ a b h k p. same_text a b (ended_apart (spelled a) (spelled b) p.0 h.1 k.1 p.1);
  some = λ a h. simp length_push (omega arith);
  most = λ a h. omega (arith, length_push (spelled a) 0, h.0);
  room = omega arith;
}

absent : (s : List ℕ) → Filled s → Has s 0 → ⊥
absent s h p = let l : 0 < 0 = all-has (λ b. 0 < b) s 0 h p in omega arith

positive : (n : ℕ) → (n ≢ 0) → 0 < n
positive n h = omega arith

-- what `contains` answers at 00
pub plain_from : (s : List ℕ) (r : Bool) → length s < longest_key → Decides r (Has s 0) → Decides (not r) (Plain s)
plain_from s true l d = (λ e. absurd (false≢true e), λ h. absurd (absent s h.1 (d.0 refl)))
plain_from s false l d =
    (λ _. (l, All-from_get_or (λ b. 0 < b) s 0 (λ i h. positive (slice_index s i) (λ z. false≢true (d.1 (i, h, λ e. get_or_default s i e 0 h ∙ z))))), λ _. refl)
