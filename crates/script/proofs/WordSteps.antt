-- Where the first space ends the first word.
use Rattle.std.proofs.Common.{◌≡◌, ◌≢◌, ℕ, zero, suc, ◌<◌, List, [], ◌∷◌, length, take, drop, get_or, Some, None, refl, ap, ◌∙◌, sym, arith}
use Rattle.std.proofs.lemmas.Bool.{cond-true, cond-false, eq-eqb, ne_eqb}
use Rattle.script.specs.Words.{first_word, after_word}

pub at_space : (line : List ℕ) (i : ℕ) → i < length line → get_or line i 0 ≡ 0x20 → ((k : ℕ) → k < i → get_or line k 0 ≢ 0x20) → (take i line ≡ first_word line) × (Some (drop (suc i) line) ≡ after_word line)
at_space [] i h e others = absurd (omega (arith, h))
at_space (b ∷ bs) zero h e others = (sym (cond-true _ _ _ (eq-eqb b 0x20 e)), sym (cond-true _ _ _ (eq-eqb b 0x20 e)))
at_space (b ∷ bs) (suc i) h e others =
    let more = at_space bs i (omega arith) e (λ k l. others (suc k) (omega arith)) in
    let other = ne_eqb b 0x20 (others 0 (omega arith)) in
    (ap (λ w. b ∷ w) more.0 ∙ sym (cond-false _ _ _ other), more.1 ∙ sym (cond-false _ _ _ other))

pub no_space : (line : List ℕ) → ((k : ℕ) → k < length line → get_or line k 0 ≢ 0x20) → (line ≡ first_word line) × (None ≡ after_word line)
no_space [] others = (refl, refl)
no_space (b ∷ bs) others =
    let more = no_space bs (λ k l. others (suc k) (omega arith)) in
    let other = ne_eqb b 0x20 (others 0 (omega arith)) in
    (ap (λ w. b ∷ w) more.0 ∙ sym (cond-false _ _ _ other), more.1 ∙ sym (cond-false _ _ _ other))
