-- The lines of a script, cut off one by one.
use Rattle.std.proofs.Common.{◌≡◌, ◌≢◌, ℕ, zero, suc, true, false, cond, ◌==◌, ◌<◌, ◌≤◌, List, [], ◌∷◌, length, get_or, take, drop, ap, ◌∙◌, arith}
use Rattle.std.proofs.lemmas.Bool.{cond-true, cond-false, eq-eqb, ne_eqb}
use Rattle.player.specs.Histories.{before, lines_of, other_lines}

-- a line that ends at the first 0A
pub line_off : (s : List ℕ) (n : ℕ) → n < length s → get_or s n 0 ≡ 0x0A → ((k : ℕ) → k < n → get_or s k 0 ≢ 0x0A) → lines_of s ≡ take n s ∷ lines_of (drop (suc n) s)
line_off [] n h e others = absurd (omega (arith, h))
line_off (b ∷ s) zero h e others = cond-true _ _ _ (eq-eqb b 0x0A e)
line_off (b ∷ s) (suc n) h e others =
    cond-false _ _ _ (ne_eqb b 0x0A (others 0 (omega arith))) ∙ ap (before b) (line_off s n (omega arith) e (λ k l. others (suc k) (omega arith)))

-- a last line without 0A
pub last_line : (s : List ℕ) → 0 < length s → ((k : ℕ) → k < length s → get_or s k 0 ≢ 0x0A) → lines_of s ≡ s ∷ []
last_line [] h others = absurd (omega (arith, h))
last_line (b ∷ []) h others = cond-false _ _ _ (ne_eqb b 0x0A (others 0 (omega arith)))
last_line (b ∷ c ∷ s) h others =
    cond-false _ _ _ (ne_eqb b 0x0A (others 0 (omega arith))) ∙ ap (before b) (last_line (c ∷ s) (omega arith) (λ k l. others (suc k) (omega arith)))

before_few : (b : ℕ) (ls : List (List ℕ)) (n : ℕ) → length ls ≤ n → length (before b ls) ≤ suc n
before_few b [] n h = omega arith
before_few b (l ∷ ls) n h = omega (arith, h)

-- no more lines than bytes
pub few_lines : (s : List ℕ) → length (lines_of s) ≤ length s
few_lines [] = omega arith
few_lines (b ∷ s) = let few = few_lines s in
    elim (b == 0x0A) as (λ t. length (cond t ([] ∷ lines_of s) (before b (lines_of s))) ≤ suc (length s)) [ true ↦ omega arith | false ↦ before_few b (lines_of s) (length s) few ]

fewer : (ls : List (List ℕ)) → length (other_lines ls) ≤ length ls
fewer [] = omega arith
fewer (l ∷ ls) = omega arith

pub few_others : (s : List ℕ) → length (other_lines (lines_of s)) ≤ length s
few_others s = omega (arith, fewer (lines_of s), few_lines s)
