use Rattle.std.proofs.Common.{◌≡◌, ◌≢◌, ◌+◌, drop, Some, ap, ◌∙◌, add-one, arith, rules}
use Rattle.std.proofs.lemmas.Iterator.{YieldsList-from_slice, IsFirst-from_position}
use Rattle.std.proofs.lemmas.List.{take_rest}
use Rattle.script.proofs.WordSteps.{at_space, no_space}
use Rattle.script.proofs.word.split_word.Goals as goal

pub returns-in-Some : goal.returns-in-Some
returns-in-Some c =
    let line = c.args.line.now in
    let first = IsFirst-from_position _ _ _ (λ b. b ≡ 0x20) (λ b. b ≢ 0x20) c.in-Some.ensures.ran (YieldsList-from_slice line cc) (λ x q k. search rules) (λ x q k. search rules) in
    let words = at_space line c.in-Some.end first.0 (first.1 0) (λ k l. first.2 k 0 (omega arith) l) in
    record { word = words.0; rest = ap Some (take_rest line (c.in-Some.end + 1) ∙ ap (λ n. drop n line) (add-one _)) ∙ words.1 }

pub returns-in-None : goal.returns-in-None
returns-in-None c =
    let line = c.args.line.now in
    let none = IsFirst-from_position _ _ _ (λ b. b ≡ 0x20) (λ b. b ≢ 0x20) c.in-None.ensures.ran (YieldsList-from_slice line cc) (λ x q k. search rules) (λ x q k. search rules) in
    let words = no_space line (λ k l. none k 0 (omega arith) l) in
    record { word = words.0; rest = words.1 }
