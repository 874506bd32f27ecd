use Rattle.std.proofs.Common.{◌≡◌, ◌≢◌, ◌+◌, ◌∷◌, length, ◌-◌, take, drop, ap, ◌∙◌, add-one, arith, rules}
use Rattle.std.proofs.lemmas.Iterator.{YieldsList-from_slice, IsFirst-from_position}
use Rattle.std.proofs.lemmas.List.{take_rest}
use Rattle.std.proofs.lemmas.Bool.Decides.{nat_tests}
use Rattle.player.specs.Histories.{lines_of}
use Rattle.player.proofs.ScriptLines.{line_off, last_line}
use Rattle.player.proofs.lines.LinesIterator.next.Goals as goal

pub returns-in-Some : goal.returns-in-Some
returns-in-Some c =
    let s = c.args.self.now.rest.now in
    let n = c.in-Some.end in
    let first = IsFirst-from_position _ _ _ (λ b. b ≡ 0x0A) (λ b. b ≢ 0x0A) c.in-Some.ensures.ran (YieldsList-from_slice s cc) (λ x q k. search rules) (λ x q k. search rules) in
    let off = line_off s n first.0 (first.1 0) (λ k l. first.2 k 0 (omega arith) l) in
    let rest = take_rest s (n + 1) ∙ ap (λ k. drop k s) (add-one n) in
    let steps : lines_of s ≡ take n s ∷ lines_of (take (length s - (n + 1)) (drop (n + 1) s)) = rw rest off in
    let fewer = ap length steps in
    record { steps = steps; goes = search (rules, nat_tests) }

pub returns-in-None-clause-steps : goal.returns-in-None-clause-steps
returns-in-None-clause-steps c =
    let s = c.args.self.now.rest.now in
    let none = IsFirst-from_position _ _ _ (λ b. b ≡ 0x0A) (λ b. b ≢ 0x0A) c.in-None.ensures.ran (YieldsList-from_slice s cc) (λ x q k. search rules) (λ x q k. search rules) in
    last_line s (grind (arith, nat_tests)) (λ k l. none k 0 (omega arith) l)
