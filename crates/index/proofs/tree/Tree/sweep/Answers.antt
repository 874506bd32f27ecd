use Rattle.std.proofs.Common.{◌+◌, ◌<◌, ◌≤◌, Bool, cond, [], ◌∷◌, ◌++◌, length, get_or, take, drop, ap, ◌∙◌, arith}
use mir.Val.{bool_byte}
use Rattle.std.proofs.lemmas.List.{take_all, drop_all}
use Rattle.pools.proofs.Around.{length_contents}
use Rattle.index.specs.Sweeps.{older, freed_by, kept_by}
use Rattle.index.specs.Kept.{no_record}
use Rattle.index.specs.Trees.{spare_of, retired_of}
use Rattle.index.proofs.Sweeping.{first_left, kept_more, spare_more, count_more, one_or_none}
use Rattle.index.proofs.tree.Tree.sweep.Goals as goal

pub loop-i-preserved : goal.loop-i-preserved
loop-i-preserved c =
    let s = c.args.self.now in
    let R = retired_of s in
    let p = older c.args.seats.now in
    let i = c.loop-i._i in
    let x = get_or R i no_record in
    let inv = c.loop-i.invariant in
    let h : i < length R = omega (arith, length_contents s.records s.retired s.ready.1, c.len-n.ensures, c.loop-i-test.true) in
    let one = c.sweep_one.ensures x (drop (i + 1) R ++ kept_by p (take i R)) (inv.0 ∙ first_left p R i no_record h) in
    let b = c.sweep_one.result in (
      one.retired ∙ ap (λ (t : Bool). (drop (i + 1) R ++ kept_by p (take i R)) ++ cond t [] (x ∷ [])) one.turns ∙ kept_more p R i no_record h,
      one.spare ∙ ap (λ ys. ys ++ cond b (x.slot ∷ []) []) inv.1 ∙ ap (λ (t : Bool). (spare_of s ++ freed_by p (take i R)) ++ cond t (x.slot ∷ []) []) one.turns ∙ spare_more p R i no_record h (spare_of s),
      ap (λ n. c.loop-i.count + n) c.from-count.ensures ∙ ap (λ n. n + bool_byte b) inv.2 ∙ ap (λ (t : Bool). length (freed_by p (take i R)) + bool_byte t) one.turns ∙ count_more p R i no_record h,
      omega (arith, inv.3, one_or_none b, c.from-count.ensures),
      one.epoch ∙ inv.4,
      record { children = one.rest.children ∙ inv.5.children; word = one.rest.word ∙ inv.5.word; leaves = one.rest.leaves ∙ inv.5.leaves },
    )

pub returns : goal.returns
returns c =
    let s = c.args.self.now in
    let R = retired_of s in
    let p = older c.args.seats.now in
    let i = c.loop-i._i in
    let inv = c.loop-i.invariant in
    let h : length R ≤ i = omega (arith, length_contents s.records s.retired s.ready.1, c.len-n.ensures, c.loop-i-test.false) in
    let all = take_all i R h in
    record {
      epoch = inv.4;
      spare = inv.1 ∙ ap (λ rs. spare_of s ++ freed_by p rs) all;
      retired = inv.0 ∙ ap (λ rs. rs ++ kept_by p (take i R)) (drop_all i R h) ∙ ap (kept_by p) all;
      count = inv.2 ∙ ap (λ rs. length (freed_by p rs)) all;
      rest = record { children = inv.5.children; word = inv.5.word; leaves = inv.5.leaves };
    }
