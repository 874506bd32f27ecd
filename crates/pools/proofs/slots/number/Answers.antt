use Rattle.std.proofs.Common.{◌≡◌, ◌<◌, length, sym, ◌∙◌, arith}
use Rattle.std.specs.List.{range_with_len}
use Rattle.std.proofs.lemmas.List.FromFn.{length-range_with_len, get_or-range_with_len}
use Rattle.std.proofs.lemmas.List.{ext_get_or}
use Rattle.pools.proofs.slots.number.Goals as goal

pub returns : goal.returns
returns c =
    let n = length c.args.table.now in
    let e : length c.loop-i.table ≡ n = c.loop-i.auto.table in
    ext_get_or 0 c.loop-i.table (range_with_len c.args.from n) (e ∙ sym (length-range_with_len c.args.from n))
    (λ k h. let l : k < n = omega arith in let m : k < c.loop-i.i = omega (arith, c.loop-i-test.false) in c.loop-i.invariant k m ∙ sym (get_or-range_with_len c.args.from n k 0 l))
