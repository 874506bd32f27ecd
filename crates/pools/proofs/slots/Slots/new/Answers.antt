use Rattle.std.proofs.Common.{◌≡◌, length, sym, ap, ◌∙◌, subst, arith}
use Rattle.std.proofs.lemmas.List.FromFn.{length-range_with_len}
use Rattle.pools.specs.Spare.{Below, counting_below}
use Rattle.pools.proofs.slots.Slots.new.Goals as goal

pub returns-clause-sound : goal.returns-clause-sound
returns-clause-sound g c =
    let n = length c.args.table.now in
    let all = c.whole.ensures.queue ∙ c.number.ensures in
    let e : length c.number.new.table ≡ n = ap length c.number.ensures ∙ length-range_with_len c.args.from n in
    (omega (arith, e, c.requires.0), c.whole.ensures.fits, subst (λ xs. Below xs g.row.N) (sym all) (counting_below c.args.from n g.row.N (omega (arith, c.requires.0))), omega (arith, c.whole.ensures.fits.1))
