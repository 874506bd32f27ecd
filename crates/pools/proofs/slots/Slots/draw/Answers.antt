use Rattle.std.proofs.Common.{sym, subst, arith}
use Rattle.pools.specs.Spare.{Below}
use Rattle.pools.proofs.Below.{below_rest}
use Rattle.pools.proofs.slots.Slots.draw.Goals as goal

pub returns-clause-sound : goal.returns-clause-sound
returns-clause-sound g c =
    let took = c.in_ok-slot.ensures in
    (c.requires.0, took.fits, subst (λ xs. Below xs g.row.N) (sym took.queue) (below_rest _ g.row.N c.requires.2), omega (arith, took.len, c.requires.3))
