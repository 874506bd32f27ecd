use Rattle.std.proofs.Common.{sym, subst, arith}
use Rattle.nodes.specs.View.{First}
use Rattle.nodes.specs.Kinds.{of_sorted}
use Rattle.nodes.proofs.Listing.{Sought, seek_read}
use Rattle.nodes.proofs.sorted_ops.SortedBranch.from.Goals as goal

pub returns : goal.returns
returns g c =
    let s = c.args.self.now in
    let f = s.fits in
    let w = s.whole in
    let at : Sought s.len c.seek.result s.edges c.args.start = record { below = c.seek.ensures.below; here = c.seek.ensures.here } in
    subst (First (of_sorted s) c.args.start) (sym c.copied.ensures) (seek_read s.len c.seek.result s.edges c.args.start (omega arith) s.rising at c.get.result c.get.ensures.lookup)
