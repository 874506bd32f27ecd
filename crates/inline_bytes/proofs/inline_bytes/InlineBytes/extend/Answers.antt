use Rattle.std.proofs.Common.{length, ap, arith}
use Rattle.inline_bytes.proofs.Padding.{padded_part}
use Rattle.inline_bytes.proofs.inline_bytes.InlineBytes.extend.Goals as goal

pub invariant_of-self-clause-clear : goal.invariant_of-self-clause-clear
invariant_of-self-clause-clear g c =
    let s = c.args.self.now in
    let f = s.fits in
    let w = s.whole in
    padded_part g.row.N s.len (length c.args.bytes.now) s.bytes c.copy_from_slice.new.self (omega arith)
    (ap length c.copy_from_slice.ensures.after) s.clear
