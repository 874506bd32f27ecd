use Rattle.std.proofs.Common.{◌≡◌, ◌+◌, ◌≤◌, [], ◌∷◌, length, arith}
use Rattle.script.proofs.Pieces.{written_both}
use Rattle.script.proofs.writer.write_line.Goals as goal

pub returns-clause-bytes : goal.returns-clause-bytes
returns-clause-bytes c =
    let room : c.args.place.now.at + length c.args.text.now ≤ length c.args.out.now = grind (arith, c.in_ok-put.ensures.value) in
    let more = written_both c.args.out.now c.args.text.now (10 ∷ []) c.args.place.now.at room in
    let at : c.put.new.self.place.now.at ≡ c.args.place.now.at + length c.args.text.now = grind arith in
    cc (more, at, c.put.ensures.bytes, c.put-2.ensures.bytes)
