use Rattle.std.proofs.Common.{arith}
use Rattle.nodes.specs.Kept.{kept}
use Rattle.look.proofs.Meeting.{ends_of, parts_of, goes_of}
use Rattle.look.proofs.look_ops.meets.Goals as goal

pub returns-then-i-rest : goal.returns-then-i-rest
returns-then-i-rest c =
    let e = ends_of (kept c.args.prefix.now) c.rest_of-rest.result.now c.agrees-i.result c.agrees-i.ensures (omega arith) in
    cc

pub returns-then-i-len : goal.returns-then-i-len
returns-then-i-len c =
    let e = parts_of (kept c.args.prefix.now) c.rest_of-rest.result.now c.agrees-i.result c.agrees-i.ensures (omega arith) (omega arith) in
    cc

pub returns-else-i-len : goal.returns-else-i-len
returns-else-i-len c =
    let e = goes_of (kept c.args.prefix.now) c.rest_of-rest.result.now c.agrees-i.result c.agrees-i.ensures (omega arith) (omega arith) in
    cc
