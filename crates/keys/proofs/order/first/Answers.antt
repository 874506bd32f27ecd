use Rattle.std.proofs.Common.{length, take, length-take, rules}
use Rattle.std.proofs.lemmas.List.{length_push, take_more_same, get_or-take}
use Rattle.std.proofs.lemmas.Slice.Zip.{zip_turn, zip_end}
use Rattle.keys.proofs.ByteOrder.{at_difference, at_end}
use Rattle.keys.proofs.order.first.Goals as goal

pub returns-then-a-b : goal.returns-then-a-b
returns-then-a-b c =
    let n = c.min-n.result in
    let z = zip_turn (take n c.args.s.now) (take n c.args.t.now) c.loop-a.yielded c.into_iter-a-iterator.result c.loop-a.a-iterator c.next.new.self c.next.result (search rules) (search rules) c.loop-a.yielded_by (c.in-Some.a, c.in-Some.b) c.in-Some.is c.next.ensures.steps in
    search (rules, z.2 0, z.3 0, get_or-take, length-take, at_difference)

pub loop-a-preserved : goal.loop-a-preserved
loop-a-preserved c =
    let n = c.min-n.result in
    let z = zip_turn (take n c.args.s.now) (take n c.args.t.now) c.loop-a.yielded c.into_iter-a-iterator.result c.loop-a.a-iterator c.next.new.self c.next.result (search rules) (search rules) c.loop-a.yielded_by (c.in-Some.a, c.in-Some.b) c.in-Some.is c.next.ensures.steps in
    rw (length_push c.loop-a.yielded (c.in-Some.a, c.in-Some.b))
    (take_more_same c.args.s.now c.args.t.now (length c.loop-a.yielded) 0 (search (rules, length-take)) (search (rules, length-take)) c.loop-a.invariant (search (rules, z.2 0, z.3 0, get_or-take, length-take)))

pub returns : goal.returns
returns c =
    let n = c.min-n.result in
    let z = zip_end (take n c.args.s.now) (take n c.args.t.now) c.loop-a.yielded c.into_iter-a-iterator.result c.loop-a.a-iterator c.next.new.self c.next.result (search rules) (search rules) c.loop-a.yielded_by c.in-None.is c.next.ensures.steps in
    at_end c.args.s.now c.args.t.now (length c.loop-a.yielded) c.loop-a.invariant (search (rules, length-take))
