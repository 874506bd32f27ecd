use Rattle.std.proofs.Common.{◌∙◌, arith, length-set}
use Rattle.nodes.proofs.Views.{count_added, room_left}
use Rattle.nodes.proofs.Places.{added_changed, added_inside, added_apart}
use Rattle.nodes.proofs.placed_ops.PlacedBranch.insert.Goals as goal

pub invariant_of-self : goal.invariant_of-self
invariant_of-self c =
    let s = c.args.self.now in
    let i = c.«from».result in
    let at = c.«from».ensures in
    let w = s.whole.0 in
    let v = s.whole.1 in
    let d = s.counted in
    let r = room_left _ _ 48 c.full.ensures c.if-full.false in
    let h = added_changed s.len s.places s.children i c.args.byte c.args.child at (omega arith) (omega arith) s.inside in
    let e = count_added _ _ c.args.byte c.args.child (omega arith) c.requires h in
    record {
      fits = omega arith;
      whole = (length-set _ _ _ ∙ w, length-set _ _ _ ∙ v);
      inside = added_inside s.len s.places i (omega arith) s.inside;
      apart = added_apart s.len s.places i (omega arith) s.inside s.apart;
      counted = omega arith;
    }

pub returns-clause-change : goal.returns-clause-change
returns-clause-change c =
    let s = c.args.self.now in
    let at = c.«from».ensures in
    let w = s.whole.0 in
    let v = s.whole.1 in
    let d = s.counted in
    let r = room_left _ _ 48 c.full.ensures c.if-full.false in
    added_changed s.len s.places s.children c.«from».result c.args.byte c.args.child at (omega arith) (omega arith) s.inside
