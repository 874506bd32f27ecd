use Rattle.std.proofs.Common.{◌∙◌, arith, length-set}
use Rattle.nodes.specs.declared.child.Edge.{Edge}
use Rattle.nodes.proofs.Views.{count_added, room_left}
use Rattle.nodes.proofs.Listing.{found}
use Rattle.nodes.proofs.Shifted.{opened, opened_rising, opened_changed}
use Rattle.nodes.proofs.sorted_ops.SortedBranch.insert.Goals as goal

pub returns-clause-change : goal.returns-clause-change
returns-clause-change g c =
    let s = c.args.self.now in
    let p = c.seek-at.result in
    let e : Edge = record { byte = c.args.byte; child = c.args.child } in
    let at = found s.len p s.edges _ c.args.byte c.«from».ensures c.seek-at.ensures.below c.seek-at.ensures.here in
    let within = c.seek-at.ensures.within in
    let f = s.fits in
    let d = s.counted in
    let r = room_left _ _ g.row.N c.full.ensures c.if-full.false in
    let l = s.whole in
    let by = c.copy_within.ensures.by_index in
    let o = opened s.len p s.edges c.copy_within.new.self e within (omega arith) c.copy_within.ensures.len by.0 by.1 in
    opened_changed s.len p s.edges _ e within s.rising at c.requires o

pub invariant_of-self : goal.invariant_of-self
invariant_of-self g c =
    let s = c.args.self.now in
    let p = c.seek-at.result in
    let e : Edge = record { byte = c.args.byte; child = c.args.child } in
    let at = found s.len p s.edges _ c.args.byte c.«from».ensures c.seek-at.ensures.below c.seek-at.ensures.here in
    let within = c.seek-at.ensures.within in
    let f = s.fits in
    let d = s.counted in
    let r = room_left _ _ g.row.N c.full.ensures c.if-full.false in
    let l = s.whole in
    let m = c.copy_within.ensures.len in
    let by = c.copy_within.ensures.by_index in
    let o = opened s.len p s.edges c.copy_within.new.self e within (omega arith) m by.0 by.1 in
    let h = opened_changed s.len p s.edges _ e within s.rising at c.requires o in
    let a = count_added _ _ c.args.byte c.args.child (omega arith) c.requires h in
    record {
      fits = omega arith;
      whole = length-set _ _ _ ∙ m ∙ l;
      rising = opened_rising s.len p s.edges _ e within s.rising at c.requires o;
      counted = omega arith;
    }
