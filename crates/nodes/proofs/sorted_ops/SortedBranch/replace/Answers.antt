use Rattle.std.proofs.Common.{◌∙◌, arith, length-set}
use Rattle.nodes.proofs.Views.{count_kept}
use Rattle.nodes.proofs.Listing.{found, seek_taken}
use Rattle.nodes.proofs.Shifted.{renewed_rising, renewed_changed}
use Rattle.nodes.proofs.sorted_ops.SortedBranch.replace.Goals as goal

pub bounds-self-at : goal.bounds-self-at
bounds-self-at g c =
    let s = c.args.self.now in
    let at = found s.len c.seek-at.result s.edges _ c.args.byte c.«from».ensures c.seek-at.ensures.below c.seek-at.ensures.here in
    let w = seek_taken s.len c.seek-at.result s.edges c.args.byte s.rising at c.requires in
    let f = s.fits in
    omega arith

pub invariant_of-self : goal.invariant_of-self
invariant_of-self g c =
    let s = c.args.self.now in
    let p = c.seek-at.result in
    let at = found s.len p s.edges _ c.args.byte c.«from».ensures c.seek-at.ensures.below c.seek-at.ensures.here in
    let w = seek_taken s.len p s.edges c.args.byte s.rising at c.requires in
    let f = s.fits in
    let l = s.whole in
    let h = renewed_changed s.len p s.edges c.args.byte c.args.child w.0 (omega arith) w.1 s.rising in
    record {
      fits = s.fits;
      whole = length-set _ _ _ ∙ s.whole;
      rising = renewed_rising s.len p s.edges c.args.child (omega arith) s.rising;
      counted = count_kept _ _ c.args.byte c.args.child (omega arith) c.requires h ∙ s.counted;
    }

pub returns : goal.returns
returns g c =
    let s = c.args.self.now in
    let p = c.seek-at.result in
    let at = found s.len p s.edges _ c.args.byte c.«from».ensures c.seek-at.ensures.below c.seek-at.ensures.here in
    let w = seek_taken s.len p s.edges c.args.byte s.rising at c.requires in
    let f = s.fits in
    let l = s.whole in
    renewed_changed s.len p s.edges c.args.byte c.args.child w.0 (omega arith) w.1 s.rising
