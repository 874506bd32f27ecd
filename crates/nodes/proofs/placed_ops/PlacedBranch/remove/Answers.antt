use Rattle.std.proofs.Common.{◌≡◌, ℕ, get_or, sym, ap, subst, ◌∙◌, arith, length-set}
use Rattle.nodes.proofs.Views.{count_freed}
use Rattle.nodes.proofs.Places.{Renamed, Freed, taken_place, freed_changed, freed_inside, freed_apart}
use Rattle.nodes.proofs.placed_ops.PlacedBranch.remove.Goals as goal

pub invariant_of-self : goal.invariant_of-self
invariant_of-self c =
    let s = c.args.self.now in
    let n = s.len in
    let i = c.from-at.result in
    let p = c.«from».result in
    let rs = c.rename.new.places in
    let w = c.rename.ensures.whole in
    let v = s.whole.1 in
    let fits = s.fits in
    let d = s.counted in
    let same : get_or s.places i 0 ≡ p = sym c.«from».ensures in
    let t = taken_place s.children (get_or s.places c.args.byte 0) c.requires in
    let at = ap (λ j. get_or s.places j 0) c.from-at.ensures in
    let f : Freed n p i s.places rs = record {
      within = omega arith;
      place = same;
      taken = omega arith;
      renamed = subst (λ (p : ℕ). Renamed n p s.places rs) same c.rename.ensures.each;
    } in
    let h = freed_changed n p i c.args.byte s.places rs s.children c.from-at.ensures (omega arith) s.inside s.apart f in
    let e = count_freed _ _ c.args.byte (omega arith) c.requires h in
    record {
      fits = omega arith;
      whole = (length-set _ _ _ ∙ w, length-set _ _ _ ∙ v);
      inside = freed_inside n p i s.places rs s.inside s.apart f;
      apart = freed_apart n p i s.places rs s.inside s.apart f;
      counted = omega arith;
    }
