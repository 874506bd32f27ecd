use Rattle.std.proofs.Common.{ℕ, ◌<◌, ◌≤◌, sym, subst, take, arith, rules, tests}
use Rattle.std.proofs.lemmas.Iterator.{YieldsList-from_slice, IsFirst-from_position}
use Rattle.nodes.specs.declared.child.Edge.{Edge}
use Rattle.nodes.proofs.Listing.{Sought, sought}
use Rattle.nodes.proofs.sorted.Sorted.seek.Goals as goal

pub returns : goal.returns
returns g c =
    let s = c.args.self.now in
    let byte = c.args.byte in
    let f = s.fits in
    let w = s.whole in
    let first = IsFirst-from_position c.position.new.self _ c.position.result (λ (e : Edge). byte ≤ e.byte) (λ (e : Edge). e.byte < byte) c.position.ensures.ran (YieldsList-from_slice (take s.len s.edges) cc) (λ x q k. search (rules, tests)) (λ x q k. search (rules, tests)) in
    let found = subst (λ (p : ℕ). (p ≤ s.len) × Sought s.len p s.edges byte) (sym c.unwrap_or.ensures) (sought s.len s.edges byte c.position.result (omega arith) first) in
    record { within = found.0; below = found.1.below; here = found.1.here }
