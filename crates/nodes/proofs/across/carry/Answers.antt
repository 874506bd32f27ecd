use Rattle.std.proofs.Common.{◌≡◌, ◌+◌, ◌<◌, Bool, true, cond, Some, None, ◌∙◌, subst, arith}
use Rattle.std.proofs.lemmas.Bool.{lt-ltb}
use Rattle.nodes.specs.View.{Changed, First}
use Rattle.nodes.proofs.Views.{count_fewer, carried_low, changed_off}
use Rattle.nodes.proofs.across.carry.Goals as goal

pub loop-edge-preserved : goal.loop-edge-preserved
loop-edge-preserved g c =
    let s = c.loop-edge.edge-iterator in
    let t = c.next.new.self in
    let f = g.A.Branch.view c.args.node.now in
    let o = g.B.Branch.view c.loop-edge.out in
    let h = g.B.Branch.view c.insert.new.self in
    let e = c.in-Some.edge in
    let i = c.loop-edge.invariant in
    let steps = c.in-Some.ensures.steps in
    let n : First f s.start (Some e) = subst (λ (x : _). First (g.A.Branch.view x) s.start (Some e)) i.2 steps.1.0 in
    let next : t.start ≡ e.byte + 1 = steps.1.1 in
    let small : e.byte < 256 = omega arith in
    let fewer = count_fewer f o s.start e small i.3 i.4 n in
    let p = c.requires in
    let room : c.insert.result ≡ true = c.insert.ensures.answer ∙ lt-ltb _ _ (omega arith) in
    let put : Changed o h e.byte (Some e.child) = subst (λ (b : Bool). Changed o h e.byte (cond b (Some e.child) None)) room c.insert.ensures.change in (
      tt,
      tt,
      steps.0 ∙ i.2,
      (λ k l. carried_low f o h s.start e i.3 i.4 n put k (omega arith)),
      (λ k l. changed_off o h e.byte (Some e.child) put k (λ q. omega arith) ∙ i.4 k (let m = n.0 in omega arith)),
    )
