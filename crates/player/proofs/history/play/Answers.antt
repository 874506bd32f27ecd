use Rattle.std.proofs.Common.{length, sym, ap, ⊎_elim, arith}
use Rattle.std.proofs.lemmas.Result.{err_from_is_err_and}
use Rattle.player.specs.Histories.{printed}
use Rattle.player.proofs.Buffers.{filled_put, cut_put}
use Rattle.player.proofs.Playing.{so_far_more, so_far_all, so_far_cut}
use Rattle.player.proofs.history.play.Goals as goal

pub returns-in_err-put : goal.returns-in_err-put
returns-in_err-put g c =
    let steps = c.in-Some.ensures.steps in
    let p = err_from_is_err_and c.from_residual.result c.from_residual.ensures.1 in
    let so = rw (sym steps.0.0) at c.loop-number.invariant.3 in
    let cut = cut_put c.loop-number.out c.loop-number.place.at (printed c.in-Some.number c.reply_to-reply.result) c.put.new.out c.put.new.place.at c.in_err-put.field-0.0 so.filled.room c.in_err-put.ensures in
    rw (p.1, p.2) (cut.0, so_far_cut _ _ _ _ _ c.new-index.ensures so steps.1 c.reply_to-reply.ensures cut.1)

pub loop-number-preserved : goal.loop-number-preserved
loop-number-preserved g c =
    let steps = c.in-Some.ensures.steps in
    let so = rw (sym steps.0.0) at c.loop-number.invariant.3 in
    let put = filled_put c.loop-number.out c.loop-number.place.at (printed c.in-Some.number c.reply_to-reply.result) c.put.new.out c.put.new.place.at c.in_ok-put.ensures in
    ((tt, tt), tt, omega (arith, steps.0.0, steps.0.1, ap length steps.1, c.loop-number.invariant.2), rw steps.0.1 (so_far_more _ _ _ _ _ so steps.1 c.reply_to-reply.ensures put))

pub returns : goal.returns
returns g c =
    ⊎_elim (λ n. let far = n.1.0 in absurd (omega (arith, far, c.loop-number.invariant.2)))
    (λ n. so_far_all _ _ _ _ _ c.new-index.ensures c.loop-number.invariant.3 n.1.0) c.in-None.ensures.steps
