use Rattle.std.proofs.Common.{◌+◌, ◌-◌, ◌*◌, get_or, drop, arith}
use Rattle.script.proofs.DigitSteps.{none_large, value_on_ge, value_step}
use Rattle.script.proofs.digits.number.Goals as goal

pub returns-then-value-most : goal.returns-then-value-most
returns-then-value-most c =
    let step = value_step c.loop-b.value c.args.digits.now c.loop-b.b-index c.loop-b-test.true in
    none_large c.args.most c.args.digits.now (omega (arith, step, c.loop-b.invariant.0, c.from.ensures, value_on_ge (c.loop-b.value * 10 + (get_or c.args.digits.now c.loop-b.b-index 0 - 48)) (drop (c.loop-b.b-index + 1) c.args.digits.now)))
