use Rattle.std.proofs.Common.{refl, rules}
use Rattle.index.proofs.Meeting.{meets_moves}
use Rattle.index.proofs.Stepping.{stepped}
use Rattle.index.specs.Calls.{state_of}
use Rattle.index.proofs.index.Index.step.Goals as goal

pub advance-requires : goal.advance-requires
advance-requires g c = meets_moves c.meet-met.ensures.met c.in-Busy.op refl

pub returns : goal.returns
returns g c =
    stepped g.L.Latch.face c.args.seat c.in_ok-at.at (state_of c.args.self.now) (state_of c.count_call.new.self) c.index-self-at.result c.in-Busy.op
    c.meet-met.result c.advance.new.self c.advance.result c.meet-met.new.self (search rules) c.in_ok-at.ensures c.in-Busy.is c.in_ok-count_call.ensures
    c.meet-met.ensures.met c.advance.ensures
