use Rattle.std.proofs.Common.{refl, rules}
use Rattle.index.specs.Effects.{Taken, Checked, LockedNow, DrawnFor}
use Rattle.index.specs.Meets.{Meets}
use Rattle.index.proofs.Meeting.{at_stage, met_by}
use Rattle.index.proofs.tree.Tree.meet.Goals as goal

pub returns-in-Take-clause-met : goal.returns-in-Take-clause-met
returns-in-Take-clause-met g c = met_by (Taken g.L.Latch.face c.args.self.now c.take.new.self) c.in-Take.is (λ _. Meets.granted) (λ _. Meets.not_granted) c.take.ensures (search rules)

pub returns-in-Some-clause-met : goal.returns-in-Some-clause-met
returns-in-Some-clause-met g c = at_stage c.in-Look.is (Meets.saw c.in-Some.ensures refl)

pub returns-in-None-clause-met : goal.returns-in-None-clause-met
returns-in-None-clause-met g c = at_stage c.in-Look.is (Meets.ended c.in-None.ensures c.give_back.ensures)

pub returns-in-Check-clause-met : goal.returns-in-Check-clause-met
returns-in-Check-clause-met g c = met_by (Checked g.L.Latch.face c.in-Check.permit c.args.self.now c.check.new.self) c.in-Check.is (λ _. Meets.passed) (λ _. Meets.not_passed) c.check.ensures (search rules)

pub returns-in-Lock-clause-met : goal.returns-in-Lock-clause-met
returns-in-Lock-clause-met g c = met_by (LockedNow g.L.Latch.face c.in-Lock.permit c.args.self.now c.lock.new.self) c.in-Lock.is (λ _. Meets.locked) (λ _. Meets.not_locked) c.lock.ensures (search rules)

pub returns-in-Draw-clause-met : goal.returns-in-Draw-clause-met
returns-in-Draw-clause-met g c = met_by (DrawnFor g.L.Latch.face c.args.op.now.key c.args.self.now c.draw.new.self c.in-Draw.course) c.in-Draw.is (λ _. Meets.drew) (λ _. Meets.no_room) c.draw.ensures (search rules)

pub returns-in-Write-clause-met : goal.returns-in-Write-clause-met
returns-in-Write-clause-met g c = at_stage c.in-Write.is (Meets.wrote c.write.ensures)

pub returns-in-Unlock-clause-met : goal.returns-in-Unlock-clause-met
returns-in-Unlock-clause-met g c = at_stage c.in-Unlock.is (Meets.unlocked c.unlock.ensures)
