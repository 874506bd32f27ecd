use Rattle.std.proofs.Common.{◌≡◌, ◌+◌, ◌<◌, length, set, sym, subst, arith}
use Rattle.pools.specs.Contents.{around}
use Rattle.pools.proofs.Around.{put_high, put_low, put_back}
use Rattle.pools.proofs.queue.Queue.put.Goals as goal
use Rattle.pools.proofs.queue.Queue.put.Goals.{then-self-room, else-self-room}

pub returns-clause-queue : goal.returns-clause-queue
returns-clause-queue g c =
    let xs = c.args.table.now in
    let h = c.args.self.now.head in
    let n = c.args.self.now.len in
    let p = c.if-self-room.place in
    let x = c.args.x in
    let at : around h (set xs p x) ≡ set (around h xs) n x =
    elim c.if-self-room.branch [
      | then-self-room w ↦
          let l : h + n < length xs = omega (arith, w.if-self-room.true) in
          subst (λ q. around h (set xs q x) ≡ set (around h xs) n x) (sym w.place-is) (put_high h n xs x l)
      | else-self-room w ↦
          put_low h n p xs x (omega arith) (omega (arith, w.if-self-room.false)) (omega arith) w.place-is
    ] in
    put_back h n p xs x (omega arith) (omega arith) at
