use Rattle.std.proofs.Common.{◌≡◌, ◌+◌, ◌-◌, ◌<◌, length, take, Some, sym, ap, ◌∙◌, arith}
use Rattle.pools.specs.Contents.{around, first, rest}
use Rattle.pools.proofs.Around.{take_front, take_rest, around_end}
use Rattle.pools.proofs.queue.Queue.take.Goals as goal
use Rattle.pools.proofs.queue.Queue.take.Goals.{then-next-table, else-next-table}

pub returns-clause-front : goal.returns-clause-front
returns-clause-front g c =
    let xs = c.args.table.now in
    let h = c.args.self.now.head in
    let n = c.args.self.now.len in
    let x = c.index-table-self.result in
    let k : 0 < n = omega (arith, c.if-self-eq0.false) in
    ap Some c.index-table-self.is ∙ sym (ap first (take_front h n xs x c.requires.0 k))

pub returns-clause-queue : goal.returns-clause-queue
returns-clause-queue g c =
    let xs = c.args.table.now in
    let h = c.args.self.now.head in
    let n = c.args.self.now.len in
    let x = c.index-table-self.result in
    let k : 0 < n = omega (arith, c.if-self-eq0.false) in
    let e = take_front h n xs x c.requires.0 k in
    let small : n - 1 < length xs = omega arith in
    let r = take_rest h (n - 1) xs x c.requires.0 small in
    elim c.if-next-table.branch [
      | then-next-table w ↦
          let z : h + 1 ≡ length xs = w.if-next-table.true in
          ap (λ i. take (n - 1) (around i xs)) w.self-is ∙ ap (take (n - 1)) (around_end (h + 1) xs z) ∙ r ∙ sym (ap rest e)
      | else-next-table w ↦
          ap (λ i. take (n - 1) (around i xs)) w.self-is ∙ r ∙ sym (ap rest e)
    ]
