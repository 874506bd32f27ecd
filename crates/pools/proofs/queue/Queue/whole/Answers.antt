use Rattle.std.proofs.Common.{length, take, ap, ◌∙◌, arith}
use Rattle.std.proofs.lemmas.List.{append-nil, take_all}
use Rattle.pools.proofs.queue.Queue.whole.Goals as goal

pub returns-clause-queue : goal.returns-clause-queue
returns-clause-queue g c =
    let xs = c.args.table.now in
    ap (take (length xs)) (append-nil xs) ∙ take_all (length xs) xs (omega arith)
