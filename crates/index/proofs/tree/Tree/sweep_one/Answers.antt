use Rattle.std.proofs.Common.{◌≡◌, ◌+◌, ◌<◌, true, [], ◌∷◌, ◌++◌, length, sym, ap, ◌∙◌, subst, arith, rules}
use Rattle.std.proofs.lemmas.Bool.{lt-ltb, and_from}
use Rattle.pools.specs.Contents.{contents, rest}
use Rattle.index.specs.Kept.{Ours}
use Rattle.index.specs.Trees.{retired_of}
use Rattle.index.proofs.Sweeping.{ours_first, ours_rest, ours_turned}
use Rattle.index.proofs.tree.Tree.sweep_one.Goals as goal

pub invariant_of-self-else-is_older : goal.invariant_of-self-else-is_older
invariant_of-self-else-is_older c =
    let s = c.args.self.now in
    let r = c.in-Some.record in
    let took = c.in-Some.ensures in
    let kept = s.ready in
    let less : c.take.new.self.len < length s.records = omega (arith, took.len, kept.1) in
    let done : c.put.result ≡ true = c.put.ensures.answer ∙ lt-ltb _ _ less in
    let turned : contents c.put.new.table c.put.new.self ≡ rest (retired_of s) ++ r ∷ [] = c.put.ensures.queue ∙ rw done (ap (λ xs. xs ++ r ∷ []) took.queue) in
    let len : c.put.new.self.len ≡ c.take.new.self.len + 1 = c.put.ensures.len ∙ rw done in
    record { ready = (kept.0, c.put.ensures.fits, kept.2, omega (arith, len, took.len, kept.3), subst Ours (sym turned) (ours_turned (retired_of s) r took.front kept.4)) }

pub invariant_of-self-then-is_older : goal.invariant_of-self-then-is_older
invariant_of-self-then-is_older c =
    let s = c.args.self.now in
    let r = c.in-Some.record in
    let took = c.in-Some.ensures in
    let kept = s.ready in
    let ours = ours_first (retired_of s) r took.front kept.4 in
    let room : s.slots.queue.len + s.slots.owed < length s.table = search rules in
    let done : c.free.result ≡ true = c.free.ensures.answer ∙ and_from _ _ (lt-ltb _ _ ours) (lt-ltb _ _ room) in
    let len : c.free.new.self.queue.len ≡ s.slots.queue.len + 1 = c.free.ensures.len ∙ rw done in
    record { ready = (c.free.ensures.sound, took.fits, c.free.ensures.owed ∙ kept.2, omega (arith, len, took.len, kept.3), subst Ours (sym took.queue) (ours_rest (retired_of s) kept.4)) }
