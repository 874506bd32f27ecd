use Rattle.std.proofs.Common.{rules}
use Rattle.inline_bytes.specs.Same.{eq_decides}
use Rattle.index.proofs.tree.Tree.look.Goals as goal

pub returns-else-eq : goal.returns-else-eq
returns-else-eq c = let d = eq_decides c.leaf_in-leaf.result.key c.args.key.now c.eq.result c.eq.ensures in search rules
