use Rattle.std.proofs.Common.{rules}
use Rattle.inline_bytes.specs.Same.{eq_decides}
use Rattle.keys.proofs.coding.same_key.Goals as goal

pub returns : goal.returns
returns g c = let d = eq_decides c.in_ok-x.x c.in_ok-y.y c.eq.result c.eq.ensures in search rules
