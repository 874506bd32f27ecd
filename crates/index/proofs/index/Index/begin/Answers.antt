use Rattle.std.proofs.Common.{rules}
use Rattle.index.proofs.index.Index.begin.Goals as goal

pub returns : goal.returns
returns g c = record { accepted = search rules; none = search rules; code = c.in_ok-key.key; noted = search rules; after = search rules }
