use Rattle.std.proofs.Common.{eqb, rules}
use Rattle.std.proofs.lemmas.List.Elements.{contains_decides}
use Rattle.keys.specs.TextLaws.{plain_from}
use Rattle.keys.proofs.texts.is_plain.Goals as goal
use Rattle.std.proofs.lemmas.Bool.Decides.{Decides-eqb}

pub returns-then-s-lt-LONGEST_KEY : goal.returns-then-s-lt-LONGEST_KEY
returns-then-s-lt-LONGEST_KEY c =
    plain_from c.args.s.now c.contains.result (search rules) (contains_decides eqb Decides-eqb c.args.s.now 0 c.contains.result c.contains.ensures.cases)
