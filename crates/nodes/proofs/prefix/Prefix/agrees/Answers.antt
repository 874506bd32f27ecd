use Rattle.std.proofs.Common.{ℕ, List, sym, ap, ◌∙◌, subst, rules, tests}
use Rattle.std.proofs.lemmas.Iterator.{YieldsList-from_slice, YieldsList-from_zip}
use Rattle.std.proofs.lemmas.Iterator.Search.{YieldsList-from_take_while}
use Rattle.std.proofs.lemmas.Iterator.Consumers.{count_from_yields_List}
use Rattle.std.proofs.lemmas.List.Folds.{length-prefix_len}
use Rattle.std.specs.List.{zip}
use Rattle.nodes.specs.Kept.{kept, Agree}
use Rattle.nodes.proofs.Parted.{same, agree_zip}
use Rattle.nodes.proofs.prefix.Prefix.agrees.Goals as goal

pub returns : goal.returns
returns c =
    let xs : List ℕ = kept c.args.self.now in
    let ys : List ℕ = c.args.rest.now in
    let pairs = YieldsList-from_zip {s = c.take_while.result.iter} (YieldsList-from_slice xs cc) (YieldsList-from_slice ys (ap (λ z. z.b.rest.now) c.take_while.ensures.source ∙ c.zip-pairs.ensures.second.0)) in
    let n = count_from_yields_List c.take_while.result c.count.result c.count.ensures.ran
    (YieldsList-from_take_while _ same pairs c.take_while.ensures.closure c.take_while.ensures.done (λ x b q k. search (rules, tests))) in
    subst (Agree xs ys) (sym (n ∙ length-prefix_len same (zip xs ys))) (agree_zip xs ys)
