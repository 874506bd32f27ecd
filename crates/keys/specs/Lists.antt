use Rattle.std.specs.Prelude.{◌≡◌, ℕ, List, ◌++◌, length}
use Rattle.std.proofs.Common.{sym, ap, ◌∙◌, arith, length-append}
use Rattle.std.proofs.lemmas.List.{append-nil, nil_from_length}
use Rattle.keys.specs.Bytes.{Begins}

-- a beginning of the same length is the whole
pub begins_whole : (p s : List ℕ) → length p ≡ length s → Begins p s → p ≡ s
begins_whole p s e (t, h) =
    let n : length t ≡ 0 = omega (arith, ap length h, length-append p t) in
    sym (append-nil p) ∙ ap (λ x. p ++ x) (sym (nil_from_length t n)) ∙ sym h
