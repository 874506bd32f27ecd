-- What stands behind the last byte stays zero.
use Rattle.std.specs.Prelude.{◌≡◌, ℕ, ◌+◌, ◌-◌, ◌≤◌, List, ◌++◌, length, take, drop, replicate}
use Rattle.std.proofs.Common.{sym, ap, ◌∙◌, arith, length-append, length-take-le, append_assoc}
use Rattle.std.proofs.lemmas.List.{drop_at, drop-replicate, drop-drop}

-- some way further in
later : (n k m : ℕ) (bs : List ℕ) → drop k bs ≡ replicate (n - k) 0 → drop (k + m) bs ≡ replicate (n - (k + m)) 0
later n k m bs e = sym (drop-drop m k bs) ∙ ap (drop m) e ∙ drop-replicate m (n - k) 0 ∙ ap (λ r. replicate r 0) (omega arith)

-- behind some bytes more
pub padded_part : (n k m : ℕ) (bs r : List ℕ) → k ≤ length bs → length r ≡ m → drop k bs ≡ replicate (n - k) 0 →
    drop (k + m) (take k bs ++ (r ++ drop (k + m - k) (drop k bs))) ≡ replicate (n - (k + m)) 0
padded_part n k m bs r h l e =
    let back = drop (k + m - k) (drop k bs) in
    let w : length (take k bs ++ r) ≡ k + m = length-append (take k bs) r ∙ omega (arith, length-take-le k bs h) in
    ap (drop (k + m)) (sym (append_assoc (take k bs) r back)) ∙ drop_at (take k bs ++ r) back (k + m) w
    ∙ drop-drop (k + m - k) k bs ∙ ap (λ i. drop i bs) (omega arith) ∙ later n k m bs e
