use Rattle.std.proofs.Common.{◌≡◌, ℕ, suc, ◌+◌, ◌-◌, ◌<◌, ◌≤◌, List, [], ◌∷◌, ◌++◌, length, get_or, take, drop, set, sym, ap, ◌∙◌, append_assoc, arith}
use lib.Seq.{take-set-lt}
use Rattle.std.proofs.lemmas.List.{append-nil, length-append, length-take, length-drop, drop-set-add, take-set-le, set-append_left, set-append_right, drop-set-lt, take_more_set, take_more, drop_more, take-append-le, drop_all, take_all, length-take-le}
use Rattle.pools.specs.Contents.{around, contents, Fits}
use Rattle.pools.specs.declared.queue.Queue.{Queue}

pub length_around : {A : Type 0} (h : ℕ) (xs : List A) → h ≤ length xs → length (around h xs) ≡ length xs
length_around h xs l = simp (length-append, length-drop, length-take) (omega arith)

-- a write at the place after the last of n, before the table's end
pub put_high : {A : Type 0} (h n : ℕ) (xs : List A) (x : A) → h + n < length xs → around h (set xs (h + n) x) ≡ set (around h xs) n x
put_high h n xs x l =
    let a : n < length (drop h xs) = simp length-drop (omega arith) in
    let b : h ≤ h + n = omega arith in
    rw (drop-set-add, take-set-le) (sym (set-append_left (drop h xs) (take h xs) n x a))

-- the same, round the table's end
pub put_low : {A : Type 0} (h n p : ℕ) (xs : List A) (x : A) → h ≤ length xs → length xs ≤ h + n → n < length xs → p ≡ n - (length xs - h) → around h (set xs p x) ≡ set (around h xs) n x
put_low h n p xs x l m k e =
    let a : p < h = omega arith in
    let b : length xs - h ≤ n = omega arith in
    let q : n - (length xs - h) ≡ p = sym e in
    rw (drop-set-lt, take-set-lt) (ap (λ i. drop h xs ++ set (take h xs) i x) e ∙ sym (set-append_right (drop h xs) (take h xs) (length xs - h) n x (length-drop h xs) b))

pub put_back : {A : Type 0} (h n p : ℕ) (xs : List A) (x : A) → h ≤ length xs → n < length xs → around h (set xs p x) ≡ set (around h xs) n x → take (n + 1) (around h (set xs p x)) ≡ take n (around h xs) ++ x ∷ []
put_back h n p xs x l k e =
    let a : n < length (around h xs) = rw (length_around h xs l) k in
    ap (take (n + 1)) e ∙ take_more_set (around h xs) n x a

-- the table from the head on: the head's element, and what follows
pub around_first : {A : Type 0} (h : ℕ) (xs : List A) (d : A) → h < length xs → around h xs ≡ get_or xs h d ∷ (drop (h + 1) xs ++ take h xs)
around_first h xs d l = ap (λ ys. ys ++ take h xs) (drop_more xs h d l)

pub around_next : {A : Type 0} (h : ℕ) (xs : List A) (d : A) → h < length xs → around (h + 1) xs ≡ (drop (h + 1) xs ++ take h xs) ++ get_or xs h d ∷ []
around_next h xs d l = ap (λ ys. drop (h + 1) xs ++ ys) (take_more xs h d l) ∙ sym (append_assoc (drop (h + 1) xs) (take h xs) (get_or xs h d ∷ []))

pub around_end : {A : Type 0} (h : ℕ) (xs : List A) → h ≡ length xs → around 0 xs ≡ around h xs
around_end h xs e =
    let a : length xs ≤ h = omega arith in
    append-nil xs ∙ rw (drop_all h xs a, take_all h xs a)

pub take_rest : {A : Type 0} (h n : ℕ) (xs : List A) (d : A) → h < length xs → n < length xs → take n (around (h + 1) xs) ≡ take n (drop (h + 1) xs ++ take h xs)
take_rest h n xs d l k =
    let a : n ≤ length (drop (h + 1) xs ++ take h xs) = simp (length-append, length-drop, length-take) (omega arith) in
    ap (take n) (around_next h xs d l) ∙ take-append-le n (drop (h + 1) xs ++ take h xs) (get_or xs h d ∷ []) a

pub take_front : {A : Type 0} (h n : ℕ) (xs : List A) (d : A) → h < length xs → 0 < n → take n (around h xs) ≡ get_or xs h d ∷ take (n - 1) (drop (h + 1) xs ++ take h xs)
take_front h n xs d l k =
    let e : n ≡ suc (n - 1) = omega arith in
    ap (take n) (around_first h xs d l) ∙ ap (λ m. take m (get_or xs h d ∷ (drop (h + 1) xs ++ take h xs))) e

pub length_contents : {A : Type 0} (xs : List A) (q : Queue) → Fits xs q → length (contents xs q) ≡ q.len
length_contents xs q f = let a : q.head ≤ length xs = omega arith in let b : q.len ≤ length (around q.head xs) = rw (length_around q.head xs a) f.1 in length-take-le q.len (around q.head xs) b
