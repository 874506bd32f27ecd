use Rattle.std.proofs.Common.{◌≡◌, ℕ, ◌+◌, ◌-◌, ◌<◌, ◌≤◌, ◌≢◌, List, length, set, Some, None, sym, ap, ◌∙◌, ⊎_elim, arith, get_or-set_other, get_or-set_same}
use Rattle.std.proofs.lemmas.Bool.{cases_eq, cases_order, cases_lt}
use Rattle.std.specs.List.{CopiedTo, SameBelow}
use Rattle.nodes.specs.declared.child.Child.{Child}
use Rattle.nodes.specs.declared.child.Edge.{Edge}
use Rattle.nodes.specs.View.{Changed}
use Rattle.nodes.specs.Listed.{listed, Rising, edge_at, no_edge}
use Rattle.nodes.proofs.Views.{changed_from}
use Rattle.nodes.proofs.Listing.{Sought, listed_hit, listed_miss, placed, seek_free}

bytes : {d e : Edge} → d ≡ e → d.byte ≡ e.byte
bytes q = ap (λ (e : Edge). e.byte) q

-- one edge in two rising lists
moved : (n m i j : ℕ) (es es' : List Edge) → Rising n es → Rising m es' → i < n → j < m → edge_at es' j ≡ edge_at es i → (k : ℕ) → (edge_at es i).byte ≡ k → listed m es' k ≡ listed n es k
moved n m i j es es' r r' l h e k q = listed_hit m es' r' j h k (bytes e ∙ q) ∙ ap (λ (e : Edge). Some e.child) e ∙ sym (listed_hit n es r i l k q)

-- the first n edges with e put in at p
pub record Opened (n p : ℕ) (es es' : List Edge) (e : Edge) : Type 0 where
  pub before : (k : ℕ) → k < p → edge_at es' k ≡ edge_at es k
  pub here : edge_at es' p ≡ e
  pub after : (k : ℕ) → p < k → k ≤ n → edge_at es' k ≡ edge_at es (k - 1)

-- those from p on moved up by one, and e put in
pub opened : (n p : ℕ) (es ws : List Edge) (e : Edge) → p ≤ n → n < length es → length ws ≡ length es → CopiedTo es ws p (p + 1) (n - p) → SameBelow es ws (p + 1) → Opened n p es (set ws p e) e
opened n p es ws e pn l m up low =
    record {
      before = λ k b. get_or-set_other ws p k e no_edge (λ q. omega arith) ∙ low k no_edge (omega arith);
      here = get_or-set_same ws p e no_edge (omega arith);
      after = λ k b h. let back : p + (k - (p + 1)) ≡ k - 1 = omega arith in get_or-set_other ws p k e no_edge (λ q. omega arith) ∙ up k no_edge (omega arith) (omega arith) ∙ ap (edge_at es) back;
    }

pub opened_rising : (n p : ℕ) (es es' : List Edge) (e : Edge) → p ≤ n → Rising n es → Sought n p es e.byte → listed n es e.byte ≡ None → Opened n p es es' e → Rising (n + 1) es'
opened_rising n p es es' e pn r s f o i j l m =
    ⊎_elim
    (λ (z : j < p).
    let x = bytes (o.before i (omega arith)) in
    let y = bytes (o.before j z) in
    let z = r i j l (omega arith) in
    omega arith)
    (λ (z : p ≤ j).
    ⊎_elim
    (λ (t : j ≡ p).
    let x = bytes (o.before i (omega arith)) in
    let y = bytes o.here in
    let z = ap (λ q. (edge_at es' q).byte) t in
    let w = s.below i (omega arith) in
    omega arith)
    (λ (t : j ≡ p → ⊥).
    let y = bytes (o.after j (omega arith) (omega arith)) in
    ⊎_elim
    (λ (u : i < p).
    let x = bytes (o.before i u) in
    let z = r i (j - 1) (omega arith) (omega arith) in
    omega arith)
    (λ (u : p ≤ i).
    ⊎_elim
    (λ (v : i ≡ p).
    let x = bytes o.here in
    let z = ap (λ q. (edge_at es' q).byte) v in
    let h = seek_free n p es e.byte r s f (omega arith) in
    ⊎_elim
    (λ (a : j - 1 ≡ p). let w = ap (λ q. (edge_at es q).byte) a in omega arith)
    (λ (a : j - 1 ≡ p → ⊥). let w = r p (j - 1) (omega arith) (omega arith) in omega arith)
    (cases_eq (j - 1) p))
    (λ (v : i ≡ p → ⊥).
    let x = bytes (o.after i (omega arith) (omega arith)) in
    let z = r (i - 1) (j - 1) (omega arith) (omega arith) in
    omega arith)
    (cases_eq i p))
    (cases_lt i p))
    (cases_eq j p))
    (cases_lt j p)

pub opened_changed : (n p : ℕ) (es es' : List Edge) (e : Edge) → p ≤ n → Rising n es → Sought n p es e.byte → listed n es e.byte ≡ None → Opened n p es es' e → Changed (listed n es) (listed (n + 1) es') e.byte (Some e.child)
opened_changed n p es es' e pn r s f o =
    let r' = opened_rising n p es es' e pn r s f o in
    changed_from (listed n es) (listed (n + 1) es') e.byte (Some e.child)
    (listed_hit (n + 1) es' r' p (omega arith) e.byte (bytes o.here) ∙ ap (λ (e : Edge). Some e.child) o.here)
    (λ k ne.
    ⊎_elim
    (λ w.
    let i = w.0 in
    let l = w.1 in
    ⊎_elim
    (λ (z : i < p). moved n (n + 1) i i es es' r r' l (omega arith) (o.before i z) k w.2)
    (λ (z : p ≤ i).
    let back : i + 1 - 1 ≡ i = omega arith in
    moved n (n + 1) i (i + 1) es es' r r' l (omega arith) (o.after (i + 1) (omega arith) (omega arith) ∙ ap (edge_at es) back) k w.2)
    (cases_lt i p))
    (λ a.
    listed_miss (n + 1) es' k
    (λ i l q.
    ⊎_elim
    (λ (z : i ≡ p). ne (sym q ∙ ap (λ j. (edge_at es' j).byte) z ∙ bytes o.here))
    (λ t. ⊎_elim
    (λ (z : i < p). a i (omega arith) (sym (bytes (o.before i z)) ∙ q))
    (λ (z : p < i). a (i - 1) (omega arith) (sym (bytes (o.after i z (omega arith))) ∙ q))
    t)
    (cases_order i p))
    ∙ sym (listed_miss n es k a))
    (placed n es k))

-- the first n edges without the one at p
pub record Closed (n p : ℕ) (es es' : List Edge) : Type 0 where
  pub before : (k : ℕ) → k < p → edge_at es' k ≡ edge_at es k
  pub after : (k : ℕ) → p ≤ k → k + 1 < n → edge_at es' k ≡ edge_at es (k + 1)

-- those past p moved down by one
pub closed : (n p : ℕ) (es ws : List Edge) → p < n → CopiedTo es ws (p + 1) p (n - (p + 1)) → SameBelow es ws p → Closed n p es ws
closed n p es ws pn down low =
    record {
      before = λ k b. low k no_edge b;
      after = λ k b h. let next : p + 1 + (k - p) ≡ k + 1 = omega arith in down k no_edge b (omega arith) ∙ ap (edge_at es) next;
    }

pub closed_rising : (n p : ℕ) (es es' : List Edge) → p < n → Rising n es → Closed n p es es' → Rising (n - 1) es'
closed_rising n p es es' pn r o i j l h =
    ⊎_elim
    (λ (s : j < p).
    let x = bytes (o.before i (omega arith)) in
    let y = bytes (o.before j s) in
    let z = r i j l (omega arith) in
    omega arith)
    (λ (s : p ≤ j).
    let y = bytes (o.after j s (omega arith)) in
    ⊎_elim
    (λ (t : i < p). let x = bytes (o.before i t) in let z = r i (j + 1) (omega arith) (omega arith) in omega arith)
    (λ (t : p ≤ i). let x = bytes (o.after i t (omega arith)) in let z = r (i + 1) (j + 1) (omega arith) (omega arith) in omega arith)
    (cases_lt i p))
    (cases_lt j p)

pub closed_changed : (n p : ℕ) (es es' : List Edge) (b : ℕ) → p < n → (edge_at es p).byte ≡ b → Rising n es → Closed n p es es' → Changed (listed n es) (listed (n - 1) es') b None
closed_changed n p es es' b pn at r o =
    let r' = closed_rising n p es es' pn r o in
    changed_from (listed n es) (listed (n - 1) es') b None
    (listed_miss (n - 1) es' b
    (λ i l e.
    ⊎_elim
    (λ (s : i < p). let x = bytes (o.before i s) in let z = r i p s (omega arith) in omega arith)
    (λ (s : p ≤ i). let x = bytes (o.after i s (omega arith)) in let z = r p (i + 1) (omega arith) (omega arith) in omega arith)
    (cases_lt i p)))
    (λ k ne.
    ⊎_elim
    (λ w.
    let i = w.0 in
    let l = w.1 in
    ⊎_elim
    (λ (s : i ≡ p). absurd (ne (sym w.2 ∙ ap (λ j. (edge_at es j).byte) s ∙ at)))
    (λ t. ⊎_elim
    (λ (s : i < p). moved n (n - 1) i i es es' r r' l (omega arith) (o.before i s) k w.2)
    (λ (s : p < i).
    let back : i - 1 + 1 ≡ i = omega arith in
    moved n (n - 1) i (i - 1) es es' r r' l (omega arith) (o.after (i - 1) (omega arith) (omega arith) ∙ ap (edge_at es) back) k w.2)
    t)
    (cases_order i p))
    (λ a.
    listed_miss (n - 1) es' k
    (λ i l e.
    ⊎_elim
    (λ (s : i < p). a i (omega arith) (sym (bytes (o.before i s)) ∙ e))
    (λ (s : p ≤ i). a (i + 1) (omega arith) (sym (bytes (o.after i s (omega arith))) ∙ e))
    (cases_lt i p))
    ∙ sym (listed_miss n es k a))
    (placed n es k))

-- another child under the byte at p
abbrev pub renewed : List Edge → ℕ → Child → List Edge
renewed es p c = set es p (record { byte = (edge_at es p).byte; child = c })

same_byte : (es : List Edge) (p : ℕ) (c : Child) → p < length es → (i : ℕ) → (edge_at (renewed es p c) i).byte ≡ (edge_at es i).byte
same_byte es p c l i =
    let e : Edge = record { byte = (edge_at es p).byte; child = c } in
    ⊎_elim
    (λ (q : i ≡ p). ap (λ j. (edge_at (renewed es p c) j).byte) q ∙ bytes (get_or-set_same es p e no_edge l) ∙ ap (λ j. (edge_at es j).byte) (sym q))
    (λ (q : i ≡ p → ⊥). bytes (get_or-set_other es p i e no_edge q))
    (cases_eq i p)

pub renewed_rising : (n p : ℕ) (es : List Edge) (c : Child) → p < length es → Rising n es → Rising n (renewed es p c)
renewed_rising n p es c l r i j m h =
    let bi = same_byte es p c l i in
    let bj = same_byte es p c l j in
    let x = r i j m h in
    omega arith

pub renewed_changed : (n p : ℕ) (es : List Edge) (b : ℕ) (c : Child) → p < n → p < length es → (edge_at es p).byte ≡ b → Rising n es → Changed (listed n es) (listed n (renewed es p c)) b (Some c)
renewed_changed n p es b c pn l at r =
    let e : Edge = record { byte = (edge_at es p).byte; child = c } in
    let here = get_or-set_same es p e no_edge l in
    let r' = renewed_rising n p es c l r in
    changed_from (listed n es) (listed n (renewed es p c)) b (Some c)
    (listed_hit n (renewed es p c) r' p pn b (bytes here ∙ at) ∙ ap (λ (e : Edge). Some e.child) here)
    (λ k ne.
    ⊎_elim
    (λ w.
    let other : w.0 ≢ p = λ s. ne (sym w.2 ∙ ap (λ j. (edge_at es j).byte) s ∙ at) in
    moved n n w.0 w.0 es (renewed es p c) r r' w.1 w.1 (get_or-set_other es p w.0 e no_edge other) k w.2)
    (λ a. listed_miss n (renewed es p c) k (λ i m q. a i m (sym (same_byte es p c l i) ∙ q)) ∙ sym (listed_miss n es k a))
    (placed n es k))
