use Rattle.std.proofs.Common.{◌≡◌, ℕ, zero, suc, ◌+◌, ◌<◌, ◌≤◌, eqb, ◌⊎◌, List, length, take, Option, Bor, Some, None, sym, refl, ap, ◌∙◌, subst, inl, inr, ⊎_elim, arith, length-take-le, get_or-take}
use Rattle.std.proofs.lemmas.Bool.{eq-eqb, ne_eqb, cases_eq, cond-true, cond-false, cases_lt}
use Rattle.nodes.specs.declared.child.Edge.{Edge}
use Rattle.std.proofs.lemmas.List.{get_or_read}
use Rattle.std.specs.List.{AllWithin, HoldsAt}
use Rattle.std.specs.Slice.{IsItemAt}
use Rattle.std.specs.Option.{MatchOption, option_copied, unwrap_or}
use Rattle.nodes.specs.View.{First, Taken, one, count_to}
use Rattle.nodes.specs.Listed.{listed, Rising, edge_at, no_edge}
use Rattle.nodes.proofs.Views.{none_taken}

-- a byte that none of the first n is
abbrev pub Absent : ℕ → List Edge → ℕ → Type 0
Absent n es k = (i : ℕ) → i < n → (edge_at es i).byte ≡ k → ⊥

pub listed_miss : (n : ℕ) (es : List Edge) (k : ℕ) → Absent n es k → listed n es k ≡ None
unfolding listed
listed_miss zero es k h = refl
listed_miss (suc n) es k h =
    cond-false (eqb (edge_at es n).byte k) (Some (edge_at es n).child) (listed n es k) (ne_eqb (edge_at es n).byte k (h n (omega arith)))
    ∙ listed_miss n es k (λ i l. h i (omega arith))

pub listed_hit : (n : ℕ) (es : List Edge) → Rising n es → (i : ℕ) → i < n → (k : ℕ) → (edge_at es i).byte ≡ k → listed n es k ≡ Some (edge_at es i).child
unfolding listed
listed_hit zero es r i l k e = absurd (omega arith)
listed_hit (suc n) es r i l k e =
    ⊎_elim
    (λ (s : i ≡ n).
    let f = ap (λ j. (edge_at es j).byte) s in
    let g = ap (λ j. Some (edge_at es j).child) s in
    cond-true (eqb (edge_at es n).byte k) (Some (edge_at es n).child) (listed n es k) (eq-eqb (edge_at es n).byte k (sym f ∙ e)) ∙ sym g)
    (λ (s : i ≡ n → ⊥).
    let f = r i n (omega arith) (omega arith) in
    cond-false (eqb (edge_at es n).byte k) (Some (edge_at es n).child) (listed n es k) (ne_eqb (edge_at es n).byte k (λ (q : (edge_at es n).byte ≡ k). omega arith))
    ∙ listed_hit n es (λ a b p q. r a b p (omega arith)) i (omega arith) k e)
    (cases_eq i n)

-- the place of a byte, or that it is absent
pub placed : (n : ℕ) (es : List Edge) (k : ℕ) → ((i : ℕ) × (i < n) × ((edge_at es i).byte ≡ k)) ⊎ Absent n es k
placed zero es k = inr (λ i l e. omega arith)
placed (suc n) es k =
    ⊎_elim
    (λ e. inl (n, omega arith, e))
    (λ d. ⊎_elim
    (λ w. inl (w.0, let h = w.1 in omega arith, w.2))
    (λ a. inr (λ i l e. ⊎_elim (λ (s : i ≡ n). d (sym (ap (λ j. (edge_at es j).byte) s) ∙ e)) (λ (s : i ≡ n → ⊥). a i (omega arith) e) (cases_eq i n)))
    (placed n es k))
    (cases_eq (edge_at es n).byte k)

-- a taken byte has a place
pub taken_place : (n : ℕ) (es : List Edge) (k : ℕ) → Taken (listed n es k) → (i : ℕ) × (i < n) × ((edge_at es i).byte ≡ k)
taken_place n es k t = ⊎_elim (λ w. w) (λ a. absurd (none_taken (listed n es k) (listed_miss n es k a) t)) (placed n es k)

-- where a search for k ends: the bytes before are below k, the one there is not
pub record Sought (n p : ℕ) (es : List Edge) (k : ℕ) : Type 0 where
  pub below : (i : ℕ) → i < p → (edge_at es i).byte < k
  pub here : p < n → k ≤ (edge_at es p).byte

pub found : (n p : ℕ) (es : List Edge) (b k : ℕ) → b ≡ k → ((i : ℕ) → i < p → (edge_at es i).byte < b) → (p < n → b ≤ (edge_at es p).byte) → Sought n p es k
found n p es b k e below here = subst (λ (k : ℕ). Sought n p es k) e (record { below = below; here = here })

-- from there on no byte is below k
sought_after : (n p : ℕ) (es : List Edge) (k : ℕ) → Rising n es → Sought n p es k → (i : ℕ) → p ≤ i → i < n → (i ≡ p) ⊎ (k < (edge_at es i).byte)
sought_after n p es k r s i m l =
    let h = s.here (omega arith) in
    ⊎_elim (λ (q : i ≡ p). inl q) (λ (q : i ≡ p → ⊥). let f = r p i (omega arith) l in inr (omega arith)) (cases_eq i p)

-- where a search for k ends is how many bytes below k are taken
pub rank : (n : ℕ) (es : List Edge) (k p : ℕ) → p ≤ n → Rising n es → ((i : ℕ) → i < p → (edge_at es i).byte < k) → (p < n → k ≤ (edge_at es p).byte) → count_to (listed n es) k ≡ p
unfolding count_to
rank n es zero p pn r low here = ⊎_elim (λ (e : p ≡ 0). sym e) (λ (e : p ≡ 0 → ⊥). let h = low 0 (omega arith) in absurd (omega arith)) (cases_eq p 0)
rank n es (suc k) p pn r low here =
    ⊎_elim
    (λ w.
    let i = w.0 in
    let l = w.1 in
    let e = w.2 in
    let one-is = ap one (listed_hit n es r i l k e) in
    let before : i < p = ⊎_elim (λ (s : i < p). s) (λ (s : p ≤ i). let h = here (omega arith) in
    ⊎_elim (λ (q : i ≡ p). let f = ap (λ j. (edge_at es j).byte) q in absurd (omega arith)) (λ (q : i ≡ p → ⊥). let f = r p i (omega arith) l in absurd (omega arith)) (cases_eq i p)) (cases_lt i p) in
    let last : p ≡ i + 1 = ⊎_elim (λ (s : p ≡ i + 1). s) (λ (s : p ≡ i + 1 → ⊥). let f = r i (i + 1) (omega arith) (omega arith) in let h = low (i + 1) (omega arith) in absurd (omega arith)) (cases_eq p (i + 1)) in
    let rec = rank n es k i (omega arith) r (λ j m. let f = r j i m l in omega arith) (λ m. omega arith) in
    omega arith)
    (λ a.
    let one-is = ap one (listed_miss n es k a) in
    let rec = rank n es k p pn r
    (λ j m. let f = low j m in let g = a j (omega arith) in ⊎_elim (λ (q : (edge_at es j).byte ≡ k). absurd (g q)) (λ (q : (edge_at es j).byte ≡ k → ⊥). omega arith) (cases_eq ((edge_at es j).byte) k))
    (λ m. let h = here m in omega arith) in
    omega arith)
    (placed n es k)

-- the place of the first of them not below k, or n, is where such a search ends
pub sought : (n : ℕ) (es : List Edge) (k : ℕ) (r : Option ℕ) → n ≤ length es → MatchOption r (AllWithin (λ (e : Edge). e.byte < k) (take n es) 0 (length (take n es))) (λ i. (i < length (take n es)) × HoldsAt (λ (e : Edge). k ≤ e.byte) (take n es) i × AllWithin (λ (e : Edge). e.byte < k) (take n es) 0 i) → (unwrap_or r n ≤ n) × Sought n (unwrap_or r n) es k
sought n es k None m w =
    let t = length-take-le n es m in (
      omega arith,
      record {
        below = λ i l. let x = w i no_edge (omega arith) (omega arith) in let y = ap (λ (e : Edge). e.byte) (get_or-take n es i no_edge l) in omega arith;
        here = λ l. absurd (omega arith);
      },
    )
sought n es k (Some p) m w =
    let t = length-take-le n es m in
    let h = w.0 in
    let l : p < n = omega arith in (
      omega arith,
      record {
        below = λ i b. let x = w.2 i no_edge (omega arith) b in let y = ap (λ (e : Edge). e.byte) (get_or-take n es i no_edge (omega arith)) in omega arith;
        here = λ _. let x = w.1 no_edge in let y = ap (λ (e : Edge). e.byte) (get_or-take n es p no_edge l) in omega arith;
      },
    )

-- a byte that does not stand there is absent
pub seek_miss : (n p : ℕ) (es : List Edge) (k : ℕ) → Rising n es → Sought n p es k → (p < n → (edge_at es p).byte ≡ k → ⊥) → Absent n es k
seek_miss n p es k r s not i l e =
    ⊎_elim
    (λ (m : i < p). let f = s.below i m in omega arith)
    (λ (m : p ≤ i).
    ⊎_elim
    (λ (q : i ≡ p). not (omega arith) (sym (ap (λ j. (edge_at es j).byte) q) ∙ e))
    (λ (q : k < (edge_at es i).byte). omega arith)
    (sought_after n p es k r s i m l))
    (cases_lt i p)

-- no byte from k on stands below the one there
pub seek_first : (n p : ℕ) (es : List Edge) (k : ℕ) → Rising n es → Sought n p es k → (j : ℕ) → k ≤ j → (p < n → j < (edge_at es p).byte) → listed n es j ≡ None
seek_first n p es k r s j m h = listed_miss n es j
    (seek_miss n p es j r (record { below = λ i l. let f = s.below i l in omega arith; here = λ l. let f = h l in omega arith }) (λ l e. let f = h l in omega arith))

-- such a search finds a taken byte
pub seek_taken : (n p : ℕ) (es : List Edge) (k : ℕ) → Rising n es → Sought n p es k → Taken (listed n es k) → (p < n) × ((edge_at es p).byte ≡ k)
seek_taken n p es k r s t =
    let w = taken_place n es k t in
    let l = w.1 in
    let e = w.2 in
    ⊎_elim
    (λ (m : w.0 < p). let f = s.below w.0 m in absurd (omega arith))
    (λ (m : p ≤ w.0).
    ⊎_elim
    (λ (q : w.0 ≡ p). let f = ap (λ j. (edge_at es j).byte) q in (omega arith, omega arith))
    (λ (q : k < (edge_at es w.0).byte). absurd (omega arith))
    (sought_after n p es k r s w.0 m w.1))
    (cases_lt w.0 p)

-- and it finds no free one
pub seek_free : (n p : ℕ) (es : List Edge) (k : ℕ) → Rising n es → Sought n p es k → listed n es k ≡ None → p < n → k < (edge_at es p).byte
seek_free n p es k r s e l =
    let h = s.here l in
    ⊎_elim
    (λ (q : (edge_at es p).byte ≡ k). let z : ◌≡◌ {A = ℕ} 0 1 = let f = listed_hit n es r p l k q in cc in absurd (omega arith))
    (λ (q : (edge_at es p).byte ≡ k → ⊥). omega arith)
    (cases_eq (edge_at es p).byte k)

-- what is read there is the first child from k on
pub seek_read : (n p : ℕ) (es : List Edge) (k : ℕ) → n ≤ length es → Rising n es → Sought n p es k → (o : Option (Bor Edge)) → IsItemAt (take n es) p o → First (listed n es) k (option_copied o)
seek_read n p es k m r s None i = let t = length-take-le n es m in λ j l. seek_first n p es k r s j l (λ h. absurd (omega arith))
seek_read n p es k m r s (Some x) i =
    let t = length-take-le n es m in
    let l : p < n = omega arith in
    let e : x.now ≡ edge_at es p = get_or_read (take n es) p x.now (omega arith) i.1 no_edge ∙ get_or-take n es p no_edge l in
    let b = ap (λ (e : Edge). e.byte) e in (
      (let h = s.here l in omega arith),
      listed_hit n es r p l x.now.byte (sym b) ∙ ap (λ (e : Edge). Some e.child) (sym e),
      (λ j h q. seek_first n p es k r s j h (λ _. omega arith)),
    )
