-- What the writes share.
use Rattle.std.proofs.Common.{◌≡◌, ℕ, zero, suc, ◌+◌, ◌<◌, ◌≤◌, List, [], ◌∷◌, ◌++◌, length, Some, Option, sym, ap, ◌∙◌, subst, inl, inr, ⊎_elim, arith}
use native.Mathlib.Decide.{ℕ_discrete}
use Rattle.model.specs.Bytes.{◌≼◌}
use Rattle.model.specs.Refs.{Ref, IsNode}
use Rattle.model.specs.Tree.{Tree, Entry, child, prefix, count, one, fan, Ghost, Linked, TreeOk}
use Rattle.model.specs.Refs.Ref.{leaf}
use Rattle.model.specs.Tree.Status.{drawn}
use Rattle.model_tree.specs.Graft.{In, Wrote, Fits, Grown, Graft}
use Rattle.model_tree.specs.Writes.{Laws, Fork, Added, Removed}
use Rattle.model.proofs.Bytes.{none_some, some_inj, ≼_app, ≼_trans, ≼_len, snoc_len}
use Rattle.model.proofs.Reach.{key_one}
use Rattle.model_tree.proofs.Graft.{linked_drawn, count_put, linked_after}

pub leaf_inj : (i j : ℕ) → leaf i ≡ leaf j → i ≡ j
leaf_inj i j e = cc e

pub node_leaf : (x : Ref) (i : ℕ) → IsNode x → x ≡ leaf i → ⊥
node_leaf x i n e = subst IsNode e n

-- a linked one is no drawn one
pub unlike : (G : Ghost) (x y : Ref) → Linked G x → G.st y ≡ drawn → x ≡ y → ⊥
unlike G x y l d e = linked_drawn (G.st x) l (subst (λ (v : Ref). G.st v ≡ drawn) (sym e) d)

pub fan_put : (S T : Tree) (a : Ref) (b : ℕ) (z : Option Ref) → Wrote S T a b z → b < 256 → fan T a + one (child S a b) ≡ fan S a + one z
unfolding fan
fan_put S T a b z w l =
    let e = count_put (child S a) (child T a) b 256 l (λ c ne. w.elsewhere a c (λ _ q. ne q)) in
    e ∙ ap (λ (v : Option Ref). count (child S a) 256 + one v) w.there

pub count_one : (f : ℕ → Option Ref) (n c : ℕ) (u : Ref) → c < n → f c ≡ Some u → 1 ≤ count f n
unfolding count
count_one f zero c u l e = absurd (omega (arith, l))
count_one f (suc n) c u l e = elim (ℕ_discrete c n) [
  | yes q ↦ (let h : one (f n) ≡ 1 = ap (λ (m : ℕ). one (f m)) (sym q) ∙ ap one e in omega (arith, h))
  | no ne ↦ omega (arith, count_one f n c u (omega (arith, l, ne)) e)
]

pub count_two : (f : ℕ → Option Ref) (n c d : ℕ) (u w : Ref) → c < n → d < n → (c ≡ d → ⊥) → f c ≡ Some u → f d ≡ Some w → 2 ≤ count f n
unfolding count
count_two f zero c d u w l m ne e g = absurd (omega (arith, l))
count_two f (suc n) c d u w l m ne e g = elim (ℕ_discrete c n) [
  | yes q ↦ (let h : one (f n) ≡ 1 = ap (λ (m : ℕ). one (f m)) (sym q) ∙ ap one e in omega (arith, h, count_one f n d w (omega (arith, m, q, ne)) g))
  | no nc ↦ elim (ℕ_discrete d n) [
    | yes q ↦ (let h : one (f n) ≡ 1 = ap (λ (m : ℕ). one (f m)) (sym q) ∙ ap one g in omega (arith, h, count_one f n c u (omega (arith, l, nc)) e))
    | no nd ↦ omega (arith, count_two f n c d u w (omega (arith, l, nc)) (omega (arith, m, nd)) ne e g)
  ]
]

-- what goes on to an accepted key is short, and begins with no accepted key
pub short_of : {deep : ℕ} {Key : List ℕ → Type 0} → Laws deep Key → (u : List ℕ) (c : ℕ) (k : List ℕ) → Key k → (u ++ (c ∷ [])) ≼ k → (length u < deep) × ((j : List ℕ) → Key j → j ≼ u → ⊥)
short_of q u c k a h =
    let n = snoc_len u c in
    let m = ≼_len (u ++ (c ∷ [])) k h in (
      omega (arith, n, m, q.fits k a),
      λ j aj hj.
          let e = q.apart j k aj a (≼_trans j (u ++ (c ∷ [])) k (≼_trans j u (u ++ (c ∷ [])) hj (≼_app u (c ∷ []))) h) in
          omega (arith, n, m, ≼_len j u hj, ap length e),
    )

pub fork_kids : (S : Tree) (G : Ghost) (y : Ref) (c : ℕ) (u : Ref) (d : ℕ) (w : Ref) → Fork S G y c u d w → (P : ℕ → Ref → Type 0) → P c u → P d w → (e : ℕ) (x : Ref) → child S y e ≡ Some x → P e x
fork_kids S G y c u d w f P pc pd e x k = elim (ℕ_discrete e c) [
  | yes q ↦ subst (λ (v : ℕ). P v x) (sym q) (subst (P c) (some_inj u x (sym f.first ∙ ap (child S y) (sym q) ∙ k)) pc)
  | no nc ↦ elim (ℕ_discrete e d) [
    | yes q ↦ subst (λ (v : ℕ). P v x) (sym q) (subst (P d) (some_inj w x (sym f.second ∙ ap (child S y) (sym q) ∙ k)) pd)
    | no nd ↦ absurd (none_some (sym (f.rest e nc nd) ∙ k))
  ]
]

pub fork_wide : (S : Tree) (G : Ghost) (y : Ref) (c : ℕ) (u : Ref) (d : ℕ) (w : Ref) → Fork S G y c u d w → 2 ≤ fan S y
unfolding fan
fork_wide S G y c u d w f = count_two (child S y) 256 c d u w f.c_byte f.d_byte f.apart f.first f.second

pub fit_leaf : {deep : ℕ} {Key : List ℕ → Type 0} {flux : Ref → Type 0} (S : Tree) (H : Ghost) (i : ℕ) → H.path (leaf i) ≼ (S.entries i).key → Key (S.entries i).key → Fits deep Key flux S H (leaf i)
fit_leaf {deep} {Key} {flux} S H i h a = record {
  split = λ n. absurd n;
  entry = λ j e. subst (λ (v : ℕ). (H.path (leaf i) ≼ (S.entries v).key) × Key (S.entries v).key) (leaf_inj i j e) (h, a);
}

pub fit_node : {deep : ℕ} {Key : List ℕ → Type 0} {flux : Ref → Type 0} (S : Tree) (H : Ghost) (x : Ref) → IsNode x → H.path x ++ prefix S x ≡ H.full x → Fits deep Key flux S H x
fit_node S H x n e = record {
  split = λ _. (subst (λ (v : List ℕ). H.path x ≼ v) e (≼_app (H.path x) (prefix S x)), inl e);
  entry = λ j q. absurd (node_leaf x j n q);
}

pub grown_leaf : {deep : ℕ} {Key : List ℕ → Type 0} (S : Tree) (H : Ghost) (i : ℕ) → Grown deep Key S H (leaf i)
grown_leaf S H i = record { short = λ n. absurd n; wide = λ n. absurd n; kids = λ c y e. absurd (none_some e) }

module _ {deep : ℕ} {Key : List ℕ → Type 0} {flux flux' : Ref → Type 0} {S T : Tree} {G H : Ghost} {a : Ref} {b : ℕ} {z : Option Ref} {new old moved : List Ref} {now : ℕ}
    (t : TreeOk deep Key flux S G) (g : Graft deep Key flux flux' S T G H a b z new old moved now) where
  pub same_entry : (j : ℕ) (k : List ℕ) (v : ℕ) → ((S.entries j).key ≡ k) × ((S.entries j).value ≡ v) → ((T.entries j).key ≡ k) × ((T.entries j).value ≡ v)
  same_entry j k v h = subst (λ (e : Entry). (e.key ≡ k) × (e.value ≡ v)) (sym (g.wrote.entries j)) h

  pub back_entry : (j : ℕ) (k : List ℕ) (v : ℕ) → ((T.entries j).key ≡ k) × ((T.entries j).value ≡ v) → ((S.entries j).key ≡ k) × ((S.entries j).value ≡ v)
  back_entry j k v h = subst (λ (e : Entry). (e.key ≡ k) × (e.value ≡ v)) (g.wrote.entries j) h

  pub added : (i : ℕ) (k : List ℕ) (v : ℕ) → In (leaf i) new → ((j : ℕ) → In (leaf j) new → j ≡ i) → ((j : ℕ) → In (leaf j) old → ⊥)
      → (S.entries i).key ≡ k → (S.entries i).value ≡ v → Added S G T H k v
  added i k v has only none ek ev j u = (
    (λ h. let e = back_entry h.0 j u (h.2, h.3) in
        ⊎_elim (λ n. let q = only h.0 n in
        inl (sym e.0 ∙ ap (λ (x : ℕ). (S.entries x).key) q ∙ ek, sym e.1 ∙ ap (λ (x : ℕ). (S.entries x).value) q ∙ ev))
        (λ p. inr (h.0, p.0, e.0, e.1)) ((linked_after t g (leaf h.0)).0 h.1)),
    (λ s. ⊎_elim
        (λ p. let e = same_entry i j u (ek ∙ sym p.0, ev ∙ sym p.1) in (i, (linked_after t g (leaf i)).1 (inl has), e.0, e.1))
        (λ h. let e = same_entry h.0 j u (h.2, h.3) in (h.0, (linked_after t g (leaf h.0)).1 (inr (h.1, none h.0)), e.0, e.1)) s),
  )

  pub removed : (i : ℕ) → Linked G (leaf i) → In (leaf i) old → ((j : ℕ) → In (leaf j) old → j ≡ i) → ((j : ℕ) → In (leaf j) new → ⊥)
      → Removed S G T H (S.entries i).key
  removed i l has only none j u = (
    (λ h. let e = back_entry h.0 j u (h.2, h.3) in
        ⊎_elim (λ n. absurd (none h.0 n))
        (λ p. (
          (h.0, p.0, e.0, e.1),
          λ q. p.1 (subst (λ (x : Ref). In x old) (key_one t i h.0 l p.0 (sym q ∙ sym e.0)) has),
        ))
        ((linked_after t g (leaf h.0)).0 h.1)),
    (λ s. let h = s.0 in
        let e = same_entry h.0 j u (h.2, h.3) in
        (h.0, (linked_after t g (leaf h.0)).1 (inr (h.1, λ n. s.1 (sym h.2 ∙ ap (λ (x : ℕ). (S.entries x).key) (only h.0 n)))), e.0, e.1)),
  )
