-- What touches nothing linked keeps the tree good.
use Rattle.std.proofs.Common.{◌≡◌, ℕ, ◌<◌, ◌≤◌, ◌⊎◌, List, [], ◌∷◌, ◌++◌, length, sym, ap, ◌∙◌, subst, inl, inr, ⊎_elim}
use Rattle.model.specs.Bytes.{◌≼◌}
use Rattle.model.specs.Refs.{Ref, root}
use Rattle.model.specs.Tree.{Tree, Entry, child, prefix, fan, Ghost, Linked, Retired, TreeOk, Holds}
use Rattle.model.specs.Refs.Ref.{leaf}
use Rattle.model_tree.specs.Graft.{Closed}
use Rattle.model_tree.specs.Writes.{Aside}
use Rattle.model_tree.proofs.Graft.{count_same}

module _ {deep : ℕ} {Key : List ℕ → Type 0} {flux : Ref → Type 0} {S T : Tree} {G H : Ghost} (t : TreeOk deep Key flux S G) (a : Aside S T G H) where
  fan_aside : (x : Ref) → Linked G x ⊎ Retired H x → fan T x ≡ fan S x
  unfolding fan
  fan_aside x l = count_same (child S x) (child T x) 256 (λ c _. a.kids x l c)

  pub aside : TreeOk deep Key flux T H
  aside = record {
    root_linked = a.to root t.root_linked;
    root_path = a.paths root t.root_linked ∙ t.root_path;
    root_full = a.fulls root t.root_linked ∙ t.root_full;
    root_prefix = a.prefixes root t.root_linked ∙ t.root_prefix;
    kid = λ x b y l e.
        let lx = a.from x l in
        let k = t.kid x b y lx (sym (a.kids x (inl lx) b) ∙ e) in
        (a.to y k.0, a.paths y k.0 ∙ k.1 ∙ ap (λ (u : List ℕ). u ++ (b ∷ [])) (sym (a.fulls x lx)));
    parent = λ y l r. let p = t.parent y (a.from y l) r in (p.0, p.1, a.to p.0 p.2, a.kids p.0 (inl p.2) p.1 ∙ p.3);
    split = λ x n l.
        let lx = a.from x l in
        let s = t.split x n lx in
        let p = a.paths x lx in
        let f = a.fulls x lx in (
          subst (λ (u : List ℕ). u ≼ H.full x) (sym p) (subst (λ (u : List ℕ). G.path x ≼ u) (sym f) s.0),
          ⊎_elim (λ e. inl (ap (λ (u : List ℕ). u ++ prefix T x) p ∙ ap (λ (u : List ℕ). G.path x ++ u) (a.prefixes x lx) ∙ e ∙ sym f)) inr s.1,
        );
    entry = λ i l.
        let li = a.from (leaf i) l in
        subst (λ (e : Entry). (H.path (leaf i) ≼ e.key) × Key e.key) (sym (a.entries i li))
        (subst (λ (u : List ℕ). u ≼ (S.entries i).key) (sym (a.paths (leaf i) li)) (t.entry i li).0, (t.entry i li).1);
    short = λ x n l. let lx = a.from x l in
        subst (λ (u : List ℕ). (length u < deep) × ((k : List ℕ) → Key k → k ≼ u → ⊥)) (sym (a.fulls x lx)) (t.short x n lx);
    wide = λ x n r u. ⊎_elim
        (λ l. let lx = a.from x l in subst (λ (v : ℕ). 2 ≤ v) (sym (fan_aside x (inl lx))) (t.wide x n r (inl lx)))
        (λ q. subst (λ (v : ℕ). 2 ≤ v) (sym (fan_aside x (inr q))) (t.wide x n r (inr (q.0, a.since x q.0 q.1)))) u;
    narrow = a.room;
  }

  pub aside_closed : Closed S G → Closed T H
  aside_closed h x r b y e k = ⊎_elim (λ l. inl (a.to y l)) (λ q. inr (q.0, a.later x y r q.0 e q.1 q.2, q.2))
      (h x r b y (a.since x r e) (sym (a.kids x (inr (r, e)) b) ∙ k))

  pub aside_holds : (k : List ℕ) (v : ℕ) → (Holds T H k v → Holds S G k v) × (Holds S G k v → Holds T H k v)
  aside_holds k v = (
    (λ h. let l = a.from (leaf h.0) h.1 in
        let e = subst (λ (x : Entry). (x.key ≡ k) × (x.value ≡ v)) (a.entries h.0 l) (h.2, h.3) in (h.0, l, e.0, e.1)),
    (λ h. let e = subst (λ (x : Entry). (x.key ≡ k) × (x.value ≡ v)) (sym (a.entries h.0 h.1)) (h.2, h.3) in (h.0, a.to (leaf h.0) h.1, e.0, e.1)),
  )
