-- The writes of a removal keep the tree good, and take the key out.
use Rattle.std.proofs.Common.{◌≡◌, ℕ, ◌⊎◌, List, [], ◌∷◌, ◌++◌, length, Some, None, Option, sym, refl, ap, ◌∙◌, subst, inl, inr, ⊎_elim, arith}
use native.Mathlib.Decide.{ℕ_discrete}
use Rattle.model.specs.Bytes.{◌≼◌}
use Rattle.model.specs.Refs.{Ref, IsNode}
use Rattle.model.specs.Tree.{Tree, child, prefix, one, Ghost, Linked, TreeOk}
use Rattle.model.specs.Refs.Ref.{leaf, node}
use Rattle.model_tree.specs.Graft.{In, KidOf, Wrote, Turned, Fits, Graft}
use Rattle.model_tree.specs.Writes.{InPlace, Collapse, After, Removed}
use Rattle.model.proofs.Bytes.{none_some, some_inj, is_node_lem, ≼_trans}
use Rattle.model.proofs.Reach.{past, parent_one}
use Rattle.model_tree.proofs.Graft.{grafted, closed_after}
use Rattle.model_tree.proofs.Turn.{Place, turn, turns, assign_same}
use Rattle.model_tree.proofs.Parts.{node_leaf, fan_put, fit_leaf, fit_node, leaf_inj, removed}

module _ {deep : ℕ} {Key : List ℕ → Type 0} {flux : Ref → Type 0} {S T : Tree} {G : Ghost} (t : TreeOk deep Key flux S G) (n : Ref) (b i now : ℕ)
    (p : InPlace S G n b i) (w : Wrote S T n b None) where
  inplace_ghost : Ghost
  inplace_ghost = turn G [] (leaf i ∷ []) [] [] now

  inplace_leaf : Linked G (leaf i)
  inplace_leaf = (t.kid n b (leaf i) p.here p.there).0

  inplace_graft : Graft deep Key flux flux S T G inplace_ghost n b None [] (leaf i ∷ []) [] now
  unfolding inplace_ghost
  inplace_graft =
      let u : Turned G inplace_ghost [] (leaf i ∷ []) [] now = turns G [] (leaf i ∷ []) [] [] [] now tt (inplace_leaf, tt) (λ x h. absurd h) (λ x h. absurd h) in
      let e = fan_put S T n b None w p.byte in
      let z : one (child S n b) ≡ 1 = ap one p.there in
      record {
        wrote = w;
        turned = u;
        flows = λ x _ _ h. h;
        at = p.at;
        before = p.here;
        after = u.stay n (λ q. q) (λ h. ⊎_elim (λ q. node_leaf n i p.at q) (λ q. q) h) ∙ p.here;
        enough = λ r. omega (arith, e, z, p.enough r);
        room = omega (arith, e, z, t.narrow n p.at);
        put = λ y q. absurd (none_some q);
        fit = tt;
        grown = tt;
        fit_moved = tt;
        hung = tt;
        cut = (inl p.there, tt);
        taken = tt;
        kept = λ y q. inl (inl (some_inj y (leaf i) (sym q ∙ p.there)));
        kept_below = ((λ c y q. absurd (none_some q)), tt);
      }

  pub inplace_keeps : (A : After deep Key flux S T G [] (leaf i ∷ []) [] now) × Removed S G T A.ghost' (S.entries i).key
  inplace_keeps = (
    record { ghost' = inplace_ghost; turned = inplace_graft.turned; good = grafted t inplace_graft; closed = closed_after t inplace_graft },
    removed t inplace_graft i inplace_leaf (inl refl) (λ j h. ⊎_elim (λ e. leaf_inj j i e) (λ q. absurd q) h) (λ j h. h),
  )

-- what is left takes the place of its parent
fit_left : {deep : ℕ} {Key : List ℕ → Type 0} {flux : Ref → Type 0} (S : Tree) (H : Ghost) (u : List ℕ) (w : Ref) → H.path w ≡ u
    → (IsNode w → u ++ prefix S w ≡ H.full w) → ((j : ℕ) → w ≡ leaf j → (u ≼ (S.entries j).key) × Key (S.entries j).key) → Fits deep Key flux S H w
fit_left S H u (leaf j) e n l = fit_leaf S H j (subst (λ (x : List ℕ). x ≼ (S.entries j).key) (sym e) (l j refl).0) (l j refl).1
fit_left S H u (node k s) e n l = fit_node S H (node k s) tt (ap (λ (x : List ℕ). x ++ prefix S (node k s)) e ∙ n tt)

module _ {deep : ℕ} {Key : List ℕ → Type 0} {flux flux' : Ref → Type 0} {S T : Tree} {G : Ghost} (t : TreeOk deep Key flux S G) (r : Ref) (b : ℕ) (n : Ref) (c i d : ℕ) (m : Ref) (now : ℕ)
    (p : Collapse S G r b n c i d m) (w : Wrote S T r b (Some m)) (fl : (x : Ref) → (x ≡ m → ⊥) → flux x → flux' x) where
  left_place : Place
  left_place = record { ref = m; bytes = G.path n }

  collapse_ghost : Ghost
  collapse_ghost = turn G [] (n ∷ leaf i ∷ []) (left_place ∷ []) [] now

  gone_node : Linked G n
  gone_node = (t.kid r b n p.here p.there).0

  gone_leaf : Linked G (leaf i)
  gone_leaf = (t.kid n c (leaf i) gone_node p.first).0

  left_linked : Linked G m
  left_linked = (t.kid n d m gone_node p.second).0

  left_not_old : In m (n ∷ leaf i ∷ []) → ⊥
  left_not_old (inl q) = omega (arith, (past t n d m gone_node p.second).2, ap (λ (x : Ref). length (G.path x)) q)
  left_not_old (inr (inl q)) = p.apart (parent_one t n n c d m gone_node gone_node (p.first ∙ ap {B = Option Ref} Some (sym q)) p.second).1
  left_not_old (inr (inr q)) = q

  above_not_old : In r (n ∷ leaf i ∷ []) → ⊥
  above_not_old (inl q) = omega (arith, (past t r b n p.here p.there).2, ap (λ (x : Ref). length (G.path x)) q)
  above_not_old (inr (inl q)) = node_leaf r i p.at q
  above_not_old (inr (inr q)) = q

  -- where the children of n are after
  left_kept : (e : ℕ) (y : Ref) → child S n e ≡ Some y → In y (n ∷ leaf i ∷ []) ⊎ ((Some m ≡ Some y) ⊎ KidOf S [] y)
  left_kept e y h = elim (ℕ_discrete e c) [
    | yes q ↦ inl (inr (inl (some_inj y (leaf i) (sym h ∙ ap (child S n) q ∙ p.first))))
    | no nc ↦ elim (ℕ_discrete e d) [
      | yes q ↦ inr (inl (sym p.second ∙ ap (child S n) (sym q) ∙ h))
      | no nd ↦ absurd (none_some (sym (p.rest e nc nd) ∙ h))
    ]
  ]

  collapse_graft : Graft deep Key flux flux' S T G collapse_ghost r b (Some m) [] (n ∷ leaf i ∷ []) (m ∷ []) now
  unfolding collapse_ghost left_place
  collapse_graft =
      let H = collapse_ghost in
      let kn = t.kid r b n p.here p.there in
      let km = t.kid n d m gone_node p.second in
      let u : Turned G H [] (n ∷ leaf i ∷ []) (m ∷ []) now = turns G [] (n ∷ leaf i ∷ []) (m ∷ []) (left_place ∷ []) [] now tt (gone_node, (gone_leaf, tt)) (λ x h. inr h) (λ x h. absurd h) in
      let pm : H.path m ≡ G.path n = assign_same G.path left_place [] in
      let e = fan_put S T r b (Some m) w p.byte in
      let z : one (child S r b) ≡ 1 = ap one p.there in
      record {
        wrote = w;
        turned = u;
        flows = λ x _ o h. fl x (λ q. o (inl q)) h;
        at = p.at;
        before = p.here;
        after = u.stay r (λ q. q) above_not_old ∙ p.here;
        enough = λ q. omega (arith, e, z, t.wide r p.at q (inl p.here));
        room = omega (arith, e, z, t.narrow r p.at);
        put = λ y q. subst (λ (x : Ref). Linked H x × (H.path x ≡ G.full r ++ (b ∷ []))) (some_inj m y q) (u.stay m (λ q. q) left_not_old ∙ left_linked, pm ∙ kn.1);
        fit = tt;
        grown = tt;
        fit_moved = (
          fit_left S H (G.path n) m pm (λ k. p.joined k ∙ sym (u.fulls m (λ q. q)))
              (λ j q. let h = t.entry j (subst (Linked G) q left_linked) in
              (≼_trans (G.path n) (G.path (leaf j)) (S.entries j).key (subst (λ (x : Ref). G.path n ≼ G.path x) q (past t n d m gone_node p.second).0) h.0, h.1)),
          tt,
        );
        hung = tt;
        cut = (inl p.there, (inr (n, inl refl, c, p.first), tt));
        taken = (inr (n, inl refl, d, p.second), tt);
        kept = λ y q. inl (inl (some_inj y n (sym q ∙ p.there)));
        kept_below = (left_kept, ((λ c y q. absurd (none_some q)), tt));
      }

  pub collapse_keeps : (A : After deep Key flux' S T G [] (n ∷ leaf i ∷ []) (m ∷ []) now) × Removed S G T A.ghost' (S.entries i).key
  collapse_keeps = (
    record { ghost' = collapse_ghost; turned = collapse_graft.turned; good = grafted t collapse_graft; closed = closed_after t collapse_graft },
    removed t collapse_graft i gone_leaf (inr (inl refl)) only (λ j h. h),
  )
    where
      only : (j : ℕ) → In (leaf j) (n ∷ leaf i ∷ []) → j ≡ i
      only j (inl e) = absurd (node_leaf n j (is_node_lem S n c (leaf i) p.first) (sym e))
      only j (inr (inl e)) = leaf_inj j i e
      only j (inr (inr q)) = absurd q
