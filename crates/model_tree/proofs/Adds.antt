-- The writes of an add keep the tree good, and add the key.
use Rattle.std.proofs.Common.{◌≡◌, ℕ, ◌<◌, ◌≤◌, List, [], ◌∷◌, ◌++◌, length, Some, sym, refl, ap, ◌∙◌, subst, inl, inr, ⊎_elim, arith}
use native.Mathlib.Decide.{ℕ_discrete}
use Rattle.model.specs.Bytes.{◌≼◌}
use Rattle.model.specs.Refs.{Ref, root, IsNode}
use Rattle.model.specs.Tree.{Tree, child, prefix, one, fan, Ghost, Linked, TreeOk}
use Rattle.model.specs.Refs.Ref.{leaf}
use Rattle.model.specs.Tree.Status.{drawn}
use Rattle.model_tree.specs.Graft.{In, KidOf, Wrote, Turned, Graft}
use Rattle.model_tree.specs.Writes.{Laws, Insert, Split, Grow, Miss, After, Added}
use Rattle.model.proofs.Bytes.{none_some, some_inj}
use Rattle.model.proofs.Reach.{past}
use Rattle.model_tree.proofs.Graft.{grafted, closed_after, count_put}
use Rattle.model_tree.proofs.Turn.{Place, to, turn, turns, assign_same, assign_next}
use Rattle.model_tree.proofs.Parts.{node_leaf, unlike, fan_put, short_of, fork_kids, fork_wide, fit_leaf, fit_node, grown_leaf, leaf_inj, added}

module _ {deep : ℕ} {Key : List ℕ → Type 0} {flux : Ref → Type 0} {S T : Tree} {G : Ghost} (t : TreeOk deep Key flux S G) (n : Ref) (b i : ℕ) (k : List ℕ) (v now : ℕ)
    (p : Insert Key S G n b i k v) (w : Wrote S T n b (Some (leaf i))) where
  insert_ghost : Ghost
  insert_ghost = turn G (leaf i ∷ []) [] (to (leaf i) (G.full n ++ (b ∷ [])) ∷ []) [] now

  insert_graft : Graft deep Key flux flux S T G insert_ghost n b (Some (leaf i)) (leaf i ∷ []) [] [] now
  unfolding insert_ghost
  insert_graft =
      let f = p.fresh in
      let H = insert_ghost in
      let u : Turned G H (leaf i ∷ []) [] [] now = turns G (leaf i ∷ []) [] [] (to (leaf i) (G.full n ++ (b ∷ [])) ∷ []) [] now (f.drawn', tt) tt (λ x h. inl h) (λ x h. absurd h) in
      let path : H.path (leaf i) ≡ G.full n ++ (b ∷ []) = assign_same G.path (to (leaf i) (G.full n ++ (b ∷ []))) [] in
      let e = fan_put S T n b (Some (leaf i)) w p.byte in
      let z : one (child S n b) ≡ 0 = ap one p.free in
      record {
        wrote = w;
        turned = u;
        flows = λ x _ _ h. h;
        at = p.at;
        before = p.here;
        after = u.stay n (λ h. ⊎_elim (λ q. node_leaf n i p.at q) (λ q. q) h) (λ q. q) ∙ p.here;
        enough = λ r. omega (arith, e, z, t.wide n p.at r (inl p.here));
        room = omega (arith, e, z, p.room);
        put = λ y q. subst (λ (x : Ref). Linked H x × (H.path x ≡ G.full n ++ (b ∷ []))) (some_inj (leaf i) y q) (u.come.0.1, path);
        fit = (
          fit_leaf S H i (subst (λ (x : List ℕ). x ≼ (S.entries i).key) (sym path) (subst (λ (x : List ℕ). (G.full n ++ (b ∷ [])) ≼ x) (sym f.key) p.way))
              (subst Key (sym f.key) f.accepted),
          tt,
        );
        grown = (grown_leaf S H i, tt);
        fit_moved = tt;
        hung = (inl refl, tt);
        cut = tt;
        taken = tt;
        kept = λ y q. absurd (none_some (sym p.free ∙ q));
        kept_below = tt;
      }

  pub insert_keeps : (A : After deep Key flux S T G (leaf i ∷ []) [] [] now) × Added S G T A.ghost' k v
  insert_keeps = (
    record { ghost' = insert_ghost; turned = insert_graft.turned; good = grafted t insert_graft; closed = closed_after t insert_graft },
    added t insert_graft i k v (inl refl) (λ j h. ⊎_elim (λ e. leaf_inj j i e) (λ q. absurd q) h) (λ j h. h) p.fresh.key p.fresh.value,
  )

-- of a node and a leaf, the leaf is the one leaf
leaf_of_two : (y : Ref) (i : ℕ) → IsNode y → (j : ℕ) → In (leaf j) (y ∷ leaf i ∷ []) → j ≡ i
leaf_of_two y i n j (inl e) = absurd (node_leaf y j n (sym e))
leaf_of_two y i n j (inr (inl e)) = leaf_inj j i e
leaf_of_two y i n j (inr (inr q)) = absurd q

-- neither the drawn node nor the drawn leaf
not_two : (G : Ghost) (x y : Ref) (i : ℕ) → Linked G x → G.st y ≡ drawn → G.st (leaf i) ≡ drawn → In x (y ∷ leaf i ∷ []) → ⊥
not_two G x y i l d e (inl q) = unlike G x y l d q
not_two G x y i l d e (inr (inl q)) = unlike G x (leaf i) l e q
not_two G x y i l d e (inr (inr q)) = q

module _ {deep : ℕ} {Key : List ℕ → Type 0} {flux : Ref → Type 0} {S T : Tree} {G : Ghost} (laws : Laws deep Key) (t : TreeOk deep Key flux S G) (n : Ref) (b j : ℕ) (y : Ref) (c d i : ℕ) (k : List ℕ) (v now : ℕ)
    (p : Split Key S G n b j y c d i k v) (w : Wrote S T n b (Some y)) where
  split_paths : List Place
  split_paths = to y (G.full n ++ (b ∷ [])) ∷ to (leaf i) (G.full n ++ (b ∷ []) ++ prefix S y ++ (c ∷ [])) ∷ to (leaf j) (G.full n ++ (b ∷ []) ++ prefix S y ++ (d ∷ [])) ∷ []

  split_ghost : Ghost
  split_ghost = turn G (y ∷ leaf i ∷ []) [] split_paths (to y (G.full n ++ (b ∷ []) ++ prefix S y) ∷ []) now

  split_graft : Graft deep Key flux flux S T G split_ghost n b (Some y) (y ∷ leaf i ∷ []) [] (leaf j ∷ []) now
  unfolding split_ghost split_paths
  split_graft =
      let f = p.fresh in
      let o = p.fork in
      let H = split_ghost in
      let P = G.full n ++ (b ∷ []) in
      let F = P ++ prefix S y in
      let lj = (t.kid n b (leaf j) p.here p.there).0 in
      let u : Turned G H (y ∷ leaf i ∷ []) [] (leaf j ∷ []) now = turns G (y ∷ leaf i ∷ []) [] (leaf j ∷ []) split_paths (to y F ∷ []) now (o.drawn', (f.drawn', tt)) tt
      (λ x h. ⊎_elim (λ q. inl (inl q)) (λ g. ⊎_elim (λ q. inl (inr (inl q))) inr g) h) (λ x h. ⊎_elim inl (λ q. absurd q) h) in
      let py : H.path y ≡ P = assign_same G.path (to y P) (to (leaf i) (F ++ (c ∷ [])) ∷ to (leaf j) (F ++ (d ∷ [])) ∷ []) in
      let fy : H.full y ≡ F = assign_same G.full (to y F) [] in
      let pi : H.path (leaf i) ≡ F ++ (c ∷ []) = assign_next G.path (to y P) (to (leaf i) (F ++ (c ∷ [])) ∷ to (leaf j) (F ++ (d ∷ [])) ∷ []) (leaf i) (λ q. node_leaf y i o.node' (sym q))
      ∙ assign_same G.path (to (leaf i) (F ++ (c ∷ []))) (to (leaf j) (F ++ (d ∷ [])) ∷ []) in
      let pj : H.path (leaf j) ≡ F ++ (d ∷ []) = assign_next G.path (to y P) (to (leaf i) (F ++ (c ∷ [])) ∷ to (leaf j) (F ++ (d ∷ [])) ∷ []) (leaf j) (λ q. node_leaf y j o.node' (sym q))
      ∙ assign_next G.path (to (leaf i) (F ++ (c ∷ []))) (to (leaf j) (F ++ (d ∷ [])) ∷ []) (leaf j) (unlike G (leaf j) (leaf i) lj f.drawn')
      ∙ assign_same G.path (to (leaf j) (F ++ (d ∷ []))) [] in
      let still : (x : Ref) → Linked G x → Linked H x = λ x l. u.stay x (not_two G x y i l o.drawn' f.drawn') (λ q. q) ∙ l in
      let e = fan_put S T n b (Some y) w p.byte in
      let z : one (child S n b) ≡ 1 = ap one p.there in
      record {
        wrote = w;
        turned = u;
        flows = λ x _ _ h. h;
        at = p.at;
        before = p.here;
        after = still n p.here;
        enough = λ r. omega (arith, e, z, t.wide n p.at r (inl p.here));
        room = omega (arith, e, z, t.narrow n p.at);
        put = λ x q. subst (λ (x : Ref). Linked H x × (H.path x ≡ P)) (some_inj y x q) (u.come.0.1, py);
        fit = (
          fit_node S H y o.node' (ap (λ (x : List ℕ). x ++ prefix S y) py ∙ sym fy),
          (fit_leaf S H i (subst (λ (x : List ℕ). x ≼ (S.entries i).key) (sym pi) (subst (λ (x : List ℕ). (F ++ (c ∷ [])) ≼ x) (sym f.key) p.way)) (subst Key (sym f.key) f.accepted), tt),
        );
        grown = (
          record {
            short = λ _. subst (λ (x : List ℕ). (length x < deep) × ((k : List ℕ) → Key k → k ≼ x → ⊥)) (sym fy) (short_of laws F c k f.accepted p.way);
            wide = λ _. fork_wide S G y c (leaf i) d (leaf j) o;
            kids = fork_kids S G y c (leaf i) d (leaf j) o (λ e x. Linked H x × (H.path x ≡ H.full y ++ (e ∷ [])))
                (u.come.1.0.1, pi ∙ ap (λ (x : List ℕ). x ++ (c ∷ [])) (sym fy))
                (still (leaf j) lj, pj ∙ ap (λ (x : List ℕ). x ++ (d ∷ [])) (sym fy));
          },
          (grown_leaf S H i, tt),
        );
        fit_moved = (fit_leaf S H j (subst (λ (x : List ℕ). x ≼ (S.entries j).key) (sym pj) p.way_other) (t.entry j lj).1, tt);
        hung = (inl refl, (inr (y, inl refl, c, o.first), tt));
        cut = tt;
        taken = (inl p.there, tt);
        kept = λ x q. inr (inr (subst (KidOf S (y ∷ leaf i ∷ [])) (some_inj (leaf j) x (sym p.there ∙ q)) (y, inl refl, d, o.second)));
        kept_below = tt;
      }

  pub split_keeps : (A : After deep Key flux S T G (y ∷ leaf i ∷ []) [] (leaf j ∷ []) now) × Added S G T A.ghost' k v
  split_keeps = (
    record { ghost' = split_ghost; turned = split_graft.turned; good = grafted t split_graft; closed = closed_after t split_graft },
    added t split_graft i k v (inr (inl refl)) (leaf_of_two y i p.fork.node') (λ j h. h) p.fresh.key p.fresh.value,
  )

module _ {deep : ℕ} {Key : List ℕ → Type 0} {flux : Ref → Type 0} {S T : Tree} {G : Ghost} (t : TreeOk deep Key flux S G) (r : Ref) (b : ℕ) (n y : Ref) (c i : ℕ) (k : List ℕ) (v now : ℕ)
    (p : Grow Key S G r b n y c i k v) (w : Wrote S T r b (Some y)) where
  grow_ghost : Ghost
  grow_ghost = turn G (y ∷ leaf i ∷ []) (n ∷ []) (to y (G.path n) ∷ to (leaf i) (G.full n ++ (c ∷ [])) ∷ []) (to y (G.full n) ∷ []) now

  grow_wide : 2 ≤ fan S n → 2 ≤ fan S y
  unfolding fan
  grow_wide h =
      let e = count_put (child S n) (child S y) c 256 p.c_byte p.rest in
      let z : one (child S n c) ≡ 0 = ap one p.free in
      omega (arith, e, z, h)

  grow_graft : Graft deep Key flux flux S T G grow_ghost r b (Some y) (y ∷ leaf i ∷ []) (n ∷ []) [] now
  unfolding grow_ghost
  grow_graft =
      let f = p.fresh in
      let H = grow_ghost in
      let kn = t.kid r b n p.here p.there in
      let ln = kn.0 in
      let nr : n ≡ root → ⊥ = λ q. omega (arith, (past t r b n p.here p.there).2, ap (λ (x : Ref). length (G.path x)) q, ap length t.root_path) in
      let u : Turned G H (y ∷ leaf i ∷ []) (n ∷ []) [] now = turns G (y ∷ leaf i ∷ []) (n ∷ []) [] (to y (G.path n) ∷ to (leaf i) (G.full n ++ (c ∷ [])) ∷ []) (to y (G.full n) ∷ []) now
      (p.drawn', (f.drawn', tt)) (ln, tt) (λ x h. inl h) (λ x h. ⊎_elim inl (λ q. absurd q) h) in
      let py : H.path y ≡ G.path n = assign_same G.path (to y (G.path n)) (to (leaf i) (G.full n ++ (c ∷ [])) ∷ []) in
      let fy : H.full y ≡ G.full n = assign_same G.full (to y (G.full n)) [] in
      let pi : H.path (leaf i) ≡ G.full n ++ (c ∷ []) = assign_next G.path (to y (G.path n)) (to (leaf i) (G.full n ++ (c ∷ [])) ∷ []) (leaf i) (λ q. node_leaf y i p.node' (sym q))
      ∙ assign_same G.path (to (leaf i) (G.full n ++ (c ∷ []))) [] in
      let still : (x : Ref) → Linked G x → (x ≡ n → ⊥) → Linked H x = λ x l q. u.stay x (not_two G x y i l p.drawn' f.drawn') (λ h. ⊎_elim q (λ a. a) h) ∙ l in
      let longer : (e : ℕ) (x : Ref) → child S n e ≡ Some x → x ≡ n → ⊥ = λ e x h q. omega (arith, (past t n e x ln h).2, ap (λ (x : Ref). length (G.path x)) q) in
      let e = fan_put S T r b (Some y) w p.byte in
      let z : one (child S r b) ≡ 1 = ap one p.there in
      record {
        wrote = w;
        turned = u;
        flows = λ x _ _ h. h;
        at = p.at;
        before = p.here;
        after = still r p.here (λ q. omega (arith, (past t r b n p.here p.there).2, ap (λ (x : Ref). length (G.path x)) q));
        enough = λ q. omega (arith, e, z, t.wide r p.at q (inl p.here));
        room = omega (arith, e, z, t.narrow r p.at);
        put = λ x q. subst (λ (x : Ref). Linked H x × (H.path x ≡ G.full r ++ (b ∷ []))) (some_inj y x q) (u.come.0.1, py ∙ kn.1);
        fit = (
          fit_node S H y p.node' (ap (λ (x : List ℕ). x ++ prefix S y) py ∙ ap (λ (x : List ℕ). G.path n ++ x) p.same_prefix ∙ p.steady ∙ sym fy),
          (fit_leaf S H i (subst (λ (x : List ℕ). x ≼ (S.entries i).key) (sym pi) (subst (λ (x : List ℕ). (G.full n ++ (c ∷ [])) ≼ x) (sym f.key) p.way)) (subst Key (sym f.key) f.accepted), tt),
        );
        grown = (
          record {
            short = λ _. subst (λ (x : List ℕ). (length x < deep) × ((k : List ℕ) → Key k → k ≼ x → ⊥)) (sym fy) (t.short n p.old ln);
            wide = λ _. grow_wide (t.wide n p.old nr (inl ln));
            kids = λ e x h. elim (ℕ_discrete e c) [
              | yes q ↦ (let s : leaf i ≡ x = some_inj (leaf i) x (sym p.added ∙ ap (child S y) (sym q) ∙ h) in
                  subst (λ (x : Ref). Linked H x × (H.path x ≡ H.full y ++ (e ∷ []))) s (u.come.1.0.1, pi ∙ cc (fy, q)))
              | no q ↦ (let h' : child S n e ≡ Some x = sym (p.rest e q) ∙ h in
                  let m = t.kid n e x ln h' in (
                    still x m.0 (longer e x h'),
                    u.paths x (not_two G x y i m.0 p.drawn' f.drawn') (λ a. a) ∙ m.1 ∙ ap (λ (x : List ℕ). x ++ (e ∷ [])) (sym fy),
                  ))
            ];
          },
          (grown_leaf S H i, tt),
        );
        fit_moved = tt;
        hung = (inl refl, (inr (y, inl refl, c, p.added), tt));
        cut = (inl p.there, tt);
        taken = tt;
        kept = λ x q. inl (inl (some_inj x n (sym q ∙ p.there)));
        kept_below = ((λ e x h. inr (inr (y, inl refl, e, p.rest e (λ q. none_some (sym p.free ∙ ap (child S n) (sym q) ∙ h)) ∙ h))), tt);
      }

  pub grow_keeps : (A : After deep Key flux S T G (y ∷ leaf i ∷ []) (n ∷ []) [] now) × Added S G T A.ghost' k v
  grow_keeps = (
    record { ghost' = grow_ghost; turned = grow_graft.turned; good = grafted t grow_graft; closed = closed_after t grow_graft },
    added t grow_graft i k v (inr (inl refl)) (leaf_of_two y i p.node') (λ j h. ⊎_elim (λ q. node_leaf n j p.old (sym q)) (λ q. q) h) p.fresh.key p.fresh.value,
  )

module _ {deep : ℕ} {Key : List ℕ → Type 0} {flux flux' : Ref → Type 0} {S T : Tree} {G : Ghost} (laws : Laws deep Key) (t : TreeOk deep Key flux S G) (r : Ref) (b : ℕ) (n y : Ref) (c d i : ℕ) (k : List ℕ) (v now : ℕ)
    (p : Miss Key S G r b n y c d i k v) (w : Wrote S T r b (Some y)) (fl : (x : Ref) → (x ≡ n → ⊥) → flux x → flux' x) where
  miss_paths : List Place
  miss_paths = to y (G.path n) ∷ to (leaf i) (G.path n ++ prefix S y ++ (c ∷ [])) ∷ to n (G.path n ++ prefix S y ++ (d ∷ [])) ∷ []

  miss_ghost : Ghost
  miss_ghost = turn G (y ∷ leaf i ∷ []) [] miss_paths (to y (G.path n ++ prefix S y) ∷ []) now

  miss_graft : Graft deep Key flux flux' S T G miss_ghost r b (Some y) (y ∷ leaf i ∷ []) [] (n ∷ []) now
  unfolding miss_ghost miss_paths
  miss_graft =
      let f = p.fresh in
      let o = p.fork in
      let H = miss_ghost in
      let F = G.path n ++ prefix S y in
      let kn = t.kid r b n p.here p.there in
      let ln = kn.0 in
      let u : Turned G H (y ∷ leaf i ∷ []) [] (n ∷ []) now = turns G (y ∷ leaf i ∷ []) [] (n ∷ []) miss_paths (to y F ∷ []) now (o.drawn', (f.drawn', tt)) tt
      (λ x h. ⊎_elim (λ q. inl (inl q)) (λ g. ⊎_elim (λ q. inl (inr (inl q))) inr g) h) (λ x h. ⊎_elim inl (λ q. absurd q) h) in
      let py : H.path y ≡ G.path n = assign_same G.path (to y (G.path n)) (to (leaf i) (F ++ (c ∷ [])) ∷ to n (F ++ (d ∷ [])) ∷ []) in
      let fy : H.full y ≡ F = assign_same G.full (to y F) [] in
      let pi : H.path (leaf i) ≡ F ++ (c ∷ []) = assign_next G.path (to y (G.path n)) (to (leaf i) (F ++ (c ∷ [])) ∷ to n (F ++ (d ∷ [])) ∷ []) (leaf i) (λ q. node_leaf y i o.node' (sym q))
      ∙ assign_same G.path (to (leaf i) (F ++ (c ∷ []))) (to n (F ++ (d ∷ [])) ∷ []) in
      let pn : H.path n ≡ F ++ (d ∷ []) = assign_next G.path (to y (G.path n)) (to (leaf i) (F ++ (c ∷ [])) ∷ to n (F ++ (d ∷ [])) ∷ []) n (unlike G n y ln o.drawn')
      ∙ assign_next G.path (to (leaf i) (F ++ (c ∷ []))) (to n (F ++ (d ∷ [])) ∷ []) n (unlike G n (leaf i) ln f.drawn')
      ∙ assign_same G.path (to n (F ++ (d ∷ []))) [] in
      let still : (x : Ref) → Linked G x → Linked H x = λ x l. u.stay x (not_two G x y i l o.drawn' f.drawn') (λ q. q) ∙ l in
      let e = fan_put S T r b (Some y) w p.byte in
      let z : one (child S r b) ≡ 1 = ap one p.there in
      record {
        wrote = w;
        turned = u;
        flows = λ x _ m h. fl x (λ q. m (inl q)) h;
        at = p.at;
        before = p.here;
        after = still r p.here;
        enough = λ q. omega (arith, e, z, t.wide r p.at q (inl p.here));
        room = omega (arith, e, z, t.narrow r p.at);
        put = λ x q. subst (λ (x : Ref). Linked H x × (H.path x ≡ G.full r ++ (b ∷ []))) (some_inj y x q) (u.come.0.1, py ∙ kn.1);
        fit = (
          fit_node S H y o.node' (ap (λ (x : List ℕ). x ++ prefix S y) py ∙ sym fy),
          (fit_leaf S H i (subst (λ (x : List ℕ). x ≼ (S.entries i).key) (sym pi) (subst (λ (x : List ℕ). (F ++ (c ∷ [])) ≼ x) (sym f.key) p.way)) (subst Key (sym f.key) f.accepted), tt),
        );
        grown = (
          record {
            short = λ _. subst (λ (x : List ℕ). (length x < deep) × ((k : List ℕ) → Key k → k ≼ x → ⊥)) (sym fy) (short_of laws F c k f.accepted p.way);
            wide = λ _. fork_wide S G y c (leaf i) d n o;
            kids = fork_kids S G y c (leaf i) d n o (λ e x. Linked H x × (H.path x ≡ H.full y ++ (e ∷ [])))
                (u.come.1.0.1, pi ∙ ap (λ (x : List ℕ). x ++ (c ∷ [])) (sym fy))
                (still n ln, pn ∙ ap (λ (x : List ℕ). x ++ (d ∷ [])) (sym fy));
          },
          (grown_leaf S H i, tt),
        );
        fit_moved = (fit_node S H n p.old (ap (λ (x : List ℕ). x ++ prefix S n) pn ∙ p.cut ∙ sym (u.fulls n (not_two G n y i ln o.drawn' f.drawn'))), tt);
        hung = (inl refl, (inr (y, inl refl, c, o.first), tt));
        cut = tt;
        taken = (inl p.there, tt);
        kept = λ x q. inr (inr (subst (KidOf S (y ∷ leaf i ∷ [])) (some_inj n x (sym p.there ∙ q)) (y, inl refl, d, o.second)));
        kept_below = tt;
      }

  pub miss_keeps : (A : After deep Key flux' S T G (y ∷ leaf i ∷ []) [] (n ∷ []) now) × Added S G T A.ghost' k v
  miss_keeps = (
    record { ghost' = miss_ghost; turned = miss_graft.turned; good = grafted t miss_graft; closed = closed_after t miss_graft },
    added t miss_graft i k v (inr (inl refl)) (leaf_of_two y i p.fork.node') (λ j h. h) p.fresh.key p.fresh.value,
  )
