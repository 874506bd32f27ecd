-- The writes of adds: a leaf, a split and a growth.
use Rattle.std.proofs.Common.{◌≡◌, ℕ, suc, ◌+◌, Bool, true, false, cond, eqb, List, [], ◌∷◌, ◌++◌, length, get_or, drop, Some, None, Option, sym, refl, ap, ◌∙◌, subst, inl, inr, ⊎_elim, append_assoc, arith}
use Rattle.model.specs.Bytes.{◌≼◌}
use Rattle.model.specs.Refs.{Ref, leaf, is, IsNode}
use Rattle.model.specs.Tree.{Tree, Content, child, prefix, fan, cap, Ghost, Status, TreeOk}
use Rattle.model.specs.Holds.{Hold}
use Rattle.model.specs.Operations as op
use Rattle.model.specs.Operations.{Operation, insert, grow, split, Item, write_n, write_p, unlock_n, unlock_n_gone, unlock_p, Drawn, by_key, act, busy, Outcome, go}
use Rattle.machine.specs.State.{State, Numbers}
use Rattle.machine.specs.Choices.{key_byte}
use Rattle.machine.specs.Items.{byte_above, Writes, common, split_node, grown_node, branch}
use Rattle.machine.specs.Steps.{is_next, Follows}
use Rattle.invariant.specs.Ghosts.{Ghosts, status_of, ghost, FluxOf}
use Rattle.invariant.specs.Courses.{inserting, splitting, growing, LeafDrawn, NodeDrawn, OneLocked, BothLocked}
use Rattle.invariant.specs.Changes.{Puts}
use Rattle.invariant.proofs.Setting.{Step, no_way, in_last}
use Rattle.model_tree.specs.Writes as writes
use Rattle.model_tree.specs.Writes.{Fresh}
use Rattle.model_words.specs.Words.{In}
use Rattle.model_slots.specs.Laws.{drawn}
use Rattle.invariant.proofs.Sees.{At, OtherSeen, stands}
use Rattle.invariant.proofs.Written.{Written, Exchange, flux_more, flows, flux_of, followed, course_at, course_n, at_locked, chosen_at, tells_at, locked_by, no_flux, fresh, stand_placed, same_leaf, same_node, solo_acts, puts, fork_made, gone_acts, stand_above, leads_at}
use Rattle.model.specs.Sights.{empty, other}
use Rattle.std.proofs.lemmas.Bool.{leb-false, eqb-true, eqb-false, eq-eqb, ne_eqb}
use Rattle.std.proofs.lemmas.List.{get_or-drop, drop_at, length-append}
use Rattle.model.proofs.Bytes.{some_inj, snoc_len, ≼_rest, ≼_under}
use Rattle.model_tree.proofs.Graft.{all_in}
use Rattle.model_tree.proofs.Parts.{node_leaf}
use Rattle.model.proofs.Reach.{past}
use Rattle.model_slots.proofs.Lists.{bit_most}
use Rattle.model_tree.proofs.Ready.{insert_ready, split_ready, grow_ready}
use Rattle.model_tree.proofs.Adds.{insert_keeps, split_keeps, grow_keeps}

-- u and v go on after q by bytes that differ
abbrev PartAfter : List ℕ → List ℕ → List ℕ → Type 0
PartAfter q u v = ((q ++ (get_or u (length q) 0 ∷ [])) ≼ u) × ((q ++ (get_or v (length q) 0 ∷ [])) ≼ v) × (get_or u (length q) 0 ≡ get_or v (length q) 0 → ⊥)

-- where neither begins the other, two lists part after what they have in common
common_parts : (u v : List ℕ) → (u ≼ v → ⊥) → (v ≼ u → ⊥) → PartAfter (common u v) u v
common_parts [] v p q = absurd (p tt)
common_parts (a ∷ u) [] p q = absurd (q tt)
common_parts (a ∷ u) (b ∷ v) p q = by (λ e. common_parts u v (λ h. p (e, h)) (λ h. q (sym e, h))) (eqb a b) refl
  where
    by : (a ≡ b → PartAfter (common u v) u v) → (t : Bool) → eqb a b ≡ t → PartAfter (cond t (a ∷ common u v) []) (a ∷ u) (b ∷ v)
    by f true e = let k = f (eqb-true a b e) in ((refl, k.0), (eqb-true a b e, k.1), k.2)
    by f false e = ((refl, tt), (refl, tt), eqb-false a b e)

-- the bytes behind a beginning
behind : (P k : List ℕ) (D : ℕ) → P ≼ k → length P ≡ D → P ++ drop D k ≡ k
behind P k D h e = let r = ≼_rest P k h in ap (λ (w : List ℕ). P ++ drop D w) (sym r.1) ∙ ap (λ (w : List ℕ). P ++ w) (drop_at P r.0 D e) ∙ r.1

-- two keys with a common beginning: how they go on, and part
keys_part : (P k j : List ℕ) (D : ℕ) → P ≼ k → P ≼ j → length P ≡ D → (k ≼ j → ⊥) → (j ≼ k → ⊥)
    → ((P ++ common (drop D k) (drop D j) ++ (get_or k (D + length (common (drop D k) (drop D j))) 0 ∷ [])) ≼ k)
    × ((P ++ common (drop D k) (drop D j) ++ (get_or j (D + length (common (drop D k) (drop D j))) 0 ∷ [])) ≼ j)
    × (get_or k (D + length (common (drop D k) (drop D j))) 0 ≡ get_or j (D + length (common (drop D k) (drop D j))) 0 → ⊥)
keys_part P k j D hk hj e nk nj =
    let q = common (drop D k) (drop D j) in
    let bk = behind P k D hk e in
    let bj = behind P j D hj e in
    let c = common_parts (drop D k) (drop D j)
    (λ h. nk (subst (λ (w : List ℕ). w ≼ j) bk (subst (λ (w : List ℕ). (P ++ drop D k) ≼ w) bj (≼_under P (drop D k) (drop D j) h))))
    (λ h. nj (subst (λ (w : List ℕ). w ≼ k) bj (subst (λ (w : List ℕ). (P ++ drop D j) ≼ w) bk (≼_under P (drop D j) (drop D k) h)))) in
    let ek : get_or (drop D k) (length q) 0 ≡ get_or k (D + length q) 0 = get_or-drop D k (length q) 0 in
    let ej : get_or (drop D j) (length q) 0 ≡ get_or j (D + length q) 0 = get_or-drop D j (length q) 0 in (
      on P k (drop D k) q (get_or k (D + length q) 0) bk (subst (λ (b : ℕ). (q ++ (b ∷ [])) ≼ drop D k) ek c.0),
      on P j (drop D j) q (get_or j (D + length q) 0) bj (subst (λ (b : ℕ). (q ++ (b ∷ [])) ≼ drop D j) ej c.1),
      λ z. c.2 (ek ∙ z ∙ sym ej),
    )
  where
    on : (P k r q : List ℕ) (b : ℕ) → P ++ r ≡ k → (q ++ (b ∷ [])) ≼ r → (P ++ q ++ (b ∷ [])) ≼ k
    on P k r q b e h = subst (λ (w : List ℕ). w ≼ k) (sym (append_assoc P q (b ∷ []))) (subst (λ (w : List ℕ). (P ++ (q ++ (b ∷ []))) ≼ w) e (≼_under P (q ++ (b ∷ [])) r h))

-- a split's write may follow where another leaf was seen
split_made : {deep : ℕ} {Key : List ℕ → Type 0} {flux : Ref → Type 0} {S : Tree} {G : Ghost} → writes.Laws deep Key → TreeOk deep Key flux S G → (n : Hold) (k : List ℕ) (j i v : ℕ) (y : Ref)
    → At S G n.at k n.depth → OtherSeen S G n.at k n.depth j → Fresh Key S G i k v → IsNode y → G.st y ≡ Status.drawn
    → prefix S y ≡ (split_node S k n i j).prefix → ((e : ℕ) → child S y e ≡ (split_node S k n i j).child e)
    → writes.Split Key S G n.at (key_byte S k n) j y (get_or k (branch S k n i j) 0) (get_or (S.entries j).key (branch S k n i j) 0) i k v
split_made {deep} {Key} {flux} {S} {G} laws t n k j i v y a ot fr ny dy pre kids =
    let P = G.full n.at ++ (key_byte S k n ∷ []) in
    let kid = t.kid n.at (key_byte S k n) (leaf j) a.here ot.goes.there in
    let en = t.entry j kid.0 in
    let hj : P ≼ (S.entries j).key = subst (λ (w : List ℕ). w ≼ (S.entries j).key) kid.1 en.0 in
    let len : length P ≡ suc (n.depth + length (prefix S n.at)) =
    omega (arith, snoc_len (G.full n.at) (key_byte S k n), ap length a.steady, length-append (G.path n.at) (prefix S n.at), a.depth) in
    let parts = keys_part P k (S.entries j).key (suc (n.depth + length (prefix S n.at))) ot.goes.way hj len
    (λ h. ot.differs (sym (laws.apart k (S.entries j).key fr.accepted en.1 h))) (λ h. ot.differs (laws.apart (S.entries j).key k en.1 fr.accepted h)) in
    let q = (split_node S k n i j).prefix in
    let c = get_or k (branch S k n i j) 0 in
    let d = get_or (S.entries j).key (branch S k n i j) 0 in
    split_ready laws t n.at k (drop n.depth k) (key_byte S k n) j y c d i v (stands S G n.at k n.depth a) ot.goes.rest ot.goes.there
    (fork_made S G y c (leaf i) d (leaf j) ny dy (laws.bytes k (P ++ q) c fr.accepted parts.0) (laws.bytes (S.entries j).key (P ++ q) d en.1 parts.1) parts.2 kids)
    (subst (λ (w : List ℕ). (P ++ w ++ (c ∷ [])) ≼ k) (sym pre) parts.0)
    (subst (λ (w : List ℕ). (P ++ w ++ (d ∷ [])) ≼ (S.entries j).key) (sym pre) parts.1)
    fr

module _ {N : Numbers} {Key : List ℕ → Type 0} {σ τ : State} {g : Ghosts} {s : ℕ} {o u : Operation} {r : Outcome} (st : Step N Key σ τ g s o (busy u) r) (t : is_next o.task ≡ false) where
  pub insert_ok : (v i : ℕ) (rest : List Item) (hs : List Hold) (n : Hold) → o.stage ≡ act (insert v) (write_n ∷ rest) (Some (record { leaf_slot = i; node_slot = None }))
      → o.held ≡ hs ++ n ∷ [] → Writes σ τ n.at (key_byte σ.tree o.key n) (Some (leaf i)) []
      → Follows o τ (insert v) σ.words o.held None rest (busy u) r
      → (w : Written N Key σ τ g s (leaf i ∷ []) []) × Puts σ τ g w.after o.key v × (o.task ≡ op.add v)
  insert_ok v i rest hs n e q w f =
      let k = course_n st t (insert v) rest (Some (record { leaf_slot = i; node_slot = None })) hs n e q in
      let a = k.1 in
      let j : a.0 ≡ i = same_leaf a.0 i None None (sym a.2) in
      let held : In n o.held = subst (λ (l : List Hold). In n l) (sym q) (in_last hs n) in
      let lock = a.3.locked in
      let steady = no_flux st t (insert v) write_n rest (Some (record { leaf_slot = i; node_slot = None })) e (λ z. no_way (cc z)) in
      let at = at_locked st t n held lock (stand_placed hs n a.3.stand) (steady n.at) in
      let ch = chosen_at st t (insert v) n lock a.3.decides in
      let tells = tells_at st t n empty at ch.1 in
      let leaf_drawn = subst (λ (m : ℕ). LeafDrawn N Key σ g s o m v) j a.4 in
      let ready = insert_ready st.lawful.keys st.inv.tree n.at o.key (drop n.depth o.key) (key_byte σ.tree o.key n) i v
      (stands σ.tree (ghost g) n.at o.key n.depth at) tells.0.rest tells.0.there (leb-false (cap n.at) (fan σ.tree n.at) ch.2) (fresh st t i v leaf_drawn) in
      let keeps = insert_keeps (flux_more (λ x h. flows st x (steady x) h) st.inv.tree) n.at (key_byte σ.tree o.key n) i o.key v σ.epoch ready w.wrote in
      let go = followed rest (busy u) unlock_n [] f a.1 refl in
      let x : Exchange N Key σ τ g s n.at (key_byte σ.tree o.key n) (Some (leaf i)) (leaf i ∷ []) [] [] = record {
        put = w.wrote;
        made = keeps.0;
        here = ready.here;
        kept = λ z. z;
        byte = ready.byte;
        mine = all_in (λ y. g.mark y ≡ drawn s) (leaf i ∷ []) (leaf_drawn.drawn', tt);
        shows = all_in (λ y. IsNode y → (c : ℕ) × (i : ℕ) × (child σ.tree y c ≡ Some (leaf i))) (leaf i ∷ []) ((λ z. absurd z), tt);
        locked = λ y _ z. ⊎_elim (locked_by st t n held lock y) (λ h. absurd (⊎_elim (λ b. b) (λ b. b) h)) z;
        once = λ y. omega arith;
        words = go.0;
      } in
      puts st t x v (insert v) unlock_n [] None k.0 go.1 (solo_acts st t x (insert v) hs n (inserting v) a.3 q refl) tells.1 keeps.1 ch.0

  split_by : (v j i : ℕ) (y : Ref) (rest : List Item) (hs : List Hold) (n : Hold) → o.stage ≡ act (split v j) (write_n ∷ rest) (Some (record { leaf_slot = i; node_slot = Some y }))
      → o.held ≡ hs ++ n ∷ [] → Writes σ τ n.at (key_byte σ.tree o.key n) (Some y) []
      → Follows o τ (split v j) σ.words o.held None rest (busy u) r → o.mode ≡ by_key → rest ≡ unlock_n ∷ []
      → OneLocked N Key σ g s o (split v j) hs n → LeafDrawn N Key σ g s o i v → NodeDrawn N Key σ g s o (split v j) n i y
      → (w : Written N Key σ τ g s (y ∷ leaf i ∷ []) []) × Puts σ τ g w.after o.key v × (o.task ≡ op.add v)
  split_by v j i y rest hs n e q w f mode er ol ld nd =
      let S = σ.tree in
      let held : In n o.held = subst (λ (l : List Hold). In n l) (sym q) (in_last hs n) in
      let steady = no_flux st t (split v j) write_n rest (Some (record { leaf_slot = i; node_slot = Some y })) e (λ z. no_way (cc z)) in
      let at = at_locked st t n held ol.locked (stand_placed hs n ol.stand) (steady n.at) in
      let ch = chosen_at st t (split v j) n ol.locked ol.decides in
      let tells = tells_at st t n (other j) at ch.1 in
      let is_content : split_node S o.key n i j ≡ nd.content = some_inj (split_node S o.key n i j) nd.content nd.filled in
      let ready = split_made st.lawful.keys st.inv.tree n o.key j i v y at tells (fresh st t i v ld) nd.inner (ap status_of nd.drawn')
      (nd.prefix_is ∙ ap (λ (c : Content). c.prefix) (sym is_content)) (λ b. nd.child_is b ∙ ap (λ (c : Content). c.child b) (sym is_content)) in
      let c = get_or o.key (branch S o.key n i j) 0 in
      let d = get_or (S.entries j).key (branch S o.key n i j) 0 in
      let keeps = split_keeps st.lawful.keys (flux_more (λ x h. flows st x (steady x) h) st.inv.tree) n.at (key_byte S o.key n) j y c d i o.key v σ.epoch ready w.wrote in
      let go = followed rest (busy u) unlock_n [] f er refl in
      let x : Exchange N Key σ τ g s n.at (key_byte S o.key n) (Some y) (y ∷ leaf i ∷ []) [] (leaf j ∷ []) = record {
        put = w.wrote;
        made = keeps.0;
        here = ready.here;
        kept = λ z. z;
        byte = ready.byte;
        mine = all_in (λ y. g.mark y ≡ drawn s) (y ∷ leaf i ∷ []) (nd.drawn', (ld.drawn', tt));
        shows = all_in (λ y. IsNode y → (c : ℕ) × (i : ℕ) × (child S y c ≡ Some (leaf i))) (y ∷ leaf i ∷ []) ((λ _. (c, i, ready.fork.first)), ((λ z. absurd z), tt));
        locked = λ y k z. ⊎_elim (locked_by st t n held ol.locked y) (λ h. absurd (⊎_elim (λ b. b) (λ b. ⊎_elim (λ z. node_leaf y j k z) (λ z. z) b) h)) z;
        once = λ y. omega arith;
        words = go.0;
      } in
      puts st t x v (split v j) unlock_n [] None mode go.1 (solo_acts st t x (split v j) hs n (splitting v j) ol q refl) tells.lacks keeps.1 ch.0

  pub split_ok : (v j i : ℕ) (y : Ref) (rest : List Item) (hs : List Hold) (n : Hold) → o.stage ≡ act (split v j) (write_n ∷ rest) (Some (record { leaf_slot = i; node_slot = Some y }))
      → o.held ≡ hs ++ n ∷ [] → Writes σ τ n.at (key_byte σ.tree o.key n) (Some y) []
      → Follows o τ (split v j) σ.words o.held None rest (busy u) r
      → (w : Written N Key σ τ g s (y ∷ leaf i ∷ []) []) × Puts σ τ g w.after o.key v × (o.task ≡ op.add v)
  split_ok v j i y rest hs n e q w f =
      let dr : Option Drawn = Some (record { leaf_slot = i; node_slot = Some y }) in
      let k = course_n st t (split v j) rest dr hs n e q in
      let a = k.1 in
      let ei : a.0 ≡ i = same_leaf a.0 i (Some a.1) (Some y) (sym a.3) in
      let ey : a.1 ≡ y = same_node a.0 i a.1 y (sym a.3) in
      let ld = subst (λ (m : ℕ). LeafDrawn N Key σ g s o m v) ei a.5 in
      let nd = subst (λ (m : ℕ). NodeDrawn N Key σ g s o (split v j) n m y) ei (subst (λ (z : Ref). NodeDrawn N Key σ g s o (split v j) n a.0 z) ey a.6) in
      split_by v j i y rest hs n e q w f k.0 a.2 a.4 ld nd

  grow_by : (v i : ℕ) (y : Ref) (rest : List Item) (p n : Hold) → o.stage ≡ act (grow v) (write_p ∷ rest) (Some (record { leaf_slot = i; node_slot = Some y }))
      → o.held ≡ p ∷ n ∷ [] → Writes σ τ p.at (byte_above o.key n) (Some y) (n.at ∷ [])
      → Follows o τ (grow v) σ.words o.held None rest (busy u) r → o.mode ≡ by_key → rest ≡ unlock_n_gone ∷ unlock_p ∷ []
      → BothLocked N Key σ g s o (grow v) p n → LeafDrawn N Key σ g s o i v → NodeDrawn N Key σ g s o (grow v) n i y
      → (w : Written N Key σ τ g s (y ∷ leaf i ∷ []) (n.at ∷ [])) × Puts σ τ g w.after o.key v × (o.task ≡ op.add v)
  grow_by v i y rest p n e q w f mode er bl ld nd =
      let S = σ.tree in
      let B = byte_above o.key n in
      let c = key_byte S o.key n in
      let in_p : In p o.held = subst (λ (l : List Hold). In p l) (sym q) (inl refl) in
      let in_n : In n o.held = subst (λ (l : List Hold). In n l) (sym q) (inr (inl refl)) in
      let steady : (x : Ref) → FluxOf o x → ⊥ = λ x h. ⊎_elim (λ z. no_way (cc z.4)) (λ z. no_way (cc z.2)) (flux_of o x (grow v) write_p rest (Some (record { leaf_slot = i; node_slot = Some y })) h e).1 in
      let at = at_locked st t n in_n bl.locked (stand_placed (p ∷ []) n bl.stand) (steady n.at) in
      let ab = stand_above (p ∷ []) p n bl.stand refl in
      let at_p = at_locked st t p in_p bl.above ab.placed (steady p.at) in
      let there = leads_at st t p n bl.above ab at_p in
      let ch = chosen_at st t (grow v) n bl.locked bl.decides in
      let tells = tells_at st t n empty at ch.1 in
      let is_content : grown_node S o.key n i ≡ nd.content = some_inj (grown_node S o.key n i) nd.content nd.filled in
      let kids : (b : ℕ) → child S y b ≡ cond (eqb b c) (Some (leaf i)) (child S n.at b) = λ b. nd.child_is b ∙ ap (λ (z : Content). z.child b) (sym is_content) in
      let ready = grow_ready st.lawful.keys st.inv.tree p.at B n.at y o.key (drop n.depth o.key) c i v at_p.here there
      (stands S (ghost g) n.at o.key n.depth at) tells.0.rest tells.0.there nd.inner (ap status_of nd.drawn')
      (nd.prefix_is ∙ ap (λ (z : Content). z.prefix) (sym is_content))
      (kids c ∙ ap (λ (b : Bool). cond b (Some (leaf i)) (child S n.at c)) (eq-eqb c c refl))
      (λ b ne. kids b ∙ ap (λ (t : Bool). cond t (Some (leaf i)) (child S n.at b)) (ne_eqb b c ne))
      (fresh st t i v ld) in
      let keeps = grow_keeps (flux_more (λ x h. flows st x (steady x) h) st.inv.tree) p.at B n.at y c i o.key v σ.epoch ready w.wrote in
      let go = followed rest (busy u) unlock_n_gone (unlock_p ∷ []) f er refl in
      let apart : p.at ≡ n.at → ⊥ = λ z. omega (arith, (past st.inv.tree p.at B n.at at_p.here there).2, ap (λ (x : Ref). length (g.path x)) z) in
      let x : Exchange N Key σ τ g s p.at B (Some y) (y ∷ leaf i ∷ []) (n.at ∷ []) [] = record {
        put = w.wrote;
        made = keeps.0;
        here = at_p.here;
        kept = λ z. ⊎_elim apart (λ b. b) z;
        byte = ready.byte;
        mine = all_in (λ y. g.mark y ≡ drawn s) (y ∷ leaf i ∷ []) (nd.drawn', (ld.drawn', tt));
        shows = all_in (λ y. IsNode y → (c : ℕ) × (i : ℕ) × (child S y c ≡ Some (leaf i))) (y ∷ leaf i ∷ []) ((λ _. (c, i, ready.added)), ((λ z. absurd z), tt));
        locked = λ y k z. ⊎_elim (locked_by st t p in_p bl.above y) (λ h. ⊎_elim (λ h. ⊎_elim (locked_by st t n in_n bl.locked y) (λ b. absurd b) h) (λ b. absurd b) h) z;
        once = λ y. omega (arith, bit_most (is y n.at));
        words = go.0;
      } in
      puts st t x v (grow v) unlock_n_gone (unlock_p ∷ []) None mode go.1 (gone_acts st t x (grow v) p n (growing v) bl.above bl.locked q refl (inl refl)) tells.1 keeps.1 ch.0

  pub grow_ok : (v i : ℕ) (y : Ref) (rest : List Item) (p n : Hold) → o.stage ≡ act (grow v) (write_p ∷ rest) (Some (record { leaf_slot = i; node_slot = Some y }))
      → o.held ≡ p ∷ n ∷ [] → Writes σ τ p.at (byte_above o.key n) (Some y) (n.at ∷ [])
      → Follows o τ (grow v) σ.words o.held None rest (busy u) r
      → (w : Written N Key σ τ g s (y ∷ leaf i ∷ []) (n.at ∷ [])) × Puts σ τ g w.after o.key v × (o.task ≡ op.add v)
  grow_ok v i y rest p n e q w f =
      let dr : Option Drawn = Some (record { leaf_slot = i; node_slot = Some y }) in
      let k = course_at st t (grow v) write_p rest dr e in
      let a = k.1 in
      let ei : a.0 ≡ i = same_leaf a.0 i (Some a.1) (Some y) (sym a.6) in
      let ey : a.1 ≡ y = same_node a.0 i a.1 y (sym a.6) in
      let ehs : ◌≡◌ {A = List Hold} (a.2 ∷ a.3 ∷ []) (p ∷ n ∷ []) = sym a.4 ∙ q in
      let ep : a.2 ≡ p = cc ehs in
      let en : a.3 ≡ n = cc ehs in
      let bl = subst (λ (z : Hold). BothLocked N Key σ g s o (grow v) z n) ep (subst (λ (z : Hold). BothLocked N Key σ g s o (grow v) a.2 z) en a.7) in
      let ld = subst (λ (m : ℕ). LeafDrawn N Key σ g s o m v) ei a.8 in
      let nd = subst (λ (m : ℕ). NodeDrawn N Key σ g s o (grow v) n m y) ei (subst (λ (z : Ref). NodeDrawn N Key σ g s o (grow v) n a.0 z) ey
      (subst (λ (z : Hold). NodeDrawn N Key σ g s o (grow v) z a.0 a.1) en a.9)) in
      grow_by v i y rest p n e q w f k.0 a.5 bl ld nd
