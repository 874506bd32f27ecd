-- The writes that move prefixes and nodes: a miss, a removal and a collapse.
use Rattle.std.proofs.Common.{◌≡◌, ℕ, suc, ◌+◌, ◌-◌, ◌<◌, ◌≤◌, Bool, true, false, cond, ◌||◌, eqb, leb, ◌⊎◌, List, [], ◌∷◌, ◌++◌, length, get_or, take, drop, Some, None, Option, sym, refl, ap, ◌∙◌, subst, ap₂, inl, inr, ⊎_elim, append_assoc, arith}
use Rattle.model.specs.Bytes.{◌≼◌}
use Rattle.model.specs.Refs.{Ref, leaf, root, is, IsNode}
use Rattle.model.specs.Tree.{Tree, Content, child, prefix, fan, Ghost, Status, Linked, TreeOk, Entry}
use Rattle.model.specs.Holds.{Hold}
use Rattle.model.specs.Operations as op
use Rattle.model.specs.Operations.{Operation, split, miss, in_place, collapse, Item, write_n, write_m, write_p, unlock_m, unlock_n, unlock_n_gone, unlock_p, Drawn, by_key, act, closed, busy, Outcome, go}
use Rattle.machine.specs.State.{State, Numbers, WordsAre, with}
use Rattle.machine.specs.Choices.{key_byte, without, second, left}
use Rattle.machine.specs.Items.{byte_above, Prefixed, Writes, fork, miss_node}
use Rattle.machine.specs.Steps.{is_next, Follows}
use Rattle.invariant.specs.Ghosts.{Ghosts, status_of, ghost, IsLocked, FluxOf, Flux}
use Rattle.invariant.specs.Courses.{removing, collapsing, LeafDrawn, NodeDrawn, BothLocked, Joins, Joined, Cut, Acts}
use Rattle.invariant.specs.Changes.{LockedBy, Leaves, HoldsSame, Puts, Drops}
use Rattle.invariant.proofs.Setting.{Step, true_false, entry_reads, locked_steady, no_way, in_last, sound_locked, is_not}
use Rattle.model_tree.specs.Writes as writes
use Rattle.model_tree.specs.Writes.{Fresh, After, Removed}
use Rattle.model_words.specs.Words.{In}
use Rattle.model_slots.specs.Slots.{count, bit}
use Rattle.model_slots.specs.Laws.{drawn}
use Rattle.invariant.proofs.Sees.{At, Missed, SameSeen, stands}
use Rattle.invariant.proofs.Written.{Written, Exchange, flux_more, flows, flux_of, followed, course_at, course_n, at_locked, chosen_at, tells_at, locked_by, no_flux, fresh, stand_placed, stand_above, same_leaf, same_node, solo_acts, gone_acts, puts, drops, still_linked, gone_retired, fork_made, leads_at, prefix_leaves}
use native.Mathlib.Decide.{ℕ_discrete}
use Rattle.std.proofs.lemmas.Bool.{leb-true, leb-false, eqb-false}
use Rattle.model.specs.Sights.{same_key, missed}
use Rattle.model.proofs.Bytes.{none_some, some_inj, snoc_byte, ≼_app, ≼_trans, ≼_under}
use Rattle.model_tree.specs.Meets.{Lacks}
use Rattle.model.proofs.Reach.{past, parent_one, absent}
use Rattle.model_slots.proofs.Lists.{is_tells, is_self, bit_most}
use Rattle.model_tree.proofs.Graft.{all_in}
use Rattle.model_tree.proofs.Parts.{node_leaf, unlike}
use Rattle.model_tree.proofs.Ready.{miss_ready, in_place_ready, left_over, collapse_ready}
use Rattle.model_tree.proofs.Adds.{miss_keeps}
use Rattle.model_tree.proofs.Removes.{inplace_keeps, collapse_keeps}
use Rattle.model_next.specs.Look.{least}
use Rattle.model_next.proofs.Views.{least_some}

or_false : (a b : Bool) → (a || b) ≡ false → (a ≡ false) × (b ≡ false)
or_false true b e = true_false true refl e
or_false false b e = (refl, e)

not_root : (x y : Ref) → is x y ≡ false → x ≡ y → ⊥
not_root x y e q = true_false (is x y) (ap (is x) (sym q) ∙ is_self x) e

-- the child that is left is one that stands under another byte
left_is : (S : Tree) (x : Ref) (b : ℕ) (y : Ref) → left S x b ≡ Some y → (d : ℕ) × (b ≡ d → ⊥) × (child S x d ≡ Some y)
left_is S x b y e = by (least (without (child S x) b) 0 256) refl e
  where
    under : (d : ℕ) (z : Ref) (t : Bool) → eqb d b ≡ t → ◌≡◌ {A = Option Ref} (cond t None (child S x d)) (Some z) → (b ≡ d → ⊥) × (child S x d ≡ Some z)
    under d z true f h = absurd (none_some h)
    under d z false f h = ((λ q. eqb-false d b f (sym q)), h)

    by : (o : Option (ℕ × Ref)) → least (without (child S x) b) 0 256 ≡ o → second o ≡ Some y → (d : ℕ) × (b ≡ d → ⊥) × (child S x d ≡ Some y)
    by None q h = absurd (none_some h)
    by (Some (d, z)) q h =
        let w = under d z (eqb d b) refl (least_some (without (child S x) b) 0 256 d z q).0 in
        (d, w.0, w.1 ∙ h)

-- n has the leaf l, which the key names, and x left
record Left (S : Tree) (G : Ghost) (k : List ℕ) (n : Hold) (v l : ℕ) (x : Ref) : Type 0 where
  pub at_n : At S G n.at k n.depth
  pub same : SameSeen S G n.at k n.depth l v
  pub other : ℕ
  pub apart : key_byte S k n ≡ other → ⊥
  pub there : child S n.at other ≡ Some x
  pub rest : (e : ℕ) → (e ≡ key_byte S k n → ⊥) → (e ≡ other → ⊥) → child S n.at e ≡ None

-- a key that parts from n's way is not held
miss_lacks : {deep : ℕ} {Key : List ℕ → Type 0} {flux : Ref → Type 0} {S : Tree} {G : Ghost} → TreeOk deep Key flux S G → {p : Ref} {b : ℕ} {n y : Ref} {c d i : ℕ} {k : List ℕ} {v : ℕ}
    → writes.Miss Key S G p b n y c d i k v → Linked G n → G.path n ≼ k → Lacks S G k
miss_lacks {deep} {Key} {flux} {S} {G} t {p} {b} {n} {y} {c} {d} {i} {k} {v} m l h = absent t n k m.old l h (λ e z w _. absurd (m.fork.apart (snoc_byte (G.path n ++ prefix S y) k c d m.way
    (≼_trans (G.path n ++ prefix S y ++ (d ∷ [])) (G.full n) k
    (subst (λ (u : List ℕ). (G.path n ++ prefix S y ++ (d ∷ [])) ≼ u) m.cut (≼_app (G.path n ++ prefix S y ++ (d ∷ [])) (prefix S n)))
    (≼_trans (G.full n) (G.full n ++ (e ∷ [])) k (≼_app (G.full n) (e ∷ [])) w)))))

-- after x's prefix was cut, the write of a miss may follow
cut_made : {deep : ℕ} {Key : List ℕ → Type 0} {flux : Ref → Type 0} {S T : Tree} {G : Ghost} (laws : writes.Laws deep Key) (t : TreeOk deep Key flux T G) (p : Ref) (b : ℕ) (x y : Ref) (k : List ℕ) (e m i v : ℕ)
    → ((w : List ℕ) (b : ℕ) → (w ++ b ∷ []) ≼ G.full x → b < 256) → At S G x k e → Missed S G x k e m → Prefixed S T x (drop (suc m) (prefix S x)) → Linked G p → child S p b ≡ Some x
    → Fresh Key S G i k v → IsNode y → G.st y ≡ Status.drawn → prefix S y ≡ take m (prefix S x)
    → ((c : ℕ) → child S y c ≡ fork (get_or (prefix S x) m 0) x (get_or k (e + m) 0) (leaf i) c)
    → writes.Miss Key T G p b x y (get_or k (e + m) 0) (get_or (prefix S x) m 0) i k v
cut_made {deep} {Key} {flux} {S} {T} {G} laws t p b x y k e m i v bytes at mi w lp there fr ny dy pre kids =
    let u = prefix S x in
    let c = get_or k (e + m) 0 in
    let d = get_or u m 0 in
    let rest = (stands S G x k e at).rest in
    let py : prefix T y ≡ take m u = w.elsewhere y (λ q. unlike G x y at.here dy (sym q)) ∙ pre in
    let way : (G.path x ++ take m u ++ (c ∷ [])) ≼ k = subst (λ (z : List ℕ). z ≼ k) (sym (append_assoc (G.path x) (take m u) (c ∷ [])))
    (subst (λ (z : List ℕ). (G.path x ++ (take m u ++ (c ∷ []))) ≼ z) rest (≼_under (G.path x) (take m u ++ (c ∷ [])) (drop e k) mi.way)) in
    let whole : (G.path x ++ take m u ++ (d ∷ [])) ≼ G.full x = subst (λ (z : List ℕ). z ≼ G.full x) (sym (append_assoc (G.path x) (take m u) (d ∷ [])))
    (subst (λ (z : List ℕ). (G.path x ++ (take m u ++ (d ∷ []))) ≼ z) at.steady
    (≼_under (G.path x) (take m u ++ (d ∷ [])) u (subst (λ (z : List ℕ). (take m u ++ (d ∷ [])) ≼ z) mi.parts (≼_app (take m u ++ (d ∷ [])) (drop (suc m) u))))) in
    let parts : prefix T y ++ (d ∷ []) ++ prefix T x ≡ u = ap₂ (λ (a z : List ℕ). a ++ (d ∷ []) ++ z) py w.there ∙ mi.parts in
    miss_ready laws t p b x y k (drop e k) u c d i v lp (w.kids p b ∙ there) at.inner at.steady rest parts (subst (λ (z : List ℕ). (z ++ (c ∷ [])) ≼ drop e k) (sym py) mi.way)
    (fork_made T G y c (leaf i) d x ny dy (laws.bytes k (G.path x ++ take m u) c fr.accepted way) (bytes (G.path x ++ take m u) d whole) mi.apart (λ f. w.kids y f ∙ kids f))
    (record { drawn' = fr.drawn'; key = ap (λ (z : Entry). z.key) (w.entries i) ∙ fr.key; value = ap (λ (z : Entry). z.value) (w.entries i) ∙ fr.value; accepted = fr.accepted })

-- after m's prefix was made longer, the write of a collapse may follow
join_made : {deep : ℕ} {Key : List ℕ → Type 0} {flux flux' : Ref → Type 0} {S T : Tree} {G : Ghost} (laws : writes.Laws deep Key) (was : TreeOk deep Key flux S G) (t : TreeOk deep Key flux' T G)
    (p : Ref) (b : ℕ) (n : Hold) (m : Ref) (k : List ℕ) (v l : ℕ) → Key k → (f : Left S G k n v l m) (c : ℕ) → child S n.at c ≡ Some m → Prefixed S T m (prefix S n.at ++ c ∷ prefix S m)
    → Linked G p → child S p b ≡ Some n.at → G.path m ++ prefix S m ≡ G.full m → writes.Collapse T G p b n.at (key_byte S k n) l f.other m
join_made {deep} {Key} {flux} {flux'} {S} {T} {G} laws was t p b n m k v l key f c hc w lp there steady =
    let x = n.at in
    let d = f.other in
    let lx = f.at_n.here in
    let cd : c ≡ d = (parent_one was x x c d m lx lx hc f.there).1 in
    let apart : x ≡ m → ⊥ = λ z. omega (arith, (past was x d m lx f.there).2, ap (λ (y : Ref). length (G.path y)) z) in
    let px : prefix T x ≡ prefix S x = w.elsewhere x apart in
    let first : prefix T m ≡ prefix T x ++ (d ∷ []) ++ prefix S m = w.there ∙ ap₂ (λ (z : List ℕ) (e : ℕ). z ++ e ∷ prefix S m) (sym px) cd ∙ sym (append_assoc (prefix T x) (d ∷ []) (prefix S m)) in
    let second : G.path x ++ prefix T x ++ (d ∷ []) ++ prefix S m ≡ G.full m =
    ap (λ (z : List ℕ). z ++ (d ∷ []) ++ prefix S m) (ap (λ (z : List ℕ). G.path x ++ z) px ∙ f.at_n.steady) ∙ ap (λ (z : List ℕ). z ++ prefix S m) (sym (was.kid x d m lx f.there).1) ∙ steady in
    collapse_ready laws t p b x k (drop n.depth k) (key_byte S k n) l d m lp (w.kids p b ∙ there) key (stands S G x k n.depth f.at_n).rest f.apart
    (w.kids x (key_byte S k n) ∙ f.same.goes.there) (w.kids x d ∙ f.there) (λ e ne nd. w.kids x e ∙ f.rest e ne nd) (λ _. (prefix S m, first, second))

-- the two that go out, in the other order
swapped : {deep : ℕ} {Key : List ℕ → Type 0} {flux : Ref → Type 0} {S T : Tree} {G : Ghost} {new moved : List Ref} {x y : Ref} {now : ℕ} → After deep Key flux S T G new (x ∷ y ∷ []) moved now → After deep Key flux S T G new (y ∷ x ∷ []) moved now
swapped {x = x} {y = y} a = record {
  ghost' = a.ghost';
  turned = record {
    come = a.turned.come;
    gone = (a.turned.gone.1.0, (a.turned.gone.0, tt));
    stay = λ z n e. a.turned.stay z n (λ i. e (⊎_elim (λ q. inr (inl q)) (λ q. ⊎_elim inl (λ h. absurd h) q) i));
    paths = a.turned.paths;
    fulls = a.turned.fulls;
  };
  good = a.good;
  closed = a.closed;
}

-- a node and a leaf: each slot is listed once
once_each : (i : ℕ) (x : Ref) → IsNode x → (y : Ref) → count y (leaf i ∷ x ∷ []) ≤ 1
once_each i x n y = by (is_tells y x)
  where
    by : ((is y x ≡ true) × (y ≡ x)) ⊎ ((is y x ≡ false) × (y ≡ x → ⊥)) → bit (is y (leaf i)) + (bit (is y x) + 0) ≤ 1
    by (inl (e, q)) = let z : bit (is y (leaf i)) ≡ 0 = ap bit (is_not y (leaf i) (λ h. node_leaf x i n (sym q ∙ h))) in omega (arith, z, bit_most (is y x))
    by (inr (e, q)) = let z : bit (is y x) ≡ 0 = ap bit e in omega (arith, z, bit_most (is y (leaf i)))

module _ {N : Numbers} {Key : List ℕ → Type 0} {σ τ : State} {g : Ghosts} {s : ℕ} {o u : Operation} {r : Outcome} (st : Step N Key σ τ g s o (busy u) r) (t : is_next o.task ≡ false) where
  -- n's prefix is cut behind the place of the miss
  pub cut_ok : (v m : ℕ) (d : Option Drawn) (rest : List Item) (hs : List Hold) (n : Hold) → o.stage ≡ act (miss v m) (write_n ∷ rest) d
      → o.held ≡ hs ++ n ∷ [] → Prefixed σ.tree τ.tree n.at (drop (suc m) (prefix σ.tree n.at)) → τ.spare ≡ σ.spare → τ.retired ≡ σ.retired
      → Follows o τ (miss v m) σ.words o.held d rest (busy u) r
      → Leaves N Key σ τ g g s × HoldsSame σ τ g g
  cut_ok v m d rest hs n e q w a b f =
      let k = course_n st t (miss v m) rest d hs n e q in
      let c = k.1 in
      cut_by c.0 c.1 c.2 (q ∙ ap (λ (l : List Hold). l ++ n ∷ []) c.3) c.4 c.5 k.0 c.6 c.7 c.8
    where
      cut_by : (i : ℕ) (y : Ref) (p : Hold) → o.held ≡ p ∷ n ∷ [] → rest ≡ write_p ∷ unlock_n ∷ unlock_p ∷ [] → d ≡ Some (record { leaf_slot = i; node_slot = Some y }) → o.mode ≡ by_key
          → BothLocked N Key σ g s o (miss v m) p n → LeafDrawn N Key σ g s o i v → NodeDrawn N Key σ g s o (miss v m) n i y → Leaves N Key σ τ g g s × HoldsSame σ τ g g
      cut_by i y p held er ed mode bl ld nd =
          let S = σ.tree in
          let more : List Item = unlock_n ∷ unlock_p ∷ [] in
          let in_p : In p o.held = subst (λ (l : List Hold). In p l) (sym held) (inl refl) in
          let in_n : In n o.held = subst (λ (l : List Hold). In n l) (sym held) (inr (inl refl)) in
          let steady = no_flux st t (miss v m) write_n rest d e (λ z. no_way (cc z)) in
          let at = at_locked st t n in_n bl.locked (stand_placed (p ∷ []) n bl.stand) (steady n.at) in
          let ab = stand_above (p ∷ []) p n bl.stand refl in
          let at_p = at_locked st t p in_p bl.above ab.placed (steady p.at) in
          let there = leads_at st t p n bl.above ab at_p in
          let ch = chosen_at st t (miss v m) n bl.locked bl.decides in
          let tells = tells_at st t n (missed m) at ch.1 in
          let is_content : miss_node S o.key n i m ≡ nd.content = some_inj (miss_node S o.key n i m) nd.content nd.filled in
          let go = followed rest (busy u) write_p more f er refl in
          let U : Operation = record { task = o.task; key = o.key; begun = o.begun; restarts = o.restarts; mode = o.mode; held = o.held; stage = act (miss v m) (write_p ∷ more) d } in
          let eu : u ≡ U = cc go.1 in
          let now : Flux τ n.at = (s, u, st.seat, st.turns.there, FluxOf.cut v m more d p n (ap (λ (z : Operation). z.stage) eu) (ap (λ (z : Operation). z.held) eu ∙ held)) in
          prefix_leaves st t n (drop (suc m) (prefix S n.at)) in_n bl.locked ab.inner w go.0 steady now (miss v m) write_p more d mode go.1
          (λ good. subst (λ (z : Operation). Acts N Key τ g s z (miss v m) (write_p ∷ more) d o.held) (sym eu)
          (subst (λ (z : Option Drawn). Acts N Key τ g s U (miss v m) (write_p ∷ more) z o.held) (sym ed)
          (subst (λ (z : List Hold). Acts N Key τ g s U (miss v m) (write_p ∷ more) (Some (record { leaf_slot = i; node_slot = Some y })) z) (sym held)
          (Acts.to_miss v m i y p n (record {
            above = bl.above;
            locked = bl.locked;
            placed = λ _. stand_placed (p ∷ []) n bl.stand (sound_locked σ n bl.locked);
            node_drawn = nd.drawn';
            leaf_drawn = ld.drawn';
            own = get_or o.key (n.depth + m) 0;
            other = get_or (prefix S n.at) m 0;
            ready = cut_made st.lawful.keys good p.at (byte_above o.key n) n.at y o.key n.depth m i v (λ z c h. st.inv.spelled.full_byte n.at z c at.inner at.here h) at tells w
                at_p.here there (fresh st t i v ld) nd.inner (ap status_of nd.drawn') (nd.prefix_is ∙ ap (λ (z : Content). z.prefix) (sym is_content))
                (λ c. nd.child_is c ∙ ap (λ (z : Content). z.child c) (sym is_content));
            task = ch.0;
          })))))

  miss_by : (v m i : ℕ) (y : Ref) (rest : List Item) (p n : Hold) → o.stage ≡ act (miss v m) (write_p ∷ rest) (Some (record { leaf_slot = i; node_slot = Some y }))
      → o.held ≡ p ∷ n ∷ [] → Writes σ τ p.at (byte_above o.key n) (Some y) []
      → Follows o τ (miss v m) σ.words o.held None rest (busy u) r → o.mode ≡ by_key → rest ≡ unlock_n ∷ unlock_p ∷ [] → Cut N Key σ g s o v i p n y
      → (w : Written N Key σ τ g s (y ∷ leaf i ∷ []) []) × Puts σ τ g w.after o.key v × (o.task ≡ op.add v)
  miss_by v m i y rest p n e q w f mode er cu =
      let S = σ.tree in
      let B = byte_above o.key n in
      let ready = cu.ready in
      let in_p : In p o.held = subst (λ (l : List Hold). In p l) (sym q) (inl refl) in
      let in_n : In n o.held = subst (λ (l : List Hold). In n l) (sym q) (inr (inl refl)) in
      let flux_n : (x : Ref) → FluxOf o x → x ≡ n.at = λ x h. ⊎_elim
      (λ z. (let hs : ◌≡◌ {A = List Hold} (z.2 ∷ z.3 ∷ []) (p ∷ n ∷ []) = sym z.5 ∙ q in let en : z.3 ≡ n = cc hs in z.6 ∙ ap (λ (k : Hold). k.at) en))
      (λ z. no_way (cc z.2)) (flux_of o x (miss v m) write_p rest (Some (record { leaf_slot = i; node_slot = Some y })) h e).1 in
      let here = cu.placed (sound_locked σ n cu.locked) in
      let keeps = miss_keeps {flux' = Flux τ} st.lawful.keys st.inv.tree p.at B n.at y cu.own cu.other i o.key v σ.epoch ready w.wrote (λ x ne h. flows st x (λ k. ne (flux_n x k)) h) in
      let go = followed rest (busy u) unlock_n (unlock_p ∷ []) f er refl in
      let x : Exchange N Key σ τ g s p.at B (Some y) (y ∷ leaf i ∷ []) [] (n.at ∷ []) = record {
        put = w.wrote;
        made = keeps.0;
        here = ready.here;
        kept = λ z. z;
        byte = ready.byte;
        mine = all_in (λ y. g.mark y ≡ drawn s) (y ∷ leaf i ∷ []) (cu.node_drawn, (cu.leaf_drawn, tt));
        shows = all_in (λ y. IsNode y → (c : ℕ) × (i : ℕ) × (child S y c ≡ Some (leaf i))) (y ∷ leaf i ∷ []) ((λ _. (cu.own, i, ready.fork.first)), ((λ z. absurd z), tt));
        locked = λ y k z. ⊎_elim (locked_by st t p in_p cu.above y) (λ h. ⊎_elim (λ b. absurd b) (λ h. ⊎_elim (locked_by st t n in_n cu.locked y) (λ b. absurd b) h) h) z;
        once = λ y. omega arith;
        words = go.0;
      } in
      let acts : (h : Ghosts) → ghost h ≡ x.made.ghost' → Acts N Key τ h s u (miss v m) (unlock_n ∷ unlock_p ∷ []) None o.held = λ h k.
      subst (λ (l : List Hold). Acts N Key τ h s u (miss v m) (unlock_n ∷ unlock_p ∷ []) None l) (sym q)
      (Acts.to_unlock_n v m p n cu.above cu.locked (still_linked st t x h k p.at ready.here (λ z. z)) (still_linked st t x h k n.at here.0 (λ z. z))) in
      puts st t x v (miss v m) unlock_n (unlock_p ∷ []) None mode go.1 acts (miss_lacks st.inv.tree ready here.0 here.1) keeps.1 cu.task

  pub miss_ok : (v m i : ℕ) (y : Ref) (rest : List Item) (p n : Hold) → o.stage ≡ act (miss v m) (write_p ∷ rest) (Some (record { leaf_slot = i; node_slot = Some y }))
      → o.held ≡ p ∷ n ∷ [] → Writes σ τ p.at (byte_above o.key n) (Some y) []
      → Follows o τ (miss v m) σ.words o.held None rest (busy u) r
      → (w : Written N Key σ τ g s (y ∷ leaf i ∷ []) []) × Puts σ τ g w.after o.key v × (o.task ≡ op.add v)
  miss_ok v m i y rest p n e q w f =
      let k = course_at st t (miss v m) write_p rest (Some (record { leaf_slot = i; node_slot = Some y })) e in
      let a = k.1 in
      let ei : a.0 ≡ i = same_leaf a.0 i (Some a.1) (Some y) (sym a.6) in
      let ey : a.1 ≡ y = same_node a.0 i a.1 y (sym a.6) in
      let ehs : ◌≡◌ {A = List Hold} (a.2 ∷ a.3 ∷ []) (p ∷ n ∷ []) = sym a.4 ∙ q in
      let ep : a.2 ≡ p = cc ehs in
      let en : a.3 ≡ n = cc ehs in
      let cu = subst (λ (z : ℕ). Cut N Key σ g s o v z p n y) ei (subst (λ (z : Ref). Cut N Key σ g s o v a.0 p n z) ey
      (subst (λ (z : Hold). Cut N Key σ g s o v a.0 z n a.1) ep (subst (λ (z : Hold). Cut N Key σ g s o v a.0 a.2 z a.1) en a.7))) in
      miss_by v m i y rest p n e q w f k.0 a.5 cu

  pub remove_ok : (v l : ℕ) (rest : List Item) (hs : List Hold) (n : Hold) → o.stage ≡ act (in_place v l) (write_n ∷ rest) None
      → o.held ≡ hs ++ n ∷ [] → Writes σ τ n.at (key_byte σ.tree o.key n) None (leaf l ∷ [])
      → Follows o τ (in_place v l) σ.words o.held None rest (busy u) r
      → (w : Written N Key σ τ g s [] (leaf l ∷ [])) × Drops σ τ g w.after o.key v × (o.task ≡ op.remove)
  remove_ok v l rest hs n e q w f =
      let S = σ.tree in
      let k = course_n st t (in_place v l) rest None hs n e q in
      let ol = k.1.2 in
      let held : In n o.held = subst (λ (z : List Hold). In n z) (sym q) (in_last hs n) in
      let steady = no_flux st t (in_place v l) write_n rest None e (λ z. no_way (cc z)) in
      let at = at_locked st t n held ol.locked (stand_placed hs n ol.stand) (steady n.at) in
      let ch = chosen_at st t (in_place v l) n ol.locked ol.decides in
      let tells = tells_at st t n (same_key l v) at ch.1 in
      let wide : (n.at ≡ root → ⊥) → 3 ≤ fan S n.at = λ ne.
      let two : leb 2 (fan S n.at - 1) ≡ true = sym (ap (λ (b : Bool). b || leb 2 (fan S n.at - 1)) (is_not n.at root ne)) ∙ ch.2 in
      omega (arith, leb-true 2 (fan S n.at - 1) two) in
      let ready = in_place_ready st.lawful.keys st.inv.tree n.at o.key (drop n.depth o.key) (key_byte S o.key n) l (stands S (ghost g) n.at o.key n.depth at)
      (st.inv.seats s o st.was).key tells.goes.rest tells.goes.there wide in
      let keeps = inplace_keeps (flux_more (λ x h. flows st x (steady x) h) st.inv.tree) n.at (key_byte S o.key n) l σ.epoch ready w.wrote in
      let go = followed rest (busy u) unlock_n [] f k.1.0 refl in
      let x : Exchange N Key σ τ g s n.at (key_byte S o.key n) None [] (leaf l ∷ []) [] = record {
        put = w.wrote;
        made = keeps.0;
        here = ready.here;
        kept = λ z. ⊎_elim (λ b. node_leaf n.at l ready.at b) (λ b. b) z;
        byte = ready.byte;
        mine = λ y z. absurd z;
        shows = λ y z. absurd z;
        locked = λ y k z. ⊎_elim (locked_by st t n held ol.locked y) (λ h. absurd (⊎_elim (λ h. ⊎_elim (λ b. node_leaf y l k b) (λ b. b) h) (λ b. b) h)) z;
        once = λ y. omega (arith, bit_most (is y (leaf l)));
        words = go.0;
      } in
      drops st t x v (in_place v l) unlock_n [] None k.0 go.1 (solo_acts st t x (in_place v l) hs n (removing v l) ol q refl) tells.holds
      (subst (λ (z : List ℕ). Removed S (ghost g) τ.tree x.made.ghost' z) tells.key keeps.1) ch.0

  -- what was seen where a collapse was decided
  left_seen : (v l : ℕ) (x : Ref) (p n : Hold) → BothLocked N Key σ g s o (collapse v l x) p n → In n o.held → ((y : Ref) → FluxOf o y → ⊥) → Left σ.tree (ghost g) o.key n v l x × (o.task ≡ op.remove)
  left_seen v l x p n bl in_n steady =
      let S = σ.tree in
      let c = key_byte S o.key n in
      let at = at_locked st t n in_n bl.locked (stand_placed (p ∷ []) n bl.stand) (steady n.at) in
      let ch = chosen_at st t (collapse v l x) n bl.locked bl.decides in
      let tells = tells_at st t n (same_key l v) at ch.1 in
      let few = or_false (is n.at root) (leb 2 (fan S n.at - 1)) ch.2 in
      let two : fan S n.at ≡ 2 = omega (arith, leb-false 2 (fan S n.at - 1) few.1, st.inv.tree.wide n.at at.inner (not_root n.at root few.0) (inl at.here)) in
      let all = left_over st.lawful.keys st.inv.tree st.inv.spelled.child_byte n.at c l tells.goes.there two in
      let one = left_is S n.at c x ch.3 in
      let same : one.0 ≡ all.0 = elim (ℕ_discrete one.0 all.0) [ yes z ↦ z | no ne ↦ absurd (none_some (sym (all.4 one.0 (λ z. one.1 (sym z)) ne) ∙ one.2)) ] in
      (record { at_n = at; same = tells; other = all.0; apart = all.2; there = ap (child S n.at) (sym same) ∙ one.2; rest = all.4 }, ch.0)

  -- m gets n's prefix and its byte before its own
  pub join_ok : (v l b : ℕ) (rest : List Item) (p n m : Hold) → o.stage ≡ act (collapse v l m.at) (write_m ∷ rest) None
      → o.held ≡ p ∷ n ∷ m ∷ [] → child σ.tree n.at b ≡ Some m.at
      → Prefixed σ.tree τ.tree m.at (prefix σ.tree n.at ++ b ∷ prefix σ.tree m.at) → τ.spare ≡ σ.spare → τ.retired ≡ σ.retired
      → Follows o τ (collapse v l m.at) σ.words o.held None rest (busy u) r
      → Leaves N Key σ τ g g s × HoldsSame σ τ g g
  join_ok v l b rest p n m e q k w x y f =
      let c = course_at st t (collapse v l m.at) write_m rest None e in
      let a = c.1 in
      let ehs : ◌≡◌ {A = List Hold} (a.0 ∷ a.1 ∷ a.2 ∷ []) (p ∷ n ∷ m ∷ []) = sym a.4 ∙ q in
      let ep : a.0 ≡ p = cc ehs in
      let en : a.1 ≡ n = cc ehs in
      let em : a.2 ≡ m = cc ehs in
      join_by c.0 a.5 (subst (λ (z : Hold). Joins N Key σ g s o v l z n m) ep (subst (λ (z : Hold). Joins N Key σ g s o v l a.0 z m) en (subst (λ (z : Hold). Joins N Key σ g s o v l a.0 a.1 z) em a.7)))
    where
      join_by : o.mode ≡ by_key → rest ≡ write_p ∷ unlock_m ∷ unlock_n_gone ∷ unlock_p ∷ [] → Joins N Key σ g s o v l p n m → Leaves N Key σ τ g g s × HoldsSame σ τ g g
      join_by mode er jo =
          let S = σ.tree in
          let bl = jo.both in
          let more : List Item = unlock_m ∷ unlock_n_gone ∷ unlock_p ∷ [] in
          let in_p : In p o.held = subst (λ (z : List Hold). In p z) (sym q) (inl refl) in
          let in_n : In n o.held = subst (λ (z : List Hold). In n z) (sym q) (inr (inl refl)) in
          let in_m : In m o.held = subst (λ (z : List Hold). In m z) (sym q) (inr (inr (inl refl))) in
          let steady = no_flux st t (collapse v l m.at) write_m rest None e (λ z. no_way (cc z)) in
          let seen-left = left_seen v l m.at p n bl in_n steady in
          let lf = seen-left.0 in
          let ab = stand_above (p ∷ []) p n bl.stand refl in
          let at_p = at_locked st t p in_p bl.above ab.placed (steady p.at) in
          let there = leads_at st t p n bl.above ab at_p in
          let whole : g.path m.at ++ prefix S m.at ≡ g.full m.at = ⊎_elim (λ z. z) (λ z. absurd (locked_steady st.inv s o st.was m in_m jo.locked (steady m.at) z))
          (st.inv.tree.split m.at jo.inner jo.linked).1 in
          let inner : m.at ≡ root → ⊥ = λ z. omega (arith, (past st.inv.tree n.at b m.at lf.at_n.here k).2, ap (λ (y : Ref). length (g.path y)) z, ap length st.inv.tree.root_path) in
          let go = followed rest (busy u) write_p more f er refl in
          let U : Operation = record { task = o.task; key = o.key; begun = o.begun; restarts = o.restarts; mode = o.mode; held = o.held; stage = act (collapse v l m.at) (write_p ∷ more) None } in
          let eu : u ≡ U = cc go.1 in
          let now : Flux τ m.at = (s, u, st.seat, st.turns.there, FluxOf.joined v l m.at more None jo.inner (ap (λ (z : Operation). z.stage) eu)) in
          prefix_leaves st t m (prefix S n.at ++ b ∷ prefix S m.at) in_m jo.locked inner w go.0 steady now (collapse v l m.at) write_p more None mode go.1
          (λ good. subst (λ (z : Operation). Acts N Key τ g s z (collapse v l m.at) (write_p ∷ more) None o.held) (sym eu)
          (subst (λ (z : List Hold). Acts N Key τ g s U (collapse v l m.at) (write_p ∷ more) None z) (sym q)
          (Acts.to_collapse_m v l p n m (record {
            above = bl.above;
            locked = bl.locked;
            below = jo.locked;
            inner = jo.inner;
            placed = λ _. stand_placed (p ∷ []) n bl.stand (sound_locked σ n bl.locked);
            own = key_byte S o.key n;
            other = lf.other;
            ready = join_made st.lawful.keys st.inv.tree good p.at (byte_above o.key n) n m.at o.key v l (st.inv.seats s o st.was).key lf b k w at_p.here there whole;
            key = ap (λ (z : Entry). z.key) (w.entries l) ∙ lf.same.key;
            value = ap (λ (z : Entry). z.value) (w.entries l) ∙ lf.same.value;
            task = seen-left.1;
          }))))

  collapse_by : (v l : ℕ) (x : Ref) (d : Option Drawn) (rest : List Item) (a : Item) (more : List Item) (p n : Hold) (own other : ℕ) → o.stage ≡ act (collapse v l x) (write_p ∷ rest) d → In p o.held → In n o.held
      → Writes σ τ p.at (byte_above o.key n) (Some x) (leaf l ∷ n.at ∷ []) → WordsAre σ.words τ → busy u ≡ with o o.mode o.held (act (collapse v l x) (a ∷ more) None) → o.mode ≡ by_key
      → writes.Collapse σ.tree (ghost g) p.at (byte_above o.key n) n.at own l other x → (σ.tree.entries l).key ≡ o.key → (σ.tree.entries l).value ≡ v → o.task ≡ op.remove
      → IsLocked p → IsLocked n → (IsNode x → LockedBy σ τ g g s x)
      → ((X : Exchange N Key σ τ g s p.at (byte_above o.key n) (Some x) [] (leaf l ∷ n.at ∷ []) (x ∷ [])) (h : Ghosts) → ghost h ≡ X.made.ghost' → Acts N Key τ h s u (collapse v l x) (a ∷ more) None o.held)
      → (w : Written N Key σ τ g s [] (leaf l ∷ n.at ∷ [])) × Drops σ τ g w.after o.key v × (o.task ≡ op.remove)
  unfolding swapped
  collapse_by v l x d rest a more p n own other e in_p in_n w words eu mode ready key value task lp ln lx acts =
      let S = σ.tree in
      let B = byte_above o.key n in
      let flux_x : (y : Ref) → FluxOf o y → y ≡ x = λ y h. ⊎_elim (λ z. no_way (cc z.4)) (λ z. cc z.2) (flux_of o y (collapse v l x) write_p rest d h e).1 in
      let keeps = collapse_keeps {flux' = Flux τ} st.inv.tree p.at B n.at own l other x σ.epoch ready w.wrote (λ y ne h. flows st y (λ k. ne (flux_x y k)) h) in
      let inner : IsNode n.at = (entry_reads st.inv s o st.was n in_n).0 in
      let kn = st.inv.tree.kid p.at B n.at ready.here ready.there in
      let kl = st.inv.tree.kid n.at own (leaf l) kn.0 ready.first in
      let apart : p.at ≡ n.at → ⊥ = λ z. omega (arith, (past st.inv.tree p.at B n.at ready.here ready.there).2, ap (λ (y : Ref). length (g.path y)) z) in
      let X : Exchange N Key σ τ g s p.at B (Some x) [] (leaf l ∷ n.at ∷ []) (x ∷ []) = record {
        put = w.wrote;
        made = swapped keeps.0;
        here = ready.here;
        kept = λ z. ⊎_elim (λ b. node_leaf p.at l ready.at b) (λ h. ⊎_elim apart (λ b. b) h) z;
        byte = ready.byte;
        mine = λ y z. absurd z;
        shows = λ y z. absurd z;
        locked = λ y k z. ⊎_elim (locked_by st t p in_p lp y)
            (λ h. ⊎_elim (λ h. ⊎_elim (λ b. absurd (node_leaf y l k b)) (λ h. ⊎_elim (locked_by st t n in_n ln y) (λ b. absurd b) h) h)
            (λ h. ⊎_elim (λ b. subst (λ (q : Ref). LockedBy σ τ g g s q) (sym b) (lx (subst IsNode b k))) (λ b. absurd b) h) h) z;
        once = once_each l n.at inner;
        words = words;
      } in
      drops st t X v (collapse v l x) a more None mode eu (acts X) (l, kl.0, key, value)
      (subst (λ (z : List ℕ). Removed S (ghost g) τ.tree X.made.ghost' z) key keeps.1) task

  pub collapse_ok : (v l : ℕ) (x : Ref) (rest : List Item) (p n : Hold) (ms : List Hold) → o.stage ≡ act (collapse v l x) (write_p ∷ rest) None
      → o.held ≡ p ∷ n ∷ ms → Writes σ τ p.at (byte_above o.key n) (Some x) (leaf l ∷ n.at ∷ [])
      → Follows o τ (collapse v l x) σ.words o.held None rest (busy u) r
      → (w : Written N Key σ τ g s [] (leaf l ∷ n.at ∷ [])) × Drops σ τ g w.after o.key v × (o.task ≡ op.remove)
  collapse_ok v l x rest p n ms e q w f = let k = course_at st t (collapse v l x) write_p rest None e in ⊎_elim
      (λ a. (let ehs : ◌≡◌ {A = List Hold} (a.1 ∷ a.2 ∷ []) (p ∷ n ∷ ms) = sym a.4 ∙ q in
      let ep : a.1 ≡ p = cc ehs in
      let en : a.2 ≡ n = cc ehs in
      let held : o.held ≡ p ∷ n ∷ [] = cc (a.4, ep, en) in
      at_leaf a.0 a.3 held a.5 k.0 (subst (λ (z : Hold). BothLocked N Key σ g s o (collapse v l x) z n) ep (subst (λ (z : Hold). BothLocked N Key σ g s o (collapse v l x) a.1 z) en a.7))))
      (λ a. (let ehs : ◌≡◌ {A = List Hold} (a.0 ∷ a.1 ∷ a.2 ∷ []) (p ∷ n ∷ ms) = sym a.4 ∙ q in
      let ep : a.0 ≡ p = cc ehs in
      let en : a.1 ≡ n = cc ehs in
      let held : o.held ≡ p ∷ n ∷ a.2 ∷ [] = cc (a.4, ep, en) in
      at_node a.2 a.3 held a.5 k.0 (subst (λ (z : Hold). Joined N Key σ g s o v l z n a.2) ep (subst (λ (z : Hold). Joined N Key σ g s o v l a.0 z a.2) en a.7))))
      k.1
    where
      at_leaf : (j : ℕ) → x ≡ leaf j → o.held ≡ p ∷ n ∷ [] → rest ≡ unlock_n_gone ∷ unlock_p ∷ [] → o.mode ≡ by_key → BothLocked N Key σ g s o (collapse v l x) p n
          → (w : Written N Key σ τ g s [] (leaf l ∷ n.at ∷ [])) × Drops σ τ g w.after o.key v × (o.task ≡ op.remove)
      at_leaf j ej held er mode bl =
          let in_p : In p o.held = subst (λ (z : List Hold). In p z) (sym held) (inl refl) in
          let in_n : In n o.held = subst (λ (z : List Hold). In n z) (sym held) (inr (inl refl)) in
          let not_node : IsNode x → ⊥ = λ z. node_leaf x j z ej in
          let steady : (y : Ref) → FluxOf o y → ⊥ = λ y h. ⊎_elim (λ z. no_way (cc z.4)) (λ z. (let same : y ≡ x = cc z.2 in not_node (subst IsNode same z.3))) (flux_of o y (collapse v l x) write_p rest None h e).1 in
          let seen-left = left_seen v l x p n bl in_n steady in
          let lf = seen-left.0 in
          let ab = stand_above (p ∷ []) p n bl.stand refl in
          let at_p = at_locked st t p in_p bl.above ab.placed (steady p.at) in
          let there = leads_at st t p n bl.above ab at_p in
          let go = followed rest (busy u) unlock_n_gone (unlock_p ∷ []) f er refl in
          let ready = collapse_ready st.lawful.keys st.inv.tree p.at (byte_above o.key n) n.at o.key (drop n.depth o.key) (key_byte σ.tree o.key n) l lf.other x at_p.here there
          (st.inv.seats s o st.was).key (stands σ.tree (ghost g) n.at o.key n.depth lf.at_n).rest lf.apart lf.same.goes.there lf.there lf.rest (λ z. absurd (not_node z)) in
          collapse_by v l x None rest unlock_n_gone (unlock_p ∷ []) p n (key_byte σ.tree o.key n) lf.other e in_p in_n w go.0 go.1 mode ready lf.same.key lf.same.value seen-left.1
          bl.above bl.locked (λ z. absurd (not_node z)) (λ X. gone_acts st t X (collapse v l x) p n (collapsing v l x) bl.above bl.locked held refl (inr (inl refl)))

      at_node : (m : Hold) → x ≡ m.at → o.held ≡ p ∷ n ∷ m ∷ [] → rest ≡ unlock_m ∷ unlock_n_gone ∷ unlock_p ∷ [] → o.mode ≡ by_key → Joined N Key σ g s o v l p n m
          → (w : Written N Key σ τ g s [] (leaf l ∷ n.at ∷ [])) × Drops σ τ g w.after o.key v × (o.task ≡ op.remove)
      at_node m em held er mode jo =
          let in_p : In p o.held = subst (λ (z : List Hold). In p z) (sym held) (inl refl) in
          let in_n : In n o.held = subst (λ (z : List Hold). In n z) (sym held) (inr (inl refl)) in
          let in_m : In m o.held = subst (λ (z : List Hold). In m z) (sym held) (inr (inr (inl refl))) in
          let go = followed rest (busy u) unlock_m (unlock_n_gone ∷ unlock_p ∷ []) f er refl in
          let ready = subst (λ (z : Ref). writes.Collapse σ.tree (ghost g) p.at (byte_above o.key n) n.at jo.own l jo.other z) (sym em) jo.ready in
          let ln = (st.inv.tree.kid p.at (byte_above o.key n) n.at ready.here ready.there).0 in
          let lm = (st.inv.tree.kid n.at jo.other m.at ln jo.ready.second).0 in
          let apart : m.at ≡ n.at → ⊥ = λ z. omega (arith, (past st.inv.tree n.at jo.other m.at ln jo.ready.second).2, ap (λ (y : Ref). length (g.path y)) z) in
          collapse_by v l x None rest unlock_m (unlock_n_gone ∷ unlock_p ∷ []) p n jo.own jo.other e in_p in_n w go.0 go.1 mode ready jo.key jo.value jo.task
          jo.above jo.locked (λ z. locked_by st t m in_m jo.below x em)
          (λ X h k. subst (λ (z : List Hold). Acts N Key τ h s u (collapse v l x) (unlock_m ∷ unlock_n_gone ∷ unlock_p ∷ []) None z) (sym held)
          (Acts.to_unlock_m (collapse v l x) p n m (collapsing v l x) jo.above jo.locked jo.below (still_linked st t X h k p.at ready.here X.kept) (gone_retired st t X h k n.at (inr (inl refl)))
          (still_linked st t X h k m.at lm (λ z. ⊎_elim (λ b. node_leaf m.at l jo.inner b) (λ z. ⊎_elim apart (λ b. b) z) z))))
