-- With every permit sound at one time, what `next` has in hand is the first pair not below its key.
use Rattle.std.proofs.Common.{◌≡◌, ℕ, zero, suc, ◌+◌, ◌-◌, ◌<◌, ◌≤◌, Bool, false, cond, T, leb, List, [], ◌∷◌, ◌++◌, length, get_or, drop, Some, None, Option, sym, refl, ap, ◌∙◌, subst, inl, ⊎_elim, arith, length-append}
use Rattle.std.proofs.lemmas.Bool.{cases_order, lt-leb}
use Rattle.std.specs.List.{AllByRecursion}
use Rattle.model.specs.Bytes.{◌≼◌}
use Rattle.model.specs.Refs.{Ref, root, IsNode}
use Rattle.model.specs.Tree.{Tree, child, prefix, Ghost, Linked, TreeOk, Holds}
use Rattle.model.specs.Refs.Ref.{leaf, node}
use Rattle.keys.specs.Bytes.{First}
use Rattle.model_next.specs.Bytes.{Compared, larger, smaller, ended, same, against}
use Rattle.model_next.specs.Look.{Sight, stale, back, onward, aside, got, smallest, past, picks, picked, keyed, key_sight, back_sight, down_sight, Held, taken, Saw, SawDown, Led}
use Rattle.model_next.specs.Next.{NextOf, pair_of, Past, Trail, SoundNow, Snapshot}
use Rattle.model_next.specs.Walk.{take_key, take_down, look_key, look_back, look_down, on, newest, place, Links, DownLinks, Seen}
use Rattle.model_next.specs.Laws.{Best}
use Rattle.model.proofs.Bytes.{none_some, ≼_app, ≼_trans, ≼_or, snoc_len}
use Rattle.model.proofs.Reach
use Rattle.model_next.proofs.Order.{first_not, first_asym, first_behind, begins_drop, drop_begins, fork, byte_at, larger_first, smaller_first, same_begins, ended_begins, begins_behind, nil_not_larger}
use Rattle.model_next.proofs.Views.{smallest_some, past_some, past_none, picks_got, picks_aside, down_view, back_view, Unfit, KeyView, key_view, picks_not, picked_not, picks_depth, back_fresh, smallest_fresh, under_fresh, has_smallest}

-- the smallest of them that is not below k
pub record Fit (S : Tree) (G : Ghost) (k u : List ℕ) (i : ℕ) : Type 0 where
  pub linked : Linked G (leaf i)
  pub under : u ≼ (S.entries i).key
  pub from : First (S.entries i).key k → ⊥
  pub least : (j : ℕ) → Linked G (leaf j) → u ≼ (S.entries j).key → (First (S.entries j).key k → ⊥) → First (S.entries j).key (S.entries i).key → ⊥

-- the answer among the linked leaves whose keys begin with u
abbrev pub Answer : Tree → Ghost → List ℕ → List ℕ → Option ℕ → Type 0
Answer S G k u None = (j : ℕ) → Linked G (leaf j) → u ≼ (S.entries j).key → First (S.entries j).key k
Answer S G k u (Some i) = Fit S G k u i

abbrev pub Bytewise : (List ℕ → Type 0) → Type 0
Bytewise Key = (a : List ℕ) → Key a → (j : ℕ) → get_or a j 0 < 256

module _ {deep : ℕ} {Key : List ℕ → Type 0} {flux : Ref → Type 0} {S : Tree} {G : Ghost} (t : TreeOk deep Key flux S G) (bytes : Bytewise Key) where
  -- below a linked leaf there is no other
  pub alone : (i j : ℕ) → Linked G (leaf i) → Linked G (leaf j) → G.path (leaf i) ≼ (S.entries j).key → j ≡ i
  alone i j li lj h =
      let e : leaf j ≡ leaf i = ⊎_elim (λ q. Reach.leaf_alone S i (leaf j) (Reach.compared t (leaf i) (leaf j) li lj q))
      (λ q. sym (Reach.leaf_alone S j (leaf i) (Reach.compared t (leaf j) (leaf i) lj li q)))
      (≼_or (G.path (leaf i)) (G.path (leaf j)) (S.entries j).key h (t.entry j lj).0) in
      cc e

  -- a held key under x, with its byte there and the child under it
  record Way (x : Ref) (j : ℕ) : Type 0 where
    byte : ℕ
    kid : Ref
    is : child S x byte ≡ Some kid
    goes : G.full x ++ byte ∷ [] ≼ (S.entries j).key
    small : byte < 256

  way : (x : Ref) (j : ℕ) → IsNode x → Linked G x → Linked G (leaf j) → G.path x ≼ (S.entries j).key → Way x j
  way x j n l lj h =
      let r = Reach.branch t x j n l lj h in
      record {
        byte = r.0;
        kid = r.1;
        is = r.2;
        goes = r.4;
        small = omega (arith, byte_at (G.full x) (S.entries j).key r.0 r.4, bytes (S.entries j).key (t.entry j lj).1 (length (G.full x)));
      }

  -- what begins with a child's bytes begins with its parent's
  up : (x : Ref) (b : ℕ) (v : List ℕ) → IsNode x → Linked G x → G.full x ++ b ∷ [] ≼ v → G.path x ≼ v
  up x b v n l h =
      ≼_trans (G.path x) (G.full x) v (t.split x n l).0 (≼_trans (G.full x) (G.full x ++ b ∷ []) v (≼_app (G.full x) (b ∷ [])) h)

  pub leaf_best : (i : ℕ) → Linked G (leaf i) → Best S G (G.path (leaf i)) i
  leaf_best i l = record {
    linked = l;
    under = (t.entry i l).0;
    least = λ j lj h f. first_not (S.entries i).key (subst (λ (m : ℕ). First (S.entries m).key (S.entries i).key) (alone i j l lj h) f);
  }

  -- the smallest leaf is the smallest one of the smallest child
  pub min : (x y : Ref) (c i : ℕ) → IsNode x → Linked G x → smallest S x ≡ Some (c, y) → Best S G (G.path y) i → Best S G (G.path x) i
  min x y c i n l e m =
      let s = smallest_some S x c y e in
      let p = (t.kid x c y l s.0).1 in
      let u : G.full x ++ c ∷ [] ≼ (S.entries i).key = subst (λ (v : List ℕ). v ≼ (S.entries i).key) p m.under in
      record {
        linked = m.linked;
        under = up x c (S.entries i).key n l u;
        least = λ j lj h f.
            let w = way x j n l lj h in
            let q : c ≤ w.byte = s.2 w.byte w.kid (omega arith) w.is in
            ⊎_elim
            (λ i'. m.least j lj (subst (λ (v : List ℕ). v ≼ (S.entries j).key) (ap (λ (b : ℕ). G.full x ++ b ∷ []) i' ∙ sym p) w.goes) f)
            (⊎_elim (λ lt. absurd (omega arith)) (λ gt. first_asym (S.entries i).key (S.entries j).key (fork (G.full x) (S.entries i).key (S.entries j).key c w.byte u w.goes gt) f))
            (cases_order w.byte c);
      }

  module _ {H : Type 0} (V : Held H) (Ok : H → Type 0) where
    -- the way down leads to the smallest leaf
    down : (h : H) (hs : List H) (i : ℕ) → IsNode (V.at h) → Linked G (V.at h) → SawDown V deep S Ok h hs (got i) → Ok h → AllByRecursion Ok hs → Best S G (G.path (V.at h)) i
    down h [] i n l saw o os =
        let v = down_view deep S (V.at h) (V.depth h) (got i) (saw o) (λ e. let z : ◌≡◌ {A = ℕ} 0 1 = cc e in omega arith) in
        let s = smallest_some S (V.at h) v.0 v.1 v.2 in
        let e : v.1 ≡ leaf i = picks_got v.1 _ i v.3 in
        min (V.at h) v.1 v.0 i n l v.2
        (subst (λ (y : Ref). Best S G (G.path y) i) (sym e) (leaf_best i (subst (Linked G) e (t.kid (V.at h) v.0 v.1 l s.0).0)))
    down h (g ∷ hs) i n l saw o os =
        let v = down_view deep S (V.at h) (V.depth h) (aside (V.at g) (V.depth g)) (saw.0 o) (λ e. let z : ◌≡◌ {A = ℕ} 0 1 = cc e in omega arith) in
        let s = smallest_some S (V.at h) v.0 v.1 v.2 in
        let e = picks_aside v.1 _ (V.at g) (V.depth g) v.3 in
        min (V.at h) v.1 v.0 i n l v.2
        (subst (λ (y : Ref). Best S G (G.path y) i) (sym e.0)
        (down g hs i e.1 (subst (Linked G) e.0 (t.kid (V.at h) v.0 v.1 l s.0).0) saw.1 os.0 os.1))

    -- a child picked leads to its smallest leaf
    led : (y : Ref) (e : ℕ) (s : Sight) (hs : List H) (r : Option ℕ) → Linked G y → picks y e ≡ s → Led V deep S Ok s hs r → AllByRecursion Ok hs → (i : ℕ) × (r ≡ Some i) × Best S G (G.path y) i
    led (leaf j) e s [] None l p q os = let z : ◌≡◌ {A = ℕ} 0 1 = cc (p, q) in absurd (omega arith)
    led (leaf j) e s [] (Some i) l p q os = let m : j ≡ i = cc (p, q) in (j, ap Some (sym m), leaf_best j l)
    led (leaf j) e s (h ∷ hs) None l p q os = absurd q
    led (leaf j) e s (h ∷ hs) (Some i) l p q os = let z : ◌≡◌ {A = ℕ} 0 1 = cc (p, q.0) in absurd (omega arith)
    led (node c j) e s [] None l p q os = let z : ◌≡◌ {A = ℕ} 0 1 = cc (p, q) in absurd (omega arith)
    led (node c j) e s [] (Some i) l p q os = let z : ◌≡◌ {A = ℕ} 0 1 = cc (p, q) in absurd (omega arith)
    led (node c j) e s (h ∷ hs) None l p q os = absurd q
    led (node c j) e s (h ∷ hs) (Some i) l p q os =
        let m : node c j ≡ V.at h = cc (p, q.0) in
        (i, refl, subst (λ (y : Ref). Best S G (G.path y) i) (sym m) (down h hs i (subst IsNode m tt) (subst (Linked G) m l) q.1 os.0 os.1))

    led_back : (s : Sight) (hs : List H) (r : Option ℕ) → s ≡ back → Led V deep S Ok s hs r → r ≡ None
    led_back s [] None e q = refl
    led_back s [] (Some i) e q = let z : ◌≡◌ {A = ℕ} 0 1 = cc (e, q) in absurd (omega arith)
    led_back s (h ∷ hs) None e q = refl
    led_back s (h ∷ hs) (Some i) e q = let z : ◌≡◌ {A = ℕ} 0 1 = cc (e, q.0) in absurd (omega arith)

    never_onward : (s : Sight) (y : Ref) (d : ℕ) (hs : List H) (r : Option ℕ) → s ≡ onward y d → Led V deep S Ok s hs r → ⊥
    never_onward s y d [] None e q = let z : ◌≡◌ {A = ℕ} 0 1 = cc (e, q) in omega arith
    never_onward s y d [] (Some i) e q = let z : ◌≡◌ {A = ℕ} 0 1 = cc (e, q) in omega arith
    never_onward s y d (h ∷ hs) None e q = q
    never_onward s y d (h ∷ hs) (Some i) e q = let z : ◌≡◌ {A = ℕ} 0 1 = cc (e, q.0) in omega arith

    never_stale : (s : Sight) (hs : List H) (r : Option ℕ) → Led V deep S Ok s hs r → s ≡ stale → ⊥
    never_stale s [] None q e = let z : ◌≡◌ {A = ℕ} 0 1 = cc (e, q) in omega arith
    never_stale s [] (Some i) q e = let z : ◌≡◌ {A = ℕ} 0 1 = cc (e, q) in omega arith
    never_stale s (h ∷ hs) None q e = q
    never_stale s (h ∷ hs) (Some i) q e = let z : ◌≡◌ {A = ℕ} 0 1 = cc (e, q.0) in omega arith

    module _ (k : List ℕ) where
      -- all keys under x are above k: the smallest is the answer
      over : (x : Ref) (i : ℕ) → ((j : ℕ) → Linked G (leaf j) → G.path x ≼ (S.entries j).key → First k (S.entries j).key) → Best S G (G.path x) i → Fit S G k (G.path x) i
      over x i a m = record {
        linked = m.linked;
        under = m.under;
        from = λ f. first_asym k (S.entries i).key (a i m.linked m.under) f;
        least = λ j lj h nf f. m.least j lj h f;
      }

      -- the answer under the key's byte is the answer
      upto : (x : Ref) (b i : ℕ) → IsNode x → Linked G x → G.full x ++ b ∷ [] ≼ k → Fit S G k (G.full x ++ b ∷ []) i → Fit S G k (G.path x) i
      upto x b i n l hk m = record {
        linked = m.linked;
        under = up x b (S.entries i).key n l m.under;
        from = m.from;
        least = λ j lj h nf f.
            let w = way x j n l lj h in
            ⊎_elim
            (λ e. m.least j lj (subst (λ (c : ℕ). G.full x ++ c ∷ [] ≼ (S.entries j).key) e w.goes) nf f)
            (⊎_elim
            (λ lt. nf (fork (G.full x) (S.entries j).key k w.byte b w.goes hk lt))
            (λ gt. first_asym (S.entries i).key (S.entries j).key (fork (G.full x) (S.entries i).key (S.entries j).key b w.byte m.under w.goes gt) f))
            (cases_order w.byte b);
      }

      -- nothing under the key's byte counts: the smallest child past it has the answer
      beyond : (x : Ref) (b e : ℕ) (s : Sight) (hs : List H) (r : Option ℕ) (o : Option (ℕ × Ref)) → IsNode x → Linked G x → G.full x ++ b ∷ [] ≼ k
          → Answer S G k (G.full x ++ b ∷ []) None → past S x b ≡ o → picked o e back ≡ s → Led V deep S Ok s hs r → AllByRecursion Ok hs → Answer S G k (G.path x) r
      beyond x b e s hs r None n l hk low p q d os =
          subst (Answer S G k (G.path x)) (sym (led_back s hs r (sym q) d)) (λ j lj h.
          let w = way x j n l lj h in
          ⊎_elim
          (λ i. low j lj (subst (λ (c : ℕ). G.full x ++ c ∷ [] ≼ (S.entries j).key) i w.goes))
          (⊎_elim
          (λ lt. fork (G.full x) (S.entries j).key k w.byte b w.goes hk lt)
          (λ gt. absurd (past_none S x b p w.byte w.kid gt w.small w.is)))
          (cases_order w.byte b))
      beyond x b e s hs r (Some (c, y)) n l hk low p q d os =
          let v = past_some S x b c y p in
          let g = t.kid x c y l v.0 in
          let a = led y e s hs r g.0 q d os in
          let i : ℕ = a.0 in
          let m : Best S G (G.path y) i = a.2 in
          let u : G.full x ++ c ∷ [] ≼ (S.entries i).key = subst (λ (w : List ℕ). w ≼ (S.entries i).key) g.1 m.under in
          let fit : Fit S G k (G.path x) i = record {
            linked = m.linked;
            under = up x c (S.entries i).key n l u;
            from = λ f. first_asym k (S.entries i).key (fork (G.full x) k (S.entries i).key b c hk u v.1) f;
            least = λ j lj h nf f.
                let w = way x j n l lj h in
                ⊎_elim
                (λ e'. nf (low j lj (subst (λ (z : ℕ). G.full x ++ z ∷ [] ≼ (S.entries j).key) e' w.goes)))
                (⊎_elim
                (λ lt. nf (fork (G.full x) (S.entries j).key k w.byte b w.goes hk lt))
                (λ gt. ⊎_elim
                (λ e'. m.least j lj (subst (λ (z : List ℕ). z ≼ (S.entries j).key) (ap (λ (z : ℕ). G.full x ++ z ∷ []) e' ∙ sym g.1) w.goes) f)
                (⊎_elim
                (λ lt. let q' : c ≤ w.byte = v.2 w.byte w.kid gt w.is in omega (arith, q', lt))
                (λ gt'. first_asym (S.entries i).key (S.entries j).key (fork (G.full x) (S.entries i).key (S.entries j).key c w.byte u w.goes gt') f))
                (cases_order w.byte c)))
                (cases_order w.byte b);
          } in
          subst (Answer S G k (G.path x)) (sym a.1) fit

      -- a node on the key's way, where the key's place in it is told by the depth
      record KeyWay (x : Ref) (d : ℕ) : Type 0 where
        is_node : IsNode x
        linked : Linked G x
        begins : G.path x ≼ k
        depth : d ≡ length (G.path x)
        whole : G.path x ++ prefix S x ≡ G.full x

      abbrev OnKey : H → Type 0
      OnKey h = KeyWay (V.at h) (V.depth h)

      -- an equal prefix: the key goes on in x with the byte b
      at_byte : (x : Ref) (d b : ℕ) → KeyWay x d → against (prefix S x) (drop d k) ≡ same b → G.full x ++ b ∷ [] ≼ k
      at_byte x d b o a =
          let p : G.path x ++ (prefix S x ++ b ∷ []) ≼ k = drop_begins (G.path x) (prefix S x ++ b ∷ []) k o.begins
          (same_begins (prefix S x) (drop (length (G.path x)) k) b (subst (λ (n : ℕ). against (prefix S x) (drop n k) ≡ same b) o.depth a)) in
          subst (λ (u : List ℕ). u ++ b ∷ [] ≼ k) o.whole (subst (λ (u : List ℕ). u ≼ k) (sym (mathlib.Core.List.append_assoc (G.path x) (prefix S x) (b ∷ []))) p)

      -- a held key under x begins with the prefix behind the path
      in_prefix : (x : Ref) (d j : ℕ) → KeyWay x d → Linked G (leaf j) → G.path x ≼ (S.entries j).key → prefix S x ≼ drop (length (G.path x)) (S.entries j).key
      in_prefix x d j o lj u =
          let w = way x j o.is_node o.linked lj u in
          begins_drop (G.path x) (prefix S x) (S.entries j).key
          (subst (λ (v : List ℕ). v ≼ (S.entries j).key) (sym o.whole) (≼_trans (G.full x) (G.full x ++ w.byte ∷ []) (S.entries j).key (≼_app (G.full x) (w.byte ∷ [])) w.goes))

      unfit : (x : Ref) (b : ℕ) (o : Option Ref) → IsNode x → Linked G x → child S x b ≡ o → Unfit S k o → Answer S G k (G.full x ++ b ∷ []) None
      unfit x b None n l e q j lj h =
          let w = way x j n l lj (up x b (S.entries j).key n l h) in
          let i : w.byte ≡ b = sym (byte_at (G.full x) (S.entries j).key w.byte w.goes) ∙ byte_at (G.full x) (S.entries j).key b h in
          absurd (none_some (sym e ∙ ap (child S x) (sym i) ∙ w.is))
      unfit x b (Some (leaf i)) n l e q j lj h =
          let g = t.kid x b (leaf i) l e in
          subst (λ (m : ℕ). First (S.entries m).key k) (sym (alone i j g.0 lj (subst (λ (v : List ℕ). v ≼ (S.entries j).key) (sym g.1) h))) q
      unfit x b (Some (node c i)) n l e q j lj h = absurd q

      -- the newest look at the last node of the key's way
      ends : (x : Ref) (d : ℕ) (s : Sight) (hs : List H) (r : Option ℕ) → KeyWay x d → KeyView S k x d s → Led V deep S Ok s hs r → AllByRecursion Ok hs → Answer S G k (G.path x) r
      ends x d s hs r o (KeyView.above c y a p q) w os =
          let v = smallest_some S x c y p in
          let m = led y _ s hs r (t.kid x c y o.linked v.0).0 q w os in
          subst (Answer S G k (G.path x)) (sym m.1) (over x m.0
          (λ j lj u. first_behind (G.path x) k (S.entries j).key o.begins u
          (larger_first (prefix S x) (drop (length (G.path x)) k) (drop (length (G.path x)) (S.entries j).key)
          (subst (λ (n : ℕ). against (prefix S x) (drop n k) ≡ larger) o.depth a) (in_prefix x d j o lj u)))
          (min x y c m.0 o.is_node o.linked p m.2))
      ends x d s hs r o (KeyView.lower a e) w os =
          subst (Answer S G k (G.path x)) (sym (led_back s hs r e w)) (λ j lj u.
          first_behind (G.path x) (S.entries j).key k u o.begins
          (smaller_first (prefix S x) (drop (length (G.path x)) k) (drop (length (G.path x)) (S.entries j).key)
          (subst (λ (n : ℕ). against (prefix S x) (drop n k) ≡ smaller) o.depth a) (in_prefix x d j o lj u)))
      ends x d s hs r o (KeyView.beside b a q p) w os =
          beyond x b _ s hs r (past S x b) o.is_node o.linked (at_byte x d b o a) (unfit x b (child S x b) o.is_node o.linked refl q) refl p w os
      ends x d s hs r o (KeyView.at b i a e f q) w os =
          let g = t.kid x b (leaf i) o.linked e in
          let m = led (leaf i) 0 s hs r g.0 (sym q) w os in
          let z : m.0 ≡ i = alone i m.0 g.0 m.2.linked m.2.under in
          let fit : Fit S G k (G.full x ++ b ∷ []) m.0 = record {
            linked = m.2.linked;
            under = subst (λ (v : List ℕ). v ≼ (S.entries m.0).key) g.1 m.2.under;
            from = subst (λ (n : ℕ). First (S.entries n).key k → ⊥) (sym z) f;
            least = λ j lj u nf f. m.2.least j lj (subst (λ (v : List ℕ). v ≼ (S.entries j).key) (sym g.1) u) f;
          } in
          subst (Answer S G k (G.path x)) (sym m.1) (upto x b m.0 o.is_node o.linked (at_byte x d b o a) fit)
      ends x d s hs r o (KeyView.on b y a e n q) w os = absurd (never_onward s y _ hs r q w)

      -- the next node on the key's way
      record Onward (x y : Ref) (e : ℕ) : Type 0 where
        byte : ℕ
        is : child S x byte ≡ Some y
        goes : G.full x ++ byte ∷ [] ≼ k
        path : G.path y ≡ G.full x ++ byte ∷ []
        is_node : IsNode y
        linked : Linked G y
        depth : e ≡ suc (length (G.full x))

      onward_view : (x : Ref) (d : ℕ) (y : Ref) (e : ℕ) → KeyWay x d → KeyView S k x d (onward y e) → Onward x y e
      onward_view x d y e o (KeyView.above c z a p q) = absurd (picks_not z _ y e q)
      onward_view x d y e o (KeyView.lower a q) = let z : ◌≡◌ {A = ℕ} 0 1 = cc q in absurd (omega arith)
      onward_view x d y e o (KeyView.beside b a q p) = absurd (picked_not (past S x b) _ y e p)
      onward_view x d y e o (KeyView.at b i a r f q) = let z : ◌≡◌ {A = ℕ} 0 1 = cc q in absurd (omega arith)
      onward_view x d y e o (KeyView.on b z a r n q) =
          let i : z ≡ y = cc q in
          let j : e ≡ suc (d + length (prefix S x)) = cc q in
          let f : child S x b ≡ Some y = r ∙ ap Some i in
          let c = t.kid x b y o.linked f in
          record {
            byte = b;
            is = f;
            goes = at_byte x d b o a;
            path = c.1;
            is_node = subst IsNode i n;
            linked = c.0;
            depth = omega (arith, j, o.depth, length-append (G.path x) (prefix S x), ap length o.whole);
          }

      onward_fresh : (y : Ref) (d : ℕ) → onward y d ≡ stale → ⊥
      onward_fresh y d e = let z : ◌≡◌ {A = ℕ} 0 1 = cc e in omega arith

      onwards : {x y : Ref} {d e : ℕ} → KeyWay x d → key_sight deep S k x d ≡ onward y e → Onward x y e
      onwards {x = x} {y = y} {d = d} {e = e} o q = onward_view x d y e o (key_view S k x d (onward y e) deep q (onward_fresh y e))

      on_key : {x y : Ref} {e : ℕ} → Onward x y e → G.path y ≼ k
      on_key w = subst (λ (v : List ℕ). v ≼ k) (sym w.path) w.goes

      at_depth : {x y : Ref} {e : ℕ} → Onward x y e → e ≡ length (G.path y)
      at_depth {x = x} w = omega (arith, w.depth, ap length w.path, snoc_len (G.full x) w.byte)

      byte_taken : {x : Ref} (g : H) (w : Onward x (V.at g) (V.depth g)) → taken V k g ≡ w.byte
      byte_taken {x = x} g w =
          let e : V.depth g - 1 ≡ length (G.full x) = omega (arith, w.depth) in
          ap (λ (n : ℕ). get_or k n 0) e ∙ byte_at (G.full x) k w.byte w.goes

      lifted : {x y : Ref} {d e : ℕ} (n : ℕ) (r : Option ℕ) → KeyWay x d → Onward x y e → Past (suc n) r → Answer S G k (G.path y) r → Answer S G k (G.path x) r
      lifted n None o w p a = absurd (omega (arith, p))
      lifted {x = x} n (Some i) o w p a = upto x w.byte i o.is_node o.linked w.goes (subst (λ (v : List ℕ). Fit S G k v i) w.path a)

      past_on : (n : ℕ) (r : Option ℕ) → Past (suc n) r → Past n r
      past_on n None p = absurd (omega (arith, p))
      past_on n (Some i) p = tt

      module _ (still : (g : H) → Ok g → flux (V.at g) → ⊥) where
        stands : (h : H) → IsNode (V.at h) → Linked G (V.at h) → G.path (V.at h) ≼ k → V.depth h ≡ length (G.path (V.at h)) → Ok h → OnKey h
        stands h n l u d o = record {
          is_node = n;
          linked = l;
          begins = u;
          depth = d;
          whole = ⊎_elim (λ e. e) (λ x. absurd (still h o x)) (t.split (V.at h) n l).1;
        }

        stands_on : {x : Ref} (g : H) → Onward x (V.at g) (V.depth g) → Ok g → OnKey g
        stands_on g w o = stands g w.is_node w.linked (on_key w) (at_depth w) o

        -- from the newest node on the key's way to the first: the answer among the keys under each
        answer : (h : H) (hs : List H) (n : ℕ) (s : Sight) (ds : List H) (r : Option ℕ) → OnKey h
            → Saw V deep S k Ok (h ∷ hs) n s → Led V deep S Ok s ds r → Past n r → Ok h → AllByRecursion Ok hs → AllByRecursion Ok ds → Answer S G k (G.path (V.at h)) r
        answer h [] zero s ds r ok saw d p o os od = ends (V.at h) (V.depth h) s ds r ok (key_view S k (V.at h) (V.depth h) s deep (saw o) (never_stale s ds r d)) d od
        answer h [] (suc n) s ds r ok saw d p o os od = absurd saw
        answer h (g ∷ hs) zero s ds r ok saw d p o os od =
            let w = onwards ok (saw.0 o) in
            let low : Answer S G k (G.path (V.at g)) None = answer g hs zero back [] None (stands_on g w os.0) saw.1 refl refl os.0 os.1 tt in
            let v = back_view deep S w.byte (V.at h) (V.depth h) s (subst (λ (b : ℕ). back_sight deep S b (V.at h) (V.depth h) ≡ s) (byte_taken g w) (saw.2 o)) (never_stale s ds r d) in
            beyond (V.at h) w.byte _ s ds r (past S (V.at h) w.byte) ok.is_node ok.linked w.goes (subst (λ (u : List ℕ). Answer S G k u None) w.path low) refl v d od
        answer h (g ∷ hs) (suc n) s ds r ok saw d p o os od =
            let w = onwards ok (saw.0 o) in
            lifted n r ok w p (answer g hs n s ds r (stands_on g w os.0) saw.1 d (past_on n r p) os.0 os.1 od)

        root_on : (h : H) → V.at h ≡ root → V.depth h ≡ 0 → Ok h → OnKey h
        root_on h e d o = stands h (subst IsNode (sym e) tt) (subst (Linked G) (sym e) t.root_linked)
            (subst (λ (u : List ℕ). u ≼ k) (sym (ap G.path e ∙ t.root_path)) tt) (omega (arith, d, ap length (ap G.path e ∙ t.root_path))) o

        -- a node on the way down
        record DownWay (x : Ref) (d : ℕ) : Type 0 where
          is_node : IsNode x
          linked : Linked G x
          depth : d ≡ length (G.path x)
          whole : G.path x ++ prefix S x ≡ G.full x
          inner : x ≡ root → ⊥

        abbrev OnDown : H → Type 0
        OnDown h = DownWay (V.at h) (V.depth h)

        -- a look within the bound of depth
        room : (x : Ref) (d : ℕ) → IsNode x → Linked G x → d ≡ length (G.path x) → G.path x ++ prefix S x ≡ G.full x → leb deep (d + length (prefix S x)) ≡ false
        room x d n l e w =
            let q : d + length (prefix S x) ≡ length (G.full x) = omega (arith, e, length-append (G.path x) (prefix S x), ap length w) in
            lt-leb deep (d + length (prefix S x)) (omega (arith, q, (t.short x n l).0))

        fresh_key : (x : Ref) (d : ℕ) → Key k → KeyWay x d → key_sight deep S k x d ≡ stale → ⊥
        unfolding key_sight
        fresh_key x d key o e =
            go (against (prefix S x) (drop d k)) refl
            (subst (λ (b : Bool). cond b stale (keyed S k x (suc (d + length (prefix S x))) (against (prefix S x) (drop d k))) ≡ stale)
            (room x d o.is_node o.linked o.depth o.whole) e)
          where
            go : (c : Compared) → against (prefix S x) (drop d k) ≡ c → keyed S k x (suc (d + length (prefix S x))) c ≡ stale → ⊥
            go larger a q = smallest_fresh (smallest S x) _ (has_smallest S x (t.wide x o.is_node
                (λ r. nil_not_larger (drop d k) (subst (λ (p : List ℕ). against p (drop d k) ≡ larger) (ap (prefix S) r ∙ t.root_prefix) a)) (inl o.linked))) q
            go smaller a q = let z : ◌≡◌ {A = ℕ} 0 1 = cc q in omega arith
            go ended a q = (t.short x o.is_node o.linked).1 k key (subst (λ (u : List ℕ). k ≼ u) o.whole
                (begins_behind (G.path x) k (prefix S x) o.begins
                (ended_begins (prefix S x) (drop (length (G.path x)) k) (subst (λ (n : ℕ). against (prefix S x) (drop n k) ≡ ended) o.depth a))))
            go (same b) a q = under_fresh S k x _ b (child S x b) q

        fresh_back : (x : Ref) (d b : ℕ) → KeyWay x d → back_sight deep S b x d ≡ stale → ⊥
        unfolding back_sight
        fresh_back x d b o e =
            back_fresh (past S x b) _ (subst (λ (c : Bool). cond c stale (picked (past S x b) (suc (d + length (prefix S x))) back) ≡ stale)
            (room x d o.is_node o.linked o.depth o.whole) e)

        fresh_down : (x : Ref) (d : ℕ) → DownWay x d → down_sight deep S x d ≡ stale → ⊥
        unfolding down_sight
        fresh_down x d o e =
            smallest_fresh (smallest S x) _ (has_smallest S x (t.wide x o.is_node o.inner (inl o.linked)))
            (subst (λ (c : Bool). cond c stale (picked (smallest S x) (suc (d + length (prefix S x))) stale) ≡ stale)
            (room x d o.is_node o.linked o.depth o.whole) e)

        -- a child picked, on the way down
        stands_down : (x : Ref) (d c : ℕ) (y : Ref) (g : H) → Linked G x → d ≡ length (G.path x) → G.path x ++ prefix S x ≡ G.full x
            → child S x c ≡ Some y → picks y (suc (d + length (prefix S x))) ≡ aside (V.at g) (V.depth g) → Ok g → OnDown g
        stands_down x d c y g l m w e q o =
            let i = picks_aside y _ (V.at g) (V.depth g) q in
            let j = picks_depth y _ (V.at g) (V.depth g) q in
            let z = t.kid x c (V.at g) l (e ∙ ap Some i.0) in
            let n : length (G.path (V.at g)) ≡ suc (length (G.full x)) = ap length z.1 ∙ snoc_len (G.full x) c in
            record {
              is_node = i.1;
              linked = z.0;
              depth = omega (arith, j, n, m, length-append (G.path x) (prefix S x), ap length w);
              whole = ⊎_elim (λ x. x) (λ x. absurd (still g o x)) (t.split (V.at g) i.1 z.0).1;
              inner = λ r. omega (arith, n, ap length (ap G.path r ∙ t.root_path));
            }

        past_down : (x : Ref) (d b : ℕ) (o : Option (ℕ × Ref)) (g : H) → KeyWay x d → past S x b ≡ o → picked o (suc (d + length (prefix S x))) back ≡ aside (V.at g) (V.depth g) → Ok g → OnDown g
        past_down x d b None g k' e q o = let z : ◌≡◌ {A = ℕ} 0 1 = cc q in absurd (omega arith)
        past_down x d b (Some (c, y)) g k' e q o = stands_down x d c y g k'.linked k'.depth k'.whole (past_some S x b c y e).0 q o

        key_down : (x : Ref) (d : ℕ) (g : H) → KeyWay x d → KeyView S k x d (aside (V.at g) (V.depth g)) → Ok g → OnDown g
        key_down x d g k' (KeyView.above c y a p q) o = stands_down x d c y g k'.linked k'.depth k'.whole (smallest_some S x c y p).0 q o
        key_down x d g k' (KeyView.lower a e) o = let z : ◌≡◌ {A = ℕ} 0 1 = cc e in absurd (omega arith)
        key_down x d g k' (KeyView.beside b a u q) o = past_down x d b (past S x b) g k' refl q o
        key_down x d g k' (KeyView.at b i a e f q) o = let z : ◌≡◌ {A = ℕ} 0 1 = cc q in absurd (omega arith)
        key_down x d g k' (KeyView.on b y a e n q) o = let z : ◌≡◌ {A = ℕ} 0 1 = cc q in absurd (omega arith)

        aside_fresh : (y : Ref) (d : ℕ) → aside y d ≡ stale → ⊥
        aside_fresh y d e = let z : ◌≡◌ {A = ℕ} 0 1 = cc e in omega arith

        next_on : (h g : H) → OnKey h → key_sight deep S k (V.at h) (V.depth h) ≡ onward (V.at g) (V.depth g) → Ok g → OnKey g
        next_on h g k' e o = stands_on g (onwards k' e) o

        newest_on : (h : H) (hs : List H) → OnKey h → Links V deep S k Ok h hs → Ok h → AllByRecursion Ok hs → OnKey (newest h hs)
        newest_on h [] k' w o os = k'
        newest_on h (g ∷ hs) k' w o os = newest_on g hs (next_on h g k' (w.0 o) os.0) w.1 os.0 os.1

        place_on : (h : H) (hs : List H) (n : ℕ) → OnKey h → Saw V deep S k Ok (h ∷ hs) (suc n) back → Ok h → AllByRecursion Ok hs → OnKey (place h hs n)
        place_on h hs zero k' w o os = k'
        place_on h [] (suc n) k' w o os = absurd w
        place_on h (g ∷ hs) (suc n) k' w o os = place_on g hs n (next_on h g k' (w.0 o) os.0) w.1 os.0 os.1

        aside_on : (h : H) (hs : List H) (n : ℕ) (g : H) → OnKey h → Saw V deep S k Ok (h ∷ hs) n (aside (V.at g) (V.depth g)) → Ok h → AllByRecursion Ok hs → Ok g → OnDown g
        aside_on h [] zero g k' w o os og = key_down (V.at h) (V.depth h) g k' (key_view S k (V.at h) (V.depth h) _ deep (w o) (aside_fresh (V.at g) (V.depth g))) og
        aside_on h [] (suc n) g k' w o os og = absurd w
        aside_on h (x ∷ hs) zero g k' w o os og =
            past_down (V.at h) (V.depth h) (taken V k x) (past S (V.at h) (taken V k x)) g k' refl (back_view deep S (taken V k x) (V.at h) (V.depth h) _ (w.2 o) (aside_fresh (V.at g) (V.depth g))) og
        aside_on h (x ∷ hs) (suc n) g k' w o os og = aside_on x hs n g (next_on h x k' (w.0 o) os.0) w.1 os.0 os.1 og

        newest_down : (h : H) (hs : List H) → OnDown h → DownLinks V deep S k Ok h hs → Ok h → AllByRecursion Ok hs → OnDown (newest h hs)
        newest_down h [] k' w o os = k'
        newest_down h (g ∷ hs) k' w o os =
            let v = down_view deep S (V.at h) (V.depth h) _ (w.0 o) (aside_fresh (V.at g) (V.depth g)) in
            newest_down g hs (stands_down (V.at h) (V.depth h) v.0 v.1 g k'.linked k'.depth k'.whole (smallest_some S (V.at h) v.0 v.1 v.2).0 v.3 os.0) w.1 os.0 os.1

        -- with every permit sound, a look is not stale
        pub fresh_look : (f : H) (hs : List H) → Key k → Seen V deep S k Ok (on f hs [] look_key) → Ok f → AllByRecursion Ok hs → key_sight deep S k (V.at (newest f hs)) (V.depth (newest f hs)) ≡ stale → ⊥
        fresh_look f hs key w o os = fresh_key (V.at (newest f hs)) (V.depth (newest f hs)) key (newest_on f hs (root_on f w.0.0 w.0.1 o) w.1 o os)

        pub fresh_look_back : (f : H) (hs : List H) (n b : ℕ) → Seen V deep S k Ok (on f hs [] (look_back n)) → Ok f → AllByRecursion Ok hs → back_sight deep S b (V.at (place f hs n)) (V.depth (place f hs n)) ≡ stale → ⊥
        fresh_look_back f hs n b w o os = fresh_back (V.at (place f hs n)) (V.depth (place f hs n)) b (place_on f hs n (root_on f w.0.0 w.0.1 o) w.1 o os)

        pub fresh_look_down : (f g : H) (hs ds : List H) (n : ℕ) → Seen V deep S k Ok (on f hs (g ∷ ds) (look_down n)) → Ok f → AllByRecursion Ok hs → AllByRecursion Ok (g ∷ ds)
            → down_sight deep S (V.at (newest g ds)) (V.depth (newest g ds)) ≡ stale → ⊥
        fresh_look_down f g hs ds n w o os od =
            let d : OnDown g = aside_on f hs n g (root_on f w.0.0 w.0.1 o) (subst (Saw V deep S k Ok (f ∷ hs) n) w.1.2.0 w.1.1) o os od.0 in
            fresh_down (V.at (newest g ds)) (V.depth (newest g ds)) (newest_down g ds d w.1.2.1 od.0 od.1)

        -- with every permit sound, all nodes of the key's way stand on it
        keys_on : (h : H) (hs : List H) (n : ℕ) (s : Sight) → OnKey h → Saw V deep S k Ok (h ∷ hs) n s → Ok h → AllByRecursion Ok hs → AllByRecursion OnKey (h ∷ hs)
        keys_on h [] zero s k' w o os = (k', tt)
        keys_on h [] (suc n) s k' w o os = absurd w
        keys_on h (g ∷ hs) zero s k' w o os = (k', keys_on g hs zero back (next_on h g k' (w.0 o) os.0) w.1 os.0 os.1)
        keys_on h (g ∷ hs) (suc n) s k' w o os = (k', keys_on g hs n s (next_on h g k' (w.0 o) os.0) w.1 os.0 os.1)

        -- a node to be taken: it is linked, and its depth is that of its path
        abbrev Aim : Ref → ℕ → Type 0
        Aim y e = Linked G y × (e ≡ length (G.path y))

        -- the key's way leads on to y
        led_on : (h : H) (hs : List H) (y : Ref) (e : ℕ) → OnKey h → Saw V deep S k Ok (h ∷ hs) (length hs) (onward y e) → Ok h → AllByRecursion Ok hs → Aim y e
        led_on h [] y e k' w o os =
            let q = onwards k' (w o) in
            (q.linked, at_depth q)
        led_on h (g ∷ hs) y e k' w o os = led_on g hs y e (next_on h g k' (w.0 o) os.0) w.1 os.0 os.1

        -- a child that is picked
        picked_aim : (x : Ref) (d c : ℕ) (y z : Ref) (e : ℕ) → Linked G x → d ≡ length (G.path x) → G.path x ++ prefix S x ≡ G.full x
            → child S x c ≡ Some y → picks y (suc (d + length (prefix S x))) ≡ aside z e → Aim z e × (G.path z ≡ G.full x ++ c ∷ [])
        picked_aim x d c y z e l v w f q =
            let i = picks_aside y _ z e q in
            let j = picks_depth y _ z e q in
            let m = t.kid x c z l (f ∙ ap Some i.0) in
            let n : length (G.path z) ≡ suc (length (G.full x)) = ap length m.1 ∙ snoc_len (G.full x) c in
            ((m.0, omega (arith, j, n, v, length-append (G.path x) (prefix S x), ap length w)), m.1)

        -- off the key's way
        abbrev Off : Ref → ℕ → Type 0
        Off y e = Aim y e × (G.path y ≼ k → ⊥)

        past_off : (x : Ref) (d b : ℕ) (y : Ref) (e : ℕ) (o : Option (ℕ × Ref)) → KeyWay x d → G.full x ++ b ∷ [] ≼ k → past S x b ≡ o
            → picked o (suc (d + length (prefix S x))) back ≡ aside y e → Off y e
        past_off x d b y e None k' g f q = let z : ◌≡◌ {A = ℕ} 0 1 = cc q in absurd (omega arith)
        past_off x d b y e (Some (c, z)) k' g f q =
            let v = past_some S x b c z f in
            let a = picked_aim x d c z y e k'.linked k'.depth k'.whole v.0 q in
            (a.0, λ p. omega (arith, v.1, byte_at (G.full x) k b g, byte_at (G.full x) k c (subst (λ (u : List ℕ). u ≼ k) a.1 p)))

        key_off : (x : Ref) (d : ℕ) (y : Ref) (e : ℕ) → KeyWay x d → KeyView S k x d (aside y e) → Off y e
        key_off x d y e k' (KeyView.above c z a p q) =
            let m = picked_aim x d c z y e k'.linked k'.depth k'.whole (smallest_some S x c z p).0 q in (
              m.0,
              λ f.
                  let r : List ℕ = drop (length (G.path x)) k in
                  let i : G.full x ≼ k = ≼_trans (G.full x) (G.full x ++ c ∷ []) k (≼_app (G.full x) (c ∷ [])) (subst (λ (u : List ℕ). u ≼ k) m.1 f) in
                  let j = begins_drop (G.path x) (prefix S x) k (subst (λ (u : List ℕ). u ≼ k) (sym k'.whole) i) in
                  first_not r (larger_first (prefix S x) r r (subst (λ (n : ℕ). against (prefix S x) (drop n k) ≡ larger) k'.depth a) j),
            )
        key_off x d y e k' (KeyView.lower a q) = let z : ◌≡◌ {A = ℕ} 0 1 = cc q in absurd (omega arith)
        key_off x d y e k' (KeyView.beside b a u q) = past_off x d b y e (past S x b) k' (at_byte x d b k' a) refl q
        key_off x d y e k' (KeyView.at b i a f g q) = let z : ◌≡◌ {A = ℕ} 0 1 = cc q in absurd (omega arith)
        key_off x d y e k' (KeyView.on b z a f n q) = let z : ◌≡◌ {A = ℕ} 0 1 = cc q in absurd (omega arith)

        saw_off : (h : H) (hs : List H) (n : ℕ) (y : Ref) (e : ℕ) → OnKey h → Saw V deep S k Ok (h ∷ hs) n (aside y e) → Ok h → AllByRecursion Ok hs → Off y e
        saw_off h [] zero y e k' w o os = key_off (V.at h) (V.depth h) y e k' (key_view S k (V.at h) (V.depth h) (aside y e) deep (w o) (aside_fresh y e))
        saw_off h [] (suc n) y e k' w o os = absurd w
        saw_off h (g ∷ hs) zero y e k' w o os =
            let q = onwards k' (w.0 o) in
            past_off (V.at h) (V.depth h) q.byte y e (past S (V.at h) q.byte) k' q.goes refl
            (back_view deep S q.byte (V.at h) (V.depth h) (aside y e) (subst (λ (b : ℕ). back_sight deep S b (V.at h) (V.depth h) ≡ aside y e) (byte_taken g q) (w.2 o)) (aside_fresh y e))
        saw_off h (g ∷ hs) (suc n) y e k' w o os = saw_off g hs n y e (next_on h g k' (w.0 o) os.0) w.1 os.0 os.1

        -- the way down leads to y
        down_off : (h : H) (hs : List H) (y : Ref) (e : ℕ) → OnDown h → (G.path (V.at h) ≼ k → ⊥) → SawDown V deep S Ok h hs (aside y e) → Ok h → AllByRecursion Ok hs → Off y e × AllByRecursion OnDown (h ∷ hs)
        down_off h [] y e k' f w o os =
            let v = down_view deep S (V.at h) (V.depth h) (aside y e) (w o) (aside_fresh y e) in
            let a = picked_aim (V.at h) (V.depth h) v.0 v.1 y e k'.linked k'.depth k'.whole (smallest_some S (V.at h) v.0 v.1 v.2).0 v.3 in
            ((a.0, λ p. f (up (V.at h) v.0 k k'.is_node k'.linked (subst (λ (u : List ℕ). u ≼ k) a.1 p))), (k', tt))
        down_off h (g ∷ hs) y e k' f w o os =
            let v = down_view deep S (V.at h) (V.depth h) _ (w.0 o) (aside_fresh (V.at g) (V.depth g)) in
            let c = (smallest_some S (V.at h) v.0 v.1 v.2).0 in
            let a = picked_aim (V.at h) (V.depth h) v.0 v.1 (V.at g) (V.depth g) k'.linked k'.depth k'.whole c v.3 in
            let r = down_off g hs y e (stands_down (V.at h) (V.depth h) v.0 v.1 g k'.linked k'.depth k'.whole c v.3 os.0)
            (λ p. f (up (V.at h) v.0 k k'.is_node k'.linked (subst (λ (u : List ℕ). u ≼ k) a.1 p))) w.1 os.0 os.1 in
            (r.0, (k', r.1))

        -- what is less deep, or on the key's way where y is not, is elsewhere
        less_deep : (P : H → Type 0) → ((h : H) → P h → V.depth h ≡ length (G.path (V.at h))) → (y : Ref) (d : ℕ) → d ≡ length (G.path y) → (hs : List H) → AllByRecursion P hs → AllByRecursion (λ h. V.depth h < d) hs → AllByRecursion (λ h. V.at h ≡ y → ⊥) hs
        less_deep P f y d e [] a b = tt
        less_deep P f y d e (h ∷ hs) a b = (
          (λ q. let z : length (G.path (V.at h)) ≡ length (G.path y) = ap (λ (x : Ref). length (G.path x)) q in omega (arith, z, e, b.0, f h a.0)),
          less_deep P f y d e hs a.1 b.1,
        )

        off_apart : (y : Ref) → (G.path y ≼ k → ⊥) → (hs : List H) → AllByRecursion OnKey hs → AllByRecursion (λ h. V.at h ≡ y → ⊥) hs
        off_apart y f [] a = tt
        off_apart y f (h ∷ hs) a = ((λ q. f (subst (λ (x : Ref). G.path x ≼ k) q a.0.begins)), off_apart y f hs a.1)

        -- with every permit sound, the node to be taken is linked, and differs from those that are held
        pub free_key : (f : H) (hs : List H) (y : Ref) (d : ℕ) → Seen V deep S k Ok (on f hs [] (take_key y d)) → Ok f → AllByRecursion Ok hs → AllByRecursion (λ h. V.depth h < d) (f ∷ hs)
            → Linked G y × AllByRecursion (λ h. V.at h ≡ y → ⊥) (f ∷ hs)
        free_key f hs y d w o os b =
            let r = root_on f w.0.0 w.0.1 o in
            let a = led_on f hs y d r w.1 o os in
            (a.0, less_deep OnKey (λ h k'. k'.depth) y d a.1 (f ∷ hs) (keys_on f hs (length hs) (onward y d) r w.1 o os) b)

        pub free_down : (f : H) (hs ds : List H) (n : ℕ) (y : Ref) (d : ℕ) → Seen V deep S k Ok (on f hs ds (take_down n y d)) → Ok f → AllByRecursion Ok hs → AllByRecursion Ok ds → AllByRecursion (λ h. V.depth h < d) ds
            → Linked G y × AllByRecursion (λ h. V.at h ≡ y → ⊥) (f ∷ hs) × AllByRecursion (λ h. V.at h ≡ y → ⊥) ds
        free_down f hs [] n y d w o os od b =
            let r = root_on f w.0.0 w.0.1 o in
            let a = saw_off f hs n y d r (subst (Saw V deep S k Ok (f ∷ hs) n) w.1.2 w.1.1) o os in
            (a.0.0, off_apart y a.1 (f ∷ hs) (keys_on f hs n w.1.0 r w.1.1 o os), tt)
        free_down f hs (g ∷ ds) n y d w o os od b =
            let r = root_on f w.0.0 w.0.1 o in
            let q = subst (Saw V deep S k Ok (f ∷ hs) n) w.1.2.0 w.1.1 in
            let a = down_off g ds y d (aside_on f hs n g r q o os od.0) (saw_off f hs n (V.at g) (V.depth g) r q o os).1 w.1.2.1 od.0 od.1 in
            (a.0.0.0, off_apart y a.0.1 (f ∷ hs) (keys_on f hs n w.1.0 r w.1.1 o os), less_deep OnDown (λ h k'. k'.depth) y d a.0.0.1 (g ∷ ds) a.1 b)

  -- the answer among all linked leaves is the map's
  all : (k : List ℕ) (r : Option ℕ) → Answer S G k [] r → NextOf (Holds S G) k (pair_of S r)
  all k None a = λ b w (i, l, e, v). subst (λ (u : List ℕ). First u k) e (a i l tt)
  all k (Some i) a = record {
    has = (i, a.linked, refl, refl);
    from = a.from;
    least = λ b w (j, l, e, v) n f. a.least j l tt (λ g. n (subst (λ (u : List ℕ). First u k) e g)) (subst (λ (u : List ℕ). First u (S.entries i).key) (sym e) f);
  }

  pub snapshot : {H : Type 0} (V : Held H) (Ok : H → Type 0) (k : List ℕ) (r : Option ℕ) (w : Trail V deep S k Ok r) → SoundNow Ok flux w → NextOf (Holds S G) k (pair_of S r)
  snapshot V Ok k r w s =
      let a = answer V Ok k s.still w.first w.keys w.place w.sight w.downs r (root_on V Ok k s.still w.first w.at_root w.at_start s.keys.0)
      w.saw w.led w.past s.keys.0 s.keys.1 s.downs in
      all k r (subst (λ (u : List ℕ). Answer S G k u r) (ap G.path w.at_root ∙ t.root_path) a)

pub snapshot_stands : {H : Type 0} (V : Held H) → Snapshot V
snapshot_stands {H = H} V = λ deep key flux ok S G k r t b w s. snapshot t b V (λ (h : H). T (ok h)) k r w s
