-- What a good tree says of reaching: linked is reached, and paths say who is above whom.
use Rattle.std.proofs.Common.{◌≡◌, ℕ, zero, suc, ◌<◌, ◌≤◌, ◌⊎◌, List, [], ◌∷◌, ◌++◌, length, Some, sym, refl, ap, ◌∙◌, subst, inl, inr, ⊎_elim, arith}
use Rattle.model.specs.Bytes.{◌≼◌}
use Rattle.model.specs.Refs.{Ref, root, IsNode}
use Rattle.model.specs.Tree.{Tree, child, Ghost, Linked, TreeOk, Holds, Reach}
use Rattle.model.specs.Refs.Ref.{leaf}
use Rattle.model.proofs.Bytes.{pick, none_some, some_inj, is_node_lem, ≼_refl, ≼_of, ≼_app, ≼_trans, ≼_len, ≼_or, snoc_len, snoc_byte, snoc_inj}

pub reach_on : (S : Tree) (x y z : Ref) → Reach S x y → Reach S y z → Reach S x z
reach_on S x y _ r Reach.here = r
reach_on S x y _ r (Reach.down b z q e) = Reach.down b z (reach_on S x y _ r q) e

-- z is x, or it is reached from a child of x
abbrev pub Below : Tree → Ref → Ref → Type 0
Below S x z = (b : ℕ) × (y : Ref) × (child S x b ≡ Some y) × Reach S y z

pub below : (S : Tree) (x z : Ref) → Reach S x z → (z ≡ x) ⊎ Below S x z
below S x _ Reach.here = inl refl
below S x _ (Reach.down {y = w} b z q e) = ⊎_elim
    (λ s. inr (b, z, subst (λ (v : Ref). child S v b ≡ Some z) s e, Reach.here))
    (λ r. inr (r.0, r.1, r.2, Reach.down b z r.3 e))
    (below S x w q)

pub leaf_alone : (S : Tree) (i : ℕ) (z : Ref) → Reach S (leaf i) z → z ≡ leaf i
leaf_alone S i z r = ⊎_elim (λ e. e) (λ b. absurd (none_some b.2)) (below S (leaf i) z r)

module _ {deep : ℕ} {Key : List ℕ → Type 0} {flux : Ref → Type 0} {S : Tree} {G : Ghost} (t : TreeOk deep Key flux S G) where
  -- a child stands past all of its parent
  pub past : (x : Ref) (b : ℕ) (y : Ref) → Linked G x → child S x b ≡ Some y → (G.path x ≼ G.path y) × (length (G.full x) < length (G.path y)) × (length (G.path x) < length (G.path y))
  past x b y l e =
      let p = (t.kid x b y l e).1 in
      let h = (t.split x (is_node_lem S x b y e) l).0 in
      let f : G.full x ≼ G.path y = subst (λ (v : List ℕ). G.full x ≼ v) (sym p) (≼_app (G.full x) (b ∷ [])) in
      let n : length (G.path y) ≡ suc (length (G.full x)) = ap length p ∙ snoc_len (G.full x) b in
      (≼_trans (G.path x) (G.full x) (G.path y) h f, omega (arith, n), omega (arith, n, ≼_len (G.path x) (G.full x) h))

  reached_within : (n : ℕ) (z : Ref) → length (G.path z) ≤ n → Linked G z → Reach S root z
  reached_within zero z h l = pick z root (λ e. subst (λ (v : Ref). Reach S root v) (sym e) Reach.here)
      (λ ne. let p = t.parent z l ne in absurd (omega (arith, h, (past p.0 p.1 z p.2 p.3).1)))
  reached_within (suc n) z h l = pick z root (λ e. subst (λ (v : Ref). Reach S root v) (sym e) Reach.here)
      (λ ne. let p = t.parent z l ne in
      Reach.down p.1 z (reached_within n p.0 (omega (arith, h, (past p.0 p.1 z p.2 p.3).2)) p.2) p.3)

  -- what is linked is reached
  pub reached : (z : Ref) → Linked G z → Reach S root z
  reached z l = reached_within (length (G.path z)) z (omega arith) l

  -- what a linked node reaches is linked, and stands under it
  pub under : (x z : Ref) → Linked G x → Reach S x z → Linked G z × (G.path x ≼ G.path z)
  under x _ l Reach.here = (l, ≼_refl (G.path x))
  under x _ l (Reach.down {y = w} b z q e) =
      let h = under x w l q in
      ((t.kid w b z h.0 e).0, ≼_trans (G.path x) (G.path w) (G.path z) h.1 (past w b z h.0 e).0)

  pub linked_is_reached : (z : Ref) → (Linked G z → Reach S root z) × (Reach S root z → Linked G z)
  linked_is_reached z = (reached z, λ r. (under root z t.root_linked r).0)

  -- where paths compare, the shorter reaches the longer
  compared_from : (x z : Ref) → Linked G z → Reach S root x → G.path x ≼ G.path z → Reach S x z
  compared_from _ z l Reach.here h = reached z l
  compared_from _ z l (Reach.down {y = y} b x r e) h =
      let ly = (under root y t.root_linked r).0 in
      let p = past y b x ly e in
      let q = compared_from y z l r (≼_trans (G.path y) (G.path x) (G.path z) p.0 h) in
      ⊎_elim
      (λ s. absurd (omega (arith, p.2, ≼_len (G.path x) (G.path z) h, ap (λ (v : Ref). length (G.path v)) s)))
      (λ w.
      let k = t.kid y w.0 w.1 ly w.2 in
      let u = (under w.1 z k.0 w.3).1 in
      let c : b ≡ w.0 = snoc_byte (G.full y) (G.path z) b w.0
      (subst (λ (v : List ℕ). v ≼ G.path z) (t.kid y b x ly e).1 h) (subst (λ (v : List ℕ). v ≼ G.path z) k.1 u) in
      let s : w.1 ≡ x = some_inj w.1 x (sym w.2 ∙ ap (child S y) (sym c) ∙ e) in
      subst (λ (v : Ref). Reach S v z) s w.3)
      (below S y z q)

  pub compared : (x z : Ref) → Linked G x → Linked G z → G.path x ≼ G.path z → Reach S x z
  compared x z lx lz h = compared_from x z lz (reached x lx) h

  -- no two linked ones have one path
  pub path_one : (x z : Ref) → Linked G x → Linked G z → G.path x ≡ G.path z → z ≡ x
  path_one x z lx lz e = ⊎_elim (λ s. s)
      (λ w. absurd (omega (
        arith,
        (past x w.0 w.1 lx w.2).2,
        ap length e,
        ≼_len (G.path w.1) (G.path z) (under w.1 z (t.kid x w.0 w.1 lx w.2).0 w.3).1,
      )))
      (below S x z (compared x z lx lz (≼_of (G.path x) (G.path z) e)))

  -- no two linked leaves have one key
  pub key_one : (i j : ℕ) → Linked G (leaf i) → Linked G (leaf j) → (S.entries i).key ≡ (S.entries j).key → leaf i ≡ leaf j
  key_one i j li lj e =
      let hi = subst (λ (v : List ℕ). G.path (leaf i) ≼ v) e (t.entry i li).0 in
      ⊎_elim (λ h. sym (leaf_alone S i (leaf j) (compared (leaf i) (leaf j) li lj h)))
      (λ h. leaf_alone S j (leaf i) (compared (leaf j) (leaf i) lj li h))
      (≼_or (G.path (leaf i)) (G.path (leaf j)) (S.entries j).key hi (t.entry j lj).0)

  full_one_from : (x z : Ref) → IsNode z → Linked G x → Linked G z → G.full x ≡ G.full z → G.path x ≼ G.path z → x ≡ z
  full_one_from x z nz lx lz e h = ⊎_elim sym
      (λ w. absurd (omega (
        arith,
        (past x w.0 w.1 lx w.2).1,
        ap length e,
        ≼_len (G.path w.1) (G.path z) (under w.1 z (t.kid x w.0 w.1 lx w.2).0 w.3).1,
        ≼_len (G.path z) (G.full z) (t.split z nz lz).0,
      )))
      (below S x z (compared x z lx lz h))

  -- no two linked nodes have one full
  pub full_one : (x z : Ref) → IsNode x → IsNode z → Linked G x → Linked G z → G.full x ≡ G.full z → x ≡ z
  full_one x z nx nz lx lz e = ⊎_elim (λ h. full_one_from x z nz lx lz e h) (λ h. sym (full_one_from z x nx lz lx (sym e) h))
      (≼_or (G.path x) (G.path z) (G.full z) (subst (λ (v : List ℕ). G.path x ≼ v) e (t.split x nx lx).0) (t.split z nz lz).0)

  -- a child has one parent, and stands there under one byte
  pub parent_one : (x z : Ref) (b c : ℕ) (y : Ref) → Linked G x → Linked G z → child S x b ≡ Some y → child S z c ≡ Some y → (x ≡ z) × (b ≡ c)
  parent_one x z b c y lx lz e f =
      let s = snoc_inj (G.full x) (G.full z) b c (sym (t.kid x b y lx e).1 ∙ (t.kid z c y lz f).1) in
      (full_one x z (is_node_lem S x b y e) (is_node_lem S z c y f) lx lz s.0, s.1)

  not_leaf : (x : Ref) (i : ℕ) → IsNode x → x ≡ leaf i → ⊥
  not_leaf x i n e = subst IsNode e n

  -- a held key under x stands under one child of x
  pub branch : (x : Ref) (i : ℕ) → IsNode x → Linked G x → Linked G (leaf i) → G.path x ≼ (S.entries i).key
      → (b : ℕ) × (y : Ref) × (child S x b ≡ Some y) × Reach S y (leaf i) × ((G.full x ++ (b ∷ [])) ≼ (S.entries i).key)
  branch x i n lx li h =
      let p = (t.entry i li).0 in
      let d : G.path x ≼ G.path (leaf i) = ⊎_elim (λ u. u)
      (λ u. absurd (not_leaf x i n (leaf_alone S i x (compared (leaf i) x li lx u))))
      (≼_or (G.path x) (G.path (leaf i)) (S.entries i).key h p) in
      ⊎_elim (λ e. absurd (not_leaf x i n (sym e)))
      (λ w. let k = t.kid x w.0 w.1 lx w.2 in
      let u = (under w.1 (leaf i) k.0 w.3).1 in (
        w.0,
        w.1,
        w.2,
        w.3,
        ≼_trans (G.full x ++ (w.0 ∷ [])) (G.path (leaf i)) (S.entries i).key (subst (λ (v : List ℕ). v ≼ G.path (leaf i)) k.1 u) p,
      ))
      (below S x (leaf i) (compared x (leaf i) lx li d))

  -- a key that is not under the right child of a node on its way is not held
  pub absent : (x : Ref) (k : List ℕ) → IsNode x → Linked G x → G.path x ≼ k
      → ((b : ℕ) (y : Ref) → (G.full x ++ (b ∷ [])) ≼ k → child S x b ≡ Some y → (j : ℕ) × (y ≡ leaf j) × ((S.entries j).key ≡ k → ⊥))
      → (v : ℕ) → Holds S G k v → ⊥
  absent x k n lx h none v (i, li, ek, ev) =
      let r = branch x i n lx li (subst (λ (w : List ℕ). G.path x ≼ w) (sym ek) h) in
      let o = none r.0 r.1 (subst (λ (w : List ℕ). (G.full x ++ (r.0 ∷ [])) ≼ w) ek r.4) r.2 in
      let s : leaf i ≡ leaf o.0 = leaf_alone S o.0 (leaf i) (subst (λ (y : Ref). Reach S y (leaf i)) o.1 r.3) in
      o.2 (subst (λ (j : ℕ). (S.entries j).key ≡ k) (cc s) ek)

  pub present : (x : Ref) (b i : ℕ) → Linked G x → child S x b ≡ Some (leaf i) → Holds S G (S.entries i).key (S.entries i).value
  present x b i l e = (i, (t.kid x b (leaf i) l e).0, refl, refl)
