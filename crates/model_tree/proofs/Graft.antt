-- An exchange of one child keeps the tree good.
use Rattle.std.proofs.Common.{◌≡◌, ℕ, zero, suc, ◌+◌, ◌<◌, ◌≤◌, ◌⊎◌, List, [], ◌∷◌, ◌++◌, length, Some, Option, sym, refl, ap, ◌∙◌, subst, inl, inr, ⊎_elim, arith}
use native.Mathlib.Decide.{ℕ_discrete}
use Rattle.model.specs.Bytes.{◌≼◌}
use Rattle.model.specs.Refs.{Ref, root, IsNode}
use Rattle.model.specs.Tree.{Tree, Entry, child, prefix, count, one, fan, cap, Ghost, Status, Linked, Retired, TreeOk}
use Rattle.model.specs.Refs.Ref.{leaf}
use Rattle.model.specs.Tree.Status.{linked, drawn, retired}
use Rattle.model_tree.specs.Graft.{In, All, KidOf, Fits, Grown, Graft, Closed, UpTo}
use Rattle.model.proofs.Bytes.{pick, snoc_len}
use Rattle.model.proofs.Reach.{parent_one}

pub all_in : (P : Ref → Type 0) (ys : List Ref) → All P ys → (x : Ref) → In x ys → P x
all_in P [] h x i = absurd i
all_in P (y ∷ ys) h x (inl e) = subst P (sym e) h.0
all_in P (y ∷ ys) h x (inr i) = all_in P ys h.1 x i

pub within : {P : Type 0} (x : Ref) (ys : List Ref) → (In x ys → P) → ((In x ys → ⊥) → P) → P
within x [] f h = h (λ i. i)
within x (y ∷ ys) f h = pick x y (λ e. f (inl e)) (λ n. within x ys (λ i. f (inr i)) (λ m. h (λ i. ⊎_elim n m i)))

pub linked_drawn : (s : Status) → s ≡ linked → s ≡ drawn → ⊥
linked_drawn s e h = let z : ◌≡◌ {A = ℕ} 0 1 = cc (e, h) in absurd (omega (arith, z))

pub linked_retired : (s : Status) (r : ℕ) → s ≡ linked → s ≡ retired r → ⊥
linked_retired s r e h = let z : ◌≡◌ {A = ℕ} 0 1 = cc (e, h) in absurd (omega (arith, z))

pub drawn_retired : (s : Status) (r : ℕ) → s ≡ drawn → s ≡ retired r → ⊥
drawn_retired s r e h = let z : ◌≡◌ {A = ℕ} 0 1 = cc (e, h) in absurd (omega (arith, z))

pub count_same : (f g : ℕ → Option Ref) (n : ℕ) → ((c : ℕ) → c < n → g c ≡ f c) → count g n ≡ count f n
unfolding count
count_same f g zero h = refl
count_same f g (suc n) h = let e : one (g n) ≡ one (f n) = ap one (h n (omega arith)) in omega (arith, e, count_same f g n (λ c l. h c (omega (arith, l))))

-- one child exchanged
pub count_put : (f g : ℕ → Option Ref) (b n : ℕ) → b < n → ((c : ℕ) → (c ≡ b → ⊥) → g c ≡ f c) → count g n + one (f b) ≡ count f n + one (g b)
unfolding count
count_put f g b zero l h = absurd (omega (arith, l))
count_put f g b (suc n) l h = elim (ℕ_discrete b n) [
  | yes e ↦ (let s = count_same f g n (λ c k. h c (λ q. omega (arith, q, e, k))) in
      let u : one (f b) ≡ one (f n) = ap (λ (c : ℕ). one (f c)) e in
      let v : one (g b) ≡ one (g n) = ap (λ (c : ℕ). one (g c)) e in
      omega (arith, s, u, v))
  | no ne ↦ (let e : one (g n) ≡ one (f n) = ap one (h n (λ q. ne (sym q))) in omega (arith, e, count_put f g b n (omega (arith, l, ne)) h))
]

module _ {deep : ℕ} {Key : List ℕ → Type 0} {flux flux' : Ref → Type 0} {S T : Tree} {G H : Ghost} {a : Ref} {b : ℕ} {z : Option Ref} {new old moved : List Ref} {now : ℕ}
    (t : TreeOk deep Key flux S G) (g : Graft deep Key flux flux' S T G H a b z new old moved now) where
  new_drawn : (x : Ref) → In x new → (G.st x ≡ drawn) × Linked H x
  new_drawn x i = all_in (λ x. (G.st x ≡ drawn) × Linked H x) new g.turned.come x i

  old_linked : (x : Ref) → In x old → Linked G x × (H.st x ≡ retired now)
  old_linked x i = all_in (λ x. Linked G x × (H.st x ≡ retired now)) old g.turned.gone x i

  not_new : (x : Ref) → Linked G x → In x new → ⊥
  not_new x l i = linked_drawn (G.st x) l (new_drawn x i).0

  not_old : (x : Ref) → Linked H x → In x old → ⊥
  not_old x l i = linked_retired (H.st x) now l (old_linked x i).1

  was_linked : (x : Ref) → Linked H x → (In x new → ⊥) → Linked G x
  was_linked x l n = sym (g.turned.stay x n (not_old x l)) ∙ l

  still_linked : (x : Ref) → Linked G x → (In x old → ⊥) → Linked H x
  still_linked x l n = g.turned.stay x (not_new x l) n ∙ l

  -- every other node has its child as before
  elsewhere : (x : Ref) (c : ℕ) → (x ≡ a → ⊥) → child T x c ≡ child S x c
  elsewhere x c n = g.wrote.elsewhere x c (λ e _. n e)

  new_not_a : (x : Ref) → In x new → x ≡ a → ⊥
  new_not_a x i e = not_new x (subst (Linked G) (sym e) g.before) i

  old_not_a : (x : Ref) → In x old → x ≡ a → ⊥
  old_not_a x i e = not_old x (subst (Linked H) (sym e) g.after) i

  -- who was cut off had its one parent there
  cut_off : (x : Ref) (c : ℕ) (y : Ref) → Linked G x → child S x c ≡ Some y → (child S a b ≡ Some y) ⊎ KidOf S old y → ((x ≡ a) × (c ≡ b)) ⊎ In x old
  cut_off x c y l e (inl u) = inl (parent_one t x a c b y l g.before e u)
  cut_off x c y l e (inr u) = inr (subst (λ (v : Ref). In v old) (sym (parent_one t x u.0 c u.2 y l (old_linked u.0 u.1).0 e u.3).0) u.1)

  -- the child of one who stays, elsewhere, is as it was
  calm : (x : Ref) (c : ℕ) (y : Ref) → Linked G x → (In x old → ⊥) → (x ≡ a → c ≡ b → ⊥) → child S x c ≡ Some y → (In y old → ⊥) × (In y moved → ⊥)
  calm x c y l n m e =
      let stop : ((x ≡ a) × (c ≡ b)) ⊎ In x old → ⊥ = λ u. ⊎_elim (λ p. m p.0 p.1) n u in (
        (λ i. stop (cut_off x c y l e (all_in (λ y. (child S a b ≡ Some y) ⊎ KidOf S old y) old g.cut y i))),
        (λ i. stop (cut_off x c y l e (all_in (λ y. (child S a b ≡ Some y) ⊎ KidOf S old y) moved g.taken y i))),
      )

  full_a : H.full a ≡ G.full a
  full_a = g.turned.fulls a (not_new a g.before)

  kid_after : (x : Ref) (c : ℕ) (y : Ref) → Linked H x → child T x c ≡ Some y → Linked H y × (H.path y ≡ H.full x ++ (c ∷ []))
  kid_after x c y l e =
      let other : (x ≡ a → c ≡ b → ⊥) → Linked H y × (H.path y ≡ H.full x ++ (c ∷ [])) = λ ne.
      let e' : child S x c ≡ Some y = sym (g.wrote.elsewhere x c ne) ∙ e in
      within x new
      (λ i. (all_in (Grown deep Key S H) new g.grown x i).kids c y e')
      (λ n.
      let lx = was_linked x l n in
      let k = t.kid x c y lx e' in
      let m = calm x c y lx (not_old x l) ne e' in (
        still_linked y k.0 m.0,
        g.turned.paths y (not_new y k.0) m.1 ∙ k.1 ∙ ap (λ (v : List ℕ). v ++ (c ∷ [])) (sym (g.turned.fulls x n)),
      )) in
      pick x a
      (λ ea. elim (ℕ_discrete c b) [
        | yes eb ↦ (let ez : z ≡ Some y = sym g.wrote.there ∙ ap (child T a) (sym eb) ∙ subst (λ (v : Ref). child T v c ≡ Some y) ea e in
            let p = g.put y ez in
            let q : G.full a ++ (b ∷ []) ≡ H.full x ++ (c ∷ []) = cc (full_a, ea, eb) in
            (p.0, p.1 ∙ q))
        | no nb ↦ other (λ _ eb. nb eb)
      ])
      (λ na. other (λ ea _. na ea))

  from_new : (y : Ref) → (z ≡ Some y) ⊎ KidOf S new y → (x : Ref) × (c : ℕ) × Linked H x × (child T x c ≡ Some y)
  from_new y (inl e) = (a, b, g.after, g.wrote.there ∙ e)
  from_new y (inr k) = (k.0, k.2, (new_drawn k.0 k.1).1, elsewhere k.0 k.2 (new_not_a k.0 k.1) ∙ k.3)

  from_old : (y : Ref) → Linked H y → In y old ⊎ ((z ≡ Some y) ⊎ KidOf S new y) → (x : Ref) × (c : ℕ) × Linked H x × (child T x c ≡ Some y)
  from_old y l (inl i) = absurd (not_old y l i)
  from_old y l (inr k) = from_new y k

  parent_after : (y : Ref) → Linked H y → (y ≡ root → ⊥) → (x : Ref) × (c : ℕ) × Linked H x × (child T x c ≡ Some y)
  parent_after y l nr = within y new
      (λ i. from_new y (all_in (λ y. (z ≡ Some y) ⊎ KidOf S new y) new g.hung y i))
      (λ n.
      let p = t.parent y (was_linked y l n) nr in
      let x = p.0 in let c = p.1 in
      within x old
      (λ i. from_old y l (all_in (λ x. (c : ℕ) (y : Ref) → child S x c ≡ Some y → In y old ⊎ ((z ≡ Some y) ⊎ KidOf S new y)) old g.kept_below x i c y p.3))
      (λ m.
      let other : (x ≡ a → c ≡ b → ⊥) → (x : Ref) × (c : ℕ) × Linked H x × (child T x c ≡ Some y) =
      λ ne. (x, c, still_linked x p.2 m, g.wrote.elsewhere x c ne ∙ p.3) in
      pick x a
      (λ ea. elim (ℕ_discrete c b) [
        | yes eb ↦ from_old y l (g.kept y (ap (child S a) (sym eb) ∙ subst (λ (v : Ref). child S v c ≡ Some y) ea p.3))
        | no nb ↦ other (λ _ eb. nb eb)
      ])
      (λ na. other (λ ea _. na ea))))

  -- the root is nobody's child
  root_free : (x : Ref) (c : ℕ) → Linked G x → child S x c ≡ Some root → ⊥
  root_free x c l e = absurd (omega (arith, snoc_len (G.full x) c, ap length (sym t.root_path ∙ (t.kid x c root l e).1)))

  root_kept : (child S a b ≡ Some root) ⊎ KidOf S old root → ⊥
  root_kept (inl e) = root_free a b g.before e
  root_kept (inr k) = root_free k.0 k.2 (old_linked k.0 k.1).0 k.3

  root_not_old : In root old → ⊥
  root_not_old i = root_kept (all_in (λ y. (child S a b ≡ Some y) ⊎ KidOf S old y) old g.cut root i)

  root_not_moved : In root moved → ⊥
  root_not_moved i = root_kept (all_in (λ y. (child S a b ≡ Some y) ⊎ KidOf S old y) moved g.taken root i)

  split_after : (x : Ref) → IsNode x → Linked H x → (H.path x ≼ H.full x) × ((H.path x ++ prefix T x ≡ H.full x) ⊎ flux' x)
  split_after x n l =
      let at : Fits deep Key flux' S H x → (H.path x ≼ H.full x) × ((H.path x ++ prefix T x ≡ H.full x) ⊎ flux' x) = λ f.
      ((f.split n).0, ⊎_elim (λ e. inl (ap (λ (v : List ℕ). H.path x ++ v) (g.wrote.prefixes x) ∙ e)) inr (f.split n).1) in
      within x new (λ i. at (all_in (Fits deep Key flux' S H) new g.fit x i))
      (λ m. within x moved (λ i. at (all_in (Fits deep Key flux' S H) moved g.fit_moved x i))
      (λ o.
      let s = t.split x n (was_linked x l m) in
      let p = g.turned.paths x m o in
      let f = g.turned.fulls x m in
      let q = g.wrote.prefixes x in (
        subst (λ (v : List ℕ). v ≼ H.full x) (sym p) (subst (λ (v : List ℕ). G.path x ≼ v) (sym f) s.0),
        ⊎_elim (λ e. inl (ap (λ (v : List ℕ). v ++ prefix T x) p ∙ ap (λ (v : List ℕ). G.path x ++ v) q ∙ e ∙ sym f)) (λ u. inr (g.flows x m o u)) s.1,
      )))

  entry_after : (i : ℕ) → Linked H (leaf i) → (H.path (leaf i) ≼ (T.entries i).key) × Key (T.entries i).key
  entry_after i l = subst (λ (v : Entry). (H.path (leaf i) ≼ v.key) × Key v.key) (sym (g.wrote.entries i))
      (within (leaf i) new (λ u. (all_in (Fits deep Key flux' S H) new g.fit (leaf i) u).entry i refl)
      (λ m. within (leaf i) moved (λ u. (all_in (Fits deep Key flux' S H) moved g.fit_moved (leaf i) u).entry i refl)
      (λ o. let s = t.entry i (was_linked (leaf i) l m) in
      (subst (λ (v : List ℕ). v ≼ (S.entries i).key) (sym (g.turned.paths (leaf i) m o)) s.0, s.1))))

  short_after : (x : Ref) → IsNode x → Linked H x → (length (H.full x) < deep) × ((k : List ℕ) → Key k → k ≼ H.full x → ⊥)
  short_after x n l = within x new (λ i. (all_in (Grown deep Key S H) new g.grown x i).short n)
      (λ m. subst (λ (v : List ℕ). (length v < deep) × ((k : List ℕ) → Key k → k ≼ v → ⊥)) (sym (g.turned.fulls x m)) (t.short x n (was_linked x l m)))

  fan_same : (x : Ref) → (x ≡ a → ⊥) → fan T x ≡ fan S x
  unfolding fan
  fan_same x n = count_same (child S x) (child T x) 256 (λ c _. elsewhere x c n)

  wide_after : (x : Ref) → IsNode x → (x ≡ root → ⊥) → Linked H x ⊎ Retired H x → 2 ≤ fan T x
  wide_after x n r d = pick x a (λ e. subst (λ (v : Ref). 2 ≤ fan T v) (sym e) (g.enough (λ q. r (e ∙ q))))
      (λ na. subst (λ (v : ℕ). 2 ≤ v) (sym (fan_same x na))
      (within x new (λ i. (all_in (Grown deep Key S H) new g.grown x i).wide n)
      (λ m. within x old (λ i. t.wide x n r (inl (old_linked x i).0))
      (λ o. let s = g.turned.stay x m o in
      t.wide x n r (⊎_elim (λ l. inl (sym s ∙ l)) (λ q. inr (q.0, sym s ∙ q.1)) d)))))

  narrow_after : (x : Ref) → IsNode x → fan T x ≤ cap x
  narrow_after x n = pick x a (λ e. subst (λ (v : Ref). fan T v ≤ cap v) (sym e) g.room)
      (λ na. subst (λ (v : ℕ). v ≤ cap x) (sym (fan_same x na)) (t.narrow x n))

  root_now : Linked H root
  root_now = still_linked root t.root_linked root_not_old

  pub grafted : TreeOk deep Key flux' T H
  grafted = record {
    root_linked = root_now;
    root_path = g.turned.paths root (not_new root t.root_linked) root_not_moved ∙ t.root_path;
    root_full = g.turned.fulls root (not_new root t.root_linked) ∙ t.root_full;
    root_prefix = g.wrote.prefixes root ∙ t.root_prefix;
    kid = kid_after;
    parent = parent_after;
    split = split_after;
    entry = entry_after;
    short = short_after;
    wide = wide_after;
    narrow = narrow_after;
  }

  -- who is linked after: those before, without the old, with the new
  pub linked_after : (x : Ref) → (Linked H x → In x new ⊎ (Linked G x × (In x old → ⊥))) × (In x new ⊎ (Linked G x × (In x old → ⊥)) → Linked H x)
  linked_after x = (
    (λ l. within x new (λ i. inl i) (λ n. inr (was_linked x l n, not_old x l))),
    (λ u. ⊎_elim (λ i. (new_drawn x i).1) (λ p. still_linked x p.0 p.1) u),
  )

  pub closed_after : UpTo G now → Closed S G → Closed T H
  closed_after up h x r c y e k =
      let na : x ≡ a → ⊥ = λ ea. linked_retired (H.st a) r g.after (subst (λ (v : Ref). H.st v ≡ retired r) ea e) in
      let k' : child S x c ≡ Some y = sym (elsewhere x c na) ∙ k in
      within x old
      (λ i. within y old
      (λ j. inr (now, (old_linked y j).1, retired_le (H.st x) r now e (old_linked x i).1))
      (λ nj. inl (still_linked y (t.kid x c y (old_linked x i).0 k').0 nj)))
      (λ ni.
      let nn : In x new → ⊥ = λ i. linked_retired (H.st x) r (new_drawn x i).1 e in
      let eg : G.st x ≡ retired r = sym (g.turned.stay x nn ni) ∙ e in
      ⊎_elim
      (λ l. within y old (λ j. inr (now, (old_linked y j).1, up x r eg)) (λ nj. inl (still_linked y l nj)))
      (λ q. inr (q.0, g.turned.stay y (λ i. drawn_retired (G.st y) q.0 (new_drawn y i).0 q.1) (λ i. linked_retired (G.st y) q.0 (old_linked y i).0 q.1) ∙ q.1, q.2))
      (h x r c y eg k'))
    where
      retired_le : (s : Status) (p q : ℕ) → s ≡ retired p → s ≡ retired q → p ≤ q
      retired_le s p q e f = let z : p ≡ q = cc (e, f) in omega (arith, z)
