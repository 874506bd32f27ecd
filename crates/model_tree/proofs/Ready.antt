-- From what a walk saw to what a write needs.
use Rattle.std.proofs.Common.{◌≡◌, ℕ, zero, suc, ◌+◌, ◌<◌, ◌≤◌, ◌⊎◌, List, [], ◌∷◌, ◌++◌, Some, None, Option, sym, refl, ap, ◌∙◌, subst, inl, inr, append_assoc, arith}
use native.Mathlib.Decide.{ℕ_discrete}
use Rattle.model.specs.Bytes.{◌≼◌}
use Rattle.model.specs.Refs.{Ref, root, Kind, IsNode}
use Rattle.model.specs.Tree.{Tree, child, prefix, count, one, fan, cap, Ghost, Linked, TreeOk}
use Rattle.model.specs.Refs.Ref.{leaf, node}
use Rattle.model.specs.Tree.Status.{drawn}
use Rattle.model_tree.specs.Writes.{Laws, Fresh, Fork, Insert, Split, Grow, Miss, InPlace, Collapse}
use Rattle.model_tree.specs.Meets.{Stands}
use Rattle.model.proofs.Bytes.{none_some, is_node_lem, ≼_app, ≼_under}
use Rattle.model_tree.proofs.Parts.{count_two}
use Rattle.model_tree.proofs.Graft.{count_put}
use Rattle.model_tree.proofs.Looks.{way_of, cut_again, joined_again}

pub count_fits : (f : ℕ → Option Ref) (n : ℕ) → count f n ≤ n
unfolding count
count_fits f zero = omega arith
count_fits f (suc n) = go (f n) (count_fits f n)
  where
    go : (o : Option Ref) → count f n ≤ n → one o + count f n ≤ suc n
    go None h = omega (arith, h)
    go (Some y) h = omega (arith, h)

-- where a child is missing there is room
pub count_gap : (f : ℕ → Option Ref) (n b : ℕ) → b < n → f b ≡ None → count f n < n
unfolding count
count_gap f zero b l e = absurd (omega (arith, l))
count_gap f (suc n) b l e = elim (ℕ_discrete b n) [
  | yes q ↦ (let z : one (f n) ≡ 0 = ap (λ (m : ℕ). one (f m)) (sym q) ∙ ap one e in omega (arith, z, count_fits f n))
  | no ne ↦ go (f n) (count_gap f n b (omega (arith, l, ne)) e)
]
  where
    go : (o : Option Ref) → count f n < n → one o + count f n < suc n
    go None h = omega (arith, h)
    go (Some y) h = omega (arith, h)

count_none_or : (f : ℕ → Option Ref) (n : ℕ) → (count f n ≡ 0) ⊎ ((d : ℕ) × (d < n) × ((y : Ref) × (f d ≡ Some y)))
unfolding count
count_none_or f zero = inl refl
count_none_or f (suc n) = go (f n) refl (count_none_or f n)
  where
    go : (o : Option Ref) → f n ≡ o → (count f n ≡ 0) ⊎ ((d : ℕ) × (d < n) × ((y : Ref) × (f d ≡ Some y)))
        → (one (f n) + count f n ≡ 0) ⊎ ((d : ℕ) × (d < suc n) × ((y : Ref) × (f d ≡ Some y)))
    go (Some y) e r = inr (n, omega arith, (y, e))
    go None e (inl z) = inl (let q : one (f n) ≡ 0 = ap one e in omega (arith, q, z))
    go None e (inr q) = inr (q.0, omega (arith, q.1), q.2)

without : (ℕ → Option Ref) → ℕ → ℕ → Option Ref
without f c d = elim (ℕ_discrete d c) [ yes _ ↦ None | no _ ↦ f d ]

without_same : (f : ℕ → Option Ref) (c d : ℕ) → d ≡ c → without f c d ≡ None
unfolding without
without_same f c d e = look (ℕ_discrete d c)
  where
    look : (k : Dec (d ≡ c)) → ◌≡◌ {A = Option Ref} (elim k [ yes _ ↦ None | no _ ↦ f d ]) None
    look (yes _) = refl
    look (no n) = absurd (n e)

without_other : (f : ℕ → Option Ref) (c d : ℕ) → (d ≡ c → ⊥) → without f c d ≡ f d
unfolding without
without_other f c d e = look (ℕ_discrete d c)
  where
    look : (k : Dec (d ≡ c)) → ◌≡◌ {A = Option Ref} (elim k [ yes _ ↦ None | no _ ↦ f d ]) (f d)
    look (yes q) = absurd (e q)
    look (no n) = refl

-- one child of several: there is another
pub count_other : (f : ℕ → Option Ref) (n c : ℕ) → c < n → 2 ≤ count f n → (d : ℕ) × (d < n) × (d ≡ c → ⊥) × ((y : Ref) × (f d ≡ Some y))
count_other f n c l h = go (count_none_or (without f c) n)
  where
    small : (o : Option Ref) → one o ≤ 1
    small None = omega arith
    small (Some y) = omega arith

    go : (count (without f c) n ≡ 0) ⊎ ((d : ℕ) × (d < n) × ((y : Ref) × (without f c d ≡ Some y))) → (d : ℕ) × (d < n) × (d ≡ c → ⊥) × ((y : Ref) × (f d ≡ Some y))
    go (inl z) =
        let q : one (without f c c) ≡ 0 = ap one (without_same f c c refl) in
        absurd (omega (arith, z, h, q, small (f c), count_put f (without f c) c n l (without_other f c)))
    go (inr q) =
        let ne : q.0 ≡ c → ⊥ = λ e. none_some (sym (without_same f c q.0 e) ∙ q.2.1) in
        (q.0, q.1, ne, (q.2.0, sym (without_other f c q.0 ne) ∙ q.2.1))

-- a third child is counted too
pub count_three : (f : ℕ → Option Ref) (n c d e : ℕ) (u w y : Ref) → c < n → d < n → e < n → (c ≡ d → ⊥) → (e ≡ c → ⊥) → (e ≡ d → ⊥) → f c ≡ Some u → f d ≡ Some w → f e ≡ Some y → 3 ≤ count f n
unfolding count
count_three f zero c d e u w y lc ld le cd ec ed fc fd fe = absurd (omega (arith, lc))
count_three f (suc n) c d e u w y lc ld le cd ec ed fc fd fe =
    let here : (m : ℕ) (x : Ref) → m ≡ n → f m ≡ Some x → one (f n) ≡ 1 = λ m x q h. ap (λ (z : ℕ). one (f z)) (sym q) ∙ ap one h in
    elim (ℕ_discrete c n) [
      | yes q ↦ omega (arith, here c u q fc, count_two f n d e w y (omega (arith, ld, cd, q)) (omega (arith, le, ec, q)) (λ z. ed (sym z)) fd fe)
      | no nc ↦ elim (ℕ_discrete d n) [
        | yes q ↦ omega (arith, here d w q fd, count_two f n c e u y (omega (arith, lc, nc)) (omega (arith, le, ed, q)) (λ z. ec (sym z)) fc fe)
        | no nd ↦ elim (ℕ_discrete e n) [
          | yes q ↦ omega (arith, here e y q fe, count_two f n c d u w (omega (arith, lc, nc)) (omega (arith, ld, nd)) cd fc fd)
          | no ne ↦ omega (arith, count_three f n c d e u w y (omega (arith, lc, nc)) (omega (arith, ld, nd)) (omega (arith, le, ne)) cd ec ed fc fd fe)
        ]
      ]
    ]

-- a node that can hold every byte is never full where a child is missing
pub never_full : (S : Tree) (s b : ℕ) → b < 256 → child S (node Kind.whole s) b ≡ None → fan S (node Kind.whole s) < cap (node Kind.whole s)
unfolding fan
never_full S s b l e = count_gap (child S (node Kind.whole s)) 256 b l e

module _ {deep : ℕ} {Key : List ℕ → Type 0} {flux : Ref → Type 0} {S : Tree} {G : Ghost} (laws : Laws deep Key) (t : TreeOk deep Key flux S G) where
  byte_of : (x : Ref) (b : ℕ) (k : List ℕ) → Key k → (G.full x ++ (b ∷ [])) ≼ k → b < 256
  byte_of x b k a h = laws.bytes k (G.full x) b a h

  pub insert_ready : (n : Ref) (k r : List ℕ) (b i v : ℕ) → Stands S G n k r → (prefix S n ++ (b ∷ [])) ≼ r → child S n b ≡ None → fan S n < cap n → Fresh Key S G i k v → Insert Key S G n b i k v
  insert_ready n k r b i v s h e f new = let w = way_of t n k r s b h in
      record { at = s.at; here = s.here; byte = byte_of n b k new.accepted w; free = e; room = f; way = w; fresh = new }

  pub split_ready : (n : Ref) (k r : List ℕ) (b j : ℕ) (y : Ref) (c d i v : ℕ) → Stands S G n k r → (prefix S n ++ (b ∷ [])) ≼ r → child S n b ≡ Some (leaf j)
      → Fork S G y c (leaf i) d (leaf j) → (G.full n ++ (b ∷ []) ++ prefix S y ++ (c ∷ [])) ≼ k → (G.full n ++ (b ∷ []) ++ prefix S y ++ (d ∷ [])) ≼ (S.entries j).key
      → Fresh Key S G i k v → Split Key S G n b j y c d i k v
  split_ready n k r b j y c d i v s h e o wc wd new =
      record { at = s.at; here = s.here; byte = byte_of n b k new.accepted (way_of t n k r s b h); there = e; fork = o; way = wc; way_other = wd; fresh = new }

  -- the byte of a node under its parent
  byte_above : (p n : Ref) (b : ℕ) (k r : List ℕ) → Linked G p → child S p b ≡ Some n → Key k → G.path n ++ r ≡ k → b < 256
  byte_above p n b k r l e a q = byte_of p b k a
      (subst (λ (u : List ℕ). u ≼ k) (t.kid p b n l e).1 (subst (λ (u : List ℕ). G.path n ≼ u) q (≼_app (G.path n) r)))

  pub grow_ready : (p : Ref) (b : ℕ) (n y : Ref) (k r : List ℕ) (c i v : ℕ) → Linked G p → child S p b ≡ Some n → Stands S G n k r → (prefix S n ++ (c ∷ [])) ≼ r → child S n c ≡ None
      → IsNode y → G.st y ≡ drawn → prefix S y ≡ prefix S n → child S y c ≡ Some (leaf i) → ((e : ℕ) → (e ≡ c → ⊥) → child S y e ≡ child S n e)
      → Fresh Key S G i k v → Grow Key S G p b n y c i k v
  grow_ready p b n y k r c i v lp e s h free ny dy pre has rest new = let w = way_of t n k r s c h in
      record {
        at = is_node_lem S p b n e;
        here = lp;
        byte = byte_above p n b k r lp e new.accepted s.rest;
        there = e;
        old = s.at;
        steady = s.steady;
        node' = ny;
        drawn' = dy;
        same_prefix = pre;
        c_byte = byte_of n c k new.accepted w;
        free = free;
        added = has;
        rest = rest;
        way = w;
        fresh = new;
      }

  -- S is the tree after the prefix of n was cut; u was its prefix before
  pub miss_ready : (p : Ref) (b : ℕ) (n y : Ref) (k r u : List ℕ) (c d i v : ℕ) → Linked G p → child S p b ≡ Some n → IsNode n → G.path n ++ u ≡ G.full n → G.path n ++ r ≡ k
      → prefix S y ++ (d ∷ []) ++ prefix S n ≡ u → (prefix S y ++ (c ∷ [])) ≼ r → Fork S G y c (leaf i) d n → Fresh Key S G i k v → Miss Key S G p b n y c d i k v
  miss_ready p b n y k r u c d i v lp e nn st rest cut h o new =
      record {
        at = is_node_lem S p b n e;
        here = lp;
        byte = byte_above p n b k r lp e new.accepted rest;
        there = e;
        old = nn;
        cut = cut_again (G.path n) (prefix S y) d (prefix S n) u (G.full n) cut st;
        fork = o;
        way = subst (λ (x : List ℕ). x ≼ k) (sym (append_assoc (G.path n) (prefix S y) (c ∷ [])))
            (subst (λ (x : List ℕ). (G.path n ++ (prefix S y ++ (c ∷ []))) ≼ x) rest (≼_under (G.path n) (prefix S y ++ (c ∷ [])) r h));
        fresh = new;
      }

  pub in_place_ready : (n : Ref) (k r : List ℕ) (b i : ℕ) → Stands S G n k r → Key k → (prefix S n ++ (b ∷ [])) ≼ r → child S n b ≡ Some (leaf i) → ((n ≡ root → ⊥) → 3 ≤ fan S n) → InPlace S G n b i
  in_place_ready n k r b i s a h e f = record { at = s.at; here = s.here; byte = byte_of n b k a (way_of t n k r s b h); there = e; enough = f }

  -- the one child left beside the leaf i
  pub left_over : ((x : Ref) (b : ℕ) (y : Ref) → child S x b ≡ Some y → b < 256) → (n : Ref) (c i : ℕ) → child S n c ≡ Some (leaf i) → fan S n ≡ 2
      → (d : ℕ) × (w : Ref) × (c ≡ d → ⊥) × (child S n d ≡ Some w) × ((e : ℕ) → (e ≡ c → ⊥) → (e ≡ d → ⊥) → child S n e ≡ None)
  unfolding fan
  left_over by n c i h f =
      let q = count_other (child S n) 256 c (by n c (leaf i) h) (omega (arith, f)) in (
        q.0,
        q.3.0,
        (λ z. q.2 (sym z)),
        q.3.1,
        λ e ec ed. none_of (child S n e) (λ y g. omega (
          arith,
          f,
          count_three (child S n) 256 c q.0 e (leaf i) q.3.0 y (by n c (leaf i) h) q.1 (by n e y g) (λ z. q.2 (sym z)) ec ed h q.3.1 g,
        )),
      )
    where
      none_of : (o : Option Ref) → ((y : Ref) → o ≡ Some y → ⊥) → o ≡ None
      none_of None g = refl
      none_of (Some y) g = absurd (g y refl)

  pub collapse_ready : (p : Ref) (b : ℕ) (n : Ref) (k r : List ℕ) (c i d : ℕ) (w : Ref) → Linked G p → child S p b ≡ Some n → Key k → G.path n ++ r ≡ k
      → (c ≡ d → ⊥) → child S n c ≡ Some (leaf i) → child S n d ≡ Some w → ((e : ℕ) → (e ≡ c → ⊥) → (e ≡ d → ⊥) → child S n e ≡ None)
      → (IsNode w → (v : List ℕ) × (prefix S w ≡ prefix S n ++ (d ∷ []) ++ v) × (G.path n ++ prefix S n ++ (d ∷ []) ++ v ≡ G.full w))
      → Collapse S G p b n c i d w
  collapse_ready p b n k r c i d w lp e a rest cd hc hd no' j =
      record {
        at = is_node_lem S p b n e;
        here = lp;
        byte = byte_above p n b k r lp e a rest;
        there = e;
        apart = cd;
        first = hc;
        second = hd;
        rest = no';
        joined = λ m. let q = j m in ap (λ (x : List ℕ). G.path n ++ x) q.1 ∙ joined_again (G.path n) (prefix S n) d q.0 (G.full w) q.2;
      }
