-- What a look of `next` says of a node, read off its outcome.
use Rattle.std.proofs.Common.{◌≡◌, ℕ, zero, suc, ◌+◌, ◌-◌, ◌<◌, ◌≤◌, Bool, true, false, cond, leb, List, length, drop, Some, None, Option, sym, refl, ap, ◌∙◌, subst, ⊎_elim, arith}
use Rattle.std.proofs.lemmas.Bool.{cases_eq}
use Rattle.model.specs.Refs.{Ref, IsNode}
use Rattle.model.specs.Tree.{Tree, child, prefix, one, count, fan}
use Rattle.model.specs.Refs.Ref.{leaf, node}
use Rattle.keys.specs.Bytes.{First}
use Rattle.model_next.specs.Bytes.{comes, Compared, larger, smaller, ended, same, against}
use Rattle.model_next.specs.Look.{Sight, stale, back, onward, aside, got, or_else, least, smallest, past, picks, picked, under, keyed, key_sight, back_sight, down_sight}
use Rattle.model.proofs.Bytes.{none_some}
use Rattle.model_next.proofs.Order.{comes_first, first_comes}

abbrev pub Least : (ℕ → Option Ref) → ℕ → ℕ → Ref → Type 0
Least f b c y = (f c ≡ Some y) × (b ≤ c) × ((j : ℕ) (z : Ref) → b ≤ j → f j ≡ Some z → c ≤ j)

pub least_some : (f : ℕ → Option Ref) (b n c : ℕ) (y : Ref) → least f b n ≡ Some (c, y) → Least f b c y
unfolding least
least_some f b zero c y h = absurd (none_some h)
least_some f b (suc n) c y h = go (f b) refl (least_some f (suc b) n c y) h
  where
    go : (o : Option Ref) → f b ≡ o → (least f (suc b) n ≡ Some (c, y) → Least f (suc b) c y) → or_else b o (least f (suc b) n) ≡ Some (c, y) → Least f b c y
    go None e ih h =
        let r = ih h in
        (r.0, omega (arith, r.1), λ j z l q. ⊎_elim (λ i. absurd (none_some (sym e ∙ ap f i ∙ q))) (λ ne. r.2 j z (omega arith) q) (cases_eq b j))
    go (Some z) e ih h =
        let q : ◌≡◌ {A = ℕ × Ref} (b, z) (c, y) = cc h in
        let i : b ≡ c = ap (λ (w : ℕ × Ref). w.0) q in
        let p : z ≡ y = ap (λ (w : ℕ × Ref). w.1) q in
        (ap f (sym i) ∙ e ∙ ap Some p, omega arith, λ j w l q. omega arith)

pub least_none : (f : ℕ → Option Ref) (b n : ℕ) → least f b n ≡ None → (j : ℕ) (z : Ref) → b ≤ j → j < b + n → f j ≡ Some z → ⊥
unfolding least
least_none f b zero h j z l m q = omega arith
least_none f b (suc n) h j z l m q = go (f b) refl (least_none f (suc b) n) h
  where
    go : (o : Option Ref) → f b ≡ o → (least f (suc b) n ≡ None → (j : ℕ) (z : Ref) → suc b ≤ j → j < suc b + n → f j ≡ Some z → ⊥)
        → or_else b o (least f (suc b) n) ≡ None → ⊥
    go None e ih h = ⊎_elim (λ i. none_some (sym e ∙ ap f i ∙ q)) (λ ne. ih h j z (omega arith) (omega arith) q) (cases_eq b j)
    go (Some y) e ih h = none_some (sym h)

pub smallest_some : (S : Tree) (x : Ref) (c : ℕ) (y : Ref) → smallest S x ≡ Some (c, y) → Least (child S x) 0 c y
unfolding smallest
smallest_some S x c y e = least_some (child S x) 0 256 c y e

pub smallest_none : (S : Tree) (x : Ref) → smallest S x ≡ None → (j : ℕ) (z : Ref) → j < 256 → child S x j ≡ Some z → ⊥
unfolding smallest
smallest_none S x e j z l q = least_none (child S x) 0 256 e j z (omega arith) (omega arith) q

pub past_some : (S : Tree) (x : Ref) (b c : ℕ) (y : Ref) → past S x b ≡ Some (c, y) → Least (child S x) (suc b) c y
unfolding past
past_some S x b c y e = least_some (child S x) (suc b) (255 - b) c y e

pub past_none : (S : Tree) (x : Ref) (b : ℕ) → past S x b ≡ None → (j : ℕ) (z : Ref) → b < j → j < 256 → child S x j ≡ Some z → ⊥
unfolding past
past_none S x b e j z l m q = least_none (child S x) (suc b) (255 - b) e j z l (omega arith) q

pub picks_got : (y : Ref) (e i : ℕ) → picks y e ≡ got i → y ≡ leaf i
picks_got (leaf j) e i h = cc h
picks_got (node c j) e i h = let z : ◌≡◌ {A = ℕ} 0 1 = cc h in absurd (omega arith)

pub picks_aside : (y : Ref) (e : ℕ) (z : Ref) (f : ℕ) → picks y e ≡ aside z f → (y ≡ z) × IsNode z
picks_aside (leaf j) e z f h = let w : ◌≡◌ {A = ℕ} 0 1 = cc h in absurd (omega arith)
picks_aside (node c j) e z f h = let p : node c j ≡ z = cc h in (p, subst IsNode p tt)

-- a child that is picked is never onward
pub picks_not : (y : Ref) (e : ℕ) (z : Ref) (f : ℕ) → picks y e ≡ onward z f → ⊥
picks_not (leaf i) e z f h = let w : ◌≡◌ {A = ℕ} 0 1 = cc h in omega arith
picks_not (node c i) e z f h = let w : ◌≡◌ {A = ℕ} 0 1 = cc h in omega arith

pub picked_not : (o : Option (ℕ × Ref)) (e : ℕ) (z : Ref) (f : ℕ) → picked o e back ≡ onward z f → ⊥
picked_not None e z f h = let w : ◌≡◌ {A = ℕ} 0 1 = cc h in omega arith
picked_not (Some (c, y)) e z f h = picks_not y e z f h

-- a look that is not stale went past the bound of depth
fresh : (t : Bool) (z s : Sight) → cond t stale z ≡ s → (s ≡ stale → ⊥) → z ≡ s
fresh true z s h n = absurd (n (sym h))
fresh false z s h n = h

pub down_view : (deep : ℕ) (S : Tree) (x : Ref) (d : ℕ) (s : Sight) → down_sight deep S x d ≡ s → (s ≡ stale → ⊥)
    → (c : ℕ) × (y : Ref) × (smallest S x ≡ Some (c, y)) × (picks y (suc (d + length (prefix S x))) ≡ s)
unfolding down_sight
down_view deep S x d s h n = go (smallest S x) refl (fresh (leb deep (d + length (prefix S x))) _ s h n)
  where
    go : (o : Option (ℕ × Ref)) → smallest S x ≡ o → picked o (suc (d + length (prefix S x))) stale ≡ s
        → (c : ℕ) × (y : Ref) × (smallest S x ≡ Some (c, y)) × (picks y (suc (d + length (prefix S x))) ≡ s)
    go None q h = absurd (n (sym h))
    go (Some (c, y)) q h = (c, y, q, h)

pub back_view : (deep : ℕ) (S : Tree) (b : ℕ) (x : Ref) (d : ℕ) (s : Sight) → back_sight deep S b x d ≡ s → (s ≡ stale → ⊥) → picked (past S x b) (suc (d + length (prefix S x))) back ≡ s
unfolding back_sight
back_view deep S b x d s h n = fresh (leb deep (d + length (prefix S x))) _ s h n

-- no leaf under b that counts, and no node
abbrev pub Unfit : Tree → List ℕ → Option Ref → Type 0
Unfit S k None = Unit {0}
Unfit S k (Some (leaf i)) = First (S.entries i).key k
Unfit S k (Some (node c i)) = ⊥

pub data KeyView (S : Tree) (k : List ℕ) (x : Ref) (d : ℕ) (s : Sight) : Type 0 where
  above : (c : ℕ) (y : Ref) → against (prefix S x) (drop d k) ≡ larger → smallest S x ≡ Some (c, y) → picks y (suc (d + length (prefix S x))) ≡ s → KeyView S k x d s
  lower : against (prefix S x) (drop d k) ≡ smaller → s ≡ back → KeyView S k x d s
  beside : (b : ℕ) → against (prefix S x) (drop d k) ≡ same b → Unfit S k (child S x b) → picked (past S x b) (suc (d + length (prefix S x))) back ≡ s → KeyView S k x d s
  at : (b i : ℕ) → against (prefix S x) (drop d k) ≡ same b → child S x b ≡ Some (leaf i) → (First (S.entries i).key k → ⊥) → s ≡ got i → KeyView S k x d s
  on : (b : ℕ) (y : Ref) → against (prefix S x) (drop d k) ≡ same b → child S x b ≡ Some y → IsNode y → s ≡ onward y (suc (d + length (prefix S x))) → KeyView S k x d s

module _ (S : Tree) (k : List ℕ) (x : Ref) (d : ℕ) (s : Sight) where
  at_leaf : (b i : ℕ) (t : Bool) → against (prefix S x) (drop d k) ≡ same b → child S x b ≡ Some (leaf i) → comes (S.entries i).key k ≡ t
      → cond t (picked (past S x b) (suc (d + length (prefix S x))) back) (got i) ≡ s → KeyView S k x d s
  at_leaf b i true a e q h = KeyView.beside b a (subst (Unfit S k) (sym e) (comes_first (S.entries i).key k q)) h
  at_leaf b i false a e q h =
      KeyView.at b i a e (λ f. let z : ◌≡◌ {A = ℕ} 0 1 = cc (q, first_comes (S.entries i).key k f) in omega arith) (sym h)

  at_child : (b : ℕ) (o : Option Ref) → against (prefix S x) (drop d k) ≡ same b → child S x b ≡ o → under S k x (suc (d + length (prefix S x))) b o ≡ s → KeyView S k x d s
  at_child b None a e h = KeyView.beside b a (subst (Unfit S k) (sym e) tt) h
  at_child b (Some (leaf i)) a e h = at_leaf b i (comes (S.entries i).key k) a e refl h
  at_child b (Some (node c i)) a e h = KeyView.on b (node c i) a e tt (sym h)

  at_smallest : (o : Option (ℕ × Ref)) → (s ≡ stale → ⊥) → against (prefix S x) (drop d k) ≡ larger → smallest S x ≡ o → picked o (suc (d + length (prefix S x))) stale ≡ s → KeyView S k x d s
  at_smallest None n a q h = absurd (n (sym h))
  at_smallest (Some (c, y)) n a q h = KeyView.above c y a q h

  at_prefix : (o : Compared) → (s ≡ stale → ⊥) → against (prefix S x) (drop d k) ≡ o → keyed S k x (suc (d + length (prefix S x))) o ≡ s → KeyView S k x d s
  at_prefix larger n a h = at_smallest (smallest S x) n a refl h
  at_prefix smaller n a h = KeyView.lower a (sym h)
  at_prefix ended n a h = absurd (n (sym h))
  at_prefix (same b) n a h = at_child b (child S x b) a refl h

  pub key_view : (deep : ℕ) → key_sight deep S k x d ≡ s → (s ≡ stale → ⊥) → KeyView S k x d s
  unfolding key_sight
  key_view deep h n = at_prefix (against (prefix S x) (drop d k)) n refl (fresh (leb deep (d + length (prefix S x))) _ s h n)

pub picks_depth : (y : Ref) (e : ℕ) (z : Ref) (f : ℕ) → picks y e ≡ aside z f → f ≡ e
picks_depth (leaf j) e z f h = let w : ◌≡◌ {A = ℕ} 0 1 = cc h in absurd (omega arith)
picks_depth (node c j) e z f h = cc h

picks_fresh : (y : Ref) (e : ℕ) → picks y e ≡ stale → ⊥
picks_fresh (leaf i) e h = let z : ◌≡◌ {A = ℕ} 0 1 = cc h in omega arith
picks_fresh (node c i) e h = let z : ◌≡◌ {A = ℕ} 0 1 = cc h in omega arith

pub back_fresh : (o : Option (ℕ × Ref)) (e : ℕ) → picked o e back ≡ stale → ⊥
back_fresh None e h = let z : ◌≡◌ {A = ℕ} 0 1 = cc h in omega arith
back_fresh (Some (c, y)) e h = picks_fresh y e h

pub smallest_fresh : (o : Option (ℕ × Ref)) (e : ℕ) → (o ≡ None → ⊥) → picked o e stale ≡ stale → ⊥
smallest_fresh None e n h = n refl
smallest_fresh (Some (c, y)) e n h = picks_fresh y e h

leaf_fresh : (S : Tree) (x : Ref) (e b i : ℕ) (t : Bool) → cond t (picked (past S x b) e back) (got i) ≡ stale → ⊥
leaf_fresh S x e b i true h = back_fresh (past S x b) e h
leaf_fresh S x e b i false h = let z : ◌≡◌ {A = ℕ} 0 1 = cc h in omega arith

pub under_fresh : (S : Tree) (k : List ℕ) (x : Ref) (e b : ℕ) (o : Option Ref) → under S k x e b o ≡ stale → ⊥
under_fresh S k x e b None h = back_fresh (past S x b) e h
under_fresh S k x e b (Some (leaf i)) h = leaf_fresh S x e b i (comes (S.entries i).key k) h
under_fresh S k x e b (Some (node c i)) h = let z : ◌≡◌ {A = ℕ} 0 1 = cc h in omega arith

none_counted : (f : ℕ → Option Ref) (n : ℕ) → ((j : ℕ) (z : Ref) → j < n → f j ≡ Some z → ⊥) → count f n ≡ 0
unfolding count
none_counted f zero h = refl
none_counted f (suc n) h = go (f n) refl (none_counted f n (λ j z l. h j z (omega arith)))
  where
    go : (o : Option Ref) → f n ≡ o → count f n ≡ 0 → one (f n) + count f n ≡ 0
    go None e i = let q : one (f n) ≡ 0 = ap one e in omega (arith, q, i)
    go (Some z) e i = absurd (h n z (omega arith) e)

-- a node with children has a smallest one
pub has_smallest : (S : Tree) (x : Ref) → 2 ≤ fan S x → smallest S x ≡ None → ⊥
unfolding fan
has_smallest S x w e = omega (arith, w, none_counted (child S x) 256 (smallest_none S x e))
