-- The rules can be met: from an empty tree, by a draw and an insert, to a tree with a key.
use Rattle.std.proofs.Common.{◌≡◌, ℕ, List, [], ◌∷◌, ◌++◌, Some, None, Option, sym, refl, ap, ◌∙◌, subst, inl, ⊎_elim, arith}
use native.Mathlib.Decide.{ℕ_discrete}
use Rattle.model.specs.Refs.{Ref, Ref-discrete, Kind-discrete, root, IsNode}
use Rattle.model.specs.Tree.{Tree, child, prefix, Ghost, Status, TreeOk, Holds}
use Rattle.model.specs.Refs.Ref.{leaf, node}
use Rattle.model.specs.Tree.Status.{linked, drawn, retired}
use Rattle.model_tree.specs.Graft.{Wrote}
use Rattle.model_tree.specs.Writes.{Laws, Fresh}
use Rattle.model_tree.specs.Meets.{Stands}
use Rattle.model.proofs.Bytes.{pick}
use Rattle.model_tree.proofs.Turn.{choose, choose_in, choose_out}
use Rattle.model_tree.proofs.Start.{first, starts, first_linked, first_retired}
use Rattle.model_tree.proofs.Aside.{aside}
use Rattle.model_tree.proofs.Ready.{insert_ready, never_full}
use Rattle.model_tree.proofs.Adds.{insert_keeps}

both : {A : Type 0} (x a : Ref) (c b : ℕ) → A → A → A
both x a c b u v = elim (Ref-discrete ℕ_discrete Kind-discrete x a) [ yes _ ↦ elim (ℕ_discrete c b) [ yes _ ↦ u | no _ ↦ v ] | no _ ↦ v ]

both_yes : {A : Type 0} (x : Ref) (c : ℕ) (u v : A) → both x x c c u v ≡ u
unfolding both
both_yes {A} x c u v = go (Ref-discrete ℕ_discrete Kind-discrete x x) (ℕ_discrete c c)
  where
    go : (d : Dec (x ≡ x)) (e : Dec (c ≡ c)) → ◌≡◌ {A = A} (elim d [ yes _ ↦ elim e [ yes _ ↦ u | no _ ↦ v ] | no _ ↦ v ]) u
    go (yes _) (yes _) = refl
    go (yes _) (no n) = absurd (n refl)
    go (no n) e = absurd (n refl)

both_no : {A : Type 0} (x a : Ref) (c b : ℕ) (u v : A) → (x ≡ a → c ≡ b → ⊥) → both x a c b u v ≡ v
unfolding both
both_no {A} x a c b u v n = go (Ref-discrete ℕ_discrete Kind-discrete x a) (ℕ_discrete c b)
  where
    go : (d : Dec (x ≡ a)) (e : Dec (c ≡ b)) → ◌≡◌ {A = A} (elim d [ yes _ ↦ elim e [ yes _ ↦ u | no _ ↦ v ] | no _ ↦ v ]) v
    go (yes p) (yes q) = absurd (n p q)
    go (yes p) (no m) = refl
    go (no m) e = refl

-- the tree with one child exchanged
pub write : Tree → Ref → ℕ → Option Ref → Tree
write S a b z = record {
  contents = λ k i. record { prefix = (S.contents k i).prefix; child = λ c. both (node k i) a c b z ((S.contents k i).child c) };
  entries = S.entries;
}

pub wrote : (S : Tree) (a : Ref) (b : ℕ) (z : Option Ref) → IsNode a → Wrote S (write S a b z) a b z
unfolding write
wrote S a b z n = record { there = at a n; elsewhere = other; prefixes = pre; entries = λ i. refl }
  where
    at : (a : Ref) → IsNode a → child (write S a b z) a b ≡ z
    at (leaf i) n = absurd n
    at (node k i) n = both_yes (node k i) b z ((S.contents k i).child b)

    other : (x : Ref) (c : ℕ) → (x ≡ a → c ≡ b → ⊥) → child (write S a b z) x c ≡ child S x c
    other (leaf i) c m = refl
    other (node k i) c m = both_no (node k i) a c b z ((S.contents k i).child c) m

    pre : (x : Ref) → prefix (write S a b z) x ≡ prefix S x
    pre (leaf i) = refl
    pre (node k i) = refl

-- an empty tree whose every leaf would hold k and v
blank : List ℕ → ℕ → Tree
blank k v = record { contents = λ _ _. record { prefix = []; child = λ _. None }; entries = λ _. record { key = k; value = v } }

blank_none : (k : List ℕ) (v : ℕ) (x : Ref) (c : ℕ) → child (blank k v) x c ≡ None
unfolding blank
blank_none k v (leaf i) c = refl
blank_none k v (node s i) c = refl

-- the leaf 0 is drawn
drew : Ghost
drew = record { st = λ x. choose x (leaf 0 ∷ []) drawn (first.st x); path = first.path; full = first.full }

drew_leaf : drew.st (leaf 0) ≡ drawn
unfolding drew
drew_leaf = choose_in (leaf 0) (leaf 0 ∷ []) drawn (first.st (leaf 0)) (inl refl)

drew_else : (x : Ref) → (x ≡ leaf 0 → ⊥) → drew.st x ≡ first.st x
unfolding drew
drew_else x n = choose_out x (leaf 0 ∷ []) drawn (first.st x) (λ i. ⊎_elim n (λ q. q) i)

drew_one : (x : Ref) (s : Status) → drew.st x ≡ s → (drawn ≡ s → ⊥) → first.st x ≡ s
drew_one x s e n = pick x (leaf 0) (λ q. absurd (n (sym drew_leaf ∙ ap drew.st (sym q) ∙ e))) (λ m. sym (drew_else x m) ∙ e)

drawn_linked : drawn ≡ linked → ⊥
drawn_linked e = let z : ◌≡◌ {A = ℕ} 0 1 = cc e in absurd (omega (arith, z))

drawn_retired' : (r : ℕ) → drawn ≡ retired r → ⊥
drawn_retired' r e = let z : ◌≡◌ {A = ℕ} 0 1 = cc e in absurd (omega (arith, z))

module _ {deep : ℕ} {Key : List ℕ → Type 0} {flux : Ref → Type 0} (laws : Laws deep Key) (b v : ℕ) (u : List ℕ) (a : Key (b ∷ u)) where
  good_first : TreeOk deep Key flux (blank (b ∷ u) v) first
  unfolding blank
  good_first = starts (blank (b ∷ u) v) (omega (arith, laws.fits (b ∷ u) a)) (λ e. none_nil (laws.apart [] (b ∷ u) e a tt)) (blank_none (b ∷ u) v) refl
    where
      none_nil : [] ≡ b ∷ u → ⊥
      none_nil e = let z : ◌≡◌ {A = ℕ} 0 1 = cc e in absurd (omega (arith, z))

  good_drew : TreeOk deep Key flux (blank (b ∷ u) v) drew
  unfolding drew
  good_drew = aside good_first (record {
    to = λ x l. drew_else x (λ e. subst IsNode (sym (first_linked x l) ∙ e) tt) ∙ l;
    from = λ x l. drew_one x linked l drawn_linked;
    kids = λ x _ c. refl;
    prefixes = λ x _. refl;
    entries = λ i _. refl;
    paths = λ x _. refl;
    fulls = λ x _. refl;
    since = λ x r e. drew_one x (retired r) e (drawn_retired' r);
    later = λ x y r q e _ _. absurd (first_retired x r (drew_one x (retired r) e (drawn_retired' r)));
    room = good_first.narrow;
  })

  pub witness : (T : Tree) × (H : Ghost) × TreeOk deep Key flux T H × Holds T H (b ∷ u) v
  unfolding blank
  witness =
      let t = good_drew in
      let s : Stands (blank (b ∷ u) v) drew root (b ∷ u) (b ∷ u) = record { at = tt; here = t.root_linked; steady = ap (λ (x : List ℕ). x ++ []) t.root_path ∙ sym t.root_full; rest = ap (λ (x : List ℕ). x ++ (b ∷ u)) t.root_path } in
      let f : Fresh Key (blank (b ∷ u) v) drew 0 (b ∷ u) v = record { drawn' = drew_leaf; key = refl; value = refl; accepted = a } in
      let p = insert_ready laws t root (b ∷ u) (b ∷ u) b 0 v s (refl, tt) refl (never_full (blank (b ∷ u) v) 0 b (laws.bytes (b ∷ u) [] b a (refl, tt)) refl) f in
      let r = insert_keeps t root b 0 (b ∷ u) v 0 p (wrote (blank (b ∷ u) v) root b (Some (leaf 0)) tt) in
      (write (blank (b ∷ u) v) root b (Some (leaf 0)), r.0.ghost', r.0.good, (r.1 (b ∷ u) v).1 (inl (refl, refl)))
