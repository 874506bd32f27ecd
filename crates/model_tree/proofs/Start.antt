-- A tree with nothing in it is good.
use Rattle.std.proofs.Common.{◌≡◌, ℕ, zero, suc, ◌<◌, List, [], ◌∷◌, None, Option, sym, refl, ap, ◌∙◌, subst, inl, ⊎_elim, arith}
use Rattle.model.specs.Bytes.{◌≼◌}
use Rattle.model.specs.Refs.{Ref, root, IsNode}
use Rattle.model.specs.Tree.{Tree, child, prefix, count, fan, cap, Ghost, Status, Linked, Retired, TreeOk, Holds}
use Rattle.model.specs.Refs.Ref.{leaf}
use Rattle.model.specs.Tree.Status.{linked, spare, drawn, retired}
use Rattle.model.proofs.Bytes.{none_some, pick}
use Rattle.model_tree.proofs.Turn.{choose, choose_in, choose_out}

count_none : (f : ℕ → Option Ref) (n : ℕ) → ((c : ℕ) → f c ≡ None) → count f n ≡ 0
unfolding count
count_none f zero h = refl
count_none f (suc n) h = let e = ap Rattle.model.specs.Tree.one (h n) in omega (arith, e, count_none f n h)

fan_none : (S : Tree) (x : Ref) → ((c : ℕ) → child S x c ≡ None) → fan S x ≡ 0
unfolding fan
fan_none S x h = count_none (child S x) 256 h

unfoldable pub first : Ghost
first = record { st = λ x. choose x (root ∷ []) linked spare; path = λ x. []; full = λ x. [] }

pub first_linked : (x : Ref) → Linked first x → x ≡ root
unfolding first
first_linked x l = pick x root (λ e. e) (λ n. let z : ◌≡◌ {A = ℕ} 0 1 = cc (choose_out x (root ∷ []) linked spare (λ i. ⊎_elim n (λ q. q) i), l) in absurd (omega (arith, z)))

pub first_retired : (x : Ref) (r : ℕ) → first.st x ≡ retired r → ⊥
unfolding first
first_retired x r h = pick x root
    (λ e. let z : ◌≡◌ {A = ℕ} 0 1 = cc (choose_in x (root ∷ []) linked spare (inl e), h) in absurd (omega (arith, z)))
    (λ n. let z : ◌≡◌ {A = ℕ} 0 1 = cc (choose_out x (root ∷ []) linked spare (λ i. ⊎_elim n (λ q. q) i), h) in absurd (omega (arith, z)))

nil_only : (Key : List ℕ → Type 0) → (Key [] → ⊥) → (k : List ℕ) → Key k → k ≼ [] → ⊥
nil_only Key n [] a h = n a
nil_only Key n (b ∷ k) a h = h

pub starts : {deep : ℕ} {Key : List ℕ → Type 0} {flux : Ref → Type 0} (S : Tree) → 0 < deep → (Key [] → ⊥) → ((x : Ref) (c : ℕ) → child S x c ≡ None) → prefix S root ≡ [] → TreeOk deep Key flux S first
unfolding first
starts {deep} {Key} {flux} S d ne h p = record {
  root_linked = choose_in root (root ∷ []) linked spare (inl refl);
  root_path = refl;
  root_full = refl;
  root_prefix = p;
  kid = λ x b y l e. absurd (none_some (sym (h x b) ∙ e));
  parent = λ y l r. absurd (r (first_linked y l));
  split = λ x n l. (tt, inl (subst (λ (v : Ref). prefix S v ≡ []) (sym (first_linked x l)) p));
  entry = λ i l. absurd (subst IsNode (sym (first_linked (leaf i) l)) tt);
  short = λ x n l. (d, nil_only Key ne);
  wide = λ x n r u. absurd (⊎_elim (λ l. r (first_linked x l)) (λ q. first_retired x q.0 q.1) u);
  narrow = λ x n. omega (arith, fan_none S x (h x));
}

pub starts_empty : (S : Tree) (k : List ℕ) (v : ℕ) → Holds S first k v → ⊥
starts_empty S k v h = subst IsNode (sym (first_linked (leaf h.0) h.1)) tt
