-- A write of a prefix alone keeps the tree good, with its node in flux.
use Rattle.std.proofs.Common.{◌≡◌, ℕ, ◌≤◌, List, ◌++◌, sym, ap, ◌∙◌, subst, inl, inr, ⊎_elim}
use Rattle.model.specs.Bytes.{◌≼◌}
use Rattle.model.specs.Refs.{Ref, root}
use Rattle.model.specs.Tree.{Tree, Entry, child, fan, cap, Ghost, TreeOk}
use Rattle.model.specs.Refs.Ref.{leaf}
use Rattle.model_tree.specs.Writes.{Moves}
use Rattle.model.proofs.Bytes.{pick}
use Rattle.model_tree.proofs.Graft.{count_same}

fan_still : (S T : Tree) (x : Ref) → ((c : ℕ) → child T x c ≡ child S x c) → fan T x ≡ fan S x
unfolding fan
fan_still S T x h = count_same (child S x) (child T x) 256 (λ c _. h c)

pub moved : {deep : ℕ} {Key : List ℕ → Type 0} {flux flux' : Ref → Type 0} {S T : Tree} {G : Ghost} (t : TreeOk deep Key flux S G) (n : Ref) → Moves flux flux' S T n → TreeOk deep Key flux' T G
moved {deep} {Key} {flux} {flux'} {S} {T} {G} t n m = record {
  root_linked = t.root_linked;
  root_path = t.root_path;
  root_full = t.root_full;
  root_prefix = m.others root (λ e. m.inner (sym e)) ∙ t.root_prefix;
  kid = λ x b y l e. t.kid x b y l (sym (m.kids x b) ∙ e);
  parent = λ y l r. let p = t.parent y l r in (p.0, p.1, p.2, m.kids p.0 p.1 ∙ p.3);
  split = λ x i l. let s = t.split x i l in (
    s.0,
    pick x n (λ e. inr (subst flux' (sym e) m.now))
        (λ ne. ⊎_elim (λ e. inl (ap (λ (u : List ℕ). G.path x ++ u) (m.others x ne) ∙ e)) (λ f. inr (m.from x f)) s.1),
  );
  entry = λ i l. subst (λ (e : Entry). (G.path (leaf i) ≼ e.key) × Key e.key) (sym (m.entries i)) (t.entry i l);
  short = t.short;
  wide = λ x i r l. subst (λ (v : ℕ). 2 ≤ v) (sym (fan_still S T x (m.kids x))) (t.wide x i r l);
  narrow = λ x i. subst (λ (v : ℕ). v ≤ cap x) (sym (fan_still S T x (m.kids x))) (t.narrow x i);
}
