-- From a look to what the tree holds.
use Rattle.std.proofs.Common.{◌≡◌, ℕ, suc, ◌+◌, true, leb, ◌⊎◌, List, [], ◌∷◌, ◌++◌, length, get_or, take, drop, Some, None, Option, sym, refl, ap, ◌∙◌, subst, inl, inr, append_assoc, arith, get_or-drop}
use Rattle.std.proofs.lemmas.Bool.{cond_both, leb-true}
use Rattle.keys.specs.Room.{longest_key}
use Rattle.nodes.specs.declared.child.Child.{Child}
use Rattle.nodes.specs.declared.child.Child.TheVariants as kid
use Rattle.nodes.specs.View.{View}
use Rattle.look.specs.declared.seen.Met.{Met}
use Rattle.look.specs.declared.seen.Met.TheVariants.{Parts, Ends, Goes}
use Rattle.look.specs.declared.seen.Seen.{Seen}
use Rattle.look.specs.declared.seen.Seen.TheVariants as seen
use Rattle.look.specs.Look.{meet, under, sight, looked}
use Rattle.model.specs.Bytes.{◌≼◌}
use Rattle.model.specs.Refs.{Ref, root}
use Rattle.model.specs.Tree.{Tree, child, prefix, Ghost}
use Rattle.model.specs.Refs.Ref.{leaf, node}
use Rattle.model_tree.specs.Meets.{Stands}
use Rattle.model_tree.specs.Theorems.{Looks}
use Rattle.model.proofs.Bytes.{≼_under}
use Rattle.model_tree.proofs.Theorems.{tree_keeps_lem}
use Rattle.model_look.specs.Tells.{kind_of, refs, Shows, Walks, Missed, GoesOn, Tells, Told, LooksTell, WalksGo}
use Rattle.model_look.proofs.Meeting.{meeting}

-- a beginning and what is dropped after it
rejoin : (u k : List ℕ) → u ≼ k → u ++ drop (length u) k ≡ k
rejoin [] k h = refl
rejoin (a ∷ u) [] h = absurd h
rejoin (a ∷ u) (b ∷ k) h = ap (λ (v : List ℕ). a ∷ v) (rejoin u k h.1) ∙ ap (λ (c : ℕ). c ∷ k) h.0

pub stands : (S : Tree) (G : Ghost) (x : Ref) (k : List ℕ) (d : ℕ) → Walks S G x k d → Stands S G x k (drop d k)
stands S G x k d w = record {
  at = w.at;
  here = w.here;
  steady = w.steady;
  rest = ap (λ (n : ℕ). G.path x ++ drop n k) (sym w.depth) ∙ rejoin (G.path x) k w.way;
}

module _ (Key : List ℕ → Type 0) (S : Tree) (G : Ghost) (x : Ref) (k : List ℕ) (d : ℕ) (w : Walks S G x k d) (l : Looks longest_key Key S G x k (drop d k)) where
  -- what begins the rest begins the key, after the path
  on_key : (v : List ℕ) → v ≼ drop d k → (G.path x ++ v) ≼ k
  on_key v h = subst (λ (u : List ℕ). (G.path x ++ v) ≼ u) (stands S G x k d w).rest (≼_under (G.path x) v (drop d k) h)

  goes_on : (b : ℕ) (o : Option Ref) → (prefix S x ++ (b ∷ [])) ≼ drop d k → child S x b ≡ o → GoesOn S G x k b o
  goes_on b o h e = record {
    there = e;
    way = subst (λ (u : List ℕ). (u ++ (b ∷ [])) ≼ k) w.steady
        (subst (λ (u : List ℕ). u ≼ k) (sym (append_assoc (G.path x) (prefix S x) (b ∷ []))) (on_key (prefix S x ++ (b ∷ [])) h));
  }

  missed : (i : ℕ) → meet (prefix S x) (drop d k) ≡ Parts i → Missed S G x (prefix S x) k d i
  missed i e =
      let p = prefix S x in
      let h = (meeting p (drop d k)).parts i e in
      let b = get_or-drop d k i 0 in record {
        inside = h.0;
        apart = λ q. h.3 (b ∙ q);
        cut = ap (λ (v : List ℕ). v ++ drop (suc i) p) (append_assoc (G.path x) (take i p) (get_or p i 0 ∷ []))
            ∙ append_assoc (G.path x) (take i p ++ (get_or p i 0 ∷ [])) (drop (suc i) p) ∙ ap (λ (v : List ℕ). G.path x ++ v) h.1 ∙ w.steady;
        way = subst (λ (c : ℕ). (G.path x ++ take i p ++ (c ∷ [])) ≼ k) b
            (subst (λ (v : List ℕ). v ≼ k) (sym (append_assoc (G.path x) (take i p) (get_or (drop d k) i 0 ∷ []))) (on_key (take i p ++ (get_or (drop d k) i 0 ∷ [])) h.2));
        lacks = l.differs (take i p) (get_or p i 0) (get_or (drop d k) i 0) (drop (suc i) p) h.1 h.2 h.3;
      }

  found : (b : ℕ) → (prefix S x ++ (b ∷ [])) ≼ drop d k → b ≡ get_or k (d + length (prefix S x)) 0
      → (o : Option Child) → child S x b ≡ refs o → Tells Key S G x (prefix S x) k d (under o (d + length (prefix S x) + 1))
  found b h q None e = (subst (λ (c : ℕ). GoesOn S G x k c None) q (goes_on b None h e), l.none b h e)
  found b h q (Some (kid.Leaf s)) e = (
    subst (λ (c : ℕ). GoesOn S G x k c (Some (leaf s))) q (goes_on b (Some (leaf s)) h e),
    record { other = λ n. l.other b s h e n; same = λ n. l.same b s e n },
  )
  found b h q (Some (kid.Node c s)) e =
      let y = node (kind_of c) s in
      let m = l.down b y tt h e in
      let g = w.depth in (
        subst (λ (a : ℕ). GoesOn S G x k a (Some y)) q (goes_on b (Some y) h e),
        record { linked' = m.0; way = m.1; depth = m.2 ∙ ap (λ (n : ℕ). n + length (prefix S x) + 1) g },
      )

  sighted : (f : View) → ((b : ℕ) → child S x b ≡ refs (f b)) → (m : Met) → meet (prefix S x) (drop d k) ≡ m
      → Tells Key S G x (prefix S x) k d (sight f (d + length (prefix S x) + 1) m)
  sighted f c (Parts i) e = missed i e
  sighted f c Ends e = λ a. (l.goes_on a).0 ((meeting (prefix S x) (drop d k)).ends e)
  sighted f c (Goes b) e =
      let h = (meeting (prefix S x) (drop d k)).goes b e in
      found b h.1 (h.0 ∙ get_or-drop d k (length (prefix S x)) 0) (f b) (c b)

  tells : (p : List ℕ) (f : View) → Shows S x p f → Tells Key S G x p k d (looked p f k d)
  tells p f s =
      let n = length (prefix S x) in
      let P : Seen → Type 0 = Tells Key S G x (prefix S x) k d in
      let g = w.depth in
      subst (λ (u : List ℕ). Tells Key S G x u k d (looked u f k d)) s.same_prefix
      (cond_both (leb longest_key (d + n)) seen.Stale (sight f (d + n + 1) (meet (prefix S x) (drop d k))) P
      (λ e a. omega (arith, leb-true longest_key (d + n) e, (l.goes_on a).1)) (λ e. sighted f s.same_child (meet (prefix S x) (drop d k)) refl))

pub looks_tell_lem : LooksTell
looks_tell_lem p f k d key flux S G ok x s w =
    tells (λ u. key u ≡ true) S G x k d w ((tree_keeps_lem longest_key key flux flux).looks S G ok x k (drop d k) (stands S G x k d w)) p f s

pub look_says : (p : List ℕ) (f : View) (k : List ℕ) (d : ℕ) (r : Seen) → r ≡ looked p f k d → Told p f k d r
look_says p f k d r e = subst (Told p f k d) (sym e) (looks_tell_lem p f k d)

steady_of : {P Q : Type 0} → P ⊎ Q → (Q → ⊥) → P
steady_of (inl e) n = e
steady_of (inr q) n = absurd (n q)

pub walks_go_lem : WalksGo
walks_go_lem key flux S G ok k = record {
  start = record {
    at = tt;
    here = ok.root_linked;
    steady = ap (λ (u : List ℕ). u ++ prefix S root) ok.root_path ∙ ok.root_prefix ∙ sym ok.root_full;
    way = subst (λ (u : List ℕ). u ≼ k) (sym ok.root_path) tt;
    depth = ap length ok.root_path;
  };
  next = λ y e i n s. record {
    at = i;
    here = s.linked';
    steady = steady_of (ok.split y i s.linked').1 n;
    way = s.way;
    depth = s.depth;
  };
}
