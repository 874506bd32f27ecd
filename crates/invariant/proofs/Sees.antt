-- What a look for a key says of a good tree.
use Rattle.std.proofs.Common.{◌≡◌, ℕ, suc, ◌+◌, ◌<◌, ◌≤◌, Bool, true, false, cond, eqb, leb, List, [], ◌∷◌, ◌++◌, length, get_or, take, drop, Some, None, Option, sym, refl, ap, ◌∙◌, subst, arith, length-drop, get_or-drop}
use Rattle.std.proofs.lemmas.Bool.{cond-true, eq-eqb, eqb-true, eqb-false, leb-true, leb-false}
use Rattle.model.specs.Bytes.{◌≼◌}
use Rattle.model.specs.Refs.{Ref, leaf, node, IsNode}
use Rattle.model.specs.Tree.{Entry, Tree, child, prefix, Ghost, Linked, TreeOk, Holds}
use Rattle.model.specs.Sights.{Met, differs, ends, goes, later, meet, Seen, stale, empty, missed, other, same_key, onward, alike, leaf_seen, child_seen, met_seen, seen}
use Rattle.model.proofs.Bytes.{≼_len, snoc_len}
use Rattle.model_tree.proofs.Looks as looks
use Rattle.model_tree.specs.Meets.{Stands, Lacks}
use Rattle.invariant.proofs.Setting.{no_way}

-- a walk for k is at x, and d of the key's bytes come before x's prefix
pub record At (S : Tree) (G : Ghost) (x : Ref) (k : List ℕ) (d : ℕ) : Type 0 where
  pub inner : IsNode x
  pub here : Linked G x
  pub steady : G.path x ++ prefix S x ≡ G.full x
  pub way : G.path x ≼ k
  pub depth : length (G.path x) ≡ d

-- the byte of k behind x's prefix
abbrev pub byte_at : Tree → List ℕ → Ref → ℕ → ℕ
byte_at S k x d = get_or k (d + length (prefix S x)) 0

-- the key parts from x's prefix at place i
pub record Missed (S : Tree) (G : Ghost) (x : Ref) (k : List ℕ) (d i : ℕ) : Type 0 where
  pub inside : i < length (prefix S x)
  pub apart : get_or k (d + i) 0 ≡ get_or (prefix S x) i 0 → ⊥
  pub parts : take i (prefix S x) ++ (get_or (prefix S x) i 0 ∷ []) ++ drop (suc i) (prefix S x) ≡ prefix S x
  pub way : (take i (prefix S x) ++ (get_or k (d + i) 0 ∷ [])) ≼ drop d k
  pub lacks : Lacks S G k

-- the key goes on past x by its byte, where o stands
pub record GoesOn (S : Tree) (G : Ghost) (x : Ref) (k : List ℕ) (d : ℕ) (o : Option Ref) : Type 0 where
  pub there : child S x (byte_at S k x d) ≡ o
  pub way : (G.full x ++ (byte_at S k x d ∷ [])) ≼ k
  pub rest : (prefix S x ++ (byte_at S k x d ∷ [])) ≼ drop d k

pub record OtherSeen (S : Tree) (G : Ghost) (x : Ref) (k : List ℕ) (d l : ℕ) : Type 0 where
  pub goes : GoesOn S G x k d (Some (leaf l))
  pub differs : (S.entries l).key ≡ k → ⊥
  pub lacks : Lacks S G k

pub record SameSeen (S : Tree) (G : Ghost) (x : Ref) (k : List ℕ) (d l v : ℕ) : Type 0 where
  pub goes : GoesOn S G x k d (Some (leaf l))
  pub key : (S.entries l).key ≡ k
  pub value : (S.entries l).value ≡ v
  pub holds : Holds S G k v

pub record NodeSeen (S : Tree) (G : Ghost) (x : Ref) (k : List ℕ) (d : ℕ) (y : Ref) (e : ℕ) : Type 0 where
  pub goes : GoesOn S G x k d (Some y)
  pub inner : IsNode y
  pub linked' : Linked G y
  pub way : G.path y ≼ k
  pub depth : length (G.path y) ≡ e

abbrev pub Tells : Tree → Ghost → Ref → List ℕ → ℕ → Seen → Type 0
Tells S G x k d stale = ⊥
Tells S G x k d (missed i) = Missed S G x k d i
Tells S G x k d empty = GoesOn S G x k d None × Lacks S G k
Tells S G x k d (other l) = OtherSeen S G x k d l
Tells S G x k d (same_key l v) = SameSeen S G x k d l v
Tells S G x k d (onward y e) = NodeSeen S G x k d y e

-- what m says of a prefix p and the rest r of a key
abbrev Says : List ℕ → List ℕ → Met → Type 0
Says p r (differs i) = (i < length p) × (take i p ++ (get_or p i 0 ∷ []) ++ drop (suc i) p ≡ p) × ((take i p ++ (get_or r i 0 ∷ [])) ≼ r) × (get_or r i 0 ≡ get_or p i 0 → ⊥)
Says p r ends = r ≼ p
Says p r (goes b) = (b ≡ get_or r (length p) 0) × ((p ++ (b ∷ [])) ≼ r)

further : (a b : ℕ) (p r : List ℕ) → a ≡ b → (m : Met) → Says p r m → Says (a ∷ p) (b ∷ r) (later m)
further a b p r e (differs i) h = let l = h.0 in (omega arith, ap (λ (u : List ℕ). a ∷ u) h.1, (e, h.2), h.3)
further a b p r e ends h = (sym e, h)
further a b p r e (goes c) h = (h.0, (e, h.1))

says : (p r : List ℕ) → Says p r (meet p r)
says [] [] = tt
says [] (b ∷ r) = (refl, (refl, tt))
says (a ∷ p) [] = tt
says (a ∷ p) (b ∷ r) = go (says p r) (eqb a b) refl
  where
    go : Says p r (meet p r) → (t : Bool) → eqb a b ≡ t → Says (a ∷ p) (b ∷ r) (cond t (later (meet p r)) (differs 0))
    go h true e = further a b p r (eqb-true a b e) (meet p r) h
    go h false e = (omega arith, refl, (refl, tt), (λ q. eqb-false a b e (sym q)))

said : (p r : List ℕ) (m : Met) → meet p r ≡ m → Says p r m
said p r m e = subst (λ (n : Met). Says p r n) e (says p r)

-- byte lists that are alike are equal
alike_true : (u v : List ℕ) → alike u v ≡ true → u ≡ v
alike_true [] [] e = refl
alike_true [] (b ∷ v) e = no_way cc
alike_true (a ∷ u) [] e = no_way cc
alike_true (a ∷ u) (b ∷ v) e = go (alike_true u v) (eqb a b) refl e
  where
    go : (alike u v ≡ true → u ≡ v) → (t : Bool) → eqb a b ≡ t → cond t (alike u v) false ≡ true → a ∷ u ≡ b ∷ v
    go h true q f = ap (λ (c : ℕ). c ∷ u) (eqb-true a b q) ∙ ap (λ (w : List ℕ). b ∷ w) (h f)
    go h false q f = no_way cc

alike_self : (u : List ℕ) → alike u u ≡ true
alike_self [] = refl
alike_self (a ∷ u) = cond-true (eqb a a) (alike u u) false (eq-eqb a a refl) ∙ alike_self u

alike_false : (u v : List ℕ) → alike u v ≡ false → u ≡ v → ⊥
alike_false u v e h = let q : alike u v ≡ true = ap (alike u) (sym h) ∙ alike_self u in no_way cc

-- a beginning and what is dropped after it
rejoin : (u k : List ℕ) → u ≼ k → u ++ drop (length u) k ≡ k
rejoin [] k h = refl
rejoin (a ∷ u) [] h = absurd h
rejoin (a ∷ u) (b ∷ k) h = ap (λ (v : List ℕ). a ∷ v) (rejoin u k h.1) ∙ ap (λ (c : ℕ). c ∷ k) h.0

-- the rest of the key, as the tree's theory has it
pub stands : (S : Tree) (G : Ghost) (x : Ref) (k : List ℕ) (d : ℕ) → At S G x k d → Stands S G x k (drop d k)
stands S G x k d a = record {
  at = a.inner;
  here = a.here;
  steady = a.steady;
  rest = ap (λ (n : ℕ). G.path x ++ drop n k) (sym a.depth) ∙ rejoin (G.path x) k a.way;
}

module _ {deep : ℕ} {Key : List ℕ → Type 0} {flux : Ref → Type 0} {S : Tree} {G : Ghost} (t : TreeOk deep Key flux S G) (x : Ref) (k : List ℕ) (d : ℕ) (a : At S G x k d) (key : Key k) where
  st : Stands S G x k (drop d k)
  st = stands S G x k d a

  goes_on : (b : ℕ) (o : Option Ref) → b ≡ byte_at S k x d → (prefix S x ++ (b ∷ [])) ≼ drop d k → child S x b ≡ o → GoesOn S G x k d o
  goes_on b o q h e = record {
    there = ap (child S x) (sym q) ∙ e;
    way = subst (λ (c : ℕ). (G.full x ++ (c ∷ [])) ≼ k) q (looks.way_of t x k (drop d k) st b h);
    rest = subst (λ (c : ℕ). (prefix S x ++ (c ∷ [])) ≼ drop d k) q h;
  }

  missed_tells : (i : ℕ) → meet (prefix S x) (drop d k) ≡ differs i → Missed S G x k d i
  missed_tells i e =
      let p = prefix S x in
      let h = said p (drop d k) (differs i) e in
      let b = get_or-drop d k i 0 in
      record {
        inside = h.0;
        apart = λ q. h.3 (b ∙ q);
        parts = h.1;
        way = subst (λ (c : ℕ). (take i p ++ (c ∷ [])) ≼ drop d k) b h.2;
        lacks = looks.differs_lacks t x k (drop d k) st (take i p) (get_or p i 0) (get_or (drop d k) i 0) (drop (suc i) p) h.1 h.2 h.3;
      }

  leaf_tells : (b l : ℕ) → b ≡ byte_at S k x d → (prefix S x ++ (b ∷ [])) ≼ drop d k → child S x b ≡ Some (leaf l) → Tells S G x k d (leaf_seen S k l)
  leaf_tells b l q h e = go (alike (S.entries l).key k) refl
    where
      go : (c : Bool) → alike (S.entries l).key k ≡ c → Tells S G x k d (cond c (same_key l (S.entries l).value) (other l))
      go true f = let m = alike_true (S.entries l).key k f in
          record { goes = goes_on b (Some (leaf l)) q h e; key = m; value = refl; holds = looks.same_holds t x k (drop d k) st b l e m }
      go false f = let m = alike_false (S.entries l).key k f in
          record { goes = goes_on b (Some (leaf l)) q h e; differs = m; lacks = looks.other_lacks t x k (drop d k) st b l h e m }

  child_tells : (b : ℕ) → b ≡ byte_at S k x d → (prefix S x ++ (b ∷ [])) ≼ drop d k → (o : Option Ref) → child S x b ≡ o
      → Tells S G x k d (child_seen S k (suc (d + length (prefix S x))) o)
  child_tells b q h None e = (goes_on b None q h e, looks.none_lacks t x k (drop d k) st b h e)
  child_tells b q h (Some (leaf l)) e = leaf_tells b l q h e
  child_tells b q h (Some (node c i)) e =
      let m = looks.steps_down t x k (drop d k) st b (node c i) tt h e in
      let g = a.depth in
      record { goes = goes_on b (Some (node c i)) q h e; inner = tt; linked' = m.0; way = m.1; depth = omega (arith, m.2, g) }

  met_tells : (m : Met) → meet (prefix S x) (drop d k) ≡ m → Tells S G x k d (met_seen S k x (suc (d + length (prefix S x))) m)
  met_tells (differs i) e = missed_tells i e
  met_tells ends e = (looks.goes_on t x k (drop d k) st key).0 (said (prefix S x) (drop d k) ends e)
  met_tells (goes b) e =
      let h = said (prefix S x) (drop d k) (goes b) e in
      child_tells b (h.0 ∙ get_or-drop d k (length (prefix S x)) 0) h.1 (child S x b) refl

  seen_tells : Tells S G x k d (seen deep S k x d)
  seen_tells = go (leb deep (d + length (prefix S x))) refl
    where
      go : (c : Bool) → leb deep (d + length (prefix S x)) ≡ c → Tells S G x k d (cond c stale (met_seen S k x (suc (d + length (prefix S x))) (meet (prefix S x) (drop d k))))
      go true e = omega (arith, leb-true deep (d + length (prefix S x)) e, (looks.goes_on t x k (drop d k) st key).1, a.depth)
      go false e = met_tells (meet (prefix S x) (drop d k)) refl

-- what is seen at a node on the key's way
pub sees : {deep : ℕ} {Key : List ℕ → Type 0} {flux : Ref → Type 0} {S : Tree} {G : Ghost} → TreeOk deep Key flux S G → (x : Ref) (k : List ℕ) (d : ℕ) → At S G x k d → Key k
    → (r : Seen) → seen deep S k x d ≡ r → Tells S G x k d r
sees {S = S} {G = G} t x k d a key r e = subst (λ (q : Seen). Tells S G x k d q) e (seen_tells t x k d a key)

-- what leads onward, in any tree: the child under the key's byte, one level deeper, within bounds
pub record Onward (deep : ℕ) (S : Tree) (k : List ℕ) (x : Ref) (d : ℕ) (y : Ref) (e : ℕ) : Type 0 where
  pub there : child S x (byte_at S k x d) ≡ Some y
  pub inner : IsNode y
  pub deeper : e ≡ suc (d + length (prefix S x))
  pub within : e ≤ deep
  pub inside : d + length (prefix S x) < length k

-- what is seen, if it leads onward
abbrev Leads : ℕ → Tree → List ℕ → Ref → ℕ → Seen → Type 0
Leads deep S k x d stale = Unit {0}
Leads deep S k x d empty = Unit {0}
Leads deep S k x d (missed i) = Unit {0}
Leads deep S k x d (other l) = Unit {0}
Leads deep S k x d (same_key l v) = Unit {0}
Leads deep S k x d (onward y e) = Onward deep S k x d y e

module _ (deep : ℕ) (S : Tree) (k : List ℕ) (x : Ref) (d : ℕ) (low : d + length (prefix S x) < deep) where
  child_leads : (b : ℕ) → b ≡ byte_at S k x d → d + length (prefix S x) < length k → (o : Option Ref) → child S x b ≡ o
      → Leads deep S k x d (child_seen S k (suc (d + length (prefix S x))) o)
  child_leads b q l None e = tt
  child_leads b q l (Some (leaf i)) e = go (alike (S.entries i).key k)
    where
      go : (c : Bool) → Leads deep S k x d (cond c (same_key i (S.entries i).value) (other i))
      go true = tt
      go false = tt
  child_leads b q l (Some (node c i)) e = record { there = ap (child S x) (sym q) ∙ e; inner = tt; deeper = refl; within = omega (arith, low); inside = l }

  met_leads : (m : Met) → meet (prefix S x) (drop d k) ≡ m → Leads deep S k x d (met_seen S k x (suc (d + length (prefix S x))) m)
  met_leads (differs i) e = tt
  met_leads ends e = tt
  met_leads (goes b) e =
      let h = said (prefix S x) (drop d k) (goes b) e in
      let n = ≼_len (prefix S x ++ (b ∷ [])) (drop d k) h.1 in
      child_leads b (h.0 ∙ get_or-drop d k (length (prefix S x)) 0) (omega (arith, n, snoc_len (prefix S x) b, length-drop d k)) (child S x b) refl

pub leads_onward : (deep : ℕ) (S : Tree) (k : List ℕ) (x : Ref) (d : ℕ) (y : Ref) (e : ℕ) → seen deep S k x d ≡ onward y e → Onward deep S k x d y e
leads_onward deep S k x d y e h = subst (λ (r : Seen). Leads deep S k x d r) h (go (leb deep (d + length (prefix S x))) refl)
  where
    go : (c : Bool) → leb deep (d + length (prefix S x)) ≡ c → Leads deep S k x d (cond c stale (met_seen S k x (suc (d + length (prefix S x))) (meet (prefix S x) (drop d k))))
    go true q = tt
    go false q = met_leads deep S k x d (omega (arith, leb-false deep (d + length (prefix S x)) q)) (meet (prefix S x) (drop d k)) refl

module _ (S T : Tree) (k : List ℕ) (x : Ref) (e : ℕ) (c : child T x ≡ child S x) (l : (b i : ℕ) → child S x b ≡ Some (leaf i) → T.entries i ≡ S.entries i) where
  child_same : (b : ℕ) (o : Option Ref) → child S x b ≡ o → child_seen T k e o ≡ child_seen S k e o
  child_same b None h = refl
  child_same b (Some (leaf i)) h = ap (λ (n : Entry). cond (alike n.key k) (same_key i n.value) (other i)) (l b i h)
  child_same b (Some (node q i)) h = refl

  met_same : (m : Met) → met_seen T k x e m ≡ met_seen S k x e m
  met_same (differs i) = refl
  met_same ends = refl
  met_same (goes b) = ap (λ (f : ℕ → Option Ref). child_seen T k e (f b)) c ∙ child_same b (child S x b) refl

-- a look reads its node, and the entry of the leaf under the key's byte
pub seen_same : (deep : ℕ) (S T : Tree) (k : List ℕ) (x : Ref) (d : ℕ) → prefix T x ≡ prefix S x → child T x ≡ child S x
    → ((b i : ℕ) → child S x b ≡ Some (leaf i) → T.entries i ≡ S.entries i) → seen deep T k x d ≡ seen deep S k x d
seen_same deep S T k x d p c l =
    ap (λ (u : List ℕ). cond (leb deep (d + length u)) stale (met_seen T k x (suc (d + length u)) (meet u (drop d k)))) p
    ∙ ap (λ (r : Seen). cond (leb deep (d + length (prefix S x))) stale r) (met_same S T k x (suc (d + length (prefix S x))) c l (meet (prefix S x) (drop d k)))
