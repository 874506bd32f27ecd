-- What is seen at a node tells whether the key is held, and gives what the writes need.
use Rattle.std.proofs.Common.{◌≡◌, ℕ, ◌+◌, ◌<◌, List, [], ◌∷◌, ◌++◌, length, Some, None, sym, refl, ap, ◌∙◌, subst, append_assoc, arith}
use native.Mathlib.Decide.{ℕ_discrete}
use Rattle.model.specs.Bytes.{◌≼◌}
use Rattle.model.specs.Refs.{Ref, IsNode}
use Rattle.model.specs.Tree.{Tree, child, prefix, Ghost, Linked, TreeOk, Holds}
use Rattle.model.specs.Refs.Ref.{leaf}
use Rattle.model_tree.specs.Writes.{Laws}
use Rattle.model_tree.specs.Meets.{Meet, Stands, Lacks}
use Rattle.model.proofs.Bytes.{none_some, some_inj, ≼_app, ≼_trans, ≼_under, ≼_rest, snoc_byte, snoc_len}
use Rattle.model.proofs.Reach.{absent}

pub meet : (p r : List ℕ) → Meet p r
meet [] [] = Meet.ends tt
meet [] (b ∷ r) = Meet.goes b (refl, tt)
meet (a ∷ p) [] = Meet.ends tt
meet (a ∷ p) (b ∷ r) = go (meet p r) (ℕ_discrete b a)
  where
    go : Meet p r → Dec (b ≡ a) → Meet (a ∷ p) (b ∷ r)
    go (Meet.goes c h) (yes e) = Meet.goes c (sym e, h)
    go (Meet.differs q d c s h g n) (yes e) = Meet.differs (a ∷ q) d c s (ap (λ (x : List ℕ). a ∷ x) h) (sym e, g) n
    go (Meet.ends h) (yes e) = Meet.ends (e, h)
    go (Meet.goes c h) (no n) = Meet.differs [] a b p refl (refl, tt) n
    go (Meet.differs q d c s h g m) (no n) = Meet.differs [] a b p refl (refl, tt) n
    go (Meet.ends h) (no n) = Meet.differs [] a b p refl (refl, tt) n

pub ≼_cancel : (p u v : List ℕ) → (p ++ u) ≼ (p ++ v) → u ≼ v
≼_cancel [] u v h = h
≼_cancel (a ∷ p) u v h = ≼_cancel p u v h.1

-- a beginning of the rest, after the path, begins the key
on_key : (u k r w : List ℕ) → u ++ r ≡ k → w ≼ r → (u ++ w) ≼ k
on_key u k r w e h = subst (λ (x : List ℕ). (u ++ w) ≼ x) e (≼_under u w r h)

-- where two lists part, neither begins the other
parted : (q : List ℕ) (d c : ℕ) (s p k : List ℕ) → q ++ (d ∷ []) ++ s ≡ p → (q ++ (c ∷ [])) ≼ k → (c ≡ d → ⊥) → p ≼ k → ⊥
parted q d c s p k e h n b = n (snoc_byte q k c d h
    (≼_trans (q ++ (d ∷ [])) p k (subst (λ (x : List ℕ). (q ++ (d ∷ [])) ≼ x) e (≼_app (q ++ (d ∷ [])) s)) b))

module _ {deep : ℕ} {Key : List ℕ → Type 0} {flux : Ref → Type 0} {S : Tree} {G : Ghost} (t : TreeOk deep Key flux S G) (x : Ref) (k r : List ℕ) (s : Stands S G x k r) where
  path_key : G.path x ≼ k
  path_key = subst (λ (u : List ℕ). G.path x ≼ u) s.rest (≼_app (G.path x) r)

  -- the way to the child under b
  pub way_of : (b : ℕ) → (prefix S x ++ (b ∷ [])) ≼ r → (G.full x ++ (b ∷ [])) ≼ k
  way_of b h = subst (λ (u : List ℕ). (u ++ (b ∷ [])) ≼ k) s.steady
      (subst (λ (u : List ℕ). u ≼ k) (sym (append_assoc (G.path x) (prefix S x) (b ∷ []))) (on_key (G.path x) k r (prefix S x ++ (b ∷ [])) s.rest h))

  -- an accepted key never ends at a node on its way, and the node is not too deep
  pub goes_on : Key k → (r ≼ prefix S x → ⊥) × (length (G.path x) + length (prefix S x) < deep)
  goes_on a =
      let h = t.short x s.at s.here in
      let n = lib.ListN.length-append (G.path x) (prefix S x) in (
        (λ e. h.1 k a (subst (λ (u : List ℕ). k ≼ u) s.steady (subst (λ (u : List ℕ). u ≼ (G.path x ++ prefix S x)) s.rest (≼_under (G.path x) r (prefix S x) e)))),
        omega (arith, n, ap length s.steady, h.0),
      )

  pub differs_lacks : (q : List ℕ) (d c : ℕ) (u : List ℕ) → q ++ (d ∷ []) ++ u ≡ prefix S x → (q ++ (c ∷ [])) ≼ r → (c ≡ d → ⊥) → Lacks S G k
  differs_lacks q d c u e h n = absent t x k s.at s.here path_key (λ b y w _.
      absurd (parted q d c u (prefix S x) r e h n
      (≼_cancel (G.path x) (prefix S x) r (subst (λ (v : List ℕ). (G.path x ++ prefix S x) ≼ v) (sym s.rest)
      (subst (λ (v : List ℕ). v ≼ k) (sym s.steady) (≼_trans (G.full x) (G.full x ++ (b ∷ [])) k (≼_app (G.full x) (b ∷ [])) w))))))

  pub none_lacks : (b : ℕ) → (prefix S x ++ (b ∷ [])) ≼ r → child S x b ≡ None → Lacks S G k
  none_lacks b h e = absent t x k s.at s.here path_key (λ c y w f.
      absurd (none_some (sym e ∙ ap (child S x) (snoc_byte (G.full x) k b c (way_of b h) w) ∙ f)))

  pub other_lacks : (b : ℕ) (j : ℕ) → (prefix S x ++ (b ∷ [])) ≼ r → child S x b ≡ Some (leaf j) → ((S.entries j).key ≡ k → ⊥) → Lacks S G k
  other_lacks b j h e n = absent t x k s.at s.here path_key (λ c y w f.
      (j, some_inj y (leaf j) (sym f ∙ ap (child S x) (snoc_byte (G.full x) k c b w (way_of b h)) ∙ e), n))

  pub same_holds : (b : ℕ) (j : ℕ) → child S x b ≡ Some (leaf j) → (S.entries j).key ≡ k → Holds S G k (S.entries j).value
  same_holds b j e q = (j, (t.kid x b (leaf j) s.here e).0, q, refl)

  -- the node under the key's byte is where the walk stands next
  pub steps_down : (b : ℕ) (y : Ref) → IsNode y → (prefix S x ++ (b ∷ [])) ≼ r → child S x b ≡ Some y → Linked G y × (G.path y ≼ k) × (length (G.path y) ≡ length (G.path x) + length (prefix S x) + 1)
  steps_down b y n h e =
      let m = t.kid x b y s.here e in
      let l = lib.ListN.length-append (G.path x) (prefix S x) in
      (m.0, subst (λ (v : List ℕ). v ≼ k) (sym m.1) (way_of b h), omega (arith, l, ap length s.steady, ap length m.1, snoc_len (G.full x) b))

  -- where another leaf stands: how the two keys go on, and part
  pub split_parts : Laws deep Key → Key k → (b j : ℕ) → (prefix S x ++ (b ∷ [])) ≼ r → child S x b ≡ Some (leaf j) → ((S.entries j).key ≡ k → ⊥)
      → (q : List ℕ) × (c : ℕ) × (d : ℕ) × (c ≡ d → ⊥) × (c < 256) × (d < 256)
      × ((G.full x ++ (b ∷ []) ++ q ++ (c ∷ [])) ≼ k) × ((G.full x ++ (b ∷ []) ++ q ++ (d ∷ [])) ≼ (S.entries j).key)
  split_parts laws a b j h e n =
      let m = t.kid x b (leaf j) s.here e in
      let P = G.full x ++ (b ∷ []) in
      let ej = t.entry j m.0 in
      let rk = ≼_rest P k (way_of b h) in
      let rj = ≼_rest P (S.entries j).key (subst (λ (v : List ℕ). v ≼ (S.entries j).key) m.1 ej.0) in
      go laws a ej.1 n P rk.0 rk.1 rj.0 rj.1 (meet rj.0 rk.0)
    where
      go : {K : List ℕ} → Laws deep Key → Key k → Key K → (K ≡ k → ⊥) → (P u : List ℕ) → P ++ u ≡ k → (w : List ℕ) → P ++ w ≡ K → Meet w u
          → (q : List ℕ) × (c : ℕ) × (d : ℕ) × (c ≡ d → ⊥) × (c < 256) × (d < 256) × ((P ++ q ++ (c ∷ [])) ≼ k) × ((P ++ q ++ (d ∷ [])) ≼ K)
      go {K} laws a aj n P u eu w ew (Meet.goes c h) =
          absurd (n (laws.apart K k aj a (subst (λ (v : List ℕ). v ≼ k) ew (on_key P k u w eu (≼_trans w (w ++ (c ∷ [])) u (≼_app w (c ∷ [])) h)))))
      go {K} laws a aj n P u eu w ew (Meet.ends h) =
          absurd (n (sym (laws.apart k K a aj (subst (λ (v : List ℕ). v ≼ K) eu (on_key P K w u ew h)))))
      go {K} laws a aj n P u eu w ew (Meet.differs q d c v h g m) =
          let hk : (P ++ q ++ (c ∷ [])) ≼ k = subst (λ (z : List ℕ). z ≼ k) (sym (append_assoc P q (c ∷ []))) (on_key P k u (q ++ (c ∷ [])) eu g) in
          let hj : (P ++ q ++ (d ∷ [])) ≼ K = subst (λ (z : List ℕ). z ≼ K) (sym (append_assoc P q (d ∷ [])))
          (on_key P K w (q ++ (d ∷ [])) ew (subst (λ (z : List ℕ). (q ++ (d ∷ [])) ≼ z) h (≼_app (q ++ (d ∷ [])) v))) in
          (q, c, d, m, laws.bytes k (P ++ q) c a hk, laws.bytes K (P ++ q) d aj hj, hk, hj)

-- a cut prefix and the byte between make up the old one
pub cut_again : (path q : List ℕ) (d : ℕ) (u p full : List ℕ) → q ++ (d ∷ []) ++ u ≡ p → path ++ p ≡ full → path ++ q ++ (d ∷ []) ++ u ≡ full
cut_again path q d u p full e f =
    ap (λ (v : List ℕ). v ++ u) (append_assoc path q (d ∷ [])) ∙ append_assoc path (q ++ (d ∷ [])) u ∙ ap (λ (v : List ℕ). path ++ v) e ∙ f

-- a node's prefix, the byte and the child's prefix make up the child's new one
pub joined_again : (path p : List ℕ) (d : ℕ) (u full : List ℕ) → path ++ p ++ (d ∷ []) ++ u ≡ full → path ++ (p ++ (d ∷ []) ++ u) ≡ full
joined_again path p d u full f =
    sym (append_assoc path (p ++ (d ∷ [])) u) ∙ ap (λ (v : List ℕ). v ++ u) (sym (append_assoc path p (d ∷ []))) ∙ f
