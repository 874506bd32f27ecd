-- What `next` answers, and that what it holds shows it.
use Rattle.std.specs.Prelude.{◌≡◌, ℕ, ◌<◌, Bool, T, List, ◌∷◌, Some, None, Option, slice_index}
use Rattle.std.specs.List.{AllByRecursion}
use Rattle.model.specs.Refs.{Ref, root}
use Rattle.model.specs.Tree.{Tree, Ghost, TreeOk, Holds}
use Rattle.keys.specs.Bytes.{First}
use Rattle.model_next.specs.Look.{Sight, Held, Saw, Led}

-- a with the value v is the first pair not below k
pub record FirstFrom (Has : List ℕ → ℕ → Type 0) (k a : List ℕ) (v : ℕ) : Type 0 where
  pub has : Has a v
  pub from : First a k → ⊥
  pub least : (b : List ℕ) (w : ℕ) → Has b w → (First b k → ⊥) → First b a → ⊥

abbrev pub NextOf : (List ℕ → ℕ → Type 0) → List ℕ → Option (List ℕ × ℕ) → Type 0
NextOf Has k None = (b : List ℕ) (w : ℕ) → Has b w → First b k
NextOf Has k (Some (a, v)) = FirstFrom Has k a v

abbrev pub pair_of : Tree → Option ℕ → Option (List ℕ × ℕ)
pair_of S None = None
pair_of S (Some i) = Some ((S.entries i).key, (S.entries i).value)

-- none is found only by going back past the first node
abbrev pub Past : ℕ → Option ℕ → Type 0
Past n None = n ≡ 0
Past n (Some i) = Unit {0}

-- the nodes that next holds with its result r in hand: from the root along the key, then down
pub record Trail {H : Type 0} (V : Held H) (deep : ℕ) (S : Tree) (k : List ℕ) (Ok : H → Type 0) (r : Option ℕ) : Type 0 where
  pub first : H
  pub keys : List H
  pub downs : List H
  pub place : ℕ
  pub sight : Sight
  pub at_root : V.at first ≡ root
  pub at_start : V.depth first ≡ 0
  pub saw : Saw V deep S k Ok (first ∷ keys) place sight
  pub led : Led V deep S Ok sight downs r
  pub past : Past place r

-- every node held has a sound permit now, and such a node is not half moved
pub record SoundNow {H : Type 0} {V : Held H} {deep : ℕ} {S : Tree} {k : List ℕ} {r : Option ℕ} (Ok : H → Type 0) (flux : Ref → Type 0) (t : Trail V deep S k Ok r) : Type 0 where
  pub keys : AllByRecursion Ok (t.first ∷ t.keys)
  pub downs : AllByRecursion Ok t.downs
  pub still : (h : H) → Ok h → flux (V.at h) → ⊥

-- If each permit held is sound at one time, the result in hand is the map's answer at that time.
abbrev pub Snapshot : {H : Type 0} → Held H → Type 0
Snapshot {H = H} V = (deep : ℕ) (key : List ℕ → Bool) (flux : Ref → Bool) (ok : H → Bool) (S : Tree) (G : Ghost) (k : List ℕ) (r : Option ℕ)
    → TreeOk deep (λ (a : List ℕ). T (key a)) (λ (x : Ref). T (flux x)) S G
    → ((a : List ℕ) → T (key a) → (j : ℕ) → slice_index a j < 256)
    → (t : Trail V deep S k (λ (h : H). T (ok h)) r)
    → SoundNow (λ (h : H). T (ok h)) (λ (x : Ref). T (flux x)) t
    → NextOf (Holds S G) k (pair_of S r)
