-- The statements that the crate stands for.
use Rattle.std.specs.Prelude.{◌≡◌, ℕ, suc, ◌<◌, ◌≤◌, Bool, true, false, T, ◌⊎◌, List, [], ◌∷◌, ◌++◌, length, Some, Option, ◌≢◌, slice_index, slice_index_or}
use Rattle.model.specs.Bytes.{◌≼◌}
use Rattle.model.specs.Refs.{Ref, leaf, IsNode}
use Rattle.model.specs.Tree.{Tree, child, Ghost, Linked, TreeOk, Holds}
use Rattle.keys.specs.Bytes.{First}
use Rattle.model_next.specs.Bytes.{comes, larger, smaller, same, against}
use Rattle.std.specs.List.{AllByRecursion}
use Rattle.model_next.specs.Look.{stale, key_sight, back_sight, down_sight, smallest, Held, taken}
use Rattle.model_next.specs.Next.{NextOf, pair_of}
use Rattle.model_next.specs.Walk.{Walk, on, look_key, look_back, look_down, scan, newest, place, Goes, Seen, Stays, HeldStays}

pub record OrderLaws : Type 0 where
  pub not_self : (u : List ℕ) → First u u → ⊥
  pub trans : (u v w : List ℕ) → First u v → First v w → First u w
  pub total : (u v : List ℕ) → (u ≡ v) ⊎ (First u v ⊎ First v u)
  pub test : (u v : List ℕ) → (comes u v ≡ true → First u v) × (First u v → comes u v ≡ true)
  -- keys that part behind u
  pub fork : (u v w : List ℕ) (a b : ℕ) → u ++ a ∷ [] ≼ v → u ++ b ∷ [] ≼ w → a < b → First v w
  -- a prefix that is larger or smaller than the rest of a key decides for all that begins with it
  pub larger_prefix : (p r v : List ℕ) → against p r ≡ larger → p ≼ v → First r v
  pub smaller_prefix : (p r v : List ℕ) → against p r ≡ smaller → p ≼ v → First v r
  pub same_prefix : (p r : List ℕ) (b : ℕ) → against p r ≡ same b → p ++ b ∷ [] ≼ r

-- the smallest of the linked leaves whose keys begin with u
pub record Best (S : Tree) (G : Ghost) (u : List ℕ) (i : ℕ) : Type 0 where
  pub linked : Linked G (leaf i)
  pub under : u ≼ (S.entries i).key
  pub least : (j : ℕ) → Linked G (leaf j) → u ≼ (S.entries j).key → First (S.entries j).key (S.entries i).key → ⊥

abbrev pub Good : ℕ → (List ℕ → Bool) → (Ref → Bool) → Tree → Ghost → Type 0
Good deep key flux S G = TreeOk deep (λ (a : List ℕ). T (key a)) (λ (x : Ref). T (flux x)) S G × ((a : List ℕ) → T (key a) → (j : ℕ) → slice_index a j < 256)

-- a leaf below a node lies below one child; the smallest leaf below it is the smallest below its smallest child
pub record TreeLaws : Type 0 where
  pub branch : (deep : ℕ) (key : List ℕ → Bool) (flux : Ref → Bool) (S : Tree) (G : Ghost) → Good deep key flux S G → (x : Ref) (i : ℕ) → IsNode x → Linked G x → Linked G (leaf i)
      → G.path x ≼ (S.entries i).key → (b : ℕ) × (y : Ref) × (child S x b ≡ Some y) × (G.path y ≼ (S.entries i).key) × ((c : ℕ) (z : Ref) → child S x c ≡ Some z → G.path z ≼ (S.entries i).key → c ≡ b)
  pub leaf : (deep : ℕ) (key : List ℕ → Bool) (flux : Ref → Bool) (S : Tree) (G : Ghost) → Good deep key flux S G → (i : ℕ) → Linked G (leaf i) → Best S G (G.path (leaf i)) i
  pub smallest : (deep : ℕ) (key : List ℕ → Bool) (flux : Ref → Bool) (S : Tree) (G : Ghost) → Good deep key flux S G → (x y : Ref) (c i : ℕ) → IsNode x → Linked G x
      → smallest S x ≡ Some (c, y) → Best S G (G.path y) i → Best S G (G.path x) i

-- the map's answer is one
abbrev pub OneAnswer : Type 0
OneAnswer = (S : Tree) (G : Ghost) (k : List ℕ) (r r' : Option (List ℕ × ℕ))
    → ((a : List ℕ) (v w : ℕ) → Holds S G a v → Holds S G a w → v ≡ w) → NextOf (Holds S G) k r → NextOf (Holds S G) k r' → r ≡ r'

-- a permit at place i or behind it is not sound
abbrev pub Bad : {H : Type 0} → (H → Bool) → List H → ℕ → Type 0
Bad {H = H} ok hs i = (j : ℕ) × (h : H) × (i ≤ j) × (j < length hs) × (h ≡ slice_index_or hs j h) × (ok h ≡ false)

-- what next has seen: kept by its own steps and by those of others; when the scan begins, the map's answer is in hand, or a permit is bad;
-- a bad permit stays bad, and the scan meets it
pub record WalkLaws {H : Type 0} (V : Held H) : Type 0 where
  pub own : (deep : ℕ) (S : Tree) (k : List ℕ) (ok : H → Bool) (w v : Walk H) → Seen V deep S k (λ (h : H). T (ok h)) w → Goes V deep S k w v → Seen V deep S k (λ (h : H). T (ok h)) v
  pub others : (deep : ℕ) (k : List ℕ) (S S' : Tree) (ok ok' : H → Bool) (w : Walk H) → HeldStays (Stays V deep k S S' (λ (h : H). T (ok h)) (λ (h : H). T (ok' h))) w
      → Seen V deep S k (λ (h : H). T (ok h)) w → Seen V deep S' k (λ (h : H). T (ok' h)) w
  pub begins : (deep : ℕ) (key : List ℕ → Bool) (flux : Ref → Bool) (ok : H → Bool) (S : Tree) (G : Ghost) (k : List ℕ) (f : H) (hs ds : List H) (n : ℕ) (r : Option ℕ)
      → Good deep key flux S G → ((h : H) → T (ok h) → T (flux (V.at h)) → ⊥) → Seen V deep S k (λ (h : H). T (ok h)) (on f hs ds (scan n 0 r))
      → NextOf (Holds S G) k (pair_of S r) ⊎ Bad ok (f ∷ hs ++ ds) 0
  pub bad_stays : (ok ok' : H → Bool) (hs : List H) (i : ℕ) → AllByRecursion (λ (h : H). T (ok' h) → T (ok h)) hs → Bad ok hs i → Bad ok' hs i
  pub passes : (ok : H → Bool) (hs : List H) (i : ℕ) (h : H) → h ≡ slice_index_or hs i h → T (ok h) → Bad ok hs i → Bad ok hs (suc i)
  pub ends : (ok : H → Bool) (hs : List H) → Bad ok hs (length hs) → ⊥

-- With every permit sound, no look of next is stale.
pub record FreshLaws {H : Type 0} (V : Held H) : Type 0 where
  pub key : (deep : ℕ) (key : List ℕ → Bool) (flux : Ref → Bool) (ok : H → Bool) (S : Tree) (G : Ghost) (k : List ℕ) (f : H) (hs : List H)
      → Good deep key flux S G → ((h : H) → T (ok h) → T (flux (V.at h)) → ⊥) → T (key k) → Seen V deep S k (λ (h : H). T (ok h)) (on f hs [] look_key)
      → AllByRecursion (λ (h : H). T (ok h)) (f ∷ hs) → key_sight deep S k (V.at (newest f hs)) (V.depth (newest f hs)) ≢ stale
  pub back : (deep : ℕ) (key : List ℕ → Bool) (flux : Ref → Bool) (ok : H → Bool) (S : Tree) (G : Ghost) (k : List ℕ) (f : H) (hs : List H) (n : ℕ)
      → Good deep key flux S G → ((h : H) → T (ok h) → T (flux (V.at h)) → ⊥) → Seen V deep S k (λ (h : H). T (ok h)) (on f hs [] (look_back n))
      → AllByRecursion (λ (h : H). T (ok h)) (f ∷ hs) → back_sight deep S (taken V k (place f hs (suc n))) (V.at (place f hs n)) (V.depth (place f hs n)) ≢ stale
  pub down : (deep : ℕ) (key : List ℕ → Bool) (flux : Ref → Bool) (ok : H → Bool) (S : Tree) (G : Ghost) (k : List ℕ) (f g : H) (hs ds : List H) (n : ℕ)
      → Good deep key flux S G → ((h : H) → T (ok h) → T (flux (V.at h)) → ⊥) → Seen V deep S k (λ (h : H). T (ok h)) (on f hs (g ∷ ds) (look_down n))
      → AllByRecursion (λ (h : H). T (ok h)) (f ∷ hs) → AllByRecursion (λ (h : H). T (ok h)) (g ∷ ds) → down_sight deep S (V.at (newest g ds)) (V.depth (newest g ds)) ≢ stale
