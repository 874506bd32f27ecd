-- What holds of a seat is left by the calls of others.
use Rattle.std.proofs.Common.{◌≡◌, ℕ, suc, ◌+◌, ◌-◌, Bool, true, false, cond, ◌||◌, eqb, leb, List, [], ◌∷◌, ◌++◌, length, get_or, take, drop, Some, None, Option, sym, refl, ap, ◌∙◌, subst, ap₂, inl, inr, ⊎_elim, arith}
use mathlib.Core.Path.{fun_ext}
use Rattle.model.specs.Bytes.{◌≼◌}
use Rattle.model.specs.Refs.{Ref, leaf, node, root, is, IsNode}
use Rattle.model.specs.Tree.{Tree, child, prefix, fan, cap, Status, Linked}
use Rattle.model.specs.Holds.{Grip, Hold}
use Rattle.model.specs.Operations as op
use Rattle.model.specs.Operations.{Operation, Task, Answer, Course, insert, grow, split, miss, in_place, collapse, Item, Drawn, Mode, Stage, check_n, Seat, closed, idle, busy}
use Rattle.machine.specs.State.{State, Numbers}
use Rattle.machine.specs.Choices.{key_byte, decided, begun}
use Rattle.machine.specs.Items.{byte_above, filling}
use Rattle.invariant.specs.Ghosts.{Ghosts, status_of, ghost, held_by, words_of, SoundAt, Safe, IsLocked}
use Rattle.invariant.specs.Seats.{Placed, LeadsTo, Decides, Above, Stand, at_root, below, Aloft, none_aloft, one_aloft, Reads}
use Rattle.invariant.specs.Courses.{LeafDrawn, NodeDrawn, OneLocked, BothLocked, IsRetired, Joins, Joined, Cut, Acts}
use Rattle.invariant.specs.Nexts.{Saw, Says, Nexts}
use Rattle.invariant.specs.Invariant.{Walks, Aims, SeatOk, Inv}
use Rattle.invariant.specs.Changes.{Same, LockedBy, Unread, Change}
use Rattle.invariant.proofs.Setting.{true_false, safe_not_spare, safe_not_drawn, seat_below, entry_in, entry_reads, entry_locked, no_way, in_last, in_front, in_back}
use Rattle.model_words.specs.Words.{Sound, Every, In}
use Rattle.model_words.specs.Effects.{Run, Rely}
use Rattle.model_slots.specs.Laws.{drawn}
use Rattle.invariant.proofs.Sees.{seen_same}
use Rattle.model.specs.Tree as trees
use Rattle.model.specs.Sights as sight
use Rattle.model.specs.Sights.{seen}
use Rattle.machine.specs.Choices as choices
use Rattle.machine.specs.Items as Items
use Rattle.model_next.specs.Look.{least}
use Rattle.std.specs.List.{AllByRecursion}
use Rattle.model_next.specs.Walk as walk
use Rattle.model_next.specs.Walk.{held, Stays}
use Rattle.model_next.proofs.Same.{stays}
use Rattle.model_next.proofs.Walks as walks
use Rattle.model_words.specs.Words as words
use Rattle.model_words.proofs.Owners as owners
use Rattle.model_words.proofs.Rely as rely

-- a run of fewer is a run of more
run_to : {limit : ℕ} {who who' : ℕ → Type 0} {S T : words.State} → ((k : ℕ) → who k → who' k) → Run limit who S T → Run limit who' S T
run_to f Run.stop = Run.stop
run_to f (Run.more k x T r w a) = Run.more k x T (run_to f r) (f k w) a

-- what is decided reads the node's prefix and children
module _ (S T : Tree) (k : List ℕ) (n : Hold) (p : prefix T n.at ≡ prefix S n.at) (c : child T n.at ≡ child S n.at) where
  adding_same : (v : ℕ) (s : sight.Seen) → choices.adding T n v s ≡ choices.adding S n v s
  unfolding fan
  adding_same v sight.stale = refl
  adding_same v sight.empty = ap (λ (f : ℕ → Option Ref). Some (begun (cond (leb (cap n.at) (trees.count f 256)) (grow v) (insert v)))) c
  adding_same v (sight.missed i) = refl
  adding_same v (sight.other l) = refl
  adding_same v (sight.same_key l w) = refl
  adding_same v (sight.onward y e) = refl

  taking_same : (s : sight.Seen) → choices.taking T k n s ≡ choices.taking S k n s
  unfolding fan
  taking_same sight.stale = refl
  taking_same sight.empty = refl
  taking_same (sight.missed i) = refl
  taking_same (sight.other l) = refl
  taking_same (sight.same_key l v) = ap₂
      (λ (u : List ℕ) (f : ℕ → Option Ref). cond (is n.at root || leb 2 (trees.count f 256 - 1)) (Some (begun (in_place v l)))
      (choices.collapsing v l (choices.second (least (choices.without f (get_or k (n.depth + length u) 0)) 0 256))))
      p c
  taking_same (sight.onward y e) = refl

  pub decided_same : (t : Task) (s : sight.Seen) → decided T k n t s ≡ decided S k n t s
  decided_same op.find s = refl
  decided_same (op.add v) s = adding_same v s
  decided_same op.remove s = taking_same s
  decided_same op.next s = refl

  -- what is filled in reads besides the key of the leaf that is split from
  pub filling_same : (i : ℕ) (d : Course) → ((v l : ℕ) → d ≡ split v l → T.entries l ≡ S.entries l) → filling T k n i d ≡ filling S k n i d
  filling_same i (insert v) r = refl
  filling_same i (split v j) r = ap₂
      (λ (u a : List ℕ). Some (record {
        prefix = Items.common (drop (suc (n.depth + length u)) k) (drop (suc (n.depth + length u)) a);
        child = Items.fork (get_or a (suc (n.depth + length u) + length (Items.common (drop (suc (n.depth + length u)) k) (drop (suc (n.depth + length u)) a))) 0) (leaf j)
            (get_or k (suc (n.depth + length u) + length (Items.common (drop (suc (n.depth + length u)) k) (drop (suc (n.depth + length u)) a))) 0) (leaf i);
      }))
      p (ap (λ (x : trees.Entry). x.key) (r v j refl))
  filling_same i (grow v) r = ap₂
      (λ (u : List ℕ) (f : ℕ → Option Ref). Some (record { prefix = u; child = λ b. cond (eqb b (get_or k (n.depth + length u) 0)) (Some (leaf i)) (f b) })) p c
  filling_same i (miss v m) r =
      ap (λ (u : List ℕ). Some (record { prefix = take m u; child = Items.fork (get_or u m 0) n.at (get_or k (n.depth + m) 0) (leaf i) })) p
  filling_same i (in_place v l) r = refl
  filling_same i (collapse v l x) r = refl

-- the other leaf that is seen is a child of the node
met_other : (S : Tree) (k : List ℕ) (x : Ref) (e l : ℕ) (m : sight.Met) → sight.met_seen S k x e m ≡ sight.other l → (b : ℕ) × (child S x b ≡ Some (leaf l))
met_other S k x e l (sight.differs i) h = no_way cc
met_other S k x e l sight.ends h = no_way cc
met_other S k x e l (sight.goes b) h = (b, go (child S x b) refl h)
  where
    pick : (i : ℕ) (t : Bool) → cond t (sight.same_key i (S.entries i).value) (sight.other i) ≡ sight.other l → i ≡ l
    pick i true q = no_way cc
    pick i false q = cc

    go : (z : Option Ref) → child S x b ≡ z → sight.child_seen S k e z ≡ sight.other l → child S x b ≡ Some (leaf l)
    go None q f = no_way cc
    go (Some (leaf i)) q f = q ∙ ap (λ (u : ℕ). Some (leaf u)) (pick i (sight.alike (S.entries i).key k) f)
    go (Some (node d i)) q f = no_way cc

pub seen_other : (deep : ℕ) (S : Tree) (k : List ℕ) (x : Ref) (d l : ℕ) → seen deep S k x d ≡ sight.other l → (b : ℕ) × (child S x b ≡ Some (leaf l))
seen_other deep S k x d l h = go (leb deep (d + length (prefix S x))) h
  where
    go : (t : Bool) → cond t sight.stale (sight.met_seen S k x (suc (d + length (prefix S x))) (sight.meet (prefix S x) (drop d k))) ≡ sight.other l → (b : ℕ) × (child S x b ≡ Some (leaf l))
    go true q = no_way cc
    go false q = met_other S k x (suc (d + length (prefix S x))) l (sight.meet (prefix S x) (drop d k)) q

-- a split is decided on where the other leaf is seen
pub split_other : (S : Tree) (k : List ℕ) (n : Hold) (t : Task) (s : sight.Seen) (v l : ℕ) → decided S k n t s ≡ Some (begun (split v l)) → s ≡ sight.other l
split_other S k n op.find sight.stale v l h = no_way cc
split_other S k n op.find sight.empty v l h = no_way cc
split_other S k n op.find (sight.missed i) v l h = no_way cc
split_other S k n op.find (sight.other i) v l h = no_way cc
split_other S k n op.find (sight.same_key i w) v l h = no_way cc
split_other S k n op.find (sight.onward y e) v l h = no_way cc
split_other S k n (op.add w) sight.stale v l h = no_way cc
split_other S k n (op.add w) sight.empty v l h = go (leb (cap n.at) (fan S n.at)) h
  where
    go : (t : Bool) → Some (begun (cond t (grow w) (insert w))) ≡ Some (begun (split v l)) → sight.empty ≡ sight.other l
    go true q = no_way cc
    go false q = no_way cc
split_other S k n (op.add w) (sight.missed i) v l h = no_way cc
split_other S k n (op.add w) (sight.other i) v l h = cc
split_other S k n (op.add w) (sight.same_key i u) v l h = no_way cc
split_other S k n (op.add w) (sight.onward y e) v l h = no_way cc
split_other S k n op.remove sight.stale v l h = no_way cc
split_other S k n op.remove sight.empty v l h = no_way cc
split_other S k n op.remove (sight.missed i) v l h = no_way cc
split_other S k n op.remove (sight.other i) v l h = no_way cc
split_other S k n op.remove (sight.same_key i w) v l h = go (is n.at root || leb 2 (fan S n.at - 1)) h
  where
    from : (z : Option Ref) → choices.collapsing w i z ≡ Some (begun (split v l)) → sight.same_key i w ≡ sight.other l
    from None q = no_way cc
    from (Some x) q = no_way cc

    go : (t : Bool) → cond t (Some (begun (in_place w i))) (choices.collapsing w i (choices.left S n.at (key_byte S k n))) ≡ Some (begun (split v l)) → sight.same_key i w ≡ sight.other l
    go true q = no_way cc
    go false q = from (choices.left S n.at (key_byte S k n)) q
split_other S k n op.remove (sight.onward y e) v l h = no_way cc
split_other S k n op.next s v l h = no_way cc

-- who holds something is busy
holder : (σ : State) (s : ℕ) (k : Hold) → In k (held_by (σ.seats s)) → (u : Operation) × (σ.seats s ≡ busy u) × In k u.held
holder σ s k m = go (σ.seats s) refl m
  where
    go : (z : Seat) → σ.seats s ≡ z → In k (held_by z) → (u : Operation) × (σ.seats s ≡ busy u) × In k u.held
    go closed q m = absurd m
    go idle q m = absurd m
    go (busy u) q m = (u, q, m)

-- a child of what may still be read may still be read
pub kid_safe : {N : Numbers} {Key : List ℕ → Type 0} {σ : State} {g : Ghosts} → Inv N Key σ g → (e : ℕ) (x : Ref) (b : ℕ) (y : Ref) → Safe e g x → child σ.tree x b ≡ Some y → Safe e g y
kid_safe v e x b y (inl l) q = inl (v.tree.kid x b y l q).0
kid_safe v e x b y (inr (r, h, m)) q = ⊎_elim (λ l. inl l) (λ t. inr (t.0, t.1, omega (arith, t.2, m))) (v.closed' x r b y h q)

module _ {N : Numbers} {Key : List ℕ → Type 0} {σ τ : State} {g h : Ghosts} {j : ℕ} (v : Inv N Key σ g) (c : Change σ τ g h N j) (i : ℕ) (o : Operation) (e : σ.seats i ≡ busy o) (ne : i ≡ j → ⊥) where
  relies : Rely i (words_of σ) (words_of τ)
  relies = rely.rely_run i (seat_below v i o e) (run_to (λ k p q. ne (sym q ∙ p)) c.words) v.words

  -- sound after it, so sound before
  was_sound : (k : Hold) → In k o.held → SoundAt τ k → SoundAt σ k
  was_sound k m s = relies.sound k (entry_in v i o e k m) s

  -- what another has locked is safe, and its word is locked
  others_lock : (x : Ref) → LockedBy σ τ g h j x → (u : ℕ) × Safe u g x × ((σ.words x).locked ≡ true)
  others_lock x (k, m, a, l) =
      let q = holder σ j k m in
      (q.0.begun, subst (λ (y : Ref). Safe q.0.begun g y) a (entry_reads v j q.0 q.1 k q.2).1, subst (λ (y : Ref). (σ.words y).locked ≡ true) a (entry_locked v j q.0 q.1 k q.2 l))

  -- what a seat holds soundly is locked by no other
  apart : (k : Hold) → In k o.held → SoundAt σ k → LockedBy σ τ g h j k.at → ⊥
  apart k m s (b, n, a, l) = go k.grip refl s
    where
      go : (r : Grip) → k.grip ≡ r → Sound (σ.words k.at) r → ⊥
      go (Grip.Permit x w) q s = true_false (σ.words k.at).locked (others_lock k.at (b, n, a, l)).2 s.1
      go Grip.Locked q s =
          let t = holder σ j b n in
          ne (sym (owners.owner_one (words_of σ) v.words j i b k (seat_below v j t.0 t.1) (seat_below v i o e) n (entry_in v i o e k m) a l q))

  -- what nobody reads is not safe
  unread_not : (x : Ref) → Safe o.begun g x → Unread σ τ g h x → ⊥
  unread_not x (inl l) (r, m, n) = let q : status_of (g.mark x) ≡ Status.retired r = ap status_of m in no_way cc
  unread_not x (inr (t, l, k)) (r, m, n) = let q : status_of (g.mark x) ≡ Status.retired r = ap status_of m in let z : t ≡ r = cc in n i o e (omega (arith, k, z))

  -- a node held soundly stays as it is
  keeps : (k : Hold) → In k o.held → SoundAt τ k → Same σ τ g h k.at
  keeps k m s =
      let r = entry_reads v i o e k m in ⊎_elim
      (λ a. a)
      (⊎_elim (λ a. absurd (apart k m (was_sound k m s) a)) (⊎_elim (λ q. safe_not_spare o.begun g k.at r.1 q) (⊎_elim (λ q. safe_not_drawn o.begun g k.at j r.1 q) (λ q. absurd (unread_not k.at r.1 q)))))
      (c.nodes k.at r.0)

  -- a leaf that may still be read stays as it is
  leaf_keeps : (l : ℕ) → Safe o.begun g (leaf l) → τ.tree.entries l ≡ σ.tree.entries l
  leaf_keeps l s = ⊎_elim (λ a. a) (λ q. safe_not_spare o.begun g (leaf l) s q) (c.leaves l)

  kid_keeps : (k : Hold) → In k o.held → (b l : ℕ) → child σ.tree k.at b ≡ Some (leaf l) → τ.tree.entries l ≡ σ.tree.entries l
  kid_keeps k m b l q = leaf_keeps l (kid_safe v o.begun k.at b (leaf l) (entry_reads v i o e k m).1 q)

  -- what is drawn for the seat stays as it is
  drawn_keeps : (y : Ref) → IsNode y → g.mark y ≡ drawn i → Same σ τ g h y
  drawn_keeps y n d = ⊎_elim
      (λ a. a)
      (⊎_elim
      (λ a. let r = others_lock y a in safe_not_drawn r.0 g y i r.1 d)
      (⊎_elim (λ q. no_way cc) (⊎_elim (λ q. let z : i ≡ j = cc in absurd (ne z)) (λ q. let z = q.1 in no_way cc))))
      (c.nodes y n)

  drawn_leaf_keeps : (l : ℕ) → g.mark (leaf l) ≡ drawn i → τ.tree.entries l ≡ σ.tree.entries l
  drawn_leaf_keeps l d = ⊎_elim (λ a. a) (λ q. no_way cc) (c.leaves l)

  kids : (x : Ref) → Same σ τ g h x → child τ.tree x ≡ child σ.tree x
  kids x s = fun_ext s.child_same

  seen_keeps : (k : Hold) → In k o.held → SoundAt τ k → seen N.deep τ.tree o.key k.at k.depth ≡ seen N.deep σ.tree o.key k.at k.depth
  seen_keeps k m s = let a = keeps k m s in seen_same N.deep σ.tree τ.tree o.key k.at k.depth a.prefix_same (kids k.at a) (kid_keeps k m)

  linked_keeps : (x : Ref) → Same σ τ g h x → Linked (ghost g) x → Linked (ghost h) x
  linked_keeps x s l = ap status_of s.mark_same ∙ l

  placed_keeps : (k : Hold) → In k o.held → Placed N σ g o k → Placed N τ h o k
  placed_keeps k m p s =
      let a = keeps k m s in
      let q = p (was_sound k m s) in
      (linked_keeps k.at a q.0, subst (λ (u : List ℕ). u ≼ o.key) (sym a.path_same) q.1, ap length a.path_same ∙ q.2)

  leads_keeps : (k : Hold) (y : Ref) (d : ℕ) → In k o.held → LeadsTo N σ g o k y d → LeadsTo N τ h o k y d
  leads_keeps k y d m p s = seen_keeps k m s ∙ p (was_sound k m s)

  decides_keeps : (k : Hold) (a : Stage) → In k o.held → Decides N σ g o k a → Decides N τ h o k a
  decides_keeps k a m p s =
      let b = keeps k m s in
      ap (λ (w : sight.Seen). decided τ.tree o.key k o.task w) (seen_keeps k m s)
      ∙ decided_same σ.tree τ.tree o.key k b.prefix_same (kids k.at b) o.task (seen N.deep σ.tree o.key k.at k.depth)
      ∙ p (was_sound k m s)

  reads_keeps : (x : Ref) → Reads N σ g o x → Reads N τ h o x
  reads_keeps x (n, s) = (n, c.safe i o e x s)

  above_keeps : (p : Hold) (y : Ref) (d : ℕ) → In p o.held → Above N σ g o p y d → Above N τ h o p y d
  above_keeps p y d m a = record {
    placed = placed_keeps p m a.placed;
    leads = leads_keeps p y d m a.leads;
    deeper = a.deeper;
    within = a.within;
    inner = a.inner;
  }

  -- the entries are held
  abbrev Has : List Hold → Type 0
  Has hs = (k : Hold) → In k hs → In k o.held

  stand_keeps : (hs : List Hold) (n : Hold) → Has (hs ++ n ∷ []) → Stand N σ g o hs n → Stand N τ h o hs n
  stand_keeps _ _ m (at_root n a d p) = at_root n a d (placed_keeps n (m n (inl refl)) p)
  stand_keeps _ _ m (below p n a q) = below p n (above_keeps p n.at n.depth (m p (inl refl)) a) (placed_keeps n (m n (inr (inl refl))) q)

  -- a lock's node stays as it is
  lock_keeps : (k : Hold) → In k o.held → IsLocked k → Same σ τ g h k.at
  lock_keeps k m l = keeps k m (subst (λ (r : Grip). Sound (τ.words k.at) r) (sym l) tt)

  lock_linked : (k : Hold) → In k o.held → IsLocked k → Linked (ghost g) k.at → Linked (ghost h) k.at
  lock_linked k m l = linked_keeps k.at (lock_keeps k m l)

  lock_retired : (k : Hold) → In k o.held → IsLocked k → IsRetired N Key σ g i o k.at → IsRetired N Key τ h i o k.at
  lock_retired k m l (r, q) = (r, ap status_of (lock_keeps k m l).mark_same ∙ q)

  leaf_drawn_keeps : (l w : ℕ) → LeafDrawn N Key σ g i o l w → LeafDrawn N Key τ h i o l w
  leaf_drawn_keeps l w d =
      let q = drawn_leaf_keeps l d.drawn' in record {
        drawn' = c.drawn' (leaf l) i ne d.drawn';
        key = ap (λ (x : trees.Entry). x.key) q ∙ d.key;
        value = ap (λ (x : trees.Entry). x.value) q ∙ d.value;
      }

  -- the leaf that a locked node is split at
  split_keeps : (n : Hold) → In n o.held → IsLocked n → (d : Course) → Decides N σ g o n (begun d) → (w l : ℕ) → d ≡ split w l → τ.tree.entries l ≡ σ.tree.entries l
  split_keeps n m k d de w l q =
      let s : SoundAt σ n = subst (λ (r : Grip). Sound (σ.words n.at) r) (sym k) tt in
      let r = split_other σ.tree o.key n o.task (seen N.deep σ.tree o.key n.at n.depth) w l (de s ∙ ap (λ (x : Course). Some (begun x)) q) in
      let t = seen_other N.deep σ.tree o.key n.at n.depth l r in kid_keeps n m t.0 l t.1

  node_drawn_keeps : (d : Course) (n : Hold) (l : ℕ) (y : Ref) → In n o.held → IsLocked n → Decides N σ g o n (begun d) → NodeDrawn N Key σ g i o d n l y → NodeDrawn N Key τ h i o d n l y
  node_drawn_keeps d n l y m k de r =
      let a = lock_keeps n m k in
      let b = drawn_keeps y r.inner r.drawn' in record {
        inner = r.inner;
        drawn' = c.drawn' y i ne r.drawn';
        content = r.content;
        filled = filling_same σ.tree τ.tree o.key n a.prefix_same (kids n.at a) l d (split_keeps n m k d de) ∙ r.filled;
        prefix_is = b.prefix_same ∙ r.prefix_is;
        child_is = λ x. b.child_same x ∙ r.child_is x;
      }

  one_keeps : (d : Course) (hs : List Hold) (n : Hold) → Has (hs ++ n ∷ []) → OneLocked N Key σ g i o d hs n → OneLocked N Key τ h i o d hs n
  one_keeps d hs n m r = record {
    stand = stand_keeps hs n m r.stand;
    permits = r.permits;
    locked = r.locked;
    decides = decides_keeps n (begun d) (m n (in_last hs n)) r.decides;
  }

  both_keeps : (d : Course) (p n : Hold) (ms : List Hold) → Has (p ∷ n ∷ ms) → BothLocked N Key σ g i o d p n → BothLocked N Key τ h i o d p n
  both_keeps d p n ms m r = record {
    stand = stand_keeps (p ∷ []) n (λ k. elim [ inl q ↦ m k (inl q) | inr (inl q) ↦ m k (inr (inl q)) | inr (inr q) ↦ absurd q ]) r.stand;
    above = r.above;
    locked = r.locked;
    decides = decides_keeps n (begun d) (m n (inr (inl refl))) r.decides;
  }

  joins_keeps : (w l : ℕ) (p n m : Hold) → Has (p ∷ n ∷ m ∷ []) → Joins N Key σ g i o w l p n m → Joins N Key τ h i o w l p n m
  joins_keeps w l p n m a r = record {
    both = both_keeps (collapse w l m.at) p n (m ∷ []) a r.both;
    locked = r.locked;
    inner = r.inner;
    linked = lock_linked m (a m (inr (inr (inl refl)))) r.locked r.linked;
  }

  joined_keeps : (w l : ℕ) (p n m : Hold) → Has (p ∷ n ∷ m ∷ []) → Joined N Key σ g i o w l p n m → Joined N Key τ h i o w l p n m
  joined_keeps w l p n m a r =
      let b = lock_keeps p (a p (inl refl)) r.above in
      let d = lock_keeps n (a n (inr (inl refl))) r.locked in
      let f = lock_keeps m (a m (inr (inr (inl refl)))) r.below in
      let t = r.ready in
      let q = kid_keeps n (a n (inr (inl refl))) r.own l t.first in record {
        above = r.above;
        locked = r.locked;
        below = r.below;
        inner = r.inner;
        placed = placed_keeps n (a n (inr (inl refl))) r.placed;
        own = r.own;
        other = r.other;
        ready = record {
          at = t.at;
          here = linked_keeps p.at b t.here;
          byte = t.byte;
          there = b.child_same (byte_above o.key n) ∙ t.there;
          apart = t.apart;
          first = d.child_same r.own ∙ t.first;
          second = d.child_same r.other ∙ t.second;
          rest = λ x y z. d.child_same x ∙ t.rest x y z;
          joined = λ y. ap₂ (λ (u w : List ℕ). u ++ w) d.path_same f.prefix_same ∙ t.joined y ∙ sym f.full_same;
        };
        key = ap (λ (x : trees.Entry). x.key) q ∙ r.key;
        value = ap (λ (x : trees.Entry). x.value) q ∙ r.value;
        task = r.task;
      }

  drawn_status : (y : Ref) → g.mark y ≡ drawn i → (ghost h).st y ≡ Status.drawn
  drawn_status y d = ap status_of (c.drawn' y i ne d)

  cut_keeps : (w l : ℕ) (p n : Hold) (y : Ref) → Has (p ∷ n ∷ []) → Cut N Key σ g i o w l p n y → Cut N Key τ h i o w l p n y
  cut_keeps w l p n y a r =
      let b = lock_keeps p (a p (inl refl)) r.above in
      let d = lock_keeps n (a n (inr (inl refl))) r.locked in
      let t = r.ready in
      let f = drawn_keeps y t.fork.node' r.node_drawn in
      let q = drawn_leaf_keeps l r.leaf_drawn in record {
        above = r.above;
        locked = r.locked;
        placed = placed_keeps n (a n (inr (inl refl))) r.placed;
        node_drawn = c.drawn' y i ne r.node_drawn;
        leaf_drawn = c.drawn' (leaf l) i ne r.leaf_drawn;
        own = r.own;
        other = r.other;
        ready = record {
          at = t.at;
          here = linked_keeps p.at b t.here;
          byte = t.byte;
          there = b.child_same (byte_above o.key n) ∙ t.there;
          old = t.old;
          cut = ap₂ (λ (u : List ℕ) (x : List ℕ × List ℕ). u ++ x.0 ++ (r.other ∷ []) ++ x.1) d.path_same (ap₂ (λ (x z : List ℕ). (x, z)) f.prefix_same d.prefix_same) ∙ t.cut ∙ sym d.full_same;
          fork = record {
            node' = t.fork.node';
            drawn' = drawn_status y r.node_drawn;
            c_byte = t.fork.c_byte;
            d_byte = t.fork.d_byte;
            apart = t.fork.apart;
            first = f.child_same r.own ∙ t.fork.first;
            second = f.child_same r.other ∙ t.fork.second;
            rest = λ x y z. f.child_same x ∙ t.fork.rest x y z;
          };
          way = subst (λ (u : List ℕ). u ≼ o.key) (ap₂ (λ (u x : List ℕ). u ++ x ++ (r.own ∷ [])) (sym d.path_same) (sym f.prefix_same)) t.way;
          fresh = record {
            drawn' = drawn_status (leaf l) r.leaf_drawn;
            key = ap (λ (x : trees.Entry). x.key) q ∙ t.fresh.key;
            value = ap (λ (x : trees.Entry). x.value) q ∙ t.fresh.value;
            accepted = t.fresh.accepted;
          };
        };
        task = r.task;
      }

  acts_keep : (d : Course) (is : List Item) (x : Option Drawn) (hs : List Hold) → Has hs → Acts N Key σ g i o d is x hs → Acts N Key τ h i o d is x hs
  acts_keep _ _ _ _ m (Acts.to_lock d hs n so st pe de) = Acts.to_lock d hs n so (stand_keeps hs n m st) pe (decides_keeps n (begun d) (m n (in_last hs n)) de)
  acts_keep _ _ _ _ m (Acts.to_draw d w hs n so ad ol) = Acts.to_draw d w hs n so ad (one_keeps d hs n m ol)
  acts_keep _ _ _ _ m (Acts.to_insert w l hs n ol ld) = Acts.to_insert w l hs n (one_keeps (insert w) hs n m ol) (leaf_drawn_keeps l w ld)
  acts_keep _ _ _ _ m (Acts.to_split w q l y hs n ol ld nd) =
      Acts.to_split w q l y hs n (one_keeps (split w q) hs n m ol) (leaf_drawn_keeps l w ld) (node_drawn_keeps (split w q) n l y (m n (in_last hs n)) ol.locked ol.decides nd)
  acts_keep _ _ _ _ m (Acts.to_remove w l hs n ol) = Acts.to_remove w l hs n (one_keeps (in_place w l) hs n m ol)
  acts_keep _ _ _ _ m (Acts.to_unlock d hs n so pe lo li) = Acts.to_unlock d hs n so pe lo (lock_linked n (m n (in_last hs n)) lo li)
  acts_keep _ _ _ _ m (Acts.to_lock_p d p n pa st pe de) = Acts.to_lock_p d p n pa (stand_keeps (p ∷ []) n m st) pe (decides_keeps n (begun d) (m n (inr (inl refl))) de)
  acts_keep _ _ _ _ m (Acts.to_lock_n d is p n pa it st lo pe de) = Acts.to_lock_n d is p n pa it (stand_keeps (p ∷ []) n m st) lo pe (decides_keeps n (begun d) (m n (inr (inl refl))) de)
  acts_keep _ _ _ _ m (Acts.to_draw_both d w is p n pa it ad bl) = Acts.to_draw_both d w is p n pa it ad (both_keeps d p n [] m bl)
  acts_keep _ _ _ _ m (Acts.to_grow w l y p n bl ld nd) =
      Acts.to_grow w l y p n (both_keeps (grow w) p n [] m bl) (leaf_drawn_keeps l w ld) (node_drawn_keeps (grow w) n l y (m n (inr (inl refl))) bl.locked bl.decides nd)
  acts_keep _ _ _ _ m (Acts.to_cut w q l y p n bl ld nd) =
      Acts.to_cut w q l y p n (both_keeps (miss w q) p n [] m bl) (leaf_drawn_keeps l w ld) (node_drawn_keeps (miss w q) n l y (m n (inr (inl refl))) bl.locked bl.decides nd)
  acts_keep _ _ _ _ m (Acts.to_miss w q l y p n cu) = Acts.to_miss w q l y p n (cut_keeps w l p n y m cu)
  acts_keep _ _ _ _ m (Acts.to_collapse w l q p n bl) = Acts.to_collapse w l q p n (both_keeps (collapse w l (leaf q)) p n [] m bl)
  acts_keep _ _ _ _ m (Acts.to_lock_m w l k q p n bl) = Acts.to_lock_m w l k q p n (both_keeps (collapse w l (node k q)) p n [] m bl)
  acts_keep _ _ _ _ m (Acts.to_join w l p n k jo) = Acts.to_join w l p n k (joins_keeps w l p n k m jo)
  acts_keep _ _ _ _ m (Acts.to_collapse_m w l p n k jo) = Acts.to_collapse_m w l p n k (joined_keeps w l p n k m jo)
  acts_keep _ _ _ _ m (Acts.to_unlock_m d p n k pa lp ln lk ip re ik) = Acts.to_unlock_m d p n k pa lp ln lk
      (lock_linked p (m p (inl refl)) lp ip) (lock_retired n (m n (inr (inl refl))) ln re) (lock_linked k (m k (inr (inr (inl refl)))) lk ik)
  acts_keep _ _ _ _ m (Acts.to_unlock_gone d p n pa lp ln ip re) = Acts.to_unlock_gone d p n pa lp ln (lock_linked p (m p (inl refl)) lp ip) (lock_retired n (m n (inr (inl refl))) ln re)
  acts_keep _ _ _ _ m (Acts.to_unlock_n w q p n lp ln ip ik) = Acts.to_unlock_n w q p n lp ln (lock_linked p (m p (inl refl)) lp ip) (lock_linked n (m n (inr (inl refl))) ln ik)
  acts_keep _ _ _ _ m (Acts.to_unlock_p d p pa lp ip) = Acts.to_unlock_p d p pa lp (lock_linked p (m p (inl refl)) lp ip)

  aloft_keeps : (hs : List Hold) (p : Hold) → Has hs → Aloft N σ g o p hs → Aloft N τ h o p hs
  aloft_keeps _ p m none_aloft = none_aloft
  aloft_keeps _ p m (one_aloft q pl l) = one_aloft q (placed_keeps q (m q (inl refl)) pl) l

  walks_keep : (hs : List Hold) (k : Stage) → Has hs → Walks N Key σ g i o hs k → Walks N Key τ h i o hs k
  walks_keep _ _ m Walks.starts = Walks.starts
  walks_keep _ _ m (Walks.to_take hs p y d q pe ab) = Walks.to_take hs p y d (aloft_keeps hs p (λ k l. m k (in_front k hs (p ∷ []) l)) q) pe (above_keeps p y d (m p (in_last hs p)) ab)
  walks_keep _ _ m (Walks.to_check_p hs p n q pe ab) = Walks.to_check_p hs p n (aloft_keeps hs p (λ k l. m k (in_front k hs (p ∷ n ∷ []) l)) q) pe (above_keeps p n.at n.depth (m p (in_back p hs (p ∷ n ∷ []) (inl refl))) ab)
  walks_keep _ _ m (Walks.to_look hs n st pe) = Walks.to_look hs n (stand_keeps hs n m st) pe
  walks_keep _ _ m (Walks.to_check_n hs n a st pe de) = Walks.to_check_n hs n a (stand_keeps hs n m st) pe (decides_keeps n (check_n a) (m n (in_last hs n)) de)
  walks_keep hs _ m (Walks.acts d is x a) = Walks.acts d is x (acts_keep d is x hs m a)

  -- next
  stays_there : (k : Hold) → In k o.held → Stays held N.deep o.key σ.tree τ.tree (SoundAt σ) (SoundAt τ) k
  stays_there k m = stays held N.deep o.key σ.tree τ.tree (SoundAt σ) (SoundAt τ) k (was_sound k m)
      (λ s. let a = keeps k m s in (a.prefix_same, kids k.at a, λ b l q. ap (λ (x : trees.Entry). x.key) (kid_keeps k m b l q)))

  all_stay : (hs : List Hold) → Has hs → AllByRecursion (Stays held N.deep o.key σ.tree τ.tree (SoundAt σ) (SoundAt τ)) hs
  all_stay [] m = tt
  all_stay (k ∷ hs) m = (stays_there k (m k (inl refl)), all_stay hs (λ x q. m x (inr q)))

  saw_keeps : (f : Hold) (hs ds : List Hold) (k : walk.Stage) → Has (f ∷ hs ++ ds) → Saw N σ g o (walk.on f hs ds k) → Saw N τ h o (walk.on f hs ds k)
  saw_keeps f hs ds k m w = walks.stable held N.deep o.key σ.tree τ.tree (SoundAt σ) (SoundAt τ) (walk.on f hs ds k)
      (all_stay (f ∷ hs) (λ x q. m x (in_front x (f ∷ hs) ds q)), all_stay ds (λ x q. m x (in_back x (f ∷ hs) ds q))) w

  saw_key : (f : Hold) (hs : List Hold) (k : walk.Stage) → Has (f ∷ hs) → Saw N σ g o (walk.on f hs [] k) → Saw N τ h o (walk.on f hs [] k)
  saw_key f hs k m w = walks.stable held N.deep o.key σ.tree τ.tree (SoundAt σ) (SoundAt τ) (walk.on f hs [] k) (all_stay (f ∷ hs) m, tt) w

  says_keep : (a : Answer) (r : Option ℕ) → Says N σ g o a r → Says N τ h o a r
  says_keep _ _ Says.says_none = Says.says_none
  says_keep _ _ (Says.says_pair l s) =
      subst (λ (x : trees.Entry). Says N τ h o (op.first_is x.key x.value) (Some l)) (leaf_keeps l s) (Says.says_pair l (c.safe i o e (leaf l) s))

  nexts_keep : (m : Mode) (hs : List Hold) (k : Stage) → Has hs → Nexts N σ g o m hs k → Nexts N τ h o m hs k
  nexts_keep _ _ _ m Nexts.starts = Nexts.starts
  nexts_keep _ _ _ m (Nexts.take_key f hs y d w r q n) = Nexts.take_key f hs y d (saw_key f hs (walk.take_key y d) m w) r q n
  nexts_keep _ _ _ m (Nexts.check_key f k hs w r) = Nexts.check_key f k hs (saw_key f (k ∷ hs) walk.check_key m w) r
  nexts_keep _ _ _ m (Nexts.look_key f hs w r) = Nexts.look_key f hs (saw_key f hs walk.look_key m w) r
  nexts_keep _ _ _ m (Nexts.look_back f hs n w r q) = Nexts.look_back f hs n (saw_key f hs (walk.look_back n) m w) r q
  nexts_keep _ _ _ m (Nexts.take_down f hs ds n y d w r q t u z) = Nexts.take_down f hs ds n y d (saw_keeps f hs ds (walk.take_down n y d) m w) r q t u z
  nexts_keep _ _ _ m (Nexts.check_down f hs k ds n w r q t) = Nexts.check_down f hs k ds n (saw_keeps f hs (k ∷ ds) (walk.check_down n) m w) r q t
  nexts_keep _ _ _ m (Nexts.look_down f hs k ds n w r q t) = Nexts.look_down f hs k ds n (saw_keeps f hs (k ∷ ds) (walk.look_down n) m w) r q t
  nexts_keep _ _ _ m (Nexts.scans b f hs ds n l a r w x y s z) = Nexts.scans b f hs ds n l a r (saw_keeps f hs ds (walk.scan n l r) m w) x y (says_keep a r s) z

  aims_keep : (k : Stage) → Aims N Key σ g o k → Aims N Key τ h o k
  aims_keep _ (Aims.at y d r) = Aims.at y d (reads_keeps y r)
  aims_keep _ (Aims.at_none n) = Aims.at_none n

  every_keeps : (hs : List Hold) → Every (λ k. Reads N σ g o k.at) hs → Every (λ k. Reads N τ h o k.at) hs
  every_keeps [] a = tt
  every_keeps (k ∷ hs) a = (reads_keeps k.at a.0, every_keeps hs a.1)

  seat_keeps : SeatOk N Key τ h i o
  seat_keeps =
      let q = v.seats i o e in record {
        key = q.key;
        begun = omega (arith, q.begun, c.epoch);
        reads = every_keeps o.held q.reads;
        aims = aims_keep o.stage q.aims;
        doing = ⊎_elim
            (λ w. inl (w.0, w.1, walks_keep o.held o.stage (λ k m. m) w.2))
            (λ w. inr (w.0, nexts_keep o.mode o.held o.stage (λ k m. m) w.1))
            q.doing;
      }

pub stable : {N : Numbers} {Key : List ℕ → Type 0} {σ τ : State} {g h : Ghosts} {j : ℕ}
    → Inv N Key σ g → Change σ τ g h N j → (i : ℕ) (o : Operation) → σ.seats i ≡ busy o → (i ≡ j → ⊥) → SeatOk N Key τ h i o
stable v c i o e ne = seat_keeps v c i o e ne
