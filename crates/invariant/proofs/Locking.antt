-- Locks and unlocks of a course keep their seat.
use Rattle.std.proofs.Common.{◌≡◌, ℕ, suc, ◌+◌, ◌-◌, Bool, true, false, cond, ◌||◌, eqb, leb, List, [], ◌∷◌, ◌++◌, length, Some, None, Option, sym, refl, ap, ◌∙◌, subst, inl, inr, ⊎_elim, arith}
use Rattle.latches.specs.declared.word.Meaning.{Meaning}
use Rattle.model.specs.Bytes.{◌≼◌}
use Rattle.model.specs.Refs.{Ref, leaf, node, root, is}
use Rattle.model.specs.Tree.{Tree, child, prefix, fan, cap, Linked}
use Rattle.model.specs.Holds.{Grip, Hold}
use Rattle.model.specs.Operations as op
use Rattle.model.specs.Operations.{Operation, Task, Answer, Course, insert, grow, split, miss, in_place, collapse, items, Item, lock_p, lock_n, lock_m, draw, write_n, write_m, write_p, unlock_m, unlock_n, unlock_n_gone, unlock_p, Drawn, Mode, by_key, back, down, Stage, check_p, look, check_n, act, scan, Seat, closed, idle, busy, Outcome, go, again, answers}
use Rattle.machine.specs.State.{State, Numbers, Still}
use Rattle.machine.specs.Choices.{key_byte, without, second, left, collapsing as collapsing', decided, begun}
use Rattle.model_next.specs.Look.{least}
use Rattle.model_next.proofs.Views.{least_some}
use Rattle.machine.specs.Items.{lock_by, locked, Plain, Does}
use Rattle.machine.specs.Steps.{is_next, Follows, Row}
use Rattle.invariant.specs.Ghosts.{Ghosts, ghost, words_of, SoundAt, Permits}
use Rattle.invariant.specs.Seats.{Placed, Decides, Above, Stand, at_root, below, Reads}
use Rattle.invariant.specs.Courses.{Solo, inserting, splitting, removing, Pair, growing, missing, collapsing, OneLocked, BothLocked, Acts}
use Rattle.invariant.specs.Invariant.{Walks, Aims, SeatOk, Inv}
use Rattle.invariant.proofs.Setting.{Step, lock_by_lem, entry_in, no_way, next_acts, snoc_one, in_front, sound_locked}
use Rattle.model_words.specs.Words.{Every, In}
use Rattle.invariant.proofs.WalkRows.{Back, Carries, carry_reads, carry_placed, carry_leads, carry_decides, carry_above, carry_stand}
use Rattle.invariant.proofs.RowWords.{row_words}
use Rattle.latches.specs.Rules.{take_refusal}
use Rattle.model_words.proofs.Rely as rely
use Rattle.model.specs.Sights.{Seen, stale, empty, missed, other, same_key, onward}

-- a lock or an unlock
pub data Locks : Item → Type 0 where
  locks_p : Locks lock_p
  locks_n : Locks lock_n
  locks_m : Locks lock_m
  unlocks_m : Locks unlock_m
  unlocks_n : Locks unlock_n
  unlocks_gone : Locks unlock_n_gone
  unlocks_p : Locks unlock_p

data Unlocks : Item → Type 0 where
  ends_m : Unlocks unlock_m
  ends_n : Unlocks unlock_n
  ends_gone : Unlocks unlock_n_gone
  ends_p : Unlocks unlock_p

-- what an item did, by its name
module _ {N : Numbers} {σ τ : State} {o : Operation} where
  did_lock_p : {c : Course} {a : Item} {d d' : Option Drawn} {f : Ref → Meaning} {hs : List Hold} → Does N σ τ o c a d f hs d' → a ≡ lock_p → (p : Hold) × (n : Hold) × (o.held ≡ p ∷ n ∷ []) × (lock_by p.grip (σ.words p.at) ≡ None) × (hs ≡ locked p ∷ n ∷ []) × (d' ≡ d)
  did_lock_p (Does.locks_p p n h l q) e = (p, n, h, l, refl, refl)
  did_lock_p (Does.locks_n ks n h l q) e = no_way cc
  did_lock_p (Does.locks_m ks n h t l q) e = no_way cc
  did_lock_p (Does.draws_leaf ks n v i ls h a b k r t y w) e = no_way cc
  did_lock_p (Does.draws_both ks n v i j kind filled ls ns h a b k r t y w x z q m) e = no_way cc
  did_lock_p (Does.inserts v i ks n h w) e = no_way cc
  did_lock_p (Does.splits ks n h w) e = no_way cc
  did_lock_p (Does.grows v i p n h w) e = no_way cc
  did_lock_p (Does.cuts ks n h w a b) e = no_way cc
  did_lock_p (Does.misses p n h w) e = no_way cc
  did_lock_p (Does.removes ks n h w) e = no_way cc
  did_lock_p (Does.joins v l b p n m h k w x y) e = no_way cc
  did_lock_p (Does.collapses x p n ms h w) e = no_way cc
  did_lock_p (Does.unlocks ks x p h q) e = absurd (subst Plain e p)
  did_lock_p (Does.unlocks_gone ks x h q) e = no_way cc

  did_lock_n : {c : Course} {a : Item} {d d' : Option Drawn} {f : Ref → Meaning} {hs : List Hold} → Does N σ τ o c a d f hs d' → a ≡ lock_n → (ks : List Hold) × (n : Hold) × (o.held ≡ ks ++ n ∷ []) × (lock_by n.grip (σ.words n.at) ≡ None) × (hs ≡ ks ++ locked n ∷ []) × (d' ≡ d)
  did_lock_n (Does.locks_p p n h l q) e = no_way cc
  did_lock_n (Does.locks_n ks n h l q) e = (ks, n, h, l, refl, refl)
  did_lock_n (Does.locks_m ks n h t l q) e = no_way cc
  did_lock_n (Does.draws_leaf ks n v i ls h a b k r t y w) e = no_way cc
  did_lock_n (Does.draws_both ks n v i j kind filled ls ns h a b k r t y w x z q m) e = no_way cc
  did_lock_n (Does.inserts v i ks n h w) e = no_way cc
  did_lock_n (Does.splits ks n h w) e = no_way cc
  did_lock_n (Does.grows v i p n h w) e = no_way cc
  did_lock_n (Does.cuts ks n h w a b) e = no_way cc
  did_lock_n (Does.misses p n h w) e = no_way cc
  did_lock_n (Does.removes ks n h w) e = no_way cc
  did_lock_n (Does.joins v l b p n m h k w x y) e = no_way cc
  did_lock_n (Does.collapses x p n ms h w) e = no_way cc
  did_lock_n (Does.unlocks ks x p h q) e = absurd (subst Plain e p)
  did_lock_n (Does.unlocks_gone ks x h q) e = no_way cc

  did_lock_m : {c : Course} {a : Item} {d d' : Option Drawn} {f : Ref → Meaning} {hs : List Hold} → Does N σ τ o c a d f hs d' → a ≡ lock_m → (v : ℕ) × (l : ℕ) × (m : Ref) × (x : ℕ) × (c ≡ collapse v l m) × (take_refusal N.limit (σ.words m) ≡ None) × (hs ≡ o.held ++ record { at = m; depth = x; grip = Grip.Locked } ∷ []) × (d' ≡ d)
  did_lock_m (Does.locks_p p n h l q) e = no_way cc
  did_lock_m (Does.locks_n ks n h l q) e = no_way cc
  did_lock_m (Does.locks_m {v = v} {l = l} {m = m} ks n h t k q) e = (v, l, m, suc (n.depth + length (prefix σ.tree n.at)), refl, t, refl, refl)
  did_lock_m (Does.draws_leaf ks n v i ls h a b k r t y w) e = no_way cc
  did_lock_m (Does.draws_both ks n v i j kind filled ls ns h a b k r t y w x z q m) e = no_way cc
  did_lock_m (Does.inserts v i ks n h w) e = no_way cc
  did_lock_m (Does.splits ks n h w) e = no_way cc
  did_lock_m (Does.grows v i p n h w) e = no_way cc
  did_lock_m (Does.cuts ks n h w a b) e = no_way cc
  did_lock_m (Does.misses p n h w) e = no_way cc
  did_lock_m (Does.removes ks n h w) e = no_way cc
  did_lock_m (Does.joins v l b p n m h k w x y) e = no_way cc
  did_lock_m (Does.collapses x p n ms h w) e = no_way cc
  did_lock_m (Does.unlocks ks x p h q) e = absurd (subst Plain e p)
  did_lock_m (Does.unlocks_gone ks x h q) e = no_way cc

  -- an unlock ends the newest entry
  did_unlock : {c : Course} {a : Item} {d d' : Option Drawn} {f : Ref → Meaning} {hs : List Hold} → Does N σ τ o c a d f hs d' → Unlocks a → (x : Hold) × (o.held ≡ hs ++ x ∷ []) × (d' ≡ d)
  did_unlock (Does.locks_p p n h l q) u = elim u [ ]
  did_unlock (Does.locks_n ks n h l q) u = elim u [ ]
  did_unlock (Does.locks_m ks n h t l q) u = elim u [ ]
  did_unlock (Does.draws_leaf ks n v i ls h a b k r t y w) u = elim u [ ]
  did_unlock (Does.draws_both ks n v i j kind filled ls ns h a b k r t y w x z q m) u = elim u [ ]
  did_unlock (Does.inserts v i ks n h w) u = elim u [ ]
  did_unlock (Does.splits ks n h w) u = elim u [ ]
  did_unlock (Does.grows v i p n h w) u = elim u [ ]
  did_unlock (Does.cuts ks n h w a b) u = elim u [ ]
  did_unlock (Does.misses p n h w) u = elim u [ ]
  did_unlock (Does.removes ks n h w) u = elim u [ ]
  did_unlock (Does.joins v l b p n m h k w x y) u = elim u [ ]
  did_unlock (Does.collapses x p n ms h w) u = elim u [ ]
  did_unlock (Does.unlocks ks x p h q) u = (x, h, refl)
  did_unlock (Does.unlocks_gone ks x h q) u = (x, h, refl)

-- the child that is left stands in the node
pub left_child : (S : Tree) (x : Ref) (b : ℕ) (y : Ref) → left S x b ≡ Some y → (d : ℕ) × (child S x d ≡ Some y)
left_child S x b y e = go (least (without (child S x) b) 0 256) refl e
  where
    kept : (d : ℕ) (t : Bool) → cond t None (child S x d) ≡ Some y → child S x d ≡ Some y
    kept d true q = no_way cc
    kept d false q = q

    go : (z : Option (ℕ × Ref)) → least (without (child S x) b) 0 256 ≡ z → second z ≡ Some y → (d : ℕ) × (child S x d ≡ Some y)
    go None f q = no_way cc
    go (Some (d, w)) f q = (d, kept d (eqb d b) ((least_some (without (child S x) b) 0 256 d w f).0 ∙ q))

-- a collapse was decided on with the child that is left
pub collapse_left : (S : Tree) (k : List ℕ) (n : Hold) (t : Task) (r : Seen) (v l : ℕ) (x : Ref) → decided S k n t r ≡ Some (begun (collapse v l x)) → left S n.at (key_byte S k n) ≡ Some x
collapse_left S k n op.find stale v l x e = no_way cc
collapse_left S k n op.find empty v l x e = no_way cc
collapse_left S k n op.find (missed i) v l x e = no_way cc
collapse_left S k n op.find (other i) v l x e = no_way cc
collapse_left S k n op.find (same_key i w) v l x e = no_way cc
collapse_left S k n op.find (onward y d) v l x e = no_way cc
collapse_left S k n (op.add w) stale v l x e = no_way cc
collapse_left S k n (op.add w) empty v l x e = go (leb (cap n.at) (fan S n.at)) e
  where
    go : (t : Bool) → Some (begun (cond t (grow w) (insert w))) ≡ Some (begun (collapse v l x)) → left S n.at (key_byte S k n) ≡ Some x
    go true q = no_way cc
    go false q = no_way cc
collapse_left S k n (op.add w) (missed i) v l x e = no_way cc
collapse_left S k n (op.add w) (other i) v l x e = no_way cc
collapse_left S k n (op.add w) (same_key i z) v l x e = no_way cc
collapse_left S k n (op.add w) (onward y d) v l x e = no_way cc
collapse_left S k n op.remove stale v l x e = no_way cc
collapse_left S k n op.remove empty v l x e = no_way cc
collapse_left S k n op.remove (missed i) v l x e = no_way cc
collapse_left S k n op.remove (other i) v l x e = no_way cc
collapse_left S k n op.remove (same_key i w) v l x e = go (is n.at root || leb 2 (fan S n.at - 1)) e
  where
    from : (z : Option Ref) → collapsing' w i z ≡ Some (begun (collapse v l x)) → z ≡ Some x
    from None q = no_way cc
    from (Some y) q = cc

    go : (t : Bool) → cond t (Some (begun (in_place w i))) (collapsing' w i (left S n.at (key_byte S k n))) ≡ Some (begun (collapse v l x)) → left S n.at (key_byte S k n) ≡ Some x
    go true q = no_way cc
    go false q = from (left S n.at (key_byte S k n)) q
collapse_left S k n op.remove (onward y d) v l x e = no_way cc
collapse_left S k n op.next r v l x e = no_way cc

permits_front : (hs : List Hold) (n : Hold) → Permits (hs ++ n ∷ []) → Permits hs
permits_front [] n p = tt
permits_front (h ∷ hs) n p = (p.0, permits_front hs n p.1)

no_draw : {P : Type 0} → Locks draw → P
no_draw l = elim l [ ]

no_write_n : {P : Type 0} → Locks write_n → P
no_write_n l = elim l [ ]

no_write_m : {P : Type 0} → Locks write_m → P
no_write_m l = elim l [ ]

no_write_p : {P : Type 0} → Locks write_p → P
no_write_p l = elim l [ ]

-- the second item of a course that locks p
pub pair_items : (c : Course) → Pair c → (rest : List Item) × (items c ≡ lock_p ∷ lock_n ∷ rest)
pair_items _ (growing v) = (_, refl)
pair_items _ (missing v i) = (_, refl)
pair_items _ (collapsing v l (leaf j)) = (_, refl)
pair_items _ (collapsing v l (node k j)) = (_, refl)

-- where a walk stands below p
pub stood : {N : Numbers} {σ : State} {g : Ghosts} {o : Operation} (hs : List Hold) (p n : Hold) → Stand N σ g o hs n → hs ≡ p ∷ [] → Above N σ g o p n.at n.depth × Placed N σ g o n
stood _ p n (at_root m a d q) e = no_way cc
stood {N} {σ} {g} {o} _ p _ (below q n a b) e = (subst (λ (h : Hold). Above N σ g o h n.at n.depth) (cc) a, b)

module _ (N : Numbers) (g : Ghosts) {σ τ : State} {o u : Operation} (c : Carries σ τ o u) where
  -- what is known of a hold that was sound is known of its lock
  placed_locked : (n : Hold) → SoundAt σ n → Placed N σ g o n → Placed N τ g u (locked n)
  placed_locked n k p _ = let q = p k in (q.0, subst (λ (y : List ℕ). g.path n.at ≼ y) (sym c.key) q.1, q.2)

  decides_locked : (n : Hold) (k : Stage) → SoundAt σ n → Decides N σ g o n k → Decides N τ g u (locked n) k
  decides_locked n k q d _ = carry_decides N g c (locked n) k (λ _. tt) (λ _. d q) tt

  above_locked : (p : Hold) (y : Ref) (d : ℕ) → SoundAt σ p → Above N σ g o p y d → Above N τ g u (locked p) y d
  above_locked p y d k a = record {
    placed = placed_locked p k a.placed;
    leads = λ _. carry_leads N g c (locked p) y d (λ _. tt) (λ _. a.leads k) tt;
    deeper = a.deeper;
    within = a.within;
    inner = a.inner;
  }

  stand_locked : (hs : List Hold) (n : Hold) → ((h : Hold) → In h hs → Back σ τ h) → SoundAt σ n → Stand N σ g o hs n → Stand N τ g u hs (locked n)
  stand_locked _ _ f k (at_root n e d p) = at_root (locked n) e d (placed_locked n k p)
  stand_locked _ _ f k (below p n a q) = below p (locked n) (carry_above N g c p n.at n.depth (f p (inl refl)) a) (placed_locked n k q)

module _ {N : Numbers} {Key : List ℕ → Type 0} {σ τ : State} {g : Ghosts} (s : ℕ) {o u : Operation} (top : Inv N Key σ g) (c : Carries σ τ o u) (b : (h : Hold) → In h o.held → Back σ τ h)
    (re : Every (λ h. Reads N σ g o h.at) o.held) where
  abbrev Next : Course → List Item → Option Drawn → List Hold → Type 0
  Next k is d hs = Acts N Key τ g s u k is d hs × Every (λ h. Reads N τ g u h.at) hs

  read : (x : Ref) → Reads N σ g o x → Reads N τ g u x
  read x r = carry_reads N g c x r

  reads_two : (p n : Hold) → p ∷ n ∷ [] ≡ o.held → Reads N τ g u p.at × Reads N τ g u n.at
  reads_two p n e = let q = subst (Every (λ h. Reads N σ g o h.at)) (sym e) re in (read p.at q.0, read n.at q.1.0)

  -- the entry at the end, locked
  reads_end : (hs : List Hold) (n : Hold) → Every (λ h. Reads N σ g o h.at) (hs ++ n ∷ []) → Every (λ h. Reads N τ g u h.at) (hs ++ locked n ∷ [])
  reads_end [] n q = (read n.at q.0, tt)
  reads_end (h ∷ hs) n q = (read h.at q.0, reads_end hs n q.1)

  both_too : (k : Course) (p n : Hold) → p ∷ n ∷ [] ≡ o.held → BothLocked N Key σ g s o k p n → BothLocked N Key τ g s u k p n
  both_too k p n e l = record {
    stand = carry_stand N g c (p ∷ []) n (b p (subst (In p) e (inl refl)), (b n (subst (In n) e (inr (inl refl))), tt)) l.stand;
    above = l.above;
    locked = l.locked;
    decides = carry_decides N g c n (begun k) (b n (subst (In n) e (inr (inl refl)))) l.decides;
  }

  -- n alone is locked
  solo_next : (k : Course) (rest : List Item) (hs : List Hold) (n : Hold) → Solo k → items k ≡ lock_n ∷ rest → OneLocked N Key τ g s u k hs n → Acts N Key τ g s u k rest None (hs ++ n ∷ [])
  solo_next _ rest hs n (inserting v) e l = subst (λ (is : List Item). Acts N Key τ g s u (insert v) is None (hs ++ n ∷ [])) (cc) (Acts.to_draw (insert v) v hs n (inserting v) refl l)
  solo_next _ rest hs n (splitting v j) e l = subst (λ (is : List Item). Acts N Key τ g s u (split v j) is None (hs ++ n ∷ [])) (cc) (Acts.to_draw (split v j) v hs n (splitting v j) refl l)
  solo_next _ rest hs n (removing v j) e l = subst (λ (is : List Item). Acts N Key τ g s u (in_place v j) is None (hs ++ n ∷ [])) (cc) (Acts.to_remove v j hs n l)

  -- p and n are locked
  pair_next : (k : Course) (rest : List Item) (p n : Hold) → Pair k → items k ≡ lock_p ∷ lock_n ∷ rest → BothLocked N Key τ g s u k p n → Acts N Key τ g s u k rest None (p ∷ n ∷ [])
  pair_next _ rest p n (growing v) e l = subst (λ (is : List Item). Acts N Key τ g s u (grow v) is None (p ∷ n ∷ [])) (cc) (Acts.to_draw_both (grow v) v _ p n (growing v) refl refl l)
  pair_next _ rest p n (missing v i) e l = subst (λ (is : List Item). Acts N Key τ g s u (miss v i) is None (p ∷ n ∷ [])) (cc) (Acts.to_draw_both (miss v i) v _ p n (missing v i) refl refl l)
  pair_next _ rest p n (collapsing v l (leaf j)) e b = subst (λ (is : List Item). Acts N Key τ g s u (collapse v l (leaf j)) is None (p ∷ n ∷ [])) (cc) (Acts.to_collapse v l j p n b)
  pair_next _ rest p n (collapsing v l (node a j)) e b = subst (λ (is : List Item). Acts N Key τ g s u (collapse v l (node a j)) is None (p ∷ n ∷ [])) (cc) (Acts.to_lock_m v l a j p n b)

  move : (k : Course) (is : List Item) (d d' : Option Drawn) (hs ks : List Hold) → d ≡ d' → hs ≡ ks → Next k is d hs → Next k is d' ks
  move k is d d' hs ks e f x = subst (λ (z : Option Drawn). Next k is z ks) e (subst (λ (l : List Hold). Next k is d l) f x)

  solo_first : (k : Course) → Solo k → (rest : List Item) × (items k ≡ lock_n ∷ rest)
  solo_first _ (inserting v) = (_, refl)
  solo_first _ (splitting v j) = (_, refl)
  solo_first _ (removing v l) = (_, refl)

  locks_next : (k : Course) (is : List Item) (d : Option Drawn) (hs₀ : List Hold) → Acts N Key σ g s o k is d hs₀ → (a a₂ : Item) (rest : List Item) → is ≡ a ∷ a₂ ∷ rest → hs₀ ≡ o.held → Locks a
      → (f : Ref → Meaning) (hs : List Hold) (d' : Option Drawn) → Does N σ τ o k a d f hs d' → Next k (a₂ ∷ rest) d' hs
  locks_next _ _ _ _ (Acts.to_lock k ks n so st pe de) a a₂ rest e h l f hs d' w =
      let q = solo_first k so in
      let an : a ≡ lock_n = cc in
      let x = did_lock_n w an in
      let y = snoc_one ks x.0 n x.1 (h ∙ x.2) in
      let so_n : SoundAt σ n = subst (SoundAt σ) (sym y.1) (lock_by_lem σ x.1 x.3) in
      let back : (j : Hold) → In j ks → Back σ τ j = λ j m. b j (subst (In j) h (in_front j ks (n ∷ []) m)) in
      move k (a₂ ∷ rest) None d' (ks ++ locked n ∷ []) hs (sym x.5) (ap (λ (z : List Hold). z ++ locked n ∷ []) y.0 ∙ ap (λ (z : Hold). x.0 ++ locked z ∷ []) y.1 ∙ sym x.4) (
        solo_next k (a₂ ∷ rest) ks (locked n) so (e ∙ ap (λ (i : Item). i ∷ a₂ ∷ rest) an) (record {
          stand = stand_locked N g c ks n back so_n st;
          permits = permits_front ks n pe;
          locked = refl;
          decides = decides_locked N g c n (begun k) so_n de;
        }),
        reads_end ks n (subst (Every (λ j. Reads N σ g o j.at)) (sym h) re),
      )
  locks_next _ _ _ _ (Acts.to_draw k v ks n so ad ol) a a₂ rest e h l f hs d' w = no_draw (subst Locks (cc) l)
  locks_next _ _ _ _ (Acts.to_insert v i ks n ol ld) a a₂ rest e h l f hs d' w = no_write_n (subst Locks (cc) l)
  locks_next _ _ _ _ (Acts.to_split v j i y ks n ol ld nd) a a₂ rest e h l f hs d' w = no_write_n (subst Locks (cc) l)
  locks_next _ _ _ _ (Acts.to_remove v j ks n ol) a a₂ rest e h l f hs d' w = no_write_n (subst Locks (cc) l)
  locks_next _ _ _ _ (Acts.to_unlock k ks n so pe lo li) a a₂ rest e h l f hs d' w = no_way cc
  locks_next _ _ _ _ (Acts.to_lock_p k p n pa st pe de) a a₂ rest e h l f hs d' w =
      let q = pair_items k pa in
      let ap' : a ≡ lock_p = cc in
      let x = did_lock_p w ap' in
      let held_is' : p ∷ n ∷ [] ≡ x.0 ∷ x.1 ∷ [] = h ∙ x.2 in
      let pp : p ≡ x.0 = cc in
      let nn : n ≡ x.1 = cc in
      let so_p : SoundAt σ p = subst (SoundAt σ) (sym pp) (lock_by_lem σ x.0 x.3) in
      let y = stood (p ∷ []) p n st refl in
      let bn : Back σ τ n = b n (subst (In n) h (inr (inl refl))) in
      let r = reads_two p n h in
      let it : items k ≡ lock_p ∷ a₂ ∷ rest = e ∙ ap (λ (i : Item). i ∷ a₂ ∷ rest) ap' in
      let ln : lock_n ≡ a₂ = cc in
      let it' : items k ≡ lock_p ∷ lock_n ∷ rest = it ∙ ap (λ (i : Item). lock_p ∷ i ∷ rest) (sym ln) in
      move k (a₂ ∷ rest) None d' (locked p ∷ n ∷ []) hs (sym x.5) (ap (λ (z : Hold). locked z ∷ n ∷ []) pp ∙ ap (λ (z : Hold). locked x.0 ∷ z ∷ []) nn ∙ sym x.4) (
        subst (λ (i : Item). Acts N Key τ g s u k (i ∷ rest) None (locked p ∷ n ∷ [])) ln
            (Acts.to_lock_n k rest (locked p) n pa it' (below (locked p) n (above_locked N g c p n.at n.depth so_p y.0) (carry_placed N g c n bn y.1)) refl pe.1.0 (carry_decides N g c n (begun k) bn de)),
        (r.0, (r.1, tt)),
      )
  locks_next _ _ _ _ (Acts.to_lock_n k is p n pa it st lo pe de) a a₂ rest e h l f hs d' w =
      let an : a ≡ lock_n = cc in
      let x = did_lock_n w an in
      let y = snoc_one (p ∷ []) x.0 n x.1 (h ∙ x.2) in
      let so_n : SoundAt σ n = subst (SoundAt σ) (sym y.1) (lock_by_lem σ x.1 x.3) in
      let back : (j : Hold) → In j (p ∷ []) → Back σ τ j = λ j m. b j (subst (In j) h (in_front j (p ∷ []) (n ∷ []) m)) in
      let r = reads_two p n h in
      let ie : is ≡ a₂ ∷ rest = cc in
      move k (a₂ ∷ rest) None d' (p ∷ locked n ∷ []) hs (sym x.5) (ap (λ (z : List Hold). z ++ locked n ∷ []) y.0 ∙ ap (λ (z : Hold). x.0 ++ locked z ∷ []) y.1 ∙ sym x.4) (
        pair_next k (a₂ ∷ rest) p (locked n) pa (it ∙ ap (λ (z : List Item). lock_p ∷ lock_n ∷ z) ie) (record {
          stand = stand_locked N g c (p ∷ []) n back so_n st;
          above = lo;
          locked = refl;
          decides = decides_locked N g c n (begun k) so_n de;
        }),
        (r.0, (r.1, tt)),
      )
  locks_next _ _ _ _ (Acts.to_draw_both k v is p n pa it ad bl) a a₂ rest e h l f hs d' w = no_draw (subst Locks (cc) l)
  locks_next _ _ _ _ (Acts.to_grow v i y p n bl ld nd) a a₂ rest e h l f hs d' w = no_write_p (subst Locks (cc) l)
  locks_next _ _ _ _ (Acts.to_cut v m i y p n bl ld nd) a a₂ rest e h l f hs d' w = no_write_n (subst Locks (cc) l)
  locks_next _ _ _ _ (Acts.to_miss v m i y p n cu) a a₂ rest e h l f hs d' w = no_write_p (subst Locks (cc) l)
  locks_next _ _ _ _ (Acts.to_collapse v j i p n bl) a a₂ rest e h l f hs d' w = no_write_p (subst Locks (cc) l)
  locks_next _ _ _ _ (Acts.to_lock_m v j kd i p n bl) a a₂ rest e h l f hs d' w =
      let am : a ≡ lock_m = cc in
      let x = did_lock_m w am in
      let mm : Hold = record { at = node kd i; depth = x.3; grip = Grip.Locked } in
      let m_is : x.2 ≡ node kd i = let q = x.4 in cc in
      let r = reads_two p n h in
      let sn : SoundAt σ n = sound_locked σ n bl.locked in
      let pl = (stood (p ∷ []) p n bl.stand refl).1 sn in
      let dec = bl.decides sn in
      let lc = left_child σ.tree n.at (key_byte σ.tree o.key n) (node kd i) (collapse_left σ.tree o.key n o.task _ v j (node kd i) dec) in
      let lk : Linked (ghost g) (node kd i) = (top.tree.kid n.at lc.0 (node kd i) pl.0 lc.1).0 in
      move _ (a₂ ∷ rest) None d' (p ∷ n ∷ mm ∷ []) hs (sym x.7) (ap (λ (z : List Hold). z ++ mm ∷ []) h ∙ ap (λ (z : Ref). o.held ++ record { at = z; depth = x.3; grip = Grip.Locked } ∷ []) (sym m_is) ∙ sym x.6) (
        subst (λ (is : List Item). Acts N Key τ g s u (collapse v j (node kd i)) is None (p ∷ n ∷ mm ∷ [])) (cc)
            (Acts.to_join v j p n mm (record { both = both_too (collapse v j (node kd i)) p n h bl; locked = refl; inner = tt; linked = lk })),
        (r.0, (r.1, ((tt, inl lk), tt))),
      )
  locks_next _ _ _ _ (Acts.to_join v j p n m jo) a a₂ rest e h l f hs d' w = no_write_m (subst Locks (cc) l)
  locks_next _ _ _ _ (Acts.to_collapse_m v j p n m jo) a a₂ rest e h l f hs d' w = no_write_p (subst Locks (cc) l)
  locks_next _ _ _ _ (Acts.to_unlock_m k p n m pa lp ln lm ip rt im) a a₂ rest e h l f hs d' w =
      let x = did_unlock w (subst Unlocks (cc) ends_m) in
      let y = snoc_one (p ∷ n ∷ []) hs m x.0 (h ∙ x.1) in
      let q = subst (Every (λ j. Reads N σ g o j.at)) (sym h) re in
      move k (a₂ ∷ rest) None d' (p ∷ n ∷ []) hs (sym x.2) y.0 (
        subst (λ (is : List Item). Acts N Key τ g s u k is None (p ∷ n ∷ [])) (cc) (Acts.to_unlock_gone k p n pa lp ln ip rt),
        (read p.at q.0, (read n.at q.1.0, tt)),
      )
  locks_next _ _ _ _ (Acts.to_unlock_gone k p n pa lp ln ip rt) a a₂ rest e h l f hs d' w =
      let x = did_unlock w (subst Unlocks (cc) ends_gone) in
      let y = snoc_one (p ∷ []) hs n x.0 (h ∙ x.1) in
      let r = reads_two p n h in
      move k (a₂ ∷ rest) None d' (p ∷ []) hs (sym x.2) y.0 (subst (λ (is : List Item). Acts N Key τ g s u k is None (p ∷ [])) (cc) (Acts.to_unlock_p k p pa lp ip), (r.0, tt))
  locks_next _ _ _ _ (Acts.to_unlock_n v m p n lp ln ip im) a a₂ rest e h l f hs d' w =
      let x = did_unlock w (subst Unlocks (cc) ends_n) in
      let y = snoc_one (p ∷ []) hs n x.0 (h ∙ x.1) in
      let r = reads_two p n h in
      move _ (a₂ ∷ rest) None d' (p ∷ []) hs (sym x.2) y.0 (subst (λ (is : List Item). Acts N Key τ g s u (miss v m) is None (p ∷ [])) (cc) (Acts.to_unlock_p (miss v m) p (missing v m) lp ip), (r.0, tt))
  locks_next _ _ _ _ (Acts.to_unlock_p k p pa lp ip) a a₂ rest e h l f hs d' w = no_way cc

-- the course of a seat, from its stage
pub acting : {N : Numbers} {Key : List ℕ → Type 0} {σ : State} {g : Ghosts} {s : ℕ} {o : Operation} → SeatOk N Key σ g s o → (c : Course) (is : List Item) (d : Option Drawn) → o.stage ≡ act c is d
    → (is_next o.task ≡ false) × (o.mode ≡ by_key) × Acts N Key σ g s o c is d o.held
acting {N} {Key} {σ} {g} {s} {o} ok c is d e = ⊎_elim (λ w. (w.0, w.1, go o.held o.stage w.2 e)) (λ w. next_acts o.mode o.held o.stage c is d w.1 e) ok.doing
  where
    go : (hs : List Hold) (k : Stage) → Walks N Key σ g s o hs k → k ≡ act c is d → Acts N Key σ g s o c is d hs
    go _ _ Walks.starts q = no_way cc
    go _ _ (Walks.to_take hs p y x m pe ab) q = no_way cc
    go _ _ (Walks.to_check_p hs p n m pe ab) q = no_way cc
    go _ _ (Walks.to_look hs n a pe) q = no_way cc
    go _ _ (Walks.to_check_n hs n b a pe x) q = no_way cc
    go hs _ (Walks.acts c' is' d' a) q =
        let f : c' ≡ c = cc in
        let h : is' ≡ is = cc in
        let k : d' ≡ d = cc in
        subst (λ (z : Course). Acts N Key σ g s o z is d hs) f (subst (λ (z : List Item). Acts N Key σ g s o c' z d hs) h (subst (λ (z : Option Drawn). Acts N Key σ g s o c' is' z hs) k a))

-- a lock or an unlock keeps its seat
pub lock_ok : {N : Numbers} {Key : List ℕ → Type 0} {σ τ : State} {g : Ghosts} {s : ℕ} {o u : Operation} {r : Outcome} {c : Course} {a : Item} {rest : List Item} {d d' : Option Drawn} {f : Ref → Meaning} {hs : List Hold}
    → Step N Key σ τ g s o (busy u) r → o.stage ≡ act c (a ∷ rest) d → Locks a → Still σ τ → Does N σ τ o c a d f hs d' → Follows o τ c f hs d' rest (busy u) r → SeatOk N Key τ g s u
lock_ok {N} {Key} {σ} {τ} {g} {s} {o} {c = c} {a = a} {d = d} {d' = d'} {f = f} {hs = hs} st e l q w (Follows.more {a = a₂} {rest = rest} k) =
    let ok = st.inv.seats s o st.was in
    let x = acting ok c (a ∷ a₂ ∷ rest) d e in
    let c' : Carries σ τ o (record { task = o.task; key = o.key; begun = o.begun; restarts = o.restarts; mode = o.mode; held = hs; stage = act c (a₂ ∷ rest) d' }) =
    record { tree = q.tree; key = refl; task = refl; begun = refl } in
    let y = locks_next s st.inv c' back ok.reads c (a ∷ a₂ ∷ rest) d o.held x.2 a a₂ rest refl refl l f hs d' w in
    record {
      key = ok.key;
      begun = omega (arith, ok.begun, st.turns.epoch);
      reads = y.1;
      aims = Aims.at_none (λ z m v. no_way cc);
      doing = inl (x.0, x.1, Walks.acts c (a₂ ∷ rest) d' y.0);
    }
  where
    back : (h : Hold) → In h o.held → Back σ τ h
    back h m = rely.lasting (σ.words h.at) (τ.words h.at) h.grip (rely.later_run (row_words st (Row.acts c a (a₂ ∷ rest) d d' f hs e w (Follows.more k))) h.at)
        (rely.held_old (words_of σ) st.inv.words s h st.seat (entry_in st.inv s o st.was h m))
lock_ok st e l q w (Follows.over k) = let z = k.seat in no_way cc
