-- The steps of find, add and remove on their way down, and every restart, keep their seat.
use Rattle.std.proofs.Common.{◌≡◌, ℕ, suc, ◌-◌, ◌≤◌, Bool, true, false, cond, ◌||◌, leb, ◌⊎◌, List, [], ◌∷◌, ◌++◌, length, drop, Some, None, Option, sym, refl, ap, ◌∙◌, subst, inl, inr, ⊎_elim, append_assoc, arith}
use Rattle.std.specs.List.{slice_get}
use Rattle.terms.specs.declared.Cause.{Cause}
use Rattle.model.specs.Bytes.{◌≼◌}
use Rattle.model.specs.Refs.{Ref, root, is, IsNode}
use Rattle.model.specs.Tree.{Tree, child, prefix, fan, cap, Linked, TreeOk}
use Rattle.model.specs.Holds.{Grip, Hold}
use Rattle.model.specs.Operations as op
use Rattle.model.specs.Operations.{Operation, Task, Answer, Course, insert, grow, split, miss, in_place, collapse, items, Item, draw, Drawn, Mode, by_key, Stage, check_p, look, check_n, act, scan, Seat, busy, Outcome}
use Rattle.machine.specs.State.{State, Numbers, Still, Restarts}
use Rattle.machine.specs.Choices as choices
use Rattle.machine.specs.Choices.{key_byte, decided, begun}
use Rattle.machine.specs.Steps.{is_next, kept_p, parent, after_take, Row}
use Rattle.invariant.specs.Ghosts.{Ghosts, ghost, words_of, SoundAt, Safe, IsPermit, Permits, Flux}
use Rattle.invariant.specs.Seats.{Placed, LeadsTo, Decides, Above, Stand, at_root, below, Aloft, none_aloft, one_aloft, Reads}
use Rattle.invariant.specs.Courses.{Solo, inserting, splitting, removing, Pair, growing, missing, collapsing, Acts}
use Rattle.invariant.specs.Nexts.{Nexts}
use Rattle.invariant.specs.Invariant.{Walks, Aims, SeatOk}
use Rattle.invariant.proofs.Setting.{Step, true_false, sound_by, entry_in, entry_reads, sound_steady, no_way, snoc_one, in_last, in_front, in_back, every_snoc, permits_snoc, is_not}
use Rattle.invariant.proofs.Sees.{At, byte_at, sees, leads_onward}
use Rattle.model.specs.Sights.{Seen, stale, empty, missed, other, same_key, onward, seen}
use Rattle.model_words.specs.Words.{Every, In}
use Rattle.model_words.proofs.Rely as rely
use Rattle.model.proofs.Bytes.{snoc_len}
use Rattle.std.proofs.lemmas.Bool.{leb-true}
use Rattle.model_tree.proofs.Ready.{never_full}
use Rattle.model_slots.proofs.Lists.{is_tells, is_self}
use Rattle.invariant.proofs.RowWords.{row_words}
use Rattle.invariant.proofs.Written.{stand_placed}

-- what is held after a step was sound before it
abbrev pub Back : State → State → Hold → Type 0
Back σ τ h = SoundAt τ h → SoundAt σ h

-- the tree is the same, and the operation has its task, key and epoch
pub record Carries (σ τ : State) (o u : Operation) : Type 0 where
  pub tree : τ.tree ≡ σ.tree
  pub key : u.key ≡ o.key
  pub task : u.task ≡ o.task
  pub begun : u.begun ≡ o.begun

pub carried : {σ τ : State} {o : Operation} {m : Mode} {hs : List Hold} {k : Stage} → Still σ τ
    → Carries σ τ o (record { task = o.task; key = o.key; begun = o.begun; restarts = o.restarts; mode = m; held = hs; stage = k })
carried q = record { tree = q.tree; key = refl; task = refl; begun = refl }

-- what is known of a seat goes over
module _ (N : Numbers) (g : Ghosts) {σ τ : State} {o u : Operation} (c : Carries σ τ o u) where
  pub carry_reads : (x : Ref) → Reads N σ g o x → Reads N τ g u x
  carry_reads x (n, m) = (n, subst (λ (e : ℕ). Safe e g x) (sym c.begun) m)

  pub carry_placed : (h : Hold) → Back σ τ h → Placed N σ g o h → Placed N τ g u h
  carry_placed h b p s = let q = p (b s) in (q.0, subst (λ (k : List ℕ). g.path h.at ≼ k) (sym c.key) q.1, q.2)

  seen_too : (h : Hold) → seen N.deep τ.tree u.key h.at h.depth ≡ seen N.deep σ.tree o.key h.at h.depth
  seen_too h = ap (λ (T : Tree). seen N.deep T u.key h.at h.depth) c.tree ∙ ap (λ (k : List ℕ). seen N.deep σ.tree k h.at h.depth) c.key

  pub carry_leads : (p : Hold) (y : Ref) (d : ℕ) → Back σ τ p → LeadsTo N σ g o p y d → LeadsTo N τ g u p y d
  carry_leads p y d b l s = seen_too p ∙ l (b s)

  decided_too : (n : Hold) (r : Seen) → decided τ.tree u.key n u.task r ≡ decided σ.tree o.key n o.task r
  decided_too n r = ap (λ (T : Tree). decided T u.key n u.task r) c.tree ∙ ap (λ (k : List ℕ). decided σ.tree k n u.task r) c.key ∙ ap (λ (t : Task). decided σ.tree o.key n t r) c.task

  pub carry_decides : (n : Hold) (k : Stage) → Back σ τ n → Decides N σ g o n k → Decides N τ g u n k
  carry_decides n k b d s = ap (decided τ.tree u.key n u.task) (seen_too n) ∙ decided_too n (seen N.deep σ.tree o.key n.at n.depth) ∙ d (b s)

  pub carry_above : (p : Hold) (y : Ref) (d : ℕ) → Back σ τ p → Above N σ g o p y d → Above N τ g u p y d
  carry_above p y d b a = record { placed = carry_placed p b a.placed; leads = carry_leads p y d b a.leads; deeper = a.deeper; within = a.within; inner = a.inner }

  pub carry_aloft : (p : Hold) (hs : List Hold) → ((h : Hold) → In h hs → Back σ τ h) → Aloft N σ g o p hs → Aloft N τ g u p hs
  carry_aloft p _ b none_aloft = none_aloft
  carry_aloft p _ b (one_aloft q pl l) = one_aloft q (carry_placed q (b q (inl refl)) pl) l

  pub carry_stand : (hs : List Hold) (n : Hold) → Every (Back σ τ) (hs ++ n ∷ []) → Stand N σ g o hs n → Stand N τ g u hs n
  carry_stand _ _ b (at_root n e d p) = at_root n e d (carry_placed n b.0 p)
  carry_stand _ _ b (below p n a q) = below p n (carry_above p n.at n.depth b.0 a) (carry_placed n b.1.0 q)

-- what a step leaves sound was sound before it
pub was_sound : {N : Numbers} {Key : List ℕ → Type 0} {σ τ : State} {g : Ghosts} {s : ℕ} {o : Operation} {z : Seat} {r : Outcome}
    → Step N Key σ τ g s o z r → Row N σ τ o z r → (h : Hold) → In h o.held → Back σ τ h
was_sound {σ = σ} {τ} {g} {s} {o} st w h m = rely.lasting (σ.words h.at) (τ.words h.at) h.grip (rely.later_run (row_words st w) h.at)
    (rely.held_old (words_of σ) st.inv.words s h st.seat (entry_in st.inv s o st.was h m))

-- a restart, of any operation
pub restart_ok : {N : Numbers} {Key : List ℕ → Type 0} {σ τ : State} {g : Ghosts} {s : ℕ} {o : Operation} {z : Seat} {r : Outcome} {c : Cause} {x : Ref} {d : ℕ}
    → Step N Key σ τ g s o z r → Restarts σ τ o c x d z r → (u : Operation) → z ≡ busy u → SeatOk N Key τ g s u
restart_ok {N} {Key} {σ} {τ} {g} {s} {o} {z} st re u e = subst (λ (v : Operation). SeatOk N Key τ g s v) (sym same) (record {
  key = ok.key;
  begun = omega (arith, ok.begun, st.turns.epoch);
  reads = tt;
  aims = Aims.at root 0 (tt, inl st.inv.tree.root_linked);
  doing = ⊎_elim (λ w. inl (w.0, refl, Walks.starts)) (λ w. inr (w.0, Nexts.starts)) ok.doing;
})
  where
    ok : SeatOk N Key σ g s o
    ok = st.inv.seats s o st.was

    fresh : Operation
    fresh = record { task = o.task; key = o.key; begun = o.begun; restarts = suc o.restarts; mode = by_key; held = []; stage = op.take root 0 }

    same : u ≡ fresh
    same = let both : busy u ≡ busy fresh = sym e ∙ re.seat in cc

every_all : (P : Hold → Type 0) (hs : List Hold) → ((h : Hold) → In h hs → P h) → Every P hs
every_all P [] f = tt
every_all P (h ∷ hs) f = (f h (inl refl), every_all P hs (λ k m. f k (inr m)))

every_end : (P : Hold → Type 0) (fs bs : List Hold) → Every P (fs ++ bs) → Every P bs
every_end P [] bs a = a
every_end P (k ∷ fs) bs a = every_end P fs bs a.1

permits_end : (fs bs : List Hold) → Permits (fs ++ bs) → Permits bs
permits_end [] bs a = a
permits_end (k ∷ fs) bs a = permits_end fs bs a.1

-- the last two of a list are p and n
abbrev EndsIn : Hold → Hold → List Hold → Type 0
EndsIn p n l = (drop (length l - 2) l ≡ p ∷ n ∷ []) × (slice_get l (length l - 2) ≡ Some p)

last_two : {N : Numbers} {σ : State} {g : Ghosts} {o : Operation} (fs : List Hold) (p n : Hold) → Aloft N σ g o p fs → EndsIn p n (fs ++ p ∷ n ∷ [])
last_two _ p n none_aloft = (refl, refl)
last_two _ p n (one_aloft q pl l) = (refl, refl)

-- what is to be taken may be read
aimed : {N : Numbers} {Key : List ℕ → Type 0} {σ : State} {g : Ghosts} {o : Operation} (k : Stage) → Aims N Key σ g o k → (x : Ref) (d : ℕ) → k ≡ op.take x d → Reads N σ g o x
aimed {N} {Key} {σ} {g} {o} _ (Aims.at y d r) x e q = subst (λ (z : Ref). Reads N σ g o z) (cc) r
aimed k (Aims.at_none f) x d q = absurd (f x d q)

after_take_lem : (b : Bool) (y : Ref) (d : ℕ) → cond b look check_p ≡ op.take y d → ⊥
after_take_lem true y d e = no_way cc
after_take_lem false y d e = no_way cc

-- what is known at a check of p, and at a look
record CheckP (N : Numbers) (σ : State) (g : Ghosts) (o : Operation) (hs : List Hold) : Type 0 where
  above_p : List Hold
  p : Hold
  n : Hold
  held : hs ≡ above_p ++ p ∷ n ∷ []
  short : Aloft N σ g o p above_p
  permits : Permits (above_p ++ p ∷ n ∷ [])
  above : Above N σ g o p n.at n.depth

record LookAt (N : Numbers) (σ : State) (g : Ghosts) (o : Operation) (hs : List Hold) : Type 0 where
  above_n : List Hold
  n : Hold
  held : hs ≡ above_n ++ n ∷ []
  stand : Stand N σ g o above_n n
  permits : Permits (above_n ++ n ∷ [])

module _ {N : Numbers} {Key : List ℕ → Type 0} {σ : State} {g : Ghosts} {s : ℕ} {o : Operation} where
  at_check_p : (hs : List Hold) (k : Stage) → Walks N Key σ g s o hs k → k ≡ check_p → CheckP N σ g o hs
  at_check_p _ _ Walks.starts e = no_way cc
  at_check_p _ _ (Walks.to_take hs p y d m pe ab) e = no_way cc
  at_check_p _ _ (Walks.to_check_p hs p n m pe ab) e = record { above_p = hs; p = p; n = n; held = refl; short = m; permits = pe; above = ab }
  at_check_p _ _ (Walks.to_look hs n a pe) e = no_way cc
  at_check_p _ _ (Walks.to_check_n hs n b a pe d) e = no_way cc
  at_check_p _ _ (Walks.acts c is d a) e = no_way cc

  at_look : (hs : List Hold) (k : Stage) → Walks N Key σ g s o hs k → k ≡ look → LookAt N σ g o hs
  at_look _ _ Walks.starts e = no_way cc
  at_look _ _ (Walks.to_take hs p y d m pe ab) e = no_way cc
  at_look _ _ (Walks.to_check_p hs p n m pe ab) e = no_way cc
  at_look _ _ (Walks.to_look hs n a pe) e = record { above_n = hs; n = n; held = refl; stand = a; permits = pe }
  at_look _ _ (Walks.to_check_n hs n b a pe d) e = no_way cc
  at_look _ _ (Walks.acts c is d a) e = no_way cc

  never_scans : {P : Type 0} (hs : List Hold) (k : Stage) (i : ℕ) (a : Answer) → Walks N Key σ g s o hs k → k ≡ scan i a → P
  never_scans _ _ i a Walks.starts e = no_way cc
  never_scans _ _ i a (Walks.to_take hs p y d m pe ab) e = no_way cc
  never_scans _ _ i a (Walks.to_check_p hs p n m pe ab) e = no_way cc
  never_scans _ _ i a (Walks.to_look hs n b pe) e = no_way cc
  never_scans _ _ i a (Walks.to_check_n hs n b c pe d) e = no_way cc
  never_scans _ _ i a (Walks.acts c is d b) e = no_way cc

-- why a course that locks p was not decided on at the root: a full node, a miss, or by the decision itself
abbrev Lower : Tree → Hold → Seen → Type 0
Lower S n r = ((r ≡ empty) × (cap n.at ≤ fan S n.at)) ⊎ (((i : ℕ) × (r ≡ missed i)) ⊎ (n.at ≡ root → ⊥))

-- what a look may decide on
abbrev Chosen : Tree → Hold → Seen → Stage → Type 0
Chosen S n r k = ((a : Answer) × (k ≡ check_n a)) ⊎ (((c : Course) × (k ≡ begun c) × Solo c) ⊎ ((c : Course) × (k ≡ begun c) × Pair c × Lower S n r))

add_chosen : (S : Tree) (n : Hold) (v : ℕ) (k : Stage) (b : Bool) → leb (cap n.at) (fan S n.at) ≡ b → ◌≡◌ {A = Option Stage} (Some (begun (cond b (grow v) (insert v)))) (Some k) → Chosen S n empty k
add_chosen S n v k true f e = inr (inr (grow v, cc, growing v, inl (refl, leb-true (cap n.at) (fan S n.at) f)))
add_chosen S n v k false f e = inr (inl (insert v, cc, inserting v))

remove_chosen : (S : Tree) (n : Hold) (l v : ℕ) (r : Seen) (k : Stage) (x : Option Ref) (b c : Bool) → is n.at root ≡ b
    → cond (b || c) (Some (begun (in_place v l))) (choices.collapsing v l x) ≡ Some k → Chosen S n r k
remove_chosen S n l v r k x true c f e = inr (inl (in_place v l, cc, removing v l))
remove_chosen S n l v r k x false true f e = inr (inl (in_place v l, cc, removing v l))
remove_chosen S n l v r k None false false f e = no_way cc
remove_chosen S n l v r k (Some y) false false f e = inr (inr (collapse v l y, cc, collapsing v l y, inr (inr (⊎_elim (λ q. true_false (is n.at root) q.0 f) (λ q. q.1) (is_tells n.at root)))))

chosen : (S : Tree) (key : List ℕ) (n : Hold) (t : Task) (r : Seen) (k : Stage) → decided S key n t r ≡ Some k → Chosen S n r k
chosen S key n op.find stale k e = no_way cc
chosen S key n op.find empty k e = inl (op.absent, cc)
chosen S key n op.find (missed i) k e = inl (op.absent, cc)
chosen S key n op.find (other l) k e = inl (op.absent, cc)
chosen S key n op.find (same_key l v) k e = inl (op.found v, cc)
chosen S key n op.find (onward y d) k e = no_way cc
chosen S key n (op.add v) stale k e = no_way cc
chosen S key n (op.add v) empty k e = add_chosen S n v k (leb (cap n.at) (fan S n.at)) refl e
chosen S key n (op.add v) (missed i) k e = inr (inr (miss v i, cc, missing v i, inr (inl (i, refl))))
chosen S key n (op.add v) (other l) k e = inr (inl (split v l, cc, splitting v l))
chosen S key n (op.add v) (same_key l w) k e = inl (op.present w, cc)
chosen S key n (op.add v) (onward y d) k e = no_way cc
chosen S key n op.remove stale k e = no_way cc
chosen S key n op.remove empty k e = inl (op.absent, cc)
chosen S key n op.remove (missed i) k e = inl (op.absent, cc)
chosen S key n op.remove (other l) k e = inl (op.absent, cc)
chosen S key n op.remove (same_key l v) k e = remove_chosen S n l v (same_key l v) k (choices.left S n.at (key_byte S key n)) (is n.at root) (leb 2 (fan S n.at - 1)) refl e
chosen S key n op.remove (onward y d) k e = no_way cc
chosen S key n op.next r k e = no_way cc

chosen_stage : (S : Tree) (n : Hold) (r : Seen) (k : Stage) → Chosen S n r k → (y : Ref) (d : ℕ) → k ≡ op.take y d → ⊥
chosen_stage S n r k (inl (a, e)) y d f = no_way cc
chosen_stage S n r k (inr (inl (c, e, p))) y d f = no_way cc
chosen_stage S n r k (inr (inr (c, e, p, q))) y d f = no_way cc

-- what a walk that stands somewhere holds besides
stand_short : {N : Numbers} {σ : State} {g : Ghosts} {o : Operation} (hs : List Hold) (n : Hold) → Stand N σ g o hs n → Aloft N σ g o n hs
stand_short _ _ (at_root n e d p) = none_aloft
stand_short _ _ (below p n a q) = one_aloft p a.placed a.deeper

module _ {N : Numbers} {Key : List ℕ → Type 0} {σ τ : State} {g : Ghosts} {s : ℕ} {o u : Operation} {r : Outcome} (st : Step N Key σ τ g s o (busy u) r) (t : is_next o.task ≡ false) where
  was_ok : SeatOk N Key σ g s o
  was_ok = st.inv.seats s o st.was

  walk : (o.mode ≡ by_key) × Walks N Key σ g s o o.held o.stage
  walk = ⊎_elim (λ w. (w.1, w.2)) (λ w. true_false (is_next o.task) (ap is_next w.0) t) was_ok.doing

  seat_ok : Carries σ τ o u → u.mode ≡ by_key → Every (λ h. Reads N τ g u h.at) u.held → Aims N Key τ g u u.stage → Walks N Key τ g s u u.held u.stage → SeatOk N Key τ g s u
  seat_ok c m a b w = record {
    key = subst Key (sym c.key) was_ok.key;
    begun = let e = c.begun in omega (arith, e, was_ok.begun, st.turns.epoch);
    reads = a;
    aims = b;
    doing = inl (ap is_next c.task ∙ t, m, w);
  }

  -- the root is always in place
  at_top : (h : Hold) → h.at ≡ root → h.depth ≡ 0 → Linked (ghost g) h.at × (g.path h.at ≼ u.key) × (length (g.path h.at) ≡ h.depth)
  at_top h a d =
      let top = st.inv.tree in (
        subst (λ (x : Ref). Linked (ghost g) x) (sym a) top.root_linked,
        subst (λ (x : Ref). g.path x ≼ u.key) (sym a) (subst (λ (v : List ℕ). v ≼ u.key) (sym top.root_path) tt),
        ap (λ (x : Ref). length (g.path x)) a ∙ ap length top.root_path ∙ sym d,
      )

  -- after a take
  taken : Carries σ τ o u → (hs : List Hold) (k : Stage) (h : Hold) → ((q : Hold) → In q hs → Back σ τ q) → IsPermit h → Walks N Key σ g s o hs k → k ≡ op.take h.at h.depth
      → Walks N Key τ g s u (hs ++ h ∷ []) (after_take h.at)
  taken c _ _ h b i Walks.starts e =
      let a : h.at ≡ root = cc in
      let d : h.depth ≡ 0 = cc in
      let after : after_take h.at ≡ look = ap after_take a ∙ ap (λ (x : Bool). cond x look check_p) (is_self root) in
      subst (λ (k : Stage). Walks N Key τ g s u (h ∷ []) k) (sym after) (Walks.to_look [] h (at_root h a d (λ _. at_top h a d)) (i, tt))
  taken c _ _ h b i (Walks.to_take hs p y d m pe ab) e =
      let a : y ≡ h.at = cc in
      let f : d ≡ h.depth = cc in
      let ab' : Above N τ g u p h.at h.depth =
      subst (λ (x : Ref). Above N τ g u p x h.depth) a (subst (λ (x : ℕ). Above N τ g u p y x) f (carry_above N g c p y d (b p (in_last hs p)) ab)) in
      let after : after_take h.at ≡ check_p = ap (λ (x : Bool). cond x look check_p) (is_not h.at root ab'.inner) in
      let more : (hs ++ p ∷ []) ++ h ∷ [] ≡ hs ++ p ∷ h ∷ [] = append_assoc hs (p ∷ []) (h ∷ []) in
      subst (λ (k : Stage). Walks N Key τ g s u ((hs ++ p ∷ []) ++ h ∷ []) k) (sym after)
      (subst (λ (l : List Hold). Walks N Key τ g s u l check_p) (sym more) (Walks.to_check_p hs p h (carry_aloft N g c p hs (λ k l. b k (in_front k hs (p ∷ []) l)) m) (subst Permits more (permits_snoc (hs ++ p ∷ []) h pe i)) ab'))
  taken c _ _ h b i (Walks.to_check_p hs p n m pe ab) e = no_way cc
  taken c _ _ h b i (Walks.to_look hs n a pe) e = no_way cc
  taken c _ _ h b i (Walks.to_check_n hs n x a pe d) e = no_way cc
  taken c _ _ h b i (Walks.acts x is d a) e = no_way cc

  -- the node that a sound permit led to is in place
  lower : (p n : Hold) → In p o.held → IsPermit p → SoundAt σ p → Above N σ g o p n.at n.depth
      → Linked (ghost g) n.at × (g.path n.at ≼ o.key) × (length (g.path n.at) ≡ n.depth)
  lower p n m i k ab =
      let q = ab.placed k in
      let inner = (entry_reads st.inv s o st.was p m).0 in
      let a : At σ.tree (ghost g) p.at o.key p.depth = record {
        inner = inner;
        here = q.0;
        steady = ⊎_elim (λ e. e) (λ f. absurd (sound_steady st.inv s o st.was p i k f)) (st.inv.tree.split p.at inner q.0).1;
        way = q.1;
        depth = q.2;
      } in
      let r = sees st.inv.tree p.at o.key p.depth a was_ok.key (onward n.at n.depth) (ab.leads k) in (r.linked', r.way, r.depth)

  -- after a passed check of p
  passed : Carries σ τ o u → ((q : Hold) → In q o.held → Back σ τ q) → (c : CheckP N σ g o o.held) → SoundAt σ c.p → (l : List Hold) → l ≡ c.p ∷ c.n ∷ [] → Walks N Key τ g s u l look
  passed v b c k l same =
      let m : In c.p o.held = subst (λ (l : List Hold). In c.p l) (sym c.held) (in_back c.p c.above_p (c.p ∷ c.n ∷ []) (inl refl)) in
      let m' : In c.n o.held = subst (λ (l : List Hold). In c.n l) (sym c.held) (in_back c.n c.above_p (c.p ∷ c.n ∷ []) (inr (inl refl))) in
      let pe = permits_end c.above_p (c.p ∷ c.n ∷ []) c.permits in
      let q = lower c.p c.n m pe.0 k c.above in
      subst (λ (l : List Hold). Walks N Key τ g s u l look) (sym same) (Walks.to_look (c.p ∷ []) c.n
      (below c.p c.n (carry_above N g v c.p c.n.at c.n.depth (b c.p m) c.above) (carry_placed N g v c.n (b c.n m') (λ _. q)))
      pe)

  -- a child of what may be read may be read, and is not the root
  kid_reads : (x : Ref) (b : ℕ) (y : Ref) → Reads N σ g o x → child σ.tree x b ≡ Some y → IsNode y → Reads N σ g o y × (y ≡ root → ⊥)
  kid_reads x b y (n, inl l) e i =
      let q = st.inv.tree.kid x b y l e in (
        (i, inl q.0),
        λ z. let a : g.path root ≡ g.full x ++ (b ∷ []) = ap g.path (sym z) ∙ q.1 in
            omega (arith, ap length a, ap length st.inv.tree.root_path, snoc_len (g.full x) b),
      )
  kid_reads x b y (n, inr (r, h, m)) e i = (
    (i, ⊎_elim (λ l. inl l) (λ q. inr (q.0, q.1, let a = q.2 in omega (arith, a, m))) (st.inv.closed' x r b y h e)),
    (λ z. st.inv.rootless x r b h (e ∙ ap (λ (v : Ref). Some v) z)),
  )

  -- after a look that leads onward
  led_on : Carries σ τ o u → ((q : Hold) → In q o.held → Back σ τ q) → (l : LookAt N σ g o o.held) → (y : Ref) (d : ℕ)
      → seen N.deep σ.tree o.key l.n.at l.n.depth ≡ onward y d → Reads N σ g o y × Walks N Key τ g s u o.held (op.take y d)
  led_on c b l y d e =
      let h = l.n in
      let w = leads_onward N.deep σ.tree o.key h.at h.depth y d e in
      let m : In h o.held = subst (λ (v : List Hold). In h v) (sym l.held) (in_last l.above_n h) in
      let k = kid_reads h.at (byte_at σ.tree o.key h.at h.depth) y (entry_reads st.inv s o st.was h m) w.there w.inner in (
        k.0,
        subst (λ (v : List Hold). Walks N Key τ g s u v (op.take y d)) (sym l.held)
            (Walks.to_take l.above_n h y d (carry_aloft N g c h l.above_n (λ q i. b q (subst (λ (v : List Hold). In q v) (sym l.held) (in_front q l.above_n (h ∷ []) i))) (stand_short l.above_n h l.stand)) l.permits (carry_above N g c h y d (b h m)
            (record { placed = stand_placed l.above_n h l.stand; leads = λ _. e; deeper = let z = w.deeper in omega (arith, z); within = w.within; inner = k.1 }))),
      )

  -- no course that locks p is decided on at the root
  not_lower : (n : Hold) → n.at ≡ root → n.depth ≡ 0 → Lower σ.tree n (seen N.deep σ.tree o.key n.at n.depth) → ⊥
  not_lower n a d = by
    where
      top : TreeOk N.deep Key (Flux σ) σ.tree (ghost g)
      top = st.inv.tree

      there : At σ.tree (ghost g) root o.key 0
      there = record {
        inner = tt;
        here = top.root_linked;
        steady = ap (λ (v : List ℕ). v ++ prefix σ.tree root) top.root_path ∙ top.root_prefix ∙ sym top.root_full;
        way = subst (λ (v : List ℕ). v ≼ o.key) (sym top.root_path) tt;
        depth = ap length top.root_path;
      }

      same : seen N.deep σ.tree o.key root 0 ≡ seen N.deep σ.tree o.key n.at n.depth
      same = sym (ap (λ (x : Ref). seen N.deep σ.tree o.key x n.depth) a ∙ ap (λ (x : ℕ). seen N.deep σ.tree o.key root x) d)

      by : Lower σ.tree n (seen N.deep σ.tree o.key n.at n.depth) → ⊥
      by (inl (e, f)) =
          let q = (sees top root o.key 0 there was_ok.key empty (same ∙ e)).0 in
          let b = byte_at σ.tree o.key root 0 in
          let full : cap root ≤ fan σ.tree root = subst (λ (x : Ref). cap x ≤ fan σ.tree x) a f in
          omega (arith, full, never_full σ.tree 0 b (st.lawful.keys.bytes o.key (g.full root) b was_ok.key q.way) q.there)
      by (inr (inl (i, e))) =
          let q = sees top root o.key 0 there was_ok.key (missed i) (same ∙ e) in
          omega (arith, q.inside, ap length top.root_prefix)
      by (inr (inr f)) = f a

  -- after a look that decides on a course that locks p
  paired : (hs : List Hold) (n : Hold) (c : Course) → Pair c → Permits (hs ++ n ∷ []) → Decides N τ g u n (begun c) → (n.at ≡ root → n.depth ≡ 0 → ⊥) → Stand N τ g u hs n
      → Walks N Key τ g s u (hs ++ n ∷ []) (begun c)
  paired _ _ c w pe d no_root (at_root n e f p) = absurd (no_root e f)
  paired _ _ c w pe d no_root (below p n a q) = Walks.acts c (items c) None (Acts.to_lock_p c p n w (below p n a q) pe d)

  -- after a look that decides
  decides_on : Carries σ τ o u → ((q : Hold) → In q o.held → Back σ τ q) → (l : LookAt N σ g o o.held) → (k : Stage)
      → decided σ.tree o.key l.n o.task (seen N.deep σ.tree o.key l.n.at l.n.depth) ≡ Some k
      → ((y : Ref) (d : ℕ) → k ≡ op.take y d → ⊥) × Walks N Key τ g s u o.held k
  decides_on v b l k e = (chosen_stage σ.tree n sight k choice, subst (λ (hs : List Hold). Walks N Key τ g s u hs k) (sym l.held) (by choice))
    where
      n : Hold
      n = l.n

      sight : Seen
      sight = seen N.deep σ.tree o.key n.at n.depth

      choice : Chosen σ.tree n sight k
      choice = chosen σ.tree o.key n o.task sight k e

      sound : Every (Back σ τ) (l.above_n ++ n ∷ [])
      sound = subst (λ (hs : List Hold). Every (Back σ τ) hs) l.held (every_all (Back σ τ) o.held b)

      stand : Stand N τ g u l.above_n n
      stand = carry_stand N g v l.above_n n sound l.stand

      decides : (j : Stage) → k ≡ j → Decides N τ g u n j
      decides j f = carry_decides N g v n j (every_end (Back σ τ) l.above_n (n ∷ []) sound).0 (λ _. e ∙ ap (λ (i : Stage). Some i) f)

      at : (j : Stage) → k ≡ j → Walks N Key τ g s u (l.above_n ++ n ∷ []) j → Walks N Key τ g s u (l.above_n ++ n ∷ []) k
      at j f w = subst (λ (i : Stage). Walks N Key τ g s u (l.above_n ++ n ∷ []) i) (sym f) w

      by : Chosen σ.tree n sight k → Walks N Key τ g s u (l.above_n ++ n ∷ []) k
      by (inl (a, f)) = at (check_n a) f (Walks.to_check_n l.above_n n a stand l.permits (decides (check_n a) f))
      by (inr (inl (c, f, p))) = at (begun c) f (Walks.acts c (items c) None (Acts.to_lock c l.above_n n p stand l.permits (decides (begun c) f)))
      by (inr (inr (c, f, p, q))) = at (begun c) f (paired l.above_n n c p l.permits (decides (begun c) f) (λ a d. not_lower n a d q) stand)

-- a step of a walk that is in no course
pub walk_ok : {N : Numbers} {Key : List ℕ → Type 0} {σ τ : State} {g : Ghosts} {s : ℕ} {o u : Operation} {r : Outcome}
    → Step N Key σ τ g s o (busy u) r → is_next o.task ≡ false → ((c : Course) (is : List Item) (d : Option Drawn) → o.stage ≡ act c is d → ⊥) → Row N σ τ o (busy u) r → SeatOk N Key τ g s u
walk_ok {N} {Key} {σ} {τ} {g} {s} {o} st t n (Row.takes x d e f q w) =
    let h : Hold = record { at = x; depth = d; grip = Grip.Permit (σ.words x).count (N.weight o.restarts) } in
    seat_ok st t (carried q) (walk st t).0
    (every_snoc (λ k. Reads N τ g o k.at) o.held h (was_ok st t).reads (aimed o.stage (was_ok st t).aims x d e))
    (Aims.at_none (after_take_lem (is x root)))
    (taken st t (carried q) o.held o.stage h (was_sound st (Row.takes x d e f q w)) ((σ.words x).count, N.weight o.restarts, refl) (walk st t).1 e)
walk_ok {u = u} st t n (Row.takes_not x d c e f q) = restart_ok st q u refl
walk_ok {N} {Key} {σ} {τ} {g} {s} {o} st t n (Row.checks_p p e f c q w) =
    let a = at_check_p o.held o.stage (walk st t).1 e in
    let two = last_two a.above_p a.p a.n a.short in
    let kept : kept_p o.task o.held ≡ a.p ∷ a.n ∷ [] =
    ap (λ (b : Bool). cond b o.held (drop (length o.held - 2) o.held)) t ∙ ap (λ (v : List Hold). drop (length v - 2) v) a.held ∙ two.0 in
    let led : Some p ≡ Some a.p = sym f ∙ ap (λ (m : Mode). parent m o.held) (walk st t).0 ∙ ap (λ (v : List Hold). slice_get v (length v - 2)) a.held ∙ two.1 in
    let same : p ≡ a.p = cc in
    seat_ok st t (carried q) (walk st t).0
    (subst (λ (v : List Hold). Every (λ h. Reads N τ g o h.at) v) (sym kept)
    (every_end (λ h. Reads N τ g o h.at) a.above_p (a.p ∷ a.n ∷ []) (subst (λ (v : List Hold). Every (λ h. Reads N τ g o h.at) v) a.held (was_ok st t).reads)))
    (Aims.at_none (λ y d z. no_way cc))
    (passed st t (carried q) (was_sound st (Row.checks_p p e f c q w)) a (subst (λ (h : Hold). SoundAt σ h) same (sound_by σ p c)) (kept_p o.task o.held) kept)
walk_ok {u = u} st t n (Row.checks_p_not p c e f k q) = restart_ok st q u refl
walk_ok {N} {Key} {σ} {τ} {g} {s} {o} st t n (Row.looks_on hs h y d e f k m q w) =
    let a = at_look o.held o.stage (walk st t).1 e in
    let same = (snoc_one hs a.above_n h a.n (sym k ∙ a.held)).1 in
    let l = led_on st t (carried q) (was_sound st (Row.looks_on hs h y d e f k m q w)) a y d (ap (λ (v : Hold). seen N.deep σ.tree o.key v.at v.depth) (sym same) ∙ m) in
    seat_ok st t (carried q) (walk st t).0 (was_ok st t).reads (Aims.at y d l.0) l.1
walk_ok {N} {Key} {σ} {τ} {g} {s} {o} st t n (Row.looks_decides hs h k e f l m q w) =
    let a = at_look o.held o.stage (walk st t).1 e in
    let same = (snoc_one hs a.above_n h a.n (sym l ∙ a.held)).1 in
    let d = decides_on st t (carried q) (was_sound st (Row.looks_decides hs h k e f l m q w)) a k
    (ap (λ (v : Hold). decided σ.tree o.key v o.task (seen N.deep σ.tree o.key v.at v.depth)) (sym same) ∙ m) in
    seat_ok st t (carried q) (walk st t).0 (was_ok st t).reads (Aims.at_none d.0) d.1
walk_ok {u = u} st t n (Row.looks_stale hs h e f k m q) = restart_ok st q u refl
walk_ok st t n (Row.checks_n a hs h e f c q w) = let z = w.seat in no_way cc
walk_ok {u = u} st t n (Row.checks_n_not a hs h c e f k q) = restart_ok st q u refl
walk_ok {o = o} st t n (Row.picks_on h j keys v e f k m q w) = true_false (is_next o.task) f t
walk_ok {o = o} st t n (Row.picks_stale h j keys e f k q) = true_false (is_next o.task) f t
walk_ok {o = o} st t n (Row.scans i a h e f c l q w) = never_scans o.held o.stage i a (walk st t).1 e
walk_ok st t n (Row.scans_last i a h e f c l q w) = let z = w.seat in no_way cc
walk_ok {u = u} st t n (Row.scans_not i a h c e f k q) = restart_ok st q u refl
walk_ok st t n (Row.acts c a rest d d' f hs e does follows) = absurd (n c (a ∷ rest) d e)
walk_ok st t n (Row.acts_not c a rest d k x y e f q) = absurd (n c (a ∷ rest) d e)
walk_ok st t n (Row.no_room c rest d k e f a b w) = absurd (n c (draw ∷ rest) d e)
