-- Every step keeps the invariant.
use Rattle.std.proofs.Common.{◌≡◌, ℕ, ◌≤◌, Bool, cond, ◌⊎◌, List, [], ◌∷◌, ◌++◌, Some, Option, sym, refl, ap, ◌∙◌, subst, ap₂, inl, inr, ⊎_elim, arith}
use Rattle.terms.specs.declared.Cause.{Cause}
use Rattle.terms.specs.declared.Cause.TheVariants.{Changed}
use Rattle.latches.specs.declared.word.Meaning.{Meaning}
use Rattle.model.specs.Refs.{Ref, leaf, node, root, is}
use Rattle.model.specs.Tree.{Tree}
use Rattle.model.specs.Holds.{Hold}
use Rattle.model.specs.Operations as op
use Rattle.model.specs.Operations.{Operation, Task, Answer, Course, insert, grow, split, miss, in_place, collapse, items, Item, lock_p, lock_n, lock_m, draw, write_n, write_m, write_p, unlock_m, unlock_n, unlock_n_gone, unlock_p, Drawn, Mode, by_key, back, down, Stage, check_p, look, check_n, act, scan, Seat, closed, idle, busy, Outcome, go, again, answers}
use Rattle.machine.specs.State.{State, Numbers, Still, Restarts}
use Rattle.machine.specs.Choices.{decided, begun}
use Rattle.machine.specs.Items.{adds, Does}
use Rattle.machine.specs.Steps.{Refuses, NoRoom, Follows, Row}
use Rattle.machine.specs.Calls.{Turns}
use Rattle.invariant.specs.Ghosts.{Ghosts, FluxOf}
use Rattle.invariant.specs.Courses.{Solo, inserting, splitting, removing, Pair, growing, missing, collapsing, Acts}
use Rattle.invariant.specs.Invariant.{SeatOk}
use Rattle.invariant.specs.Changes.{Leaves, HoldsSame, Puts, Drops}
use Rattle.invariant.proofs.Setting.{Step, no_way, sound_locked}
use Rattle.model.specs.Sights.{Seen}
use Rattle.model.proofs.Bytes.{some_inj}
use Rattle.model_slots.specs.Slots.{Event, write, has, count, bit}
use Rattle.model_slots.specs.Laws.{Mark, linked, spare, drawn, retired, mark, sweeps, is_linked}
use Rattle.model_slots.proofs.Lists.{is_tells}
use Rattle.runs.specs.Happened.{after_item, no_room_events, row_events}
use Rattle.runs.specs.Named.{Names, nothing, itself, first_check, row_names}
use Rattle.invariant.specs.Effects.{Said, Acted}
use Rattle.invariant.proofs.WalkRows.{restart_ok, walk_ok}
use Rattle.invariant.proofs.NextRows.{next_ok}
use Rattle.invariant.proofs.Locking.{Locks, locks_p, locks_n, locks_m, unlocks_m, unlocks_n, unlocks_gone, unlocks_p, acting, lock_ok}
use Rattle.invariant.proofs.Written.{Written, chosen}
use Rattle.invariant.proofs.AddWrites.{insert_ok, split_ok, grow_ok}
use Rattle.invariant.proofs.MoveWrites.{cut_ok, miss_ok, remove_ok, join_ok, collapse_ok}
use Rattle.invariant.proofs.Draws.{head_spare, drawing, draw_leaf_ok, draw_both_ok}
use Rattle.invariant.proofs.Quiet.{quiet_leaves, same_holds}
use Rattle.invariant.proofs.Checks.{check_says}
use Rattle.invariant.proofs.SlotRuns.{Unlinks}

-- what a step does to the map of what is held, by what it names
abbrev pub Effect : State → State → Ghosts → Ghosts → Operation → Names → Type 0
Effect σ τ g h o nothing = HoldsSame σ τ g h
Effect σ τ g h o (itself a) = Acted σ τ g h o.task o.key a
Effect σ τ g h o (first_check a) = HoldsSame σ τ g h

-- what a step leaves
pub record Kept {N : Numbers} {σ τ : State} {o : Operation} {z : Seat} {r : Outcome} (Key : List ℕ → Type 0) (g : Ghosts) (s : ℕ) (w : Row N σ τ o z r) : Type 0 where
  pub after : Ghosts
  pub marks : (all : Ref → Bool) (h : List Event) → ((x : Ref) → g.mark x ≡ mark root all h x) → sweeps h ≡ σ.epoch → (x : Ref) → after.mark x ≡ mark root all (row_events s w ++ h) x
  pub leaves : Leaves N Key σ τ g after s
  pub unlinks : Unlinks g w
  pub effect : Effect σ τ g after o (row_names w)

not_idle : {P : Type 0} (u : Operation) (z : Seat) → z ≡ idle → z ≡ busy u → P
not_idle u z p q = no_way cc

-- the course of an item that is the last
pub last_item : {N : Numbers} {Key : List ℕ → Type 0} {σ : State} {g : Ghosts} {s : ℕ} {o : Operation} (c : Course) (is : List Item) (d : Option Drawn) (hs : List Hold) → Acts N Key σ g s o c is d hs → (a : Item) → is ≡ a ∷ [] → (a ≡ unlock_n) ⊎ (a ≡ unlock_p)
last_item _ _ _ _ (Acts.to_lock c hs n so st pe de) a e = solo c so e
  where
    solo : (c : Course) → Solo c → items c ≡ a ∷ [] → (a ≡ unlock_n) ⊎ (a ≡ unlock_p)
    solo _ (inserting v) f = no_way cc
    solo _ (splitting v j) f = no_way cc
    solo _ (removing v l) f = no_way cc
last_item _ _ _ _ (Acts.to_draw c v hs n so ad ol) a e = no_way cc
last_item _ _ _ _ (Acts.to_insert v i hs n ol ld) a e = no_way cc
last_item _ _ _ _ (Acts.to_split v j i y hs n ol ld nd) a e = no_way cc
last_item _ _ _ _ (Acts.to_remove v l hs n ol) a e = no_way cc
last_item _ _ _ _ (Acts.to_unlock c hs n so pe lo li) a e = inl (cc)
last_item _ _ _ _ (Acts.to_lock_p c p n pa st pe de) a e = pair c pa e
  where
    pair : (c : Course) → Pair c → items c ≡ a ∷ [] → (a ≡ unlock_n) ⊎ (a ≡ unlock_p)
    pair _ (growing v) f = no_way cc
    pair _ (missing v i) f = no_way cc
    pair _ (collapsing v l (leaf j)) f = no_way cc
    pair _ (collapsing v l (node k j)) f = no_way cc
last_item _ _ _ _ (Acts.to_lock_n c rest p n pa it st lo pe de) a e = pair c pa (it ∙ ap (λ (l : List Item). lock_p ∷ l) e)
  where
    pair : (c : Course) → Pair c → items c ≡ lock_p ∷ a ∷ [] → (a ≡ unlock_n) ⊎ (a ≡ unlock_p)
    pair _ (growing v) f = no_way cc
    pair _ (missing v i) f = no_way cc
    pair _ (collapsing v l (leaf j)) f = no_way cc
    pair _ (collapsing v l (node k j)) f = no_way cc
last_item _ _ _ _ (Acts.to_draw_both c v rest p n pa it ad bl) a e = pair c pa (it ∙ ap (λ (l : List Item). lock_p ∷ lock_n ∷ l) e)
  where
    pair : (c : Course) → Pair c → items c ≡ lock_p ∷ lock_n ∷ a ∷ [] → (a ≡ unlock_n) ⊎ (a ≡ unlock_p)
    pair _ (growing v) f = no_way cc
    pair _ (missing v i) f = no_way cc
    pair _ (collapsing v l (leaf j)) f = no_way cc
    pair _ (collapsing v l (node k j)) f = no_way cc
last_item _ _ _ _ (Acts.to_grow v i y p n bl ld nd) a e = no_way cc
last_item _ _ _ _ (Acts.to_cut v m i y p n bl ld nd) a e = no_way cc
last_item _ _ _ _ (Acts.to_miss v m i y p n cu) a e = no_way cc
last_item _ _ _ _ (Acts.to_collapse v l j p n bl) a e = no_way cc
last_item _ _ _ _ (Acts.to_lock_m v l k j p n bl) a e = no_way cc
last_item _ _ _ _ (Acts.to_join v l p n m jo) a e = no_way cc
last_item _ _ _ _ (Acts.to_collapse_m v l p n m jo) a e = no_way cc
last_item _ _ _ _ (Acts.to_unlock_m c p n m pa lp ln lm ip re im) a e = no_way cc
last_item _ _ _ _ (Acts.to_unlock_gone c p n pa lp ln ip re) a e = no_way cc
last_item _ _ _ _ (Acts.to_unlock_n v m p n lp ln ip im) a e = no_way cc
last_item _ _ _ _ (Acts.to_unlock_p c p pa lp ip) a e = inr (cc)

-- a draw is of an add
draw_adds : {N : Numbers} {Key : List ℕ → Type 0} {σ : State} {g : Ghosts} {s : ℕ} {o : Operation} (c : Course) (is : List Item) (d : Option Drawn) (hs : List Hold) → Acts N Key σ g s o c is d hs → (rest : List Item) → is ≡ draw ∷ rest
    → (v : ℕ) × (o.task ≡ op.add v)
draw_adds {N} {Key} {σ} {g} {s} {o} c is d hs a rest e = go c is d hs a e
  where
    task_of : (S : Tree) (n : Hold) (c : Course) (v : ℕ) (r : Seen) → adds c ≡ Some v → decided S o.key n o.task r ≡ Some (begun c) → o.task ≡ op.add v
    task_of S n (insert w) v r f q = (chosen S o.key n (insert w) o.task r q).0 ∙ ap op.add (some_inj w v f)
    task_of S n (grow w) v r f q = (chosen S o.key n (grow w) o.task r q).0 ∙ ap op.add (some_inj w v f)
    task_of S n (split w j) v r f q = (chosen S o.key n (split w j) o.task r q).0 ∙ ap op.add (some_inj w v f)
    task_of S n (miss w i) v r f q = (chosen S o.key n (miss w i) o.task r q).0 ∙ ap op.add (some_inj w v f)
    task_of S n (in_place w l) v r f q = no_way cc
    task_of S n (collapse w l x) v r f q = no_way cc

    solo : (c : Course) → Solo c → items c ≡ draw ∷ rest → (v : ℕ) × (o.task ≡ op.add v)
    solo _ (inserting v) f = no_way cc
    solo _ (splitting v j) f = no_way cc
    solo _ (removing v l) f = no_way cc

    pair : (c : Course) → Pair c → items c ≡ draw ∷ rest → (v : ℕ) × (o.task ≡ op.add v)
    pair _ (growing v) f = no_way cc
    pair _ (missing v i) f = no_way cc
    pair _ (collapsing v l (leaf j)) f = no_way cc
    pair _ (collapsing v l (node k j)) f = no_way cc

    go : (c : Course) (is : List Item) (d : Option Drawn) (hs : List Hold) → Acts N Key σ g s o c is d hs → is ≡ draw ∷ rest → (v : ℕ) × (o.task ≡ op.add v)
    go _ _ _ _ (Acts.to_lock c hs n so st pe de) e = solo c so e
    go _ _ _ _ (Acts.to_draw c v hs n so ad ol) e = (v, task_of σ.tree n c v _ ad (ol.decides (sound_locked σ n ol.locked)))
    go _ _ _ _ (Acts.to_insert v i hs n ol ld) e = no_way cc
    go _ _ _ _ (Acts.to_split v j i y hs n ol ld nd) e = no_way cc
    go _ _ _ _ (Acts.to_remove v l hs n ol) e = no_way cc
    go _ _ _ _ (Acts.to_unlock c hs n so pe lo li) e = no_way cc
    go _ _ _ _ (Acts.to_lock_p c p n pa st pe de) e = pair c pa e
    go _ _ _ _ (Acts.to_lock_n c rest p n pa it st lo pe de) e = no_way cc
    go _ _ _ _ (Acts.to_draw_both c v rest p n pa it ad bl) e = (v, task_of σ.tree n c v _ ad (bl.decides (sound_locked σ n bl.locked)))
    go _ _ _ _ (Acts.to_grow v i y p n bl ld nd) e = no_way cc
    go _ _ _ _ (Acts.to_cut v m i y p n bl ld nd) e = no_way cc
    go _ _ _ _ (Acts.to_miss v m i y p n cu) e = no_way cc
    go _ _ _ _ (Acts.to_collapse v l j p n bl) e = no_way cc
    go _ _ _ _ (Acts.to_lock_m v l k j p n bl) e = no_way cc
    go _ _ _ _ (Acts.to_join v l p n m jo) e = no_way cc
    go _ _ _ _ (Acts.to_collapse_m v l p n m jo) e = no_way cc
    go _ _ _ _ (Acts.to_unlock_m c p n m pa lp ln lm ip re im) e = no_way cc
    go _ _ _ _ (Acts.to_unlock_gone c p n pa lp ln ip re) e = no_way cc
    go _ _ _ _ (Acts.to_unlock_n v m p n lp ln ip im) e = no_way cc
    go _ _ _ _ (Acts.to_unlock_p c p pa lp ip) e = no_way cc

module _ {N : Numbers} {Key : List ℕ → Type 0} {σ τ : State} {g : Ghosts} {s : ℕ} {o : Operation} {z : Seat} {r : Outcome} (st : Step N Key σ τ g s o z r) where
  was_ok : SeatOk N Key σ g s o
  was_ok = st.inv.seats s o st.was

  -- the same step, once the seat is known to be busy
  at_busy : (u : Operation) → z ≡ busy u → Step N Key σ τ g s o (busy u) r
  at_busy u e = record { lawful = st.lawful; inv = st.inv; seat = st.seat; was = st.was; turns = subst (λ (y : Seat). Turns σ τ s y) e st.turns }

  -- a step that is in no course keeps its seat
  seat_kept : Row N σ τ o z r → ((c : Course) (is : List Item) (d : Option Drawn) → o.stage ≡ act c is d → ⊥) → (u : Operation) → z ≡ busy u → SeatOk N Key τ g s u
  seat_kept w n u e =
      let w' : Row N σ τ o (busy u) r = subst (λ (y : Seat). Row N σ τ o y r) e w in
      ⊎_elim (λ k. walk_ok (at_busy u e) k.0 n w') (λ k. next_ok (at_busy u e) k.0 w') was_ok.doing

  no_flux_by : ((c : Course) (is : List Item) (d : Option Drawn) → o.stage ≡ act c is d → ⊥) → (x : Ref) → FluxOf o x → ⊥
  no_flux_by n _ (FluxOf.cut v i rest d p m f q) = n (miss v i) (write_p ∷ rest) d f
  no_flux_by n x (FluxOf.joined v l m rest d k f) = n (collapse v l x) (write_p ∷ rest) d f

  no_flux_at : (c : Course) (a : Item) (rest : List Item) (d : Option Drawn) → o.stage ≡ act c (a ∷ rest) d → (a ≡ write_p → ⊥) → (x : Ref) → FluxOf o x → ⊥
  no_flux_at c a rest d e n _ (FluxOf.cut v i more d' p m f q) = n (cc)
  no_flux_at c a rest d e n x (FluxOf.joined v l m more d' k f) = n (cc)

  -- a step that leaves the tree
  quiet : (w : Row N σ τ o z r) → τ.tree ≡ σ.tree → ((x : Ref) → FluxOf o x → ⊥) → ((u : Operation) → z ≡ busy u → SeatOk N Key τ g s u)
      → ((all : Ref → Bool) (h : List Event) → ((x : Ref) → g.mark x ≡ mark root all h x) → sweeps h ≡ σ.epoch → (x : Ref) → g.mark x ≡ mark root all (row_events s w ++ h) x)
      → Unlinks g w → Effect σ τ g g o (row_names w) → Kept Key g s w
  quiet w e n ok m u f = record { after = g; marks = m; leaves = quiet_leaves st w e n ok; unlinks = u; effect = f }

  -- a restart
  restarted : (w : Row N σ τ o z r) (c : Cause) (x : Ref) (d : ℕ) → Restarts σ τ o c x d z r → ((y : Ref) → FluxOf o y → ⊥)
      → ((all : Ref → Bool) (h : List Event) → ((x : Ref) → g.mark x ≡ mark root all h x) → sweeps h ≡ σ.epoch → (x : Ref) → g.mark x ≡ mark root all (row_events s w ++ h) x)
      → Unlinks g w → (HoldsSame σ τ g g → Effect σ τ g g o (row_names w)) → Kept Key g s w
  restarted w c x d k n m u f = quiet w k.still.tree n (λ v e. restart_ok st k v e) m u (f (same_holds σ τ g k.still.tree))

-- an item that answers changes no mark
item_marks : {o : Operation} {τ : State} {c : Course} {f : Ref → Meaning} {hs : List Hold} {d : Option Drawn} {rest : List Item} {z : Seat} {r : Outcome} (s : ℕ) (k : Follows o τ c f hs d rest z r) (all : Ref → Bool) (h : List Event) (x : Ref)
    → mark root all h x ≡ mark root all ((after_item s k ++ []) ++ h) x
unfolding mark
item_marks s (Follows.more w) all h x = refl
item_marks s (Follows.over e) all h x = refl

module _ {N : Numbers} {Key : List ℕ → Type 0} {σ τ : State} {g : Ghosts} {s : ℕ} {o : Operation} {z : Seat} {r : Outcome} (st : Step N Key σ τ g s o z r) where
  -- a course that is over ends with an unlock
  not_over : {P : Type 0} (c : Course) (a : Item) (d : Option Drawn) → o.stage ≡ act c (a ∷ []) d → (a ≡ unlock_n → ⊥) → (a ≡ unlock_p → ⊥) → P
  not_over c a d e n m = ⊎_elim (λ q. absurd (n q)) (λ q. absurd (m q)) (last_item c (a ∷ []) d o.held (acting (was_ok st) c (a ∷ []) d e).2 a refl)

  -- a lock or an unlock
  locks_keep : (c : Course) (a : Item) (rest : List Item) (d d' : Option Drawn) (f : Ref → Meaning) (hs : List Hold) (e : o.stage ≡ act c (a ∷ rest) d) (w : Does N σ τ o c a d f hs d') (k : Follows o τ c f hs d' rest z r)
      → Locks a → (a ≡ write_p → ⊥) → Still σ τ → ((all : Ref → Bool) (h : List Event) (x : Ref) → mark root all h x ≡ mark root all (row_events s (Row.acts c a rest d d' f hs e w k) ++ h) x)
      → Unlinks g (Row.acts c a rest d d' f hs e w k) → (HoldsSame σ τ g g → Effect σ τ g g o (row_names (Row.acts c a rest d d' f hs e w k))) → Kept Key g s (Row.acts c a rest d d' f hs e w k)
  locks_keep c a rest d d' f hs e w k l n q m u h = quiet st (Row.acts c a rest d d' f hs e w k) q.tree (no_flux_at st c a rest d e n)
      (λ v y. lock_ok (at_busy st v y) e l q w (subst (λ (t : Seat). Follows o τ c f hs d' rest t r) y k))
      (λ all t b _ x. b x ∙ m all t x) u (h (same_holds σ τ g q.tree))

  none_unlinked : (x : Ref) → count x [] ≤ bit (is_linked (g.mark x))
  none_unlinked x = omega arith

-- the marks after a write
write_marks : {N : Numbers} {Key : List ℕ → Type 0} {σ τ : State} {g : Ghosts} {s : ℕ} {new old : List Ref} (w : Written N Key σ τ g s new old) (all : Ref → Bool) (h : List Event)
    → ((x : Ref) → g.mark x ≡ mark root all h x) → sweeps h ≡ σ.epoch → (x : Ref) → w.after.mark x ≡ mark root all (write s new old ∷ h) x
unfolding mark
write_marks {new = new} {old = old} w all h m e x = w.marks x ∙ ap₂ (λ (n : ℕ) (k : Mark). cond (has x old) (retired n) (cond (has x new) linked k)) (sym e) (m x)

puts_effect : {σ τ : State} {g h : Ghosts} (o : Operation) {v : ℕ} → o.task ≡ op.add v → Puts σ τ g h o.key v → Acted σ τ g h o.task o.key op.added
puts_effect {σ} {τ} {g} {h} o {v} e p = subst (λ (t : Task). Acted σ τ g h t o.key op.added) (sym e) (Acted.puts o.key v p)

drops_effect : {σ τ : State} {g h : Ghosts} (o : Operation) {v : ℕ} → o.task ≡ op.remove → Drops σ τ g h o.key v → Acted σ τ g h o.task o.key (op.removed v)
drops_effect {σ} {τ} {g} {h} o {v} e p = subst (λ (t : Task). Acted σ τ g h t o.key (op.removed v)) (sym e) (Acted.drops o.key v p)

-- an item of a course
acts_keep : {N : Numbers} {Key : List ℕ → Type 0} {σ τ : State} {g : Ghosts} {s : ℕ} {o : Operation} {z : Seat} {r : Outcome} (st : Step N Key σ τ g s o z r) (c : Course) (a : Item) (rest : List Item) (d d' : Option Drawn) (f : Ref → Meaning) (hs : List Hold)
    (e : o.stage ≡ act c (a ∷ rest) d) (w : Does N σ τ o c a d f hs d') (k : Follows o τ c f hs d' rest z r) → Kept Key g s (Row.acts c a rest d d' f hs e w k)
unfolding mark
acts_keep {s = s} st c _ rest d d' f hs e (Does.locks_p p n h l q) k = locks_keep st c lock_p rest d d' f hs e (Does.locks_p p n h l q) k locks_p (λ y. no_way cc) q (item_marks s k) (none_unlinked st) (λ y. y)
acts_keep {s = s} st c _ rest d d' f hs e (Does.locks_n ks n h l q) k = locks_keep st c lock_n rest d d' f hs e (Does.locks_n ks n h l q) k locks_n (λ y. no_way cc) q (item_marks s k) (none_unlinked st) (λ y. y)
acts_keep {s = s} st c _ rest d d' f hs e (Does.locks_m ks n h t l q) k = locks_keep st c lock_m rest d d' f hs e (Does.locks_m ks n h t l q) k locks_m (λ y. no_way cc) q (item_marks s k) (none_unlinked st) (λ y. y)
acts_keep {s = s} st c _ rest d d' f hs e (Does.unlocks {a = unlock_m} ks x p h q) k = locks_keep st c unlock_m rest d d' f hs e (Does.unlocks ks x p h q) k unlocks_m (λ y. no_way cc) q (item_marks s k) (none_unlinked st) (λ y. y)
acts_keep {s = s} st c _ rest d d' f hs e (Does.unlocks {a = unlock_n} ks x p h q) k = locks_keep st c unlock_n rest d d' f hs e (Does.unlocks ks x p h q) k unlocks_n (λ y. no_way cc) q (item_marks s k) (none_unlinked st) (λ y. y)
acts_keep {s = s} st c _ rest d d' f hs e (Does.unlocks {a = unlock_p} ks x p h q) k = locks_keep st c unlock_p rest d d' f hs e (Does.unlocks ks x p h q) k unlocks_p (λ y. no_way cc) q (item_marks s k) (none_unlinked st) (λ y. y)
acts_keep st c _ rest d d' f hs e (Does.unlocks {a = lock_p} ks x p h q) k = absurd p
acts_keep st c _ rest d d' f hs e (Does.unlocks {a = lock_n} ks x p h q) k = absurd p
acts_keep st c _ rest d d' f hs e (Does.unlocks {a = lock_m} ks x p h q) k = absurd p
acts_keep st c _ rest d d' f hs e (Does.unlocks {a = draw} ks x p h q) k = absurd p
acts_keep st c _ rest d d' f hs e (Does.unlocks {a = write_n} ks x p h q) k = absurd p
acts_keep st c _ rest d d' f hs e (Does.unlocks {a = write_m} ks x p h q) k = absurd p
acts_keep st c _ rest d d' f hs e (Does.unlocks {a = write_p} ks x p h q) k = absurd p
acts_keep st c _ rest d d' f hs e (Does.unlocks {a = unlock_n_gone} ks x p h q) k = absurd p
acts_keep {s = s} st c _ rest d d' f hs e (Does.unlocks_gone ks x h q) k = locks_keep st c unlock_n_gone rest d d' f hs e (Does.unlocks_gone ks x h q) k unlocks_gone (λ y. no_way cc) q (item_marks s k) (none_unlinked st) (λ y. y)
acts_keep {N = N} {g = g} {s = s} st c _ _ d d' f hs e (Does.draws_leaf ks n v i ls h a q b p t lf co) (Follows.more {a = b₂} {rest = rest} k) =
    let x = draw_leaf_ok st c (b₂ ∷ rest) d ks n v i ls e h a q b lf co (Row.acts c draw (b₂ ∷ rest) d d' f hs e (Does.draws_leaf ks n v i ls h a q b p t lf co) (Follows.more k)) (Follows.more k) in
    record { after = drawing s (leaf i) g; marks = λ all t m _ y. ap (λ (z : Mark). cond (is y (leaf i)) (drawn s) z) (m y); leaves = x.0; unlinks = none_unlinked st; effect = x.1 }
acts_keep st c _ _ d d' f hs e (Does.draws_leaf ks n v i ls h a q b p t lf co) (Follows.over k) = not_over st c draw d e (λ y. no_way cc) (λ y. no_way cc)
acts_keep {g = g} {s = s} st c _ _ d d' f hs e (Does.draws_both ks n v i j kind filled ls ns h a q b l m t u y p lf nf) (Follows.more {a = b₂} {rest = rest} k) =
    let x = draw_both_ok st c (b₂ ∷ rest) d ks n v i j kind filled ls ns e h a q b l m lf nf (Row.acts c draw (b₂ ∷ rest) d d' f hs e (Does.draws_both ks n v i j kind filled ls ns h a q b l m t u y p lf nf) (Follows.more k)) (Follows.more k) in
    record {
      after = drawing s (node kind j) (drawing s (leaf i) g);
      marks = λ all t m _ y. ap (λ (z : Mark). cond (is y (node kind j)) (drawn s) (cond (is y (leaf i)) (drawn s) z)) (m y);
      leaves = x.0;
      unlinks = none_unlinked st;
      effect = x.1;
    }
acts_keep st c _ _ d d' f hs e (Does.draws_both ks n v i j kind filled ls ns h a q b l m t u y p lf nf) (Follows.over k) = not_over st c draw d e (λ y. no_way cc) (λ y. no_way cc)
acts_keep {o = o} st _ _ _ d d' f hs e (Does.inserts v i ks n h w) (Follows.more {a = b₂} {rest = rest} k) =
    let a = acting (was_ok st) (insert v) (write_n ∷ b₂ ∷ rest) d e in
    let x = insert_ok st a.0 v i (b₂ ∷ rest) ks n e h w (Follows.more k) in
    record { after = x.0.after; marks = write_marks x.0; leaves = x.0.leaves; unlinks = none_unlinked st; effect = puts_effect o x.2 x.1 }
acts_keep st _ _ _ d d' f hs e (Does.inserts v i ks n h w) (Follows.over k) = not_over st _ write_n d e (λ y. no_way cc) (λ y. no_way cc)
acts_keep {o = o} st _ _ _ d d' f hs e (Does.splits {v = v} {j = j} {i = i} {y = y} ks n h w) (Follows.more {a = b₂} {rest = rest} k) =
    let a = acting (was_ok st) (split v j) (write_n ∷ b₂ ∷ rest) d e in
    let x = split_ok st a.0 v j i y (b₂ ∷ rest) ks n e h w (Follows.more k) in
    record { after = x.0.after; marks = write_marks x.0; leaves = x.0.leaves; unlinks = none_unlinked st; effect = puts_effect o x.2 x.1 }
acts_keep st _ _ _ d d' f hs e (Does.splits ks n h w) (Follows.over k) = not_over st _ write_n d e (λ y. no_way cc) (λ y. no_way cc)
acts_keep {o = o} st _ _ _ d d' f hs e (Does.grows v i {y = y} p n h w) (Follows.more {a = b₂} {rest = rest} k) =
    let a = acting (was_ok st) (grow v) (write_p ∷ b₂ ∷ rest) d e in
    let x = grow_ok st a.0 v i y (b₂ ∷ rest) p n e h w (Follows.more k) in
    record { after = x.0.after; marks = write_marks x.0; leaves = x.0.leaves; unlinks = x.0.linked_before; effect = puts_effect o x.2 x.1 }
acts_keep st _ _ _ d d' f hs e (Does.grows v i p n h w) (Follows.over k) = not_over st _ write_p d e (λ y. no_way cc) (λ y. no_way cc)
acts_keep {g = g} st _ _ _ d d' f hs e (Does.cuts {v = v} {m = m} ks n h w x y) (Follows.more {a = b₂} {rest = rest} k) =
    let a = acting (was_ok st) (miss v m) (write_n ∷ b₂ ∷ rest) d e in
    let z = cut_ok st a.0 v m d (b₂ ∷ rest) ks n e h w x y (Follows.more k) in
    record { after = g; marks = λ all t b _ u. b u; leaves = z.0; unlinks = none_unlinked st; effect = z.1 }
acts_keep st _ _ _ d d' f hs e (Does.cuts ks n h w x y) (Follows.over k) = not_over st _ write_n d e (λ y. no_way cc) (λ y. no_way cc)
acts_keep {o = o} st _ _ _ d d' f hs e (Does.misses {v = v} {m = m} {i = i} {y = y} p n h w) (Follows.more {a = b₂} {rest = rest} k) =
    let a = acting (was_ok st) (miss v m) (write_p ∷ b₂ ∷ rest) d e in
    let x = miss_ok st a.0 v m i y (b₂ ∷ rest) p n e h w (Follows.more k) in
    record { after = x.0.after; marks = write_marks x.0; leaves = x.0.leaves; unlinks = none_unlinked st; effect = puts_effect o x.2 x.1 }
acts_keep st _ _ _ d d' f hs e (Does.misses p n h w) (Follows.over k) = not_over st _ write_p d e (λ y. no_way cc) (λ y. no_way cc)
acts_keep {o = o} st _ _ _ d d' f hs e (Does.removes {v = v} {l = l} ks n h w) (Follows.more {a = b₂} {rest = rest} k) =
    let a = acting (was_ok st) (in_place v l) (write_n ∷ b₂ ∷ rest) d e in
    let x = remove_ok st a.0 v l (b₂ ∷ rest) ks n e h w (Follows.more k) in
    record { after = x.0.after; marks = write_marks x.0; leaves = x.0.leaves; unlinks = x.0.linked_before; effect = drops_effect o x.2 x.1 }
acts_keep st _ _ _ d d' f hs e (Does.removes ks n h w) (Follows.over k) = not_over st _ write_n d e (λ y. no_way cc) (λ y. no_way cc)
acts_keep {g = g} st _ _ _ d d' f hs e (Does.joins v l b p n m h q w x y) (Follows.more {a = b₂} {rest = rest} k) =
    let a = acting (was_ok st) (collapse v l m.at) (write_m ∷ b₂ ∷ rest) d e in
    let z = join_ok st a.0 v l b (b₂ ∷ rest) p n m e h q w x y (Follows.more k) in
    record { after = g; marks = λ all t b _ u. b u; leaves = z.0; unlinks = none_unlinked st; effect = z.1 }
acts_keep st _ _ _ d d' f hs e (Does.joins v l b p n m h q w x y) (Follows.over k) = not_over st _ write_m d e (λ y. no_way cc) (λ y. no_way cc)
acts_keep {o = o} st _ _ _ d d' f hs e (Does.collapses {v = v} {l = l} x p n ms h w) (Follows.more {a = b₂} {rest = rest} k) =
    let a = acting (was_ok st) (collapse v l x) (write_p ∷ b₂ ∷ rest) d e in
    let y = collapse_ok st a.0 v l x (b₂ ∷ rest) p n ms e h w (Follows.more k) in
    record { after = y.0.after; marks = write_marks y.0; leaves = y.0.leaves; unlinks = y.0.linked_before; effect = drops_effect o y.2 y.1 }
acts_keep st _ _ _ d d' f hs e (Does.collapses x p n ms h w) (Follows.over k) = not_over st _ write_p d e (λ y. no_way cc) (λ y. no_way cc)

-- a refused item is a lock
refused_lock : {N : Numbers} {σ : State} {o : Operation} {c : Course} {a : Item} {e : Cause} {x : Ref} {d : ℕ} → Refuses N σ o c a e x d → a ≡ write_p → ⊥
refused_lock (Refuses.at_p p n h l) q = no_way cc
refused_lock (Refuses.at_n hs n h l) q = no_way cc
refused_lock (Refuses.taking_m hs n h l) q = no_way cc
refused_lock (Refuses.locking_m hs n h t l) q = no_way cc

-- without room no mark changes: a leaf that was drawn is spare again
no_room_marks : {N : Numbers} {Key : List ℕ → Type 0} {σ τ : State} {g : Ghosts} {s : ℕ} {o : Operation} {z : Seat} {r : Outcome} {c : Course} {q : ℕ} → Step N Key σ τ g s o z r → (t : NoRoom σ τ o c q) (all : Ref → Bool) (h : List Event)
    → ((x : Ref) → g.mark x ≡ mark root all h x) → sweeps h ≡ σ.epoch → (x : Ref) → g.mark x ≡ mark root all (no_room_events s t ++ h) x
unfolding mark
no_room_marks st (NoRoom.no_leaf e k) all h m f x = m x
no_room_marks {g = g} {s = s} st (NoRoom.no_node hs n kind i ls e k a b p) all h m f x = ⊎_elim
    (λ y. ap g.mark y.1 ∙ head_spare st.inv (leaf i) 1 ls a ∙ ap (λ (t : Bool). cond t spare (cond t (drawn s) (mark root all h x))) (sym y.0))
    (λ y. m x ∙ ap (λ (t : Bool). cond t spare (cond t (drawn s) (mark root all h x))) (sym y.0))
    (is_tells x (leaf i))

-- every step
pub step_keeps : {N : Numbers} {Key : List ℕ → Type 0} {σ τ : State} {g : Ghosts} {s : ℕ} {o : Operation} {z : Seat} {r : Outcome} → Step N Key σ τ g s o z r → (w : Row N σ τ o z r) → Kept Key g s w
unfolding mark
step_keeps {σ = σ} {τ = τ} {g = g} {o = o} st (Row.takes x d e t q w) =
    let n : (c : Course) (is : List Item) (d : Option Drawn) → o.stage ≡ act c is d → ⊥ = λ c is d f. no_way cc in
    quiet st (Row.takes x d e t q w) q.tree (no_flux_by st n) (seat_kept st (Row.takes x d e t q w) n) (λ all h m k y. m y) tt (same_holds σ τ g q.tree)
step_keeps {o = o} st (Row.takes_not x d c e t k) =
    let n : (c : Course) (is : List Item) (d : Option Drawn) → o.stage ≡ act c is d → ⊥ = λ c is d f. no_way cc in
    restarted st (Row.takes_not x d c e t k) c x d k (no_flux_by st n) (λ all h m k y. m y) tt (λ f. f)
step_keeps {σ = σ} {τ = τ} {g = g} {o = o} st (Row.checks_p p e f c q w) =
    let n : (c : Course) (is : List Item) (d : Option Drawn) → o.stage ≡ act c is d → ⊥ = λ c is d f. no_way cc in
    quiet st (Row.checks_p p e f c q w) q.tree (no_flux_by st n) (seat_kept st (Row.checks_p p e f c q w) n) (λ all h m k y. m y) tt (same_holds σ τ g q.tree)
step_keeps {o = o} st (Row.checks_p_not p c e f t k) =
    let n : (c : Course) (is : List Item) (d : Option Drawn) → o.stage ≡ act c is d → ⊥ = λ c is d f. no_way cc in
    restarted st (Row.checks_p_not p c e f t k) c p.at p.depth k (no_flux_by st n) (λ all h m k y. m y) tt (λ f. f)
step_keeps {σ = σ} {τ = τ} {g = g} {o = o} st (Row.looks_on hs x y d e t h k q w) =
    let n : (c : Course) (is : List Item) (d : Option Drawn) → o.stage ≡ act c is d → ⊥ = λ c is d f. no_way cc in
    quiet st (Row.looks_on hs x y d e t h k q w) q.tree (no_flux_by st n) (seat_kept st (Row.looks_on hs x y d e t h k q w) n) (λ all h m k y. m y) tt (same_holds σ τ g q.tree)
step_keeps {σ = σ} {τ = τ} {g = g} {o = o} st (Row.looks_decides hs x k e t h l q w) =
    let n : (c : Course) (is : List Item) (d : Option Drawn) → o.stage ≡ act c is d → ⊥ = λ c is d f. no_way cc in
    quiet st (Row.looks_decides hs x k e t h l q w) q.tree (no_flux_by st n) (seat_kept st (Row.looks_decides hs x k e t h l q w) n) (λ all h m k y. m y) tt (same_holds σ τ g q.tree)
step_keeps {o = o} st (Row.looks_stale hs x e t h q k) =
    let n : (c : Course) (is : List Item) (d : Option Drawn) → o.stage ≡ act c is d → ⊥ = λ c is d f. no_way cc in
    restarted st (Row.looks_stale hs x e t h q k) Changed x.at x.depth k (no_flux_by st n) (λ all h m k y. m y) tt (λ f. f)
step_keeps {σ = σ} {τ = τ} {g = g} {s = s} {o = o} {z = z} st (Row.checks_n a hs x e h c q k) =
    let n : (c : Course) (is : List Item) (d : Option Drawn) → o.stage ≡ act c is d → ⊥ = λ c is d f. no_way cc in
    quiet st (Row.checks_n a hs x e h c q k) q.tree (no_flux_by st n) (λ u f. not_idle u z k.seat f) (λ all h m k y. m y) tt
    (Acted.says o.task o.key a (check_says st.inv s o st.was a e hs x h c) (same_holds σ τ g q.tree))
step_keeps {o = o} st (Row.checks_n_not a hs x c e h q k) =
    let n : (c : Course) (is : List Item) (d : Option Drawn) → o.stage ≡ act c is d → ⊥ = λ c is d f. no_way cc in
    restarted st (Row.checks_n_not a hs x c e h q k) c x.at x.depth k (no_flux_by st n) (λ all h m k y. m y) tt (λ f. f)
step_keeps {σ = σ} {τ = τ} {g = g} {o = o} st (Row.picks_on x j keys v e t h k q w) =
    let n : (c : Course) (is : List Item) (d : Option Drawn) → o.stage ≡ act c is d → ⊥ = λ c is d f. no_way cc in
    quiet st (Row.picks_on x j keys v e t h k q w) q.tree (no_flux_by st n) (seat_kept st (Row.picks_on x j keys v e t h k q w) n) (λ all h m k y. m y) tt (same_holds σ τ g q.tree)
step_keeps {o = o} st (Row.picks_stale x j keys e t h k) =
    let n : (c : Course) (is : List Item) (d : Option Drawn) → o.stage ≡ act c is d → ⊥ = λ c is d f. no_way cc in
    restarted st (Row.picks_stale x j keys e t h k) Changed x.at x.depth k (no_flux_by st n) (λ all h m k y. m y) tt (λ f. f)
step_keeps {σ = σ} {τ = τ} {g = g} {o = o} st (Row.scans i a x e h c l q w) =
    let n : (c : Course) (is : List Item) (d : Option Drawn) → o.stage ≡ act c is d → ⊥ = λ c is d f. no_way cc in
    quiet st (Row.scans i a x e h c l q w) q.tree (no_flux_by st n) (seat_kept st (Row.scans i a x e h c l q w) n) (λ all h m k y. m y) tt (same_holds σ τ g q.tree)
step_keeps {σ = σ} {τ = τ} {g = g} {o = o} {z = z} st (Row.scans_last i a x e h c l q k) =
    let n : (c : Course) (is : List Item) (d : Option Drawn) → o.stage ≡ act c is d → ⊥ = λ c is d f. no_way cc in
    quiet st (Row.scans_last i a x e h c l q k) q.tree (no_flux_by st n) (λ u f. not_idle u z k.seat f) (λ all h m k y. m y) tt (same_holds σ τ g q.tree)
step_keeps {o = o} st (Row.scans_not i a x c e h t k) =
    let n : (c : Course) (is : List Item) (d : Option Drawn) → o.stage ≡ act c is d → ⊥ = λ c is d f. no_way cc in
    restarted st (Row.scans_not i a x c e h t k) c x.at x.depth k (no_flux_by st n) (λ all h m k y. m y) tt (λ f. f)
step_keeps st (Row.acts c a is d d' f hs e w k) = acts_keep st c a is d d' f hs e w k
step_keeps st (Row.acts_not c a rest d m x y e q k) = restarted st (Row.acts_not c a rest d m x y e q k) m x y k (no_flux_at st c a rest d e (refused_lock q)) (λ all h m k y. m y) tt (λ f. f)
step_keeps {σ = σ} {τ = τ} {g = g} {o = o} {z = z} st (Row.no_room c rest d q e t h k w) =
    let a = acting (was_ok st) c (draw ∷ rest) d e in
    let b = draw_adds c (draw ∷ rest) d o.held a.2 rest refl in
    quiet st (Row.no_room c rest d q e t h k w) h (no_flux_at st c draw rest d e (λ y. no_way cc)) (λ u f. not_idle u z w.seat f) (no_room_marks st t) tt
    (Acted.says o.task o.key (op.no_room q) (subst (λ (v : Task). Said σ g v o.key (op.no_room q)) (sym b.1) (Said.adds_nowhere o.key b.0 q)) (same_holds σ τ g h))
