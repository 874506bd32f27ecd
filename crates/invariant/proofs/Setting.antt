-- What the other proofs share: reading marks, entries of a seat, and nodes in flux.
use Rattle.std.proofs.Common.{◌≡◌, ℕ, ◌<◌, ◌≤◌, Bool, true, false, not, eqb, ltb, List, [], ◌∷◌, ◌++◌, None, Option, sym, refl, ap, ◌∙◌, subst, inl, inr, ⊎_elim, arith}
use native.Mathlib.Decide.{dec_le}
use Rattle.std.proofs.lemmas.Bool.{eqb-true, ltb-false}
use Rattle.terms.specs.Limits.{seat_count}
use Rattle.latches.specs.declared.word.Meaning.{Meaning}
use Rattle.latches.specs.Rules.{smallest}
use Rattle.model.specs.Refs.{Ref, leaf, node, is, IsNode}
use Rattle.model.specs.Tree.{Status, Linked}
use Rattle.model.specs.Holds.{Grip, Hold}
use Rattle.model.specs.Operations.{Operation, Seat, busy, Course, miss, collapse, items, Item, write_p, Drawn, Mode, Stage, act, Outcome}
use Rattle.model.proofs.Bytes.{none_some}
use Rattle.model_words.specs.Words.{Sound, Every, In}
use Rattle.model_words.specs.Places.{Suits}
use Rattle.model_words.proofs.Owners as owners
use Rattle.model_words.proofs.Rely as rely
use Rattle.model_slots.specs.Laws.{Mark, linked, spare, outside, drawn, retired}
use Rattle.model_slots.proofs.Lists.{is_tells}
use Rattle.machine.specs.State.{State, Numbers}
use Rattle.machine.specs.Calls.{Turns}
use Rattle.machine.specs.Items.{check_by, lock_by}
use Rattle.invariant.specs.Ghosts.{Ghosts, status_of, ghost, place_of, held_by, words_of, SoundAt, Safe, IsPermit, IsLocked, Permits, FluxOf, cut, joined, Flux}
use Rattle.invariant.specs.Seats.{Reads}
use Rattle.invariant.specs.Courses.{Solo, inserting, splitting, removing, Acts}
use Rattle.invariant.specs.Nexts.{Nexts}
use Rattle.invariant.specs.Invariant.{Lawful, Walks, Inv}

-- a step of the seat s, in a state that keeps the invariant
pub record Step (N : Numbers) (Key : List ℕ → Type 0) (σ τ : State) (g : Ghosts) (s : ℕ) (o : Operation) (z : Seat) (r : Outcome) : Type 0 where
  pub lawful : Lawful N Key
  pub inv : Inv N Key σ g
  pub seat : s < seat_count
  pub was : σ.seats s ≡ busy o
  pub turns : Turns σ τ s z

pub no_way : {P : Type 0} → ◌≡◌ {A = ℕ} 0 1 → P
no_way z = absurd (omega (arith, z))

pub true_false : {P : Type 0} (b : Bool) → b ≡ true → b ≡ false → P
true_false b p q = no_way cc

pub is_not : (x y : Ref) → (x ≡ y → ⊥) → is x y ≡ false
is_not x y n = ⊎_elim (λ q. absurd (n q.1)) (λ q. q.0) (is_tells x y)

-- marks by their status
pub linked_mark : (m : Mark) → status_of m ≡ Status.linked → m ≡ linked
linked_mark linked e = refl
linked_mark spare e = no_way cc
linked_mark outside e = no_way cc
linked_mark (drawn s) e = no_way cc
linked_mark (retired r) e = no_way cc

pub retired_mark : (m : Mark) (q : ℕ) → status_of m ≡ Status.retired q → m ≡ retired q
retired_mark linked q e = no_way cc
retired_mark spare q e = no_way cc
retired_mark outside q e = no_way cc
retired_mark (drawn s) q e = no_way cc
retired_mark (retired r) q e = let z : r ≡ q = cc in ap retired z

-- what may still be read is neither spare nor drawn
pub safe_not_spare : {P : Type 0} (e : ℕ) (g : Ghosts) (x : Ref) → Safe e g x → g.mark x ≡ spare → P
safe_not_spare e g x (inl l) m = let q : status_of (g.mark x) ≡ Status.spare = ap status_of m in no_way cc
safe_not_spare e g x (inr (r, h, b)) m = let q : status_of (g.mark x) ≡ Status.spare = ap status_of m in no_way cc

pub safe_not_drawn : {P : Type 0} (e : ℕ) (g : Ghosts) (x : Ref) (s : ℕ) → Safe e g x → g.mark x ≡ drawn s → P
safe_not_drawn e g x s (inl l) m = let q : status_of (g.mark x) ≡ Status.drawn = ap status_of m in no_way cc
safe_not_drawn e g x s (inr (r, h, b)) m = let q : status_of (g.mark x) ≡ Status.drawn = ap status_of m in no_way cc

-- where no cause applies, no test does
pub none_applies : (a b c d : Bool) → smallest a b c d ≡ None → (a ≡ false) × (b ≡ false) × (c ≡ false) × (d ≡ false)
none_applies true b c d e = absurd (none_some (sym e))
none_applies false true c d e = absurd (none_some (sym e))
none_applies false false true d e = absurd (none_some (sym e))
none_applies false false false true e = absurd (none_some (sym e))
none_applies false false false false e = (refl, refl, refl, refl)

not_changed : (a b : ℕ) → not (eqb a b) ≡ false → a ≡ b
not_changed a b e = go (eqb a b) refl e
  where
    go : (t : Bool) → eqb a b ≡ t → not t ≡ false → a ≡ b
    go true q f = eqb-true a b q
    go false q f = true_false true refl f

-- a passed check is a sound permit
pub check_sound : (c w : ℕ) (m : Meaning) → check_by (Grip.Permit c w) m ≡ None → Sound m (Grip.Permit c w)
check_sound c w m e = let q = none_applies m.gone m.locked (not (eqb m.count c)) false e in (q.0, q.1, not_changed m.count c q.2)

-- an accepted lock has a sound permit, and no share but its own
pub lock_sound : (c w : ℕ) (m : Meaning) → lock_by (Grip.Permit c w) m ≡ None → Sound m (Grip.Permit c w) × (m.shares ≤ w)
lock_sound c w m e =
    let q = none_applies m.gone m.locked (not (eqb m.count c)) (ltb w m.shares) e in
    ((q.0, q.1, not_changed m.count c q.2), ltb-false w m.shares q.3)

-- a passed check of any entry that is held
pub sound_by : (σ : State) (h : Hold) → check_by h.grip (σ.words h.at) ≡ None → SoundAt σ h
sound_by σ h e = go h.grip e
  where
    go : (k : Grip) → check_by k (σ.words h.at) ≡ None → Sound (σ.words h.at) k
    go (Grip.Permit c w) f = check_sound c w (σ.words h.at) f
    go Grip.Locked f = tt

pub lock_by_lem : (σ : State) (h : Hold) → lock_by h.grip (σ.words h.at) ≡ None → SoundAt σ h
lock_by_lem σ h e = go h.grip e
  where
    go : (k : Grip) → lock_by k (σ.words h.at) ≡ None → Sound (σ.words h.at) k
    go (Grip.Permit c w) f = (lock_sound c w (σ.words h.at) f).0
    go Grip.Locked f = tt

-- what is locked is sound
pub sound_locked : (σ : State) (n : Hold) → IsLocked n → SoundAt σ n
sound_locked σ n l = subst (λ (k : Grip). Sound (σ.words n.at) k) (sym l) tt

module _ {N : Numbers} {Key : List ℕ → Type 0} {σ : State} {g : Ghosts} (i : Inv N Key σ g) where
  -- a busy seat is one of the eight
  pub seat_below : (s : ℕ) (o : Operation) → σ.seats s ≡ busy o → s < seat_count
  seat_below s o e = by (dec_le seat_count s)
    where
      by : Dec (seat_count ≤ s) → s < seat_count
      by (yes h) = let q = i.outside s h in no_way cc
      by (no h) = omega (arith, h)

  pub held_is : (s : ℕ) (o : Operation) → σ.seats s ≡ busy o → held_by (σ.seats s) ≡ o.held
  held_is s o e = ap held_by e

  -- an entry of a seat
  pub entry_in : (s : ℕ) (o : Operation) → σ.seats s ≡ busy o → (h : Hold) → In h o.held → In h (held_by (σ.seats s))
  entry_in s o e h m = subst (λ (l : List Hold). In h l) (sym (held_is s o e)) m

  pub entry_reads : (s : ℕ) (o : Operation) → σ.seats s ≡ busy o → (h : Hold) → In h o.held → Reads N σ g o h.at
  entry_reads s o e h m = rely.every_in (λ k. Reads N σ g o k.at) o.held h (i.seats s o e).reads m

  -- a locked entry means a locked word
  pub entry_locked : (s : ℕ) (o : Operation) → σ.seats s ≡ busy o → (h : Hold) → In h o.held → IsLocked h → (σ.words h.at).locked ≡ true
  entry_locked s o e h m l = owners.owner (words_of σ) i.words s h (seat_below s o e) (entry_in s o e h m) l

  -- what a sound permit is on is linked
  pub sound_linked : (s : ℕ) (o : Operation) → σ.seats s ≡ busy o → (h : Hold) → In h o.held → IsPermit h → SoundAt σ h → Linked (ghost g) h.at
  sound_linked s o e h m (c, w, p) k = ⊎_elim (λ l. l) (λ q. absurd (not_retired h.at q.0 r.0 sound.0 sound.1 q.1)) r.1
    where
      sound : Sound (σ.words h.at) (Grip.Permit c w)
      sound = subst (λ (v : Grip). Sound (σ.words h.at) v) p k

      r : IsNode h.at × Safe o.begun g h.at
      r = entry_reads s o e h m

      barred : (m : Mark) (q : ℕ) (w : Meaning) → Suits (place_of m) w → w.gone ≡ false → w.locked ≡ false → status_of m ≡ Status.retired q → ⊥
      barred m q w s a b f = go (retired_mark m q f) s
        where
          go : m ≡ retired q → Suits (place_of m) w → ⊥
          go x y = ⊎_elim (λ t. true_false w.gone t a) (λ t. true_false w.locked t b) (subst (λ (n : Mark). Suits (place_of n) w) x y)

      not_retired : (x : Ref) (q : ℕ) → IsNode x → (σ.words x).gone ≡ false → (σ.words x).locked ≡ false → status_of (g.mark x) ≡ Status.retired q → ⊥
      not_retired (leaf j) q n a b f = n
      not_retired (node k j) q n a b f = barred (g.mark (node k j)) q (σ.words (node k j)) (i.places (node k j)) a b f

-- two lists with one more at the end
pub snoc_one : (u v : List Hold) (a b : Hold) → u ++ a ∷ [] ≡ v ++ b ∷ [] → (u ≡ v) × (a ≡ b)
snoc_one [] [] a b e = (refl, cc)
snoc_one [] (c ∷ []) a b e = no_way cc
snoc_one [] (c ∷ d ∷ v) a b e = no_way cc
snoc_one (c ∷ []) [] a b e = no_way cc
snoc_one (c ∷ d ∷ u) [] a b e = no_way cc
snoc_one (c ∷ u) (d ∷ v) a b e = let q = snoc_one u v a b (cc) in let f : c ≡ d = cc in (cc (f, q.0), q.1)

-- the last of a list, and what is in either part of one
pub in_last : (hs : List Hold) (n : Hold) → In n (hs ++ n ∷ [])
in_last [] n = inl refl
in_last (h ∷ hs) n = inr (in_last hs n)

pub in_front : (k : Hold) (hs ks : List Hold) → In k hs → In k (hs ++ ks)
in_front k [] ks m = absurd m
in_front k (h ∷ hs) ks (inl e) = inl e
in_front k (h ∷ hs) ks (inr m) = inr (in_front k hs ks m)

pub in_back : (k : Hold) (hs ks : List Hold) → In k ks → In k (hs ++ ks)
in_back k [] ks m = m
in_back k (h ∷ hs) ks m = inr (in_back k hs ks m)

-- what is known of each in a list with one more at its end
pub every_snoc : (P : Hold → Type 0) (hs : List Hold) (h : Hold) → Every P hs → P h → Every P (hs ++ h ∷ [])
every_snoc P [] h a b = (b, tt)
every_snoc P (k ∷ hs) h a b = (a.0, every_snoc P hs h a.1 b)

pub permits_snoc : (hs : List Hold) (h : Hold) → Permits hs → IsPermit h → Permits (hs ++ h ∷ [])
permits_snoc [] h a b = (b, tt)
permits_snoc (k ∷ hs) h a b = (a.0, permits_snoc hs h a.1 b)

pub last_permit : (hs : List Hold) (n : Hold) → Permits (hs ++ n ∷ []) → IsPermit n
last_permit [] n p = p.0
last_permit (h ∷ hs) n p = last_permit hs n p.1

solo_miss : {P : Type 0} (c : Course) (v i : ℕ) → Solo c → c ≡ miss v i → P
solo_miss _ v i (inserting w) e = no_way cc
solo_miss _ v i (splitting w j) e = no_way cc
solo_miss _ v i (removing w l) e = no_way cc

solo_collapse : {P : Type 0} (c : Course) (v l : ℕ) (m : Ref) → Solo c → c ≡ collapse v l m → P
solo_collapse _ v l m (inserting w) e = no_way cc
solo_collapse _ v l m (splitting w j) e = no_way cc
solo_collapse _ v l m (removing w j) e = no_way cc

leaf_node : {P : Type 0} (j : ℕ) (m : Ref) → IsNode m → leaf j ≡ m → P
leaf_node j m n e = absurd (subst IsNode (sym e) n)

module _ {N : Numbers} {Key : List ℕ → Type 0} {σ : State} {g : Ghosts} {s : ℕ} {o : Operation} where
  -- a miss that has cut a prefix has its node locked
  cut_locked : (c : Course) (is rest : List Item) (d : Option Drawn) (hs : List Hold) (v i : ℕ) (p n : Hold) → Acts N Key σ g s o c is d hs → c ≡ miss v i → is ≡ write_p ∷ rest → hs ≡ p ∷ n ∷ [] → IsLocked n
  cut_locked _ _ rest d _ v i p n (Acts.to_lock c hs k so st pe de) e f h = solo_miss c v i so e
  cut_locked _ _ rest d _ v i p n (Acts.to_draw c w hs k so ad ol) e f h = no_way cc
  cut_locked _ _ rest d _ v i p n (Acts.to_insert w j hs k ol ld) e f h = no_way cc
  cut_locked _ _ rest d _ v i p n (Acts.to_split w j u y hs k ol ld nd) e f h = no_way cc
  cut_locked _ _ rest d _ v i p n (Acts.to_remove w l hs k ol) e f h = no_way cc
  cut_locked _ _ rest d _ v i p n (Acts.to_unlock c hs k so pe lo li) e f h = no_way cc
  cut_locked _ _ rest d _ v i p n (Acts.to_lock_p c q k pa st pe de) e f h = let t : items c ≡ items (miss v i) = ap items e in no_way cc
  cut_locked _ _ rest d _ v i p n (Acts.to_lock_n c is q k pa it st lo pe de) e f h = no_way cc
  cut_locked _ _ rest d _ v i p n (Acts.to_draw_both c w is q k pa it ad bl) e f h = no_way cc
  cut_locked _ _ rest d _ v i p n (Acts.to_grow w j y q k bl ld nd) e f h = no_way cc
  cut_locked _ _ rest d _ v i p n (Acts.to_cut w m j y q k bl ld nd) e f h = no_way cc
  cut_locked _ _ rest d _ v i p n (Acts.to_miss w m j y q k cu) e f h = let t : n ≡ k = cc in subst IsLocked (sym t) cu.locked
  cut_locked _ _ rest d _ v i p n (Acts.to_collapse w l j q k bl) e f h = no_way cc
  cut_locked _ _ rest d _ v i p n (Acts.to_lock_m w l kd j q k bl) e f h = no_way cc
  cut_locked _ _ rest d _ v i p n (Acts.to_join w l q k m jo) e f h = no_way cc
  cut_locked _ _ rest d _ v i p n (Acts.to_collapse_m w l q k m jo) e f h = no_way cc
  cut_locked _ _ rest d _ v i p n (Acts.to_unlock_m c q k m pa lp lk lm ip re im) e f h = no_way cc
  cut_locked _ _ rest d _ v i p n (Acts.to_unlock_gone c q k pa lp lk ip re) e f h = no_way cc
  cut_locked _ _ rest d _ v i p n (Acts.to_unlock_n w m q k lp lk ip ik) e f h = no_way cc
  cut_locked _ _ rest d _ v i p n (Acts.to_unlock_p c q pa lp ip) e f h = no_way cc

  -- a collapse that has joined prefixes has m locked
  joined_locked : (c : Course) (is rest : List Item) (d : Option Drawn) (hs : List Hold) (v l : ℕ) (m : Ref) → IsNode m → Acts N Key σ g s o c is d hs → c ≡ collapse v l m → is ≡ write_p ∷ rest
      → (h : Hold) × In h hs × (h.at ≡ m) × IsLocked h
  joined_locked _ _ rest d _ v l m nm (Acts.to_lock c hs k so st pe de) e f = solo_collapse c v l m so e
  joined_locked _ _ rest d _ v l m nm (Acts.to_draw c w hs k so ad ol) e f = no_way cc
  joined_locked _ _ rest d _ v l m nm (Acts.to_insert w j hs k ol ld) e f = no_way cc
  joined_locked _ _ rest d _ v l m nm (Acts.to_split w j u y hs k ol ld nd) e f = no_way cc
  joined_locked _ _ rest d _ v l m nm (Acts.to_remove w j hs k ol) e f = no_way cc
  joined_locked _ _ rest d _ v l m nm (Acts.to_unlock c hs k so pe lo li) e f = no_way cc
  joined_locked _ _ rest d _ v l m nm (Acts.to_lock_p c q k pa st pe de) e f = go m nm e
    where
      go : (m : Ref) → IsNode m → c ≡ collapse v l m → (h : Hold) × In h (q ∷ k ∷ []) × (h.at ≡ m) × IsLocked h
      go (leaf j) b e = absurd b
      go (node a j) b e = let t : items c ≡ items (collapse v l (node a j)) = ap items e in no_way cc
  joined_locked _ _ rest d _ v l m nm (Acts.to_lock_n c is q k pa it st lo pe de) e f = no_way cc
  joined_locked _ _ rest d _ v l m nm (Acts.to_draw_both c w is q k pa it ad bl) e f = no_way cc
  joined_locked _ _ rest d _ v l m nm (Acts.to_grow w j y q k bl ld nd) e f = no_way cc
  joined_locked _ _ rest d _ v l m nm (Acts.to_cut w i j y q k bl ld nd) e f = no_way cc
  joined_locked _ _ rest d _ v l m nm (Acts.to_miss w i j y q k cu) e f = no_way cc
  joined_locked _ _ rest d _ v l m nm (Acts.to_collapse w j i q k bl) e f = leaf_node i m nm (cc)
  joined_locked _ _ rest d _ v l m nm (Acts.to_lock_m w j kd i q k bl) e f = no_way cc
  joined_locked _ _ rest d _ v l m nm (Acts.to_join w j q k n jo) e f = no_way cc
  joined_locked _ _ rest d _ v l m nm (Acts.to_collapse_m w j q k n jo) e f = (n, inr (inr (inl refl)), (cc), jo.below)
  joined_locked _ _ rest d _ v l m nm (Acts.to_unlock_m c q k n pa lp lk lm ip re im) e f = no_way cc
  joined_locked _ _ rest d _ v l m nm (Acts.to_unlock_gone c q k pa lp lk ip re) e f = no_way cc
  joined_locked _ _ rest d _ v l m nm (Acts.to_unlock_n w i q k lp lk ip ik) e f = no_way cc
  joined_locked _ _ rest d _ v l m nm (Acts.to_unlock_p c q pa lp ip) e f = no_way cc

  walk_cut : (hs : List Hold) (k : Stage) (rest : List Item) (d : Option Drawn) (v i : ℕ) (p n : Hold) → Walks N Key σ g s o hs k → k ≡ act (miss v i) (write_p ∷ rest) d → hs ≡ p ∷ n ∷ [] → IsLocked n
  walk_cut _ _ rest d v i p n Walks.starts e h = no_way cc
  walk_cut _ _ rest d v i p n (Walks.to_take hs q y x m pe ab) e h = no_way cc
  walk_cut _ _ rest d v i p n (Walks.to_check_p hs q k m pe ab) e h = no_way cc
  walk_cut _ _ rest d v i p n (Walks.to_look hs k st pe) e h = no_way cc
  walk_cut _ _ rest d v i p n (Walks.to_check_n hs k a st pe de) e h = no_way cc
  walk_cut hs _ rest d v i p n (Walks.acts c is x a) e h = cut_locked c is rest x hs v i p n a (cc) (cc) h

  walk_joined : (hs : List Hold) (k : Stage) (rest : List Item) (d : Option Drawn) (v l : ℕ) (m : Ref) → IsNode m → Walks N Key σ g s o hs k → k ≡ act (collapse v l m) (write_p ∷ rest) d
      → (h : Hold) × In h hs × (h.at ≡ m) × IsLocked h
  walk_joined _ _ rest d v l m nm Walks.starts e = no_way cc
  walk_joined _ _ rest d v l m nm (Walks.to_take hs q y x b pe ab) e = no_way cc
  walk_joined _ _ rest d v l m nm (Walks.to_check_p hs q k b pe ab) e = no_way cc
  walk_joined _ _ rest d v l m nm (Walks.to_look hs k st pe) e = no_way cc
  walk_joined _ _ rest d v l m nm (Walks.to_check_n hs k a st pe de) e = no_way cc
  walk_joined hs _ rest d v l m nm (Walks.acts c is x a) e = joined_locked c is rest x hs v l m nm a (cc) (cc)

-- next is never in a course
pub next_acts : {P : Type 0} {N : Numbers} {σ : State} {g : Ghosts} {o : Operation} (m : Mode) (hs : List Hold) (k : Stage) (c : Course) (is : List Item) (d : Option Drawn) → Nexts N σ g o m hs k → k ≡ act c is d → P
next_acts _ _ _ c is d Nexts.starts e = no_way cc
next_acts _ _ _ c is d (Nexts.take_key f hs y x a b q r) e = no_way cc
next_acts _ _ _ c is d (Nexts.check_key f h hs a b) e = no_way cc
next_acts _ _ _ c is d (Nexts.look_key f hs a b) e = no_way cc
next_acts _ _ _ c is d (Nexts.look_back f hs n a b q) e = no_way cc
next_acts _ _ _ c is d (Nexts.take_down f hs ds n y x a b q r u w) e = no_way cc
next_acts _ _ _ c is d (Nexts.check_down f hs h ds n a b q r) e = no_way cc
next_acts _ _ _ c is d (Nexts.look_down f hs h ds n a b q r) e = no_way cc
next_acts _ _ _ c is d (Nexts.scans m f hs ds n i a r x y z u w) e = no_way cc

module _ {N : Numbers} {Key : List ℕ → Type 0} {σ : State} {g : Ghosts} (i : Inv N Key σ g) where
  -- a node in flux is held locked by the operation that wrote its prefix
  pub flux_held : (s : ℕ) (o : Operation) (x : Ref) → σ.seats s ≡ busy o → FluxOf o x → (h : Hold) × In h o.held × (h.at ≡ x) × IsLocked h
  flux_held s o x e (cut v j rest d p n f q) = ⊎_elim
      (λ w. (n, subst (λ (l : List Hold). In n l) (sym q) (inr (inl refl)), refl, walk_cut o.held o.stage rest d v j p n w.2 f q))
      (λ w. next_acts o.mode o.held o.stage (miss v j) (write_p ∷ rest) d w.1 f)
      (i.seats s o e).doing
  flux_held s o x e (joined v l m rest d nm f) = ⊎_elim
      (λ w. walk_joined o.held o.stage rest d v l x nm w.2 f)
      (λ w. next_acts o.mode o.held o.stage (collapse v l x) (write_p ∷ rest) d w.1 f)
      (i.seats s o e).doing

  pub flux_locked : (x : Ref) → Flux σ x → (σ.words x).locked ≡ true
  flux_locked x (s, o, l, e, f) = let q = flux_held s o x e f in subst (λ (y : Ref). (σ.words y).locked ≡ true) q.2 (entry_locked i s o e q.0 q.1 q.3)

  -- what a sound permit is on is not in flux
  pub sound_steady : (s : ℕ) (o : Operation) → σ.seats s ≡ busy o → (h : Hold) → IsPermit h → SoundAt σ h → Flux σ h.at → ⊥
  sound_steady s o e h (c, w, p) k f = true_false (σ.words h.at).locked (flux_locked h.at f) (subst (λ (v : Grip). Sound (σ.words h.at) v) p k).1

  -- nor what an operation has locked that is not itself writing prefixes
  pub locked_steady : (s : ℕ) (o : Operation) → σ.seats s ≡ busy o → (h : Hold) → In h o.held → IsLocked h → (FluxOf o h.at → ⊥) → Flux σ h.at → ⊥
  locked_steady s o e h m k n (t, u, l, f, b) =
      let q = flux_held t u h.at f b in
      let same : t ≡ s = owners.owner_one (words_of σ) i.words t s q.0 h l (seat_below i s o e) (entry_in i t u f q.0 q.1) (entry_in i s o e h m) q.2 q.3 k in
      let both : busy u ≡ busy o = sym f ∙ ap σ.seats same ∙ e in
      let w : u ≡ o = cc in
      n (subst (λ (v : Operation). FluxOf v h.at) w b)
