-- An operation whose permits would all pass, with nobody else holding anything, does not start again.
use Rattle.std.proofs.Common.{◌≡◌, ℕ, zero, suc, ◌+◌, ◌-◌, ◌<◌, ◌≤◌, Bool, true, false, cond, not, eqb, ltb, ◌⊎◌, List, [], ◌∷◌, ◌++◌, length, get_or, take, drop, Some, None, Option, sym, refl, ap, ◌∙◌, subst, subst₂, inl, inr, ⊎_elim, arith}
use Rattle.terms.specs.Limits.{seat_count}
use Rattle.terms.specs.declared.Cause.{Cause}
use Rattle.latches.specs.declared.word.Meaning.{Meaning}
use Rattle.model.specs.Bytes.{◌≼◌}
use Rattle.model.specs.Refs.{Ref, leaf, node, root, is, IsNode, Kind, room, same}
use Rattle.model.specs.Tree.{Tree, prefix, Linked}
use Rattle.model.specs.Holds.{Grip, Hold, put, let_go, let_go_all}
use Rattle.model.specs.Operations as op
use Rattle.model.specs.Operations.{Operation, Task, Answer, Course, collapse, items, Item, lock_p, lock_n, lock_m, draw, write_n, write_m, write_p, unlock_m, unlock_n, unlock_n_gone, unlock_p, Drawn, Mode, by_key, back, down, Stage, check_p, look, act, scan, Seat, busy, Outcome, go, again}
use Rattle.machine.specs.State.{State, Numbers, WordsAre, with, Ends}
use Rattle.machine.specs.Choices.{key_byte}
use Rattle.machine.specs.Items.{check_by, lock_by, Does, locked, Plain}
use Rattle.machine.specs.Steps.{is_next, kept_p, parent, after_take, pair_at, picked, Sees, Refuses, Follows, Row}
use Rattle.invariant.specs.Ghosts.{Ghosts, ghost, place_of, held_by, words_of, SoundAt, IsPermit, IsLocked, Permits, Flux}
use Rattle.invariant.specs.Seats.{Placed, Stand, at_root, below, Aloft, none_aloft, one_aloft}
use Rattle.invariant.specs.Courses.{Solo, inserting, splitting, removing, Acts}
use Rattle.invariant.specs.Nexts.{Rises, Saw, Nexts}
use Rattle.invariant.specs.Invariant.{Lawful, Walks, Aims, SeatOk, Inv}
use Rattle.invariant.proofs.Setting.{Step, true_false, linked_mark, safe_not_spare, none_applies, seat_below, held_is, entry_reads, entry_locked, sound_steady, no_way, snoc_one, in_last, in_front}
use native.Mathlib.Decide.{dec_le}
use Rattle.std.specs.List.{slice_get, AllByRecursion}
use Rattle.std.proofs.lemmas.Bool.{eq-eqb, ne_eqb, le-ltb}
use Rattle.model_next.specs.Look as picks
use Rattle.latches.specs.Rules.{take_refusal, smallest, shared, held as shut, freed, freed_gone, revived}
use Rattle.model.specs.Sights as sight
use Rattle.model.proofs.Bytes.{≼_len, snoc_len, none_some}
use Rattle.model_words.specs.Words.{Sound, Every, In, tally, sum, total, grip_weight}
use Rattle.model_words.proofs.Owners as owners
use Rattle.model_words.proofs.Rely as rely
use Rattle.model_words.proofs.Sums.{tally-++, tally_none, total_put, total_zero, only_yes, only_no}
use Rattle.model_words.proofs.Release.{put_else}
use Rattle.model_words.specs.Places.{Suits}
use Rattle.model_slots.specs.Laws.{Mark}
use Rattle.model_slots.specs.Slots.{count}
use Rattle.model_slots.proofs.Lists.{true_bit, is_self}
use Rattle.invariant.proofs.Locking.{acting, left_child, collapse_left, pair_items, stood}
use Rattle.model_next.specs.Walk as walk
use Rattle.model_next.specs.Look.{key_sight, back_sight, down_sight}
use Rattle.model_next.proofs.Walks as walks
use Rattle.model_next.proofs.Snapshot.{Bytewise, fresh_look, fresh_look_back, fresh_look_down, free_key, free_down}
use Rattle.invariant.proofs.NextRows.{newest_is, newest_append, nth_place}
use Rattle.invariant.proofs.Sees.{At, sees}

-- a check of each entry would pass
abbrev pub AllSound : State → Operation → Type 0
AllSound σ o = Every (SoundAt σ) o.held

-- no other seat holds anything
abbrev pub HoldsAlone : State → ℕ → Type 0
HoldsAlone σ s = (t : ℕ) → t < seat_count → (t ≡ s → ⊥) → held_by (σ.seats t) ≡ []

-- what is known while one operation holds permits that would all pass, and nobody else holds anything
record Lone (N : Numbers) (Key : List ℕ → Type 0) (σ : State) (g : Ghosts) (s : ℕ) (o : Operation) : Type 0 where
  lawful : Lawful N Key
  inv : Inv N Key σ g
  was : σ.seats s ≡ busy o
  others : HoldsAlone σ s
  sound : AllSound σ o

none_refused : (p q x y : Bool) → p ≡ false → q ≡ false → x ≡ false → y ≡ false → smallest p q x y ≡ None
none_refused true q x y a b c d = no_way cc
none_refused false true x y a b c d = no_way cc
none_refused false false true y a b c d = no_way cc
none_refused false false false true a b c d = no_way cc
none_refused false false false false a b c d = refl

unchanged : (a b : ℕ) → a ≡ b → not (eqb a b) ≡ false
unchanged a b e = ap not (eq-eqb a b e)

-- a sound permit passes a check
check_passes : (k : Grip) (m : Meaning) → Sound m k → check_by k m ≡ None
check_passes (Grip.Permit c w) m (a, b, e) = none_refused m.gone m.locked (not (eqb m.count c)) false a b (unchanged m.count c e) refl
check_passes Grip.Locked m h = refl

-- and a lock is not refused it where there is no share but its own
lock_passes : (k : Grip) (m : Meaning) → Sound m k → m.shares ≤ grip_weight k → lock_by k m ≡ None
lock_passes (Grip.Permit c w) m (a, b, e) l = none_refused m.gone m.locked (not (eqb m.count c)) (ltb w m.shares) a b (unchanged m.count c e) (le-ltb w m.shares l)
lock_passes Grip.Locked m h l = refl

-- words that a check does not tell apart
abbrev Alike : Meaning → Meaning → Type 0
Alike m n = (n.gone ≡ m.gone) × (n.locked ≡ m.locked) × (n.count ≡ m.count)

alike_sound : (m n : Meaning) (k : Grip) → Alike m n → Sound m k → Sound n k
alike_sound m n (Grip.Permit c w) (a, b, e) (x, y, z) = (a ∙ x, b ∙ y, e ∙ z)
alike_sound m n Grip.Locked a h = tt

put_alike : (f : Ref → Meaning) (x : Ref) (m : Meaning) → Alike (f x) m → (y : Ref) → Alike (f y) (put f x m y)
put_alike f x m a y = elim (same y x) as (λ (d : Dec (y ≡ x)). Alike (f y) (elim d [ yes e ↦ m | no n ↦ f y ])) [
  | yes e ↦ subst (λ (w : Ref). Alike (f w) m) (sym e) a
  | no n ↦ (refl, refl, refl)
]

-- giving permits back leaves the others sound
give_alike : (hs : List Hold) → Permits hs → (f : Ref → Meaning) (y : Ref) → Alike (f y) (let_go_all hs f y)
give_alike [] p f y = (refl, refl, refl)
give_alike (h ∷ hs) ((c, w, e), p) f y =
    let f' : Ref → Meaning = put f h.at (let_go h.grip (f h.at)) in
    let a = put_alike f h.at (let_go h.grip (f h.at)) (subst (λ (k : Grip). Alike (f h.at) (let_go k (f h.at))) (sym e) (refl, refl, refl)) y in
    let b = give_alike hs p f' y in
    (b.0 ∙ a.0, b.1 ∙ a.1, b.2 ∙ a.2)

every_all : (P : Hold → Type 0) (hs : List Hold) → ((h : Hold) → In h hs → P h) → Every P hs
every_all P [] f = tt
every_all P (h ∷ hs) f = (f h (inl refl), every_all P hs (λ k m. f k (inr m)))

every_snoc : (P : Hold → Type 0) (hs : List Hold) (h : Hold) → Every P hs → P h → Every P (hs ++ h ∷ [])
every_snoc P [] h a b = (b, tt)
every_snoc P (k ∷ hs) h a b = (a.0, every_snoc P hs h a.1 b)

every_drop : (P : Hold → Type 0) (n : ℕ) (hs : List Hold) → Every P hs → Every P (drop n hs)
every_drop P zero hs a = a
every_drop P (suc n) [] a = tt
every_drop P (suc n) (h ∷ hs) a = every_drop P n hs a.1

permits_take : (n : ℕ) (hs : List Hold) → Permits hs → Permits (take n hs)
permits_take zero hs p = tt
permits_take (suc n) [] p = tt
permits_take (suc n) (h ∷ hs) p = (p.0, permits_take n hs p.1)

permits_last : (hs : List Hold) (n : Hold) → Permits (hs ++ n ∷ []) → IsPermit n
permits_last [] n p = p.0
permits_last (h ∷ hs) n p = permits_last hs n p.1

nth_in : (hs : List Hold) (i : ℕ) (h : Hold) → slice_get hs i ≡ Some h → In h hs
nth_in [] i h e = no_way cc
nth_in (k ∷ hs) zero h e = inl cc
nth_in (k ∷ hs) (suc i) h e = inr (nth_in hs i h e)

parent_in : (m : Mode) (hs : List Hold) (p : Hold) → parent m hs ≡ Some p → In p hs
parent_in by_key hs p e = nth_in hs (length hs - 2) p e
parent_in (back i) hs p e = no_way cc
parent_in (down at keys) hs p e = nth_in hs (cond (eqb (length hs) (suc keys)) at (length hs - 2)) p e

is_next_lem : (t : Task) → is_next t ≡ true → t ≡ op.next
is_next_lem op.find e = no_way cc
is_next_lem op.remove e = no_way cc
is_next_lem op.next e = refl
is_next_lem (op.add v) e = no_way cc

-- what is to be taken is a node
aimed : {N : Numbers} {Key : List ℕ → Type 0} {σ : State} {g : Ghosts} {o : Operation} (k : Stage) → Aims N Key σ g o k → (x : Ref) (d : ℕ) → k ≡ op.take x d → IsNode x
aimed _ (Aims.at y c r) x d e = subst IsNode (cc) r.0
aimed k (Aims.at_none f) x d e = absurd (f x d e)

-- a byte of a list follows what is before it
byte_or_none : (a : List ℕ) (j : ℕ) → (get_or a j 0 ≡ 0) ⊎ ((take j a ++ get_or a j 0 ∷ []) ≼ a)
byte_or_none [] j = inl refl
byte_or_none (x ∷ a) zero = inr (refl, tt)
byte_or_none (x ∷ a) (suc j) = ⊎_elim (λ e. inl e) (λ h. inr (refl, h)) (byte_or_none a j)

-- depths that rise stay below their bound
rises_le : (lo : ℕ) (hs : List Hold) (hi : ℕ) → Rises lo hs hi → lo ≤ hi
rises_le lo [] hi r = r
rises_le lo (h ∷ hs) hi r = let q = rises_le (suc h.depth) hs hi r.1 in omega (arith, q, r.0)

rises_below : (lo : ℕ) (hs : List Hold) (hi : ℕ) → Rises lo hs hi → AllByRecursion (λ h. h.depth < hi) hs
rises_below lo [] hi r = tt
rises_below lo (h ∷ hs) hi r = (rises_le (suc h.depth) hs hi r.1, rises_below (suc h.depth) hs hi r.1)

all_every : (P : Hold → Type 0) (hs : List Hold) → AllByRecursion P hs → Every P hs
all_every P [] a = tt
all_every P (h ∷ hs) a = (a.0, all_every P hs a.1)

every_join : (P : Hold → Type 0) (hs ks : List Hold) → Every P hs → Every P ks → Every P (hs ++ ks)
every_join P [] ks a b = b
every_join P (h ∷ hs) ks a b = (a.0, every_join P hs ks a.1 b)

all_split : (P : Hold → Type 0) (hs ks : List Hold) → AllByRecursion P (hs ++ ks) → AllByRecursion P hs × AllByRecursion P ks
all_split P [] ks a = (tt, a)
all_split P (h ∷ hs) ks a = let q = all_split P hs ks a.1 in ((a.0, q.0), q.1)

-- what holds of the entries after a step holds of the seat's
moved : (o u : Operation) (m : Mode) (hs : List Hold) (k : Stage) (P : Hold → Type 0) → with o m hs k ≡ busy u → Every P hs → Every P u.held
moved o u m hs k P e a =
    let p : record { task = o.task; key = o.key; begun = o.begun; restarts = o.restarts; mode = m; held = hs; stage = k } ≡ u = cc in
    subst (λ (v : Operation). Every P v.held) p a

picked_held : (S : Tree) (o u : Operation) (j keys : ℕ) (v : picks.Sight) (P : Hold → Type 0) → picked S o j keys v ≡ Some (busy u) → Every P o.held → Every P u.held
picked_held S o u j keys picks.stale P e a = no_way cc
picked_held S o u zero keys picks.back P e a = moved o u by_key o.held (scan 0 op.none) P (cc) a
picked_held S o u (suc j) keys picks.back P e a = moved o u (back j) o.held look P (cc) a
picked_held S o u j keys (picks.onward y d) P e a = moved o u by_key o.held (op.take y d) P (cc) a
picked_held S o u j keys (picks.aside y d) P e a = moved o u (down j keys) o.held (op.take y d) P (cc) a
picked_held S o u j keys (picks.got i) P e a = moved o u o.mode o.held (scan 0 (pair_at S i)) P (cc) a

-- items that lock what is held, and items that end a lock
abbrev grabs : Item → Bool
grabs lock_p = true
grabs lock_n = true
grabs lock_m = false
grabs draw = false
grabs write_n = false
grabs write_m = false
grabs write_p = false
grabs unlock_m = false
grabs unlock_n = false
grabs unlock_n_gone = false
grabs unlock_p = false

abbrev ends : Item → Bool
ends lock_p = false
ends lock_n = false
ends lock_m = false
ends draw = false
ends write_n = false
ends write_m = false
ends write_p = false
ends unlock_m = true
ends unlock_n = true
ends unlock_n_gone = true
ends unlock_p = true

plain_ends : (a : Item) → Plain a → ends a ≡ true
plain_ends lock_p p = absurd p
plain_ends lock_n p = absurd p
plain_ends lock_m p = absurd p
plain_ends draw p = absurd p
plain_ends write_n p = absurd p
plain_ends write_m p = absurd p
plain_ends write_p p = absurd p
plain_ends unlock_m p = refl
plain_ends unlock_n p = refl
plain_ends unlock_n_gone p = absurd p
plain_ends unlock_p p = refl

-- an item is not of a sort that another is of
other_item : {P : Type 0} (f : Item → Bool) (a b : Item) → f a ≡ true → b ≡ a → f b ≡ false → P
other_item f a b p e q = true_false (f a) p (ap f (sym e) ∙ q)

solo_items : (c : Course) → Solo c → (rest : List Item) × (items c ≡ lock_n ∷ rest)
solo_items _ (inserting v) = (_, refl)
solo_items _ (splitting v j) = (_, refl)
solo_items _ (removing v l) = (_, refl)

stand_placed : {N : Numbers} {σ : State} {g : Ghosts} {o : Operation} (hs : List Hold) (n : Hold) → Stand N σ g o hs n → Placed N σ g o n
stand_placed _ _ (at_root n e d p) = p
stand_placed _ _ (below p n a q) = q

-- a lock is always sound
locked_sound : (m : Meaning) (k : Grip) → k ≡ Grip.Locked → Sound m k
locked_sound m k e = subst (λ (v : Grip). Sound m v) (sym e) tt

-- what stands elsewhere than x keeps its word
put_sound : (f : Ref → Meaning) (x : Ref) (m : Meaning) (h : Hold) → (h.at ≡ x → ⊥) → Sound (f h.at) h.grip → Sound (put f x m h.at) h.grip
put_sound f x m h n k = subst (λ (v : Meaning). Sound v h.grip) (sym (put_else f x h.at m n)) k

puts_sound : (f : Ref → Meaning) (x : Ref) (m : Meaning) (hs : List Hold) → Every (λ h. h.at ≡ x → ⊥) hs → Every (λ h. Sound (f h.at) h.grip) hs → Every (λ h. Sound (put f x m h.at) h.grip) hs
puts_sound f x m [] n k = tt
puts_sound f x m (h ∷ hs) n k = (put_sound f x m h n.0 k.0, puts_sound f x m hs n.1 k.1)

module _ {N : Numbers} {Key : List ℕ → Type 0} {σ : State} {g : Ghosts} {s : ℕ} {o : Operation} (l : Lone N Key σ g s o) where
  ok : SeatOk N Key σ g s o
  ok = l.inv.seats s o l.was

  sound_in : (h : Hold) → In h o.held → SoundAt σ h
  sound_in h m = rely.every_in (SoundAt σ) o.held h l.sound m

  others_none : (t : ℕ) → (t ≡ s → ⊥) → held_by (σ.seats t) ≡ []
  others_none t n = by (dec_le seat_count t)
    where
      by : Dec (seat_count ≤ t) → held_by (σ.seats t) ≡ []
      by (yes h) = ap held_by (l.inv.outside t h)
      by (no h) = l.others t (omega (arith, h)) n

  -- the shares of a word are the operation's own
  own_shares : (x : Ref) → (σ.words x).shares ≡ tally grip_weight x o.held
  unfolding sum
  own_shares x =
      let none : (t : ℕ) → (t ≡ s → ⊥) → tally grip_weight x (held_by (σ.seats t)) ≡ 0 = λ t n. ap (tally grip_weight x) (others_none t n) ∙ tally_none grip_weight x [] tt in
      let all = total_put (λ (t : ℕ). 0) (λ (t : ℕ). tally grip_weight x (held_by (σ.seats t))) s 8 (seat_below l.inv s o l.was) none in
      let zero_all : total (λ (t : ℕ). 0) 8 ≡ 0 = total_zero (λ (t : ℕ). 0) 8 (λ c k. refl) in
      let here : tally grip_weight x (held_by (σ.seats s)) ≡ tally grip_weight x o.held = ap (tally grip_weight x) (held_is l.inv s o l.was) in
      omega (arith, all, zero_all, here, l.inv.words.shares x)

  -- what is linked and not held may be taken
  linked_here : (x : Ref) → IsNode x → Linked (ghost g) x → (σ.words x).gone ≡ false
  linked_here (leaf i) n e = absurd n
  linked_here (node k i) n e = subst (λ (m : Mark). Suits (place_of m) (σ.words (node k i))) (linked_mark (g.mark (node k i)) e) (l.inv.places (node k i))

  free_here : (x : Ref) → Every (λ h. h.at ≡ x → ⊥) o.held → ((σ.words x).locked ≡ false) × ((σ.words x).shares ≡ 0)
  free_here x n = owners.alone (words_of σ) l.inv.words s (λ t _ ne. others_none t ne) x (subst (Every (λ h. h.at ≡ x → ⊥)) (sym (held_is l.inv s o l.was)) n)

  may_take : (x : Ref) → IsNode x → Linked (ghost g) x → Every (λ h. h.at ≡ x → ⊥) o.held → take_refusal N.limit (σ.words x) ≡ None
  may_take x n e f =
      let q = free_here x f in
      none_refused (σ.words x).gone (σ.words x).locked false (eqb (σ.words x).shares N.limit) (linked_here x n e) q.0 refl
      (ne_eqb (σ.words x).shares N.limit (λ z. omega (arith, z, q.1, l.lawful.some)))

  -- where an entry of a walk stands
  at_held : (h : Hold) → In h o.held → IsPermit h → Placed N σ g o h → At σ.tree (ghost g) h.at o.key h.depth
  at_held h m i p =
      let k = sound_in h m in
      let q = p k in
      let n = (entry_reads l.inv s o l.was h m).0 in
      record {
        inner = n;
        here = q.0;
        steady = ⊎_elim (λ e. e) (λ f. absurd (sound_steady l.inv s o l.was h i k f)) (l.inv.tree.split h.at n q.0).1;
        way = q.1;
        depth = q.2;
      }

  -- a node that is linked, and that the operation does not hold
  abbrev Free : Ref → Type 0
  Free x = Linked (ghost g) x × Every (λ h. h.at ≡ x → ⊥) o.held

  -- nodes with shorter paths are other nodes
  shorter : (x : Ref) (d : ℕ) → length (g.path x) ≡ d → (hs : List Hold) → Every (λ h. length (g.path h.at) < d) hs → Every (λ h. h.at ≡ x → ⊥) hs
  shorter x d e [] a = tt
  shorter x d e (h ∷ hs) a = ((λ q. let z : length (g.path h.at) ≡ length (g.path x) = ap (λ (y : Ref). length (g.path y)) q in omega (arith, z, e, a.0)), shorter x d e hs a.1)

  aloft_short : (p : Hold) (d : ℕ) (hs : List Hold) → p.depth < d → Aloft N σ g o p hs → ((h : Hold) → In h hs → SoundAt σ h) → Every (λ h. length (g.path h.at) < d) hs
  aloft_short p d _ b none_aloft k = tt
  aloft_short p d _ b (one_aloft q pl c) k = let e = (pl (k q (inl refl))).2 in (omega (arith, b, c, e), tt)

  -- the node of a walk's next take is linked, and deeper than what is held
  walk_free : (x : Ref) (d : ℕ) (hs : List Hold) (k : Stage) → Walks N Key σ g s o hs k → k ≡ op.take x d → hs ≡ o.held → Free x
  walk_free x d _ _ Walks.starts e h =
      let q : root ≡ x = cc in
      (subst (λ (y : Ref). Linked (ghost g) y) q l.inv.tree.root_linked, subst (Every (λ j. j.at ≡ x → ⊥)) h tt)
  walk_free x d _ _ (Walks.to_take hs p y c al pe ab) e h =
      let q : y ≡ x = cc in
      let m : In p o.held = subst (In p) h (in_last hs p) in
      let k = sound_in p m in
      let r = sees l.inv.tree p.at o.key p.depth (at_held p m (permits_last hs p pe) ab.placed) ok.key (sight.onward y c) (ab.leads k) in
      let low : Every (λ j. length (g.path j.at) < c) (hs ++ p ∷ []) = every_snoc (λ j. length (g.path j.at) < c) hs p
      (aloft_short p c hs ab.deeper al (λ j i. sound_in j (subst (In j) h (in_front j hs (p ∷ []) i)))) (omega (arith, ab.deeper, (ab.placed k).2)) in
      subst Free q (r.linked', shorter y c r.depth o.held (subst (Every (λ j. length (g.path j.at) < c)) h low))
  walk_free x d _ _ (Walks.to_check_p hs p n al pe ab) e h = no_way cc
  walk_free x d _ _ (Walks.to_look hs n st pe) e h = no_way cc
  walk_free x d _ _ (Walks.to_check_n hs n a st pe de) e h = no_way cc
  walk_free x d _ _ (Walks.acts c is y a) e h = no_way cc

  -- the newest entry at a look
  look_at : (hs : List Hold) (k : Stage) → Walks N Key σ g s o hs k → k ≡ look → (ks : List Hold) × (n : Hold) × (hs ≡ ks ++ n ∷ []) × Placed N σ g o n × IsPermit n
  look_at _ _ Walks.starts e = no_way cc
  look_at _ _ (Walks.to_take hs p y c al pe ab) e = no_way cc
  look_at _ _ (Walks.to_check_p hs p n al pe ab) e = no_way cc
  look_at _ _ (Walks.to_look hs n st pe) e = (hs, n, refl, stand_placed hs n st, permits_last hs n pe)
  look_at _ _ (Walks.to_check_n hs n a st pe de) e = no_way cc
  look_at _ _ (Walks.acts c is y a) e = no_way cc

  -- when a walk checks p it has permits only
  check_permits : (hs : List Hold) (k : Stage) → Walks N Key σ g s o hs k → k ≡ check_p → Permits hs
  check_permits _ _ Walks.starts e = no_way cc
  check_permits _ _ (Walks.to_take hs p y c al pe ab) e = no_way cc
  check_permits _ _ (Walks.to_check_p hs p n al pe ab) e = pe
  check_permits _ _ (Walks.to_look hs n st pe) e = no_way cc
  check_permits _ _ (Walks.to_check_n hs n a st pe de) e = no_way cc
  check_permits _ _ (Walks.acts c is y a) e = no_way cc

  nexts_of : o.task ≡ op.next → Nexts N σ g o o.mode o.held o.stage
  nexts_of t = ⊎_elim (λ w. true_false (is_next o.task) (ap is_next t) w.0) (λ w. w.1) ok.doing

  -- a sound permit
  abbrev Good : Hold → Type 0
  Good h = SoundAt σ h × IsPermit h

  all_good : (hs : List Hold) → Every (SoundAt σ) hs → Permits hs → AllByRecursion Good hs
  all_good [] a p = tt
  all_good (h ∷ hs) a p = ((a.0, p.0), all_good hs a.1 p.1)

  -- what next has seen, where its permits are sound
  seen_good : (w : walk.Walk Hold) → Saw N σ g o w → walk.Seen walk.held N.deep σ.tree o.key Good w
  seen_good walk.start a = tt
  seen_good (walk.on f hs ds k) a = walks.stable walk.held N.deep o.key σ.tree σ.tree (SoundAt σ) Good (walk.on f hs ds k) (all_stay (f ∷ hs), all_stay ds) a
    where
      all_stay : (hs : List Hold) → AllByRecursion (walk.Stays walk.held N.deep o.key σ.tree σ.tree (SoundAt σ) Good) hs
      all_stay [] = tt
      all_stay (h ∷ hs) = (record { was = λ q. q.0; key = λ _. refl; back = λ _ _. refl; down = λ _. refl }, all_stay hs)

  still_good : (h : Hold) → Good h → Flux σ h.at → ⊥
  still_good h q f = sound_steady l.inv s o l.was h q.1 q.0 f

  key_bytes : Bytewise Key
  key_bytes a k j = ⊎_elim (λ e. omega (arith, e)) (λ h. l.lawful.keys.bytes a (take j a) (get_or a j 0) k h) (byte_or_none a j)

  -- what next is to take is linked and not held
  nexts_free : (x : Ref) (d : ℕ) (m : Mode) (hs : List Hold) (k : Stage) → Nexts N σ g o m hs k → k ≡ op.take x d → Every (SoundAt σ) hs → Permits hs → Linked (ghost g) x × Every (λ h. h.at ≡ x → ⊥) hs
  nexts_free x d _ _ _ Nexts.starts e a p = let q : root ≡ x = cc in (subst (λ (y : Ref). Linked (ghost g) y) q l.inv.tree.root_linked, tt)
  nexts_free x d _ _ _ (Nexts.take_key f hs y c w r b n) e a p =
      let q : y ≡ x = cc in
      let k = all_good (f ∷ hs) a p in
      let u = free_key l.inv.tree key_bytes walk.held Good o.key still_good f hs y c (seen_good (walk.on f hs [] (walk.take_key y c)) w) k.0 k.1 (rises_below 0 (f ∷ hs) c r) in
      subst (λ (z : Ref). Linked (ghost g) z × Every (λ h. h.at ≡ z → ⊥) (f ∷ hs)) q (u.0, all_every (λ h. h.at ≡ y → ⊥) (f ∷ hs) u.1)
  nexts_free x d _ _ _ (Nexts.check_key f h hs w r) e a p = no_way cc
  nexts_free x d _ _ _ (Nexts.look_key f hs w r) e a p = no_way cc
  nexts_free x d _ _ _ (Nexts.look_back f hs n w r b) e a p = no_way cc
  nexts_free x d _ _ _ (Nexts.take_down f hs ds n y c w r r' b i nr) e a p =
      let q : y ≡ x = cc in
      let k = all_split Good (f ∷ hs) ds (all_good (f ∷ hs ++ ds) a p) in
      let u = free_down l.inv.tree key_bytes walk.held Good o.key still_good f hs ds n y c (seen_good (walk.on f hs ds (walk.take_down n y c)) w) k.0.0 k.0.1 k.1 (rises_below 1 ds c r') in
      subst (λ (z : Ref). Linked (ghost g) z × Every (λ h. h.at ≡ z → ⊥) (f ∷ hs ++ ds)) q
      (u.0, every_join (λ h. h.at ≡ y → ⊥) (f ∷ hs) ds (all_every (λ h. h.at ≡ y → ⊥) (f ∷ hs) u.1) (all_every (λ h. h.at ≡ y → ⊥) ds u.2))
  nexts_free x d _ _ _ (Nexts.check_down f hs h ds n w r r' b) e a p = no_way cc
  nexts_free x d _ _ _ (Nexts.look_down f hs h ds n w r r' b) e a p = no_way cc
  nexts_free x d _ _ _ (Nexts.scans m f hs ds n i y z w r r' sa b) e a p = no_way cc

  -- no look of next is stale
  nexts_fresh : (m : Mode) (hs : List Hold) (k : Stage) → Nexts N σ g o m hs k → k ≡ look → m ≡ o.mode → hs ≡ o.held → Every (SoundAt σ) hs → Permits hs
      → (n : Hold) (j keys : ℕ) (v : picks.Sight) → Sees N σ.tree o n j keys v → v ≡ picks.stale → ⊥
  nexts_fresh _ _ _ Nexts.starts e me he a p x j keys v se q = no_way cc
  nexts_fresh _ _ _ (Nexts.take_key f hs y d w r b i) e me he a p x j keys v se q = no_way cc
  nexts_fresh _ _ _ (Nexts.check_key f h hs w r) e me he a p x j keys v se q = no_way cc
  nexts_fresh _ _ _ (Nexts.look_key f hs w r) e me he a p _ _ _ _ (Sees.along x m b) q =
      let k = all_good (f ∷ hs) a p in
      let z = newest_is f hs x (subst (λ (u : List Hold). slice_get u (length u - 1) ≡ Some x) (sym he) b) in
      fresh_look l.inv.tree key_bytes walk.held Good o.key still_good f hs ok.key (seen_good (walk.on f hs [] walk.look_key) w) k.0 k.1
      (subst (λ (h : Hold). key_sight N.deep σ.tree o.key h.at h.depth ≡ picks.stale) (sym z) q)
  nexts_fresh _ _ _ (Nexts.look_key f hs w r) e me he a p _ _ _ _ (Sees.going_back j x y m b c) q = no_way cc
  nexts_fresh _ _ _ (Nexts.look_key f hs w r) e me he a p _ _ _ _ (Sees.going_down at keys x m b) q = no_way cc
  nexts_fresh _ _ _ (Nexts.look_back f hs n w r i) e me he a p _ _ _ _ (Sees.along x m b) q = no_way cc
  nexts_fresh _ _ _ (Nexts.look_back f hs n w r i) e me he a p _ _ _ _ (Sees.going_back j x y m b c) q =
      let k = all_good (f ∷ hs) a p in
      let u : j ≡ n = cc in
      let z : walk.place f hs n ≡ x = nth_place f hs n x (subst₂ (λ (v : List Hold) (t : ℕ). slice_get v t ≡ Some x) (sym he) u b) in
      fresh_look_back l.inv.tree key_bytes walk.held Good o.key still_good f hs n (picks.taken walk.held o.key y) (seen_good (walk.on f hs [] (walk.look_back n)) w) k.0 k.1
      (subst (λ (h : Hold). back_sight N.deep σ.tree (picks.taken walk.held o.key y) h.at h.depth ≡ picks.stale) (sym z) q)
  nexts_fresh _ _ _ (Nexts.look_back f hs n w r i) e me he a p _ _ _ _ (Sees.going_down at keys x m b) q = no_way cc
  nexts_fresh _ _ _ (Nexts.take_down f hs ds n y d w r r' b i nr) e me he a p x j keys v se q = no_way cc
  nexts_fresh _ _ _ (Nexts.check_down f hs h ds n w r r' b) e me he a p x j keys v se q = no_way cc
  nexts_fresh _ _ _ (Nexts.look_down f hs h ds n w r r' i) e me he a p _ _ _ _ (Sees.along x m b) q = no_way cc
  nexts_fresh _ _ _ (Nexts.look_down f hs h ds n w r r' i) e me he a p _ _ _ _ (Sees.going_back j x y m b c) q = no_way cc
  nexts_fresh _ _ _ (Nexts.look_down f hs h ds n w r r' i) e me he a p _ _ _ _ (Sees.going_down at keys x m b) q =
      let k = all_split Good (f ∷ hs) (h ∷ ds) (all_good (f ∷ hs ++ h ∷ ds) a p) in
      let z = newest_is f (hs ++ h ∷ ds) x (subst (λ (u : List Hold). slice_get u (length u - 1) ≡ Some x) (sym he) b) in
      fresh_look_down l.inv.tree key_bytes walk.held Good o.key still_good f h hs ds n (seen_good (walk.on f hs (h ∷ ds) (walk.look_down n)) w) k.0.0 k.0.1 k.1
      (subst (λ (j : Hold). down_sight N.deep σ.tree j.at j.depth ≡ picks.stale) (sym z ∙ newest_append f hs h ds) q)
  nexts_fresh _ _ _ (Nexts.scans m f hs ds n i d y w r r' sa b) e me he a p x j keys v se q = no_way cc

  next_free : (x : Ref) (d : ℕ) → o.task ≡ op.next → o.stage ≡ op.take x d → Free x
  next_free x d t e =
      let f = nexts_free x d o.mode o.held o.stage (nexts_of t) e l.sound (l.inv.calm s o l.was t) in (f.0, f.1)

  next_fresh : o.task ≡ op.next → o.stage ≡ look → (n : Hold) (j keys : ℕ) → Sees N σ.tree o n j keys picks.stale → ⊥
  next_fresh t e n j keys v = nexts_fresh o.mode o.held o.stage (nexts_of t) e refl refl l.sound (l.inv.calm s o l.was t) n j keys picks.stale v refl

  -- where the walk stands when p or n is to be locked
  lock_stand : (c : Course) (is : List Item) (d : Option Drawn) (hs : List Hold) (a : Item) (rest : List Item) → Acts N Key σ g s o c is d hs → is ≡ a ∷ rest → grabs a ≡ true
      → (ks : List Hold) × (n : Hold) × (hs ≡ ks ++ n ∷ []) × Stand N σ g o ks n
  lock_stand _ _ _ _ a rest (Acts.to_lock c hs k so st pe de) e f = (hs, k, refl, st)
  lock_stand _ _ _ _ a rest (Acts.to_draw c w hs k so ad ol) e f = other_item grabs a draw f (cc) refl
  lock_stand _ _ _ _ a rest (Acts.to_insert w j hs k ol ld) e f = other_item grabs a write_n f (cc) refl
  lock_stand _ _ _ _ a rest (Acts.to_split w j u y hs k ol ld nd) e f = other_item grabs a write_n f (cc) refl
  lock_stand _ _ _ _ a rest (Acts.to_remove w j hs k ol) e f = other_item grabs a write_n f (cc) refl
  lock_stand _ _ _ _ a rest (Acts.to_unlock c hs k so pe lo li) e f = other_item grabs a unlock_n f (cc) refl
  lock_stand _ _ _ _ a rest (Acts.to_lock_p c q k pa st pe de) e f = (q ∷ [], k, refl, st)
  lock_stand _ _ _ _ a rest (Acts.to_lock_n c is q k pa it st lo pe de) e f = (q ∷ [], k, refl, st)
  lock_stand _ _ _ _ a rest (Acts.to_draw_both c w is q k pa it ad bl) e f = other_item grabs a draw f (cc) refl
  lock_stand _ _ _ _ a rest (Acts.to_grow w j y q k bl ld nd) e f = other_item grabs a write_p f (cc) refl
  lock_stand _ _ _ _ a rest (Acts.to_cut w i j y q k bl ld nd) e f = other_item grabs a write_n f (cc) refl
  lock_stand _ _ _ _ a rest (Acts.to_miss w i j y q k cu) e f = other_item grabs a write_p f (cc) refl
  lock_stand _ _ _ _ a rest (Acts.to_collapse w j i q k bl) e f = other_item grabs a write_p f (cc) refl
  lock_stand _ _ _ _ a rest (Acts.to_lock_m w j kd i q k bl) e f = other_item grabs a lock_m f (cc) refl
  lock_stand _ _ _ _ a rest (Acts.to_join w j q k n jo) e f = other_item grabs a write_m f (cc) refl
  lock_stand _ _ _ _ a rest (Acts.to_collapse_m w j q k n jo) e f = other_item grabs a write_p f (cc) refl
  lock_stand _ _ _ _ a rest (Acts.to_unlock_m c q k n pa lp lk lm ip re im) e f = other_item grabs a unlock_m f (cc) refl
  lock_stand _ _ _ _ a rest (Acts.to_unlock_gone c q k pa lp lk ip re) e f = other_item grabs a unlock_n_gone f (cc) refl
  lock_stand _ _ _ _ a rest (Acts.to_unlock_n w i q k lp lk ip ik) e f = other_item grabs a unlock_n f (cc) refl
  lock_stand _ _ _ _ a rest (Acts.to_unlock_p c q pa lp ip) e f = other_item grabs a unlock_p f (cc) refl

  -- what a walk holds besides its newest entry is elsewhere
  stand_apart : (ks : List Hold) (n : Hold) → Stand N σ g o ks n → Every (SoundAt σ) (ks ++ n ∷ []) → Every (λ h. h.at ≡ n.at → ⊥) ks
  stand_apart _ _ (at_root n e d p) a = tt
  stand_apart _ _ (below p n b q) a =
      let x = (b.placed a.0).2 in
      let y = (q a.1.0).2 in
      ((λ e. let z : length (g.path p.at) ≡ length (g.path n.at) = ap (λ (v : Ref). length (g.path v)) e in omega (arith, z, x, y, b.deeper)), tt)

  -- an unlock ends a lock
  unlock_locked : (c : Course) (is : List Item) (d : Option Drawn) (hs : List Hold) (a : Item) (rest : List Item) → Acts N Key σ g s o c is d hs → is ≡ a ∷ rest → ends a ≡ true
      → (ks : List Hold) (x : Hold) → hs ≡ ks ++ x ∷ [] → IsLocked x
  unlock_locked _ _ _ _ a rest (Acts.to_lock c hs k so st pe de) e f ks x h = let i = solo_items c so in let z = i.1 in other_item ends a lock_n f (cc) refl
  unlock_locked _ _ _ _ a rest (Acts.to_draw c w hs k so ad ol) e f ks x h = other_item ends a draw f (cc) refl
  unlock_locked _ _ _ _ a rest (Acts.to_insert w j hs k ol ld) e f ks x h = other_item ends a write_n f (cc) refl
  unlock_locked _ _ _ _ a rest (Acts.to_split w j u y hs k ol ld nd) e f ks x h = other_item ends a write_n f (cc) refl
  unlock_locked _ _ _ _ a rest (Acts.to_remove w j hs k ol) e f ks x h = other_item ends a write_n f (cc) refl
  unlock_locked _ _ _ _ a rest (Acts.to_unlock c hs k so pe lo li) e f ks x h = subst IsLocked (snoc_one hs ks k x h).1 lo
  unlock_locked _ _ _ _ a rest (Acts.to_lock_p c q k pa st pe de) e f ks x h = let i = pair_items c pa in let z = i.1 in other_item ends a lock_p f (cc) refl
  unlock_locked _ _ _ _ a rest (Acts.to_lock_n c is q k pa it st lo pe de) e f ks x h = other_item ends a lock_n f (cc) refl
  unlock_locked _ _ _ _ a rest (Acts.to_draw_both c w is q k pa it ad bl) e f ks x h = other_item ends a draw f (cc) refl
  unlock_locked _ _ _ _ a rest (Acts.to_grow w j y q k bl ld nd) e f ks x h = other_item ends a write_p f (cc) refl
  unlock_locked _ _ _ _ a rest (Acts.to_cut w i j y q k bl ld nd) e f ks x h = other_item ends a write_n f (cc) refl
  unlock_locked _ _ _ _ a rest (Acts.to_miss w i j y q k cu) e f ks x h = other_item ends a write_p f (cc) refl
  unlock_locked _ _ _ _ a rest (Acts.to_collapse w j i q k bl) e f ks x h = other_item ends a write_p f (cc) refl
  unlock_locked _ _ _ _ a rest (Acts.to_lock_m w j kd i q k bl) e f ks x h = other_item ends a lock_m f (cc) refl
  unlock_locked _ _ _ _ a rest (Acts.to_join w j q k n jo) e f ks x h = other_item ends a write_m f (cc) refl
  unlock_locked _ _ _ _ a rest (Acts.to_collapse_m w j q k n jo) e f ks x h = other_item ends a write_p f (cc) refl
  unlock_locked _ _ _ _ a rest (Acts.to_unlock_m c q k n pa lp lk lm ip re im) e f ks x h = subst IsLocked (snoc_one (q ∷ k ∷ []) ks n x h).1 lm
  unlock_locked _ _ _ _ a rest (Acts.to_unlock_gone c q k pa lp lk ip re) e f ks x h = subst IsLocked (snoc_one (q ∷ []) ks k x h).1 lk
  unlock_locked _ _ _ _ a rest (Acts.to_unlock_n w i q k lp lk ip ik) e f ks x h = subst IsLocked (snoc_one (q ∷ []) ks k x h).1 lk
  unlock_locked _ _ _ _ a rest (Acts.to_unlock_p c q pa lp ip) e f ks x h = subst IsLocked (snoc_one [] ks q x h).1 lp

  -- m is linked and not held, and p and n are locked
  m_free : (c : Course) (is : List Item) (d : Option Drawn) (hs : List Hold) (rest : List Item) (v i : ℕ) (m : Ref) → Acts N Key σ g s o c is d hs → is ≡ lock_m ∷ rest → c ≡ collapse v i m → hs ≡ o.held → IsNode m × Free m × Every IsLocked hs
  m_free _ _ _ _ rest v b m (Acts.to_lock c hs k so st pe de) e f h = let z = (solo_items c so).1 in no_way cc
  m_free _ _ _ _ rest v b m (Acts.to_draw c w hs k so ad ol) e f h = no_way cc
  m_free _ _ _ _ rest v b m (Acts.to_insert w j hs k ol ld) e f h = no_way cc
  m_free _ _ _ _ rest v b m (Acts.to_split w j u y hs k ol ld nd) e f h = no_way cc
  m_free _ _ _ _ rest v b m (Acts.to_remove w j hs k ol) e f h = no_way cc
  m_free _ _ _ _ rest v b m (Acts.to_unlock c hs k so pe lo li) e f h = no_way cc
  m_free _ _ _ _ rest v b m (Acts.to_lock_p c q k pa st pe de) e f h = let z = (pair_items c pa).1 in no_way cc
  m_free _ _ _ _ rest v b m (Acts.to_lock_n c is q k pa it st lo pe de) e f h = no_way cc
  m_free _ _ _ _ rest v b m (Acts.to_draw_both c w is q k pa it ad bl) e f h = no_way cc
  m_free _ _ _ _ rest v b m (Acts.to_grow w j y q k bl ld nd) e f h = no_way cc
  m_free _ _ _ _ rest v b m (Acts.to_cut w i j y q k bl ld nd) e f h = no_way cc
  m_free _ _ _ _ rest v b m (Acts.to_miss w i j y q k cu) e f h = no_way cc
  m_free _ _ _ _ rest v b m (Acts.to_collapse w j i q k bl) e f h = no_way cc
  m_free _ _ _ _ rest v b m (Acts.to_lock_m w j kd c p n bl) e f h =
      let q : node kd c ≡ m = cc in
      let lo : SoundAt σ p × SoundAt σ n = (locked_sound (σ.words p.at) p.grip bl.above, locked_sound (σ.words n.at) n.grip bl.locked) in
      let ab = stood (p ∷ []) p n bl.stand refl in
      let pp = ab.0.placed lo.0 in
      let pn = ab.1 lo.1 in
      let lc = left_child σ.tree n.at (key_byte σ.tree o.key n) (node kd c) (collapse_left σ.tree o.key n o.task _ w j (node kd c) (bl.decides lo.1)) in
      let kid = l.inv.tree.kid n.at lc.0 (node kd c) pn.0 lc.1 in
      let inner = (entry_reads l.inv s o l.was n (subst (In n) h (inr (inl refl)))).0 in
      let a : length (g.path (node kd c)) ≡ suc (length (g.full n.at)) = ap length kid.1 ∙ snoc_len (g.full n.at) lc.0 in
      let t = ≼_len (g.path n.at) (g.full n.at) (l.inv.tree.split n.at inner pn.0).0 in
      let low : Every (λ j. length (g.path j.at) < suc (length (g.full n.at))) (p ∷ n ∷ []) = (omega (arith, t, pp.2, pn.2, ab.0.deeper), (omega (arith, t), tt)) in
      subst (λ (y : Ref). IsNode y × Free y × Every IsLocked (p ∷ n ∷ [])) q (
        tt,
        (kid.0, shorter (node kd c) (suc (length (g.full n.at))) a o.held (subst (Every (λ j. length (g.path j.at) < suc (length (g.full n.at)))) h low)),
        (bl.above, (bl.locked, tt)),
      )
  m_free _ _ _ _ rest v b m (Acts.to_join w j q k n jo) e f h = no_way cc
  m_free _ _ _ _ rest v b m (Acts.to_collapse_m w j q k n jo) e f h = no_way cc
  m_free _ _ _ _ rest v b m (Acts.to_unlock_m c q k n pa lp lk lm ip re im) e f h = no_way cc
  m_free _ _ _ _ rest v b m (Acts.to_unlock_gone c q k pa lp lk ip re) e f h = no_way cc
  m_free _ _ _ _ rest v b m (Acts.to_unlock_n w i q k lp lk ip ik) e f h = no_way cc
  m_free _ _ _ _ rest v b m (Acts.to_unlock_p c q pa lp ip) e f h = no_way cc

  -- what is held besides an entry that is locked next is elsewhere
  grab_apart : (hs : List Hold) (n : Hold) → o.held ≡ hs ++ n ∷ [] → (a : Item) → grabs a ≡ true → (rest : List Item) (c : Course) (d : Option Drawn) → o.stage ≡ act c (a ∷ rest) d → Every (λ h. h.at ≡ n.at → ⊥) hs
  grab_apart hs n h a f rest c d q =
      let t = lock_stand c (a ∷ rest) d o.held a rest (acting ok c (a ∷ rest) d q).2 refl f in
      let e = snoc_one t.0 hs t.1 n (sym t.2 ∙ h) in
      subst (Every (λ j. j.at ≡ n.at → ⊥)) e.0 (subst (λ (k : Hold). Every (λ j. j.at ≡ k.at → ⊥) t.0) e.1 (stand_apart t.0 t.1 t.3 (subst (Every (SoundAt σ)) t.2 l.sound)))

  two_apart : (p n : Hold) → o.held ≡ p ∷ n ∷ [] → (a : Item) → grabs a ≡ true → (rest : List Item) (c : Course) (d : Option Drawn) → o.stage ≡ act c (a ∷ rest) d → n.at ≡ p.at → ⊥
  two_apart p n h a f rest c d q e = (grab_apart (p ∷ []) n h a f rest c d q).0 (sym e)

  -- its word has no share but its own
  shares_last : (hs : List Hold) (n : Hold) → o.held ≡ hs ++ n ∷ [] → Every (λ h. h.at ≡ n.at → ⊥) hs → (σ.words n.at).shares ≤ grip_weight n.grip
  unfolding tally
  shares_last hs n h f =
      let a : tally grip_weight n.at o.held ≡ tally grip_weight n.at (hs ++ n ∷ []) = ap (tally grip_weight n.at) h in
      omega (arith, a, own_shares n.at, tally-++ grip_weight n.at hs (n ∷ []), tally_none grip_weight n.at hs f, only_yes (n.at ≡ n.at) (same n.at n.at) (grip_weight n.grip) refl)

  shares_first : (p n : Hold) → o.held ≡ p ∷ n ∷ [] → (n.at ≡ p.at → ⊥) → (σ.words p.at).shares ≤ grip_weight p.grip
  unfolding tally
  shares_first p n h f =
      let a : tally grip_weight p.at o.held ≡ tally grip_weight p.at (p ∷ n ∷ []) = ap (tally grip_weight p.at) h in
      omega (arith, a, own_shares p.at, only_yes (p.at ≡ p.at) (same p.at p.at) (grip_weight p.grip) refl, only_no (n.at ≡ p.at) (same n.at p.at) (grip_weight n.grip) f)

  -- no item is refused
  not_refused : (c : Course) (a : Item) (rest : List Item) (d : Option Drawn) (e : Cause) (x : Ref) (y : ℕ) → o.stage ≡ act c (a ∷ rest) d → Refuses N σ o c a e x y → ⊥
  not_refused c _ rest d e _ _ q (Refuses.at_p p n h r) =
      let t = two_apart p n h (lock_p) refl rest c d q in
      none_some (sym (lock_passes p.grip (σ.words p.at) (sound_in p (subst (In p) (sym h) (inl refl))) (shares_first p n h t)) ∙ r)
  not_refused c _ rest d e _ _ q (Refuses.at_n hs n h r) =
      none_some (sym (lock_passes n.grip (σ.words n.at) (sound_in n (subst (In n) (sym h) (in_last hs n))) (shares_last hs n h (grab_apart hs n h lock_n refl rest c d q))) ∙ r)
  not_refused _ _ rest d e _ _ q (Refuses.taking_m {v = v} {l = i} {m = m} hs n h r) =
      let f = m_free (collapse v i m) (lock_m ∷ rest) d o.held rest v i m (acting ok (collapse v i m) (lock_m ∷ rest) d q).2 refl refl refl in
      none_some (sym (may_take m f.0 f.1.0 f.1.1) ∙ r)
  not_refused _ _ rest d e _ _ q (Refuses.locking_m {v = v} {l = i} {m = m} hs n h r k) =
      let f = m_free (collapse v i m) (lock_m ∷ rest) d o.held rest v i m (acting ok (collapse v i m) (lock_m ∷ rest) d q).2 refl refl refl in
      let w : ℕ = N.weight o.restarts in
      let b = free_here m f.1.1 in
      none_some (sym (lock_passes (Grip.Permit (σ.words m).count w) (shared w (σ.words m)) (linked_here m f.0 f.1.0, b.0, refl) (omega (arith, b.1))) ∙ k)

  -- what is held is not spare
  not_spare : (k : Kind) (j : ℕ) (ns : List Ref) → σ.spare (room k) ≡ node k j ∷ ns → (h : Hold) → In h o.held → h.at ≡ node k j → ⊥
  not_spare k j ns e h m q =
      let c : 0 < count (node k j) (σ.spare (room k)) = subst (λ (v : List Ref). 0 < count (node k j) v) (sym e) (omega (arith, true_bit (is (node k j) (node k j)) (is_self (node k j)))) in
      safe_not_spare o.begun g h.at (entry_reads l.inv s o l.was h m).1 (ap g.mark q ∙ (l.inv.queued (node k j) (room k) c).0)

  -- when a lock ends, the permits are elsewhere
  loose_sound : (x : Hold) (w : Meaning) (ks : List Hold) → o.held ≡ ks ++ x ∷ [] → IsLocked x → Every (λ h. Sound (put σ.words x.at w h.at) h.grip) ks
  loose_sound x w ks h e = every_all (λ j. Sound (put σ.words x.at w j.at) j.grip) ks (λ j m. by j (sound_in j (subst (In j) (sym h) (in_front j ks (x ∷ []) m))) j.grip refl)
    where
      shut_word : (σ.words x.at).locked ≡ true
      shut_word = entry_locked l.inv s o l.was x (subst (In x) (sym h) (in_last ks x)) e

      by : (j : Hold) → SoundAt σ j → (k : Grip) → j.grip ≡ k → Sound (put σ.words x.at w j.at) j.grip
      by j a (Grip.Permit c v) p = put_sound σ.words x.at w j
          (λ q. true_false (σ.words x.at).locked shut_word (subst (λ (y : Ref). (σ.words y).locked ≡ false) q (subst (λ (v : Grip). Sound (σ.words j.at) v) p a).1)) a
      by j a Grip.Locked p = locked_sound (put σ.words x.at w j.at) j.grip p

by_words : {f : Ref → Meaning} (τ : State) → WordsAre f τ → (hs : List Hold) → Every (λ h. Sound (f h.at) h.grip) hs → Every (SoundAt τ) hs
by_words τ v [] a = tt
by_words τ v (h ∷ hs) a = (subst (λ (m : Meaning). Sound m h.grip) (sym (v h.at)) a.0, by_words τ v hs a.1)

locks_sound : (f : Ref → Meaning) (hs : List Hold) → Every IsLocked hs → Every (λ h. Sound (f h.at) h.grip) hs
locks_sound f [] a = tt
locks_sound f (h ∷ hs) a = (locked_sound (f h.at) h.grip a.0, locks_sound f hs a.1)

module _ (τ : State) {N : Numbers} {Key : List ℕ → Type 0} {σ : State} {g : Ghosts} {s : ℕ} {o : Operation} (l : Lone N Key σ g s o) where
  -- an item that is done leaves the other entries sound
  item_sound : (c : Course) (a : Item) (rest : List Item) (d d' : Option Drawn) (f : Ref → Meaning) (hs : List Hold) → o.stage ≡ act c (a ∷ rest) d → Does N σ τ o c a d f hs d' → WordsAre f τ → Every (SoundAt τ) hs
  item_sound c _ rest d _ _ _ q (Does.locks_p p n h r k) v =
      by_words τ v (locked p ∷ n ∷ []) (tt, (put_sound σ.words p.at (shut (σ.words p.at)) n (two_apart l p n h lock_p refl rest c d q) (sound_in l n (subst (In n) (sym h) (inr (inl refl)))), tt))
  item_sound c _ rest d _ _ _ q (Does.locks_n hs n h r k) v =
      by_words τ v (hs ++ locked n ∷ []) (every_snoc (λ j. Sound (put σ.words n.at (shut (σ.words n.at)) j.at) j.grip) hs (locked n)
      (puts_sound σ.words n.at (shut (σ.words n.at)) hs (grab_apart l hs n h lock_n refl rest c d q) (every_all (SoundAt σ) hs (λ j m. sound_in l j (subst (In j) (sym h) (in_front j hs (n ∷ []) m))))) tt)
  item_sound _ _ rest d _ _ _ q (Does.locks_m {v = a} {l = i} {m = m} hs n h r k t) v =
      let f = m_free l (collapse a i m) (lock_m ∷ rest) d o.held rest a i m (acting (ok l) (collapse a i m) (lock_m ∷ rest) d q).2 refl refl refl in
      by_words τ v (o.held ++ record { at = m; depth = suc (n.depth + length (prefix σ.tree n.at)); grip = Grip.Locked } ∷ [])
      (every_snoc (λ j. Sound (put σ.words m (shut (σ.words m)) j.at) j.grip) o.held _ (locks_sound (put σ.words m (shut (σ.words m))) o.held f.2) tt)
  item_sound c _ rest _ _ _ _ q (Does.draws_leaf ks n w i ls h a b k r t y z) v = by_words τ v o.held l.sound
  item_sound c _ rest _ _ _ _ q (Does.draws_both ks n w i j kind filled ls ns h a b k r t y z x u e m) v =
      by_words τ v o.held (puts_sound σ.words (node kind j) (revived (σ.words (node kind j))) o.held (every_all (λ b. b.at ≡ node kind j → ⊥) o.held (λ b i. not_spare l kind j ns t b i)) l.sound)
  item_sound _ _ rest _ _ _ _ q (Does.inserts w i ks n h k) v = by_words τ v o.held l.sound
  item_sound _ _ rest _ _ _ _ q (Does.splits ks n h k) v = by_words τ v o.held l.sound
  item_sound _ _ rest _ _ _ _ q (Does.grows w i p n h k) v = by_words τ v o.held l.sound
  item_sound _ _ rest _ _ _ _ q (Does.cuts ks n h k a b) v = by_words τ v o.held l.sound
  item_sound _ _ rest _ _ _ _ q (Does.misses p n h k) v = by_words τ v o.held l.sound
  item_sound _ _ rest _ _ _ _ q (Does.removes ks n h k) v = by_words τ v o.held l.sound
  item_sound _ _ rest _ _ _ _ q (Does.joins w i b p n m h k x y z) v = by_words τ v o.held l.sound
  item_sound _ _ rest _ _ _ _ q (Does.collapses x p n ms h k) v = by_words τ v o.held l.sound
  item_sound c a rest d _ _ _ q (Does.unlocks ks x p h k) v = by_words τ v ks (loose_sound l x (freed (σ.words x.at)) ks h (unlock_locked l c (a ∷ rest) d o.held a rest (acting (ok l) c (a ∷ rest) d q).2 refl (plain_ends a p) ks x h))
  item_sound c _ rest d _ _ _ q (Does.unlocks_gone ks x h k) v =
      by_words τ v ks (loose_sound l x (freed_gone (σ.words x.at)) ks h (unlock_locked l c (unlock_n_gone ∷ rest) d o.held unlock_n_gone rest (acting (ok l) c (unlock_n_gone ∷ rest) d q).2 refl refl ks x h))

  abbrev Goes : Seat → Outcome → Type 0
  Goes z r = ((c : Cause) (x : Ref) (d : ℕ) → r ≡ again c x d → ⊥) × ((u : Operation) → z ≡ busy u → AllSound τ u)

  goes_to : (m : Mode) (hs : List Hold) (k : Stage) → Every (SoundAt τ) hs → Goes (with o m hs k) go
  goes_to m hs k a = ((λ c x d e. no_way cc), (λ u e. moved o u m hs k (SoundAt τ) e a))

  ended : {f : Ref → Meaning} {hs : List Hold} {a : Answer} (z : Seat) (r : Outcome) → Ends f hs τ a z r → Goes z r
  ended z r q = let x = q.seat in let y = q.outcome in ((λ c n d e. no_way cc), (λ u e. no_way cc))

  follows : (c : Course) (f : Ref → Meaning) (hs : List Hold) (d : Option Drawn) (is : List Item) (z : Seat) (r : Outcome) → Follows o τ c f hs d is z r → (WordsAre f τ → Every (SoundAt τ) hs) → Goes z r
  follows c f hs d _ _ _ (Follows.more {a} {rest} v) k = goes_to o.mode hs (act c (a ∷ rest) d) (k v)
  follows c f hs d _ z r (Follows.over q) k = ended z r q

  still : WordsAre σ.words τ → Every (SoundAt τ) o.held
  still v = by_words τ v o.held l.sound

  -- the entries after a check of p
  kept_sound : (b : Bool) → WordsAre (let_go_all (cond b [] (take (length o.held - 2) o.held)) σ.words) τ → Permits o.held → Every (SoundAt τ) (cond b o.held (drop (length o.held - 2) o.held))
  kept_sound true v p = still v
  kept_sound false v p = every_drop (SoundAt τ) (length o.held - 2) o.held (every_all (SoundAt τ) o.held (λ h m.
      subst (λ (w : Meaning). Sound w h.grip) (sym (v h.at)) (alike_sound (σ.words h.at) (let_go_all (take (length o.held - 2) o.held) σ.words h.at) h.grip
      (give_alike (take (length o.held - 2) o.held) (permits_take (length o.held - 2) o.held p) σ.words h.at) (sound_in l h m))))

  permits_here : o.stage ≡ check_p → Permits o.held
  permits_here e = ⊎_elim (λ w. check_permits l o.held o.stage w.2 e) (λ w. l.inv.calm s o l.was w.0) (ok l).doing

  -- a take is not refused
  take_free : (x : Ref) (d : ℕ) → o.stage ≡ op.take x d → take_refusal N.limit (σ.words x) ≡ None
  take_free x d e =
      let f = ⊎_elim (λ w. walk_free l x d o.held o.stage w.2 e refl) (λ w. next_free l x d w.0 e) (ok l).doing in
      may_take l x (aimed o.stage (ok l).aims x d e) f.0 f.1

  -- a look is not stale
  look_fresh : o.stage ≡ look → is_next o.task ≡ false → (hs : List Hold) (n : Hold) → o.held ≡ hs ++ n ∷ [] → sight.seen N.deep σ.tree o.key n.at n.depth ≡ sight.stale → ⊥
  look_fresh e t hs n h q = ⊎_elim
      (λ w. let a = look_at l o.held o.stage w.2 e in
      let same = (snoc_one a.0 hs a.1 n (sym a.2 ∙ h)).1 in
      let m : In a.1 o.held = subst (In a.1) (sym a.2) (in_last a.0 a.1) in
      sees l.inv.tree a.1.at o.key a.1.depth (at_held l a.1 m a.4 a.3) (ok l).key sight.stale (ap (λ (v : Hold). sight.seen N.deep σ.tree o.key v.at v.depth) same ∙ q))
      (λ w. true_false (is_next o.task) (ap is_next w.0) t) (ok l).doing

  passes : (h : Hold) (c : Cause) → In h o.held → check_by h.grip (σ.words h.at) ≡ Some c → ⊥
  passes h c m e = none_some (sym (check_passes h.grip (σ.words h.at) (sound_in l h m)) ∙ e)

  row_goes : {z : Seat} {r : Outcome} → Row N σ τ o z r → Goes z r
  row_goes (Row.takes x d q a b v) =
      let w : ℕ = N.weight o.restarts in
      let free = none_applies (σ.words x).gone (σ.words x).locked false (eqb (σ.words x).shares N.limit) a in
      let alike : (y : Ref) → Alike (σ.words y) (put σ.words x (shared w (σ.words x)) y) = put_alike σ.words x (shared w (σ.words x)) (refl, refl, refl) in
      let n : Hold = record { at = x; depth = d; grip = Grip.Permit (σ.words x).count w } in
      goes_to o.mode (o.held ++ n ∷ []) (after_take x) (by_words τ v (o.held ++ n ∷ []) (every_snoc (λ h. Sound (put σ.words x (shared w (σ.words x)) h.at) h.grip) o.held n
      (every_all (λ h. Sound (put σ.words x (shared w (σ.words x)) h.at) h.grip) o.held (λ h m. alike_sound (σ.words h.at) (put σ.words x (shared w (σ.words x)) h.at) h.grip (alike h.at) (sound_in l h m)))
      (alike_sound (σ.words x) (put σ.words x (shared w (σ.words x)) x) n.grip (alike x) (free.0, free.1, refl))))
  row_goes (Row.takes_not x d c q a b) = absurd (none_some (sym (take_free x d q) ∙ a))
  row_goes (Row.checks_p p q a b c v) = goes_to o.mode (kept_p o.task o.held) look (kept_sound (is_next o.task) v (permits_here q))
  row_goes (Row.checks_p_not p c q a b w) = absurd (passes p c (parent_in o.mode o.held p a) b)
  row_goes (Row.looks_on hs n y d q a b c f v) = goes_to o.mode o.held (op.take y d) (still v)
  row_goes (Row.looks_decides hs n k q a b c f v) = goes_to o.mode o.held k (still v)
  row_goes (Row.looks_stale hs n q a b c w) = absurd (look_fresh q a hs n b c)
  row_goes {z} {r} (Row.checks_n a hs n q b c f w) = ended z r w
  row_goes (Row.checks_n_not a hs n c q b f w) = absurd (passes n c (subst (In n) (sym b) (in_last hs n)) f)
  row_goes {z} (Row.picks_on n j keys v q a b c f w) = ((λ c x d e. no_way cc), (λ u e. picked_held σ.tree o u j keys v (SoundAt τ) (c ∙ ap Some e) (still w)))
  row_goes (Row.picks_stale n j keys q a b w) = absurd (next_fresh l (is_next_lem o.task a) q n j keys b)
  row_goes (Row.scans i a k q b c n f v) = goes_to o.mode o.held (scan (suc i) a) (still v)
  row_goes {z} {r} (Row.scans_last i a k q b c n f w) = ended z r w
  row_goes (Row.scans_not i a k c q b f w) = absurd (passes k c (nth_in o.held i k b) f)
  row_goes {z} {r} (Row.acts c a rest d d' f hs q b w) = follows c f hs d' rest z r w (item_sound c a rest d d' f hs q b)
  row_goes (Row.acts_not c a rest d x y i q b w) = absurd (not_refused l c a rest d x y i q b)
  row_goes {z} {r} (Row.no_room c rest d n q a b f w) = ended z r w

-- a step does not start again, and every entry after it would pass again
pub alone_goes : {N : Numbers} {Key : List ℕ → Type 0} {σ τ : State} {g : Ghosts} {s : ℕ} {o : Operation} {z : Seat} {r : Outcome} → Step N Key σ τ g s o z r → HoldsAlone σ s → AllSound σ o → Row N σ τ o z r
    → ((c : Cause) (x : Ref) (d : ℕ) → r ≡ again c x d → ⊥) × ((u : Operation) → z ≡ busy u → AllSound τ u)
alone_goes {τ = τ} st a k w = row_goes τ (record { lawful = st.lawful; inv = st.inv; was = st.was; others = a; sound = k }) w
