-- Every step is a run of its seat on the words, and leaves each word fit for its node's place.
use Rattle.std.proofs.Common.{◌≡◌, ℕ, zero, suc, ◌+◌, ◌-◌, ◌<◌, ◌≤◌, Bool, true, false, cond, eqb, ◌⊎◌, List, [], ◌∷◌, ◌++◌, length, take, drop, Some, None, Option, sym, refl, ap, ◌∙◌, subst, inl, inr, ⊎_elim, arith}
use Rattle.terms.specs.declared.Cause.{Cause}
use Rattle.latches.specs.declared.word.Meaning.{Meaning}
use Rattle.model.specs.Refs.{Ref, leaf, node, is, IsNode, Kind, room}
use Rattle.model.specs.Tree.{Tree, prefix, Status, Linked}
use Rattle.model.specs.Holds.{Grip, Hold, put, let_go_all, let_go}
use Rattle.model.specs.Operations as op
use Rattle.model.specs.Operations.{Operation, Task, Answer, Course, items, Item, lock_p, lock_n, lock_m, draw, write_n, write_m, write_p, unlock_m, unlock_n, unlock_n_gone, unlock_p, Drawn, Mode, by_key, back, down, Stage, look, act, scan, Seat, Outcome, go}
use Rattle.machine.specs.State.{State, Numbers, WordsAre, with, Restarts, Ends}
use Rattle.machine.specs.Items.{lock_by, locked, Plain, Does}
use Rattle.machine.specs.Steps.{is_next, above_p, kept_p, pair_at, picked, Refuses, Follows, Row}
use Rattle.invariant.specs.Ghosts.{Ghosts, ghost, place_of, place_at, held_by, words_of, IsPermit, IsLocked, Permits}
use Rattle.invariant.specs.Seats.{Placed, Stand, at_root, below, Reads}
use Rattle.invariant.specs.Courses.{Solo, inserting, splitting, removing, Pair, growing, missing, collapsing, Acts}
use Rattle.invariant.specs.Invariant.{Walks, SeatOk}
use Rattle.invariant.proofs.Setting.{Step, linked_mark, retired_mark, none_applies, lock_sound, no_way, next_acts, snoc_one, last_permit}
use Rattle.model_words.specs.Words as words
use Rattle.model_words.specs.Words.{Sound, Every}
use Rattle.model_words.specs.Effects.{Turn, MayTake, MayLock, Run, spot, seat_put}
use Rattle.model_words.specs.Effects as effects
use Rattle.model_words.specs.Places.{Place, PlacesOk, Proper, NoneRetired}
use Rattle.model_words.proofs.Release.{put_same, put_else, seat_same, seat_else}
use Rattle.model_words.proofs.Places.{places}
use Rattle.std.proofs.lemmas.Bool.{eqb-false}
use Rattle.model_next.specs.Look as picks
use Rattle.model_slots.specs.Slots.{count}
use Rattle.model_slots.proofs.Lists.{true_bit, is_self}
use Rattle.latches.specs.Rules.{take_refusal, lock_refusal, noted, shared, returned, held as shut, freed, freed_gone, revived}
use Rattle.std.proofs.lemmas.List.{take-append-drop, append-nil}

-- effects of the seat i one after another, each proper in its place where Q holds
data Runs (limit i : ℕ) (Q : Type 0) (at : Ref → Place) (S : words.State) : words.State → Type 0 where
  stop : Runs limit i Q at S S
  more : {M : words.State} (x : Ref) (T : words.State) → Runs limit i Q at S M → (a : effects.Does limit i x M T) → (Q → Proper (at x) a) → Runs limit i Q at S T

module _ {limit i : ℕ} {Q : Type 0} {at : Ref → Place} where
  run_of : {S T : words.State} → Runs limit i Q at S T → Run limit (λ k. k ≡ i) S T
  run_of Runs.stop = Run.stop
  run_of (Runs.more x T r a p) = Run.more i x T (run_of r) refl a

  places_of : {S T : words.State} → Q → Runs limit i Q at S T → PlacesOk at S.words → PlacesOk at T.words
  places_of q Runs.stop ok = ok
  places_of q (Runs.more x T r a p) ok = places at a (p q) (places_of q r ok)

  -- one run after another
  then : {S M T : words.State} → Runs limit i Q at S M → Runs limit i Q at M T → Runs limit i Q at S T
  then r Runs.stop = r
  then r (Runs.more x T u a p) = Runs.more x T (then r u) a p

  -- a run of one effect
  one : {x : Ref} {S T : words.State} → (a : effects.Does limit i x S T) → (Q → Proper (at x) a) → Runs limit i Q at S T
  one {x} {S} {T} a p = Runs.more x T Runs.stop a p

  -- the first entry is let go
  first : (S : words.State) (x : Ref) (d : ℕ) (k : Grip) (hs : List Hold) → i < 8 → S.held i ≡ record { at = x; depth = d; grip = k } ∷ hs → (Q → k ≡ Grip.Locked → at x ≡ Place.retired → ⊥)
      → Runs limit i Q at S (effects.act S i x hs (let_go k (S.words x)) S.accepted)
  first S x d k hs l e n = go k e n
    where
      turn : (k : Grip) → S.held i ≡ record { at = x; depth = d; grip = k } ∷ hs → Turn S (effects.act S i x hs (let_go k (S.words x)) S.accepted) i x d (Some k) None
      turn k e = record {
        seat = l;
        before = [];
        after = hs;
        was = e;
        is = seat_same S.held i hs;
        others = seat_else S.held i hs;
        words = λ y n. put_else S.words x y (let_go k (S.words x)) n;
      }

      go : (k : Grip) → S.held i ≡ record { at = x; depth = d; grip = k } ∷ hs → (Q → k ≡ Grip.Locked → at x ≡ Place.retired → ⊥) → Runs limit i Q at S (effects.act S i x hs (let_go k (S.words x)) S.accepted)
      go (Grip.Permit c w) e n = one (effects.Does.give d c w (turn (Grip.Permit c w) e) (put_same S.words x (returned w (S.words x))) (omega arith)) (λ q. tt)
      go Grip.Locked e n = one (effects.Does.unlock d (turn Grip.Locked e) (put_same S.words x (freed (S.words x))) (omega arith)) (λ q. n q refl)

  -- the first entries are let go, the rest stays
  drops : (fs bs : List Hold) (S T : words.State) → i < 8 → S.held i ≡ fs ++ bs → T.held i ≡ bs → ((j : ℕ) → (j ≡ i → ⊥) → T.held j ≡ S.held j)
      → ((y : Ref) → T.words y ≡ let_go_all fs S.words y) → S.accepted ≤ T.accepted → (Q → NoneRetired at fs) → Runs limit i Q at S T
  drops [] bs S T l s e o w t n =
      let x : Ref = leaf 0 in
      one {x = x} (effects.Does.pass 0 (record { seat = l; before = []; after = bs; was = s; is = e; others = o; words = λ y _. w y }) (w x) t) (λ q. tt)
  drops (h ∷ fs) bs S T l s e o w t n =
      let M : words.State = effects.act S i h.at (fs ++ bs) (let_go h.grip (S.words h.at)) S.accepted in
      then (first S h.at h.depth h.grip (fs ++ bs) l s (λ q. (n q).0))
      (drops fs bs M T l (seat_same S.held i (fs ++ bs)) e (λ j m. o j m ∙ sym (seat_else S.held i (fs ++ bs) j m)) w t (λ q. (n q).1))

-- a linked node's place is not that of a retired one
linked_place : {P : Type 0} (g : Ghosts) (x : Ref) → Linked (ghost g) x → place_at g x ≡ Place.retired → P
linked_place g (leaf j) l e = no_way cc
linked_place g (node k j) l e = let m : place_of (g.mark (node k j)) ≡ Place.linked = ap place_of (linked_mark (g.mark (node k j)) l) in no_way cc

-- a retired node has the place of a retired one
retired_place : (g : Ghosts) (x : Ref) (r : ℕ) → IsNode x → (ghost g).st x ≡ Status.retired r → place_at g x ≡ Place.retired
retired_place g (leaf j) r n e = absurd n
retired_place g (node k j) r n e = ap place_of (retired_mark (g.mark (node k j)) r e)

-- among permits nothing is locked
permits_none : (at : Ref → Place) (hs : List Hold) → Permits hs → NoneRetired at hs
permits_none at [] p = tt
permits_none at (h ∷ hs) p = ((λ l. let e = p.0.2 in no_way cc), permits_none at hs p.1)

-- whether items are left
abbrev More : List Item → Type 0
More [] = ⊥
More (a ∷ is) = Unit {0}

module _ (g : Ghosts) where
  -- nothing that is held is both locked and retired
  abbrev Fine : List Hold → Type 0
  Fine hs = NoneRetired (place_at g) hs

  -- the newest entry is locked on what is not retired, and ends a course only where the rest may be let go
  abbrev Frees : List Item → List Hold → Type 0
  Frees rest hs = (ks : List Hold) × (x : Hold) × (hs ≡ ks ++ x ∷ []) × IsLocked x × (place_at g x.at ≡ Place.retired → ⊥) × (More rest ⊎ Fine ks)

  -- what the items of a course need of what is held
  abbrev Fits : List Item → List Hold → Type 0
  Fits [] hs = Unit {0}
  Fits (lock_p ∷ is) hs = More is × Fine hs × ((p : Hold) × (ks : List Hold) × (hs ≡ p ∷ ks) × IsPermit p)
  Fits (lock_n ∷ is) hs = More is × Fine hs × ((ks : List Hold) × (n : Hold) × (hs ≡ ks ++ n ∷ []) × IsPermit n)
  Fits (lock_m ∷ is) hs = More is × Fine hs
  Fits (draw ∷ is) hs = More is × Fine hs
  Fits (write_n ∷ is) hs = More is
  Fits (write_m ∷ is) hs = More is
  Fits (write_p ∷ is) hs = More is
  Fits (unlock_m ∷ is) hs = Frees is hs
  Fits (unlock_n ∷ is) hs = Frees is hs
  Fits (unlock_n_gone ∷ is) hs = More is × ((ks : List Hold) × (x : Hold) × (hs ≡ ks ++ x ∷ []) × IsLocked x × (place_at g x.at ≡ Place.retired))
  Fits (unlock_p ∷ is) hs = Frees is hs

-- a locked entry that is placed is linked
placed_fine : (N : Numbers) (σ : State) (g : Ghosts) (o : Operation) (h : Hold) → Placed N σ g o h → IsLocked h → place_at g h.at ≡ Place.retired → ⊥
placed_fine N σ g o h p l e = linked_place g h.at (p (subst (λ (k : Grip). Sound (σ.words h.at) k) (sym l) tt)).0 e

stand_fine : {N : Numbers} {σ : State} {g : Ghosts} {o : Operation} (hs : List Hold) (n : Hold) → Stand N σ g o hs n → Fine g (hs ++ n ∷ [])
stand_fine {N} {σ} {g} {o} _ _ (at_root n a d p) = (placed_fine N σ g o n p, tt)
stand_fine {N} {σ} {g} {o} _ _ (below q n a p) = (placed_fine N σ g o q a.placed, (placed_fine N σ g o n p, tt))

-- a course that locks p and n has five items or more
pair_long : (c : Course) → Pair c → 5 ≤ length (items c)
pair_long _ (growing v) = omega arith
pair_long _ (missing v i) = omega arith
pair_long _ (collapsing v l (leaf j)) = omega arith
pair_long _ (collapsing v l (node k j)) = omega arith

-- the start of a course that locks p and n
pair_lock_p : (g : Ghosts) (hs : List Hold) (c : Course) → Pair c → Fine g hs × ((p : Hold) × (ks : List Hold) × (hs ≡ p ∷ ks) × IsPermit p) → Fits g (items c) hs
pair_lock_p g hs _ (growing v) f = (tt, f.0, f.1)
pair_lock_p g hs _ (missing v i) f = (tt, f.0, f.1)
pair_lock_p g hs _ (collapsing v l (leaf j)) f = (tt, f.0, f.1)
pair_lock_p g hs _ (collapsing v l (node k j)) f = (tt, f.0, f.1)

-- the start of a course that locks n alone
solo_lock_n : (g : Ghosts) (hs : List Hold) (c : Course) → Solo c → Fine g hs × ((ks : List Hold) × (n : Hold) × (hs ≡ ks ++ n ∷ []) × IsPermit n) → Fits g (items c) hs
solo_lock_n g hs _ (inserting v) f = (tt, f.0, f.1)
solo_lock_n g hs _ (splitting v j) f = (tt, f.0, f.1)
solo_lock_n g hs _ (removing v l) f = (tt, f.0, f.1)

more_by : (is : List Item) → 1 ≤ length is → More is
more_by [] h = absurd (omega (arith, h))
more_by (a ∷ is) h = tt

module _ {N : Numbers} {Key : List ℕ → Type 0} {σ : State} {g : Ghosts} {s : ℕ} {o : Operation} where
  -- what is held in a course fits the items that are left
  acts_fit : (c : Course) (is : List Item) (d : Option Drawn) (hs : List Hold) → Acts N Key σ g s o c is d hs → Every (λ h. Reads N σ g o h.at) hs → Fits g is hs
  acts_fit _ _ _ _ (Acts.to_lock c hs n so st pe de) re = solo_lock_n g (hs ++ n ∷ []) c so (stand_fine hs n st, (hs, n, refl, last_permit hs n pe))
  acts_fit _ _ _ _ (Acts.to_draw c w hs n so ad ol) re = (tt, stand_fine hs n ol.stand)
  acts_fit _ _ _ _ (Acts.to_insert w j hs n ol ld) re = tt
  acts_fit _ _ _ _ (Acts.to_split w j u y hs n ol ld nd) re = tt
  acts_fit _ _ _ _ (Acts.to_remove w l hs n ol) re = tt
  acts_fit _ _ _ _ (Acts.to_unlock c hs n so pe lo li) re = (hs, n, refl, lo, linked_place g n.at li, inr (permits_none (place_at g) hs pe))
  acts_fit _ _ _ _ (Acts.to_lock_p c p n pa st pe de) re = pair_lock_p g (p ∷ n ∷ []) c pa (stand_fine (p ∷ []) n st, (p, n ∷ [], refl, pe.0))
  acts_fit _ _ _ _ (Acts.to_lock_n c is p n pa it st lo pe de) re = (more_by is (omega (arith, pair_long c pa, ap length it)), stand_fine (p ∷ []) n st, (p ∷ [], n, refl, pe))
  acts_fit _ _ _ _ (Acts.to_draw_both c w is p n pa it ad bl) re = (more_by is (omega (arith, pair_long c pa, ap length it)), stand_fine (p ∷ []) n bl.stand)
  acts_fit _ _ _ _ (Acts.to_grow w j y p n bl ld nd) re = tt
  acts_fit _ _ _ _ (Acts.to_cut w m j y p n bl ld nd) re = tt
  acts_fit _ _ _ _ (Acts.to_miss w m j y p n cu) re = tt
  acts_fit _ _ _ _ (Acts.to_collapse w l j p n bl) re = tt
  acts_fit _ _ _ _ (Acts.to_lock_m w l k j p n bl) re = (tt, stand_fine (p ∷ []) n bl.stand)
  acts_fit _ _ _ _ (Acts.to_join w l p n m jo) re = tt
  acts_fit _ _ _ _ (Acts.to_collapse_m w l p n m jo) re = tt
  acts_fit _ _ _ _ (Acts.to_unlock_m c p n m pa lp ln lm ip rt im) re = (p ∷ n ∷ [], m, refl, lm, linked_place g m.at im, inl tt)
  acts_fit _ _ _ _ (Acts.to_unlock_gone c p n pa lp ln ip rt) re = (tt, (p ∷ [], n, refl, ln, retired_place g n.at rt.0 re.1.0.0 rt.1))
  acts_fit _ _ _ _ (Acts.to_unlock_n v m p n lp ln ip im) re = (p ∷ [], n, refl, ln, linked_place g n.at im, inl tt)
  acts_fit _ _ _ _ (Acts.to_unlock_p c p pa lp ip) re = ([], p, refl, lp, linked_place g p.at ip, inr tt)

  walk_acts : (hs : List Hold) (k : Stage) (c : Course) (is : List Item) (d : Option Drawn) → Walks N Key σ g s o hs k → Every (λ h. Reads N σ g o h.at) hs → k ≡ act c is d → Fits g is hs
  walk_acts _ _ c is d Walks.starts re e = no_way cc
  walk_acts _ _ c is d (Walks.to_take hs q y x b pe ab) re e = no_way cc
  walk_acts _ _ c is d (Walks.to_check_p hs q k b pe ab) re e = no_way cc
  walk_acts _ _ c is d (Walks.to_look hs k st pe) re e = no_way cc
  walk_acts _ _ c is d (Walks.to_check_n hs k a st pe de) re e = no_way cc
  walk_acts hs _ c is d (Walks.acts c' is' d' a) re e = let q : is' ≡ is = cc in subst (λ (l : List Item). Fits g l hs) q (acts_fit c' is' d' hs a re)

  -- outside courses there are permits only
  walk_permits : (hs : List Hold) (k : Stage) → Walks N Key σ g s o hs k → ((c : Course) (is : List Item) (d : Option Drawn) → k ≡ act c is d → ⊥) → Permits hs
  walk_permits _ _ Walks.starts n = tt
  walk_permits _ _ (Walks.to_take hs q y x b pe ab) n = pe
  walk_permits _ _ (Walks.to_check_p hs q k b pe ab) n = pe
  walk_permits _ _ (Walks.to_look hs k st pe) n = pe
  walk_permits _ _ (Walks.to_check_n hs k a st pe de) n = pe
  walk_permits hs _ (Walks.acts c is d a) n = absurd (n c is d refl)

-- the permits of next
abbrev Calm : Operation → Type 0
Calm o = o.task ≡ op.next → Permits o.held

module _ {N : Numbers} {Key : List ℕ → Type 0} {σ : State} {g : Ghosts} {s : ℕ} {o : Operation} (ok : SeatOk N Key σ g s o) where
  -- outside courses nothing is locked
  seat_fine : Calm o → ((c : Course) (is : List Item) (d : Option Drawn) → o.stage ≡ act c is d → ⊥) → Fine g o.held
  seat_fine q n = permits_none (place_at g) o.held (⊎_elim (λ w. walk_permits o.held o.stage w.2 n) (λ w. q w.0) ok.doing)

  seat_acts : (c : Course) (is : List Item) (d : Option Drawn) → o.stage ≡ act c is d → Fits g is o.held
  seat_acts c is d e = ⊎_elim (λ w. walk_acts o.held o.stage c is d w.2 ok.reads e) (λ w. next_acts o.mode o.held o.stage c is d w.1 e) ok.doing

module _ {N : Numbers} {Key : List ℕ → Type 0} {σ τ : State} {g : Ghosts} {s : ℕ} {o : Operation} {z : Seat} {r : Outcome} (st : Step N Key σ τ g s o z r) where
  abbrev Goes : words.State → words.State → Type 0
  Goes S T = Runs N.limit s (Calm o) (place_at g) S T

  -- the seat holds hs, the words are f, and t calls are accepted: one more than before, by the end of the step
  abbrev mid_at : ℕ → List Hold → (Ref → Meaning) → words.State
  mid_at t hs f = record { words = f; held = seat_put (λ j. held_by (σ.seats j)) s hs; accepted = t }

  abbrev mid : List Hold → (Ref → Meaning) → words.State
  mid hs f = mid_at (suc σ.calls) hs f

  -- one entry of the seat on x changes, and no word but x's
  turn : {t : ℕ} (x : Ref) (d : ℕ) (out new : Option Grip) (fs bs hs : List Hold) (f : Ref → Meaning) → o.held ≡ fs ++ (spot x d out ++ bs) → hs ≡ fs ++ (spot x d new ++ bs)
      → ((y : Ref) → (y ≡ x → ⊥) → f y ≡ σ.words y) → Turn (words_of σ) (mid_at t hs f) s x d out new
  turn x d out new fs bs hs f e p w = record {
    seat = st.seat;
    before = fs;
    after = bs;
    was = ap held_by st.was ∙ e;
    is = seat_same (λ t. held_by (σ.seats t)) s hs ∙ p;
    others = seat_else (λ t. held_by (σ.seats t)) s hs;
    words = w;
  }

  -- nothing changes
  rests : Goes (words_of σ) (mid o.held σ.words)
  rests = one {x = leaf 0} (effects.Does.pass 0 (turn (leaf 0) 0 None None [] o.held o.held σ.words refl refl (λ y n. refl)) refl (omega arith)) (λ q. tt)

  -- the step ends: the seat lets go of its first entries and keeps the rest
  settle : (hs fs bs : List Hold) (f : Ref → Meaning) → hs ≡ fs ++ bs → held_by z ≡ bs → WordsAre (let_go_all fs f) τ → (Calm o → Fine g fs) → Goes (mid hs f) (words_of τ)
  settle hs fs bs f p e w n = drops fs bs (mid hs f) (words_of τ) st.seat (seat_same (λ t. held_by (σ.seats t)) s hs ∙ p) (ap held_by st.turns.there ∙ e)
      (λ j m. ap held_by (st.turns.elsewhere j m) ∙ sym (seat_else (λ t. held_by (σ.seats t)) s hs j m)) w (omega (arith, st.turns.calls)) n

  -- what is held stays, or all of it is let go
  stays : (hs : List Hold) (f : Ref → Meaning) → held_by z ≡ hs → WordsAre f τ → Goes (mid hs f) (words_of τ)
  stays hs f e w = settle hs [] hs f refl e w (λ q. tt)

  leaves : (hs : List Hold) (f : Ref → Meaning) → held_by z ≡ [] → WordsAre (let_go_all hs f) τ → (Calm o → Fine g hs) → Goes (mid hs f) (words_of τ)
  leaves hs f e w n = settle hs hs [] f (sym (append-nil hs)) e w n

  -- a take that is not refused
  may_take : (x : Ref) → take_refusal N.limit (σ.words x) ≡ None → MayTake N.limit (σ.words x) (N.weight o.restarts)
  may_take x e =
      let q = none_applies (σ.words x).gone (σ.words x).locked false (eqb (σ.words x).shares N.limit) e in
      record { here = q.0; loose = q.1; room = eqb-false (σ.words x).shares N.limit q.3; light = st.lawful.light o.restarts }

  put_off : (x : Ref) (m : Meaning) (y : Ref) → (y ≡ x → ⊥) → put σ.words x m y ≡ σ.words y
  put_off x m y n = put_else σ.words x y m n

  -- a node is taken
  takes_one : (x : Ref) (d t : ℕ) → σ.calls ≤ t → take_refusal N.limit (σ.words x) ≡ None
      → Goes (words_of σ) (mid_at t (o.held ++ record { at = x; depth = d; grip = Grip.Permit (σ.words x).count (N.weight o.restarts) } ∷ []) (put σ.words x (shared (N.weight o.restarts) (σ.words x))))
  takes_one x d t u e =
      let w : ℕ = N.weight o.restarts in
      let m : Meaning = shared w (σ.words x) in
      let hs : List Hold = o.held ++ record { at = x; depth = d; grip = Grip.Permit (σ.words x).count w } ∷ [] in
      one (effects.Does.take d w (may_take x e)
      (turn x d None (Some (Grip.Permit (σ.words x).count w)) o.held [] hs (put σ.words x m) (sym (append-nil o.held)) refl (put_off x m)) (put_same σ.words x m) u) (λ q. tt)

  -- an entry with this grip
  gripped : (h : Hold) (k : Grip) → h.grip ≡ k → h ≡ record { at = h.at; depth = h.depth; grip = k }
  gripped h k e = ap (λ (v : Grip). record { at = h.at; depth = h.depth; grip = v }) e

  held_as : (fs bs : List Hold) (h : Hold) (k : Grip) → h.grip ≡ k → o.held ≡ fs ++ h ∷ bs → o.held ≡ fs ++ (spot h.at h.depth (Some k) ++ bs)
  held_as fs bs h k e p = p ∙ ap (λ (v : Hold). fs ++ v ∷ bs) (gripped h k e)

  -- an entry with a permit is locked
  locks : (fs bs : List Hold) (x : Hold) → o.held ≡ fs ++ x ∷ bs → IsPermit x → lock_by x.grip (σ.words x.at) ≡ None
      → Goes (words_of σ) (mid (fs ++ locked x ∷ bs) (put σ.words x.at (shut (σ.words x.at))))
  locks fs bs x e (c, w, p) l =
      let m : Meaning = shut (σ.words x.at) in
      let q = lock_sound c w (σ.words x.at) (subst (λ (k : Grip). lock_by k (σ.words x.at) ≡ None) p l) in
      one (effects.Does.lock x.depth c w (record { passes = q.0; alone = q.1 })
      (turn x.at x.depth (Some (Grip.Permit c w)) (Some Grip.Locked) fs bs (fs ++ locked x ∷ bs) (put σ.words x.at m) (held_as fs bs x (Grip.Permit c w) p e) refl (put_off x.at m)) (put_same σ.words x.at m) (omega arith)) (λ t. tt)

  -- the newest entry is unlocked
  frees : (fs : List Hold) (x : Hold) → o.held ≡ fs ++ x ∷ [] → IsLocked x → (place_at g x.at ≡ Place.retired → ⊥) → Goes (words_of σ) (mid fs (put σ.words x.at (freed (σ.words x.at))))
  frees fs x e l n =
      let m : Meaning = freed (σ.words x.at) in
      one (effects.Does.unlock x.depth
      (turn x.at x.depth (Some Grip.Locked) None fs [] fs (put σ.words x.at m) (held_as fs [] x Grip.Locked l e) (sym (append-nil fs)) (put_off x.at m)) (put_same σ.words x.at m) (omega arith)) (λ t. n)

  -- the newest entry is unlocked as gone
  frees_gone : (fs : List Hold) (x : Hold) → o.held ≡ fs ++ x ∷ [] → IsLocked x → place_at g x.at ≡ Place.retired → Goes (words_of σ) (mid fs (put σ.words x.at (freed_gone (σ.words x.at))))
  frees_gone fs x e l n =
      let m : Meaning = freed_gone (σ.words x.at) in
      one (effects.Does.unlock_gone x.depth
      (turn x.at x.depth (Some Grip.Locked) None fs [] fs (put σ.words x.at m) (held_as fs [] x Grip.Locked l e) (sym (append-nil fs)) (put_off x.at m)) (put_same σ.words x.at m) (omega arith)) (λ t. n)

  -- the first spare node of a pool is revived
  revives : (k : Kind) (j : ℕ) (ns : List Ref) → σ.spare (room k) ≡ node k j ∷ ns → Goes (words_of σ) (mid o.held (put σ.words (node k j) (revived (σ.words (node k j)))))
  revives k j ns e =
      let x : Ref = node k j in
      let m : Meaning = revived (σ.words x) in
      let h : 0 < count x (σ.spare (room k)) = subst (λ (l : List Ref). 0 < count x l) (sym e) (omega (arith, true_bit (is x x) (is_self x))) in
      one (effects.Does.revive 0 (turn x 0 None None [] o.held o.held (put σ.words x m) refl refl (put_off x m)) (put_same σ.words x m) (omega arith)) (λ t. ap place_of (st.inv.queued x (room k) h).0)

  -- a node is taken and locked
  takes_locks : (x : Ref) (d : ℕ) → take_refusal N.limit (σ.words x) ≡ None → lock_refusal (N.weight o.restarts) (noted (σ.words x)) (shared (N.weight o.restarts) (σ.words x)) ≡ None
      → Goes (words_of σ) (mid (o.held ++ record { at = x; depth = d; grip = Grip.Locked } ∷ []) (put σ.words x (shut (σ.words x))))
  takes_locks x d e l =
      let w : ℕ = N.weight o.restarts in
      let c : ℕ = (σ.words x).count in
      let m : Meaning = shared w (σ.words x) in
      let held : ℕ → List Hold = λ t. held_by (σ.seats t) in
      let hs : List Hold = o.held ++ record { at = x; depth = d; grip = Grip.Permit c w } ∷ [] in
      let ks : List Hold = o.held ++ record { at = x; depth = d; grip = Grip.Locked } ∷ [] in
      let M : words.State = mid_at σ.calls hs (put σ.words x m) in
      let T : words.State = mid ks (put σ.words x (shut (σ.words x))) in
      let q = lock_sound c w m l in
      let same : M.words x ≡ m = put_same σ.words x m in
      let may : MayLock (M.words x) c w = subst (λ (v : Meaning). MayLock v c w) (sym same) (record { passes = q.0; alone = q.1 }) in
      let t : Turn M T s x d (Some (Grip.Permit c w)) (Some Grip.Locked) = record {
        seat = st.seat;
        before = o.held;
        after = [];
        was = seat_same held s hs;
        is = seat_same held s ks;
        others = λ j n. seat_else held s ks j n ∙ sym (seat_else held s hs j n);
        words = λ y n. put_off x (shut (σ.words x)) y n ∙ sym (put_off x m y n);
      } in
      Runs.more x T (takes_one x d σ.calls (omega arith) e) (effects.Does.lock d c w may t (put_same σ.words x (shut (σ.words x)) ∙ ap shut (sym same)) (omega arith)) (λ v. tt)

  -- a plain unlock
  plain_frees : (a : Item) (rest : List Item) → Plain a → Fits g (a ∷ rest) o.held → Frees g rest o.held
  plain_frees lock_p rest p f = absurd p
  plain_frees lock_n rest p f = absurd p
  plain_frees lock_m rest p f = absurd p
  plain_frees draw rest p f = absurd p
  plain_frees write_n rest p f = absurd p
  plain_frees write_m rest p f = absurd p
  plain_frees write_p rest p f = absurd p
  plain_frees unlock_m rest p f = f
  plain_frees unlock_n rest p f = f
  plain_frees unlock_n_gone rest p f = absurd p
  plain_frees unlock_p rest p f = f

  -- an item is a run, and where no item is left the rest may be let go
  item : (c : Course) (a : Item) (rest : List Item) (d d' : Option Drawn) (f : Ref → Meaning) (hs : List Hold) → Fits g (a ∷ rest) o.held → Does N σ τ o c a d f hs d'
      → Goes (words_of σ) (mid hs f) × (More rest ⊎ Fine g hs)
  item _ _ rest d _ _ _ fit (Does.locks_p p n e l q) =
      let (p', ks, e', pe) = fit.2 in
      let t : p' ≡ p = cc in
      (locks [] (n ∷ []) p e (subst IsPermit t pe) l, inl fit.0)
  item _ _ rest d _ _ _ fit (Does.locks_n hs n e l q) =
      let (ks, n', e', pe) = fit.2 in
      (locks hs [] n e (subst IsPermit (snoc_one ks hs n' n (sym e' ∙ e)).1 pe) l, inl fit.0)
  item _ _ rest d _ _ _ fit (Does.locks_m {v} {l} {m} hs n e t k q) = (takes_locks m (suc (n.depth + length (prefix σ.tree n.at))) t k, inl fit.0)
  item _ _ rest _ _ _ _ fit (Does.draws_leaf hs n v i ls e ad dr sp po re lf ct) = (rests, inl fit.0)
  item _ _ rest _ _ _ _ fit (Does.draws_both hs n v i j kind filled ls ns e ad dr fi sl sn tl tn tp re lf nf) = (revives kind j ns sn, inl fit.0)
  item _ _ rest _ _ _ _ fit (Does.inserts v i hs n e w) = (rests, inl fit)
  item _ _ rest _ _ _ _ fit (Does.splits hs n e w) = (rests, inl fit)
  item _ _ rest _ _ _ _ fit (Does.grows v i p n e w) = (rests, inl fit)
  item _ _ rest _ _ _ _ fit (Does.cuts hs n e w sp re) = (rests, inl fit)
  item _ _ rest _ _ _ _ fit (Does.misses p n e w) = (rests, inl fit)
  item _ _ rest _ _ _ _ fit (Does.removes hs n e w) = (rests, inl fit)
  item _ _ rest _ _ _ _ fit (Does.joins v l b p n m e ch w sp re) = (rests, inl fit)
  item _ _ rest _ _ _ _ fit (Does.collapses x p n ms e w) = (rests, inl fit)
  item _ a rest _ _ _ _ fit (Does.unlocks hs x p e q) =
      let (ks, y, e', lo, nr, r) = plain_frees a rest p fit in
      let u = snoc_one ks hs y x (sym e' ∙ e) in
      (frees hs x e (subst IsLocked u.1 lo) (subst (λ (h : Hold). place_at g h.at ≡ Place.retired → ⊥) u.1 nr), ⊎_elim (λ m. inl m) (λ n. inr (subst (Fine g) u.0 n)) r)
  item _ _ rest _ _ _ _ fit (Does.unlocks_gone hs x e q) =
      let (ks, y, e', lo, re) = fit.1 in
      let u = snoc_one ks hs y x (sym e' ∙ e) in
      (frees_gone hs x e (subst IsLocked u.1 lo) (subst (λ (h : Hold). place_at g h.at ≡ Place.retired) u.1 re), inl fit.0)

-- what a seat holds after an item, and its words
follows_held : {o : Operation} {τ : State} {c : Course} {f : Ref → Meaning} {hs : List Hold} {d : Option Drawn} (rest : List Item) (z : Seat) (r : Outcome) → Follows o τ c f hs d rest z r
    → ((held_by z ≡ hs) × WordsAre f τ) ⊎ ((held_by z ≡ []) × WordsAre (let_go_all hs f) τ × (rest ≡ []))
follows_held _ _ _ (Follows.more w) = inl (refl, w)
follows_held _ z r (Follows.over e) = inr (ap held_by e.seat, e.words, refl)

not_more : {P : Type 0} (is : List Item) → More is → is ≡ [] → P
not_more [] m e = absurd m
not_more (a ∷ is) m e = no_way cc

-- a refused item leaves nothing locked on a retired node
refuses_fine : (g : Ghosts) {N : Numbers} {σ : State} {o : Operation} {c : Course} {e : Cause} {x : Ref} {d : ℕ} (a : Item) (rest : List Item) → Refuses N σ o c a e x d → Fits g (a ∷ rest) o.held → Fine g o.held
refuses_fine g _ rest (Refuses.at_p p n e l) f = f.1
refuses_fine g _ rest (Refuses.at_n hs n e l) f = f.1
refuses_fine g _ rest (Refuses.taking_m hs n e l) f = f.1
refuses_fine g _ rest (Refuses.locking_m hs n e t l) f = f.1

-- what a passed check of p gives back stands before what it keeps
above_kept : (t : Task) (hs : List Hold) → hs ≡ above_p t hs ++ kept_p t hs
above_kept t hs = go (is_next t)
  where
    go : (b : Bool) → hs ≡ cond b [] (take (length hs - 2) hs) ++ cond b hs (drop (length hs - 2) hs)
    go true = refl
    go false = sym (take-append-drop (length hs - 2) hs)

every_left : (P : Hold → Type 0) (u v : List Hold) → Every P (u ++ v) → Every P u
every_left P [] v e = tt
every_left P (h ∷ u) v e = (e.0, every_left P u v e.1)

module _ {N : Numbers} {Key : List ℕ → Type 0} {σ τ : State} {g : Ghosts} {s : ℕ} {o : Operation} {z : Seat} {r : Outcome} (st : Step N Key σ τ g s o z r) where
  -- outside courses nothing is locked
  fine : ((c : Course) (is : List Item) (d : Option Drawn) → o.stage ≡ act c is d → ⊥) → Calm o → Fine g o.held
  fine n q = seat_fine (st.inv.seats s o st.was) q n

  fits : (c : Course) (is : List Item) (d : Option Drawn) → o.stage ≡ act c is d → Fits g is o.held
  fits c is d e = seat_acts (st.inv.seats s o st.was) c is d e

  idles : held_by z ≡ o.held → WordsAre σ.words τ → Goes st (words_of σ) (words_of τ)
  idles e w = then (rests st) (stays st o.held σ.words e w)

  restarts : {c : Cause} {x : Ref} {d : ℕ} → (Calm o → Fine g o.held) → Restarts σ τ o c x d z r → Goes st (words_of σ) (words_of τ)
  restarts n q = then (rests st) (leaves st o.held σ.words (ap held_by q.seat) q.words n)

  ends : {a : Answer} → (Calm o → Fine g o.held) → Ends σ.words o.held τ a z r → Goes st (words_of σ) (words_of τ)
  ends n q = then (rests st) (leaves st o.held σ.words (ap held_by q.seat) q.words n)

  -- a passed check of p
  checks : held_by z ≡ kept_p o.task o.held → (Calm o → Fine g o.held) → WordsAre (let_go_all (above_p o.task o.held) σ.words) τ → Goes st (words_of σ) (words_of τ)
  checks e n w =
      let k = above_kept o.task o.held in
      then (rests st) (settle st o.held (above_p o.task o.held) (kept_p o.task o.held) σ.words k e w
      (λ q. every_left (λ h. h.grip ≡ Grip.Locked → place_at g h.at ≡ Place.retired → ⊥) (above_p o.task o.held) (kept_p o.task o.held) (subst (Fine g) k (n q))))

  -- an item and what follows it
  does : (c : Course) (a : Item) (rest : List Item) (d d' : Option Drawn) (f : Ref → Meaning) (hs : List Hold) → o.stage ≡ act c (a ∷ rest) d → Does N σ τ o c a d f hs d' → Follows o τ c f hs d' rest z r
      → Goes st (words_of σ) (words_of τ)
  does c a rest d d' f hs e w k =
      let (run, fine') = item st c a rest d d' f hs (fits c (a ∷ rest) d e) w in
      then run (⊎_elim
      (λ q. stays st hs f q.0 q.1)
      (λ q. leaves st hs f q.0 q.1 (λ _. ⊎_elim (λ m. not_more rest m q.2) (λ n. n) fine'))
      (follows_held rest z r k))

-- next keeps what it holds when it looks
pub picked_held : (S : Tree) (o : Operation) (j keys : ℕ) (v : picks.Sight) (z : Seat) → picked S o j keys v ≡ Some z → held_by z ≡ o.held
picked_held S o j keys picks.stale z e = no_way cc
picked_held S o zero keys picks.back z e = let q : with o by_key o.held (scan 0 op.none) ≡ z = cc in sym (ap held_by q)
picked_held S o (suc j) keys picks.back z e = let q : with o (back j) o.held look ≡ z = cc in sym (ap held_by q)
picked_held S o j keys (picks.onward y d) z e = let q : with o by_key o.held (op.take y d) ≡ z = cc in sym (ap held_by q)
picked_held S o j keys (picks.aside y d) z e = let q : with o (down j keys) o.held (op.take y d) ≡ z = cc in sym (ap held_by q)
picked_held S o j keys (picks.got i) z e = let q : with o o.mode o.held (scan 0 (pair_at S i)) ≡ z = cc in sym (ap held_by q)

-- every step is a run, each effect proper in its place
row_runs : {N : Numbers} {Key : List ℕ → Type 0} {σ τ : State} {g : Ghosts} {s : ℕ} {o : Operation} {z : Seat} {r : Outcome}
    → (st : Step N Key σ τ g s o z r) → Row N σ τ o z r → Goes st (words_of σ) (words_of τ)
row_runs st (Row.takes x d e t q w) = then (takes_one st x d _ (omega arith) t) (stays st _ _ refl w)
row_runs st (Row.takes_not x d c e t q) = restarts st (fine st (λ k is u p. no_way cc)) q
row_runs st (Row.checks_p p e f c q w) = checks st refl (fine st (λ k is u p. no_way cc)) w
row_runs st (Row.checks_p_not p c e f t q) = restarts st (fine st (λ k is u p. no_way cc)) q
row_runs st (Row.looks_on hs n y d e t h sn q w) = idles st refl w
row_runs st (Row.looks_decides hs n k e t h sn q w) = idles st refl w
row_runs st (Row.looks_stale hs n e t h sn q) = restarts st (fine st (λ k is u p. no_way cc)) q
row_runs st (Row.checks_n a hs n e h c q w) = ends st (fine st (λ k is u p. no_way cc)) w
row_runs st (Row.checks_n_not a hs n c e h t q) = restarts st (fine st (λ k is u p. no_way cc)) q
row_runs {σ = σ} {o = o} {z = z} st (Row.picks_on n j keys v e t se pi q w) = idles st (picked_held σ.tree o j keys v z pi) w
row_runs st (Row.picks_stale n j keys e t se q) = restarts st (fine st (λ k is u p. no_way cc)) q
row_runs st (Row.scans i a h e n c l q w) = idles st refl w
row_runs st (Row.scans_last i a h e n c l q w) = ends st (fine st (λ k is u p. no_way cc)) w
row_runs st (Row.scans_not i a h c e n t q) = restarts st (fine st (λ k is u p. no_way cc)) q
row_runs st (Row.acts c a rest d d' f hs e w k) = does st c a rest d d' f hs e w k
row_runs {g = g} st (Row.acts_not c a rest d v x u e w q) = restarts st (λ _. refuses_fine g a rest w (fits st c (a ∷ rest) d e)) q
row_runs st (Row.no_room c rest d v e n t u q) = ends st (λ _. (fits st c (draw ∷ rest) d e).1) q

pub row_words : {N : Numbers} {Key : List ℕ → Type 0} {σ τ : State} {g : Ghosts} {s : ℕ} {o : Operation} {z : Seat} {r : Outcome}
    → Step N Key σ τ g s o z r → Row N σ τ o z r → Run N.limit (λ k. k ≡ s) (words_of σ) (words_of τ)
row_words st w = run_of (row_runs st w)

pub row_places : {N : Numbers} {Key : List ℕ → Type 0} {σ τ : State} {g : Ghosts} {s : ℕ} {o : Operation} {z : Seat} {r : Outcome}
    → Step N Key σ τ g s o z r → Row N σ τ o z r → PlacesOk (place_at g) τ.words
row_places {s = s} {o = o} st w = places_of (st.inv.calm s o st.was) (row_runs st w) st.inv.places
