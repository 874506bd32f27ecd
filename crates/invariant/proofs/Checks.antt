-- The answers of checks: what was seen under a sound permit is what is held.
use Rattle.std.proofs.Common.{◌≡◌, ℕ, zero, suc, ◌-◌, ◌<◌, Bool, true, false, cond, ◌||◌, leb, ◌⊎◌, List, [], ◌∷◌, ◌++◌, length, get_or, Some, None, Option, sym, refl, ap, ◌∙◌, subst, inl, inr, ⊎_elim, arith}
use Rattle.std.specs.List.{slice_get, AllByRecursion}
use Rattle.std.proofs.lemmas.Option.{slice_get_past}
use Rattle.std.proofs.ByRecursion.{All-weaker}
use Rattle.std.proofs.lemmas.Bool.{cases_eq}
use Rattle.latches.specs.declared.word.Meaning.{Meaning}
use Rattle.model.specs.Bytes.{◌≼◌}
use Rattle.model.specs.Refs.{Ref, root, is, IsNode}
use Rattle.model.specs.Tree.{fan, Holds}
use Rattle.model.specs.Holds.{Grip, Hold}
use Rattle.model.specs.Operations as op
use Rattle.model.specs.Operations.{Operation, Task, Answer, in_place, Mode, Stage, check_n, scan, busy}
use Rattle.model_words.specs.Words.{In, Sound}
use Rattle.machine.specs.State.{State, Numbers}
use Rattle.machine.specs.Choices as choices
use Rattle.machine.specs.Choices.{key_byte, decided, begun}
use Rattle.machine.specs.Items.{check_by}
use Rattle.machine.specs.Steps.{is_next}
use Rattle.invariant.specs.Ghosts.{Ghosts, ghost, SoundAt, IsPermit, Permits}
use Rattle.invariant.specs.Seats.{Placed, Decides}
use Rattle.invariant.specs.Nexts.{Saw, Says, Nexts}
use Rattle.invariant.specs.Invariant.{Lawful, Walks, Inv}
use Rattle.invariant.proofs.Setting.{true_false, sound_by, entry_reads, sound_steady, no_way, snoc_one, in_last, last_permit}
use Rattle.model.specs.Sights.{Seen, stale, empty, missed, other, same_key, onward}
use Rattle.model.proofs.Bytes.{none_some, some_inj}
use Rattle.model_next.specs.Next.{NextOf, pair_of}
use Rattle.model_next.specs.Walk as walk
use Rattle.model_next.proofs.Walks as walks
use Rattle.model_next.proofs.Snapshot.{snapshot}
use Rattle.invariant.specs.Effects.{Said, NextSaid, Unsound}
use Rattle.invariant.proofs.Sees.{At, Tells, sees}
use Rattle.invariant.proofs.Written.{stand_placed}

-- next has no such stage
next_checks : {P : Type 0} {N : Numbers} {σ : State} {g : Ghosts} {o : Operation} (m : Mode) (hs : List Hold) (k : Stage) (a : Answer) → Nexts N σ g o m hs k → k ≡ check_n a → P
next_checks _ _ _ a Nexts.starts e = no_way cc
next_checks _ _ _ a (Nexts.take_key f hs y x s b q r) e = no_way cc
next_checks _ _ _ a (Nexts.check_key f h hs s b) e = no_way cc
next_checks _ _ _ a (Nexts.look_key f hs s b) e = no_way cc
next_checks _ _ _ a (Nexts.look_back f hs n s b q) e = no_way cc
next_checks _ _ _ a (Nexts.take_down f hs ds n y x s b q r u w) e = no_way cc
next_checks _ _ _ a (Nexts.check_down f hs h ds n s b q r) e = no_way cc
next_checks _ _ _ a (Nexts.look_down f hs h ds n s b q r) e = no_way cc
next_checks _ _ _ a (Nexts.scans m f hs ds n i x r s y z u w) e = no_way cc

-- what is known of n before its check
walk_checks : {N : Numbers} {Key : List ℕ → Type 0} {σ : State} {g : Ghosts} {s : ℕ} {o : Operation} (l : List Hold) (k : Stage) (a : Answer) (hs : List Hold) (n : Hold)
    → Walks N Key σ g s o l k → k ≡ check_n a → l ≡ hs ++ n ∷ [] → IsPermit n × Placed N σ g o n × Decides N σ g o n (check_n a)
walk_checks _ _ a hs n Walks.starts e h = no_way cc
walk_checks _ _ a hs n (Walks.to_take gs p y x m pe ab) e h = no_way cc
walk_checks _ _ a hs n (Walks.to_check_p gs p k m pe ab) e h = no_way cc
walk_checks _ _ a hs n (Walks.to_look gs k st pe) e h = no_way cc
walk_checks {N = N} {σ = σ} {g = g} {o = o} _ _ a hs n (Walks.to_check_n gs k b st pe de) e h =
    let q : b ≡ a = cc in
    subst (λ (m : Hold). IsPermit m × Placed N σ g o m × Decides N σ g o m (check_n a)) (snoc_one gs hs k n h).1
    (last_permit gs k pe, stand_placed gs k st, subst (λ (c : Answer). Decides N σ g o k (check_n c)) q de)
walk_checks _ _ a hs n (Walks.acts c is d x) e h = no_way cc

-- a removal that was decided on is no answer
removing_not : {P : Type 0} (b : Bool) (v l : ℕ) (x : Option Ref) (a : Answer) → cond b (Some (begun (in_place v l))) (choices.collapsing v l x) ≡ Some (check_n a) → P
removing_not true v l x a e = no_way cc
removing_not false v l None a e = no_way cc
removing_not false v l (Some x) a e = no_way cc

module _ (σ : State) (g : Ghosts) (n : Hold) (k : List ℕ) (a : Answer) where
  abbrev Told : Seen → Type 0
  Told r = Tells σ.tree (ghost g) n.at k n.depth r

  find_says : (r : Seen) → Told r → choices.finding r ≡ Some (check_n a) → Said σ g op.find k a
  find_says stale h e = absurd h
  find_says empty h e = let q : op.absent ≡ a = cc in subst (Said σ g op.find k) q (Said.finds_not k h.1)
  find_says (missed i) h e = let q : op.absent ≡ a = cc in subst (Said σ g op.find k) q (Said.finds_not k h.lacks)
  find_says (other l) h e = let q : op.absent ≡ a = cc in subst (Said σ g op.find k) q (Said.finds_not k h.lacks)
  find_says (same_key l v) h e = let q : op.found v ≡ a = cc in subst (Said σ g op.find k) q (Said.finds k v h.holds)
  find_says (onward y d) h e = no_way cc

  add_says : (v : ℕ) (r : Seen) → Told r → choices.adding σ.tree n v r ≡ Some (check_n a) → Said σ g (op.add v) k a
  add_says v stale h e = absurd h
  add_says v empty h e = no_way cc
  add_says v (missed i) h e = no_way cc
  add_says v (other l) h e = no_way cc
  add_says v (same_key l w) h e = let q : op.present w ≡ a = cc in subst (Said σ g (op.add v) k) q (Said.adds_not k v w h.holds)
  add_says v (onward y d) h e = no_way cc

  remove_says : (r : Seen) → Told r → choices.taking σ.tree k n r ≡ Some (check_n a) → Said σ g op.remove k a
  remove_says stale h e = absurd h
  remove_says empty h e = let q : op.absent ≡ a = cc in subst (Said σ g op.remove k) q (Said.removes_not k h.1)
  remove_says (missed i) h e = let q : op.absent ≡ a = cc in subst (Said σ g op.remove k) q (Said.removes_not k h.lacks)
  remove_says (other l) h e = let q : op.absent ≡ a = cc in subst (Said σ g op.remove k) q (Said.removes_not k h.lacks)
  remove_says (same_key l v) h e = removing_not (is n.at root || leb 2 (fan σ.tree n.at - 1)) v l (choices.left σ.tree n.at (key_byte σ.tree k n)) a e
  remove_says (onward y d) h e = no_way cc

  -- what a look decided to answer is what is held
  decided_says : (t : Task) (r : Seen) → Told r → decided σ.tree k n t r ≡ Some (check_n a) → Said σ g t k a
  decided_says op.find r h e = find_says r h e
  decided_says op.remove r h e = remove_says r h e
  decided_says op.next r h e = no_way cc
  decided_says (op.add v) r h e = add_says v r h e

-- a passed check of n: the answer in hand is what is held
pub check_says : {N : Numbers} {Key : List ℕ → Type 0} {σ : State} {g : Ghosts} → Inv N Key σ g → (s : ℕ) (o : Operation) → σ.seats s ≡ busy o → (a : Answer) → o.stage ≡ check_n a
    → (hs : List Hold) (n : Hold) → o.held ≡ hs ++ n ∷ [] → check_by n.grip (σ.words n.at) ≡ None → Said σ g o.task o.key a
check_says {N = N} {σ = σ} {g = g} v s o e a q hs n h c =
    ⊎_elim (λ w. go (walk_checks o.held o.stage a hs n w.2 q h)) (λ w. next_checks o.mode o.held o.stage a w.1 q) (v.seats s o e).doing
  where
    k : SoundAt σ n
    k = sound_by σ n c

    inner : IsNode n.at
    inner = (entry_reads v s o e n (subst (In n) (sym h) (in_last hs n))).0

    go : IsPermit n × Placed N σ g o n × Decides N σ g o n (check_n a) → Said σ g o.task o.key a
    go (p, w, d) =
        let i = w k in
        let b : At σ.tree (ghost g) n.at o.key n.depth = record {
          inner = inner;
          here = i.0;
          steady = ⊎_elim (λ x. x) (λ x. absurd (sound_steady v s o e n p k x)) (v.tree.split n.at inner i.0).1;
          way = i.1;
          depth = i.2;
        } in
        decided_says σ g n o.key a o.task _ (sees v.tree n.at o.key n.depth b (v.seats s o e).key _ refl) (d k)

-- the bytes of a list are small, and 0 stands past its end
small_bytes : (a : List ℕ) (j : ℕ) → ((u : List ℕ) (b : ℕ) → (u ++ (b ∷ [])) ≼ a → b < 256) → get_or a j 0 < 256
small_bytes [] j f = omega arith
small_bytes (b ∷ a) zero f = f [] b (refl, tt)
small_bytes (b ∷ a) (suc j) f = small_bytes a j (λ u c h. f (b ∷ u) c (refl, h))

-- a sound permit
abbrev Ok : State → Hold → Type 0
Ok σ h = SoundAt σ h × IsPermit h

-- a check would pass, or it would not
sound_not : (m : Meaning) (k : Grip) → Sound m k ⊎ (Sound m k → ⊥)
sound_not m Grip.Locked = inl tt
sound_not m (Grip.Permit c w) = go m.gone m.locked refl refl (cases_eq m.count c)
  where
    go : (a b : Bool) → m.gone ≡ a → m.locked ≡ b → (m.count ≡ c) ⊎ (m.count ≡ c → ⊥) → Sound m (Grip.Permit c w) ⊎ (Sound m (Grip.Permit c w) → ⊥)
    go true b p q d = inr (λ s. true_false m.gone p s.0)
    go false true p q d = inr (λ s. true_false m.locked q s.1)
    go false false p q (inl e) = inl (p, q, e)
    go false false p q (inr n) = inr (λ s. n s.2)

-- each is a sound permit, or some one would be refused
sound_or : (σ : State) (hs : List Hold) → Permits hs → AllByRecursion (Ok σ) hs ⊎ Unsound σ hs 0
sound_or σ [] p = inl tt
sound_or σ (h ∷ hs) p = go (sound_not (σ.words h.at) h.grip) (sound_or σ hs p.1)
  where
    go : SoundAt σ h ⊎ (SoundAt σ h → ⊥) → AllByRecursion (Ok σ) hs ⊎ Unsound σ hs 0 → AllByRecursion (Ok σ) (h ∷ hs) ⊎ Unsound σ (h ∷ hs) 0
    go (inl k) (inl a) = inl ((k, p.0), a)
    go (inl k) (inr (j, g, l, m, f)) = inr (suc j, g, omega arith, m, f)
    go (inr f) r = inr (0, h, omega arith, refl, f)

split_all : (P : Hold → Type 0) (hs ds : List Hold) → AllByRecursion P (hs ++ ds) → AllByRecursion P hs × AllByRecursion P ds
split_all P [] ds a = (tt, a)
split_all P (h ∷ hs) ds a = let r = split_all P hs ds a.1 in ((a.0, r.0), r.1)

-- what is known of next before its first check
record Scans (N : Numbers) (σ : State) (g : Ghosts) (o : Operation) (l : List Hold) (a : Answer) : Type 0 where
  first : Hold
  keys : List Hold
  downs : List Hold
  place : ℕ
  result : Option ℕ
  saw : Saw N σ g o (walk.on first keys downs (walk.scan place 0 result))
  says : Says N σ g o a result
  held : l ≡ first ∷ keys ++ downs

next_scans : {N : Numbers} {σ : State} {g : Ghosts} {o : Operation} (m : Mode) (l : List Hold) (k : Stage) (a : Answer) → Nexts N σ g o m l k → k ≡ scan 0 a → Scans N σ g o l a
next_scans _ _ _ a Nexts.starts e = no_way cc
next_scans _ _ _ a (Nexts.take_key f hs y x s b q r) e = no_way cc
next_scans _ _ _ a (Nexts.check_key f h hs s b) e = no_way cc
next_scans _ _ _ a (Nexts.look_key f hs s b) e = no_way cc
next_scans _ _ _ a (Nexts.look_back f hs n s b q) e = no_way cc
next_scans _ _ _ a (Nexts.take_down f hs ds n y x s b q r u w) e = no_way cc
next_scans _ _ _ a (Nexts.check_down f hs h ds n s b q r) e = no_way cc
next_scans _ _ _ a (Nexts.look_down f hs h ds n s b q r) e = no_way cc
next_scans {N = N} {σ = σ} {g = g} {o = o} _ _ _ a (Nexts.scans m f hs ds n i x r s y z u w) e =
    let p : i ≡ 0 = cc in
    let q : x ≡ a = cc in
    record {
      first = f;
      keys = hs;
      downs = ds;
      place = n;
      result = r;
      saw = subst (λ (j : ℕ). Saw N σ g o (walk.on f hs ds (walk.scan n j r))) p s;
      says = subst (λ (c : Answer). Says N σ g o c r) q u;
      held = refl;
    }

-- the pair of the leaf, or none
says_next : {N : Numbers} {σ : State} {g : Ghosts} {o : Operation} (Has : List ℕ → ℕ → Type 0) (k : List ℕ) (a : Answer) (r : Option ℕ) → Says N σ g o a r → NextOf Has k (pair_of σ.tree r) → NextSaid Has k a
says_next Has k _ _ Says.says_none h = NextSaid.comes_not h
says_next {σ = σ} Has k _ _ (Says.says_pair i s) h = NextSaid.comes (σ.tree.entries i).key (σ.tree.entries i).value h

-- the first check of next: the answer in hand is what is held, or a permit would be refused
pub scan_begins : {N : Numbers} {Key : List ℕ → Type 0} {σ : State} {g : Ghosts} → Lawful N Key → Inv N Key σ g → (s : ℕ) (o : Operation) → σ.seats s ≡ busy o → o.task ≡ op.next → (a : Answer) → o.stage ≡ scan 0 a
    → NextSaid (Holds σ.tree (ghost g)) o.key a ⊎ Unsound σ o.held 0
scan_begins {N = N} {Key = Key} {σ = σ} {g = g} w v s o e t a q =
    ⊎_elim (λ d. true_false (is_next o.task) (ap is_next t) d.0) (λ d. go (next_scans o.mode o.held o.stage a d.1 q) (sound_or σ o.held (v.calm s o e t))) (v.seats s o e).doing
  where
    go : Scans N σ g o o.held a → AllByRecursion (Ok σ) o.held ⊎ Unsound σ o.held 0 → NextSaid (Holds σ.tree (ghost g)) o.key a ⊎ Unsound σ o.held 0
    go c (inr u) = inr u
    go c (inl k) =
        let all = subst (AllByRecursion (Ok σ)) c.held k in
        let ends = split_all (Ok σ) c.keys c.downs all.1 in
        let stay : (h : Hold) → Ok σ h → walk.Stays walk.held N.deep o.key σ.tree σ.tree (SoundAt σ) (Ok σ) h = λ h p. record { was = λ x. x.0; key = λ x. refl; back = λ x b. refl; down = λ x. refl } in
        let seen = walks.stable walk.held N.deep o.key σ.tree σ.tree (SoundAt σ) (Ok σ) (walk.on c.first c.keys c.downs (walk.scan c.place 0 c.result))
        ((stay c.first all.0, All-weaker (Ok σ) _ stay c.keys ends.0), All-weaker (Ok σ) _ stay c.downs ends.1) c.saw in
        inl (says_next (Holds σ.tree (ghost g)) o.key a c.result c.says
        (snapshot v.tree (λ b m j. small_bytes b j (λ u y. w.keys.bytes b u y m)) walk.held (Ok σ) o.key c.result
        (walks.trail walk.held N.deep σ.tree o.key (Ok σ) c.first c.keys c.downs c.place c.result seen)
        (record { keys = (all.0, ends.0); downs = ends.1; still = λ h p. sound_steady v s o e h p.1 p.0 })))

-- the scan goes on past a sound permit
pub scan_next : (σ : State) (hs : List Hold) (i : ℕ) (h : Hold) → Unsound σ hs i → slice_get hs i ≡ Some h → SoundAt σ h → Unsound σ hs (suc i)
scan_next σ hs i h (j, k, l, m, f) e s = ⊎_elim
    (λ q. let p : h ≡ k = some_inj h k (sym e ∙ ap (slice_get hs) q ∙ m) in absurd (f (subst (SoundAt σ) p s)))
    (λ n. (j, k, omega (arith, n), m, f))
    (cases_eq i j)

-- past the last there is none to refuse
pub scan_over : (σ : State) (hs : List Hold) → Unsound σ hs (length hs) → ⊥
scan_over σ hs (j, h, l, m, f) = none_some (sym (slice_get_past hs j l) ∙ m)

nth_in : (hs : List Hold) (j : ℕ) (h : Hold) → slice_get hs j ≡ Some h → In h hs
nth_in [] j h e = no_way cc
nth_in (k ∷ hs) zero h e = inl (cc)
nth_in (k ∷ hs) (suc j) h e = inr (nth_in hs j h e)

-- what would be refused still would be, where no entry has become sound
pub unsound_stays : (σ τ : State) (hs : List Hold) (i : ℕ) → ((h : Hold) → In h hs → SoundAt τ h → SoundAt σ h) → Unsound σ hs i → Unsound τ hs i
unsound_stays σ τ hs i b (j, h, l, m, f) = (j, h, l, m, λ s. f (b h (nth_in hs j h m) s))
