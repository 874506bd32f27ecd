-- Calls that take no step keep the invariant: opens, closes and begins, sweeps, and the start.
use Rattle.std.proofs.Common.{◌≡◌, ℕ, zero, suc, ◌<◌, ◌≤◌, Bool, true, false, cond, ltb, ◌⊎◌, List, [], ◌∷◌, ◌++◌, Some, None, Option, sym, refl, ap, ◌∙◌, subst, inl, inr, ⊎_elim, arith, ltb-false, ltb-true}
use Rattle.terms.specs.Limits.{seat_count}
use Rattle.latches.specs.declared.word.Meaning.{Meaning}
use Rattle.model.specs.Bytes.{◌≼◌}
use Rattle.model.specs.Refs.{Ref, leaf, node, root, is}
use Rattle.model.specs.Tree.{Tree, child, prefix, Ghost, Status, TreeOk, Holds}
use Rattle.model.specs.Holds.{Hold}
use Rattle.model.specs.Operations as op
use Rattle.model.specs.Operations.{Operation, Task, Answer, Course, insert, grow, split, miss, in_place, collapse, items, Item, lock_p, lock_n, lock_m, draw, write_n, write_m, write_p, unlock_m, unlock_n, unlock_n_gone, unlock_p, Drawn, Mode, by_key, back, down, Stage, check_p, look, check_n, act, scan, Seat, closed, idle, busy, Outcome, go, again, answers}
use Rattle.machine.specs.State.{State, Numbers, WordsAre}
use Rattle.machine.specs.Steps.{is_next}
use Rattle.machine.specs.Calls.{Turns}
use Rattle.invariant.specs.Ghosts.{Ghosts, status_of, ghost, place_of, place_at, held_by, words_of, Safe, Permits, Flux}
use Rattle.invariant.specs.Nexts.{Nexts}
use Rattle.invariant.specs.Invariant.{Lawful, Walks, Aims, SeatOk, Inv}
use Rattle.invariant.specs.Changes.{Change, HoldsSame}
use Rattle.invariant.proofs.Setting.{true_false, linked_mark, retired_mark, seat_below, no_way}
use mathlib.Core.Path.{fun_ext}
use native.Mathlib.Decide.{ℕ_discrete}
use Rattle.latches.specs.Rules.{fresh}
use Rattle.model_words.specs.Words.{WordsOk}
use Rattle.model_words.specs.Effects.{Turn, Run}
use Rattle.model_words.specs.Effects as effects
use Rattle.model_words.specs.Theorems.{start_state}
use Rattle.model_words.proofs.Rely as rely
use Rattle.model_words.proofs.Able.{able}
use Rattle.model_words.specs.Places.{Place, PlacesOk, Suits}
use Rattle.model_tree.specs.Graft.{Closed}
use Rattle.model_tree.specs.Writes.{Aside}
use Rattle.model_tree.proofs.Aside.{aside, aside_closed, aside_holds}
use Rattle.model_tree.proofs.Turn.{choose, choose_in, choose_out}
use Rattle.model_tree.proofs.Start.{first, first_retired, starts, starts_empty}
use Rattle.model_slots.specs.Slots.{both, late, clear}
use Rattle.model_slots.specs.Laws.{Mark, linked, spare, outside, drawn, retired, swept}
use Rattle.model_slots.proofs.Lists.{is_tells}
use Rattle.machine.specs.Calls.{Calm, started, begun_at, Swept}
use Rattle.runs.specs.Runs.{New}
use Rattle.runs.specs.Happened.{in_pool}
use Rattle.invariant.proofs.Stable.{stable}
use Rattle.invariant.proofs.Written.{flux_more}
use Rattle.invariant.proofs.Keeps.{Queued}

-- the words stay, and one call more is accepted
pass : (N : Numbers) (σ τ : State) (j : ℕ) → j < seat_count → ((t : ℕ) → held_by (τ.seats t) ≡ held_by (σ.seats t)) → WordsAre σ.words τ → τ.calls ≡ suc σ.calls → Run N.limit (λ k. k ≡ j) (words_of σ) (words_of τ)
pass N σ τ j l h w c = Run.more j (leaf 0) (words_of τ) Run.stop refl (effects.Does.pass 0 (record {
  seat = l;
  before = [];
  after = held_by (σ.seats j);
  was = refl;
  is = h j;
  others = λ t _. h t;
  words = λ y _. w y;
}) (w (leaf 0)) (omega (arith, c)))

places_same : (σ τ : State) (g : Ghosts) → WordsAre σ.words τ → PlacesOk (place_at g) σ.words → PlacesOk (place_at g) τ.words
places_same σ τ g w p x = subst (λ (m : Meaning). Suits (place_at g x) m) (sym (w x)) (p x)

-- a seat that held nothing becomes one that holds nothing
module _ {N : Numbers} {Key : List ℕ → Type 0} {σ τ : State} {g : Ghosts} (v : Inv N Key σ g) (s : ℕ) (l : s < seat_count) (z : Seat) (t : Turns σ τ s z) (c : Calm σ τ) (was : held_by (σ.seats s) ≡ []) (now : held_by z ≡ [])
    (free : (u : Operation) → σ.seats s ≡ busy u → ⊥) (ok : (u : Operation) → z ≡ busy u → SeatOk N Key τ g s u) where
  held_same : (i : ℕ) → held_by (τ.seats i) ≡ held_by (σ.seats i)
  held_same i = elim (ℕ_discrete i s) [
    | yes q ↦ ap (λ (j : ℕ). held_by (τ.seats j)) q ∙ ap held_by t.there ∙ now ∙ sym was ∙ ap (λ (j : ℕ). held_by (σ.seats j)) (sym q)
    | no q ↦ ap held_by (t.elsewhere i q)
  ]

  turned : Change σ τ g g N s
  turned = record {
    words = pass N σ τ s l held_same c.words t.calls;
    others = t.elsewhere;
    nodes = λ x _. inl (record { prefix_same = ap (λ (T : Tree). prefix T x) c.still.tree; child_same = λ b. ap (λ (T : Tree). child T x b) c.still.tree; path_same = refl; full_same = refl; mark_same = refl });
    leaves = λ i. inl (ap (λ (T : Tree). T.entries i) c.still.tree);
    safe = λ i o e x q. q;
    drawn' = λ x i n q. q;
    epoch = omega (arith, t.epoch);
  }

  flux_same : (x : Ref) → Flux σ x → Flux τ x
  flux_same x (i, o, b, e, f) = elim (ℕ_discrete i s) [
    | yes q ↦ absurd (free o (ap σ.seats (sym q) ∙ e))
    | no q ↦ (i, o, b, t.elsewhere i q ∙ e, f)
  ]

  pub turn_kept : Inv N Key τ g
  turn_kept = record {
    tree = subst (λ (T : Tree). TreeOk N.deep Key (Flux τ) T (ghost g)) (sym c.still.tree) (flux_more flux_same v.tree);
    spelled = record { child_byte = λ x b y q. v.spelled.child_byte x b y (ap (λ (T : Tree). child T x b) (sym c.still.tree) ∙ q); full_byte = v.spelled.full_byte };
    closed' = subst (λ (T : Tree). Closed T (ghost g)) (sym c.still.tree) v.closed';
    rootless = λ x q b e k. v.rootless x q b e (ap (λ (T : Tree). child T x b) (sym c.still.tree) ∙ k);
    upto = λ x q e. let m = v.upto x q e in let k = t.epoch in omega (arith, m, k);
    words = rely.keeps_run turned.words v.words;
    places = places_same σ τ g c.words v.places;
    queued = λ x p q. v.queued x p (subst (λ (f : ℕ → List Ref). 0 < Rattle.model_slots.specs.Slots.count x (f p)) c.still.spare q);
    seats = λ i o e. elim (ℕ_discrete i s) [
      | yes q ↦ subst (λ (j : ℕ). SeatOk N Key τ g j o) (sym q) (ok o (sym t.there ∙ ap τ.seats (sym q) ∙ e))
      | no q ↦ stable v turned i o (sym (t.elsewhere i q) ∙ e) q
    ];
    calm = λ i o e n. elim (ℕ_discrete i s) [
      | yes q ↦ subst Permits (sym now ∙ ap held_by (sym t.there ∙ ap τ.seats (sym q) ∙ e)) tt
      | no q ↦ v.calm i o (sym (t.elsewhere i q) ∙ e) n
    ];
    outside = λ i b. t.elsewhere i (λ e. omega (arith, b, e, l)) ∙ v.outside i b;
  }

-- a begun operation
pub begun_ok : {N : Numbers} {Key : List ℕ → Type 0} {σ τ : State} {g : Ghosts} → Inv N Key σ g → (s : ℕ) (t : Task) (k : List ℕ) → Key k → τ.epoch ≡ σ.epoch → (u : Operation) → started t k σ.epoch ≡ busy u → SeatOk N Key τ g s u
begun_ok {N} {Key} {σ} {τ} {g} v s t k a e u q = subst (λ (o : Operation). SeatOk N Key τ g s o) (cc) (record {
  key = a;
  begun = omega (arith, e);
  reads = tt;
  aims = Aims.at root 0 (tt, inl v.tree.root_linked);
  doing = by t;
})
  where
    o : Task → Operation
    o t = record { task = t; key = k; begun = σ.epoch; restarts = 0; mode = by_key; held = []; stage = op.take root 0 }

    by : (t : Task) → ((is_next t ≡ false) × (by_key ≡ by_key) × Walks N Key τ g s (o t) [] (op.take root 0)) ⊎ ((t ≡ op.next) × Nexts N τ g (o t) by_key [] (op.take root 0))
    by op.find = inl (refl, refl, Walks.starts)
    by op.remove = inl (refl, refl, Walks.starts)
    by (op.add w) = inl (refl, refl, Walks.starts)
    by op.next = inr (refl, Nexts.starts)

-- who is late for an epoch is late for those before
clear_open : (o : ℕ → Option ℕ) (r n s e : ℕ) → clear o r n ≡ true → s < n → o s ≡ Some e → r < e
clear_open o r zero s e c l q = absurd (omega (arith, l))
clear_open o r (suc n) s e c l q = elim (ℕ_discrete s n) [
  | yes k ↦ here (o n) (ap o (sym k) ∙ q) (both_left (late r (o n)) (clear o r n) c)
  | no k ↦ clear_open o r n s e (both_right (late r (o n)) (clear o r n) c) (omega (arith, l, k)) q
]
  where
    both_left : (a b : Bool) → both a b ≡ true → a ≡ true
    both_left true b f = refl
    both_left false b f = f

    both_right : (a b : Bool) → both a b ≡ true → b ≡ true
    both_right true b f = f
    both_right false b f = true_false false f refl

    here : (x : Option ℕ) → x ≡ Some e → late r x ≡ true → r < e
    here None f g = no_way cc
    here (Some d) f g = let z : d ≡ e = cc in let y = ltb-true r d g in omega (arith, y, z)

clear_later : (o : ℕ → Option ℕ) (r q n : ℕ) → r ≤ q → clear o r n ≡ false → clear o q n ≡ false
clear_later o r q zero l c = c
clear_later o r q (suc n) l c = go (o n) (clear o r n) (clear_later o r q n l) c
  where
    rest : (a : Bool) → clear o q n ≡ false → both a (clear o q n) ≡ false
    rest true h = h
    rest false h = refl

    late_too : (d : ℕ) → ltb r d ≡ false → (a : Bool) → ltb q d ≡ a → both a (clear o q n) ≡ false
    late_too d p true y = let m = ltb-true q d y in let k = ltb-false r d p in absurd (omega (arith, m, k, l))
    late_too d p false y = refl

    by : (d : ℕ) (b : Bool) → (b ≡ false → clear o q n ≡ false) → (a : Bool) → ltb r d ≡ a → both a b ≡ false → both (ltb q d) (clear o q n) ≡ false
    by d b f true p h = rest (ltb q d) (f h)
    by d b f false p h = late_too d p (ltb q d) refl

    go : (x : Option ℕ) (b : Bool) → (b ≡ false → clear o q n ≡ false) → both (late r x) b ≡ false → both (late q x) (clear o q n) ≡ false
    go None b f h = f h
    go (Some d) b f h = by d b f (ltb r d) refl h

-- marks after a sweep that frees the epochs of f
swept_linked : (f : ℕ → Bool) (m : Mark) → status_of (swept f m) ≡ Status.linked → status_of m ≡ Status.linked
swept_linked f linked e = refl
swept_linked f spare e = no_way cc
swept_linked f outside e = no_way cc
swept_linked f (drawn s) e = no_way cc
swept_linked f (retired r) e = go (f r) e
  where
    go : (b : Bool) → status_of (cond b spare (retired r)) ≡ Status.linked → Status.retired r ≡ Status.linked
    go true q = no_way cc
    go false q = q

swept_retired : (f : ℕ → Bool) (m : Mark) (q : ℕ) → status_of (swept f m) ≡ Status.retired q → (status_of m ≡ Status.retired q) × (f q ≡ false)
swept_retired f linked q e = no_way cc
swept_retired f spare q e = no_way cc
swept_retired f outside q e = no_way cc
swept_retired f (drawn s) q e = no_way cc
swept_retired f (retired r) q e = go (f r) refl e
  where
    go : (b : Bool) → f r ≡ b → status_of (cond b spare (retired r)) ≡ Status.retired q → (Status.retired r ≡ Status.retired q) × (f q ≡ false)
    go true k h = no_way cc
    go false k h = let z : r ≡ q = cc in (h, subst (λ (n : ℕ). f n ≡ false) z k)

kept_linked : (f : ℕ → Bool) (m : Mark) → status_of m ≡ Status.linked → status_of (swept f m) ≡ Status.linked
kept_linked f m e = ap (λ (k : Mark). status_of (swept f k)) (linked_mark m e)

kept_retired : (f : ℕ → Bool) (m : Mark) (q : ℕ) → status_of m ≡ Status.retired q → f q ≡ false → status_of (swept f m) ≡ Status.retired q
kept_retired f m q e h = ap (λ (k : Mark). status_of (swept f k)) (retired_mark m q e) ∙ ap (λ (b : Bool). status_of (cond b spare (retired q))) h

-- the epochs that a sweep frees
abbrev pub frees : State → ℕ → Bool
frees σ r = clear (λ s. begun_at (σ.seats s)) r seat_count

abbrev pub sweeping : State → Ghosts → Ghosts
sweeping σ g = record { mark = λ x. swept (frees σ) (g.mark x); path = g.path; full = g.full }

module _ {N : Numbers} {Key : List ℕ → Type 0} {σ τ : State} {g : Ghosts} (v : Inv N Key σ g) {n : ℕ} (w : Swept σ τ n) where
  h : Ghosts
  h = sweeping σ g

  -- what an open operation may read is not freed
  not_freed : (s : ℕ) (o : Operation) (r : ℕ) → σ.seats s ≡ busy o → o.begun ≤ r → frees σ r ≡ false
  not_freed s o r e l = go (frees σ r) refl
    where
      go : (b : Bool) → frees σ r ≡ b → b ≡ false
      go true q = let k = clear_open (λ t. begun_at (σ.seats t)) r seat_count s o.begun q (seat_below v s o e) (ap begun_at e) in absurd (omega (arith, k, l))
      go false q = refl

  safe_kept : (s : ℕ) (o : Operation) → σ.seats s ≡ busy o → (x : Ref) → Safe o.begun g x → Safe o.begun (sweeping σ g) x
  safe_kept s o e x (inl l) = inl (kept_linked (frees σ) (g.mark x) l)
  safe_kept s o e x (inr (r, q, l)) = inr (r, kept_retired (frees σ) (g.mark x) r q (not_freed s o r e l), l)

  swept_mark : (m : Mark) → (swept (frees σ) m ≡ m) ⊎ ((r : ℕ) × (m ≡ retired r) × (frees σ r ≡ true))
  swept_mark linked = inl refl
  swept_mark spare = inl refl
  swept_mark outside = inl refl
  swept_mark (drawn s) = inl refl
  swept_mark (retired r) = go (frees σ r) refl
    where
      go : (b : Bool) → frees σ r ≡ b → (cond b spare (retired r) ≡ retired r) ⊎ ((q : ℕ) × (retired r ≡ retired q) × (frees σ q ≡ true))
      go true q = inr (r, refl, q)
      go false q = inl refl

  swept_change : (j : ℕ) → j < seat_count → Change σ τ g (sweeping σ g) N j
  swept_change j l = record {
    words = pass N σ τ j l (λ t. ap held_by (w.seats t)) w.words w.calls;
    others = λ s _. w.seats s;
    nodes = λ x _. ⊎_elim
        (λ e. inl (record { prefix_same = ap (λ (T : Tree). prefix T x) w.tree; child_same = λ b. ap (λ (T : Tree). child T x b) w.tree; path_same = refl; full_same = refl; mark_same = e }))
        (λ q. inr (inr (inr (inr (q.0, q.1, λ s o e k. true_false (frees σ q.0) q.2 (not_freed s o q.0 e k))))))
        (swept_mark (g.mark x));
    leaves = λ i. inl (ap (λ (T : Tree). T.entries i) w.tree);
    safe = safe_kept;
    drawn' = λ x s _ e. ap (swept (frees σ)) e;
    epoch = let e = w.epoch in omega (arith, e);
  }

  swept_aside : Aside σ.tree σ.tree (ghost g) (ghost (sweeping σ g))
  swept_aside = record {
    to = λ x l. kept_linked (frees σ) (g.mark x) l;
    from = λ x l. swept_linked (frees σ) (g.mark x) l;
    kids = λ x q c. refl;
    prefixes = λ x l. refl;
    entries = λ i l. refl;
    paths = λ x l. refl;
    fulls = λ x l. refl;
    since = λ x r l. (swept_retired (frees σ) (g.mark x) r l).0;
    later = λ x y r q l m k. kept_retired (frees σ) (g.mark y) q m (clear_later (λ s. begun_at (σ.seats s)) r q seat_count k (swept_retired (frees σ) (g.mark x) r l).1);
    room = λ x i. v.tree.narrow x i;
  }

  swept_place : (x : Ref) (m : Meaning) → Suits (place_at g x) m → Suits (place_at (sweeping σ g) x) m
  swept_place (leaf i) m s = tt
  swept_place (node k i) m s = go (g.mark (node k i)) s
    where
      go : (a : Mark) → Suits (place_of a) m → Suits (place_of (swept (frees σ) a)) m
      go linked s = s
      go spare s = s
      go outside s = s
      go (drawn t) s = s
      go (retired r) s = by (frees σ r) s
        where
          by : (b : Bool) → Suits Place.retired m → Suits (place_of (cond b spare (retired r))) m
          by true s = tt
          by false s = s

  -- another seat than s
  other_than : (s : ℕ) → (j : ℕ) × (j < seat_count) × (s ≡ j → ⊥)
  other_than zero = (1, omega arith, λ e. omega (arith, e))
  other_than (suc s) = (0, omega arith, λ e. omega (arith, e))

  pub sweep_kept : Queued τ (sweeping σ g) → Inv N Key τ (sweeping σ g)
  sweep_kept q = record {
    tree = subst (λ (T : Tree). TreeOk N.deep Key (Flux τ) T (ghost (sweeping σ g))) (sym w.tree) (flux_more (λ x (s, o, l, e, f). (s, o, l, w.seats s ∙ e, f)) (aside v.tree swept_aside));
    spelled = record {
      child_byte = λ x b y k. v.spelled.child_byte x b y (ap (λ (T : Tree). child T x b) (sym w.tree) ∙ k);
      full_byte = λ x u b i l k. v.spelled.full_byte x u b i (swept_linked (frees σ) (g.mark x) l) k;
    };
    closed' = subst (λ (T : Tree). Closed T (ghost (sweeping σ g))) (sym w.tree) (aside_closed v.tree swept_aside v.closed');
    rootless = λ x r b l k. v.rootless x r b (swept_retired (frees σ) (g.mark x) r l).0 (ap (λ (T : Tree). child T x b) (sym w.tree) ∙ k);
    upto = λ x r l. let m = v.upto x r (swept_retired (frees σ) (g.mark x) r l).0 in let e = w.epoch in omega (arith, m, e);
    words = rely.keeps_run (swept_change 0 (omega arith)).words v.words;
    places = λ x. swept_place x (τ.words x) (places_same σ τ g w.words v.places x);
    queued = q;
    seats = λ s o e. let j = other_than s in stable v (swept_change j.0 j.1) s o (sym (w.seats s) ∙ e) j.2;
    calm = λ s o e k. v.calm s o (sym (w.seats s) ∙ e) k;
    outside = λ s l. w.seats s ∙ v.outside s l;
  }

  pub sweep_holds : HoldsSame σ τ g (sweeping σ g)
  sweep_holds k u =
      let a = aside_holds v.tree swept_aside k u in
      ((λ x. a.0 (subst (λ (T : Tree). Holds T (ghost (sweeping σ g)) k u) w.tree x)), (λ x. subst (λ (T : Tree). Holds T (ghost (sweeping σ g)) k u) (sym w.tree) (a.1 x)))

-- what is known beside a just made index: the root alone is linked
abbrev pub beginning : Numbers → Ghosts
beginning N = record { mark = λ x. cond (is x root) linked (cond (in_pool N x) spare outside); path = λ x. []; full = λ x. [] }

module _ {N : Numbers} {Key : List ℕ → Type 0} {σ : State} (law : Lawful N Key) (n : New N σ) where
  first_same : ghost (beginning N) ≡ first
  unfolding first
  first_same = ap (λ (f : Ref → Status). record { st = f; path = λ x. []; full = λ x. [] }) (fun_ext (λ x. go x (is_tells x root)))
    where
      rest : (b : Bool) → status_of (cond b spare outside) ≡ Status.spare
      rest true = refl
      rest false = refl

      go : (x : Ref) → ((is x root ≡ true) × (x ≡ root)) ⊎ ((is x root ≡ false) × (x ≡ root → ⊥)) → status_of (cond (is x root) linked (cond (in_pool N x) spare outside)) ≡ choose x (root ∷ []) Status.linked Status.spare
      go x (inl (a, b)) = ap (λ (t : Bool). status_of (cond t linked (cond (in_pool N x) spare outside))) a ∙ sym (choose_in x (root ∷ []) Status.linked Status.spare (inl b))
      go x (inr (a, b)) = ap (λ (t : Bool). status_of (cond t linked (cond (in_pool N x) spare outside))) a ∙ rest (in_pool N x) ∙ sym (choose_out x (root ∷ []) Status.linked Status.spare (λ i. ⊎_elim b (λ q. q) i))

  closed_seat : {P : Type 0} (s : ℕ) (o : Operation) → σ.seats s ≡ busy o → P
  closed_seat s o e = let q = n.made.seats s in no_way cc

  words_new : words_of σ ≡ start_state
  words_new = start_is (fun_ext n.made.words) (fun_ext (λ s. ap held_by (n.made.seats s))) n.made.calls
    where
      start_is : {f : Ref → Meaning} {h : ℕ → List Hold} {c : ℕ} → f ≡ (λ x. fresh) → h ≡ (λ i. []) → c ≡ 0 → record { words = f; held = h; accepted = c } ≡ start_state
      start_is p q r = cc

  pub start_kept : Queued σ (beginning N) → Inv N Key σ (beginning N)
  start_kept q = record {
    tree = subst (λ (G : Ghost). TreeOk N.deep Key (Flux σ) σ.tree G) (sym first_same) (starts σ.tree law.deep law.not_empty n.children n.made.root_prefix);
    spelled = record { child_byte = λ x b y e. no_way (let z = n.children x b in cc); full_byte = λ x u b i l e. absurd (empty_snoc u b e) };
    closed' = λ x r b y e k. no_way (let z = n.children x b in cc);
    rootless = λ x r b e k. no_way (let z = n.children x b in cc);
    upto = λ x r e. absurd (first_retired x r (ap (λ (G : Ghost). G.st x) (sym first_same) ∙ e));
    words = subst (WordsOk N.limit) (sym words_new) (able N.limit).start;
    places = λ x. subst (λ (m : Meaning). Suits (place_at (beginning N) x) m) (sym (n.made.words x)) (suits x);
    queued = q;
    seats = λ s o e. closed_seat s o e;
    calm = λ s o e. closed_seat s o e;
    outside = λ s l. n.made.seats s;
  }
    where
      empty_snoc : (u : List ℕ) (b : ℕ) → (u ++ b ∷ []) ≼ [] → ⊥
      empty_snoc [] b e = e
      empty_snoc (a ∷ u) b e = e

      suits : (x : Ref) → Suits (place_at (beginning N) x) fresh
      suits (leaf i) = tt
      suits (node k i) = go (is (node k i) root) (in_pool N (node k i))
        where
          go : (a b : Bool) → Suits (place_of (cond a linked (cond b spare outside))) fresh
          go true b = refl
          go false true = tt
          go false false = tt

  pub start_lacks : (k : List ℕ) (u : ℕ) → Holds σ.tree (ghost (beginning N)) k u → ⊥
  start_lacks k u e = starts_empty σ.tree k u (subst (λ (G : Ghost). Holds σ.tree G k u) first_same e)
