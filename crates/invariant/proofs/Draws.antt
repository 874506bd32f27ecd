-- A draw touches spare slots alone.
use Rattle.std.proofs.Common.{◌≡◌, ℕ, zero, suc, ◌+◌, ◌<◌, ◌≤◌, Bool, true, false, cond, eqb, ◌⊎◌, List, [], ◌∷◌, ◌++◌, length, get_or, take, Some, None, Option, sym, refl, ap, ◌∙◌, subst, inl, inr, ⊎_elim, append_assoc, arith}
use mathlib.Core.Path.{fun_ext}
use Rattle.latches.specs.declared.word.Meaning.{Meaning}
use Rattle.model.specs.Bytes.{◌≼◌}
use Rattle.model.specs.Refs.{Ref, leaf, node, is, IsNode, Kind, room, pool}
use Rattle.model.specs.Tree.{Tree, Content, child, prefix, fan, cap, Status, Linked, one}
use Rattle.model.specs.Holds.{Hold, put}
use Rattle.model.specs.Operations.{Operation, Task, Course, insert, grow, split, miss, in_place, collapse, items, Item, lock_p, lock_n, draw, write_n, write_p, unlock_n, unlock_n_gone, unlock_p, Drawn, Mode, by_key, Stage, act, busy, Outcome}
use Rattle.machine.specs.State.{State, Numbers, with}
use Rattle.machine.specs.Choices.{key_byte, decided, begun}
use Rattle.machine.specs.Items.{draws, adds, filling, larger, LeafFilled, NodeFilled, fork, branch, split_node, grown_node, miss_node}
use Rattle.machine.specs.Steps.{is_next, Follows, Row}
use Rattle.invariant.specs.Ghosts.{Ghosts, status_of, ghost, place_of, place_at, Safe, IsLocked, FluxOf}
use Rattle.invariant.specs.Seats.{Placed, Decides, Above, Stand, at_root, below}
use Rattle.invariant.specs.Courses.{Solo, inserting, splitting, removing, Pair, growing, missing, collapsing, LeafDrawn, NodeDrawn, OneLocked, BothLocked, Acts}
use Rattle.invariant.specs.Invariant.{SeatOk, Inv}
use Rattle.invariant.specs.Changes.{Same, drew, Leaves, HoldsSame}
use Rattle.invariant.proofs.Setting.{Step, safe_not_spare, entry_reads, no_way, snoc_one, in_last, sound_locked}
use Rattle.latches.specs.Rules.{revived, raised}
use Rattle.model.specs.Tree as trees
use Rattle.model_tree.specs.Writes.{Laws, Aside}
use native.Mathlib.Decide.{dec_le}
use Rattle.std.proofs.lemmas.Bool.{eqb-true, ne_eqb, leb-true}
use Rattle.model.specs.Sights.{Seen, empty, seen}
use Rattle.model_tree.proofs.Ready.{never_full}
use Rattle.model_words.proofs.Release.{put_same}
use Rattle.model.proofs.Bytes.{pick, some_inj, none_some, ≼_under}
use Rattle.model_tree.proofs.Aside.{aside, aside_closed, aside_holds}
use Rattle.model_tree.proofs.Graft.{count_same, count_put}
use Rattle.model_words.specs.Words.{In}
use Rattle.model_words.specs.Places.{PlacesOk, Suits}
use Rattle.model_slots.specs.Slots.{count, bit}
use Rattle.model_slots.specs.Laws.{Mark, linked, spare, outside, drawn, retired}
use Rattle.model_slots.proofs.Lists.{is_tells, is_self}
use Rattle.invariant.proofs.Sees.{At, seen_same}
use Rattle.invariant.proofs.Stable.{kid_safe, decided_same, filling_same, split_other, seen_other}
use Rattle.invariant.proofs.WalkRows.{was_sound}
use Rattle.invariant.proofs.RowWords.{row_places}
use Rattle.invariant.proofs.Locking.{acting}
use Rattle.invariant.proofs.Written.{followed, flux_more, seat_acts, stand_placed, at_locked, chosen_at, tells_at, no_flux}
use Rattle.invariant.proofs.Quiet.{flux_goes}

-- the head of a queue is spare
pub head_spare : {N : Numbers} {Key : List ℕ → Type 0} {σ : State} {g : Ghosts} → Inv N Key σ g → (x : Ref) (p : ℕ) (l : List Ref) → σ.spare p ≡ x ∷ l → g.mark x ≡ spare
head_spare {σ = σ} v x p l e = (v.queued x p (subst (λ (q : List Ref). 0 < count x q) (sym e) (let z : bit (is x x) ≡ 1 = ap bit (is_self x) in omega (arith, z)))).0

-- only spare slots differ
pub record Beside (σ τ : State) (g : Ghosts) : Type 0 where
  pub prefixes : (x : Ref) → (g.mark x ≡ spare → ⊥) → prefix τ.tree x ≡ prefix σ.tree x
  pub kids : (x : Ref) → (g.mark x ≡ spare → ⊥) → (b : ℕ) → child τ.tree x b ≡ child σ.tree x b
  pub entries : (i : ℕ) → (g.mark (leaf i) ≡ spare → ⊥) → τ.tree.entries i ≡ σ.tree.entries i

-- spare slots that the seat s drew
pub record Drew (s : ℕ) (g h : Ghosts) : Type 0 where
  pub path_same : h.path ≡ g.path
  pub full_same : h.full ≡ g.full
  pub others : (x : Ref) → (g.mark x ≡ spare → ⊥) → h.mark x ≡ g.mark x
  pub became : (x : Ref) → g.mark x ≡ spare → (h.mark x ≡ spare) ⊎ (h.mark x ≡ drawn s)

not_spare : (e : ℕ) (g : Ghosts) (x : Ref) → Safe e g x → g.mark x ≡ spare → ⊥
not_spare e g x l m = safe_not_spare e g x l m

by_mark : {P : Type 0} (m : Mark) → (m ≡ spare → P) → ((m ≡ spare → ⊥) → P) → P
by_mark linked a b = b (λ e. no_way cc)
by_mark spare a b = a refl
by_mark outside a b = b (λ e. no_way cc)
by_mark (drawn s) a b = b (λ e. no_way cc)
by_mark (retired r) a b = b (λ e. no_way cc)

module _ {N : Numbers} {Key : List ℕ → Type 0} {σ τ : State} {g h : Ghosts} {s : ℕ} (v : Inv N Key σ g) (b : Beside σ τ g) (d : Drew s g h) where
  status_same : (x : Ref) → (g.mark x ≡ spare → ⊥) → (ghost h).st x ≡ (ghost g).st x
  status_same x n = ap status_of (d.others x n)

  -- neither linked nor retired is spare
  linked_not : (x : Ref) → Linked (ghost g) x → g.mark x ≡ spare → ⊥
  linked_not x l m = not_spare 0 g x (inl l) m

  retired_not : (x : Ref) (r : ℕ) → (ghost g).st x ≡ Status.retired r → g.mark x ≡ spare → ⊥
  retired_not x r l m = not_spare 0 g x (inr (r, l, omega arith)) m

  -- and what was spare is neither after it
  status_of_lem : (x : Ref) → ((g.mark x ≡ spare → ⊥) × ((ghost h).st x ≡ (ghost g).st x)) ⊎ (((ghost h).st x ≡ Status.spare) ⊎ ((ghost h).st x ≡ Status.drawn))
  status_of_lem x = by_mark (g.mark x) (λ e. inr (⊎_elim (λ q. inl (ap status_of q)) (λ q. inr (ap status_of q)) (d.became x e))) (λ n. inl (n, status_same x n))

  linked_from : (x : Ref) → Linked (ghost h) x → Linked (ghost g) x
  linked_from x l = ⊎_elim (λ q. sym q.1 ∙ l) (λ q. ⊎_elim (λ e. no_way (cc)) (λ e. no_way (cc)) q) (status_of_lem x)

  retired_from : (x : Ref) (r : ℕ) → (ghost h).st x ≡ Status.retired r → (ghost g).st x ≡ Status.retired r
  retired_from x r l = ⊎_elim (λ q. sym q.1 ∙ l) (λ q. ⊎_elim (λ e. no_way (cc)) (λ e. no_way (cc)) q) (status_of_lem x)

  pub besides : ((x : Ref) → IsNode x → fan τ.tree x ≤ cap x) → Aside σ.tree τ.tree (ghost g) (ghost h)
  besides room = record {
    to = λ x l. status_same x (linked_not x l) ∙ l;
    from = linked_from;
    kids = λ x q c. b.kids x (⊎_elim (linked_not x) (λ z. retired_not x z.0 (retired_from x z.0 z.1)) q) c;
    prefixes = λ x l. b.prefixes x (linked_not x l);
    entries = λ i l. b.entries i (linked_not (leaf i) l);
    paths = λ x l. ap (λ (f : Ref → List ℕ). f x) d.path_same;
    fulls = λ x l. ap (λ (f : Ref → List ℕ). f x) d.full_same;
    since = retired_from;
    later = λ x y r q l m k. status_same y (retired_not y q m) ∙ m;
    room = room;
  }

-- the ghosts after the seat s drew x
abbrev pub drawing : ℕ → Ref → Ghosts → Ghosts
drawing s x g = record { mark = drew s x g.mark; path = g.path; full = g.full }

-- the marks at and beside a drawn slot
drew_self : (s : ℕ) (x : Ref) (g : Ghosts) → (drawing s x g).mark x ≡ drawn s
drew_self s x g = ap (λ (w : Bool). cond w (drawn s) (g.mark x)) (is_self x)

drew_else : (s : ℕ) (x : Ref) (g : Ghosts) (y : Ref) → (y ≡ x → ⊥) → (drawing s x g).mark y ≡ g.mark y
drew_else s x g y n = ⊎_elim (λ q. absurd (n q.1)) (λ q. ap (λ (w : Bool). cond w (drawn s) (g.mark y)) q.0) (is_tells y x)

-- a draw of a spare slot
drew_one : (s : ℕ) (x : Ref) (g : Ghosts) → g.mark x ≡ spare → Drew s g (drawing s x g)
drew_one s x g m = record {
  path_same = refl;
  full_same = refl;
  others = λ y n. drew_else s x g y (λ e. n (ap g.mark e ∙ m));
  became = λ y e. pick y x (λ q. inr (ap (drew s x g.mark) q ∙ drew_self s x g)) (λ n. inl (drew_else s x g y n ∙ e));
}

-- one draw after another
drew_two : {s : ℕ} {g h k : Ghosts} → Drew s g h → Drew s h k → Drew s g k
drew_two {s} {g} {h} {k} a b = record {
  path_same = b.path_same ∙ a.path_same;
  full_same = b.full_same ∙ a.full_same;
  others = λ x n. b.others x (λ e. n (sym (a.others x n) ∙ e)) ∙ a.others x n;
  became = λ x e. ⊎_elim (λ q. b.became x q) (λ q. inr (b.others x (λ z. no_way (cc (q, z))) ∙ q)) (a.became x e);
}

-- a drawn node's word is not gone
places_drew : (s : ℕ) (x : Ref) (g : Ghosts) (f : Ref → Meaning) → (IsNode x → (f x).gone ≡ false) → PlacesOk (place_at g) f → PlacesOk (place_at (drawing s x g)) f
places_drew s x g f n ok (leaf m) = tt
places_drew s x g f n ok (node k m) = ⊎_elim
    (λ q. subst (λ (w : Bool). Suits (place_of (cond w (drawn s) (g.mark (node k m)))) (f (node k m))) (sym q.0) (subst (λ (y : Ref). (f y).gone ≡ false) (sym q.1) (n (subst IsNode q.1 tt))))
    (λ q. subst (λ (w : Bool). Suits (place_of (cond w (drawn s) (g.mark (node k m)))) (f (node k m))) (sym q.0) (ok (node k m)))
    (is_tells (node k m) x)

-- a revived word is not gone
revived_here : (m : Meaning) → (revived m).gone ≡ false
revived_here m = go m.gone refl
  where
    go : (t : Bool) → m.gone ≡ t → (cond t (raised m) m).gone ≡ false
    go true e = refl
    go false e = e

-- the byte at a place of a list, where it has one
at_byte : (k : List ℕ) (m : ℕ) → ((take m k ++ get_or k m 0 ∷ []) ≼ k) ⊎ (get_or k m 0 ≡ 0)
at_byte [] m = inr refl
at_byte (a ∷ k) zero = inl (refl, tt)
at_byte (a ∷ k) (suc m) = ⊎_elim (λ h. inl (refl, h)) inr (at_byte k m)

-- a byte of an accepted key, or 0
key_byte_lem : {deep : ℕ} {Key : List ℕ → Type 0} → Laws deep Key → (k : List ℕ) (m : ℕ) → Key k → get_or k m 0 < 256
key_byte_lem l k m a = ⊎_elim (λ h. l.bytes k (take m k) (get_or k m 0) a h) (λ e. omega (arith, e)) (at_byte k m)

few_one : (o : Option Ref) → one o ≤ 1
few_one None = omega arith
few_one (Some y) = omega arith

-- one child exchanged makes one child more at most
count_more : (f g : ℕ → Option Ref) (b n : ℕ) → ((c : ℕ) → (c ≡ b → ⊥) → g c ≡ f c) → trees.count g n ≤ suc (trees.count f n)
count_more f g b n h = elim (dec_le (suc b) n) [
  | yes l ↦ omega (arith, count_put f g b n l h, few_one (g b))
  | no l ↦ omega (arith, count_same f g n (λ c k. h c (λ e. omega (arith, e, k, l))))
]

count_none : (n : ℕ) → trees.count (λ _. None) n ≡ 0
unfolding trees.count
count_none zero = refl
count_none (suc n) = omega (arith, count_none n)

-- a fork has two children at most, under its bytes
fork_few : (b : ℕ) (x : Ref) (c : ℕ) (y : Ref) (n : ℕ) → trees.count (fork b x c y) n ≤ 2
fork_few b x c y n = omega (
  arith,
  count_none n,
  count_more (λ _. None) last c n (λ e q. ap (λ (t : Bool). cond t (Some y) None) (ne_eqb e c q)),
  count_more last (fork b x c y) b n (λ e q. ap (λ (t : Bool). cond t (Some x) (last e)) (ne_eqb e b q)),
)
  where
    last : ℕ → Option Ref
    last e = cond (eqb e c) (Some y) None

fork_at : (b : ℕ) (x : Ref) (c : ℕ) (y : Ref) (e : ℕ) (z : Ref) → fork b x c y e ≡ Some z → (e ≡ b) ⊎ (e ≡ c)
fork_at b x c y e z h = go (eqb e b) refl h
  where
    by : (t : Bool) → eqb e c ≡ t → cond t (Some y) None ≡ Some z → (e ≡ b) ⊎ (e ≡ c)
    by true q f = inr (eqb-true e c q)
    by false q f = absurd (none_some f)

    go : (t : Bool) → eqb e b ≡ t → cond t (Some x) (cond (eqb e c) (Some y) None) ≡ Some z → (e ≡ b) ⊎ (e ≡ c)
    go true q f = inl (eqb-true e b q)
    go false q f = by (eqb e c) refl f

-- a larger node has room for one child more
larger_room : (x : Ref) (kind : Kind) → larger x ≡ Some kind → suc (cap x) ≤ room kind
larger_room (leaf i) kind e = absurd (none_some e)
larger_room (node Kind.four i) kind e = subst (λ (k : Kind). 5 ≤ room k) (some_inj Kind.sixteen kind e) (omega arith)
larger_room (node Kind.sixteen i) kind e = subst (λ (k : Kind). 17 ≤ room k) (some_inj Kind.forty_eight kind e) (omega arith)
larger_room (node Kind.forty_eight i) kind e = subst (λ (k : Kind). 49 ≤ room k) (some_inj Kind.whole kind e) (omega arith)
larger_room (node Kind.whole i) kind e = absurd (none_some e)

-- what is filled in has room
filled_fits : (S : Tree) (k : List ℕ) (n : Hold) (i : ℕ) (c : Course) (kind : Kind) (w : Content) → draws n c ≡ Some kind → filling S k n i c ≡ Some w → fan S n.at ≤ cap n.at → trees.count w.child 256 ≤ room kind
unfolding fan
filled_fits S k n i (insert v) kind w d f l = absurd (none_some d)
filled_fits S k n i (split v j) kind w d f l = subst (λ (t : Kind). trees.count w.child 256 ≤ room t) (some_inj Kind.four kind d)
    (subst (λ (t : Content). trees.count t.child 256 ≤ 4) (some_inj (split_node S k n i j) w f)
    (omega (arith, fork_few (get_or (S.entries j).key (branch S k n i j) 0) (leaf j) (get_or k (branch S k n i j) 0) (leaf i) 256)))
filled_fits S k n i (grow v) kind w d f l = subst (λ (t : Content). trees.count t.child 256 ≤ room kind) (some_inj (grown_node S k n i) w f)
    (omega (
      arith,
      l,
      larger_room n.at kind d,
      count_more (child S n.at) (grown_node S k n i).child (key_byte S k n) 256
          (λ e q. ap (λ (t : Bool). cond t (Some (leaf i)) (child S n.at e)) (ne_eqb e (key_byte S k n) q)),
    ))
filled_fits S k n i (miss v m) kind w d f l = subst (λ (t : Kind). trees.count w.child 256 ≤ room t) (some_inj Kind.four kind d)
    (subst (λ (t : Content). trees.count t.child 256 ≤ 4) (some_inj (miss_node S k n i m) w f)
    (omega (arith, fork_few (get_or (prefix S n.at) m 0) n.at (get_or k (n.depth + m) 0) (leaf i) 256)))
filled_fits S k n i (in_place v l') kind w d f l = absurd (none_some d)
filled_fits S k n i (collapse v l' x) kind w d f l = absurd (none_some d)

module _ {N : Numbers} {Key : List ℕ → Type 0} {σ τ : State} {g h : Ghosts} {s : ℕ} {o u : Operation} {r : Outcome} (st : Step N Key σ τ g s o (busy u) r) (b : Beside σ τ g) (d : Drew s g h) where
  -- what is not spare stays as it is
  same_at : (x : Ref) → (g.mark x ≡ spare → ⊥) → Same σ τ g h x
  same_at x n = record {
    prefix_same = b.prefixes x n;
    child_same = b.kids x n;
    path_same = ap (λ (f : Ref → List ℕ). f x) d.path_same;
    full_same = ap (λ (f : Ref → List ℕ). f x) d.full_same;
    mark_same = d.others x n;
  }

  safe_still : (e : ℕ) (x : Ref) → Safe e g x → Safe e h x
  safe_still e x l = let q = status_same st.inv b d x (not_spare e g x l) in ⊎_elim (λ k. inl (q ∙ k)) (λ k. inr (k.0, q ∙ k.1, k.2)) l

  -- what a draw leaves, from what it fills in
  draw_leaves : ((x : Ref) → FluxOf o x → ⊥) → ((x : Ref) → IsNode x → fan τ.tree x ≤ cap x) → ((x : Ref) (c : ℕ) (y : Ref) → child τ.tree x c ≡ Some y → c < 256) → PlacesOk (place_at h) τ.words
      → ((v : Operation) → τ.seats s ≡ busy v → SeatOk N Key τ h s v) → Leaves N Key σ τ g h s × HoldsSame σ τ g h
  draw_leaves calm room bytes places seat =
      let v = st.inv in
      let a = besides v b d room in (
        record {
          tree = flux_more (flux_goes st calm) (aside v.tree a);
          spelled = record {
            child_byte = bytes;
            full_byte = λ x w c n l q. v.spelled.full_byte x w c n (linked_from v b d x l) (subst (λ (f : Ref → List ℕ). (w ++ c ∷ []) ≼ f x) d.full_same q);
          };
          closed' = aside_closed v.tree a v.closed';
          rootless = λ x q c l k. let m = retired_from v b d x q l in v.rootless x q c m (sym (b.kids x (retired_not v b d x q m) c) ∙ k);
          upto = λ x q l. let m = v.upto x q (retired_from v b d x q l) in let k = st.turns.epoch in omega (arith, m, k);
          places = places;
          nodes = λ x _. by_mark (g.mark x) (λ e. inr (inr (inl e))) (λ n. inl (same_at x n));
          leaves = λ i. by_mark (g.mark (leaf i)) inr (λ n. inl (b.entries i n));
          safe = λ t w e x l. safe_still w.begun x l;
          drawn' = λ x t ne e. d.others x (λ z. no_way (cc (e, z))) ∙ e;
          seat = seat;
        },
        aside_holds v.tree a,
      )

  module _ (row : Row N σ τ o (busy u) r) (ke : u.key ≡ o.key) (ta : u.task ≡ o.task) where
    -- what the seat holds, and the leaves below it, stay as they are
    held_same : (k : Hold) → In k o.held → Same σ τ g h k.at
    held_same k m = same_at k.at (not_spare o.begun g k.at (entry_reads st.inv s o st.was k m).1)

    kid_same : (k : Hold) → In k o.held → (c l : ℕ) → child σ.tree k.at c ≡ Some (leaf l) → τ.tree.entries l ≡ σ.tree.entries l
    kid_same k m c l q = b.entries l (not_spare o.begun g (leaf l) (kid_safe st.inv o.begun k.at c (leaf l) (entry_reads st.inv s o st.was k m).1 q))

    kids : (k : Hold) → In k o.held → child τ.tree k.at ≡ child σ.tree k.at
    kids k m = fun_ext (held_same k m).child_same

    seen_still : (k : Hold) → In k o.held → seen N.deep τ.tree u.key k.at k.depth ≡ seen N.deep σ.tree o.key k.at k.depth
    seen_still k m = ap (λ (w : List ℕ). seen N.deep τ.tree w k.at k.depth) ke
        ∙ seen_same N.deep σ.tree τ.tree o.key k.at k.depth (held_same k m).prefix_same (kids k m) (kid_same k m)

    -- so what is known of it still holds
    placed_still : (k : Hold) → In k o.held → Placed N σ g o k → Placed N τ h u k
    placed_still k m p t =
        let a = held_same k m in
        let q = p (was_sound st row k m t) in
        (ap status_of a.mark_same ∙ q.0, subst (λ (w : List ℕ). h.path k.at ≼ w) (sym ke) (subst (λ (w : List ℕ). w ≼ o.key) (sym a.path_same) q.1), ap length a.path_same ∙ q.2)

    decides_still : (k : Hold) (a : Stage) → In k o.held → Decides N σ g o k a → Decides N τ h u k a
    decides_still k a m p t =
        let w = held_same k m in
        ap (λ (x : Seen). decided τ.tree u.key k u.task x) (seen_still k m)
        ∙ ap (λ (x : List ℕ). decided τ.tree x k u.task (seen N.deep σ.tree o.key k.at k.depth)) ke
        ∙ ap (λ (x : Task). decided τ.tree o.key k x (seen N.deep σ.tree o.key k.at k.depth)) ta
        ∙ decided_same σ.tree τ.tree o.key k w.prefix_same (kids k m) o.task (seen N.deep σ.tree o.key k.at k.depth)
        ∙ p (was_sound st row k m t)

    above_still : (k : Hold) (y : Ref) (e : ℕ) → In k o.held → Above N σ g o k y e → Above N τ h u k y e
    above_still k y e m a = record {
      placed = placed_still k m a.placed;
      leads = λ t. seen_still k m ∙ a.leads (was_sound st row k m t);
      deeper = a.deeper;
      within = a.within;
      inner = a.inner;
    }

    stand_still : (hs : List Hold) (n : Hold) → ((k : Hold) → In k (hs ++ n ∷ []) → In k o.held) → Stand N σ g o hs n → Stand N τ h u hs n
    stand_still _ _ m (at_root n e k p) = at_root n e k (placed_still n (m n (inl refl)) p)
    stand_still _ _ m (below p n a q) = below p n (above_still p n.at n.depth (m p (inl refl)) a) (placed_still n (m n (inr (inl refl))) q)

    one_still : (c : Course) (hs : List Hold) (n : Hold) → o.held ≡ hs ++ n ∷ [] → OneLocked N Key σ g s o c hs n → OneLocked N Key τ h s u c hs n
    one_still c hs n q l =
        let m : (k : Hold) → In k (hs ++ n ∷ []) → In k o.held = λ k. subst (λ (w : List Hold). In k w) (sym q) in
        record { stand = stand_still hs n m l.stand; permits = l.permits; locked = l.locked; decides = decides_still n (begun c) (m n (in_last hs n)) l.decides }

    both_still : (c : Course) (p n : Hold) → o.held ≡ p ∷ n ∷ [] → BothLocked N Key σ g s o c p n → BothLocked N Key τ h s u c p n
    both_still c p n q l =
        let m : (k : Hold) → In k (p ∷ n ∷ []) → In k o.held = λ k. subst (λ (w : List Hold). In k w) (sym q) in
        record { stand = stand_still (p ∷ []) n m l.stand; above = l.above; locked = l.locked; decides = decides_still n (begun c) (m n (inr (inl refl))) l.decides }

    -- what is drawn is as it was filled in
    leaf_made : (i v : ℕ) → LeafFilled σ.tree τ.tree i o.key v → h.mark (leaf i) ≡ drawn s → LeafDrawn N Key τ h s u i v
    leaf_made i v f m = record { drawn' = m; key = f.key ∙ sym ke; value = f.value }

    -- the leaf that a locked node is split at
    split_still : (n : Hold) → In n o.held → IsLocked n → (c : Course) → Decides N σ g o n (begun c) → (w l : ℕ) → c ≡ split w l → τ.tree.entries l ≡ σ.tree.entries l
    split_still n m k c de w l q =
        let t = split_other σ.tree o.key n o.task (seen N.deep σ.tree o.key n.at n.depth) w l (de (sound_locked σ n k) ∙ ap (λ (x : Course). Some (begun x)) q) in
        let a = seen_other N.deep σ.tree o.key n.at n.depth l t in kid_same n m a.0 l a.1

    node_made : (c : Course) (n : Hold) (i : ℕ) (y : Ref) (w : Content) → In n o.held → IsLocked n → Decides N σ g o n (begun c) → IsNode y → h.mark y ≡ drawn s → filling σ.tree o.key n i c ≡ Some w
        → NodeFilled σ.tree τ.tree y w → NodeDrawn N Key τ h s u c n i y
    node_made c n i y w m k de ny dy f q =
        let a = held_same n m in
        record {
          inner = ny;
          drawn' = dy;
          content = w;
          filled = ap (λ (x : List ℕ). filling τ.tree x n i c) ke ∙ filling_same σ.tree τ.tree o.key n a.prefix_same (kids n m) i c (split_still n m k c de) ∙ f;
          prefix_is = q.prefix_is;
          child_is = q.child_is;
        }

-- no course begins with a draw
solo_draw : {P : Type 0} (c : Course) (rest : List Item) → Solo c → items c ≡ draw ∷ rest → P
solo_draw _ rest (inserting v) e = no_way (cc e)
solo_draw _ rest (splitting v j) e = no_way (cc e)
solo_draw _ rest (removing v l) e = no_way (cc e)

pair_draw : {P : Type 0} (c : Course) (rest : List Item) → Pair c → items c ≡ draw ∷ rest → P
pair_draw _ rest (growing v) e = no_way (cc e)
pair_draw _ rest (missing v i) e = no_way (cc e)
pair_draw _ rest (collapsing v l (leaf j)) e = no_way (cc e)
pair_draw _ rest (collapsing v l (node k j)) e = no_way (cc e)

-- the stage at which a course draws
module _ (N : Numbers) (Key : List ℕ → Type 0) (σ : State) (g : Ghosts) (s : ℕ) (o : Operation) where
  abbrev AtDraw : Course → List Item → List Hold → Hold → Type 0
  AtDraw (insert v) rest hs n = (rest ≡ write_n ∷ unlock_n ∷ []) × OneLocked N Key σ g s o (insert v) hs n
  AtDraw (split v j) rest hs n = (rest ≡ write_n ∷ unlock_n ∷ []) × OneLocked N Key σ g s o (split v j) hs n
  AtDraw (grow v) rest hs n = (rest ≡ write_p ∷ unlock_n_gone ∷ unlock_p ∷ []) × ((p : Hold) × (hs ≡ p ∷ []) × BothLocked N Key σ g s o (grow v) p n)
  AtDraw (miss v m) rest hs n = (rest ≡ write_n ∷ write_p ∷ unlock_n ∷ unlock_p ∷ []) × ((p : Hold) × (hs ≡ p ∷ []) × BothLocked N Key σ g s o (miss v m) p n)
  AtDraw (in_place v l) rest hs n = Unit {0}
  AtDraw (collapse v l x) rest hs n = Unit {0}

module _ {N : Numbers} {Key : List ℕ → Type 0} {σ : State} {g : Ghosts} {s : ℕ} {o : Operation} where
  solo_at : (c : Course) (rest : List Item) (hs : List Hold) (n : Hold) → Solo c → OneLocked N Key σ g s o c hs n → rest ≡ write_n ∷ unlock_n ∷ [] → AtDraw N Key σ g s o c rest hs n
  solo_at _ rest hs n (inserting v) l e = (e, l)
  solo_at _ rest hs n (splitting v j) l e = (e, l)
  solo_at _ rest hs n (removing v j) l e = tt

  pair_at : (c : Course) (is rest : List Item) (p n : Hold) → Pair c → BothLocked N Key σ g s o c p n → items c ≡ lock_p ∷ lock_n ∷ draw ∷ is → draw ∷ is ≡ draw ∷ rest → AtDraw N Key σ g s o c rest (p ∷ []) n
  pair_at _ is rest p n (growing v) l e q = (cc (e, q), (p, refl, l))
  pair_at _ is rest p n (missing v m) l e q = (cc (e, q), (p, refl, l))
  pair_at _ is rest p n (collapsing v j x) l e q = tt

  -- what is known where a course draws
  draw_at : (c : Course) (is : List Item) (d : Option Drawn) (hs : List Hold) → Acts N Key σ g s o c is d hs → (rest : List Item) → is ≡ draw ∷ rest → (ks : List Hold) × (n : Hold) × (hs ≡ ks ++ n ∷ []) × AtDraw N Key σ g s o c rest ks n
  draw_at _ _ d _ (Acts.to_lock c hs n so a pe de) rest e = solo_draw c rest so e
  draw_at _ _ d _ (Acts.to_draw c w hs n so ad ol) rest e = (hs, n, refl, solo_at c rest hs n so ol (cc e))
  draw_at _ _ d _ (Acts.to_insert v i hs n ol ld) rest e = no_way (cc e)
  draw_at _ _ d _ (Acts.to_split v j i y hs n ol ld nd) rest e = no_way (cc e)
  draw_at _ _ d _ (Acts.to_remove v l hs n ol) rest e = no_way (cc e)
  draw_at _ _ d _ (Acts.to_unlock c hs n so pe lo li) rest e = no_way (cc e)
  draw_at _ _ d _ (Acts.to_lock_p c p n pa a pe de) rest e = pair_draw c rest pa e
  draw_at _ _ d _ (Acts.to_lock_n c js p n pa it a lo pe de) rest e = no_way (cc e)
  draw_at _ _ d _ (Acts.to_draw_both c w js p n pa it ad bl) rest e = (p ∷ [], n, refl, pair_at c js rest p n pa bl it e)
  draw_at _ _ d _ (Acts.to_grow v i y p n bl ld nd) rest e = no_way (cc e)
  draw_at _ _ d _ (Acts.to_cut v m i y p n bl ld nd) rest e = no_way (cc e)
  draw_at _ _ d _ (Acts.to_miss v m i y p n cu) rest e = no_way (cc e)
  draw_at _ _ d _ (Acts.to_collapse v l j p n bl) rest e = no_way (cc e)
  draw_at _ _ d _ (Acts.to_lock_m v l k j p n bl) rest e = no_way (cc e)
  draw_at _ _ d _ (Acts.to_join v l p n m jo) rest e = no_way (cc e)
  draw_at _ _ d _ (Acts.to_collapse_m v l p n m jo) rest e = no_way (cc e)
  draw_at _ _ d _ (Acts.to_unlock_m c p n m pa lp ln lm ip re im) rest e = no_way (cc e)
  draw_at _ _ d _ (Acts.to_unlock_gone c p n pa lp ln ip re) rest e = no_way (cc e)
  draw_at _ _ d _ (Acts.to_unlock_n v m p n lp ln ip ik) rest e = no_way (cc e)
  draw_at _ _ d _ (Acts.to_unlock_p c p pa lp ip) rest e = no_way (cc e)

-- what is known of a seat that draws
drawing_at : {N : Numbers} {Key : List ℕ → Type 0} {σ : State} {g : Ghosts} {s : ℕ} {o : Operation} → SeatOk N Key σ g s o → (c : Course) (rest : List Item) (d : Option Drawn) (hs : List Hold) (n : Hold)
    → o.stage ≡ act c (draw ∷ rest) d → o.held ≡ hs ++ n ∷ [] → (is_next o.task ≡ false) × (o.mode ≡ by_key) × AtDraw N Key σ g s o c rest hs n
drawing_at {N} {Key} {σ} {g} {s} {o} ok c rest d hs n e q =
    let a = acting ok c (draw ∷ rest) d e in
    let w = draw_at c (draw ∷ rest) d o.held a.2 rest refl in
    let z = snoc_one w.0 hs w.1 n (sym w.2 ∙ q) in
    (a.0, a.1, subst (λ (m : Hold). AtDraw N Key σ g s o c rest hs m) z.1 (subst (λ (l : List Hold). AtDraw N Key σ g s o c rest l w.1) z.0 w.3))

-- the operation after it has its key and task
with_key : (o u : Operation) (m : Mode) (hs : List Hold) (k : Stage) → busy u ≡ with o m hs k → (u.key ≡ o.key) × (u.task ≡ o.task)
with_key o u m hs k e =
    let q : u ≡ record { task = o.task; key = o.key; begun = o.begun; restarts = o.restarts; mode = m; held = hs; stage = k } = cc e in
    (ap (λ (x : Operation). x.key) q, ap (λ (x : Operation). x.task) q)

module _ {N : Numbers} {Key : List ℕ → Type 0} {σ τ : State} {g : Ghosts} {s : ℕ} {o u : Operation} {r : Outcome} (st : Step N Key σ τ g s o (busy u) r) (t : is_next o.task ≡ false) where
  -- children of what is filled in stand under bytes
  split_bytes : (v j i : ℕ) (n : Hold) → In n o.held → IsLocked n → Placed N σ g o n → Decides N σ g o n (begun (split v j)) → (e : ℕ) (z : Ref) → (split_node σ.tree o.key n i j).child e ≡ Some z → e < 256
  split_bytes v j i n m l p de e z q =
      let S = σ.tree in
      let b = branch S o.key n i j in
      let laws = st.lawful.keys in
      let c = chosen_at st t (split v j) n l de in
      let a = seen_other N.deep S o.key n.at n.depth j c.1 in
      let w = (st.inv.tree.kid n.at a.0 (leaf j) (p (sound_locked σ n l)).0 a.1).0 in
      let x = key_byte_lem laws (S.entries j).key b (st.inv.tree.entry j w).1 in
      let y = key_byte_lem laws o.key b (st.inv.seats s o st.was).key in
      ⊎_elim (λ k. omega (arith, k, x)) (λ k. omega (arith, k, y)) (fork_at (get_or (S.entries j).key b 0) (leaf j) (get_or o.key b 0) (leaf i) e z q)

  grow_bytes : (i : ℕ) (n : Hold) (e : ℕ) (z : Ref) → (grown_node σ.tree o.key n i).child e ≡ Some z → e < 256
  grow_bytes i n e z q = go (eqb e (key_byte σ.tree o.key n)) refl q
    where
      go : (x : Bool) → eqb e (key_byte σ.tree o.key n) ≡ x → cond x (Some (leaf i)) (child σ.tree n.at e) ≡ Some z → e < 256
      go true f k = omega (arith, eqb-true e (key_byte σ.tree o.key n) f, key_byte_lem st.lawful.keys o.key (n.depth + length (prefix σ.tree n.at)) (st.inv.seats s o st.was).key)
      go false f k = st.inv.spelled.child_byte n.at e z k

  miss_bytes : (m i : ℕ) (n : Hold) → At σ.tree (ghost g) n.at o.key n.depth → (e : ℕ) (z : Ref) → (miss_node σ.tree o.key n i m).child e ≡ Some z → e < 256
  miss_bytes m i n a e z q =
      let p = prefix σ.tree n.at in
      let w = g.path n.at in
      let y = key_byte_lem st.lawful.keys o.key (n.depth + m) (st.inv.seats s o st.was).key in
      let x : get_or p m 0 < 256 = ⊎_elim
      (λ h. st.inv.spelled.full_byte n.at (w ++ take m p) (get_or p m 0) a.inner a.here
      (subst (λ (f : List ℕ). f ≼ g.full n.at) (sym (append_assoc w (take m p) (get_or p m 0 ∷ [])))
      (subst (λ (f : List ℕ). (w ++ (take m p ++ get_or p m 0 ∷ [])) ≼ f) a.steady (≼_under w (take m p ++ get_or p m 0 ∷ []) p h))))
      (λ h. omega (arith, h)) (at_byte p m) in
      ⊎_elim (λ k. omega (arith, k, x)) (λ k. omega (arith, k, y)) (fork_at (get_or p m 0) n.at (get_or o.key (n.depth + m) 0) (leaf i) e z q)

  -- the seat after the draw of an insert
  insert_seat : {h : Ghosts} → Beside σ τ g → Drew s g h → Row N σ τ o (busy u) r → (v i : ℕ) (hs : List Hold) (n : Hold) (f : Ref → Meaning) (rest : List Item) → o.mode ≡ by_key → o.held ≡ hs ++ n ∷ []
      → AtDraw N Key σ g s o (insert v) rest hs n → LeafFilled σ.tree τ.tree i o.key v → h.mark (leaf i) ≡ drawn s
      → Follows o τ (insert v) f o.held (Some (record { leaf_slot = i; node_slot = None })) rest (busy u) r → (w : Operation) → τ.seats s ≡ busy w → SeatOk N Key τ h s w
  insert_seat {h} b d row v i hs n f rest mode q a lf ml k =
      let x = followed rest (busy u) write_n (unlock_n ∷ []) k a.0 refl in
      let y = with_key o u o.mode o.held (act (insert v) (write_n ∷ unlock_n ∷ []) (Some (record { leaf_slot = i; node_slot = None }))) x.1 in
      seat_acts st h (insert v) write_n (unlock_n ∷ []) (Some (record { leaf_slot = i; node_slot = None })) t mode x.1 (safe_still st b d o.begun)
      (subst (λ (l : List Hold). Acts N Key τ h s u (insert v) (write_n ∷ unlock_n ∷ []) (Some (record { leaf_slot = i; node_slot = None })) l) (sym q)
      (Acts.to_insert v i hs n (one_still st b d row y.0 y.1 (insert v) hs n q a.1) (leaf_made st b d row y.0 y.1 i v lf ml)))

-- the same contents are the same prefixes and children
contents_same : (S T : Tree) → T.contents ≡ S.contents → (x : Ref) → (prefix T x ≡ prefix S x) × ((b : ℕ) → child T x b ≡ child S x b)
contents_same S T e (leaf i) = (refl, λ b. refl)
contents_same S T e (node k i) = (ap (λ (f : Kind → ℕ → Content). (f k i).prefix) e, λ b. ap (λ (f : Kind → ℕ → Content). (f k i).child b) e)

-- the same children are as many
fan_same : (S T : Tree) (x : Ref) → ((b : ℕ) → child T x b ≡ child S x b) → fan T x ≡ fan S x
unfolding fan
fan_same S T x e = count_same (child S x) (child T x) 256 (λ c _. e c)

-- a draw touches spare slots alone
leaf_beside : {σ τ : State} {g : Ghosts} {k : List ℕ} {v : ℕ} (i : ℕ) → LeafFilled σ.tree τ.tree i k v → τ.tree.contents ≡ σ.tree.contents → g.mark (leaf i) ≡ spare → Beside σ τ g
leaf_beside {σ} {τ} {g} i f w m = record {
  prefixes = λ x _. (contents_same σ.tree τ.tree w x).0;
  kids = λ x _. (contents_same σ.tree τ.tree w x).1;
  entries = λ l n. f.others l (λ e. n (ap (λ (z : ℕ). g.mark (leaf z)) e ∙ m));
}

node_beside : {σ τ : State} {g : Ghosts} {k : List ℕ} {v : ℕ} {c : Content} (i : ℕ) (y : Ref) → LeafFilled σ.tree τ.tree i k v → NodeFilled σ.tree τ.tree y c → g.mark (leaf i) ≡ spare → g.mark y ≡ spare → Beside σ τ g
node_beside {g = g} i y f w m q = record {
  prefixes = λ x n. (w.others x (λ e. n (ap g.mark e ∙ q))).0;
  kids = λ x n. (w.others x (λ e. n (ap g.mark e ∙ q))).1;
  entries = λ l n. f.others l (λ e. n (ap (λ (z : ℕ). g.mark (leaf z)) e ∙ m));
}

-- where no larger kind is, every byte has room
whole_room : (S : Tree) (x : Ref) (b : ℕ) → IsNode x → larger x ≡ None → b < 256 → child S x b ≡ None → fan S x < cap x
whole_room S (leaf i) b n e l c = absurd n
whole_room S (node Kind.four i) b n e l c = absurd (none_some (sym e))
whole_room S (node Kind.sixteen i) b n e l c = absurd (none_some (sym e))
whole_room S (node Kind.forty_eight i) b n e l c = absurd (none_some (sym e))
whole_room S (node Kind.whole i) b n e l c = never_full S i b l c

-- a node has as many children as were filled in
node_fits : (T : Tree) (k : Kind) (j : ℕ) (w : Content) → ((b : ℕ) → child T (node k j) b ≡ w.child b) → trees.count w.child 256 ≤ room k → fan T (node k j) ≤ room k
unfolding fan
node_fits T k j w e l = subst (λ (n : ℕ). n ≤ room k) (sym (count_same w.child (child T (node k j)) 256 (λ c _. e c))) l

as_value : {S T : Tree} {i : ℕ} {k : List ℕ} (x v : ℕ) → ◌≡◌ {A = Option ℕ} (Some x) (Some v) → LeafFilled S T i k v → LeafFilled S T i k x
as_value {S} {T} {i} {k} x v e f = subst (λ (z : ℕ). LeafFilled S T i k z) (sym (some_inj x v e)) f

-- what a draw of a leaf leaves
pub draw_leaf_ok : {N : Numbers} {Key : List ℕ → Type 0} {σ τ : State} {g : Ghosts} {s : ℕ} {o u : Operation} {r : Outcome} (st : Step N Key σ τ g s o (busy u) r) (c : Course) (rest : List Item) (d : Option Drawn) (hs : List Hold) (n : Hold) (v i : ℕ) (ls : List Ref)
    → o.stage ≡ act c (draw ∷ rest) d → o.held ≡ hs ++ n ∷ [] → adds c ≡ Some v → draws n c ≡ None → σ.spare (pool (leaf i)) ≡ leaf i ∷ ls
    → LeafFilled σ.tree τ.tree i o.key v → τ.tree.contents ≡ σ.tree.contents
    → Row N σ τ o (busy u) r → Follows o τ c σ.words o.held (Some (record { leaf_slot = i; node_slot = None })) rest (busy u) r
    → Leaves N Key σ τ g (drawing s (leaf i) g) s × HoldsSame σ τ g (drawing s (leaf i) g)
draw_leaf_ok {N} {Key} {σ} {τ} {g} {s} {o} st (insert x) rest d hs n v i ls e h a q k f w row k' =
    let at = drawing_at (st.inv.seats s o st.was) (insert x) rest d hs n e h in
    let mi = head_spare st.inv (leaf i) (pool (leaf i)) ls k in
    let b = leaf_beside i f w mi in
    let dr = drew_one s (leaf i) g mi in
    draw_leaves st b dr (no_flux st at.0 (insert x) draw rest d e (λ z. no_way (cc z)))
    (λ y ny. subst (λ (z : ℕ). z ≤ cap y) (sym (fan_same σ.tree τ.tree y (contents_same σ.tree τ.tree w y).1)) (st.inv.tree.narrow y ny))
    (λ y c z m. st.inv.spelled.child_byte y c z (sym ((contents_same σ.tree τ.tree w y).1 c) ∙ m))
    (places_drew s (leaf i) g τ.words (λ z. absurd z) (row_places st row))
    (insert_seat st at.0 b dr row x i hs n σ.words rest at.1 h at.2 (as_value x v a f) (drew_self s (leaf i) g) k')
draw_leaf_ok st (split x j) rest d hs n v i ls e h a q k f w row k' = absurd (none_some (sym q))
draw_leaf_ok {N} {Key} {σ} {τ} {g} {s} {o} st (grow x) rest d hs n v i ls e h a q k f w row k' =
    let ok = st.inv.seats s o st.was in
    let at = drawing_at ok (grow x) rest d hs n e h in
    let l = at.2.1.2 in
    let m : In n o.held = subst (λ (z : List Hold). In n z) (sym h) (in_last hs n) in
    let here = at_locked st at.0 n m l.locked (stand_placed (at.2.1.0 ∷ []) n l.stand) (no_flux st at.0 (grow x) draw rest d e (λ z. no_way (cc z)) n.at) in
    let c = chosen_at st at.0 (grow x) n l.locked l.decides in
    let t = tells_at st at.0 n empty here c.1 in
    let full = whole_room σ.tree n.at (key_byte σ.tree o.key n) here.inner q (key_byte_lem st.lawful.keys o.key (n.depth + length (prefix σ.tree n.at)) ok.key) t.0.there in
    absurd (omega (arith, full, leb-true (cap n.at) (fan σ.tree n.at) c.2))
draw_leaf_ok st (miss x m) rest d hs n v i ls e h a q k f w row k' = absurd (none_some (sym q))
draw_leaf_ok st (in_place x l) rest d hs n v i ls e h a q k f w row k' = absurd (none_some a)
draw_leaf_ok st (collapse x l y) rest d hs n v i ls e h a q k f w row k' = absurd (none_some a)

module _ {N : Numbers} {Key : List ℕ → Type 0} {σ τ : State} {g : Ghosts} {s : ℕ} {o u : Operation} {r : Outcome} (st : Step N Key σ τ g s o (busy u) r) (i j : ℕ) (kind : Kind) where
  abbrev after_ghosts : Ghosts
  after_ghosts = drawing s (node kind j) (drawing s (leaf i) g)

  -- the next stage follows from what stays and what was drawn
  abbrev Goes : Course → List Item → Type 0
  Goes c is = Beside σ τ g → Drew s g after_ghosts → u.key ≡ o.key → u.task ≡ o.task → after_ghosts.mark (leaf i) ≡ drawn s → after_ghosts.mark (node kind j) ≡ drawn s
      → Acts N Key τ after_ghosts s u c is (Some (record { leaf_slot = i; node_slot = Some (node kind j) })) o.held

  -- what a draw leaves, in any course
  draw_both_by : (c : Course) (a : Item) (rest is : List Item) (d : Option Drawn) (n : Hold) (v : ℕ) (filled : Content) (ls ns : List Ref) → (is_next o.task ≡ false) × (o.mode ≡ by_key) → rest ≡ a ∷ is → In n o.held
      → o.stage ≡ act c (draw ∷ rest) d → draws n c ≡ Some kind → filling σ.tree o.key n i c ≡ Some filled → σ.spare (pool (leaf i)) ≡ leaf i ∷ ls → σ.spare (room kind) ≡ node kind j ∷ ns
      → LeafFilled σ.tree τ.tree i o.key v → NodeFilled σ.tree τ.tree (node kind j) filled → Row N σ τ o (busy u) r
      → Follows o τ c (put σ.words (node kind j) (revived (σ.words (node kind j)))) o.held (Some (record { leaf_slot = i; node_slot = Some (node kind j) })) rest (busy u) r
      → ((e : ℕ) (z : Ref) → filled.child e ≡ Some z → e < 256) → Goes c (a ∷ is) → Leaves N Key σ τ g after_ghosts s × HoldsSame σ τ g after_ghosts
  draw_both_by c a rest is d n v filled ls ns (t, mode) er mn e dk fk kl kn f w row k bytes acts =
      let y = node kind j in
      let inv = st.inv in
      let ml = head_spare inv (leaf i) (pool (leaf i)) ls kl in
      let my = head_spare inv y (room kind) ns kn in
      let x = followed rest (busy u) a is k er refl in
      let ky = with_key o u o.mode o.held (act c (a ∷ is) (Some (record { leaf_slot = i; node_slot = Some y }))) x.1 in
      let b : Beside σ τ g = node_beside i y f w ml my in
      let dr : Drew s g after_ghosts = drew_two (drew_one s (leaf i) g ml) (drew_one s y (drawing s (leaf i) g) (drew_else s (leaf i) g y (λ z. no_way (cc z)) ∙ my)) in
      let dl : after_ghosts.mark (leaf i) ≡ drawn s = drew_else s y (drawing s (leaf i) g) (leaf i) (λ z. no_way (cc z)) ∙ drew_self s (leaf i) g in
      let here : (τ.words y).gone ≡ false = subst (λ (m : Meaning). m.gone ≡ false) (sym (x.0 y ∙ put_same σ.words y (revived (σ.words y)))) (revived_here (σ.words y)) in
      draw_leaves st b dr (no_flux st t c draw rest d e (λ z. no_way (cc z)))
      (λ z nz. pick z y
      (λ q. subst (λ (m : Ref). fan τ.tree m ≤ cap m) (sym q)
      (node_fits τ.tree kind j filled w.child_is (filled_fits σ.tree o.key n i c kind filled dk fk (inv.tree.narrow n.at (entry_reads inv s o st.was n mn).0))))
      (λ q. subst (λ (m : ℕ). m ≤ cap z) (sym (fan_same σ.tree τ.tree z (w.others z q).1)) (inv.tree.narrow z nz)))
      (λ z l m q. pick z y (λ p. bytes l m (sym (w.child_is l) ∙ subst (λ (z : Ref). child τ.tree z l ≡ Some m) p q)) (λ p. inv.spelled.child_byte z l m (sym ((w.others z p).1 l) ∙ q)))
      (places_drew s y (drawing s (leaf i) g) τ.words (λ _. here) (places_drew s (leaf i) g τ.words (λ z. absurd z) (row_places st row)))
      (seat_acts st after_ghosts c a is (Some (record { leaf_slot = i; node_slot = Some y })) t mode x.1 (safe_still st b dr o.begun) (acts b dr ky.0 ky.1 dl (drew_self s y (drawing s (leaf i) g))))

as_held : {N : Numbers} {Key : List ℕ → Type 0} {σ : State} {g : Ghosts} {s : ℕ} {o : Operation} {c : Course} {is : List Item} {d : Option Drawn} (hs ks : List Hold) → hs ≡ ks → Acts N Key σ g s o c is d ks → Acts N Key σ g s o c is d hs
as_held {N} {Key} {σ} {g} {s} {o} {c} {is} {d} hs ks e a = subst (λ (l : List Hold). Acts N Key σ g s o c is d l) (sym e) a

-- what a draw of a leaf and a node leaves
pub draw_both_ok : {N : Numbers} {Key : List ℕ → Type 0} {σ τ : State} {g : Ghosts} {s : ℕ} {o u : Operation} {r : Outcome} (st : Step N Key σ τ g s o (busy u) r) (c : Course) (rest : List Item) (d : Option Drawn) (hs : List Hold) (n : Hold) (v i j : ℕ) (kind : Kind)
    (filled : Content) (ls ns : List Ref) → o.stage ≡ act c (draw ∷ rest) d → o.held ≡ hs ++ n ∷ [] → adds c ≡ Some v → draws n c ≡ Some kind → filling σ.tree o.key n i c ≡ Some filled
    → σ.spare (pool (leaf i)) ≡ leaf i ∷ ls → σ.spare (room kind) ≡ node kind j ∷ ns
    → LeafFilled σ.tree τ.tree i o.key v → NodeFilled σ.tree τ.tree (node kind j) filled
    → Row N σ τ o (busy u) r → Follows o τ c (put σ.words (node kind j) (revived (σ.words (node kind j)))) o.held (Some (record { leaf_slot = i; node_slot = Some (node kind j) })) rest (busy u) r
    → Leaves N Key σ τ g (drawing s (node kind j) (drawing s (leaf i) g)) s × HoldsSame σ τ g (drawing s (node kind j) (drawing s (leaf i) g))
draw_both_ok st (insert x) rest d hs n v i j kind filled ls ns e h a q b k m f w row k' = absurd (none_some q)
draw_both_ok {σ = σ} {s = s} {o = o} st (split x l) rest d hs n v i j kind filled ls ns e h a q b k m f w row k' =
    let at = drawing_at (st.inv.seats s o st.was) (split x l) rest d hs n e h in
    let ol = at.2.1 in
    let mn : In n o.held = subst (λ (z : List Hold). In n z) (sym h) (in_last hs n) in
    draw_both_by st i j kind (split x l) write_n rest (unlock_n ∷ []) d n v filled ls ns (at.0, at.1) at.2.0 mn e q b k m f w row k'
    (λ c z p. split_bytes st at.0 x l i n mn ol.locked (stand_placed hs n ol.stand) ol.decides c z (ap (λ (y : Content). y.child c) (some_inj (split_node σ.tree o.key n i l) filled b) ∙ p))
    (λ be dr ke ta dl dy. as_held o.held (hs ++ n ∷ []) h (Acts.to_split x l i (node kind j) hs n (one_still st be dr row ke ta (split x l) hs n h ol)
    (leaf_made st be dr row ke ta i x (as_value x v a f) dl) (node_made st be dr row ke ta (split x l) n i (node kind j) filled mn ol.locked ol.decides tt dy b w)))
draw_both_ok {σ = σ} {s = s} {o = o} st (grow x) rest d hs n v i j kind filled ls ns e h a q b k m f w row k' =
    let at = drawing_at (st.inv.seats s o st.was) (grow x) rest d hs n e h in
    let p = at.2.1.0 in
    let bl = at.2.1.2 in
    let hp : o.held ≡ p ∷ n ∷ [] = h ∙ ap (λ (z : List Hold). z ++ n ∷ []) at.2.1.1 in
    let mn : In n o.held = subst (λ (z : List Hold). In n z) (sym h) (in_last hs n) in
    draw_both_by st i j kind (grow x) write_p rest (unlock_n_gone ∷ unlock_p ∷ []) d n v filled ls ns (at.0, at.1) at.2.0 mn e q b k m f w row k'
    (λ c z t. grow_bytes st at.0 i n c z (ap (λ (y : Content). y.child c) (some_inj (grown_node σ.tree o.key n i) filled b) ∙ t))
    (λ be dr ke ta dl dy. as_held o.held (p ∷ n ∷ []) hp (Acts.to_grow x i (node kind j) p n (both_still st be dr row ke ta (grow x) p n hp bl)
    (leaf_made st be dr row ke ta i x (as_value x v a f) dl) (node_made st be dr row ke ta (grow x) n i (node kind j) filled mn bl.locked bl.decides tt dy b w)))
draw_both_ok {σ = σ} {s = s} {o = o} st (miss x l) rest d hs n v i j kind filled ls ns e h a q b k m f w row k' =
    let at = drawing_at (st.inv.seats s o st.was) (miss x l) rest d hs n e h in
    let p = at.2.1.0 in
    let bl = at.2.1.2 in
    let hp : o.held ≡ p ∷ n ∷ [] = h ∙ ap (λ (z : List Hold). z ++ n ∷ []) at.2.1.1 in
    let mn : In n o.held = subst (λ (z : List Hold). In n z) (sym h) (in_last hs n) in
    let here = at_locked st at.0 n mn bl.locked (stand_placed (p ∷ []) n bl.stand) (no_flux st at.0 (miss x l) draw rest d e (λ z. no_way (cc z)) n.at) in
    draw_both_by st i j kind (miss x l) write_n rest (write_p ∷ unlock_n ∷ unlock_p ∷ []) d n v filled ls ns (at.0, at.1) at.2.0 mn e q b k m f w row k'
    (λ c z t. miss_bytes st at.0 l i n here c z (ap (λ (y : Content). y.child c) (some_inj (miss_node σ.tree o.key n i l) filled b) ∙ t))
    (λ be dr ke ta dl dy. as_held o.held (p ∷ n ∷ []) hp (Acts.to_cut x l i (node kind j) p n (both_still st be dr row ke ta (miss x l) p n hp bl)
    (leaf_made st be dr row ke ta i x (as_value x v a f) dl) (node_made st be dr row ke ta (miss x l) n i (node kind j) filled mn bl.locked bl.decides tt dy b w)))
draw_both_ok st (in_place x l) rest d hs n v i j kind filled ls ns e h a q b k m f w row k' = absurd (none_some a)
draw_both_ok st (collapse x l y) rest d hs n v i j kind filled ls ns e h a q b k m f w row k' = absurd (none_some a)
