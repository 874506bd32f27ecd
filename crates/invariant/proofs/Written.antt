-- What a write of a course leaves.
use Rattle.std.proofs.Common.{◌≡◌, ℕ, ◌+◌, ◌-◌, ◌<◌, ◌≤◌, Bool, true, false, cond, ◌||◌, eqb, leb, ◌⊎◌, List, [], ◌∷◌, ◌++◌, length, get_or, Some, None, Option, sym, refl, ap, ◌∙◌, subst, inl, inr, ⊎_elim, arith}
use Rattle.latches.specs.declared.word.Meaning.{Meaning}
use Rattle.model.specs.Bytes.{◌≼◌}
use Rattle.model.specs.Refs.{Ref, leaf, node, root, is, IsNode}
use Rattle.model.specs.Tree.{Tree, child, prefix, fan, cap, Ghost, Status, Linked, TreeOk, Holds, Entry}
use Rattle.model.specs.Holds.{Hold}
use Rattle.model.specs.Operations as op
use Rattle.model.specs.Operations.{Operation, Task, Course, insert, grow, split, miss, in_place, collapse, items, Item, lock_p, lock_n, lock_m, draw, write_n, write_m, write_p, unlock_m, unlock_n, unlock_n_gone, unlock_p, Drawn, by_key, Stage, look, act, Seat, closed, busy, Outcome, go}
use Rattle.machine.specs.State.{State, Numbers, WordsAre, with}
use Rattle.machine.specs.Choices.{key_byte, decided, begun, left}
use Rattle.machine.specs.Items.{byte_above, Prefixed, fork}
use Rattle.machine.specs.Steps.{is_next, Follows}
use Rattle.invariant.specs.Ghosts.{Ghosts, status_of, ghost, place_of, place_at, words_of, Safe, IsLocked, FluxOf, Flux}
use Rattle.invariant.specs.Seats.{Placed, Decides, Above, Stand, Reads}
use Rattle.invariant.specs.Courses.{Solo, Pair, LeafDrawn, NodeDrawn, OneLocked, BothLocked, IsRetired, Joins, Joined, Cut, Acts}
use Rattle.invariant.specs.Invariant.{Walks, Aims, SeatOk, Spelled}
use Rattle.invariant.specs.Changes.{Same, LockedBy, wrote, Leaves, HoldsSame, Puts, Drops}
use Rattle.invariant.proofs.Setting.{Step, true_false, linked_mark, entry_in, entry_reads, locked_steady, no_way, snoc_one, sound_locked}
use Rattle.model_tree.specs.Graft.{Wrote, Closed, UpTo}
use Rattle.model_tree.specs.Graft as graft
use Rattle.model_tree.specs.Writes.{Fresh, Fork, After, Added, Removed}
use Rattle.model_words.specs.Words.{Every, In}
use Rattle.model_words.specs.Places.{PlacesOk, Suits}
use Rattle.model_slots.specs.Slots.{count, has, bit}
use Rattle.model_slots.specs.Laws.{Mark, linked, spare, drawn, retired, is_linked}
use Rattle.invariant.proofs.Sees.{At, Tells, sees, leads_onward}
use native.Mathlib.Decide.{ℕ_discrete}
use Rattle.model_slots.proofs.Lists.{is_tells, has_none}
use Rattle.model_tree.proofs.Graft.{all_in, linked_drawn, linked_retired}
use Rattle.model.proofs.Bytes.{pick, some_inj, snoc_len, ≼_app, ≼_trans}
use Rattle.model_words.proofs.Owners.{owner}
use Rattle.model.specs.Sights.{Seen, stale, empty, missed, other, same_key, onward, seen}
use Rattle.model_tree.specs.Meets.{Lacks}
use Rattle.std.proofs.lemmas.Bool.{eq-eqb, ne_eqb}
use Rattle.model_tree.proofs.Moves.{moved}
use Rattle.machine.specs.Choices as choices

-- a write that linked new and unlinked old
pub record Written (N : Numbers) (Key : List ℕ → Type 0) (σ τ : State) (g : Ghosts) (s : ℕ) (new old : List Ref) : Type 0 where
  pub after : Ghosts
  pub marks : (x : Ref) → after.mark x ≡ wrote σ.epoch new old g.mark x
  pub linked_before : (x : Ref) → count x old ≤ bit (is_linked (g.mark x))
  pub leaves : Leaves N Key σ τ g after s

-- whether x is in a list, and what its test says
has_tells : (x : Ref) (l : List Ref) → (graft.In x l × (has x l ≡ true)) ⊎ ((graft.In x l → ⊥) × (has x l ≡ false))
has_tells x [] = inr ((λ q. q), refl)
has_tells x (y ∷ l) = by (is_tells x y) (has_tells x l)
  where
    by : ((is x y ≡ true) × (x ≡ y)) ⊎ ((is x y ≡ false) × (x ≡ y → ⊥)) → (graft.In x l × (has x l ≡ true)) ⊎ ((graft.In x l → ⊥) × (has x l ≡ false))
        → (graft.In x (y ∷ l) × (has x (y ∷ l) ≡ true)) ⊎ ((graft.In x (y ∷ l) → ⊥) × (has x (y ∷ l) ≡ false))
    by (inl (e, q)) r = inl (inl q, ap (λ (b : Bool). cond b true (has x l)) e)
    by (inr (e, q)) (inl (i, h)) = inl (inr i, ap (λ (b : Bool). cond b true (has x l)) e ∙ h)
    by (inr (e, q)) (inr (i, h)) = inr ((λ j. ⊎_elim q i j), ap (λ (b : Bool). cond b true (has x l)) e ∙ h)

count_in : (x : Ref) (l : List Ref) → (graft.In x l → ⊥) → count x l ≡ 0
count_in x l n = ⊎_elim (λ q. absurd (n q.0)) (λ q. has_none x l q.1) (has_tells x l)

-- a good tree is good where more nodes are in flux
pub flux_more : {deep : ℕ} {Key : List ℕ → Type 0} {flux flux' : Ref → Type 0} {S : Tree} {G : Ghost} → ((x : Ref) → flux x → flux' x) → TreeOk deep Key flux S G → TreeOk deep Key flux' S G
flux_more f t = record {
  root_linked = t.root_linked;
  root_path = t.root_path;
  root_full = t.root_full;
  root_prefix = t.root_prefix;
  kid = t.kid;
  parent = t.parent;
  split = λ x i l. ((t.split x i l).0, ⊎_elim inl (λ q. inr (f x q)) (t.split x i l).1);
  entry = t.entry;
  short = t.short;
  wide = t.wide;
  narrow = t.narrow;
}

-- who is in flux by an operation in a course
pub flux_of : (o : Operation) (x : Ref) (c : Course) (a : Item) (rest : List Item) (d : Option Drawn) → FluxOf o x → o.stage ≡ act c (a ∷ rest) d
    → (a ≡ write_p) × (((v : ℕ) × (i : ℕ) × (p : Hold) × (n : Hold) × (c ≡ miss v i) × (o.held ≡ p ∷ n ∷ []) × (x ≡ n.at)) ⊎ ((v : ℕ) × (l : ℕ) × (c ≡ collapse v l x) × IsNode x))
flux_of o _ c a rest d (FluxOf.cut v i more e p n f q) h = ((cc), inl (v, i, p, n, (cc), q, refl))
flux_of o x c a rest d (FluxOf.joined v l m more e k f) h = ((cc), inr (v, l, (cc), k))

-- a course goes on with its next item
pub followed : {τ : State} {o u : Operation} {c : Course} {f : Ref → Meaning} {hs : List Hold} {d : Option Drawn} {r : Outcome} (is : List Item) (z : Seat) (a : Item) (rest : List Item)
    → Follows o τ c f hs d is z r → is ≡ a ∷ rest → z ≡ busy u → WordsAre f τ × (busy u ≡ with o o.mode hs (act c (a ∷ rest) d))
followed _ _ a rest (Follows.more w) e q = (w, cc (e, q))
followed _ z a rest (Follows.over k) e q = no_way (cc e)

-- a write of the seat s: a child of a is exchanged, and all nodes that it concerns are locked by s or were drawn by it
pub record Exchange (N : Numbers) (Key : List ℕ → Type 0) (σ τ : State) (g : Ghosts) (s : ℕ) (a : Ref) (b : ℕ) (z : Option Ref) (new old moved : List Ref) : Type 0 where
  pub put : Wrote σ.tree τ.tree a b z
  pub made : After N.deep Key (Flux τ) σ.tree τ.tree (ghost g) new old moved σ.epoch
  pub here : Linked (ghost g) a
  pub kept : graft.In a old → ⊥
  pub byte : b < 256
  pub mine : (x : Ref) → graft.In x new → g.mark x ≡ drawn s
  pub shows : (x : Ref) → graft.In x new → IsNode x → (c : ℕ) × (i : ℕ) × (child σ.tree x c ≡ Some (leaf i))
  pub locked : (x : Ref) → IsNode x → (x ≡ a) ⊎ (graft.In x old ⊎ graft.In x moved) → LockedBy σ τ g g s x
  pub once : (x : Ref) → count x old ≤ 1
  pub words : WordsAre σ.words τ

every_read : (P Q : Ref → Type 0) (hs : List Hold) → ((x : Ref) → P x → Q x) → Every (λ e. P e.at) hs → Every (λ e. Q e.at) hs
every_read P Q [] f q = tt
every_read P Q (e ∷ hs) f q = (f e.at q.0, every_read P Q hs f q.1)

module _ {N : Numbers} {Key : List ℕ → Type 0} {σ τ : State} {g : Ghosts} {s : ℕ} {o u : Operation} {r : Outcome} (st : Step N Key σ τ g s o (busy u) r) where
  -- who is in flux stays so, unless this seat leaves it
  pub flows : (x : Ref) → (FluxOf o x → ⊥) → Flux σ x → Flux τ x
  flows x no' (t, w, l, e, f) = elim (ℕ_discrete t s) [
    | yes q ↦ (let same : busy w ≡ busy o = sym e ∙ ap σ.seats q ∙ st.was in let z : w ≡ o = cc same in absurd (no' (subst (λ (v : Operation). FluxOf v x) z f)))
    | no ne ↦ (t, w, l, st.turns.elsewhere t ne ∙ e, f)
  ]

  -- this seat after an item of a course, where what it holds may still be read
  pub seat_acts : (h : Ghosts) (c : Course) (a : Item) (rest : List Item) (d : Option Drawn) → is_next o.task ≡ false → o.mode ≡ by_key → busy u ≡ with o o.mode o.held (act c (a ∷ rest) d)
      → ((x : Ref) → Safe o.begun g x → Safe o.begun h x) → Acts N Key τ h s u c (a ∷ rest) d o.held → (v : Operation) → τ.seats s ≡ busy v → SeatOk N Key τ h s v
  seat_acts h c a rest d t m e safe k v q =
      let same : busy U ≡ busy v = sym e ∙ sym st.turns.there ∙ q in
      let first : u ≡ U = cc e in
      let last : U ≡ v = cc same in
      let was = st.inv.seats s o st.was in
      subst (λ (w : Operation). SeatOk N Key τ h s w) last (record {
        key = was.key;
        begun = subst (λ (n : ℕ). o.begun ≤ n) (sym st.turns.epoch) was.begun;
        reads = every_read (λ x. Reads N σ g o x) (λ x. Reads N τ h o x) o.held (λ x q. (q.0, safe x q.1)) was.reads;
        aims = Aims.at_none (λ y n f. no_way (cc f));
        doing = inl (t, m, Walks.acts c (a ∷ rest) d (subst (λ (w : Operation). Acts N Key τ h s w c (a ∷ rest) d o.held) first k));
      })
    where
      U : Operation
      U = record { task = o.task; key = o.key; begun = o.begun; restarts = o.restarts; mode = o.mode; held = o.held; stage = act c (a ∷ rest) d }

module _ {N : Numbers} {Key : List ℕ → Type 0} {σ τ : State} {g : Ghosts} {s : ℕ} {o u : Operation} {r : Outcome} (st : Step N Key σ τ g s o (busy u) r)
    {a : Ref} {b : ℕ} {z : Option Ref} {new old moved : List Ref} (x : Exchange N Key σ τ g s a b z new old moved) where
  after_write : Ghosts
  after_write = record { mark = wrote σ.epoch new old g.mark; path = x.made.ghost'.path; full = x.made.ghost'.full }

  old_linked : (y : Ref) → graft.In y old → Linked (ghost g) y × (x.made.ghost'.st y ≡ Status.retired σ.epoch)
  old_linked y i = all_in (λ y. Linked (ghost g) y × (x.made.ghost'.st y ≡ Status.retired σ.epoch)) old x.made.turned.gone y i

  new_drawn : (y : Ref) → graft.In y new → ((ghost g).st y ≡ Status.drawn) × Linked x.made.ghost' y
  new_drawn y i = all_in (λ y. ((ghost g).st y ≡ Status.drawn) × Linked x.made.ghost' y) new x.made.turned.come y i

  -- who comes in, who goes out, and who stays
  TurnsTo : Ref → Type 0
  TurnsTo y = (graft.In y old × (wrote σ.epoch new old g.mark y ≡ retired σ.epoch)) ⊎ ((graft.In y new × (wrote σ.epoch new old g.mark y ≡ linked))
      ⊎ ((graft.In y old → ⊥) × (graft.In y new → ⊥) × (wrote σ.epoch new old g.mark y ≡ g.mark y)))

  turns_to : (y : Ref) → TurnsTo y
  unfolding TurnsTo
  turns_to y = by (has_tells y old) (has_tells y new)
    where
      by : (graft.In y old × (has y old ≡ true)) ⊎ ((graft.In y old → ⊥) × (has y old ≡ false)) → (graft.In y new × (has y new ≡ true)) ⊎ ((graft.In y new → ⊥) × (has y new ≡ false)) → TurnsTo y
      by (inl (i, e)) q = inl (i, ap (λ (t : Bool). cond t (retired σ.epoch) (cond (has y new) linked (g.mark y))) e)
      by (inr (i, e)) (inl (j, f)) = inr (inl (j, ap (λ (t : Bool). cond t (retired σ.epoch) (cond (has y new) linked (g.mark y))) e ∙ ap (λ (t : Bool). cond t linked (g.mark y)) f))
      by (inr (i, e)) (inr (j, f)) = inr (inr (i, j, ap (λ (t : Bool). cond t (retired σ.epoch) (cond (has y new) linked (g.mark y))) e ∙ ap (λ (t : Bool). cond t linked (g.mark y)) f))

  st_same : (y : Ref) → status_of (wrote σ.epoch new old g.mark y) ≡ x.made.ghost'.st y
  unfolding TurnsTo
  st_same y = by (turns_to y)
    where
      by : TurnsTo y → status_of (wrote σ.epoch new old g.mark y) ≡ x.made.ghost'.st y
      by (inl (i, e)) = ap status_of e ∙ sym (old_linked y i).1
      by (inr (inl (i, e))) = ap status_of e ∙ sym (new_drawn y i).1
      by (inr (inr (i, j, e))) = ap status_of e ∙ sym (x.made.turned.stay y j i)

  ghost_same : ghost after_write ≡ x.made.ghost'
  unfolding after_write
  ghost_same = λ i. record { st = λ y. st_same y i; path = x.made.ghost'.path; full = x.made.ghost'.full }

  -- a is touched, and no retired one is
  a_not_new : graft.In a new → ⊥
  a_not_new i = linked_drawn ((ghost g).st a) x.here (new_drawn a i).0

  kids_same : (y : Ref) (c : ℕ) → (y ≡ a → ⊥) → child τ.tree y c ≡ child σ.tree y c
  kids_same y c ne = x.put.elsewhere y c (λ e _. ne e)

  write_safe : (t : ℕ) (w : Operation) → σ.seats t ≡ busy w → (y : Ref) → Safe w.begun g y → Safe w.begun after_write y
  unfolding TurnsTo after_write
  write_safe t w e y h = by (turns_to y) h
    where
      by : TurnsTo y → Safe w.begun g y → Safe w.begun after_write y
      by (inl (i, q)) h = inr (σ.epoch, ap status_of q, (st.inv.seats t w e).begun)
      by (inr (inl (i, q))) h = inl (ap status_of q)
      by (inr (inr (i, j, q))) (inl l) = inl (ap status_of q ∙ l)
      by (inr (inr (i, j, q))) (inr (n, l, b)) = inr (n, ap status_of q ∙ l, b)

  write_drawn : (y : Ref) (t : ℕ) → (t ≡ s → ⊥) → g.mark y ≡ drawn t → after_write.mark y ≡ drawn t
  unfolding TurnsTo after_write
  write_drawn y t ne e = by (turns_to y)
    where
      by : TurnsTo y → wrote σ.epoch new old g.mark y ≡ drawn t
      by (inl (i, q)) = absurd (linked_drawn ((ghost g).st y) (old_linked y i).0 (ap status_of e))
      by (inr (inl (i, q))) = let z : drawn s ≡ drawn t = sym (x.mine y i) ∙ e in absurd (ne (cc z))
      by (inr (inr (i, j, q))) = q ∙ e

  write_nodes : (y : Ref) → IsNode y → Same σ τ g after_write y ⊎ (LockedBy σ τ g after_write s y ⊎ ((g.mark y ≡ spare) ⊎ (g.mark y ≡ drawn s)))
  unfolding TurnsTo after_write
  write_nodes y n = by (turns_to y) (has_tells y moved)
    where
      by : TurnsTo y → (graft.In y moved × (has y moved ≡ true)) ⊎ ((graft.In y moved → ⊥) × (has y moved ≡ false))
          → Same σ τ g after_write y ⊎ (LockedBy σ τ g after_write s y ⊎ ((g.mark y ≡ spare) ⊎ (g.mark y ≡ drawn s)))
      by (inl (i, q)) m = inr (inl (x.locked y n (inr (inl i))))
      by (inr (inl (i, q))) m = inr (inr (inr (x.mine y i)))
      by (inr (inr (i, j, q))) (inl (m, e)) = inr (inl (x.locked y n (inr (inr m))))
      by (inr (inr (i, j, q))) (inr (m, e)) = pick y a (λ f. inr (inl (x.locked y n (inl f)))) (λ ne. inl (record {
        prefix_same = x.put.prefixes y;
        child_same = λ c. kids_same y c ne;
        path_same = x.made.turned.paths y j m;
        full_same = x.made.turned.fulls y j;
        mark_same = q;
      }))

  write_upto : UpTo (ghost after_write) τ.epoch
  unfolding TurnsTo after_write
  write_upto y n e = subst (λ (v : ℕ). n ≤ v) (sym st.turns.epoch) (by (turns_to y))
    where
      by : TurnsTo y → n ≤ σ.epoch
      by (inl (i, q)) = let z : Status.retired σ.epoch ≡ Status.retired n = sym (ap status_of q) ∙ e in let w : σ.epoch ≡ n = cc z in omega (arith, w)
      by (inr (inl (i, q))) = absurd (linked_retired (status_of (wrote σ.epoch new old g.mark y)) n (ap status_of q) e)
      by (inr (inr (i, j, q))) = st.inv.upto y n (sym (ap status_of q) ∙ e)

  -- a retired one that shows something is none that was written
  retired_not_a : (y : Ref) (n : ℕ) → (ghost after_write).st y ≡ Status.retired n → y ≡ a → ⊥
  unfolding TurnsTo after_write
  retired_not_a y n e f = by (turns_to y)
    where
      by : TurnsTo y → ⊥
      by (inl (i, q)) = x.kept (subst (λ (v : Ref). graft.In v old) f i)
      by (inr (inl (i, q))) = linked_retired (status_of (wrote σ.epoch new old g.mark y)) n (ap status_of q) e
      by (inr (inr (i, j, q))) = linked_retired ((ghost g).st y) n (subst (λ (v : Ref). Linked (ghost g) v) (sym f) x.here) (sym (ap status_of q) ∙ e)

  write_rootless : (y : Ref) (n c : ℕ) → (ghost after_write).st y ≡ Status.retired n → child τ.tree y c ≡ Some root → ⊥
  unfolding TurnsTo after_write
  write_rootless y n c e k = by (turns_to y)
    where
      was : child σ.tree y c ≡ Some root
      was = sym (kids_same y c (retired_not_a y n e)) ∙ k

      by : TurnsTo y → ⊥
      by (inl (i, q)) =
          let p = (st.inv.tree.kid y c root (old_linked y i).0 was).1 in
          absurd (omega (arith, ap length p, snoc_len (g.full y) c, ap length st.inv.tree.root_path))
      by (inr (inl (i, q))) = linked_retired (status_of (wrote σ.epoch new old g.mark y)) n (ap status_of q) e
      by (inr (inr (i, j, q))) = st.inv.rootless y n c (sym (ap status_of q) ∙ e) was

  write_places : PlacesOk (place_at after_write) τ.words
  unfolding TurnsTo after_write
  write_places (leaf i) = tt
  write_places (node k i) = by (turns_to (node k i))
    where
      y : Ref
      y = node k i

      word : σ.words (node k i) ≡ τ.words (node k i)
      word = sym (x.words (node k i))

      have : Suits (place_of (g.mark (node k i))) (τ.words (node k i))
      have = subst (λ (w : Meaning). Suits (place_of (g.mark (node k i))) w) word (st.inv.places (node k i))

      to : (m : Mark) → wrote σ.epoch new old g.mark (node k i) ≡ m → Suits (place_of m) (τ.words (node k i)) → Suits (place_of (wrote σ.epoch new old g.mark (node k i))) (τ.words (node k i))
      to m e h = subst (λ (v : Mark). Suits (place_of v) (τ.words (node k i))) (sym e) h

      by : TurnsTo (node k i) → Suits (place_of (wrote σ.epoch new old g.mark (node k i))) (τ.words (node k i))
      by (inl (j, q)) = to (retired σ.epoch) q (inr (
          let l = x.locked (node k i) tt (inr (inl j)) in
          ap (λ (w : Meaning). w.locked) (sym word) ∙ subst (λ (v : Ref). (σ.words v).locked ≡ true) l.2 (owner (words_of σ) st.inv.words s l.0 st.seat l.1 l.3)))
      by (inr (inl (j, q))) = to linked q (subst (λ (v : Mark). Suits (place_of v) (τ.words (node k i))) (x.mine (node k i) j) have)
      by (inr (inr (i', j, q))) = to (g.mark (node k i)) q have

  write_tree : TreeOk N.deep Key (Flux τ) τ.tree (ghost after_write)
  write_tree = subst (λ (G : Ghost). TreeOk N.deep Key (Flux τ) τ.tree G) (sym ghost_same) x.made.good

  write_spelled : Spelled N Key τ after_write
  unfolding TurnsTo after_write
  write_spelled = record { child_byte = bytes; full_byte = fulls }
    where
      bytes : (y : Ref) (c : ℕ) (w : Ref) → child τ.tree y c ≡ Some w → c < 256
      bytes y c w e = pick y a
          (λ f. elim (ℕ_discrete c b) [
            | yes q ↦ subst (λ (v : ℕ). v < 256) (sym q) x.byte
            | no ne ↦ st.inv.spelled.child_byte y c w (sym (x.put.elsewhere y c (λ _ q. ne q)) ∙ e)
          ])
          (λ ne. st.inv.spelled.child_byte y c w (sym (kids_same y c ne) ∙ e))

      fulls : (y : Ref) (v : List ℕ) (c : ℕ) → IsNode y → Linked (ghost after_write) y → (v ++ c ∷ []) ≼ after_write.full y → c < 256
      fulls y v c n l h = by (turns_to y)
        where
          by : TurnsTo y → c < 256
          by (inl (i, q)) = absurd (linked_retired (status_of (wrote σ.epoch new old g.mark y)) σ.epoch l (ap status_of q))
          by (inr (inl (i, q))) =
              let k = x.shows y i n in
              let there : child τ.tree y k.0 ≡ Some (leaf k.1) = kids_same y k.0 (λ e. a_not_new (subst (λ (z : Ref). graft.In z new) e i)) ∙ k.2 in
              let kid = write_tree.kid y k.0 (leaf k.1) l there in
              let en = write_tree.entry k.1 kid.0 in
              st.lawful.keys.bytes (τ.tree.entries k.1).key v c en.1
              (≼_trans (v ++ c ∷ []) (after_write.full y) (τ.tree.entries k.1).key h
              (≼_trans (after_write.full y) (after_write.path (leaf k.1)) (τ.tree.entries k.1).key
              (subst (λ (z : List ℕ). after_write.full y ≼ z) (sym kid.1) (≼_app (after_write.full y) (k.0 ∷ []))) en.0))
          by (inr (inr (i, j, q))) = st.inv.spelled.full_byte y v c n (sym (ap status_of q) ∙ l) (subst (λ (z : List ℕ). (v ++ c ∷ []) ≼ z) (x.made.turned.fulls y j) h)

  write_closed : Closed τ.tree (ghost after_write)
  write_closed = subst (λ (G : Ghost). Closed τ.tree G) (sym ghost_same) (x.made.closed st.inv.upto st.inv.closed')

  old_once : (y : Ref) → count y old ≤ bit (is_linked (g.mark y))
  old_once y = by (has_tells y old)
    where
      by : (graft.In y old × (has y old ≡ true)) ⊎ ((graft.In y old → ⊥) × (has y old ≡ false)) → count y old ≤ bit (is_linked (g.mark y))
      by (inl (i, e)) = let m : bit (is_linked (g.mark y)) ≡ 1 = ap (λ (v : Mark). bit (is_linked v)) (linked_mark (g.mark y) (old_linked y i).0) in omega (arith, m, x.once y)
      by (inr (i, e)) = omega (arith, count_in y old i)

  -- what a write leaves, and its ghost is the one that the tree's theory made
  pub written : (c : Course) (i : Item) (rest : List Item) (d : Option Drawn) → is_next o.task ≡ false → o.mode ≡ by_key → busy u ≡ with o o.mode o.held (act c (i ∷ rest) d)
      → ((h : Ghosts) → ghost h ≡ x.made.ghost' → Acts N Key τ h s u c (i ∷ rest) d o.held)
      → (w : Written N Key σ τ g s new old) × (ghost w.after ≡ x.made.ghost')
  unfolding after_write
  written c i rest d t m e k = (
    record {
      after = after_write;
      marks = λ y. refl;
      linked_before = old_once;
      leaves = record {
        tree = write_tree;
        spelled = write_spelled;
        closed' = write_closed;
        rootless = write_rootless;
        upto = write_upto;
        places = write_places;
        nodes = write_nodes;
        leaves = λ j. inl (x.put.entries j);
        safe = write_safe;
        drawn' = write_drawn;
        seat = seat_acts st after_write c i rest d t m e (write_safe s o st.was) (k after_write ghost_same);
      };
    },
    ghost_same,
  )

-- the stage at which a course writes n, m or p
module _ (N : Numbers) (Key : List ℕ → Type 0) (σ : State) (g : Ghosts) (s : ℕ) (o : Operation) where
  abbrev pub AtN : Course → List Item → Option Drawn → List Hold → Hold → Type 0
  AtN (insert v) rest d hs n = (i : ℕ) × (rest ≡ unlock_n ∷ []) × (d ≡ Some (record { leaf_slot = i; node_slot = None })) × OneLocked N Key σ g s o (insert v) hs n × LeafDrawn N Key σ g s o i v
  AtN (split v j) rest d hs n = (i : ℕ) × (y : Ref) × (rest ≡ unlock_n ∷ []) × (d ≡ Some (record { leaf_slot = i; node_slot = Some y })) × OneLocked N Key σ g s o (split v j) hs n × LeafDrawn N Key σ g s o i v
      × NodeDrawn N Key σ g s o (split v j) n i y
  AtN (grow v) rest d hs n = ⊥
  AtN (miss v m) rest d hs n = (i : ℕ) × (y : Ref) × (p : Hold) × (hs ≡ p ∷ []) × (rest ≡ write_p ∷ unlock_n ∷ unlock_p ∷ []) × (d ≡ Some (record { leaf_slot = i; node_slot = Some y }))
      × BothLocked N Key σ g s o (miss v m) p n × LeafDrawn N Key σ g s o i v × NodeDrawn N Key σ g s o (miss v m) n i y
  AtN (in_place v l) rest d hs n = (rest ≡ unlock_n ∷ []) × (d ≡ None) × OneLocked N Key σ g s o (in_place v l) hs n
  AtN (collapse v l x) rest d hs n = ⊥

  abbrev pub AtP : Course → List Item → Option Drawn → List Hold → Type 0
  AtP (insert v) rest d hs = ⊥
  AtP (split v j) rest d hs = ⊥
  AtP (grow v) rest d hs = (i : ℕ) × (y : Ref) × (p : Hold) × (n : Hold) × (hs ≡ p ∷ n ∷ []) × (rest ≡ unlock_n_gone ∷ unlock_p ∷ []) × (d ≡ Some (record { leaf_slot = i; node_slot = Some y }))
      × BothLocked N Key σ g s o (grow v) p n × LeafDrawn N Key σ g s o i v × NodeDrawn N Key σ g s o (grow v) n i y
  AtP (miss v m) rest d hs = (i : ℕ) × (y : Ref) × (p : Hold) × (n : Hold) × (hs ≡ p ∷ n ∷ []) × (rest ≡ unlock_n ∷ unlock_p ∷ []) × (d ≡ Some (record { leaf_slot = i; node_slot = Some y }))
      × Cut N Key σ g s o v i p n y
  AtP (in_place v l) rest d hs = ⊥
  AtP (collapse v l x) rest d hs = ((j : ℕ) × (p : Hold) × (n : Hold) × (x ≡ leaf j) × (hs ≡ p ∷ n ∷ []) × (rest ≡ unlock_n_gone ∷ unlock_p ∷ []) × (d ≡ None) × BothLocked N Key σ g s o (collapse v l x) p n)
      ⊎ ((p : Hold) × (n : Hold) × (m : Hold) × (x ≡ m.at) × (hs ≡ p ∷ n ∷ m ∷ []) × (rest ≡ unlock_m ∷ unlock_n_gone ∷ unlock_p ∷ []) × (d ≡ None) × Joined N Key σ g s o v l p n m)

  abbrev pub AtM : Course → List Item → Option Drawn → List Hold → Type 0
  AtM (insert v) rest d hs = ⊥
  AtM (split v j) rest d hs = ⊥
  AtM (grow v) rest d hs = ⊥
  AtM (miss v m) rest d hs = ⊥
  AtM (in_place v l) rest d hs = ⊥
  AtM (collapse v l x) rest d hs = (p : Hold) × (n : Hold) × (m : Hold) × (x ≡ m.at) × (hs ≡ p ∷ n ∷ m ∷ []) × (rest ≡ write_p ∷ unlock_m ∷ unlock_n_gone ∷ unlock_p ∷ []) × (d ≡ None)
      × Joins N Key σ g s o v l p n m

  abbrev pub Shape : Item → Course → List Item → Option Drawn → List Hold → Type 0
  Shape lock_p c rest d hs = Unit {0}
  Shape lock_n c rest d hs = Unit {0}
  Shape lock_m c rest d hs = Unit {0}
  Shape draw c rest d hs = Unit {0}
  Shape write_n c rest d hs = (ks : List Hold) × (n : Hold) × (hs ≡ ks ++ n ∷ []) × AtN c rest d ks n
  Shape write_m c rest d hs = AtM c rest d hs
  Shape write_p c rest d hs = AtP c rest d hs
  Shape unlock_m c rest d hs = Unit {0}
  Shape unlock_n c rest d hs = Unit {0}
  Shape unlock_n_gone c rest d hs = Unit {0}
  Shape unlock_p c rest d hs = Unit {0}

  as_shape : (c : Course) (rest : List Item) (d : Option Drawn) (hs : List Hold) (b a : Item) → b ≡ a → Shape b c rest d hs → Shape a c rest d hs
  as_shape c rest d hs b a e h = subst (λ (i : Item). Shape i c rest d hs) e h

as_course : (P : Course → Type 0) (b c : Course) → b ≡ c → P b → P c
as_course P b c e h = subst P e h

solo_first : (c : Course) (a : Item) (rest : List Item) → Solo c → items c ≡ a ∷ rest → lock_n ≡ a
solo_first _ a rest (Solo.inserting v) e = cc e
solo_first _ a rest (Solo.splitting v j) e = cc e
solo_first _ a rest (Solo.removing v l) e = cc e

pair_first : (c : Course) (a : Item) (rest : List Item) → Pair c → items c ≡ a ∷ rest → lock_p ≡ a
pair_first _ a rest (Pair.growing v) e = cc e
pair_first _ a rest (Pair.missing v i) e = cc e
pair_first _ a rest (Pair.collapsing v l (leaf j)) e = cc e
pair_first _ a rest (Pair.collapsing v l (node k j)) e = cc e

module _ {N : Numbers} {Key : List ℕ → Type 0} {σ : State} {g : Ghosts} {s : ℕ} {o : Operation} where
  -- what is known where a course writes
  shape : (c : Course) (is : List Item) (d : Option Drawn) (hs : List Hold) → Acts N Key σ g s o c is d hs → (a : Item) (rest : List Item) → is ≡ a ∷ rest → Shape N Key σ g s o a c rest d hs
  shape _ _ d _ (Acts.to_lock c hs n so st pe de) a rest e = as_shape N Key σ g s o (c) rest d (hs ++ n ∷ []) lock_n a (solo_first c a rest so e) tt
  shape _ _ d _ (Acts.to_draw c w hs n so ad ol) a rest e = as_shape N Key σ g s o (c) rest d (hs ++ n ∷ []) draw a (cc e) tt
  shape _ _ d _ (Acts.to_insert v i hs n ol ld) a rest e = as_shape N Key σ g s o (insert v) rest d (hs ++ n ∷ []) write_n a (cc e) (hs, n, refl, (i, cc e, refl, ol, ld))
  shape _ _ d _ (Acts.to_split v j i y hs n ol ld nd) a rest e = as_shape N Key σ g s o (split v j) rest d (hs ++ n ∷ []) write_n a (cc e) (hs, n, refl, (i, y, cc e, refl, ol, ld, nd))
  shape _ _ d _ (Acts.to_remove v l hs n ol) a rest e = as_shape N Key σ g s o (in_place v l) rest d (hs ++ n ∷ []) write_n a (cc e) (hs, n, refl, (cc e, refl, ol))
  shape _ _ d _ (Acts.to_unlock c hs n so pe lo li) a rest e = as_shape N Key σ g s o (c) rest d (hs ++ n ∷ []) unlock_n a (cc e) tt
  shape _ _ d _ (Acts.to_lock_p c p n pa st pe de) a rest e = as_shape N Key σ g s o (c) rest d (p ∷ n ∷ []) lock_p a (pair_first c a rest pa e) tt
  shape _ _ d _ (Acts.to_lock_n c js p n pa it st lo pe de) a rest e = as_shape N Key σ g s o (c) rest d (p ∷ n ∷ []) lock_n a (cc e) tt
  shape _ _ d _ (Acts.to_draw_both c w js p n pa it ad bl) a rest e = as_shape N Key σ g s o (c) rest d (p ∷ n ∷ []) draw a (cc e) tt
  shape _ _ d _ (Acts.to_grow v i y p n bl ld nd) a rest e = as_shape N Key σ g s o (grow v) rest d (p ∷ n ∷ []) write_p a (cc e) (i, y, p, n, refl, cc e, refl, bl, ld, nd)
  shape _ _ d _ (Acts.to_cut v m i y p n bl ld nd) a rest e = as_shape N Key σ g s o (miss v m) rest d (p ∷ n ∷ []) write_n a (cc e) (p ∷ [], n, refl, (i, y, p, refl, cc e, refl, bl, ld, nd))
  shape _ _ d _ (Acts.to_miss v m i y p n cu) a rest e = as_shape N Key σ g s o (miss v m) rest d (p ∷ n ∷ []) write_p a (cc e) (i, y, p, n, refl, cc e, refl, cu)
  shape _ _ d _ (Acts.to_collapse v l j p n bl) a rest e = as_shape N Key σ g s o (collapse v l (leaf j)) rest d (p ∷ n ∷ []) write_p a (cc e) (inl (j, p, n, refl, refl, cc e, refl, bl))
  shape _ _ d _ (Acts.to_lock_m v l k j p n bl) a rest e = as_shape N Key σ g s o (collapse v l (node k j)) rest d (p ∷ n ∷ []) lock_m a (cc e) tt
  shape _ _ d _ (Acts.to_join v l p n m jo) a rest e = as_shape N Key σ g s o (collapse v l m.at) rest d (p ∷ n ∷ m ∷ []) write_m a (cc e) (p, n, m, refl, refl, cc e, refl, jo)
  shape _ _ d _ (Acts.to_collapse_m v l p n m jo) a rest e = as_shape N Key σ g s o (collapse v l m.at) rest d (p ∷ n ∷ m ∷ []) write_p a (cc e) (inr (p, n, m, refl, refl, cc e, refl, jo))
  shape _ _ d _ (Acts.to_unlock_m c p n m pa lp ln lm ip re im) a rest e = as_shape N Key σ g s o (c) rest d (p ∷ n ∷ m ∷ []) unlock_m a (cc e) tt
  shape _ _ d _ (Acts.to_unlock_gone c p n pa lp ln ip re) a rest e = as_shape N Key σ g s o (c) rest d (p ∷ n ∷ []) unlock_n_gone a (cc e) tt
  shape _ _ d _ (Acts.to_unlock_n v m p n lp ln ip ik) a rest e = as_shape N Key σ g s o (miss v m) rest d (p ∷ n ∷ []) unlock_n a (cc e) tt
  shape _ _ d _ (Acts.to_unlock_p c p pa lp ip) a rest e = as_shape N Key σ g s o (c) rest d (p ∷ []) unlock_p a (cc e) tt

  walk_acts : (hs : List Hold) (k : Stage) (c : Course) (is : List Item) (d : Option Drawn) → Walks N Key σ g s o hs k → k ≡ act c is d → Acts N Key σ g s o c is d hs
  walk_acts _ _ c is d Walks.starts e = no_way cc
  walk_acts _ _ c is d (Walks.to_take hs p y x m pe ab) e = no_way cc
  walk_acts _ _ c is d (Walks.to_check_p hs p n m pe ab) e = no_way cc
  walk_acts _ _ c is d (Walks.to_look hs n st pe) e = no_way cc
  walk_acts _ _ c is d (Walks.to_check_n hs n a st pe de) e = no_way cc
  walk_acts hs _ c is d (Walks.acts b bs x h) e = subst (λ (v : Course). Acts N Key σ g s o v is d hs) (cc e)
      (subst (λ (v : List Item). Acts N Key σ g s o b v d hs) (cc e) (subst (λ (v : Option Drawn). Acts N Key σ g s o b bs v hs) (cc e) h))

-- what a look at n has found where a course was decided
abbrev pub Chosen : Tree → List ℕ → Hold → Task → Seen → Course → Type 0
Chosen S k n t r (insert v) = (t ≡ op.add v) × (r ≡ empty) × (leb (cap n.at) (fan S n.at) ≡ false)
Chosen S k n t r (grow v) = (t ≡ op.add v) × (r ≡ empty) × (leb (cap n.at) (fan S n.at) ≡ true)
Chosen S k n t r (split v j) = (t ≡ op.add v) × (r ≡ other j)
Chosen S k n t r (miss v i) = (t ≡ op.add v) × (r ≡ missed i)
Chosen S k n t r (in_place v l) = (t ≡ op.remove) × (r ≡ same_key l v) × ((is n.at root || leb 2 (fan S n.at - 1)) ≡ true)
Chosen S k n t r (collapse v l x) = (t ≡ op.remove) × (r ≡ same_key l v) × ((is n.at root || leb 2 (fan S n.at - 1)) ≡ false) × (left S n.at (key_byte S k n) ≡ Some x)

pub chosen : (S : Tree) (k : List ℕ) (n : Hold) (c : Course) (t : Task) (r : Seen) → decided S k n t r ≡ Some (begun c) → Chosen S k n t r c
chosen S k n c op.find stale e = no_way (cc e)
chosen S k n c op.find empty e = no_way (cc e)
chosen S k n c op.find (missed i) e = no_way (cc e)
chosen S k n c op.find (other l) e = no_way (cc e)
chosen S k n c op.find (same_key l v) e = no_way (cc e)
chosen S k n c op.find (onward y d) e = no_way (cc e)
chosen S k n c op.next r e = no_way (cc e)
chosen S k n c (op.add v) stale e = no_way (cc e)
chosen S k n c (op.add v) empty e = by (leb (cap n.at) (fan S n.at)) refl e
  where
    by : (b : Bool) → leb (cap n.at) (fan S n.at) ≡ b → ◌≡◌ {A = Option Stage} (Some (begun (cond b (grow v) (insert v)))) (Some (begun c)) → Chosen S k n (op.add v) empty c
    by true f e = as_course (Chosen S k n (op.add v) empty) (grow v) c (cc e) (refl, refl, f)
    by false f e = as_course (Chosen S k n (op.add v) empty) (insert v) c (cc e) (refl, refl, f)
chosen S k n c (op.add v) (missed i) e = as_course (Chosen S k n (op.add v) (missed i)) (miss v i) c (cc e) (refl, refl)
chosen S k n c (op.add v) (other l) e = as_course (Chosen S k n (op.add v) (other l)) (split v l) c (cc e) (refl, refl)
chosen S k n c (op.add v) (same_key l w) e = no_way (cc e)
chosen S k n c (op.add v) (onward y d) e = no_way (cc e)
chosen S k n c op.remove stale e = no_way (cc e)
chosen S k n c op.remove empty e = no_way (cc e)
chosen S k n c op.remove (missed i) e = no_way (cc e)
chosen S k n c op.remove (other l) e = no_way (cc e)
chosen S k n c op.remove (same_key l v) e = by (is n.at root || leb 2 (fan S n.at - 1)) refl e
  where
    last : (x : Option Ref) → left S n.at (key_byte S k n) ≡ x → (is n.at root || leb 2 (fan S n.at - 1)) ≡ false → choices.collapsing v l x ≡ Some (begun c) → Chosen S k n op.remove (same_key l v) c
    last None q f e = no_way (cc e)
    last (Some x) q f e = as_course (Chosen S k n op.remove (same_key l v)) (collapse v l x) c (cc e) (refl, refl, f, q)

    by : (b : Bool) → (is n.at root || leb 2 (fan S n.at - 1)) ≡ b → ◌≡◌ {A = Option Stage} (cond b (Some (begun (in_place v l))) (choices.collapsing v l (left S n.at (key_byte S k n)))) (Some (begun c)) → Chosen S k n op.remove (same_key l v) c
    by true f e = as_course (Chosen S k n op.remove (same_key l v)) (in_place v l) c (cc e) (refl, refl, f)
    by false f e = last (left S n.at (key_byte S k n)) refl f e
chosen S k n c op.remove (onward y d) e = no_way (cc e)

-- a drawn node with two children
pub fork_made : (S : Tree) (G : Ghost) (y : Ref) (c : ℕ) (u : Ref) (d : ℕ) (w : Ref) → IsNode y → G.st y ≡ Status.drawn → c < 256 → d < 256 → (c ≡ d → ⊥)
    → ((e : ℕ) → child S y e ≡ fork d w c u e) → Fork S G y c u d w
fork_made S G y c u d w n s lc ld ne h = record {
  node' = n;
  drawn' = s;
  c_byte = lc;
  d_byte = ld;
  apart = ne;
  first = h c ∙ ap (λ (b : Bool). cond b (Some w) (cond (eqb c c) (Some u) None)) (ne_eqb c d ne) ∙ ap (λ (b : Bool). cond b (Some u) None) (eq-eqb c c refl);
  second = h d ∙ ap (λ (b : Bool). cond b (Some w) (cond (eqb d c) (Some u) None)) (eq-eqb d d refl);
  rest = λ e ec ed. h e ∙ ap (λ (b : Bool). cond b (Some w) (cond (eqb e c) (Some u) None)) (ne_eqb e d ed) ∙ ap (λ (b : Bool). cond b (Some u) None) (ne_eqb e c ec);
}

leaf_of : Option Drawn → ℕ
leaf_of None = 0
leaf_of (Some d) = d.leaf_slot

node_of : Option Drawn → Option Ref
node_of None = None
node_of (Some d) = d.node_slot

-- what was drawn
pub same_leaf : (i j : ℕ) (x y : Option Ref) → ◌≡◌ {A = Option Drawn} (Some (record { leaf_slot = i; node_slot = x })) (Some (record { leaf_slot = j; node_slot = y })) → i ≡ j
unfolding leaf_of
same_leaf i j x y e = ap leaf_of e

pub same_node : (i j : ℕ) (x y : Ref) → ◌≡◌ {A = Option Drawn} (Some (record { leaf_slot = i; node_slot = Some x })) (Some (record { leaf_slot = j; node_slot = Some y })) → x ≡ y
unfolding node_of
same_node i j x y e = some_inj x y (ap node_of e)

pub stand_placed : {N : Numbers} {σ : State} {g : Ghosts} {o : Operation} (hs : List Hold) (n : Hold) → Stand N σ g o hs n → Placed N σ g o n
stand_placed _ _ (Stand.at_root n e d p) = p
stand_placed _ _ (Stand.below p n a q) = q

pub stand_above : {N : Numbers} {σ : State} {g : Ghosts} {o : Operation} (hs : List Hold) (p n : Hold) → Stand N σ g o hs n → hs ≡ p ∷ [] → Above N σ g o p n.at n.depth
stand_above _ p _ (Stand.at_root n a d k) e = no_way (cc e)
stand_above {N} {σ} {g} {o} _ p _ (Stand.below w n a k) e = let z : w ≡ p = cc e in subst (λ (q : Hold). Above N σ g o q n.at n.depth) z a

module _ {N : Numbers} {Key : List ℕ → Type 0} {σ τ : State} {g : Ghosts} {s : ℕ} {o u : Operation} {r : Outcome} (st : Step N Key σ τ g s o (busy u) r) (t : is_next o.task ≡ false) where
  -- what is known of an operation that is about to write
  pub course_at : (c : Course) (a : Item) (rest : List Item) (d : Option Drawn) → o.stage ≡ act c (a ∷ rest) d → (o.mode ≡ by_key) × Shape N Key σ g s o a c rest d o.held
  course_at c a rest d e = ⊎_elim
      (λ w. (w.1, shape c (a ∷ rest) d o.held (walk_acts o.held o.stage c (a ∷ rest) d w.2 e) a rest refl))
      (λ w. true_false (is_next o.task) (ap is_next w.0) t)
      (st.inv.seats s o st.was).doing

  pub course_n : (c : Course) (rest : List Item) (d : Option Drawn) (hs : List Hold) (n : Hold) → o.stage ≡ act c (write_n ∷ rest) d → o.held ≡ hs ++ n ∷ [] → (o.mode ≡ by_key) × AtN N Key σ g s o c rest d hs n
  course_n c rest d hs n e q =
      let k = course_at c write_n rest d e in
      let w = k.1 in
      let z = snoc_one w.0 hs w.1 n (sym w.2 ∙ q) in
      (k.0, subst (λ (m : Hold). AtN N Key σ g s o c rest d hs m) z.1 (subst (λ (l : List Hold). AtN N Key σ g s o c rest d l w.1) z.0 w.3))

  -- a node that is locked and not in flux
  pub at_locked : (n : Hold) → In n o.held → IsLocked n → Placed N σ g o n → (FluxOf o n.at → ⊥) → At σ.tree (ghost g) n.at o.key n.depth
  at_locked n i l p no' =
      let q = p (sound_locked σ n l) in
      let k = (entry_reads st.inv s o st.was n i).0 in
      record {
        inner = k;
        here = q.0;
        steady = ⊎_elim (λ e. e) (λ f. absurd (locked_steady st.inv s o st.was n i l no' f)) (st.inv.tree.split n.at k q.0).1;
        way = q.1;
        depth = q.2;
      }

  -- what was seen there
  pub chosen_at : (c : Course) (n : Hold) → IsLocked n → Decides N σ g o n (begun c) → Chosen σ.tree o.key n o.task (seen N.deep σ.tree o.key n.at n.depth) c
  chosen_at c n l d = chosen σ.tree o.key n c o.task (seen N.deep σ.tree o.key n.at n.depth) (d (sound_locked σ n l))

  pub tells_at : (n : Hold) (k : Seen) → At σ.tree (ghost g) n.at o.key n.depth → seen N.deep σ.tree o.key n.at n.depth ≡ k → Tells σ.tree (ghost g) n.at o.key n.depth k
  tells_at n k a e = sees st.inv.tree n.at o.key n.depth a (st.inv.seats s o st.was).key k e

  -- p leads to n by the key's byte
  pub leads_at : (p n : Hold) → IsLocked p → Above N σ g o p n.at n.depth → At σ.tree (ghost g) p.at o.key p.depth → child σ.tree p.at (byte_above o.key n) ≡ Some n.at
  leads_at p n l ab at =
      let e = ab.leads (sound_locked σ p l) in
      let w = leads_onward N.deep σ.tree o.key p.at p.depth n.at n.depth e in
      let z : n.depth - 1 ≡ p.depth + length (prefix σ.tree p.at) = omega (arith, w.deeper) in
      subst (λ (d : ℕ). child σ.tree p.at (get_or o.key d 0) ≡ Some n.at) (sym z) w.there

  pub locked_by : (n : Hold) → In n o.held → IsLocked n → (y : Ref) → y ≡ n.at → LockedBy σ τ g g s y
  locked_by n i l y e = (n, entry_in st.inv s o st.was n i, sym e, l)

  -- no node is in flux by an operation that writes n or m
  pub no_flux : (c : Course) (a : Item) (rest : List Item) (d : Option Drawn) → o.stage ≡ act c (a ∷ rest) d → (a ≡ write_p → ⊥) → (x : Ref) → FluxOf o x → ⊥
  no_flux c a rest d e no' x f = no' (flux_of o x c a rest d f e).0

  pub fresh : (i v : ℕ) → LeafDrawn N Key σ g s o i v → Fresh Key σ.tree (ghost g) i o.key v
  fresh i v l = record { drawn' = ap status_of l.drawn'; key = l.key; value = l.value; accepted = (st.inv.seats s o st.was).key }

module _ {N : Numbers} {Key : List ℕ → Type 0} {σ τ : State} {g : Ghosts} {s : ℕ} {o u : Operation} {r : Outcome} (st : Step N Key σ τ g s o (busy u) r) (t : is_next o.task ≡ false)
    {a : Ref} {b : ℕ} {z : Option Ref} {new old moved : List Ref} (x : Exchange N Key σ τ g s a b z new old moved) where
  -- what does not go out stays linked
  pub still_linked : (h : Ghosts) → ghost h ≡ x.made.ghost' → (y : Ref) → Linked (ghost g) y → (graft.In y old → ⊥) → Linked (ghost h) y
  still_linked h e y l n = subst (λ (H : Ghost). Linked H y) (sym e) (x.made.turned.stay y (λ i. linked_drawn ((ghost g).st y) l (new_drawn st x y i).0) n ∙ l)

  pub gone_retired : (h : Ghosts) → ghost h ≡ x.made.ghost' → (y : Ref) → graft.In y old → IsRetired N Key τ h s u y
  gone_retired h e y i = (σ.epoch, subst (λ (H : Ghost). H.st y ≡ Status.retired σ.epoch) (sym e) (old_linked st x y i).1)

  -- a course that has written n alone
  pub solo_acts : (c : Course) (hs : List Hold) (n : Hold) → Solo c → OneLocked N Key σ g s o c hs n → o.held ≡ hs ++ n ∷ [] → n.at ≡ a
      → (h : Ghosts) → ghost h ≡ x.made.ghost' → Acts N Key τ h s u c (unlock_n ∷ []) None o.held
  solo_acts c hs n so ol q e h f = subst (λ (l : List Hold). Acts N Key τ h s u c (unlock_n ∷ []) None l) (sym q)
      (Acts.to_unlock c hs n so ol.permits ol.locked (subst (λ (y : Ref). Linked (ghost h) y) (sym e) (still_linked h f a x.here x.kept)))

  -- a course that has written p, with n out
  pub gone_acts : (c : Course) (p n : Hold) → Pair c → IsLocked p → IsLocked n → o.held ≡ p ∷ n ∷ [] → p.at ≡ a → graft.In n.at old
      → (h : Ghosts) → ghost h ≡ x.made.ghost' → Acts N Key τ h s u c (unlock_n_gone ∷ unlock_p ∷ []) None o.held
  gone_acts c p n pa lp ln q e i h f = subst (λ (l : List Hold). Acts N Key τ h s u c (unlock_n_gone ∷ unlock_p ∷ []) None l) (sym q)
      (Acts.to_unlock_gone c p n pa lp ln (subst (λ (y : Ref). Linked (ghost h) y) (sym e) (still_linked h f a x.here x.kept)) (gone_retired h f n.at i))

  -- what a write of an add leaves
  pub puts : (v : ℕ) (c : Course) (i : Item) (rest : List Item) (d : Option Drawn) → o.mode ≡ by_key → busy u ≡ with o o.mode o.held (act c (i ∷ rest) d)
      → ((h : Ghosts) → ghost h ≡ x.made.ghost' → Acts N Key τ h s u c (i ∷ rest) d o.held)
      → Lacks σ.tree (ghost g) o.key → Added σ.tree (ghost g) τ.tree x.made.ghost' o.key v → o.task ≡ op.add v
      → (w : Written N Key σ τ g s new old) × Puts σ τ g w.after o.key v × (o.task ≡ op.add v)
  puts v c i rest d m e k l ad task = by (written st x c i rest d t m e k)
    where
      by : (w : Written N Key σ τ g s new old) × (ghost w.after ≡ x.made.ghost') → (w : Written N Key σ τ g s new old) × Puts σ τ g w.after o.key v × (o.task ≡ op.add v)
      by (w, f) = (w, record { lacked = l; added = subst (λ (H : Ghost). Added σ.tree (ghost g) τ.tree H o.key v) (sym f) ad }, task)

  -- what a write of a removal leaves
  pub drops : (v : ℕ) (c : Course) (i : Item) (rest : List Item) (d : Option Drawn) → o.mode ≡ by_key → busy u ≡ with o o.mode o.held (act c (i ∷ rest) d)
      → ((h : Ghosts) → ghost h ≡ x.made.ghost' → Acts N Key τ h s u c (i ∷ rest) d o.held)
      → Holds σ.tree (ghost g) o.key v → Removed σ.tree (ghost g) τ.tree x.made.ghost' o.key → o.task ≡ op.remove
      → (w : Written N Key σ τ g s new old) × Drops σ τ g w.after o.key v × (o.task ≡ op.remove)
  drops v c i rest d m e k l re task = by (written st x c i rest d t m e k)
    where
      by : (w : Written N Key σ τ g s new old) × (ghost w.after ≡ x.made.ghost') → (w : Written N Key σ τ g s new old) × Drops σ τ g w.after o.key v × (o.task ≡ op.remove)
      by (w, f) = (w, record { held = l; removed = subst (λ (H : Ghost). Removed σ.tree (ghost g) τ.tree H o.key) (sym f) re }, task)

module _ {N : Numbers} {Key : List ℕ → Type 0} {σ τ : State} {g : Ghosts} {s : ℕ} {o u : Operation} {r : Outcome} (st : Step N Key σ τ g s o (busy u) r) (t : is_next o.task ≡ false) where
  -- what the write of a prefix of a locked node leaves
  pub prefix_leaves : (x : Hold) (p : List ℕ) → In x o.held → IsLocked x → (x.at ≡ root → ⊥) → Prefixed σ.tree τ.tree x.at p → WordsAre σ.words τ → ((y : Ref) → FluxOf o y → ⊥) → Flux τ x.at
      → (c : Course) (a : Item) (rest : List Item) (d : Option Drawn) → o.mode ≡ by_key → busy u ≡ with o o.mode o.held (act c (a ∷ rest) d)
      → (TreeOk N.deep Key (Flux τ) τ.tree (ghost g) → Acts N Key τ g s u c (a ∷ rest) d o.held) → Leaves N Key σ τ g g s × HoldsSame σ τ g g
  prefix_leaves x p i l nr w words steady now c a rest d mode eu acts =
      let inv = st.inv in
      let good : TreeOk N.deep Key (Flux τ) τ.tree (ghost g) = moved inv.tree x.at
      (record { others = w.elsewhere; kids = w.kids; entries = w.entries; from = λ y h. flows st y (steady y) h; now = now; inner = nr }) in (
        record {
          tree = good;
          spelled = record { child_byte = λ y b z e. inv.spelled.child_byte y b z (sym (w.kids y b) ∙ e); full_byte = inv.spelled.full_byte };
          closed' = λ y n b z h e. inv.closed' y n b z h (sym (w.kids y b) ∙ e);
          rootless = λ y n b h e. inv.rootless y n b h (sym (w.kids y b) ∙ e);
          upto = λ y n h. subst (λ (v : ℕ). n ≤ v) (sym st.turns.epoch) (inv.upto y n h);
          places = λ y. subst (λ (m : Meaning). Suits (place_at g y) m) (sym (words y)) (inv.places y);
          nodes = λ y n. pick y x.at (λ e. inr (inl (locked_by st t x i l y e)))
              (λ ne. inl (record { prefix_same = w.elsewhere y ne; child_same = w.kids y; path_same = refl; full_same = refl; mark_same = refl }));
          leaves = λ j. inl (w.entries j);
          safe = λ k v e y h. h;
          drawn' = λ y k ne e. e;
          seat = seat_acts st g c a rest d t mode eu (λ y h. h) (acts good);
        },
        λ k v. (
          (λ h. (h.0, h.1, ap (λ (z : Entry). z.key) (sym (w.entries h.0)) ∙ h.2, ap (λ (z : Entry). z.value) (sym (w.entries h.0)) ∙ h.3)),
          (λ h. (h.0, h.1, ap (λ (z : Entry). z.key) (w.entries h.0) ∙ h.2, ap (λ (z : Entry). z.value) (w.entries h.0) ∙ h.3)),
        ),
      )
