-- What a step does: one rule for each stage and what it meets.
use Rattle.std.specs.Prelude.{◌≡◌, ℕ, zero, suc, ◌+◌, ◌-◌, ◌<◌, ◌≤◌, Bool, true, false, cond, List, [], ◌∷◌, ◌++◌, length, take, drop, Some, None, Option, ◌==◌, slice_index}
use Rattle.std.specs.List.{slice_get}
use Rattle.latches.specs.declared.word.Meaning.{Meaning}
use Rattle.latches.specs.Rules.{take_refusal, noted, shared}
use Rattle.latches.specs.Rules as latch
use Rattle.terms.specs.declared.Cause.{Cause}
use Rattle.terms.specs.declared.Cause.TheVariants.{Changed}
use Rattle.model.specs.Refs.{Kind, room, Ref, leaf, root, is, pool}
use Rattle.model.specs.Tree.{Tree, prefix}
use Rattle.model.specs.Holds.{Grip, Hold, put, let_go_all}
use Rattle.model.specs.Operations as op
use Rattle.model.specs.Operations.{Task, Answer, Course, Item, lock_p, lock_n, lock_m, draw, course_answer, Drawn, Mode, by_key, back, down, Stage, check_p, look, check_n, act, scan, Operation, Seat, Outcome, go}
use Rattle.model.specs.Sights as sight
use Rattle.model.specs.Sights.{Seen}
use Rattle.model_next.specs.Look as picks
use Rattle.model_next.specs.Look.{key_sight, back_sight, down_sight}
use Rattle.machine.specs.State.{State, Numbers, Still, WordsAre, with, Restarts, Ends}
use Rattle.machine.specs.Choices.{decided}
use Rattle.machine.specs.Items.{check_by, lock_by, draws, Does, Pooled}

-- find, add and remove keep what a walk needs; next keeps everything
abbrev pub is_next : Task → Bool
is_next op.find = false
is_next op.remove = false
is_next op.next = true
is_next (op.add v) = false

-- what a passed Check p gives back: all above p, but nothing by next
abbrev pub above_p : Task → List Hold → List Hold
above_p t hs = cond (is_next t) [] (take (length hs - 2) hs)

abbrev pub kept_p : Task → List Hold → List Hold
kept_p t hs = cond (is_next t) hs (drop (length hs - 2) hs)

-- the node whose look led to the newest one
abbrev pub parent : Mode → List Hold → Option Hold
parent by_key hs = slice_get hs (length hs - 2)
parent (back i) hs = None
parent (down at keys) hs = slice_get hs (cond (length hs == suc keys) at (length hs - 2))

abbrev pub after_take : Ref → Stage
after_take x = cond (is x root) look check_p

-- the pair of a leaf
abbrev pub pair_at : Tree → ℕ → Answer
pair_at S i = op.first_is (S.entries i).key (S.entries i).value

-- where next goes after a look at place j of what it holds, with so many entries on the key's way
abbrev pub goes_back : Operation → ℕ → Seat
goes_back o zero = with o by_key o.held (scan 0 op.none)
goes_back o (suc j) = with o (back j) o.held look

abbrev pub picked : Tree → Operation → ℕ → ℕ → picks.Sight → Option Seat
picked S o j keys picks.stale = None
picked S o j keys picks.back = Some (goes_back o j)
picked S o j keys (picks.onward y e) = Some (with o by_key o.held (op.take y e))
picked S o j keys (picks.aside y e) = Some (with o (down j keys) o.held (op.take y e))
picked S o j keys (picks.got i) = Some (with o o.mode o.held (scan 0 (pair_at S i)))

-- what next sees in each mode, and the node that it looks at
pub data Sees (N : Numbers) (S : Tree) (o : Operation) : Hold → ℕ → ℕ → picks.Sight → Type 0 where
  along : (n : Hold) → o.mode ≡ by_key → slice_get o.held (length o.held - 1) ≡ Some n
      → Sees N S o n (length o.held - 1) (length o.held) (key_sight N.deep S o.key n.at n.depth)
  going_back : (j : ℕ) (n below : Hold) → o.mode ≡ back j → slice_get o.held j ≡ Some n → slice_get o.held (suc j) ≡ Some below
      → Sees N S o n j (length o.held) (back_sight N.deep S (slice_index o.key (below.depth - 1)) n.at n.depth)
  going_down : (at keys : ℕ) (n : Hold) → o.mode ≡ down at keys → slice_get o.held (length o.held - 1) ≡ Some n
      → Sees N S o n at keys (down_sight N.deep S n.at n.depth)

-- an item that is refused, with the cause and the refusing node
pub data Refuses (N : Numbers) (σ : State) (o : Operation) : Course → Item → Cause → Ref → ℕ → Type 0 where
  at_p : {c : Course} {e : Cause} (p n : Hold) → o.held ≡ p ∷ n ∷ [] → lock_by p.grip (σ.words p.at) ≡ Some e → Refuses N σ o c lock_p e p.at p.depth
  at_n : {c : Course} {e : Cause} (hs : List Hold) (n : Hold) → o.held ≡ hs ++ n ∷ [] → lock_by n.grip (σ.words n.at) ≡ Some e → Refuses N σ o c lock_n e n.at n.depth
  taking_m : {v l : ℕ} {m : Ref} {e : Cause} (hs : List Hold) (n : Hold) → o.held ≡ hs ++ n ∷ [] → take_refusal N.limit (σ.words m) ≡ Some e
      → Refuses N σ o (op.collapse v l m) lock_m e m (suc (n.depth + length (prefix σ.tree n.at)))
  locking_m : {v l : ℕ} {m : Ref} {e : Cause} (hs : List Hold) (n : Hold) → o.held ≡ hs ++ n ∷ [] → take_refusal N.limit (σ.words m) ≡ None
      → latch.lock_refusal (N.weight o.restarts) (noted (σ.words m)) (shared (N.weight o.restarts) (σ.words m)) ≡ Some e
      → Refuses N σ o (op.collapse v l m) lock_m e m (suc (n.depth + length (prefix σ.tree n.at)))

-- a draw without room: no leaf is spare; or no node is, and the leaf goes behind the other spare ones
pub data NoRoom (σ τ : State) (o : Operation) : Course → ℕ → Type 0 where
  no_leaf : {c : Course} → σ.spare (pool (leaf 0)) ≡ [] → τ.spare ≡ σ.spare → NoRoom σ τ o c (pool (leaf 0))
  no_node : {c : Course} (hs : List Hold) (n : Hold) (kind : Kind) (i : ℕ) (ls : List Ref) → o.held ≡ hs ++ n ∷ [] → draws n c ≡ Some kind
      → σ.spare (pool (leaf i)) ≡ leaf i ∷ ls → σ.spare (room kind) ≡ [] → Pooled σ τ (pool (leaf i)) (ls ++ leaf i ∷ []) → NoRoom σ τ o c (room kind)

-- after an item: the next one follows, or the course is over
pub data Follows (o : Operation) (τ : State) (c : Course) (f : Ref → Meaning) (hs : List Hold) (g : Option Drawn) : List Item → Seat → Outcome → Type 0 where
  more : {a : Item} {rest : List Item} → WordsAre f τ → Follows o τ c f hs g (a ∷ rest) (with o o.mode hs (act c (a ∷ rest) g)) go
  over : {z : Seat} {r : Outcome} → Ends f hs τ (course_answer c) z r → Follows o τ c f hs g [] z r

-- one step of the operation o: the seat after it, and what it came to
pub data Row (N : Numbers) (σ τ : State) (o : Operation) : Seat → Outcome → Type 0 where
  takes : (x : Ref) (d : ℕ) → o.stage ≡ op.take x d → take_refusal N.limit (σ.words x) ≡ None → Still σ τ
      → WordsAre (put σ.words x (shared (N.weight o.restarts) (σ.words x))) τ
      → Row N σ τ o (with o o.mode (o.held ++ record { at = x; depth = d; grip = Grip.Permit (σ.words x).count (N.weight o.restarts) } ∷ []) (after_take x)) go
  takes_not : {z : Seat} {r : Outcome} (x : Ref) (d : ℕ) (e : Cause) → o.stage ≡ op.take x d → take_refusal N.limit (σ.words x) ≡ Some e → Restarts σ τ o e x d z r → Row N σ τ o z r
  checks_p : (p : Hold) → o.stage ≡ check_p → parent o.mode o.held ≡ Some p → check_by p.grip (σ.words p.at) ≡ None → Still σ τ
      → WordsAre (let_go_all (above_p o.task o.held) σ.words) τ → Row N σ τ o (with o o.mode (kept_p o.task o.held) look) go
  checks_p_not : {z : Seat} {r : Outcome} (p : Hold) (e : Cause) → o.stage ≡ check_p → parent o.mode o.held ≡ Some p → check_by p.grip (σ.words p.at) ≡ Some e
      → Restarts σ τ o e p.at p.depth z r → Row N σ τ o z r
  -- find, add and remove look
  looks_on : (hs : List Hold) (n : Hold) (y : Ref) (e : ℕ) → o.stage ≡ look → is_next o.task ≡ false → o.held ≡ hs ++ n ∷ []
      → sight.seen N.deep σ.tree o.key n.at n.depth ≡ sight.onward y e → Still σ τ → WordsAre σ.words τ → Row N σ τ o (with o o.mode o.held (op.take y e)) go
  looks_decides : (hs : List Hold) (n : Hold) (g : Stage) → o.stage ≡ look → is_next o.task ≡ false → o.held ≡ hs ++ n ∷ []
      → decided σ.tree o.key n o.task (sight.seen N.deep σ.tree o.key n.at n.depth) ≡ Some g → Still σ τ → WordsAre σ.words τ → Row N σ τ o (with o o.mode o.held g) go
  looks_stale : {z : Seat} {r : Outcome} (hs : List Hold) (n : Hold) → o.stage ≡ look → is_next o.task ≡ false → o.held ≡ hs ++ n ∷ []
      → sight.seen N.deep σ.tree o.key n.at n.depth ≡ sight.stale → Restarts σ τ o Changed n.at n.depth z r → Row N σ τ o z r
  checks_n : {z : Seat} {r : Outcome} (a : Answer) (hs : List Hold) (n : Hold) → o.stage ≡ check_n a → o.held ≡ hs ++ n ∷ [] → check_by n.grip (σ.words n.at) ≡ None → Still σ τ
      → Ends σ.words o.held τ a z r → Row N σ τ o z r
  checks_n_not : {z : Seat} {r : Outcome} (a : Answer) (hs : List Hold) (n : Hold) (e : Cause) → o.stage ≡ check_n a → o.held ≡ hs ++ n ∷ [] → check_by n.grip (σ.words n.at) ≡ Some e
      → Restarts σ τ o e n.at n.depth z r → Row N σ τ o z r
  -- next looks
  picks_on : {z : Seat} (n : Hold) (j keys : ℕ) (s : picks.Sight) → o.stage ≡ look → is_next o.task ≡ true → Sees N σ.tree o n j keys s
      → picked σ.tree o j keys s ≡ Some z → Still σ τ → WordsAre σ.words τ → Row N σ τ o z go
  picks_stale : {z : Seat} {r : Outcome} (n : Hold) (j keys : ℕ) → o.stage ≡ look → is_next o.task ≡ true → Sees N σ.tree o n j keys picks.stale
      → Restarts σ τ o Changed n.at n.depth z r → Row N σ τ o z r
  -- next checks all its permits, the oldest first
  scans : (i : ℕ) (a : Answer) (h : Hold) → o.stage ≡ scan i a → slice_get o.held i ≡ Some h → check_by h.grip (σ.words h.at) ≡ None → suc i < length o.held → Still σ τ → WordsAre σ.words τ
      → Row N σ τ o (with o o.mode o.held (scan (suc i) a)) go
  scans_last : {z : Seat} {r : Outcome} (i : ℕ) (a : Answer) (h : Hold) → o.stage ≡ scan i a → slice_get o.held i ≡ Some h → check_by h.grip (σ.words h.at) ≡ None → length o.held ≤ suc i → Still σ τ
      → Ends σ.words o.held τ a z r → Row N σ τ o z r
  scans_not : {z : Seat} {r : Outcome} (i : ℕ) (a : Answer) (h : Hold) (e : Cause) → o.stage ≡ scan i a → slice_get o.held i ≡ Some h → check_by h.grip (σ.words h.at) ≡ Some e
      → Restarts σ τ o e h.at h.depth z r → Row N σ τ o z r
  -- courses
  acts : {z : Seat} {r : Outcome} (c : Course) (a : Item) (rest : List Item) (g g' : Option Drawn) (f : Ref → Meaning) (hs : List Hold) → o.stage ≡ act c (a ∷ rest) g
      → Does N σ τ o c a g f hs g' → Follows o τ c f hs g' rest z r → Row N σ τ o z r
  acts_not : {z : Seat} {r : Outcome} (c : Course) (a : Item) (rest : List Item) (g : Option Drawn) (e : Cause) (x : Ref) (d : ℕ) → o.stage ≡ act c (a ∷ rest) g
      → Refuses N σ o c a e x d → Restarts σ τ o e x d z r → Row N σ τ o z r
  no_room : {z : Seat} {r : Outcome} (c : Course) (rest : List Item) (g : Option Drawn) (q : ℕ) → o.stage ≡ act c (draw ∷ rest) g
      → NoRoom σ τ o c q → τ.tree ≡ σ.tree → τ.retired ≡ σ.retired → Ends σ.words o.held τ (op.no_room q) z r → Row N σ τ o z r
