-- The map of what is held, before each call of a run.
use Rattle.std.proofs.Common.{◌≡◌, ℕ, zero, suc, ◌<◌, ◌≤◌, Bool, true, false, cond, eqb, leb, ◌⊎◌, List, [], ◌∷◌, ◌++◌, length, Some, None, Option, sym, refl, ap, ◌∙◌, subst, subst₂, inl, inr, ⊎_elim, arith, length-append}
use mathlib.Core.Path.{fun_ext}
use mathlib.Core.List.{List-discrete}
use native.Mathlib.Decide.{ℕ_discrete}
use Rattle.std.proofs.lemmas.Bool.{eqb-true, eq-eqb, ne_eqb, le-leb, lt-leb, cases_eq}
use Rattle.std.specs.List.{slice_get}
use Rattle.keys.specs.Bytes.{First}
use Rattle.keys.specs.Laws as coding
use Rattle.terms.specs.declared.Cause.{Cause}
use Rattle.latches.specs.declared.word.Meaning.{Meaning}
use Rattle.model.specs.Refs.{Ref, leaf, root, is}
use Rattle.model.specs.Tree.{Tree}
use Rattle.model.specs.Holds.{Hold}
use Rattle.model.specs.Operations as op
use Rattle.model.specs.Operations.{Operation, Task, Answer, Course, Item, Drawn, Stage, act, scan, Seat, closed, idle, busy, Outcome}
use Rattle.model.proofs.Bytes.{none_some, some_inj}
use Rattle.model_tree.specs.Meets.{Lacks}
use Rattle.model_tree.specs.Writes.{Means, Put}
use Rattle.model_tree.proofs.Maps.{means_added, means_removed}
use Rattle.model_words.specs.Words.{Sound, In}
use Rattle.model_words.proofs.Rely as rely
use Rattle.model_next.specs.Look as picks
use Rattle.model_next.specs.Next.{FirstFrom}
use Rattle.machine.specs.State.{State, Numbers, WordsAre, with, Restarts, Ends}
use Rattle.machine.specs.Items.{check_by, Does}
use Rattle.machine.specs.Steps.{is_next, after_take, pair_at, goes_back, picked, Follows, Row}
use Rattle.machine.specs.Calls.{Call, Reply, came, started, Turns, Did}
use Rattle.machine.specs.Runs.{Event, made, on, history}
use Rattle.machine.specs.Told.{Told, shut, free, asked, told, Agrees}
use Rattle.runs.specs.Runs.{New, Run}
use Rattle.runs.specs.Named.{Feed, Names, nothing, itself, first_check, item_names, row_names, is_first_check, checks_first, feed, named_by, checked_at, named}
use Rattle.runs.proofs.Telling.{histories_tell_lem}
use Rattle.invariant.specs.Ghosts.{Ghosts, status_of, ghost, words_of, SoundAt}
use Rattle.invariant.specs.Invariant.{Lawful, Walks}
use Rattle.invariant.specs.Changes.{HoldsSame}
use Rattle.invariant.specs.Effects.{Said, Acted, NextSaid, Unsound}
use Rattle.invariant.proofs.Setting.{Step, no_way, true_false, sound_by, seat_below, entry_in}
use Rattle.invariant.proofs.RowWords.{row_words}
use Rattle.invariant.proofs.Checks.{scan_begins, scan_next, scan_over, unsound_stays}
use Rattle.invariant.proofs.Runs.{KeyOf, Good, Advance, advance, good_run}
use Rattle.invariant.proofs.Steps.{Effect}
use Rattle.promise.specs.Map as map
use Rattle.promise.specs.Answers.{StepAt, Replay}
use Rattle.promise.proofs.Names.{decided_on, NamedOpen, names_ok}

-- the map by bytes: fed a task with its key, it gives this answer and is n then
pub data FedBytes (m n : List ℕ → Option ℕ) : Task → List ℕ → Answer → Type 0 where
  finds : (k : List ℕ) (v : ℕ) → m k ≡ Some v → ((j : List ℕ) → n j ≡ m j) → FedBytes m n op.find k (op.found v)
  finds_not : (k : List ℕ) → m k ≡ None → ((j : List ℕ) → n j ≡ m j) → FedBytes m n op.find k op.absent
  adds : (k : List ℕ) (v : ℕ) → m k ≡ None → Put m n k (Some v) → FedBytes m n (op.add v) k op.added
  adds_not : (k : List ℕ) (v w : ℕ) → m k ≡ Some w → ((j : List ℕ) → n j ≡ m j) → FedBytes m n (op.add v) k (op.present w)
  adds_nowhere : (k : List ℕ) (v p : ℕ) → ((j : List ℕ) → n j ≡ m j) → FedBytes m n (op.add v) k (op.no_room p)
  removes : (k : List ℕ) (v : ℕ) → m k ≡ Some v → Put m n k None → FedBytes m n op.remove k (op.removed v)
  removes_not : (k : List ℕ) → m k ≡ None → ((j : List ℕ) → n j ≡ m j) → FedBytes m n op.remove k op.absent
  comes : (k : List ℕ) (a : Answer) → NextSaid (λ j v. m j ≡ Some v) k a → ((j : List ℕ) → n j ≡ m j) → FedBytes m n op.next k a

-- one call: fed where a step is named, and else as it was
abbrev pub MapStep : {K : Type 0} → (K → Type 0) → (K → List ℕ) → (List ℕ → Option ℕ) → (List ℕ → Option ℕ) → Option (Feed K) → Type 0
MapStep accepts bytes m n None = (k : List ℕ) → n k ≡ m k
MapStep accepts bytes m n (Some f) = accepts f.key × FedBytes m n f.task (bytes f.key) f.answer

-- a map with o at the key k
put_at : (List ℕ → Option ℕ) → List ℕ → Option ℕ → List ℕ → Option ℕ
put_at m k o j = elim (List-discrete ℕ_discrete j k) [ yes _ ↦ o | no _ ↦ m j ]

put_at_puts : (m : List ℕ → Option ℕ) (k : List ℕ) (o : Option ℕ) → Put m (put_at m k o) k o
unfolding put_at
put_at_puts m k o = record { at = at (List-discrete ℕ_discrete k k); elsewhere = λ j n. elsewhere j n (List-discrete ℕ_discrete j k) }
  where
    at : (d : Dec (k ≡ k)) → elim d [ yes _ ↦ o | no _ ↦ m k ] ≡ o
    at (yes e) = refl
    at (no n) = absurd (n refl)

    elsewhere : (j : List ℕ) → (j ≡ k → ⊥) → (d : Dec (j ≡ k)) → elim d [ yes _ ↦ o | no _ ↦ m j ] ≡ m j
    elsewhere j n (yes e) = absurd (n e)
    elsewhere j n (no _) = refl

module _ (m : List ℕ → Option ℕ) (σ : State) (g : Ghosts) (w : Means m σ.tree (ghost g)) where
  -- what is not held is not in the map
  lacks_none : (k : List ℕ) → Lacks σ.tree (ghost g) k → m k ≡ None
  lacks_none k l = go (m k) refl
    where
      go : (x : Option ℕ) → m k ≡ x → m k ≡ None
      go None e = e
      go (Some v) e = absurd (l v ((w k v).0 e))

  -- what an answer says of what is held, it says of the map
  said_fed : (t : Task) (k : List ℕ) (a : Answer) → Said σ g t k a → FedBytes m m t k a
  said_fed _ _ _ (Said.finds k v h) = FedBytes.finds k v ((w k v).1 h) (λ j. refl)
  said_fed _ _ _ (Said.finds_not k l) = FedBytes.finds_not k (lacks_none k l) (λ j. refl)
  said_fed _ _ _ (Said.adds_not k v u h) = FedBytes.adds_not k v u ((w k u).1 h) (λ j. refl)
  said_fed _ _ _ (Said.adds_nowhere k v p) = FedBytes.adds_nowhere k v p (λ j. refl)
  said_fed _ _ _ (Said.removes_not k l) = FedBytes.removes_not k (lacks_none k l) (λ j. refl)

  module _ (τ : State) (h : Ghosts) where
    -- a call that leaves what is held
    same_means : HoldsSame σ τ g h → Means m τ.tree (ghost h)
    same_means s k v = ((λ e. (s k v).1 ((w k v).0 e)), (λ e. (w k v).1 ((s k v).0 e)))

    -- the map after a step that answers
    acted_fed : (t : Task) (k : List ℕ) (a : Answer) → Acted σ τ g h t k a → (n : List ℕ → Option ℕ) × Means n τ.tree (ghost h) × FedBytes m n t k a
    acted_fed _ _ _ (Acted.says t k a s e) = (m, same_means e, said_fed t k a s)
    acted_fed _ _ _ (Acted.puts k v p) =
        let q = put_at_puts m k (Some v) in
        (put_at m k (Some v), means_added σ.tree τ.tree (ghost g) (ghost h) m (put_at m k (Some v)) k w v p.lacked q p.added, FedBytes.adds k v (lacks_none k p.lacked) q)
    acted_fed _ _ _ (Acted.drops k v p) =
        let q = put_at_puts m k None in
        (put_at m k None, means_removed σ.tree τ.tree (ghost g) (ghost h) m (put_at m k None) k w q p.removed, FedBytes.removes k v ((w k v).1 p.held) q)

-- the answer of next, of pairs that are the same
next_same : {Has Had : List ℕ → ℕ → Type 0} → ((k : List ℕ) (v : ℕ) → Has k v → Had k v) → ((k : List ℕ) (v : ℕ) → Had k v → Has k v) → (k : List ℕ) (a : Answer) → NextSaid Has k a → NextSaid Had k a
next_same f b k _ (NextSaid.comes a v h) = NextSaid.comes a v (record { has = f a v h.has; from = h.from; least = λ j u p. h.least j u (b j u p) })
next_same f b k _ (NextSaid.comes_not h) = NextSaid.comes_not (λ j u p. h j u (b j u p))

-- a scan whose check of the entry at i passes
record Passed (σ : State) (o : Operation) (i : ℕ) (a : Answer) : Type 0 where
  entry : Hold
  stage : o.stage ≡ scan i a
  there : slice_get o.held i ≡ Some entry
  passed : check_by entry.grip (σ.words entry.at) ≡ None

-- a step of a scan that goes on
record Scanned (σ τ : State) (o u : Operation) (i : ℕ) (a : Answer) : Type 0 where
  passed : Passed σ o i a
  held : u.held ≡ o.held
  key : u.key ≡ o.key
  words : WordsAre σ.words τ

-- whether the next step is a check behind the first
abbrev late : Stage → Bool
late (op.take x d) = false
late op.check_p = false
late op.look = false
late (op.check_n a) = false
late (act c is d) = false
late (scan zero a) = false
late (scan (suc i) a) = true

abbrev late_seat : Seat → Bool
late_seat closed = false
late_seat idle = false
late_seat (busy o) = late o.stage

-- no other step goes on to such a check
late_take : (x : Ref) → late (after_take x) ≡ false
late_take x = by (is x root)
  where
    by : (b : Bool) → late (cond b op.look op.check_p) ≡ false
    by true = refl
    by false = refl

late_back : (o : Operation) (j : ℕ) → late_seat (goes_back o j) ≡ false
late_back o zero = refl
late_back o (suc j) = refl

late_picked : (S : Tree) (o : Operation) (j keys : ℕ) (s : picks.Sight) (z : Seat) → picked S o j keys s ≡ Some z → late_seat z ≡ false
late_picked S o j keys picks.stale z e = absurd (none_some e)
late_picked S o j keys picks.back z e = ap late_seat (sym (some_inj (goes_back o j) z e)) ∙ late_back o j
late_picked S o j keys (picks.onward y d) z e = ap late_seat (sym (some_inj (with o op.by_key o.held (op.take y d)) z e))
late_picked S o j keys (picks.aside y d) z e = ap late_seat (sym (some_inj (with o (op.down j keys) o.held (op.take y d)) z e))
late_picked S o j keys (picks.got l) z e = ap late_seat (sym (some_inj (with o o.mode o.held (scan 0 (pair_at S l))) z e))

-- the step before a check behind the first
scanned : {N : Numbers} {σ τ : State} {o : Operation} (z : Seat) (r : Outcome) (u : Operation) (i : ℕ) (a : Answer) → Row N σ τ o z r → z ≡ busy u → u.task ≡ op.next → u.stage ≡ scan (suc i) a → (o.task ≡ op.next) × Scanned σ τ o u i a
scanned {N = N} {σ = σ} {τ = τ} {o = o} z r u i a w e t q = row z r w e
  where
    not : {P : Type 0} (y : Seat) → late_seat y ≡ false → y ≡ busy u → P
    not y f h = true_false (late_seat y) (ap late_seat h ∙ ap late q) f

    restarts : {P : Type 0} {c : Cause} {x : Ref} {d : ℕ} (y : Seat) (p : Outcome) → Restarts σ τ o c x d y p → y ≡ busy u → P
    restarts y p k h = not y (ap late_seat k.seat) h

    ends : {P : Type 0} {f : Ref → Meaning} {hs : List Hold} {x : Answer} (y : Seat) (p : Outcome) → Ends f hs τ x y p → y ≡ busy u → P
    ends y p k h = not y (ap late_seat k.seat) h

    follows : {P : Type 0} {c : Course} {f : Ref → Meaning} {hs : List Hold} {d : Option Drawn} (is : List Item) (y : Seat) (p : Outcome) → Follows o τ c f hs d is y p → y ≡ busy u → P
    follows _ _ _ (Follows.more k) h = not _ refl h
    follows _ y p (Follows.over k) h = ends y p k h

    row : (y : Seat) (p : Outcome) → Row N σ τ o y p → y ≡ busy u → (o.task ≡ op.next) × Scanned σ τ o u i a
    row _ _ (Row.takes x d g t s w) h = not _ (late_take x) h
    row y p (Row.takes_not x d e g t s) h = restarts y p s h
    row _ _ (Row.checks_p p g e t s w) h = not _ refl h
    row y p (Row.checks_p_not x e g q t s) h = restarts y p s h
    row _ _ (Row.looks_on hs n y e g t h q s w) k = not _ refl k
    row _ _ (Row.looks_decides hs n k g f h x s w) v = let y : o.task ≡ op.next = cc in true_false (is_next o.task) (ap is_next y) f
    row y p (Row.looks_stale hs n g t h q s) k = restarts y p s k
    row y p (Row.checks_n a hs n g h q s e) k = ends y p e k
    row y p (Row.checks_n_not a hs n e g h q s) k = restarts y p s k
    row y _ (Row.picks_on n j keys s g t h q k w) v = not y (late_picked σ.tree o j keys s y q) v
    row y p (Row.picks_stale n j keys g t h s) k = restarts y p s k
    row _ _ (Row.scans j b h g x f l s w) k =
        let y : scan (suc j) b ≡ scan (suc i) a = cc in
        let m : j ≡ i = cc in
        let n : b ≡ a = cc in
        (cc, record { passed = record { entry = h; stage = cc; there = cc; passed = f }; held = cc; key = cc; words = w })
    row y p (Row.scans_last i a h g q t l s e) k = ends y p e k
    row y p (Row.scans_not i a h e g q t s) k = restarts y p s k
    row y p (Row.acts c a rest g g' f hs e d w) k = follows rest y p w k
    row y p (Row.acts_not c a is g e x d q t s) k = restarts y p s k
    row y p (Row.no_room c is g q e t h k s) v = ends y p s v

-- no item of a course checks
item_not : {N : Numbers} {σ τ : State} {o : Operation} {c : Course} {x : Item} {d d' : Option Drawn} {f : Ref → Meaning} {hs : List Hold} {P : Type 0} (w : Does N σ τ o c x d f hs d') (a : Answer) → item_names w ≡ first_check a → P
item_not (Does.locks_p p n e l q) a h = no_way cc
item_not (Does.locks_n hs n e l q) a h = no_way cc
item_not (Does.locks_m hs n e t l q) a h = no_way cc
item_not (Does.draws_leaf hs n v i ls e b q d k r f y) a h = no_way cc
item_not (Does.draws_both hs n v i j kind filled ls ns e b q d k r t u y x f w) a h = no_way cc
item_not (Does.inserts v i hs n e w) a h = no_way cc
item_not (Does.splits hs n e w) a h = no_way cc
item_not (Does.grows v i p n e w) a h = no_way cc
item_not (Does.cuts hs n e w b d) a h = no_way cc
item_not (Does.misses p n e w) a h = no_way cc
item_not (Does.removes hs n e w) a h = no_way cc
item_not (Does.joins v l b p n m e k w x y) a h = no_way cc
item_not (Does.collapses x p n ms e w) a h = no_way cc
item_not (Does.unlocks hs x p e q) a h = no_way cc
item_not (Does.unlocks_gone hs x e q) a h = no_way cc

-- the step that answers after its last check
last_check : {N : Numbers} {σ τ : State} {o : Operation} {z : Seat} {r : Outcome} (a : Answer) (w : Row N σ τ o z r) → row_names w ≡ first_check a → (i : ℕ) × Passed σ o i a × (length o.held ≤ suc i)
last_check a (Row.takes x d g t s w) f = no_way cc
last_check a (Row.takes_not x d e g t s) f = no_way cc
last_check a (Row.checks_p p g e t s w) f = no_way cc
last_check a (Row.checks_p_not p e g q t s) f = no_way cc
last_check a (Row.looks_on hs n y e g t h q s w) f = no_way cc
last_check a (Row.looks_decides hs n k g t h q s w) f = no_way cc
last_check a (Row.looks_stale hs n g t h q s) f = no_way cc
last_check a (Row.checks_n b hs n g h q s e) f = no_way cc
last_check a (Row.checks_n_not b hs n e g h q s) f = no_way cc
last_check a (Row.picks_on n j keys s g t h q k w) f = no_way cc
last_check a (Row.picks_stale n j keys g t h s) f = no_way cc
last_check a (Row.scans i b h g q t l s w) f = no_way cc
last_check a (Row.scans_last i b h g q t l s e) f = let x : b ≡ a = cc in (i, record { entry = h; stage = g ∙ ap (scan i) x; there = q; passed = t }, l)
last_check a (Row.scans_not i b h e g q t s) f = no_way cc
last_check a (Row.acts c b is g g' k hs e d w) f = item_not d a f
last_check a (Row.acts_not c b is g e x d q t s) f = no_way cc
last_check a (Row.no_room c is g q e t h k s) f = no_way cc

-- the maps up to n, and m behind it
later : (ℕ → List ℕ → Option ℕ) → ℕ → (List ℕ → Option ℕ) → ℕ → List ℕ → Option ℕ
later f n m t = cond (leb t n) (f t) m

later_old : (f : ℕ → List ℕ → Option ℕ) (n : ℕ) (m : List ℕ → Option ℕ) (t : ℕ) → t ≤ n → later f n m t ≡ f t
unfolding later
later_old f n m t l = ap (λ (b : Bool). cond b (f t) m) (le-leb t n l)

later_new : (f : ℕ → List ℕ → Option ℕ) (n : ℕ) (m : List ℕ → Option ℕ) → later f n m (suc n) ≡ m
unfolding later
later_new f n m = ap (λ (b : Bool). cond b (f (suc n)) m) (lt-leb (suc n) n (omega arith))

-- all that a map has are the bytes of accepted keys
abbrev OfKeys : {K : Type 0} → (K → Type 0) → (K → List ℕ) → (List ℕ → Option ℕ) → Type 0
OfKeys accepts bytes m = (j : List ℕ) (v : ℕ) → m j ≡ Some v → KeyOf accepts bytes j

-- a map over keys
abbrev keyed : {K : Type 0} → (K → List ℕ) → (List ℕ → Option ℕ) → map.Map K
keyed bytes m k = m (bytes k)

module _ {K : Type 0} {accepts : K → Type 0} {bytes : K → List ℕ} where
  -- a map that is fed by accepted keys stays one of accepted keys
  fed_keys : (m n : List ℕ → Option ℕ) (t : Task) (k : List ℕ) (a : Answer) → FedBytes m n t k a → KeyOf accepts bytes k → OfKeys accepts bytes m → OfKeys accepts bytes n
  fed_keys m n _ _ _ (FedBytes.finds k v e s) o b j u q = b j u (sym (s j) ∙ q)
  fed_keys m n _ _ _ (FedBytes.finds_not k e s) o b j u q = b j u (sym (s j) ∙ q)
  fed_keys m n _ _ _ (FedBytes.adds k v e p) o b j u q = elim (List-discrete ℕ_discrete j k) [
    | yes x ↦ (o.0, o.1, o.2 ∙ sym x)
    | no x ↦ b j u (sym (p.elsewhere j x) ∙ q)
  ]
  fed_keys m n _ _ _ (FedBytes.adds_not k v w e s) o b j u q = b j u (sym (s j) ∙ q)
  fed_keys m n _ _ _ (FedBytes.adds_nowhere k v p s) o b j u q = b j u (sym (s j) ∙ q)
  fed_keys m n _ _ _ (FedBytes.removes k v e p) o b j u q = elim (List-discrete ℕ_discrete j k) [
    | yes x ↦ (o.0, o.1, o.2 ∙ sym x)
    | no x ↦ b j u (sym (p.elsewhere j x) ∙ q)
  ]
  fed_keys m n _ _ _ (FedBytes.removes_not k e s) o b j u q = b j u (sym (s j) ∙ q)
  fed_keys m n _ _ _ (FedBytes.comes k a e s) o b j u q = b j u (sym (s j) ∙ q)

  module _ {before : K → K → Type 0} {longest : ℕ} (c : coding.Lawful accepts before bytes longest) (m n : List ℕ → Option ℕ) (b : OfKeys accepts bytes m) (key : K) (a : accepts key) where
    -- what is fed by bytes is fed by keys
    put_over : (k : List ℕ) (o : Option ℕ) → bytes key ≡ k → Put m n k o → map.Put accepts (keyed bytes m) (keyed bytes n) key o
    put_over k o e p = record { there = ap n e ∙ p.at; elsewhere = λ j x d. p.elsewhere (bytes j) (λ q. d (c.same j key x a (q ∙ sym e))) }

    -- the first pair, by its key
    first_over : (k i : List ℕ) (v : ℕ) → bytes key ≡ k → FirstFrom (λ j u. m j ≡ Some u) k i v → (o : KeyOf accepts bytes i) → map.First accepts before (keyed bytes m) key o.0 v
    first_over k i v e f (j, x, q) = record {
      accepted = x;
      held = ap m q ∙ f.has;
      from = λ d. f.from (subst₂ First q e (c.first j key x a d));
      least = λ y u z h d r. f.least (bytes y) u h (λ w. d (c.comes y key z a (subst (First (bytes y)) (sym e) w))) (subst (First (bytes y)) q (c.first y j z x r));
    }

    next_over : (k : List ℕ) (x : Answer) → bytes key ≡ k → NextSaid (λ j u. m j ≡ Some u) k x → map.Same accepts (keyed bytes m) (keyed bytes n) → map.Fed accepts before bytes (keyed bytes m) (keyed bytes n) op.next key x
    next_over k _ e (NextSaid.comes i v f) s =
        let o = b i v f.has in
        subst (λ (l : List ℕ). map.Fed accepts before bytes (keyed bytes m) (keyed bytes n) op.next key (op.first_is l v)) o.2 (map.Fed.comes key o.0 v (first_over k i v e f o) s)
    next_over k _ e (NextSaid.comes_not f) s = map.Fed.comes_not key (λ i u y h. c.comes i key y a (subst (First (bytes i)) (sym e) (f (bytes i) u h))) s

    fed_over : (t : Task) (k : List ℕ) (x : Answer) → FedBytes m n t k x → bytes key ≡ k → map.Fed accepts before bytes (keyed bytes m) (keyed bytes n) t key x
    fed_over _ _ _ (FedBytes.finds k v h s) e = map.Fed.finds key v (ap m e ∙ h) (λ j _. s (bytes j))
    fed_over _ _ _ (FedBytes.finds_not k h s) e = map.Fed.finds_not key (ap m e ∙ h) (λ j _. s (bytes j))
    fed_over _ _ _ (FedBytes.adds k v h p) e = map.Fed.adds key v (ap m e ∙ h) (put_over k (Some v) e p)
    fed_over _ _ _ (FedBytes.adds_not k v w h s) e = map.Fed.adds_not key v w (ap m e ∙ h) (λ j _. s (bytes j))
    fed_over _ _ _ (FedBytes.adds_nowhere k v p s) e = map.Fed.adds_nowhere key v p (λ j _. s (bytes j))
    fed_over _ _ _ (FedBytes.removes k v h p) e = map.Fed.removes key v (ap m e ∙ h) (put_over k None e p)
    fed_over _ _ _ (FedBytes.removes_not k h s) e = map.Fed.removes_not key (ap m e ∙ h) (λ j _. s (bytes j))
    fed_over _ _ _ (FedBytes.comes k x h s) e = next_over k x e h (λ j _. s (bytes j))

-- a seat that turns to no later check
turned_not : (σ τ : State) (s : ℕ) (z : Seat) → Turns σ τ s z → late_seat z ≡ false → (u : ℕ) (o : Operation) → τ.seats u ≡ busy o → late o.stage ≡ true → σ.seats u ≡ busy o
turned_not σ τ s z t f u o e l = ⊎_elim (λ q. true_false (late_seat z) (ap late_seat (sym t.there ∙ ap τ.seats (sym q) ∙ e) ∙ l) f) (λ n. sym (t.elsewhere u n) ∙ e) (cases_eq u s)

-- an operation at a check of next is next's
walk_not : {N : Numbers} {Key : List ℕ → Type 0} {σ : State} {g : Ghosts} {s : ℕ} {o : Operation} {P : Type 0} (hs : List Hold) (k : Stage) (i : ℕ) (a : Answer) → Walks N Key σ g s o hs k → k ≡ scan i a → P
walk_not _ _ i a Walks.starts e = no_way cc
walk_not _ _ i a (Walks.to_take hs p y d x z w) e = no_way cc
walk_not _ _ i a (Walks.to_check_p hs p n x z w) e = no_way cc
walk_not _ _ i a (Walks.to_look hs n x z) e = no_way cc
walk_not _ _ i a (Walks.to_check_n hs n b x z w) e = no_way cc
walk_not _ _ i a (Walks.acts c is d x) e = no_way cc

-- one place of a list
same_place : {A : Type 0} (a b x y : List A) (c d : A) → a ++ c ∷ x ≡ b ++ d ∷ y → length x ≡ length y → (c ≡ d) × (x ≡ y)
same_place [] [] x y c d e l = (cc, cc)
same_place [] (f ∷ b) x y c d e l = absurd (omega (arith, ap length e, length-append b (d ∷ y), l))
same_place (f ∷ a) [] x y c d e l = absurd (omega (arith, ap length e, length-append a (c ∷ x), l))
same_place (f ∷ a) (g ∷ b) x y c d e l = same_place a b x y c d (cc) l

-- a step is of one operation
same_step : {K : Type 0} (h : List (Event K)) (t b d : ℕ) (q w : Task) (k j : K) (r o : Outcome) → StepAt h t b q k r → StepAt h t d w j o → b ≡ d
same_step {K} h t b d q w k j r o x y =
    let p = same_place x.later y.later x.earlier y.earlier (record { call = Call.step x.seat; reply = came r }) (record { call = Call.step y.seat; reply = came o }) (sym x.split ∙ y.split) (x.time ∙ sym y.time) in
    let c : Call.step x.seat ≡ Call.step y.seat = ap (λ (e : Event K). e.call) p.0 in
    let i : x.seat ≡ y.seat = cc in
    let f : asked q k b x.sweeps x.restarts ≡ asked w j d y.sweeps y.restarts = sym x.own ∙ ap (told x.earlier) i ∙ ap (λ (l : List (Event K)). told l y.seat) p.1 ∙ y.own in
    cc

-- what a busy seat was asked
record Asked {K : Type 0} (accepts : K → Type 0) (bytes : K → List ℕ) (w : Told K) (o : Operation) : Type 0 where
  task : Task
  key : K
  since : ℕ
  sweeps : ℕ
  restarts : ℕ
  words : w ≡ asked task key since sweeps restarts
  accepted : accepts key
  same_task : o.task ≡ task
  same_key : o.key ≡ bytes key

asked_by : {K : Type 0} (accepts : K → Type 0) (bytes : K → List ℕ) (w : Told K) (z : Seat) (o : Operation) → Agrees accepts bytes w z → z ≡ busy o → Asked accepts bytes w o
asked_by accepts bytes shut z o a e = no_way cc
asked_by accepts bytes free z o a e = no_way cc
asked_by accepts bytes (asked t k b e n) z o a q =
    let x : a.operation ≡ o = cc a.seat in
    record {
      task = t;
      key = k;
      since = b;
      sweeps = e;
      restarts = n;
      words = refl;
      accepted = a.accepted;
      same_task = ap (λ (y : Operation). y.task) (sym x) ∙ a.task;
      same_key = ap (λ (y : Operation). y.key) (sym x) ∙ a.key;
    }

-- one of two, of which none is above n
among : (b : Bool) (n k : ℕ) → k ≤ n → cond b n k ≤ n
among true n k l = omega arith
among false n k l = l

module _ {K : Type 0} {N : Numbers} {accepts : K → Type 0} {bytes : K → List ℕ} where
  pub record MapsOk {σ : State} (r : Run N accepts bytes σ) (g : Good r) : Type 0 where
    pub maps : ℕ → List ℕ → Option ℕ
    pub empty : (k : List ℕ) → maps 0 k ≡ None
    pub each : (t : ℕ) → t < length (history r) → MapStep accepts bytes (maps t) (maps (suc t)) (named r t)
    pub now : Means (maps (length (history r))) σ.tree (ghost g.ghosts)
    -- a next that has passed its first check: what it has in hand was the map's answer then, or a permit will be refused
    pub scanning : (s : ℕ) (o : Operation) (i : ℕ) (a : Answer) → σ.seats s ≡ busy o → o.task ≡ op.next → o.stage ≡ scan (suc i) a
        → NextSaid (λ j v. maps (checked_at r s) j ≡ Some v) o.key a ⊎ Unsound σ o.held (suc i)

  -- the newest first check of a seat is not ahead
  checked_before : {σ : State} (r : Run N accepts bytes σ) (s : ℕ) → checked_at r s ≤ length (history r)
  checked_before (made n) s = omega arith
  checked_before (on r e d) s = let l = among (checks_first s d) (length (history r)) (checked_at r s) (checked_before r s) in omega (arith, l)

  checked_on : {σ τ : State} (r : Run N accepts bytes σ) (c : Call K) (p : Reply) (d : Did N accepts bytes σ τ c p) (s : ℕ) → checked_at (on r (record { call = c; reply = p }) d) s ≤ length (history r)
  checked_on r c p d s = among (checks_first s d) (length (history r)) (checked_at r s) (checked_before r s)

  -- the map after one call more, where f is what is named then
  record Onward {σ : State} {r : Run N accepts bytes σ} {g : Good r} (m : MapsOk r g) (f : ℕ → Option (Feed K)) (τ : State) (h : Ghosts) : Type 0 where
    after : List ℕ → Option ℕ
    here : MapStep accepts bytes (m.maps (length (history r))) after (f (length (history r)))
    before : (t : ℕ) → t < length (history r) → MapStep accepts bytes (m.maps t) (m.maps (suc t)) (f t)
    now : Means after τ.tree (ghost h)

  -- the scans after one call more, where the seats' first checks were at f
  abbrev Scanning : {σ : State} {r : Run N accepts bytes σ} {g : Good r} → MapsOk r g → (ℕ → ℕ) → State → Type 0
  Scanning m f τ = (s : ℕ) (o : Operation) (i : ℕ) (a : Answer) → τ.seats s ≡ busy o → o.task ≡ op.next → o.stage ≡ scan (suc i) a → NextSaid (λ j v. m.maps (f s) j ≡ Some v) o.key a ⊎ Unsound τ o.held (suc i)

  -- the maps after one call more
  maps_on : {σ τ : State} {r : Run N accepts bytes σ} {g : Good r} (m : MapsOk r g) (c : Call K) (p : Reply) (d : Did N accepts bytes σ τ c p) (h : Good (on r (record { call = c; reply = p }) d))
      → Onward m (named (on r (record { call = c; reply = p }) d)) τ h.ghosts → Scanning m (checked_at (on r (record { call = c; reply = p }) d)) τ → MapsOk (on r (record { call = c; reply = p }) d) h
  maps_on {τ = τ} {r = r} m c p d h o s = record {
    maps = later m.maps (length (history r)) o.after;
    empty = λ k. ap (λ (f : List ℕ → Option ℕ). f k) (old 0 (omega arith)) ∙ m.empty k;
    each = λ t l. ⊎_elim (λ e. subst (At n) (sym e) (subst₂ (λ (x y : List ℕ → Option ℕ). MapStep accepts bytes x y (n (length (history r)))) (sym (old (length (history r)) (omega arith))) (sym new) o.here))
        (λ e. subst₂ (λ (x y : List ℕ → Option ℕ). MapStep accepts bytes x y (n t)) (sym (old t (omega (arith, l)))) (sym (old (suc t) (omega (arith, l, e)))) (o.before t (omega (arith, l, e)))) (cases_eq t (length (history r)));
    now = subst (λ (f : List ℕ → Option ℕ). Means f τ.tree (ghost h.ghosts)) (sym new) o.now;
    scanning = λ u x i a b q e. ⊎_elim (λ y. inl (subst (λ (f : List ℕ → Option ℕ). NextSaid (λ j v. f j ≡ Some v) x.key a) (sym (old _ (checked_on r c p d u))) y)) inr (s u x i a b q e);
  }
    where
      n : ℕ → Option (Feed K)
      n = named (on r (record { call = c; reply = p }) d)

      At : (ℕ → Option (Feed K)) → ℕ → Type 0
      At f t = MapStep accepts bytes (later m.maps (length (history r)) o.after t) (later m.maps (length (history r)) o.after (suc t)) (f t)

      old : (t : ℕ) → t ≤ length (history r) → later m.maps (length (history r)) o.after t ≡ m.maps t
      old t l = later_old m.maps (length (history r)) o.after t l

      new : later m.maps (length (history r)) o.after (suc (length (history r))) ≡ o.after
      new = later_new m.maps (length (history r)) o.after

  -- what is held goes by the run alone
  other_good : {σ : State} {r : Run N accepts bytes σ} {g : Good r} (h : Good r) → MapsOk r g → MapsOk r h
  other_good {σ = σ} {g = g} h m = record {
    maps = m.maps;
    empty = m.empty;
    each = m.each;
    now = λ k v. (
      (λ e. let (i, l, x, y) = (m.now k v).0 e in (i, sym (marks (leaf i)) ∙ l, x, y)),
      (λ (i, l, x, y). (m.now k v).1 (i, marks (leaf i) ∙ l, x, y)),
    );
    scanning = m.scanning;
  }
    where
      marks : (x : Ref) → status_of (g.ghosts.mark x) ≡ status_of (h.ghosts.mark x)
      marks x = ap status_of (g.marks x ∙ sym (h.marks x))

  -- nothing is held at first
  made_ok : {σ : State} (n : New N σ) (g : Good {K = K} {N = N} {accepts = accepts} {bytes = bytes} (made n)) → MapsOk (made n) g
  made_ok {σ} n g = record {
    maps = λ t k. None;
    empty = λ k. refl;
    each = λ t l. absurd (omega (arith, l));
    now = λ k v. ((λ e. absurd (none_some e)), (λ (i, l, x, y). let (p, b, q, c) = g.inv.tree.parent (leaf i) l (λ e. no_way cc) in absurd (none_some (sym (n.children p b) ∙ c))));
    scanning = λ s o i a e t q. let x = n.made.seats s in no_way cc;
  }

  module _ (law : Lawful N (KeyOf accepts bytes)) where
    module _ {σ : State} (τ : State) {r : Run N accepts bytes σ} {g : Good r} (m : MapsOk r g) where
      -- nothing is named at the end
      unnamed : named r (length (history r)) ≡ None
      unnamed = (names_ok law r).future (length (history r)) (omega arith)

      end_same : MapStep accepts bytes (m.maps (length (history r))) (m.maps (length (history r))) (named r (length (history r)))
      end_same = subst (MapStep accepts bytes (m.maps (length (history r))) (m.maps (length (history r)))) (sym unnamed) (λ k. refl)

      -- a call that names nothing
      quiet_on : (h : Ghosts) → HoldsSame σ τ g.ghosts h → Onward m (named r) τ h
      quiet_on h s = record { after = m.maps (length (history r)); here = end_same; before = m.each; now = same_means (m.maps (length (history r))) σ g.ghosts m.now τ h s }

      -- a call that leaves scans and words
      calm_scans : ((s : ℕ) (o : Operation) → τ.seats s ≡ busy o → late o.stage ≡ true → σ.seats s ≡ busy o) → WordsAre σ.words τ → Scanning m (checked_at r) τ
      calm_scans f w s o i a e t q = ⊎_elim inl (λ u. inr (unsound_stays σ τ o.held (suc i) (λ h _ k. subst (λ (v : Meaning). Sound v h.grip) (w h.at) k) u)) (m.scanning s o i a (f s o e (ap late q)) t q)

      module _ (s : ℕ) (o : Operation) (z : Seat) (q : Outcome) (e : σ.seats s ≡ busy o) (t : Turns σ τ s z) (w : Row N σ τ o z q) where
        -- when the seat's newest first check was
        abbrev first : ℕ
        first = cond (cond (eqb s s) (is_first_check o.stage) false) (length (history r)) (checked_at r s)

        first_at : (b : Bool) → is_first_check o.stage ≡ b → first ≡ cond b (length (history r)) (checked_at r s)
        first_at b f = ap (λ (x : Bool). cond (cond x (is_first_check o.stage) false) (length (history r)) (checked_at r s)) (eq-eqb s s refl) ∙ ap (λ (x : Bool). cond x (length (history r)) (checked_at r s)) f

        ask : Asked accepts bytes (told (history r) s) o
        ask = asked_by accepts bytes (told (history r) s) (σ.seats s) o ((histories_tell_lem accepts bytes N σ r).seats s) e

        -- what next has in hand after a passed check
        check_on : (i : ℕ) (a : Answer) → Passed σ o i a → o.task ≡ op.next → NextSaid (λ j v. m.maps first j ≡ Some v) o.key a ⊎ Unsound σ o.held (suc i)
        check_on zero a p n = ⊎_elim
            (λ y. inl (subst (λ (x : ℕ). NextSaid (λ j v. m.maps x j ≡ Some v) o.key a) (sym (first_at true (ap is_first_check p.stage))) (next_same (λ k v. (m.now k v).1) (λ k v. (m.now k v).0) o.key a y)))
            (λ u. inr (scan_next σ o.held 0 p.entry u p.there (sound_by σ p.entry p.passed)))
            (scan_begins law g.inv s o e n a p.stage)
        check_on (suc i) a p n = ⊎_elim
            (λ y. inl (subst (λ (x : ℕ). NextSaid (λ j v. m.maps x j ≡ Some v) o.key a) (sym (first_at false (ap is_first_check p.stage))) y))
            (λ u. inr (scan_next σ o.held (suc i) p.entry u p.there (sound_by σ p.entry p.passed)))
            (m.scanning s o i a e n p.stage)

        -- the first check of an operation that has not answered is not named
        first_unnamed : (i : ℕ) (a : Answer) → Passed σ o i a → named r first ≡ None
        first_unnamed zero a p = ap (named r) (first_at true (ap is_first_check p.stage)) ∙ unnamed
        first_unnamed (suc i) a p = ap (named r) (first_at false (ap is_first_check p.stage)) ∙ by (named r (checked_at r s)) refl
          where
            by : (x : Option (Feed K)) → named r (checked_at r s) ≡ x → x ≡ None
            by None f = refl
            by (Some f) x =
                let c = (names_ok law r).checked s o i a ask.task ask.key ask.since ask.sweeps ask.restarts e p.stage ask.words in
                let d = (names_ok law r).own (checked_at r s) f x in
                let n = (names_ok law r).opened s o ask.task ask.key ask.since ask.sweeps ask.restarts e ask.words in
                absurd (subst (λ (y : Stage). NamedOpen r ask.since ask.task ask.key (decided_on y)) p.stage n (checked_at r s) f x (same_step (history r) (checked_at r s) _ _ _ _ _ _ _ _ d.1 c))

        -- only next scans
        scan_task : (i : ℕ) (a : Answer) → o.stage ≡ scan i a → o.task ≡ op.next
        scan_task i a f = ⊎_elim (λ x. walk_not o.held o.stage i a x.2 f) (λ x. x.0) (g.inv.seats s o e).doing

        -- what its seat was asked is fed
        fed_is : (a : Answer) → feed (told (history r) s) a ≡ Some (record { since = ask.since; task = ask.task; key = ask.key; answer = a })
        fed_is a = ap (λ (x : Told K). feed x a) ask.words

        -- the answer of next was the map's at its first check
        first_said : (i : ℕ) (a : Answer) → Passed σ o i a → length o.held ≤ suc i → NextSaid (λ j v. m.maps first j ≡ Some v) o.key a
        first_said i a p l = ⊎_elim (λ y. y) (λ (j, h, d, n, y). absurd (scan_over σ o.held (j, h, omega (arith, l, d), n, y))) (check_on i a p (scan_task i a p.stage))

        -- the call of the first check is named
        first_on : (a : Answer) → o.task ≡ op.next → NextSaid (λ j v. m.maps first j ≡ Some v) o.key a → named r first ≡ None
            → (u : ℕ) (n : List ℕ → Option ℕ) → MapStep accepts bytes (m.maps u) n (named r u) → MapStep accepts bytes (m.maps u) n (cond (eqb u first) (feed (told (history r) s) a) (named r u))
        first_on a v d c u n k = by (eqb u first) refl
          where
            by : (b : Bool) → eqb u first ≡ b → MapStep accepts bytes (m.maps u) n (cond b (feed (told (history r) s) a) (named r u))
            by false f = k
            by true f =
                let y = eqb-true u first f in
                let l : MapStep accepts bytes (m.maps u) n None = subst (MapStep accepts bytes (m.maps u) n) (ap (named r) y ∙ c) k in
                let x : NextSaid (λ j v. m.maps u j ≡ Some v) (bytes ask.key) a = subst₂ (λ (i : ℕ) (b : List ℕ). NextSaid (λ j v. m.maps i j ≡ Some v) b a) (sym y) ask.same_key d in
                subst (MapStep accepts bytes (m.maps u) n) (sym (fed_is a)) (ask.accepted, subst (λ (b : Task). FedBytes (m.maps u) n b (bytes ask.key) a) (sym v ∙ ask.same_task) (FedBytes.comes (bytes ask.key) a x l))

        -- the map after a step, by what it names
        step_on : (h : Ghosts) (n : Names) → row_names w ≡ n → Effect σ τ g.ghosts h o n → Onward m (λ u. named_by u (length (history r)) first (told (history r) s) n (named r u)) τ h
        step_on h nothing f k = quiet_on h k
        step_on h (itself a) f k =
            let x = acted_fed (m.maps (length (history r))) σ g.ghosts m.now τ h o.task o.key a k in
            record {
              after = x.0;
              here = subst (MapStep accepts bytes (m.maps (length (history r))) x.0) (sym (ap (λ (b : Bool). cond b (feed (told (history r) s) a) (named r (length (history r)))) (eq-eqb (length (history r)) (length (history r)) refl) ∙ fed_is a))
                  (ask.accepted, subst₂ (λ (v : Task) (l : List ℕ). FedBytes (m.maps (length (history r))) x.0 v l a) ask.same_task ask.same_key x.2);
              before = λ u l. subst (MapStep accepts bytes (m.maps u) (m.maps (suc u))) (sym (ap (λ (b : Bool). cond b (feed (told (history r) s) a) (named r u)) (ne_eqb u (length (history r)) (λ y. omega (arith, l, y))))) (m.each u l);
              now = x.1;
            }
        step_on h (first_check a) f k =
            let x = last_check a w f in
            let d = first_said x.0 a x.1 x.2 in
            let c = first_unnamed x.0 a x.1 in
            let n = scan_task x.0 a x.1.stage in
            record {
              after = m.maps (length (history r));
              here = first_on a n d c (length (history r)) (m.maps (length (history r))) end_same;
              before = λ u l. first_on a n d c u (m.maps (suc u)) (m.each u l);
              now = same_means (m.maps (length (history r))) σ g.ghosts m.now τ h k;
            }

        -- what another seat holds
        others_sound : (u : ℕ) (x : Operation) → σ.seats u ≡ busy x → (h : Hold) → In h x.held → SoundAt τ h → SoundAt σ h
        others_sound u x b h n = rely.lasting (σ.words h.at) (τ.words h.at) h.grip (rely.later_run (row_words st w) h.at) (rely.held_old (words_of σ) g.inv.words u h (seat_below g.inv u x b) (entry_in g.inv u x b h n))
          where
            st : Step N (KeyOf accepts bytes) σ τ g.ghosts s o z q
            st = record { lawful = law; inv = g.inv; seat = seat_below g.inv s o e; was = e; turns = t }

        -- the scans after a step
        step_scans : Scanning m (λ u. cond (cond (eqb s u) (is_first_check o.stage) false) (length (history r)) (checked_at r u)) τ
        step_scans u x i a b c f = ⊎_elim own other (cases_eq s u)
          where
            Goal : Type 0
            Goal = NextSaid (λ j v. m.maps (cond (cond (eqb s u) (is_first_check o.stage) false) (length (history r)) (checked_at r u)) j ≡ Some v) x.key a ⊎ Unsound τ x.held (suc i)

            own : s ≡ u → Goal
            own y =
                let d = scanned z q x i a w (sym t.there ∙ ap τ.seats y ∙ b) c f in
                let v : first ≡ cond (cond (eqb s u) (is_first_check o.stage) false) (length (history r)) (checked_at r u) = ap (λ (k : ℕ). cond (cond (eqb s k) (is_first_check o.stage) false) (length (history r)) (checked_at r k)) y in
                ⊎_elim (λ n. inl (subst₂ (λ (l : ℕ) (k : List ℕ). NextSaid (λ j v. m.maps l j ≡ Some v) k a) v (sym d.1.key) n))
                (λ n. inr (unsound_stays σ τ x.held (suc i) (λ h _ k. subst (λ (p : Meaning). Sound p h.grip) (d.1.words h.at) k) (subst (λ (l : List Hold). Unsound σ l (suc i)) (sym d.1.held) n)))
                (check_on i a d.1.passed d.0)

            other : (s ≡ u → ⊥) → Goal
            other n =
                let y = sym (t.elsewhere u (λ v. n (sym v))) ∙ b in
                let v : checked_at r u ≡ cond (cond (eqb s u) (is_first_check o.stage) false) (length (history r)) (checked_at r u) = ap (λ (d : Bool). cond (cond d (is_first_check o.stage) false) (length (history r)) (checked_at r u)) (sym (ne_eqb s u n)) in
                ⊎_elim (λ d. inl (subst (λ (l : ℕ). NextSaid (λ j v. m.maps l j ≡ Some v) x.key a) v d)) (λ d. inr (unsound_stays σ τ x.held (suc i) (others_sound u x y) d)) (m.scanning u x i a y c f)

    -- the maps after any call
    advance_ok : {σ τ : State} {r : Run N accepts bytes σ} {g : Good r} (m : MapsOk r g) (c : Call K) (p : Reply) (d : Did N accepts bytes σ τ c p) (v : Advance g (record { call = c; reply = p }) d) → MapsOk (on r (record { call = c; reply = p }) d) v.after
    advance_ok {σ} {τ} m c p (Did.refuses c' e f q) v = maps_on m c p (Did.refuses c e f q) v.after (quiet_on τ m v.after.ghosts v.effect)
        (calm_scans τ m (λ s o b _. subst (λ (y : State). y.seats s ≡ busy o) q b) (λ x. ap (λ (y : State). y.words x) q))
    advance_ok {σ} {τ} m _ _ (Did.opens s a t k) v = maps_on m _ _ (Did.opens s a t k) v.after (quiet_on τ m v.after.ghosts v.effect) (calm_scans τ m (turned_not σ τ s idle t refl) k.words)
    advance_ok {σ} {τ} m _ _ (Did.closes s a t k) v = maps_on m _ _ (Did.closes s a t k) v.after (quiet_on τ m v.after.ghosts v.effect) (calm_scans τ m (turned_not σ τ s closed t refl) k.words)
    advance_ok {σ} {τ} m _ _ (Did.begins s t k a b w x) v = maps_on m _ _ (Did.begins s t k a b w x) v.after (quiet_on τ m v.after.ghosts v.effect) (calm_scans τ m (turned_not σ τ s (started t (bytes k) σ.epoch) w refl) x.words)
    advance_ok {σ} {τ} m _ _ (Did.steps s o z q a e t w) v = maps_on m _ _ (Did.steps s o z q a e t w) v.after (step_on τ m s o z q e t w v.after.ghosts (row_names w) refl v.effect) (step_scans τ m s o z q e t w)
    advance_ok {σ} {τ} m _ _ (Did.sweeps n a w) v = maps_on m _ _ (Did.sweeps n a w) v.after (quiet_on τ m v.after.ghosts v.effect) (calm_scans τ m (λ s o b _. sym (w.seats s) ∙ b) w.words)

    pub maps_ok : {σ : State} (r : Run N accepts bytes σ) → MapsOk r (good_run law r)
    maps_ok (made n) = made_ok n (good_run law (made n))
    maps_ok (on r e d) = other_good (good_run law (on r e d)) (advance_ok (maps_ok r) e.call e.reply d (advance law (good_run law r) e d))

    module _ {before : K → K → Type 0} {longest : ℕ} (c : coding.Lawful accepts before bytes longest) {σ : State} (r : Run N accepts bytes σ) (m : MapsOk r (good_run law r)) where
      -- the map before the call after t calls, replayed
      abbrev Replayed : ℕ → Type 0
      Replayed t = OfKeys accepts bytes (m.maps t) × Replay N accepts before bytes r t (keyed bytes (m.maps t))

      replay_on : (t : ℕ) → Replayed t → (f : Option (Feed K)) → named r t ≡ f → MapStep accepts bytes (m.maps t) (m.maps (suc t)) f → Replayed (suc t)
      replay_on t b None e s = (
        (λ j v q. b.0 j v (sym (s j) ∙ q)),
        subst (λ (n : map.Map K). Replay N accepts before bytes r (suc t) n) (sym (fun_ext (λ k. s (bytes k)))) (Replay.passed t (keyed bytes (m.maps t)) b.1 e),
      )
      replay_on t b (Some f) e s = (
        fed_keys (m.maps t) (m.maps (suc t)) f.task (bytes f.key) f.answer s.1 (f.key, s.0, refl) b.0,
        Replay.fed t (keyed bytes (m.maps t)) (keyed bytes (m.maps (suc t))) f b.1 e (fed_over c (m.maps t) (m.maps (suc t)) b.0 f.key s.0 f.task (bytes f.key) f.answer s.1 refl),
      )

      replay_to : (t : ℕ) → t ≤ length (history r) → Replayed t
      replay_to zero l = ((λ j v e. absurd (none_some (sym (m.empty j) ∙ e))), Replay.start (keyed bytes (m.maps 0)) (λ k a. m.empty (bytes k)))
      replay_to (suc t) l = replay_on t (replay_to t (omega (arith, l))) (named r t) refl (m.each t l)

    -- the replay of the run, over keys
    pub replay : {before : K → K → Type 0} {longest : ℕ} → coding.Lawful accepts before bytes longest → {σ : State} (r : Run N accepts bytes σ) → (m : map.Map K) × Replay N accepts before bytes r (length (history r)) m
    replay c r = let m = maps_ok r in (keyed bytes (m.maps (length (history r))), (replay_to c r m (length (history r)) (omega arith)).1)
