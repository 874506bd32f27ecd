-- A run of the index is a run of slots.
use Rattle.std.proofs.Common.{◌≡◌, ℕ, zero, suc, ◌+◌, ◌-◌, ◌<◌, ◌≤◌, Bool, true, false, cond, ◌||◌, eqb, ltb, leb, ◌⊎◌, List, [], ◌∷◌, ◌++◌, length, Some, None, Option, sym, refl, ap, ◌∙◌, subst, inl, inr, ⊎_elim, append-nil, arith, ltb-false, ltb-true, eq-eqb, ne_eqb, eqb-true}
use native.Mathlib.Decide.{ℕ_discrete}
use Rattle.std.proofs.lemmas.Bool.Decides.{nat_tests as tells}
use borrow.Author.Tests.{eqb-false, lt-leb}
use Rattle.latches.specs.declared.word.Meaning.{Meaning}
use Rattle.terms.specs.Limits.{seat_count}
use Rattle.terms.specs.declared.Cause.{Cause}
use Rattle.model.specs.Refs.{Ref, leaf, node, root, is, pool, room, Kind, four, sixteen, forty_eight, whole}
use Rattle.model.specs.Records.{Record}
use Rattle.model.specs.Holds.{Hold}
use Rattle.model.specs.Tree.{Tree, fan}
use Rattle.model.specs.Sights as sight
use Rattle.model.specs.Sights.{Seen}
use Rattle.model_next.specs.Look as picks
use Rattle.model.specs.Operations as op
use Rattle.model.specs.Operations.{Operation, Stage, Course, Item, items, Seat, closed, idle, busy, Outcome}
use Rattle.model_slots.specs.Slots as slots
use Rattle.model_slots.specs.Slots.{count, bit, both, not, tail, refs, stamped, keep}
use Rattle.model_slots.specs.Laws.{mark, is_linked}
use Rattle.machine.specs.State.{State, Numbers, Still, with, Restarts}
use Rattle.machine.specs.Items.{Pooled, Plain, Does}
use Rattle.machine.specs.Choices.{key_byte, left, collapsing as collapsing', decided, begun}
use Rattle.machine.specs.Steps.{after_take, pair_at, goes_back, picked, Refuses, Row, Follows, NoRoom}
use Rattle.machine.specs.Calls.{Call, Reply, Fits, Turns, Swept, due, Did, begun_at}
use Rattle.machine.specs.Runs.{Event, rising, first_slot, made, on}
use Rattle.runs.specs.Runs.{New, Run}
use Rattle.runs.specs.Happened.{item_events, after_item, no_room_events, row_events, happened, events, in_pool}
use Rattle.invariant.specs.Ghosts.{Ghosts}
use Rattle.invariant.specs.Courses.{Solo, inserting, splitting, removing, Pair, growing, missing, collapsing, Acts}
use Rattle.invariant.specs.Invariant.{Inv}
use Rattle.invariant.proofs.Setting.{no_way}
use Rattle.invariant.proofs.Locking.{acting}
use Rattle.model_slots.proofs.Lists.{is_tells, clear_same}
use Rattle.model_slots.proofs.Keeps.{good}

-- what an operation has drawn, the last first
abbrev pub drawn_of : Option op.Drawn → List Ref
drawn_of None = []
drawn_of (Some d) = both d.node_slot
  where
    both : Option Ref → List Ref
    both None = leaf d.leaf_slot ∷ []
    both (Some y) = y ∷ leaf d.leaf_slot ∷ []

abbrev pub drawn_in : Stage → List Ref
drawn_in (op.take x d) = []
drawn_in op.check_p = []
drawn_in op.look = []
drawn_in (op.check_n a) = []
drawn_in (op.act c is d) = drawn_of d
drawn_in (op.scan i a) = []

abbrev pub drawn_by : Seat → List Ref
drawn_by closed = []
drawn_by idle = []
drawn_by (busy o) = drawn_in o.stage

-- the slots' state is that of the index
pub record Agree (ς : slots.State) (σ : State) : Type 0 where
  pub spare : (p : ℕ) → ς.spare p ≡ σ.spare p
  pub retired : ς.retired ≡ σ.retired
  pub drawn : (s : ℕ) → ς.drawn s ≡ drawn_by (σ.seats s)
  pub epoch : ς.epoch ≡ σ.epoch
  pub begun : (s : ℕ) → ς.begun s ≡ begun_at (σ.seats s)

pub record SlotsOk {K : Type 0} {N : Numbers} {accepts : K → Type 0} {bytes : K → List ℕ} {σ : State} (r : Run N accepts bytes σ) : Type 0 where
  pub state : slots.State
  pub run : slots.Run root (in_pool N) state
  pub tells : slots.history run ≡ events r
  pub agree : Agree state σ

-- what an item unlinks
abbrev pub item_old : {N : Numbers} {σ τ : State} {o : Operation} {c : Course} {a : Item} {d d' : Option op.Drawn} {f : Ref → Meaning} {hs : List Hold} → Does N σ τ o c a d f hs d' → List Ref
item_old (Does.locks_p p n e l q) = []
item_old (Does.locks_n hs n e l q) = []
item_old (Does.locks_m hs n e t l q) = []
item_old (Does.draws_leaf hs n v i ls e a q b k r f y) = []
item_old (Does.draws_both hs n v i j kind filled ls ns e a q b k r t u y x f w) = []
item_old (Does.inserts v i hs n e w) = []
item_old (Does.splits hs n e w) = []
item_old (Does.grows v i p n e w) = n.at ∷ []
item_old (Does.cuts hs n e w a b) = []
item_old (Does.misses p n e w) = []
item_old (Does.removes {l = l} hs n e w) = leaf l ∷ []
item_old (Does.joins v l b p n m e k w x y) = []
item_old (Does.collapses {l = l} x p n ms e w) = leaf l ∷ n.at ∷ []
item_old (Does.unlocks hs x p e q) = []
item_old (Does.unlocks_gone hs x e q) = []

-- what a step unlinks was linked, each once
abbrev pub Unlinks : Ghosts → {N : Numbers} {σ τ : State} {o : Operation} {z : Seat} {r : Outcome} → Row N σ τ o z r → Type 0
Unlinks g (Row.takes x d e t s w) = Unit {0}
Unlinks g (Row.takes_not x d e t s w) = Unit {0}
Unlinks g (Row.checks_p p e t s q w) = Unit {0}
Unlinks g (Row.checks_p_not p e t q s w) = Unit {0}
Unlinks g (Row.looks_on hs n y e t h q s k w) = Unit {0}
Unlinks g (Row.looks_decides hs n k e t h q s w) = Unit {0}
Unlinks g (Row.looks_stale hs n e t h q s) = Unit {0}
Unlinks g (Row.checks_n a hs n e h q s k) = Unit {0}
Unlinks g (Row.checks_n_not a hs n e h q s k) = Unit {0}
Unlinks g (Row.picks_on n j keys s e t h q k w) = Unit {0}
Unlinks g (Row.picks_stale n j keys e t h s) = Unit {0}
Unlinks g (Row.scans i a h e q t l s w) = Unit {0}
Unlinks g (Row.scans_last i a h e q t l s w) = Unit {0}
Unlinks g (Row.scans_not i a h e q t s w) = Unit {0}
Unlinks g (Row.acts c a is d d' f hs e w k) = (x : Ref) → count x (item_old w) ≤ bit (is_linked (g.mark x))
Unlinks g (Row.acts_not c a is d e x y q t s) = Unit {0}
Unlinks g (Row.no_room c is d q e t h k s) = Unit {0}

abbrev pub CallUnlinks : Ghosts → {K : Type 0} {N : Numbers} {accepts : K → Type 0} {bytes : K → List ℕ} {σ τ : State} {c : Call K} {r : Reply} → Did N accepts bytes σ τ c r → Type 0
CallUnlinks g (Did.refuses c e f q) = Unit {0}
CallUnlinks g (Did.opens s a t k) = Unit {0}
CallUnlinks g (Did.closes s a t k) = Unit {0}
CallUnlinks g (Did.begins s t k a b w x) = Unit {0}
CallUnlinks g (Did.steps s o z r a e t w) = Unlinks g w
CallUnlinks g (Did.sweeps n a w) = Unit {0}

-- slots from i on, so many
within_none : (i k : ℕ) → both (leb i k) (ltb k (i + 0)) ≡ false
within_none i k = grind (arith, tells)

within_first : (k n : ℕ) → both (leb 0 k) (ltb k (0 + n)) ≡ ltb k n
within_first k n = grind (arith, tells)

within_more : (i k n : ℕ) → bit (eqb k i) + bit (both (leb (suc i) k) (ltb k (suc i + n))) ≡ bit (both (leb i k) (ltb k (i + suc n)))
within_more i k n = grind (arith, tells)

-- how often a slot stands in a rising list
module _ (x : Ref) (f : ℕ → Ref) where
  rising_none : ((j : ℕ) → is x (f j) ≡ false) → (i n : ℕ) → count x (rising f i n) ≡ 0
  rising_none h i zero = refl
  rising_none h i (suc n) = let q : bit (is x (f i)) ≡ 0 = ap bit (h i) in omega (arith, q, rising_none h (suc i) n)

  rising_once : (k : ℕ) → ((j : ℕ) → is x (f j) ≡ eqb k j) → (i n : ℕ) → count x (rising f i n) ≡ bit (both (leb i k) (ltb k (i + n)))
  rising_once k h i zero = sym (ap bit (within_none i k))
  rising_once k h i (suc n) = let q : bit (is x (f i)) ≡ bit (eqb k i) = ap bit (h i) in omega (arith, q, rising_once k h (suc i) n, within_more i k n)

-- which slots are the same
leaf_is : (k j : ℕ) → is (leaf k) (leaf j) ≡ eqb k j
leaf_is k j = ⊎_elim (λ a. let q : k ≡ j = cc a.1 in a.0 ∙ sym (eq-eqb k j q)) (λ a. a.0 ∙ sym (ne_eqb k j (λ q. a.1 (ap leaf q)))) (is_tells (leaf k) (leaf j))

node_is : (c : Kind) (k j : ℕ) → is (node c k) (node c j) ≡ eqb k j
node_is c k j = ⊎_elim (λ a. let q : k ≡ j = cc a.1 in a.0 ∙ sym (eq-eqb k j q)) (λ a. a.0 ∙ sym (ne_eqb k j (λ q. a.1 (ap (node c) q)))) (is_tells (node c k) (node c j))

leaf_not : (k : ℕ) (c : Kind) (j : ℕ) → is (leaf k) (node c j) ≡ false
leaf_not k c j = ⊎_elim (λ a. no_way (cc a.1)) (λ a. a.0) (is_tells (leaf k) (node c j))

node_not : (c : Kind) (k j : ℕ) → is (node c k) (leaf j) ≡ false
node_not c k j = ⊎_elim (λ a. no_way (cc a.1)) (λ a. a.0) (is_tells (node c k) (leaf j))

kind_not : (c e : Kind) (k j : ℕ) → (c ≡ e → ⊥) → is (node c k) (node e j) ≡ false
kind_not c e k j h = ⊎_elim (λ a. absurd (h (cc a.1))) (λ a. a.0) (is_tells (node c k) (node e j))

both_yes : (b : Bool) → both b true ≡ b
both_yes true = refl
both_yes false = refl

both_no : (b : Bool) → both b false ≡ false
both_no true = refl
both_no false = refl

-- the pools differ
leaf_room : (c : Kind) → (1 ≡ room c) → ⊥
leaf_room four e = omega (arith, e)
leaf_room sixteen e = omega (arith, e)
leaf_room forty_eight e = omega (arith, e)
leaf_room whole e = omega (arith, e)

-- two kinds are the same, or have different pools
kinds : (c e : Kind) → (c ≡ e) ⊎ ((c ≡ e → ⊥) × (eqb (room c) (room e) ≡ false))
kinds four four = inl refl
kinds four sixteen = inr (λ q. no_way cc, refl)
kinds four forty_eight = inr (λ q. no_way cc, refl)
kinds four whole = inr (λ q. no_way cc, refl)
kinds sixteen four = inr (λ q. no_way cc, refl)
kinds sixteen sixteen = inl refl
kinds sixteen forty_eight = inr (λ q. no_way cc, refl)
kinds sixteen whole = inr (λ q. no_way cc, refl)
kinds forty_eight four = inr (λ q. no_way cc, refl)
kinds forty_eight sixteen = inr (λ q. no_way cc, refl)
kinds forty_eight forty_eight = inl refl
kinds forty_eight whole = inr (λ q. no_way cc, refl)
kinds whole four = inr (λ q. no_way cc, refl)
kinds whole sixteen = inr (λ q. no_way cc, refl)
kinds whole forty_eight = inr (λ q. no_way cc, refl)
kinds whole whole = inl refl

-- a number is the pool of leaves, of a kind, or no pool
pools : (p : ℕ) → (p ≡ 1) ⊎ (((c : Kind) × (p ≡ room c)) ⊎ ((x : Ref) → pool x ≡ p → ⊥))
pools p = go (ℕ_discrete p 1) (ℕ_discrete p 4) (ℕ_discrete p 16) (ℕ_discrete p 48) (ℕ_discrete p 256)
  where
    none : (p ≡ 1 → ⊥) → (p ≡ 4 → ⊥) → (p ≡ 16 → ⊥) → (p ≡ 48 → ⊥) → (p ≡ 256 → ⊥) → (x : Ref) → pool x ≡ p → ⊥
    none a b c d e (leaf i) q = a (sym q)
    none a b c d e (node four i) q = b (sym q)
    none a b c d e (node sixteen i) q = c (sym q)
    none a b c d e (node forty_eight i) q = d (sym q)
    none a b c d e (node whole i) q = e (sym q)

    go : Dec (p ≡ 1) → Dec (p ≡ 4) → Dec (p ≡ 16) → Dec (p ≡ 48) → Dec (p ≡ 256) → (p ≡ 1) ⊎ (((c : Kind) × (p ≡ room c)) ⊎ ((x : Ref) → pool x ≡ p → ⊥))
    go (yes a) b c d e = inl a
    go (no a) (yes b) c d e = inr (inl (four, b))
    go (no a) (no b) (yes c) d e = inr (inl (sixteen, c))
    go (no a) (no b) (no c) (yes d) e = inr (inl (forty_eight, d))
    go (no a) (no b) (no c) (no d) (yes e) = inr (inl (whole, e))
    go (no a) (no b) (no c) (no d) (no e) = inr (inr (none a b c d e))

-- the root stands before the slots of its pool
not_root : (N : Numbers) (c : Kind) (k : ℕ) → both (not (is (node c k) root)) (in_pool N (node c k)) ≡ in_pool N (node c k)
not_root N four k = rw (kind_not four whole k 0 (λ q. no_way cc))
not_root N sixteen k = rw (kind_not sixteen whole k 0 (λ q. no_way cc))
not_root N forty_eight k = rw (kind_not forty_eight whole k 0 (λ q. no_way cc))
not_root N whole k = go (eqb k 0) refl
  where
    go : (b : Bool) → eqb k 0 ≡ b → both (not (is (node whole k) root)) (in_pool N (node whole k)) ≡ in_pool N (node whole k)
    go true e = let q : leb 1 k ≡ false = lt-leb 1 k (omega (arith, eqb-true k 0 e)) in rw (q, node_is whole k 0, e)
    go false e = rw (node_is whole k 0, e)

-- a slot is not in another pool
elsewhere_none : (N : Numbers) (x : Ref) (p : ℕ) → (pool x ≡ p → ⊥) → 0 ≡ bit (both (both (not (is x root)) (in_pool N x)) (eqb (pool x) p))
elsewhere_none N x p h = sym (ap bit (ap (both (both (not (is x root)) (in_pool N x))) (ne_eqb (pool x) p h) ∙ both_no (both (not (is x root)) (in_pool N x))))

-- each slot of a pool is spare at first, but the root
module _ {N : Numbers} {σ : State} (n : New N σ) where
  in_leaves : (x : Ref) → count x (σ.spare 1) ≡ bit (both (both (not (is x root)) (in_pool N x)) (eqb (pool x) 1))
  in_leaves (leaf k) = ap (count (leaf k)) n.made.leaves ∙ rising_once (leaf k) leaf k (leaf_is k) 0 (N.slots 1) ∙ ap bit (rw (leaf_not k whole 0) (within_first k (N.slots 1) ∙ sym (both_yes (ltb k (N.slots 1)))))
  in_leaves (node c k) = ap (count (node c k)) n.made.leaves ∙ rising_none (node c k) leaf (node_not c k) 0 (N.slots 1) ∙ elsewhere_none N (node c k) 1 (λ q. leaf_room c (sym q))

  in_nodes : (c : Kind) (x : Ref) → count x (σ.spare (room c)) ≡ bit (both (both (not (is x root)) (in_pool N x)) (eqb (pool x) (room c)))
  in_nodes c (leaf k) = ap (count (leaf k)) (n.made.nodes c) ∙ rising_none (leaf k) (node c) (leaf_not k c) (first_slot c) (N.slots (room c)) ∙ elsewhere_none N (leaf k) (room c) (leaf_room c)
  in_nodes c (node e k) = ⊎_elim
      (λ q. subst (λ (c : Kind). count (node e k) (σ.spare (room c)) ≡ bit (both (both (not (is (node e k) root)) (in_pool N (node e k))) (eqb (room e) (room c)))) q own)
      (λ q. ap (count (node e k)) (n.made.nodes c) ∙ rising_none (node e k) (node c) (λ j. kind_not e c k j q.0) (first_slot c) (N.slots (room c))
      ∙ elsewhere_none N (node e k) (room c) (eqb-false (room e) (room c) q.1))
      (kinds e c)
    where
      own : count (node e k) (σ.spare (room e)) ≡ bit (both (both (not (is (node e k) root)) (in_pool N (node e k))) (eqb (room e) (room e)))
      own = ap (count (node e k)) (n.made.nodes e) ∙ rising_once (node e k) (node e) k (node_is e k) (first_slot e) (N.slots (room e))
          ∙ ap bit (sym (ap (both (both (not (is (node e k) root)) (in_pool N (node e k)))) (eq-eqb (room e) (room e) refl) ∙ both_yes (both (not (is (node e k) root)) (in_pool N (node e k))) ∙ not_root N e k))

  spare_made : (x : Ref) (p : ℕ) → count x (σ.spare p) ≡ bit (both (both (not (is x root)) (in_pool N x)) (eqb (pool x) p))
  spare_made x p = ⊎_elim
      (λ q. subst (λ (p : ℕ). count x (σ.spare p) ≡ bit (both (both (not (is x root)) (in_pool N x)) (eqb (pool x) p))) (sym q) (in_leaves x))
      (⊎_elim
      (λ q. subst (λ (p : ℕ). count x (σ.spare p) ≡ bit (both (both (not (is x root)) (in_pool N x)) (eqb (pool x) p))) (sym q.1) (in_nodes q.0 x))
      (λ q. ap (count x) (n.made.no_pool p q) ∙ elsewhere_none N x p (q x)))
      (pools p)

-- a just made index
pub slots_made : {K : Type 0} {N : Numbers} {accepts : K → Type 0} {bytes : K → List ℕ} {σ : State} (n : New N σ) → SlotsOk {accepts = accepts} {bytes = bytes} (made n)
slots_made {N = N} {σ = σ} n = record {
  state = record { spare = σ.spare; retired = []; drawn = λ s. []; linked = λ x. is x root; epoch = 0; begun = λ s. None };
  run = slots.Run.made (record { linked = λ x. refl; spare = spare_made n; retired = refl; drawn = λ s. refl; epoch = refl; begun = λ s. refl });
  tells = refl;
  agree = record { spare = λ p. refl; retired = sym n.made.retired; drawn = λ s. sym (ap drawn_by (n.made.seats s)); epoch = sym n.made.epoch; begun = λ s. sym (ap begun_at (n.made.seats s)) };
}

-- a run of slots with these events
record Ran (N : Numbers) (h : List slots.Event) (ς : slots.State) : Type 0 where
  run : slots.Run root (in_pool N) ς
  tells : slots.history run ≡ h

-- one event more
then : {N : Numbers} {h : List slots.Event} {ς : slots.State} → Ran N h ς → (e : slots.Event) → slots.May e ς → Ran N (e ∷ h) (slots.after e ς)
then r e m = record { run = slots.Run.on r.run e m; tells = ap (λ (l : List slots.Event). e ∷ l) r.tells }

-- one that agrees with the index
record Has (N : Numbers) (h : List slots.Event) (σ : State) : Type 0 where
  state : slots.State
  ran : Ran N h state
  agree : Agree state σ

-- a function changed at one place
at_own : {A : Type 0} (s : ℕ) (x y : A) → cond (eqb s s) x y ≡ x
at_own s x y = rw (eq-eqb s s refl)

at_other : {A : Type 0} (u s : ℕ) (x y : A) → (u ≡ s → ⊥) → cond (eqb u s) x y ≡ y
at_other u s x y e = rw (ne_eqb u s e)

-- the queues after a slot was drawn, or given back
module _ (s : ℕ) (κ : slots.State) (x : Ref) where
  drew_there : (l : List Ref) → κ.spare (pool x) ≡ x ∷ l → (slots.after (slots.draw s x) κ).spare (pool x) ≡ l
  drew_there l q = at_own (pool x) (tail (κ.spare (pool x))) (κ.spare (pool x)) ∙ ap tail q

  drew_else : (p : ℕ) → (p ≡ pool x → ⊥) → (slots.after (slots.draw s x) κ).spare p ≡ κ.spare p
  drew_else p h = at_other (pool x) p (tail (κ.spare p)) (κ.spare p) (λ e. h (sym e))

  back_there : (slots.after (slots.back s x) κ).spare (pool x) ≡ κ.spare (pool x) ++ x ∷ []
  back_there = at_own (pool x) (κ.spare (pool x) ++ x ∷ []) (κ.spare (pool x))

  back_else : (p : ℕ) → (p ≡ pool x → ⊥) → (slots.after (slots.back s x) κ).spare p ≡ κ.spare p
  back_else p h = at_other (pool x) p (κ.spare p ++ x ∷ []) (κ.spare p) (λ e. h (sym e))

-- a call that turns one seat
module _ {σ τ : State} {s : ℕ} {z : Seat} (t : Turns σ τ s z) (ς : slots.State) (a : Agree ς σ) where
  -- a state of slots agrees with the index after the call, if it does at the seat and in the pools
  turn : (κ : slots.State) → ((p : ℕ) → κ.spare p ≡ τ.spare p) → κ.retired ≡ τ.retired → κ.epoch ≡ ς.epoch
      → κ.drawn s ≡ drawn_by z → ((u : ℕ) → (u ≡ s → ⊥) → κ.drawn u ≡ ς.drawn u) → κ.begun s ≡ begun_at z → ((u : ℕ) → (u ≡ s → ⊥) → κ.begun u ≡ ς.begun u) → Agree κ τ
  turn κ sp re ep dr du be bu = record {
    spare = sp;
    retired = re;
    drawn = λ u. by_drawn u (ℕ_discrete u s);
    epoch = ep ∙ a.epoch ∙ sym t.epoch;
    begun = λ u. by_begun u (ℕ_discrete u s);
  }
    where
      by_drawn : (u : ℕ) → Dec (u ≡ s) → κ.drawn u ≡ drawn_by (τ.seats u)
      by_drawn u (yes e) = subst (λ (u : ℕ). κ.drawn u ≡ drawn_by (τ.seats u)) (sym e) (dr ∙ sym (ap drawn_by t.there))
      by_drawn u (no e) = du u e ∙ a.drawn u ∙ sym (ap drawn_by (t.elsewhere u e))

      by_begun : (u : ℕ) → Dec (u ≡ s) → κ.begun u ≡ begun_at (τ.seats u)
      by_begun u (yes e) = subst (λ (u : ℕ). κ.begun u ≡ begun_at (τ.seats u)) (sym e) (be ∙ sym (ap begun_at t.there))
      by_begun u (no e) = bu u e ∙ a.begun u ∙ sym (ap begun_at (t.elsewhere u e))

  spare_same : τ.spare ≡ σ.spare → (p : ℕ) → ς.spare p ≡ τ.spare p
  spare_same e p = a.spare p ∙ sym (ap (λ (f : ℕ → List Ref). f p) e)

  -- no event, and what is drawn stays
  quiet : τ.spare ≡ σ.spare → τ.retired ≡ σ.retired → drawn_by z ≡ drawn_by (σ.seats s) → begun_at z ≡ begun_at (σ.seats s) → Agree ς τ
  quiet sp re dr be = turn ς (spare_same sp) (a.retired ∙ sym re) refl (a.drawn s ∙ sym dr) (λ u e. refl) (a.begun s ∙ sym be) (λ u e. refl)

  -- the state of slots after each event agrees again
  began : τ.spare ≡ σ.spare → τ.retired ≡ σ.retired → drawn_by z ≡ drawn_by (σ.seats s) → begun_at z ≡ Some σ.epoch → Agree (slots.after (slots.begin s) ς) τ
  began sp re dr be = turn (slots.after (slots.begin s) ς) (spare_same sp) (a.retired ∙ sym re) refl (a.drawn s ∙ sym dr) (λ u e. refl)
      (at_own s (Some ς.epoch) (ς.begun s) ∙ ap Some a.epoch ∙ sym be) (λ u e. at_other u s (Some ς.epoch) (ς.begun u) e)

  answered : τ.spare ≡ σ.spare → τ.retired ≡ σ.retired → drawn_by z ≡ drawn_by (σ.seats s) → begun_at z ≡ None → Agree (slots.after (slots.answer s) ς) τ
  answered sp re dr be = turn (slots.after (slots.answer s) ς) (spare_same sp) (a.retired ∙ sym re) refl (a.drawn s ∙ sym dr) (λ u e. refl)
      (at_own s None (ς.begun s) ∙ sym be) (λ u e. at_other u s None (ς.begun u) e)

  written : (new old : List Ref) → τ.spare ≡ σ.spare → τ.retired ≡ σ.retired ++ stamped σ.epoch old → drawn_by z ≡ [] → begun_at z ≡ begun_at (σ.seats s) → Agree (slots.after (slots.write s new old) ς) τ
  written new old sp re dr be = turn (slots.after (slots.write s new old) ς) (spare_same sp) (rw (a.retired, a.epoch) (sym re)) refl
      (at_own s [] (ς.drawn s) ∙ sym dr) (λ u e. at_other u s [] (ς.drawn u) e) (a.begun s ∙ sym be) (λ u e. refl)

  drew_one : (x : Ref) (l : List Ref) → σ.spare (pool x) ≡ x ∷ l → Pooled σ τ (pool x) l → τ.retired ≡ σ.retired → drawn_by z ≡ x ∷ drawn_by (σ.seats s) → begun_at z ≡ begun_at (σ.seats s)
      → Agree (slots.after (slots.draw s x) ς) τ
  drew_one x l q w re dr be = turn (slots.after (slots.draw s x) ς) (λ p. by p (ℕ_discrete p (pool x))) (a.retired ∙ sym re) refl
      (at_own s (x ∷ ς.drawn s) (ς.drawn s) ∙ ap (λ (k : List Ref). x ∷ k) (a.drawn s) ∙ sym dr) (λ u e. at_other u s (x ∷ ς.drawn u) (ς.drawn u) e) (a.begun s ∙ sym be) (λ u e. refl)
    where
      by : (p : ℕ) → Dec (p ≡ pool x) → (slots.after (slots.draw s x) ς).spare p ≡ τ.spare p
      by p (yes e) = subst (λ (p : ℕ). (slots.after (slots.draw s x) ς).spare p ≡ τ.spare p) (sym e) (drew_there s ς x l (a.spare (pool x) ∙ q) ∙ sym w.there)
      by p (no e) = drew_else s ς x p e ∙ a.spare p ∙ sym (w.elsewhere p e)

  drew_two : (x y : Ref) (l m : List Ref) → (pool y ≡ pool x → ⊥) → σ.spare (pool x) ≡ x ∷ l → σ.spare (pool y) ≡ y ∷ m → τ.spare (pool x) ≡ l → τ.spare (pool y) ≡ m
      → ((q : ℕ) → (q ≡ pool x → ⊥) → (q ≡ pool y → ⊥) → τ.spare q ≡ σ.spare q) → τ.retired ≡ σ.retired → drawn_by z ≡ y ∷ x ∷ drawn_by (σ.seats s) → begun_at z ≡ begun_at (σ.seats s)
      → Agree (slots.after (slots.draw s y) (slots.after (slots.draw s x) ς)) τ
  drew_two x y l m n q r v w el re dr be = turn (slots.after (slots.draw s y) κ) (λ p. by p (ℕ_discrete p (pool y)) (ℕ_discrete p (pool x))) (a.retired ∙ sym re) refl
      (at_own s (y ∷ κ.drawn s) (κ.drawn s) ∙ ap (λ (k : List Ref). y ∷ k) (at_own s (x ∷ ς.drawn s) (ς.drawn s) ∙ ap (λ (k : List Ref). x ∷ k) (a.drawn s)) ∙ sym dr)
      (λ u e. at_other u s (y ∷ κ.drawn u) (κ.drawn u) e ∙ at_other u s (x ∷ ς.drawn u) (ς.drawn u) e) (a.begun s ∙ sym be) (λ u e. refl)
    where
      κ : slots.State
      κ = slots.after (slots.draw s x) ς

      by : (p : ℕ) → Dec (p ≡ pool y) → Dec (p ≡ pool x) → (slots.after (slots.draw s y) κ).spare p ≡ τ.spare p
      by p (yes e) k = subst (λ (p : ℕ). (slots.after (slots.draw s y) κ).spare p ≡ τ.spare p) (sym e) (drew_there s κ y m (drew_else s ς x (pool y) n ∙ a.spare (pool y) ∙ r) ∙ sym w)
      by p (no k) (yes e) = drew_else s κ y p k ∙ subst (λ (p : ℕ). κ.spare p ≡ τ.spare p) (sym e) (drew_there s ς x l (a.spare (pool x) ∙ q) ∙ sym v)
      by p (no k) (no e) = drew_else s κ y p k ∙ drew_else s ς x p e ∙ a.spare p ∙ sym (el p e k)

  put_back : (x : Ref) (l : List Ref) → σ.spare (pool x) ≡ x ∷ l → Pooled σ τ (pool x) (l ++ x ∷ []) → τ.retired ≡ σ.retired → drawn_by z ≡ drawn_by (σ.seats s) → begun_at z ≡ None
      → Agree (slots.after (slots.answer s) (slots.after (slots.back s x) (slots.after (slots.draw s x) ς))) τ
  put_back x l q w re dr be = turn (slots.after (slots.answer s) (slots.after (slots.back s x) κ)) (λ p. by p (ℕ_discrete p (pool x))) (a.retired ∙ sym re) refl
      (at_own s (tail (κ.drawn s)) (κ.drawn s) ∙ ap tail (at_own s (x ∷ ς.drawn s) (ς.drawn s)) ∙ a.drawn s ∙ sym dr)
      (λ u e. at_other u s (tail (κ.drawn u)) (κ.drawn u) e ∙ at_other u s (x ∷ ς.drawn u) (ς.drawn u) e) (at_own s None (ς.begun s) ∙ sym be) (λ u e. at_other u s None (ς.begun u) e)
    where
      κ : slots.State
      κ = slots.after (slots.draw s x) ς

      by : (p : ℕ) → Dec (p ≡ pool x) → (slots.after (slots.back s x) κ).spare p ≡ τ.spare p
      by p (yes e) = subst (λ (p : ℕ). (slots.after (slots.back s x) κ).spare p ≡ τ.spare p) (sym e)
          (back_there s κ x ∙ ap (λ (k : List Ref). k ++ x ∷ []) (drew_there s ς x l (a.spare (pool x) ∙ q)) ∙ sym w.there)
      by p (no e) = back_else s κ x p e ∙ drew_else s ς x p e ∙ a.spare p ∙ sym (w.elsewhere p e)

-- a step of a busy seat
module _ {N : Numbers} {h : List slots.Event} {σ τ : State} {s : ℕ} {o : Operation} {z : Seat} (ok : Has N h σ) (was : σ.seats s ≡ busy o) (t : Turns σ τ s z) where
  -- what is known of the seat before
  begun_is : ok.state.begun s ≡ Some o.begun
  begun_is = ok.agree.begun s ∙ ap begun_at was

  drawn_is : ok.state.drawn s ≡ drawn_in o.stage
  drawn_is = ok.agree.drawn s ∙ ap drawn_by was

  -- no event
  goes_on : τ.spare ≡ σ.spare → τ.retired ≡ σ.retired → drawn_by z ≡ drawn_in o.stage → begun_at z ≡ Some o.begun → Has N h τ
  goes_on sp re dr be = record { state = ok.state; ran = ok.ran; agree = quiet t ok.state ok.agree sp re (dr ∙ sym (ap drawn_by was)) (be ∙ sym (ap begun_at was)) }

  walks_on : drawn_in o.stage ≡ [] → Still σ τ → drawn_by z ≡ [] → begun_at z ≡ Some o.begun → Has N h τ
  walks_on e q dr be = goes_on q.spare q.retired (dr ∙ sym e) be

  restarts : {c : Cause} {x : Ref} {d : ℕ} {r : Outcome} → drawn_in o.stage ≡ [] → Restarts σ τ o c x d z r → Has N h τ
  restarts e w = walks_on e w.still (ap drawn_by w.seat) (ap begun_at w.seat)

  -- an answer
  answers_on : drawn_in o.stage ≡ [] → τ.spare ≡ σ.spare → τ.retired ≡ σ.retired → z ≡ idle → Has N (slots.answer s ∷ h) τ
  answers_on e sp re q = record {
    state = slots.after (slots.answer s) ok.state;
    ran = then ok.ran (slots.answer s) (drawn_is ∙ e);
    agree = answered t ok.state ok.agree sp re (ap drawn_by q ∙ sym (ap drawn_by was ∙ e)) (ap begun_at q);
  }

  -- a write
  writes_on : (new old : List Ref) → drawn_in o.stage ≡ new → ((x : Ref) → count x old ≤ bit (ok.state.linked x)) → τ.spare ≡ σ.spare → τ.retired ≡ σ.retired ++ stamped σ.epoch old
      → drawn_by z ≡ [] → begun_at z ≡ Some o.begun → Has N (slots.write s new old ∷ h) τ
  writes_on new old e u sp re dr be = record {
    state = slots.after (slots.write s new old) ok.state;
    ran = then ok.ran (slots.write s new old) (drawn_is ∙ e, u);
    agree = written t ok.state ok.agree new old sp re dr (be ∙ sym (ap begun_at was));
  }

  -- a draw of one slot, of two, and of one that is given back
  draws_on : (x : Ref) (l : List Ref) → drawn_in o.stage ≡ [] → σ.spare (pool x) ≡ x ∷ l → Pooled σ τ (pool x) l → τ.retired ≡ σ.retired → drawn_by z ≡ x ∷ [] → begun_at z ≡ Some o.begun
      → Has N (slots.draw s x ∷ h) τ
  draws_on x l e q w re dr be = record {
    state = slots.after (slots.draw s x) ok.state;
    ran = then ok.ran (slots.draw s x) ((o.begun, begun_is), (l, ok.agree.spare (pool x) ∙ q));
    agree = drew_one t ok.state ok.agree x l q w re (dr ∙ sym (ap (λ (k : List Ref). x ∷ k) (ap drawn_by was ∙ e))) (be ∙ sym (ap begun_at was));
  }

  draws_two : (x y : Ref) (l m : List Ref) → drawn_in o.stage ≡ [] → (pool y ≡ pool x → ⊥) → σ.spare (pool x) ≡ x ∷ l → σ.spare (pool y) ≡ y ∷ m → τ.spare (pool x) ≡ l → τ.spare (pool y) ≡ m
      → ((q : ℕ) → (q ≡ pool x → ⊥) → (q ≡ pool y → ⊥) → τ.spare q ≡ σ.spare q) → τ.retired ≡ σ.retired → drawn_by z ≡ y ∷ x ∷ [] → begun_at z ≡ Some o.begun
      → Has N (slots.draw s y ∷ slots.draw s x ∷ h) τ
  draws_two x y l m e n q r v w el re dr be = record {
    state = slots.after (slots.draw s y) (slots.after (slots.draw s x) ok.state);
    ran = then (then ok.ran (slots.draw s x) ((o.begun, begun_is), (l, ok.agree.spare (pool x) ∙ q))) (slots.draw s y)
        ((o.begun, begun_is), (m, drew_else s ok.state x (pool y) n ∙ ok.agree.spare (pool y) ∙ r));
    agree = drew_two t ok.state ok.agree x y l m n q r v w el re (dr ∙ sym (ap (λ (k : List Ref). y ∷ x ∷ k) (ap drawn_by was ∙ e))) (be ∙ sym (ap begun_at was));
  }

  gives_back : (x : Ref) (l : List Ref) → drawn_in o.stage ≡ [] → σ.spare (pool x) ≡ x ∷ l → Pooled σ τ (pool x) (l ++ x ∷ []) → τ.retired ≡ σ.retired → z ≡ idle
      → Has N (slots.answer s ∷ slots.back s x ∷ slots.draw s x ∷ h) τ
  gives_back x l e q w re i = record {
    state = slots.after (slots.answer s) (slots.after (slots.back s x) (slots.after (slots.draw s x) ok.state));
    ran = then (then (then ok.ran (slots.draw s x) ((o.begun, begun_is), (l, ok.agree.spare (pool x) ∙ q))) (slots.back s x) ([], one)) (slots.answer s)
        (at_own s (tail (κ.drawn s)) (κ.drawn s) ∙ ap tail one);
    agree = put_back t ok.state ok.agree x l q w re (ap drawn_by i ∙ sym (ap drawn_by was ∙ e)) (ap begun_at i);
  }
    where
      κ : slots.State
      κ = slots.after (slots.draw s x) ok.state

      one : (slots.after (slots.draw s x) ok.state).drawn s ≡ x ∷ []
      one = at_own s (x ∷ ok.state.drawn s) (ok.state.drawn s) ∙ ap (λ (k : List Ref). x ∷ k) (drawn_is ∙ e)

  -- an item of a course that goes on
  item_on : {c : Course} {a : Item} {d d' : Option op.Drawn} {f : Ref → Meaning} {hs : List Hold} (w : Does N σ τ o c a d f hs d') → drawn_in o.stage ≡ drawn_of d
      → drawn_by z ≡ drawn_of d' → begun_at z ≡ Some o.begun → ((x : Ref) → count x (item_old w) ≤ bit (ok.state.linked x)) → Has N (item_events s w ++ h) τ
  item_on (Does.locks_p p n e l q) i dr be u = goes_on q.spare q.retired (dr ∙ sym i) be
  item_on (Does.locks_n hs n e l q) i dr be u = goes_on q.spare q.retired (dr ∙ sym i) be
  item_on (Does.locks_m hs n e k l q) i dr be u = goes_on q.spare q.retired (dr ∙ sym i) be
  item_on (Does.draws_leaf hs n v j ls e a q b k r f y) i dr be u = draws_on (leaf j) ls i b k r dr be
  item_on (Does.draws_both hs n v j k kind filled ls ns e a q b g r l m y x f w) i dr be u = draws_two (leaf j) (node kind k) ls ns i (λ e. leaf_room kind (sym e)) g r l m y x dr be
  item_on (Does.inserts v j hs n e w) i dr be u = writes_on (leaf j ∷ []) [] i u w.spare (w.retires ∙ sym (append-nil σ.retired)) dr be
  item_on (Does.splits {i = j} {y = y} hs n e w) i dr be u = writes_on (y ∷ leaf j ∷ []) [] i u w.spare (w.retires ∙ sym (append-nil σ.retired)) dr be
  item_on (Does.grows v j {y = y} p n e w) i dr be u = writes_on (y ∷ leaf j ∷ []) (n.at ∷ []) i u w.spare w.retires dr be
  item_on (Does.cuts hs n e w a b) i dr be u = goes_on a b (dr ∙ sym i) be
  item_on (Does.misses {i = j} {y = y} p n e w) i dr be u = writes_on (y ∷ leaf j ∷ []) [] i u w.spare (w.retires ∙ sym (append-nil σ.retired)) dr be
  item_on (Does.removes {l = l} hs n e w) i dr be u = writes_on [] (leaf l ∷ []) i u w.spare w.retires dr be
  item_on (Does.joins v l b p n m e k w x y) i dr be u = goes_on x y (dr ∙ sym i) be
  item_on (Does.collapses {l = l} x p n ms e w) i dr be u = writes_on [] (leaf l ∷ n.at ∷ []) i u w.spare w.retires dr be
  item_on (Does.unlocks hs x p e q) i dr be u = goes_on q.spare q.retired (dr ∙ sym i) be
  item_on (Does.unlocks_gone hs x e q) i dr be u = goes_on q.spare q.retired (dr ∙ sym i) be

  -- the last item of a course is a plain unlock
  last_on : {c : Course} {a : Item} {d d' : Option op.Drawn} {f : Ref → Meaning} {hs : List Hold} (w : Does N σ τ o c a d f hs d') → Plain a → drawn_in o.stage ≡ [] → z ≡ idle
      → Has N (slots.answer s ∷ (item_events s w ++ h)) τ
  last_on (Does.locks_p p n e l q) y i k = absurd y
  last_on (Does.locks_n hs n e l q) y i k = absurd y
  last_on (Does.locks_m hs n e m l q) y i k = absurd y
  last_on (Does.draws_leaf hs n v j ls e a q b m r f x) y i k = absurd y
  last_on (Does.draws_both hs n v j m kind filled ls ns e a q b g r l p x w f v') y i k = absurd y
  last_on (Does.inserts v j hs n e w) y i k = absurd y
  last_on (Does.splits hs n e w) y i k = absurd y
  last_on (Does.grows v j p n e w) y i k = absurd y
  last_on (Does.cuts hs n e w a b) y i k = absurd y
  last_on (Does.misses p n e w) y i k = absurd y
  last_on (Does.removes hs n e w) y i k = absurd y
  last_on (Does.joins v l b p n m e j w x q) y i k = absurd y
  last_on (Does.collapses x p n ms e w) y i k = absurd y
  last_on (Does.unlocks hs x p e q) y i k = answers_on i q.spare q.retired k
  last_on (Does.unlocks_gone hs x e q) y i k = absurd y

-- before these items nothing is drawn
abbrev bare : List Item → Bool
bare [] = true
bare (op.lock_p ∷ is) = true
bare (op.lock_n ∷ is) = true
bare (op.lock_m ∷ is) = true
bare (op.draw ∷ is) = true
bare (op.write_n ∷ is) = false
bare (op.write_m ∷ is) = true
bare (op.write_p ∷ is) = false
bare (op.unlock_m ∷ is) = true
bare (op.unlock_n ∷ is) = true
bare (op.unlock_n_gone ∷ is) = true
bare (op.unlock_p ∷ is) = true

-- each course has more than one item
solo_items : (c : Course) → Solo c → (x : Item) × (y : Item) × (is : List Item) × (items c ≡ x ∷ y ∷ is)
solo_items _ (inserting v) = (op.lock_n, op.draw, op.write_n ∷ op.unlock_n ∷ [], refl)
solo_items _ (splitting v j) = (op.lock_n, op.draw, op.write_n ∷ op.unlock_n ∷ [], refl)
solo_items _ (removing v l) = (op.lock_n, op.write_n, op.unlock_n ∷ [], refl)

pair_items : (c : Course) → Pair c → (x : Item) × (y : Item) × (is : List Item) × (items c ≡ op.lock_p ∷ op.lock_n ∷ x ∷ y ∷ is)
pair_items _ (growing v) = (op.draw, op.write_p, op.unlock_n_gone ∷ op.unlock_p ∷ [], refl)
pair_items _ (missing v i) = (op.draw, op.write_n, op.write_p ∷ op.unlock_n ∷ op.unlock_p ∷ [], refl)
pair_items _ (collapsing v l (leaf i)) = (op.write_p, op.unlock_n_gone, op.unlock_p ∷ [], refl)
pair_items _ (collapsing v l (node k i)) = (op.lock_m, op.write_m, op.write_p ∷ op.unlock_m ∷ op.unlock_n_gone ∷ op.unlock_p ∷ [], refl)

module _ {N : Numbers} {Key : List ℕ → Type 0} {σ : State} {g : Ghosts} {s : ℕ} {o : Operation} where
  -- by the items that are left
  none_drawn : (c : Course) (is : List Item) (d : Option op.Drawn) (hs : List Hold) → Acts N Key σ g s o c is d hs → bare is ≡ true → d ≡ None
  none_drawn _ _ _ _ (Acts.to_lock c hs n so st pe de) e = refl
  none_drawn _ _ _ _ (Acts.to_draw c v hs n so ad ol) e = refl
  none_drawn _ _ _ _ (Acts.to_insert v i hs n ol ld) e = no_way cc
  none_drawn _ _ _ _ (Acts.to_split v j i y hs n ol ld nd) e = no_way cc
  none_drawn _ _ _ _ (Acts.to_remove v l hs n ol) e = refl
  none_drawn _ _ _ _ (Acts.to_unlock c hs n so pe lo li) e = refl
  none_drawn _ _ _ _ (Acts.to_lock_p c p n pa st pe de) e = refl
  none_drawn _ _ _ _ (Acts.to_lock_n c rest p n pa it st lo pe de) e = refl
  none_drawn _ _ _ _ (Acts.to_draw_both c v rest p n pa it ad bl) e = refl
  none_drawn _ _ _ _ (Acts.to_grow v i y p n bl ld nd) e = no_way cc
  none_drawn _ _ _ _ (Acts.to_cut v m i y p n bl ld nd) e = no_way cc
  none_drawn _ _ _ _ (Acts.to_miss v m i y p n cu) e = no_way cc
  none_drawn _ _ _ _ (Acts.to_collapse v l j p n bl) e = refl
  none_drawn _ _ _ _ (Acts.to_lock_m v l k j p n bl) e = refl
  none_drawn _ _ _ _ (Acts.to_join v l p n m jo) e = refl
  none_drawn _ _ _ _ (Acts.to_collapse_m v l p n m jo) e = refl
  none_drawn _ _ _ _ (Acts.to_unlock_m c p n m pa lp ln lm ip re im) e = refl
  none_drawn _ _ _ _ (Acts.to_unlock_gone c p n pa lp ln ip re) e = refl
  none_drawn _ _ _ _ (Acts.to_unlock_n v m p n lp ln ip ik) e = refl
  none_drawn _ _ _ _ (Acts.to_unlock_p c p pa lp ip) e = refl

  -- the last item is an unlock
  last_plain : (c : Course) (is : List Item) (d : Option op.Drawn) (hs : List Hold) (a : Item) → Acts N Key σ g s o c is d hs → is ≡ a ∷ [] → Plain a
  last_plain _ _ _ _ a (Acts.to_lock c hs n so st pe de) e = let q = (solo_items c so).3 in no_way cc
  last_plain _ _ _ _ a (Acts.to_draw c v hs n so ad ol) e = no_way cc
  last_plain _ _ _ _ a (Acts.to_insert v i hs n ol ld) e = no_way cc
  last_plain _ _ _ _ a (Acts.to_split v j i y hs n ol ld nd) e = no_way cc
  last_plain _ _ _ _ a (Acts.to_remove v l hs n ol) e = no_way cc
  last_plain _ _ _ _ a (Acts.to_unlock c hs n so pe lo li) e = subst Plain (let q : op.unlock_n ≡ a = cc in q) tt
  last_plain _ _ _ _ a (Acts.to_lock_p c p n pa st pe de) e = let q = (pair_items c pa).3 in no_way cc
  last_plain _ _ _ _ a (Acts.to_lock_n c rest p n pa it st lo pe de) e = let q = (pair_items c pa).3 in no_way cc
  last_plain _ _ _ _ a (Acts.to_draw_both c v rest p n pa it ad bl) e = let q = (pair_items c pa).3 in no_way cc
  last_plain _ _ _ _ a (Acts.to_grow v i y p n bl ld nd) e = no_way cc
  last_plain _ _ _ _ a (Acts.to_cut v m i y p n bl ld nd) e = no_way cc
  last_plain _ _ _ _ a (Acts.to_miss v m i y p n cu) e = no_way cc
  last_plain _ _ _ _ a (Acts.to_collapse v l j p n bl) e = no_way cc
  last_plain _ _ _ _ a (Acts.to_lock_m v l k j p n bl) e = no_way cc
  last_plain _ _ _ _ a (Acts.to_join v l p n m jo) e = no_way cc
  last_plain _ _ _ _ a (Acts.to_collapse_m v l p n m jo) e = no_way cc
  last_plain _ _ _ _ a (Acts.to_unlock_m c p n m pa lp ln lm ip re im) e = no_way cc
  last_plain _ _ _ _ a (Acts.to_unlock_gone c p n pa lp ln ip re) e = no_way cc
  last_plain _ _ _ _ a (Acts.to_unlock_n v m p n lp ln ip ik) e = no_way cc
  last_plain _ _ _ _ a (Acts.to_unlock_p c p pa lp ip) e = subst Plain (let q : op.unlock_p ≡ a = cc in q) tt

-- before an unlock, and where an item is refused, nothing is drawn
plain_bare : (a : Item) (rest : List Item) → Plain a → bare (a ∷ rest) ≡ true
plain_bare op.lock_p rest h = refl
plain_bare op.lock_n rest h = refl
plain_bare op.lock_m rest h = refl
plain_bare op.draw rest h = refl
plain_bare op.write_n rest h = absurd h
plain_bare op.write_m rest h = refl
plain_bare op.write_p rest h = absurd h
plain_bare op.unlock_m rest h = refl
plain_bare op.unlock_n rest h = refl
plain_bare op.unlock_n_gone rest h = refl
plain_bare op.unlock_p rest h = refl

refused_bare : {N : Numbers} {σ : State} {o : Operation} {c : Course} {a : Item} {e : Cause} {x : Ref} {d : ℕ} (rest : List Item) → Refuses N σ o c a e x d → bare (a ∷ rest) ≡ true
refused_bare rest (Refuses.at_p p n e l) = refl
refused_bare rest (Refuses.at_n hs n e l) = refl
refused_bare rest (Refuses.taking_m hs n e l) = refl
refused_bare rest (Refuses.locking_m hs n e k l) = refl

-- walks draw nothing
taken_none : (x : Ref) → drawn_in (after_take x) ≡ []
taken_none x = go (is x root)
  where
    go : (b : Bool) → drawn_in (cond b op.look op.check_p) ≡ []
    go true = refl
    go false = refl

abbrev drawn_at : Option Stage → List Ref
drawn_at None = []
drawn_at (Some g) = drawn_in g

decided_none : (S : Tree) (k : List ℕ) (n : Hold) (t : op.Task) (w : Seen) → drawn_at (decided S k n t w) ≡ []
decided_none S k n op.find sight.stale = refl
decided_none S k n op.find sight.empty = refl
decided_none S k n op.find (sight.missed i) = refl
decided_none S k n op.find (sight.other l) = refl
decided_none S k n op.find (sight.same_key l v) = refl
decided_none S k n op.find (sight.onward y e) = refl
decided_none S k n op.next w = refl
decided_none S k n (op.add v) sight.stale = refl
decided_none S k n (op.add v) sight.empty = refl
decided_none S k n (op.add v) (sight.missed i) = refl
decided_none S k n (op.add v) (sight.other l) = refl
decided_none S k n (op.add v) (sight.same_key l w) = refl
decided_none S k n (op.add v) (sight.onward y e) = refl
decided_none S k n op.remove sight.stale = refl
decided_none S k n op.remove sight.empty = refl
decided_none S k n op.remove (sight.missed i) = refl
decided_none S k n op.remove (sight.other l) = refl
decided_none S k n op.remove (sight.same_key l v) = go (is n.at root || leb 2 (fan S n.at - 1)) (left S n.at (key_byte S k n))
  where
    go : (b : Bool) (x : Option Ref) → drawn_at (cond b (Some (begun (op.in_place v l))) (collapsing' v l x)) ≡ []
    go true x = refl
    go false None = refl
    go false (Some x) = refl
decided_none S k n op.remove (sight.onward y e) = refl

-- nor does next
picked_none : (S : Tree) (o : Operation) (j keys : ℕ) (p : picks.Sight) (z : Seat) → picked S o j keys p ≡ Some z → (drawn_by z ≡ []) × (begun_at z ≡ Some o.begun)
picked_none S o j keys picks.stale z e = no_way cc
picked_none S o zero keys picks.back z e = let q : z ≡ goes_back o zero = cc in (ap drawn_by q, ap begun_at q)
picked_none S o (suc j) keys picks.back z e = let q : z ≡ goes_back o (suc j) = cc in (ap drawn_by q, ap begun_at q)
picked_none S o j keys (picks.onward y d) z e = let q : z ≡ with o op.by_key o.held (op.take y d) = cc in (ap drawn_by q, ap begun_at q)
picked_none S o j keys (picks.aside y d) z e = let q : z ≡ with o (op.down j keys) o.held (op.take y d) = cc in (ap drawn_by q, ap begun_at q)
picked_none S o j keys (picks.got i) z e = let q : z ≡ with o o.mode o.held (op.scan 0 (pair_at S i)) = cc in (ap drawn_by q, ap begun_at q)

-- a draw without room
no_room_on : {N : Numbers} {h : List slots.Event} {σ τ : State} {s : ℕ} {o : Operation} {z : Seat} {c : Course} {q : ℕ} (ok : Has N h σ) → σ.seats s ≡ busy o → Turns σ τ s z → drawn_in o.stage ≡ []
    → (w : NoRoom σ τ o c q) → τ.retired ≡ σ.retired → z ≡ idle → Has N (no_room_events s w ++ h) τ
no_room_on ok was t i (NoRoom.no_leaf e k) re q = answers_on ok was t i k re q
no_room_on ok was t i (NoRoom.no_node hs n kind j ls e k a b p) re q = gives_back ok was t (leaf j) ls i a p re q

-- one step more
module _ {N : Numbers} {Key : List ℕ → Type 0} {h : List slots.Event} {σ : State} {g : Ghosts} {s : ℕ} {o : Operation} (ok : Has N h σ) (was : σ.seats s ≡ busy o) (v : Inv N Key σ g)
    (lk : (x : Ref) → is_linked (g.mark x) ≡ ok.state.linked x) where
  -- a course before these items has drawn nothing
  course_none : (c : Course) (rest : List Item) (d : Option op.Drawn) → o.stage ≡ op.act c rest d → bare rest ≡ true → drawn_in o.stage ≡ []
  course_none c rest d e b = ap drawn_in e ∙ ap drawn_of (none_drawn c rest d o.held (acting (v.seats s o was) c rest d e).2 b)

  acts_on : {τ : State} {c : Course} {a : Item} {rest : List Item} {d d' : Option op.Drawn} {f : Ref → Meaning} {hs : List Hold} {z : Seat} {r : Outcome} → Turns σ τ s z → o.stage ≡ op.act c (a ∷ rest) d
      → (w : Does N σ τ o c a d f hs d') (k : Follows o τ c f hs d' rest z r) → ((x : Ref) → count x (item_old w) ≤ bit (is_linked (g.mark x))) → Has N ((after_item s k ++ item_events s w) ++ h) τ
  acts_on t e w (Follows.more q) u = item_on ok was t w (ap drawn_in e) refl refl (λ x. subst (λ (b : Bool). count x (item_old w) ≤ bit b) (lk x) (u x))
  acts_on {c = c} {a = a} {d = d} t e w (Follows.over q) u =
      let p = last_plain c (a ∷ []) d o.held a (acting (v.seats s o was) c (a ∷ []) d e).2 refl in
      last_on ok was t w p (course_none c (a ∷ []) d e (plain_bare a [] p)) q.seat

  row_on : {τ : State} {z : Seat} {r : Outcome} → Turns σ τ s z → (w : Row N σ τ o z r) → Unlinks g w → Has N (row_events s w ++ h) τ
  row_on t (Row.takes x d e a q w) u = walks_on ok was t (ap drawn_in e) q (taken_none x) refl
  row_on t (Row.takes_not x d c e a w) u = restarts ok was t (ap drawn_in e) w
  row_on t (Row.checks_p p e a b q w) u = walks_on ok was t (ap drawn_in e) q refl refl
  row_on t (Row.checks_p_not p c e a b w) u = restarts ok was t (ap drawn_in e) w
  row_on t (Row.looks_on hs n y d e a b k q w) u = walks_on ok was t (ap drawn_in e) q refl refl
  row_on t (Row.looks_decides hs n k e a b f q w) u =
      walks_on ok was t (ap drawn_in e) q (sym (ap drawn_at f) ∙ decided_none σ.tree o.key n o.task (sight.seen N.deep σ.tree o.key n.at n.depth)) refl
  row_on t (Row.looks_stale hs n e a b k w) u = restarts ok was t (ap drawn_in e) w
  row_on t (Row.checks_n a hs n e b k q w) u = answers_on ok was t (ap drawn_in e) q.spare q.retired w.seat
  row_on t (Row.checks_n_not a hs n c e b k w) u = restarts ok was t (ap drawn_in e) w
  row_on {z = z} t (Row.picks_on n j keys k e a b f q w) u = let p = picked_none σ.tree o j keys k z f in walks_on ok was t (ap drawn_in e) q p.0 p.1
  row_on t (Row.picks_stale n j keys e a b w) u = restarts ok was t (ap drawn_in e) w
  row_on t (Row.scans i a k e b f l q w) u = walks_on ok was t (ap drawn_in e) q refl refl
  row_on t (Row.scans_last i a k e b f l q w) u = answers_on ok was t (ap drawn_in e) q.spare q.retired w.seat
  row_on t (Row.scans_not i a k c e b f w) u = restarts ok was t (ap drawn_in e) w
  row_on t (Row.acts c a rest d d' f hs e w k) u = acts_on t e w k u
  row_on t (Row.acts_not c a rest d k x i e q w) u = restarts ok was t (course_none c (a ∷ rest) d e (refused_bare rest q)) w
  row_on t (Row.no_room c rest d q e w i k y) u = no_room_on ok was t (course_none c (op.draw ∷ rest) d e refl) w k y.seat

-- a sweep
keep_same : (p q : Record → Bool) → ((r : Record) → p r ≡ q r) → (l : List Record) → keep p l ≡ keep q l
keep_same p q e [] = refl
keep_same p q e (r ∷ l) = rw (e r, keep_same p q e l)

module _ {ς : slots.State} {σ τ : State} {n : ℕ} (a : Agree ς σ) (w : Swept σ τ n) where
  -- what is due is the same on both sides
  due_same : (r : Record) → slots.freed ς r ≡ due σ r
  due_same r = clear_same ς.begun (λ s. begun_at (σ.seats s)) a.begun r.epoch seat_count

  kept : (p q : Record → Bool) → ((r : Record) → p r ≡ q r) → keep p ς.retired ≡ keep q σ.retired
  kept p q e = ap (keep p) a.retired ∙ keep_same p q e σ.retired

  -- a sweep of the index may come to the slots
  pub sweep_may : slots.May (slots.sweep n) ς
  sweep_may = w.turned ∙ sym (ap length (kept (slots.freed ς) (due σ) due_same))

  sweep_agrees : Agree (slots.after (slots.sweep n) ς) τ
  sweep_agrees = record {
    spare = λ p. ap (λ (l : List Ref). l ++ refs (keep (λ r. both (slots.freed ς r) (eqb (pool r.ref) p)) ς.retired)) (a.spare p)
        ∙ ap (λ (l : List Record). σ.spare p ++ refs l) (kept (λ r. both (slots.freed ς r) (eqb (pool r.ref) p)) (λ r. both (due σ r) (eqb (pool r.ref) p))
        (λ r. ap (λ (b : Bool). both b (eqb (pool r.ref) p)) (due_same r)))
        ∙ sym (w.spare p);
    retired = kept (λ r. not (slots.freed ς r)) (λ r. not (due σ r)) (λ r. ap not (due_same r)) ∙ sym w.retired;
    drawn = λ s. a.drawn s ∙ sym (ap drawn_by (w.seats s));
    epoch = ap suc a.epoch ∙ sym w.epoch;
    begun = λ s. a.begun s ∙ sym (ap begun_at (w.seats s));
  }

sweep_on : {N : Numbers} {h : List slots.Event} {σ τ : State} {n : ℕ} → Has N h σ → Swept σ τ n → Has N (slots.sweep n ∷ h) τ
sweep_on {n = n} ok w = record { state = slots.after (slots.sweep n) ok.state; ran = then ok.ran (slots.sweep n) (sweep_may ok.agree w); agree = sweep_agrees ok.agree w }

-- a seat that is not busy has nothing drawn and no operation
free_seat : (z : Seat) → ((o : Operation) → z ≡ busy o → ⊥) → (drawn_by z ≡ []) × (begun_at z ≡ None)
free_seat closed h = (refl, refl)
free_seat idle h = (refl, refl)
free_seat (busy o) h = absurd (h o refl)

-- each call more
module _ {K : Type 0} {N : Numbers} {accepts : K → Type 0} {bytes : K → List ℕ} {Key : List ℕ → Type 0} {h : List slots.Event} {σ : State} {g : Ghosts} (ok : Has N h σ) (v : Inv N Key σ g)
    (lk : (x : Ref) → is_linked (g.mark x) ≡ ok.state.linked x) where
  call_on : {τ : State} {c : Call K} {r : Reply} (d : Did N accepts bytes σ τ c r) → CallUnlinks g d → Has N (happened d ++ h) τ
  call_on (Did.refuses c e f q) u = subst (λ (τ : State). Has N h τ) (sym q) ok
  call_on (Did.opens s a t k) u =
      let f = free_seat (σ.seats s) (λ o e. a _ (Fits.already_open s (λ q. no_way cc))) in
      record { state = ok.state; ran = ok.ran; agree = quiet t ok.state ok.agree k.still.spare k.still.retired (sym f.0) (sym f.1) }
  call_on (Did.closes s a t k) u =
      let f = free_seat (σ.seats s) (λ o e. a _ (Fits.close_busy s o e)) in
      record { state = ok.state; ran = ok.ran; agree = quiet t ok.state ok.agree k.still.spare k.still.retired (sym f.0) (sym f.1) }
  call_on (Did.begins s task k a b t q) u =
      let f = free_seat (σ.seats s) (λ o e. a _ (Fits.begin_busy s task k o e)) in
      record {
        state = slots.after (slots.begin s) ok.state;
        ran = then ok.ran (slots.begin s) (below (ltb s seat_count) refl, ok.agree.begun s ∙ f.1);
        agree = began t ok.state ok.agree q.still.spare q.still.retired (sym f.0) refl;
      }
    where
      below : (b : Bool) → ltb s seat_count ≡ b → s < 8
      below true e = ltb-true s seat_count e
      below false e = absurd (a _ (Fits.no_such_seat s refl (ltb-false s seat_count e)))
  call_on (Did.steps s o z r a e t w) u = row_on ok e v lk t w u
  call_on (Did.sweeps n a w) u = sweep_on ok w

-- one call more
pub slots_on : {K : Type 0} {N : Numbers} {accepts : K → Type 0} {bytes : K → List ℕ} {σ τ : State} {Key : List ℕ → Type 0} {g : Ghosts} (r : Run N accepts bytes σ) → SlotsOk r → Inv N Key σ g
    → ((x : Ref) → g.mark x ≡ mark root (in_pool N) (events r) x) → (e : Event K) (d : Did N accepts bytes σ τ e.call e.reply) → CallUnlinks g d → SlotsOk (on r e d)
slots_on {N = N} {τ = τ} {g = g} r ok v m e d u = record { state = w.state; run = w.ran.run; tells = w.ran.tells; agree = w.agree }
  where
    lk : (x : Ref) → is_linked (g.mark x) ≡ ok.state.linked x
    lk x = ap is_linked (m x ∙ ap (λ (k : List slots.Event). mark root (in_pool N) k x) (sym ok.tells)) ∙ sym ((good ok.run).linked' x)

    w : Has N (happened d ++ events r) τ
    w = call_on (record { state = ok.state; ran = record { run = ok.run; tells = ok.tells }; agree = ok.agree }) v lk d u
