-- What happens to slots in a run: which are drawn, given back, linked and unlinked, by whom.
use Rattle.std.specs.Prelude.{ℕ, ◌+◌, Bool, List, [], ◌∷◌, ◌++◌, Option, nat_le, nat_lt}
use Rattle.latches.specs.declared.word.Meaning.{Meaning}
use Rattle.model.specs.Refs.{Ref, leaf, node, pool, room}
use Rattle.model.specs.Holds.{Hold}
use Rattle.model.specs.Operations as op
use Rattle.model.specs.Operations.{Operation, Seat, Outcome, Course, Item}
use Rattle.model_slots.specs.Slots.{Event, begin, answer, draw, back, write, sweep, both}
use Rattle.machine.specs.State.{State, Numbers}
use Rattle.machine.specs.Items.{Does}
use Rattle.machine.specs.Steps.{NoRoom, Follows, Row}
use Rattle.machine.specs.Calls.{Call, Reply, Did}
use Rattle.machine.specs.Runs.{first_slot, made, on}
use Rattle.runs.specs.Runs.{Run}

-- what an item of a seat's course does to slots, the last first
abbrev pub item_events : {N : Numbers} {σ τ : State} {o : Operation} {c : Course} {a : Item} {d d' : Option op.Drawn} {f : Ref → Meaning} {hs : List Hold} → ℕ → Does N σ τ o c a d f hs d' → List Event
item_events s (Does.locks_p p n e l q) = []
item_events s (Does.locks_n hs n e l q) = []
item_events s (Does.locks_m hs n e t l q) = []
item_events s (Does.draws_leaf hs n v i ls e a q b k r f y) = draw s (leaf i) ∷ []
item_events s (Does.draws_both hs n v i j kind filled ls ns e a q b k r t u y x f w) = draw s (node kind j) ∷ draw s (leaf i) ∷ []
item_events s (Does.inserts v i hs n e w) = write s (leaf i ∷ []) [] ∷ []
item_events s (Does.splits {i = i} {y = y} hs n e w) = write s (y ∷ leaf i ∷ []) [] ∷ []
item_events s (Does.grows v i {y = y} p n e w) = write s (y ∷ leaf i ∷ []) (n.at ∷ []) ∷ []
item_events s (Does.cuts hs n e w a b) = []
item_events s (Does.misses {i = i} {y = y} p n e w) = write s (y ∷ leaf i ∷ []) [] ∷ []
item_events s (Does.removes {l = l} hs n e w) = write s [] (leaf l ∷ []) ∷ []
item_events s (Does.joins v l b p n m e k w x y) = []
item_events s (Does.collapses {l = l} x p n ms e w) = write s [] (leaf l ∷ n.at ∷ []) ∷ []
item_events s (Does.unlocks hs x p e q) = []
item_events s (Does.unlocks_gone hs x e q) = []

abbrev pub after_item : {o : Operation} {τ : State} {c : Course} {f : Ref → Meaning} {hs : List Hold} {d : Option op.Drawn} {rest : List Item} {z : Seat} {r : Outcome} → ℕ → Follows o τ c f hs d rest z r → List Event
after_item s (Follows.more w) = []
after_item s (Follows.over e) = answer s ∷ []

abbrev pub no_room_events : {σ τ : State} {o : Operation} {c : Course} {q : ℕ} → ℕ → NoRoom σ τ o c q → List Event
no_room_events s (NoRoom.no_leaf e k) = answer s ∷ []
no_room_events s (NoRoom.no_node hs n kind i ls e k a b p) = answer s ∷ back s (leaf i) ∷ draw s (leaf i) ∷ []

abbrev pub row_events : {N : Numbers} {σ τ : State} {o : Operation} {z : Seat} {r : Outcome} → ℕ → Row N σ τ o z r → List Event
row_events s (Row.takes x d g t q w) = []
row_events s (Row.takes_not x d e g t q) = []
row_events s (Row.checks_p p g e t q w) = []
row_events s (Row.checks_p_not p e g q t w) = []
row_events s (Row.looks_on hs n y e g t h q k w) = []
row_events s (Row.looks_decides hs n k g t h q l w) = []
row_events s (Row.looks_stale hs n g t h q k) = []
row_events s (Row.checks_n a hs n g h q k e) = answer s ∷ []
row_events s (Row.checks_n_not a hs n e g h q k) = []
row_events s (Row.picks_on n j keys k g t h q l w) = []
row_events s (Row.picks_stale n j keys g t h k) = []
row_events s (Row.scans i a h g q t l k w) = []
row_events s (Row.scans_last i a h g q t l k e) = answer s ∷ []
row_events s (Row.scans_not i a h e g q t k) = []
row_events s (Row.acts c a is g g' f hs e d w) = after_item s w ++ item_events s d
row_events s (Row.acts_not c a is g e x d q t k) = []
row_events s (Row.no_room c is g q e t h k w) = no_room_events s t

module _ {K : Type 0} {N : Numbers} {accepts : K → Type 0} {bytes : K → List ℕ} where
  -- what a call does to slots
  abbrev pub happened : {σ τ : State} {c : Call K} {r : Reply} → Did N accepts bytes σ τ c r → List Event
  happened (Did.refuses c e f q) = []
  happened (Did.opens s a t k) = []
  happened (Did.closes s a t k) = []
  happened (Did.begins s t k a b w x) = begin s ∷ []
  happened (Did.steps s o z r a e t w) = row_events s w
  happened (Did.sweeps n a w) = sweep n ∷ []

  -- what happened to slots in a run, the last first
  abbrev pub events : {σ : State} → Run N accepts bytes σ → List Event
  events (made n) = []
  events (on r e d) = happened d ++ events r

-- the slots of the pools
abbrev pub in_pool : Numbers → Ref → Bool
in_pool N (leaf i) = nat_lt i (N.slots (pool (leaf i)))
in_pool N (node k i) = both (nat_le (first_slot k) i) (nat_lt i (first_slot k + N.slots (room k)))
