-- A machine of slots: spare queues, drawn slots, linked slots, retired records, an epoch, open operations.
use Rattle.std.specs.Prelude.{◌≡◌, ℕ, zero, suc, ◌+◌, ◌<◌, ◌≤◌, Bool, true, false, cond, List, [], ◌∷◌, ◌++◌, length, Some, None, Option, ◌==◌, nat_lt}
use Rattle.model.specs.Records.{Record}
use Rattle.model.specs.Refs.{Ref, pool, is}

abbrev pub bit : Bool → ℕ
bit true = 1
bit false = 0

abbrev pub both : Bool → Bool → Bool
both true b = b
both false b = false

abbrev pub not : Bool → Bool
not true = false
not false = true

-- how often x stands in a list
abbrev pub count : Ref → List Ref → ℕ
count x [] = 0
count x (y ∷ l) = bit (is x y) + count x l

abbrev pub has : Ref → List Ref → Bool
has x [] = false
has x (y ∷ l) = cond (is x y) true (has x l)

abbrev pub tail : List Ref → List Ref
tail [] = []
tail (y ∷ l) = l

abbrev pub refs : List Record → List Ref
refs [] = []
refs (r ∷ l) = r.ref ∷ refs l

abbrev pub stamped : ℕ → List Ref → List Record
stamped n [] = []
stamped n (y ∷ l) = record { ref = y; epoch = n } ∷ stamped n l

abbrev pub keep : (Record → Bool) → List Record → List Record
keep q [] = []
keep q (r ∷ l) = cond (q r) (r ∷ keep q l) (keep q l)

pub record State : Type 0 where
  pub spare : ℕ → List Ref
  pub retired : List Record
  pub drawn : ℕ → List Ref
  pub linked : Ref → Bool
  pub epoch : ℕ
  pub begun : ℕ → Option ℕ

-- write: a seat's drawn slots, all of them, become linked, and some linked ones are retired; sweep has its answer
pub data Event : Type 0 where
  begin answer : ℕ → Event
  draw back : ℕ → Ref → Event
  write : ℕ → List Ref → List Ref → Event
  sweep : ℕ → Event
  other : Event

abbrev pub late : ℕ → Option ℕ → Bool
late r None = true
late r (Some e) = nat_lt r e

-- no operation of the seats below n began in the epoch r or before
abbrev pub clear : (ℕ → Option ℕ) → ℕ → ℕ → Bool
clear o r zero = true
clear o r (suc n) = both (late r (o n)) (clear o r n)

abbrev pub freed : State → Record → Bool
freed σ r = clear σ.begun r.epoch 8

abbrev pub after : Event → State → State
after (begin s) σ = record {
  spare = σ.spare;
  retired = σ.retired;
  drawn = σ.drawn;
  linked = σ.linked;
  epoch = σ.epoch;
  begun = λ t. cond (t == s) (Some σ.epoch) (σ.begun t);
}
after (answer s) σ = record {
  spare = σ.spare;
  retired = σ.retired;
  drawn = σ.drawn;
  linked = σ.linked;
  epoch = σ.epoch;
  begun = λ t. cond (t == s) None (σ.begun t);
}
after (draw s x) σ = record {
  spare = λ p. cond (pool x == p) (tail (σ.spare p)) (σ.spare p);
  retired = σ.retired;
  drawn = λ t. cond (t == s) (x ∷ σ.drawn t) (σ.drawn t);
  linked = σ.linked;
  epoch = σ.epoch;
  begun = σ.begun;
}
after (back s x) σ = record {
  spare = λ p. cond (pool x == p) (σ.spare p ++ (x ∷ [])) (σ.spare p);
  retired = σ.retired;
  drawn = λ t. cond (t == s) (tail (σ.drawn t)) (σ.drawn t);
  linked = σ.linked;
  epoch = σ.epoch;
  begun = σ.begun;
}
after (write s new old) σ = record {
  spare = σ.spare;
  retired = σ.retired ++ stamped σ.epoch old;
  drawn = λ t. cond (t == s) [] (σ.drawn t);
  linked = λ x. cond (has x old) false (cond (has x new) true (σ.linked x));
  epoch = σ.epoch;
  begun = σ.begun;
}
after (sweep n) σ = record {
  spare = λ p. σ.spare p ++ refs (keep (λ r. both (freed σ r) (pool r.ref == p)) σ.retired);
  retired = keep (λ r. not (freed σ r)) σ.retired;
  drawn = σ.drawn;
  linked = σ.linked;
  epoch = suc σ.epoch;
  begun = σ.begun;
}
after other σ = σ

-- when an event may come
abbrev pub May : Event → State → Type 0
May (begin s) σ = (s < 8) × (σ.begun s ≡ None)
May (answer s) σ = σ.drawn s ≡ []
May (draw s x) σ = ((e : ℕ) × (σ.begun s ≡ Some e)) × ((l : List Ref) × (σ.spare (pool x) ≡ x ∷ l))
May (back s x) σ = (l : List Ref) × (σ.drawn s ≡ x ∷ l)
May (write s new old) σ = (σ.drawn s ≡ new) × ((x : Ref) → count x old ≤ bit (σ.linked x))
May (sweep n) σ = n ≡ length (keep (freed σ) σ.retired)
May other σ = Unit {0}

-- at first the root alone is linked, and each other slot of a pool stands once in its queue; a run is over the pools' slots, all
pub record New (root : Ref) (all : Ref → Bool) (σ : State) : Type 0 where
  pub linked : (x : Ref) → σ.linked x ≡ is x root
  pub spare : (x : Ref) (p : ℕ) → count x (σ.spare p) ≡ bit (both (both (not (is x root)) (all x)) (pool x == p))
  pub retired : σ.retired ≡ []
  pub drawn : (s : ℕ) → σ.drawn s ≡ []
  pub epoch : σ.epoch ≡ 0
  pub begun : (s : ℕ) → σ.begun s ≡ None

pub data Run (root : Ref) (all : Ref → Bool) : State → Type 0 where
  made : {σ : State} → New root all σ → Run root all σ
  on : {σ : State} → Run root all σ → (e : Event) → May e σ → Run root all (after e σ)

-- the events of a run, the newest first
abbrev pub history : {root : Ref} {all : Ref → Bool} {σ : State} → Run root all σ → List Event
history (Run.made n) = []
history (Run.on r e m) = e ∷ history r
