-- What holds of the index after every call.
use Rattle.std.specs.Prelude.{◌≡◌, ℕ, ◌<◌, ◌≤◌, false, ◌⊎◌, List, [], ◌∷◌, ◌++◌, Some, Option, ◌≢◌}
use Rattle.terms.specs.Limits.{seat_count}
use Rattle.model.specs.Bytes.{◌≼◌}
use Rattle.model.specs.Refs.{Ref, root, IsNode, pool}
use Rattle.model.specs.Tree.{child, Status, Linked, TreeOk}
use Rattle.model.specs.Holds.{Hold}
use Rattle.model.specs.Operations.{Operation, next, by_key, Stage, take, check_p, look, check_n, act, Answer, Course, Item, Drawn, closed, busy}
use Rattle.model_tree.specs.Graft.{Closed, UpTo}
use Rattle.model_tree.specs.Writes as writes
use Rattle.model_words.specs.Words.{WordsOk, Every}
use Rattle.model_words.specs.Places.{PlacesOk}
use Rattle.model_slots.specs.Slots.{count}
use Rattle.model_slots.specs.Laws.{spare}
use Rattle.machine.specs.State.{State, Numbers}
use Rattle.machine.specs.Steps.{is_next}
use Rattle.invariant.specs.Ghosts.{Ghosts, ghost, place_at, words_of, Flux, Permits}
use Rattle.invariant.specs.Seats.{Decides, Above, Stand, Aloft, Reads}
use Rattle.invariant.specs.Courses.{Acts}
use Rattle.invariant.specs.Nexts.{Nexts}

-- what is known of an index's numbers and of the bytes of accepted keys
pub record Lawful (N : Numbers) (Key : List ℕ → Type 0) : Type 0 where
  pub some : 1 ≤ N.limit
  pub light : (n : ℕ) → N.weight n ≤ 1
  pub deep : 0 < N.deep
  pub keys : writes.Laws N.deep Key
  pub not_empty : Key [] → ⊥

module _ (N : Numbers) (Key : List ℕ → Type 0) (σ : State) (g : Ghosts) where
  -- find, add and remove: what is held, by stage
  pub data Walks (s : ℕ) (o : Operation) : List Hold → Stage → Type 0 where
    starts : Walks s o [] (take root 0)
    to_take : (hs : List Hold) (p : Hold) (y : Ref) (d : ℕ) → Aloft N σ g o p hs → Permits (hs ++ p ∷ []) → Above N σ g o p y d → Walks s o (hs ++ p ∷ []) (take y d)
    to_check_p : (hs : List Hold) (p n : Hold) → Aloft N σ g o p hs → Permits (hs ++ p ∷ n ∷ []) → Above N σ g o p n.at n.depth → Walks s o (hs ++ p ∷ n ∷ []) check_p
    to_look : (hs : List Hold) (n : Hold) → Stand N σ g o hs n → Permits (hs ++ n ∷ []) → Walks s o (hs ++ n ∷ []) look
    to_check_n : (hs : List Hold) (n : Hold) (a : Answer) → Stand N σ g o hs n → Permits (hs ++ n ∷ []) → Decides N σ g o n (check_n a) → Walks s o (hs ++ n ∷ []) (check_n a)
    acts : {hs : List Hold} (c : Course) (is : List Item) (d : Option Drawn) → Acts N Key σ g s o c is d hs → Walks s o hs (act c is d)

  -- what is to be taken may still be read
  pub data Aims (o : Operation) : Stage → Type 0 where
    at : (y : Ref) (d : ℕ) → Reads N σ g o y → Aims o (take y d)
    at_none : {k : Stage} → ((y : Ref) (d : ℕ) → k ≡ take y d → ⊥) → Aims o k

  pub record SeatOk (s : ℕ) (o : Operation) : Type 0 where
    pub key : Key o.key
    pub begun : o.begun ≤ σ.epoch
    pub reads : Every (λ h. Reads N σ g o h.at) o.held
    pub aims : Aims o o.stage
    pub doing : ((is_next o.task ≡ false) × (o.mode ≡ by_key) × Walks s o o.held o.stage) ⊎ ((o.task ≡ next) × Nexts N σ g o o.mode o.held o.stage)

  -- children stand under bytes, and the bytes before and with prefixes are bytes
  pub record Spelled : Type 0 where
    pub child_byte : (x : Ref) (b : ℕ) (y : Ref) → child σ.tree x b ≡ Some y → b < 256
    pub full_byte : (x : Ref) (u : List ℕ) (b : ℕ) → IsNode x → Linked (ghost g) x → (u ++ b ∷ []) ≼ g.full x → b < 256

  pub record Inv : Type 0 where
    pub tree : TreeOk N.deep Key (Flux σ) σ.tree (ghost g)
    pub spelled : Spelled
    pub closed' : Closed σ.tree (ghost g)
    pub rootless : (x : Ref) (r b : ℕ) → (ghost g).st x ≡ Status.retired r → child σ.tree x b ≢ Some root
    pub upto : UpTo (ghost g) σ.epoch
    pub words : WordsOk N.limit (words_of σ)
    pub places : PlacesOk (place_at g) σ.words
    pub queued : (x : Ref) (p : ℕ) → 0 < count x (σ.spare p) → (g.mark x ≡ spare) × (pool x ≡ p)
    pub seats : (s : ℕ) (o : Operation) → σ.seats s ≡ busy o → SeatOk s o
    -- next never locks
    pub calm : (s : ℕ) (o : Operation) → σ.seats s ≡ busy o → o.task ≡ next → Permits o.held
    pub outside : (s : ℕ) → seat_count ≤ s → σ.seats s ≡ closed
