-- Operations and the stages they go through.
use Rattle.std.specs.Prelude.{ℕ, List, [], ◌∷◌, Option}
use Rattle.terms.specs.declared.Cause.{Cause}
use Rattle.model.specs.Refs.{Ref, leaf, node}
use Rattle.model.specs.Holds.{Hold}

-- what an operation is to do with its key
pub data Task : Type 0 where
  find remove next : Task
  add : ℕ → Task

-- what it answers; a pool is 1 for leaves, else the kind's number
pub data Answer : Type 0 where
  found present removed no_room : ℕ → Answer
  absent added none : Answer
  first_is : List ℕ → ℕ → Answer

-- what a step comes to: it goes on, starts again (with the cause, and the refusing node with its depth), or answers
pub data Outcome : Type 0 where
  go : Outcome
  again : Cause → Ref → ℕ → Outcome
  answers : Answer → Outcome

-- how an add or a removal goes on, with what its look has fixed:
-- the value to add, and the other leaf or the place of the miss; or the value read, the leaf, and the child that is left
pub data Course : Type 0 where
  insert grow : ℕ → Course
  split miss : ℕ → ℕ → Course
  in_place : ℕ → ℕ → Course
  collapse : ℕ → ℕ → Ref → Course

-- one step of a course
pub data Item : Type 0 where
  lock_p lock_n lock_m draw write_n write_m write_p unlock_m unlock_n unlock_n_gone unlock_p : Item

abbrev pub collapse_items : Ref → List Item
collapse_items (leaf i) = lock_p ∷ lock_n ∷ write_p ∷ unlock_n_gone ∷ unlock_p ∷ []
collapse_items (node k i) = lock_p ∷ lock_n ∷ lock_m ∷ write_m ∷ write_p ∷ unlock_m ∷ unlock_n_gone ∷ unlock_p ∷ []

abbrev pub items : Course → List Item
items (insert v) = lock_n ∷ draw ∷ write_n ∷ unlock_n ∷ []
items (split v j) = lock_n ∷ draw ∷ write_n ∷ unlock_n ∷ []
items (grow v) = lock_p ∷ lock_n ∷ draw ∷ write_p ∷ unlock_n_gone ∷ unlock_p ∷ []
items (miss v i) = lock_p ∷ lock_n ∷ draw ∷ write_n ∷ write_p ∷ unlock_n ∷ unlock_p ∷ []
items (in_place v l) = lock_n ∷ write_n ∷ unlock_n ∷ []
items (collapse v l x) = collapse_items x

-- the last step of a course answers
abbrev pub course_answer : Course → Answer
course_answer (insert v) = added
course_answer (split v j) = added
course_answer (grow v) = added
course_answer (miss v i) = added
course_answer (in_place v l) = removed v
course_answer (collapse v l x) = removed v

-- what a course has drawn: a leaf, and a node where it needs one
pub record Drawn : Type 0 where
  pub leaf_slot : ℕ
  pub node_slot : Option Ref

-- how next looks: along the key; going back, at a place of what it holds; or down by smallest children,
-- having left the key's way at a place, with so many entries on the key's way
pub data Mode : Type 0 where
  by_key : Mode
  back : ℕ → Mode
  down : ℕ → ℕ → Mode

-- what the next step does
pub data Stage : Type 0 where
  take : Ref → ℕ → Stage
  check_p look : Stage
  check_n : Answer → Stage
  act : Course → List Item → Option Drawn → Stage
  scan : ℕ → Answer → Stage

pub record Operation : Type 0 where
  pub task : Task
  pub key : List ℕ
  pub begun : ℕ
  pub restarts : ℕ
  pub mode : Mode
  pub held : List Hold
  pub stage : Stage

pub data Seat : Type 0 where
  closed idle : Seat
  busy : Operation → Seat
