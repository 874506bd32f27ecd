use Rattle.std.specs.Prelude.{ℕ, ◌<◌, ◌≤◌, List, [], ◌∷◌, ◌++◌, length, take, drop, Some, None, Option}
use Rattle.pools.specs.declared.queue.Queue.{Queue}

-- the table read from the head on, round to the head again
abbrev pub around : {A : Type 0} → ℕ → List A → List A
around h xs = drop h xs ++ take h xs

-- what waits in the queue, the first to go first
abbrev pub contents : {A : Type 0} → List A → Queue → List A
contents xs q = take q.len (around q.head xs)

-- the queue fits the table
abbrev pub Fits : {A : Type 0} → List A → Queue → Type 0
Fits xs q = (q.head < length xs) × (q.len ≤ length xs)

abbrev pub first : {A : Type 0} → List A → Option A
first [] = None
first (x ∷ xs) = Some x

abbrev pub rest : {A : Type 0} → List A → List A
rest [] = []
rest (x ∷ xs) = xs
