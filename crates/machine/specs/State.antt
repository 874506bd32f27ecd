-- The index as a mathematical value.
use Rattle.std.specs.Prelude.{◌≡◌, ℕ, suc, List, []}
use Rattle.latches.specs.declared.word.Meaning.{Meaning}
use Rattle.model.specs.Refs.{Ref, root}
use Rattle.model.specs.Records.{Record}
use Rattle.model.specs.Tree.{Tree}
use Rattle.model.specs.Holds.{Hold, let_go_all}
use Rattle.model.specs.Operations.{Operation, Stage, take, Mode, by_key, Seat, idle, busy, Outcome, again, answers, Answer}
use Rattle.terms.specs.declared.Cause.{Cause}

-- spare: by pool, the first to be drawn first; retired: the oldest first
pub record State : Type 0 where
  pub tree : Tree
  pub words : Ref → Meaning
  pub spare : ℕ → List Ref
  pub retired : List Record
  pub epoch : ℕ
  pub calls : ℕ
  pub seats : ℕ → Seat

-- the numbers of an index: how many slots each pool has, the most bytes of a key, the most shares of a word, and what a
-- permit weighs that is taken after so many restarts
pub record Numbers : Type 0 where
  pub slots : ℕ → ℕ
  pub deep : ℕ
  pub limit : ℕ
  pub weight : ℕ → ℕ

-- tree and pools stay
pub record Still (σ τ : State) : Type 0 where
  pub tree : τ.tree ≡ σ.tree
  pub spare : τ.spare ≡ σ.spare
  pub retired : τ.retired ≡ σ.retired

-- the words after a step
abbrev pub WordsAre : (Ref → Meaning) → State → Type 0
WordsAre f τ = (y : Ref) → τ.words y ≡ f y

-- the operation with other holdings and at another stage
abbrev pub with : Operation → Mode → List Hold → Stage → Seat
with o m hs g = busy (record { task = o.task; key = o.key; begun = o.begun; restarts = o.restarts; mode = m; held = hs; stage = g })

-- a new attempt: nothing is held, and the root is taken first
abbrev pub anew : Operation → Seat
anew o = busy (record { task = o.task; key = o.key; begun = o.begun; restarts = suc o.restarts; mode = by_key; held = []; stage = take root 0 })

-- the operation lets go of everything and starts again
pub record Restarts (σ τ : State) (o : Operation) (c : Cause) (x : Ref) (d : ℕ) (z : Seat) (r : Outcome) : Type 0 where
  pub still : Still σ τ
  pub words : WordsAre (let_go_all o.held σ.words) τ
  pub seat : z ≡ anew o
  pub outcome : r ≡ again c x d

-- the operation lets go of what it still holds and answers
pub record Ends (f : Ref → Meaning) (hs : List Hold) (τ : State) (a : Answer) (z : Seat) (r : Outcome) : Type 0 where
  pub words : WordsAre (let_go_all hs f) τ
  pub seat : z ≡ idle
  pub outcome : r ≡ answers a
