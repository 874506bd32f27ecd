-- What the items of a course do.
use Rattle.std.specs.Prelude.{◌≡◌, ℕ, suc, ◌+◌, ◌-◌, cond, List, [], ◌∷◌, ◌++◌, length, take, drop, Some, None, Option, ◌==◌, ◌≢◌, slice_index}
use Rattle.latches.specs.declared.word.Meaning.{Meaning}
use Rattle.latches.specs.declared.word.Permit.{Permit}
use Rattle.latches.specs.Rules.{take_refusal, check_refusal, lock_refusal, noted, shared, held, freed, freed_gone, revived}
use Rattle.terms.specs.declared.Cause.{Cause}
use Rattle.model.specs.Refs.{Kind, four, sixteen, forty_eight, whole, room, Ref, leaf, node, pool}
use Rattle.model.specs.Tree.{Tree, Content, child, prefix}
use Rattle.model.specs.Holds.{Grip, Locked, Hold, put}
use Rattle.model.specs.Operations.{Operation, Course, insert, grow, split, miss, in_place, collapse, Item, lock_p, lock_n, lock_m, draw, write_n, write_m, write_p, unlock_m, unlock_n, unlock_n_gone, unlock_p, Drawn}
use Rattle.model_tree.specs.Graft.{Wrote}
use Rattle.machine.specs.State.{State, Numbers, Still}
use Rattle.machine.specs.Choices.{key_byte}

-- what a latch answers to a permit that is held
abbrev pub noted_by : ℕ → Permit
noted_by c = record { count = c }

abbrev pub check_by : Grip → Meaning → Option Cause
check_by (Grip.Permit c w) m = check_refusal (noted_by c) m
check_by Locked m = None

abbrev pub lock_by : Grip → Meaning → Option Cause
lock_by (Grip.Permit c w) m = lock_refusal w (noted_by c) m
lock_by Locked m = None

abbrev pub locked : Hold → Hold
locked h = record { at = h.at; depth = h.depth; grip = Locked }

-- the byte under which p leads to n
abbrev pub byte_above : List ℕ → Hold → ℕ
byte_above k n = slice_index k (n.depth - 1)

-- the longest common beginning
abbrev pub common : List ℕ → List ℕ → List ℕ
common [] v = []
common (a ∷ u) [] = []
common (a ∷ u) (b ∷ v) = cond (a == b) (a ∷ common u v) []

-- two children
abbrev pub fork : ℕ → Ref → ℕ → Ref → ℕ → Option Ref
fork b x c y e = cond (e == b) (Some x) (cond (e == c) (Some y) None)

-- the node that a split, a growth or a miss fills in, with the leaf i
module _ (S : Tree) (k : List ℕ) (n : Hold) (i : ℕ) where
  -- how many key bytes come before the branch of the two leaves
  abbrev pub branch : ℕ → ℕ
  branch j = suc (n.depth + length (prefix S n.at)) + length (common (drop (suc (n.depth + length (prefix S n.at))) k) (drop (suc (n.depth + length (prefix S n.at))) (S.entries j).key))

  abbrev pub split_node : ℕ → Content
  split_node j = record {
    prefix = common (drop (suc (n.depth + length (prefix S n.at))) k) (drop (suc (n.depth + length (prefix S n.at))) (S.entries j).key);
    child = fork (slice_index (S.entries j).key (branch j)) (leaf j) (slice_index k (branch j)) (leaf i);
  }

  abbrev pub grown_node : Content
  grown_node = record { prefix = prefix S n.at; child = λ e. cond (e == key_byte S k n) (Some (leaf i)) (child S n.at e) }

  abbrev pub miss_node : ℕ → Content
  miss_node m = record {
    prefix = take m (prefix S n.at);
    child = fork (slice_index (prefix S n.at) m) n.at (slice_index k (n.depth + m)) (leaf i);
  }

-- the next larger kind
abbrev pub larger : Ref → Option Kind
larger (leaf i) = None
larger (node four i) = Some sixteen
larger (node sixteen i) = Some forty_eight
larger (node forty_eight i) = Some whole
larger (node whole i) = None

-- the kind of node that a course draws
abbrev pub draws : Hold → Course → Option Kind
draws n (insert v) = None
draws n (split v j) = Some four
draws n (grow v) = larger n.at
draws n (miss v i) = Some four
draws n (in_place v l) = None
draws n (collapse v l x) = None

abbrev pub filling : Tree → List ℕ → Hold → ℕ → Course → Option Content
filling S k n i (insert v) = None
filling S k n i (split v j) = Some (split_node S k n i j)
filling S k n i (grow v) = Some (grown_node S k n i)
filling S k n i (miss v m) = Some (miss_node S k n i m)
filling S k n i (in_place v l) = None
filling S k n i (collapse v l x) = None

-- the value that an add puts in
abbrev pub adds : Course → Option ℕ
adds (insert v) = Some v
adds (split v j) = Some v
adds (grow v) = Some v
adds (miss v i) = Some v
adds (in_place v l) = None
adds (collapse v l x) = None

-- one leaf is filled in
pub record LeafFilled (S T : Tree) (i : ℕ) (k : List ℕ) (v : ℕ) : Type 0 where
  pub key : (T.entries i).key ≡ k
  pub value : (T.entries i).value ≡ v
  pub others : (j : ℕ) → (j ≢ i) → T.entries j ≡ S.entries j

-- one node is filled in
pub record NodeFilled (S T : Tree) (y : Ref) (c : Content) : Type 0 where
  pub prefix_is : prefix T y ≡ c.prefix
  pub child_is : (b : ℕ) → child T y b ≡ c.child b
  pub others : (x : Ref) → (x ≢ y) → (prefix T x ≡ prefix S x) × ((b : ℕ) → child T x b ≡ child S x b)

-- only one prefix differs
pub record Prefixed (S T : Tree) (x : Ref) (q : List ℕ) : Type 0 where
  pub there : prefix T x ≡ q
  pub elsewhere : (y : Ref) → (y ≢ x) → prefix T y ≡ prefix S y
  pub kids : (y : Ref) (b : ℕ) → child T y b ≡ child S y b
  pub entries : (i : ℕ) → T.entries i ≡ S.entries i

-- the queue of one pool differs
pub record Pooled (σ τ : State) (q : ℕ) (rest : List Ref) : Type 0 where
  pub there : τ.spare q ≡ rest
  pub elsewhere : (p : ℕ) → (p ≢ q) → τ.spare p ≡ σ.spare p

-- slots join the retired ones, in this order
abbrev pub Retires : State → State → List Ref → Type 0
Retires σ τ [] = τ.retired ≡ σ.retired
Retires σ τ (x ∷ []) = τ.retired ≡ σ.retired ++ record { ref = x; epoch = σ.epoch } ∷ []
Retires σ τ (x ∷ y ∷ zs) = τ.retired ≡ σ.retired ++ record { ref = x; epoch = σ.epoch } ∷ record { ref = y; epoch = σ.epoch } ∷ []

-- a write: one child of one node is exchanged, and some slots are retired
pub record Writes (σ τ : State) (a : Ref) (b : ℕ) (z : Option Ref) (out : List Ref) : Type 0 where
  pub wrote : Wrote σ.tree τ.tree a b z
  pub spare : τ.spare ≡ σ.spare
  pub retires : Retires σ τ out

-- an unlock that marks nothing as gone
abbrev pub Plain : Item → Type 0
Plain lock_p = ⊥
Plain lock_n = ⊥
Plain lock_m = ⊥
Plain draw = ⊥
Plain write_n = ⊥
Plain write_m = ⊥
Plain write_p = ⊥
Plain unlock_m = Unit {0}
Plain unlock_n = Unit {0}
Plain unlock_n_gone = ⊥
Plain unlock_p = Unit {0}

-- one item done: the words after it, what is held after it, and what is drawn
pub data Does (N : Numbers) (σ τ : State) (o : Operation) : Course → Item → Option Drawn → (Ref → Meaning) → List Hold → Option Drawn → Type 0 where
  locks_p : {c : Course} {g : Option Drawn} (p n : Hold) → o.held ≡ p ∷ n ∷ [] → lock_by p.grip (σ.words p.at) ≡ None → Still σ τ
      → Does N σ τ o c lock_p g (put σ.words p.at (held (σ.words p.at))) (locked p ∷ n ∷ []) g
  locks_n : {c : Course} {g : Option Drawn} (hs : List Hold) (n : Hold) → o.held ≡ hs ++ n ∷ [] → lock_by n.grip (σ.words n.at) ≡ None → Still σ τ
      → Does N σ τ o c lock_n g (put σ.words n.at (held (σ.words n.at))) (hs ++ locked n ∷ []) g
  -- m is taken and locked in one step
  locks_m : {v l : ℕ} {m : Ref} {g : Option Drawn} (hs : List Hold) (n : Hold) → o.held ≡ hs ++ n ∷ [] → take_refusal N.limit (σ.words m) ≡ None
      → lock_refusal (N.weight o.restarts) (noted (σ.words m)) (shared (N.weight o.restarts) (σ.words m)) ≡ None → Still σ τ
      → Does N σ τ o (collapse v l m) lock_m g (put σ.words m (held (σ.words m)))
      (o.held ++ record { at = m; depth = suc (n.depth + length (prefix σ.tree n.at)); grip = Locked } ∷ []) g
  draws_leaf : {c : Course} (hs : List Hold) (n : Hold) (v i : ℕ) (ls : List Ref) → o.held ≡ hs ++ n ∷ [] → adds c ≡ Some v → draws n c ≡ None
      → σ.spare (pool (leaf i)) ≡ leaf i ∷ ls → Pooled σ τ (pool (leaf i)) ls → τ.retired ≡ σ.retired
      → LeafFilled σ.tree τ.tree i o.key v → τ.tree.contents ≡ σ.tree.contents
      → Does N σ τ o c draw None σ.words o.held (Some (record { leaf_slot = i; node_slot = None }))
  draws_both : {c : Course} (hs : List Hold) (n : Hold) (v i j : ℕ) (kind : Kind) (filled : Content) (ls ns : List Ref) → o.held ≡ hs ++ n ∷ [] → adds c ≡ Some v → draws n c ≡ Some kind
      → filling σ.tree o.key n i c ≡ Some filled
      → σ.spare (pool (leaf i)) ≡ leaf i ∷ ls → σ.spare (room kind) ≡ node kind j ∷ ns
      → τ.spare (pool (leaf i)) ≡ ls → τ.spare (room kind) ≡ ns → ((q : ℕ) → (q ≢ pool (leaf i)) → (q ≢ room kind) → τ.spare q ≡ σ.spare q) → τ.retired ≡ σ.retired
      → LeafFilled σ.tree τ.tree i o.key v → NodeFilled σ.tree τ.tree (node kind j) filled
      → Does N σ τ o c draw None (put σ.words (node kind j) (revived (σ.words (node kind j)))) o.held (Some (record { leaf_slot = i; node_slot = Some (node kind j) }))
  inserts : (v i : ℕ) (hs : List Hold) (n : Hold) → o.held ≡ hs ++ n ∷ [] → Writes σ τ n.at (key_byte σ.tree o.key n) (Some (leaf i)) []
      → Does N σ τ o (insert v) write_n (Some (record { leaf_slot = i; node_slot = None })) σ.words o.held None
  splits : {v j i : ℕ} {y : Ref} (hs : List Hold) (n : Hold) → o.held ≡ hs ++ n ∷ [] → Writes σ τ n.at (key_byte σ.tree o.key n) (Some y) []
      → Does N σ τ o (split v j) write_n (Some (record { leaf_slot = i; node_slot = Some y })) σ.words o.held None
  grows : (v i : ℕ) {y : Ref} (p n : Hold) → o.held ≡ p ∷ n ∷ [] → Writes σ τ p.at (byte_above o.key n) (Some y) (n.at ∷ [])
      → Does N σ τ o (grow v) write_p (Some (record { leaf_slot = i; node_slot = Some y })) σ.words o.held None
  -- a miss cuts n's prefix behind the place first
  cuts : {v m : ℕ} {g : Option Drawn} (hs : List Hold) (n : Hold) → o.held ≡ hs ++ n ∷ [] → Prefixed σ.tree τ.tree n.at (drop (suc m) (prefix σ.tree n.at))
      → τ.spare ≡ σ.spare → τ.retired ≡ σ.retired → Does N σ τ o (miss v m) write_n g σ.words o.held g
  misses : {v m i : ℕ} {y : Ref} (p n : Hold) → o.held ≡ p ∷ n ∷ [] → Writes σ τ p.at (byte_above o.key n) (Some y) []
      → Does N σ τ o (miss v m) write_p (Some (record { leaf_slot = i; node_slot = Some y })) σ.words o.held None
  removes : {v l : ℕ} (hs : List Hold) (n : Hold) → o.held ≡ hs ++ n ∷ [] → Writes σ τ n.at (key_byte σ.tree o.key n) None (leaf l ∷ [])
      → Does N σ τ o (in_place v l) write_n None σ.words o.held None
  -- m's prefix becomes n's prefix, m's byte, m's old prefix
  joins : (v l b : ℕ) (p n m : Hold) → o.held ≡ p ∷ n ∷ m ∷ [] → child σ.tree n.at b ≡ Some m.at
      → Prefixed σ.tree τ.tree m.at (prefix σ.tree n.at ++ b ∷ prefix σ.tree m.at) → τ.spare ≡ σ.spare → τ.retired ≡ σ.retired
      → Does N σ τ o (collapse v l m.at) write_m None σ.words o.held None
  collapses : {v l : ℕ} (x : Ref) (p n : Hold) (ms : List Hold) → o.held ≡ p ∷ n ∷ ms → Writes σ τ p.at (byte_above o.key n) (Some x) (leaf l ∷ n.at ∷ [])
      → Does N σ τ o (collapse v l x) write_p None σ.words o.held None
  -- an unlock ends the newest lock
  unlocks : {c : Course} {a : Item} {g : Option Drawn} (hs : List Hold) (x : Hold) → Plain a → o.held ≡ hs ++ x ∷ [] → Still σ τ
      → Does N σ τ o c a g (put σ.words x.at (freed (σ.words x.at))) hs g
  unlocks_gone : {c : Course} {g : Option Drawn} (hs : List Hold) (x : Hold) → o.held ≡ hs ++ x ∷ [] → Still σ τ
      → Does N σ τ o c unlock_n_gone g (put σ.words x.at (freed_gone (σ.words x.at))) hs g
