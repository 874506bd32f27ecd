-- What each stage does to the tree, by the meaning of the root's word.
use Rattle.std.specs.Prelude.{◌≡◌, ℕ, List, [], ◌∷◌, ◌++◌, Some, None, Ok, Err, Option, Result, slice_index_or, slice_set}
use Rattle.std.specs.List.{slice_get}
use Rattle.inline_bytes.specs.Held.{bytes_of}
use Rattle.keys.specs.Room.{Code}
use Rattle.latches.specs.declared.word.Permit.{Permit}
use Rattle.latches.specs.Rules.{Face, Freed, take_refusal, check_refusal, lock_refusal, noted, shared, returned, held}
use Rattle.terms.specs.declared.Cause.{Cause}
use Rattle.terms.specs.declared.Kind.{Kind}
use Rattle.terms.specs.declared.Kind.TheVariants.{Leaf as LeafPool, Node4, Node16, Node48, Node256}
use Rattle.index.specs.declared.operation.Course.{Course}
use Rattle.index.specs.declared.operation.Course.TheVariants.{Insert, Split}
use Rattle.index.specs.declared.operation.Sight.{Sight}
use Rattle.index.specs.declared.operation.Sight.TheVariants.{Nothing, Same, Other}
use Rattle.index.specs.declared.tree.Tree.{Tree}
use Rattle.index.specs.Trees.{leaf_at, spare_of, retired_of}

-- nothing but the root's word differs
pub record OnlyWord (σ τ : Tree) : Type 0 where
  pub children : τ.children ≡ σ.children
  pub leaves : τ.leaves ≡ σ.leaves
  pub table : τ.table ≡ σ.table
  pub slots : τ.slots ≡ σ.slots
  pub records : τ.records ≡ σ.records
  pub retired : τ.retired ≡ σ.retired
  pub epoch : τ.epoch ≡ σ.epoch

abbrev pub Taken : Face → Tree → Tree → Result Permit Cause → Type 0
Taken f σ τ (Ok p) = (take_refusal f.limit (f.means σ.word) ≡ None) × (f.means τ.word ≡ shared (f.weight p) (f.means σ.word)) × (p ≡ noted (f.means σ.word)) × OnlyWord σ τ
Taken f σ τ (Err c) = (take_refusal f.limit (f.means σ.word) ≡ Some c) × (τ ≡ σ)

-- the child under the key's byte, and what it holds
abbrev pub Under : Tree → List ℕ → Option ℕ → Sight → Type 0
Under t k None Nothing = Unit {0}
Under t k None (Same v) = ⊥
Under t k None Other = ⊥
Under t k (Some l) Nothing = ⊥
Under t k (Some l) (Same v) = (bytes_of (leaf_at t l).key ≡ k) × (v ≡ (leaf_at t l).value)
Under t k (Some l) Other = bytes_of (leaf_at t l).key ≡ k → ⊥

abbrev pub LookedAt : Tree → List ℕ → Option ℕ → Option Sight → Type 0
LookedAt t k None None = Unit {0}
LookedAt t k None (Some s) = ⊥
LookedAt t k (Some b) None = ⊥
LookedAt t k (Some b) (Some s) = Under t k (slice_index_or t.children b None) s

-- what a look finds for a key; nothing where the key has ended
abbrev pub Looked : Tree → List ℕ → Option Sight → Type 0
Looked t k r = LookedAt t k (slice_get k 0) r

-- the permit is given back
pub record GaveBack (f : Face) (p : Permit) (σ τ : Tree) : Type 0 where
  pub word : f.means τ.word ≡ returned (f.weight p) (f.means σ.word)
  pub rest : OnlyWord σ τ

abbrev pub Checked : Face → Permit → Tree → Tree → Result (Unit {0}) Cause → Type 0
Checked f p σ τ (Ok _) = (check_refusal p (f.means σ.word) ≡ None) × GaveBack f p σ τ
Checked f p σ τ (Err c) = (check_refusal p (f.means σ.word) ≡ Some c) × GaveBack f p σ τ

abbrev pub LockedNow : Face → Permit → Tree → Tree → Result (Unit {0}) Cause → Type 0
LockedNow f p σ τ (Ok _) = (lock_refusal (f.weight p) p (f.means σ.word) ≡ None) × (f.means τ.word ≡ held (f.means σ.word)) × OnlyWord σ τ
LockedNow f p σ τ (Err c) = (lock_refusal (f.weight p) p (f.means σ.word) ≡ Some c) × GaveBack f p σ τ

-- the lock is ended, and nothing else differs
pub record Unlocked (f : Face) (σ τ : Tree) : Type 0 where
  pub word : Freed f σ.word τ.word
  pub rest : OnlyWord σ τ

-- what a draw leaves but for the word, the leaves and the spare slots
pub record Around (σ τ : Tree) : Type 0 where
  pub children : τ.children ≡ σ.children
  pub retired : retired_of τ ≡ retired_of σ
  pub epoch : τ.epoch ≡ σ.epoch

-- a new leaf with the key and this value, at the slot that was spare longest
pub record Filled (key : Code) (value slot : ℕ) (σ τ : Tree) : Type 0 where
  pub spare : spare_of σ ≡ slot ∷ spare_of τ
  pub leaves : τ.leaves ≡ slice_set σ.leaves slot (record { key = key; value = value })
  pub word : τ.word ≡ σ.word
  pub around : Around σ τ

-- no leaf is spare: the lock is ended
pub record NoLeafSpare (f : Face) (σ τ : Tree) : Type 0 where
  pub none : spare_of σ ≡ []
  pub unlocked : Unlocked f σ τ

-- no node is spare: the leaf goes behind all other spare ones, and the lock is ended
pub record NoNodeSpare (f : Face) (σ τ : Tree) : Type 0 where
  pub slot : ℕ
  pub others : List ℕ
  pub before : spare_of σ ≡ slot ∷ others
  pub after : spare_of τ ≡ others ++ slot ∷ []
  pub leaves : τ.leaves ≡ σ.leaves
  pub word : Freed f σ.word τ.word
  pub around : Around σ τ

abbrev pub LeafDrawn : Face → Code → ℕ → Tree → Tree → Result ℕ Kind → Type 0
LeafDrawn f k v σ τ (Ok l) = Filled k v l σ τ
LeafDrawn f k v σ τ (Err e) = (e ≡ LeafPool) × NoLeafSpare f σ τ

abbrev pub NothingDrawn : Face → Tree → Tree → Kind → Type 0
NothingDrawn f σ τ LeafPool = NoLeafSpare f σ τ
NothingDrawn f σ τ Node4 = NoNodeSpare f σ τ
NothingDrawn f σ τ Node16 = ⊥
NothingDrawn f σ τ Node48 = ⊥
NothingDrawn f σ τ Node256 = ⊥

-- what the course needs, or the pool that has none spare
abbrev pub DrawnFor : Face → Code → Tree → Tree → Course → Result ℕ Kind → Type 0
DrawnFor f k σ τ (Insert v) r = LeafDrawn f k v σ τ r
DrawnFor f k σ τ (Split v) (Ok l) = ⊥
DrawnFor f k σ τ (Split v) (Err e) = NothingDrawn f σ τ e

-- the children with a leaf under a byte
abbrev pub linked : Option ℕ → ℕ → List (Option ℕ) → List (Option ℕ)
linked None l xs = xs
linked (Some b) l xs = slice_set xs b (Some l)

-- the leaf is linked under the key's byte, and nothing else differs
pub record Written (k : List ℕ) (l : ℕ) (σ τ : Tree) : Type 0 where
  pub children : τ.children ≡ linked (slice_get k 0) l σ.children
  pub word : τ.word ≡ σ.word
  pub leaves : τ.leaves ≡ σ.leaves
  pub table : τ.table ≡ σ.table
  pub slots : τ.slots ≡ σ.slots
  pub records : τ.records ≡ σ.records
  pub retired : τ.retired ≡ σ.retired
  pub epoch : τ.epoch ≡ σ.epoch
