-- The ordered map that explains the answers.
use Rattle.std.specs.Prelude.{◌≡◌, ℕ, List, Some, None, Option, ◌≢◌}
use Rattle.model.specs.Operations.{Task, find, add, remove, next, Answer, found, absent, added, present, removed, no_room, first_is, none}

-- the value that is held with each accepted key
abbrev pub Map : Type 0 → Type 0
Map K = K → Option ℕ

module _ {K : Type 0} (accepts : K → Type 0) where
  abbrev pub Empty : Map K → Type 0
  Empty m = (k : K) → accepts k → m k ≡ None

  abbrev pub Same : Map K → Map K → Type 0
  Same m n = (k : K) → accepts k → n k ≡ m k

  -- n is m with v at k, or without k
  pub record Put (m n : Map K) (k : K) (v : Option ℕ) : Type 0 where
    pub there : n k ≡ v
    pub elsewhere : (j : K) → accepts j → (j ≢ k) → n j ≡ m j

  module _ (before : K → K → Type 0) where
    -- j with v is the first pair not below k
    pub record First (m : Map K) (k j : K) (v : ℕ) : Type 0 where
      pub accepted : accepts j
      pub held : m j ≡ Some v
      pub from : before j k → ⊥
      pub least : (i : K) (w : ℕ) → accepts i → m i ≡ Some w → (before i k → ⊥) → before i j → ⊥

    -- m, fed a task with its key, gives this answer and is n then; an answer's key is told by its bytes
    pub data Fed (bytes : K → List ℕ) (m n : Map K) : Task → K → Answer → Type 0 where
      finds : (k : K) (v : ℕ) → m k ≡ Some v → Same m n → Fed bytes m n find k (found v)
      finds_not : (k : K) → m k ≡ None → Same m n → Fed bytes m n find k absent
      adds : (k : K) (v : ℕ) → m k ≡ None → Put m n k (Some v) → Fed bytes m n (add v) k added
      adds_not : (k : K) (v w : ℕ) → m k ≡ Some w → Same m n → Fed bytes m n (add v) k (present w)
      -- no room is fed, and changes nothing
      adds_nowhere : (k : K) (v pool : ℕ) → Same m n → Fed bytes m n (add v) k (no_room pool)
      removes : (k : K) (v : ℕ) → m k ≡ Some v → Put m n k None → Fed bytes m n remove k (removed v)
      removes_not : (k : K) → m k ≡ None → Same m n → Fed bytes m n remove k absent
      comes : (k j : K) (v : ℕ) → First m k j v → Same m n → Fed bytes m n next k (first_is (bytes j) v)
      comes_not : (k : K) → ((i : K) (w : ℕ) → accepts i → m i ≡ Some w → before i k) → Same m n → Fed bytes m n next k none
