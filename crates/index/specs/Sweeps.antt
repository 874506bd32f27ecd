-- What a sweep makes spare.
use Rattle.std.specs.Prelude.{◌≡◌, ℕ, ◌+◌, Bool, true, not, cond, List, [], ◌∷◌, ◌++◌, length, map, filter, nat_lt}
use Rattle.std.specs.List.{list_all}
use Rattle.index.specs.declared.seat.Seat.{Seat}
use Rattle.index.specs.declared.seat.Seat.TheVariants.{Closed, Idle, Busy}
use Rattle.index.specs.declared.tree.Retired.{Retired}
use Rattle.index.specs.declared.tree.Tree.{Tree}
use Rattle.index.specs.Trees.{spare_of, retired_of}

-- whether a seat has no operation that began in this epoch or before
abbrev pub begins_after : Seat → ℕ → Bool
begins_after Closed e = true
begins_after Idle e = true
begins_after (Busy o) e = nat_lt e o.begun

-- whether an epoch is below that of each open operation
abbrev pub older : List Seat → ℕ → Bool
older ss e = list_all (λ s. begins_after s e) ss

-- the slots retired in such an epoch, and the records of the others, in order of retiring
abbrev pub freed_by : (ℕ → Bool) → List Retired → List ℕ
freed_by p rs = map (λ r. r.slot) (filter (λ r. p r.epoch) rs)

abbrev pub kept_by : (ℕ → Bool) → List Retired → List Retired
kept_by p rs = filter (λ r. not (p r.epoch)) rs

-- what a sweep leaves as it is
pub record Unswept (σ τ : Tree) : Type 0 where
  pub children : τ.children ≡ σ.children
  pub word : τ.word ≡ σ.word
  pub leaves : τ.leaves ≡ σ.leaves

-- the first record: its slot turns spare, or it goes behind the others
pub record SweptOne (p : ℕ → Bool) (r : Retired) (rs : List Retired) (σ τ : Tree) (turned : Bool) : Type 0 where
  pub turns : turned ≡ p r.epoch
  pub spare : spare_of τ ≡ spare_of σ ++ cond turned (r.slot ∷ []) []
  pub retired : retired_of τ ≡ rs ++ cond turned [] (r ∷ [])
  pub epoch : τ.epoch ≡ σ.epoch
  pub rest : Unswept σ τ

-- a sweep while these seats stand: the epoch rises, then every retired slot turns spare whose epoch is below that of each open operation
pub record Swept (seats : List Seat) (σ τ : Tree) (turned : ℕ) : Type 0 where
  pub epoch : τ.epoch ≡ σ.epoch + 1
  pub spare : spare_of τ ≡ spare_of σ ++ freed_by (older seats) (retired_of σ)
  pub retired : retired_of τ ≡ kept_by (older seats) (retired_of σ)
  pub count : turned ≡ length (freed_by (older seats) (retired_of σ))
  pub rest : Unswept σ τ
