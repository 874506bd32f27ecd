-- Just made indexes, and the runs from such as these.
use Rattle.std.specs.Prelude.{◌≡◌, ℕ, zero, suc, List, [], ◌∷◌, None, ◌≢◌}
use Rattle.latches.specs.Rules.{fresh}
use Rattle.model.specs.Refs.{Kind, four, sixteen, forty_eight, whole, room, Ref, leaf, node, root, pool}
use Rattle.model.specs.Tree.{child, prefix}
use Rattle.model.specs.Operations.{closed}
use Rattle.machine.specs.State.{State, Numbers, WordsAre}
use Rattle.machine.specs.Calls.{Call, Reply, Did}

-- so many slots, rising
abbrev pub rising : (ℕ → Ref) → ℕ → ℕ → List Ref
rising f i zero = []
rising f i (suc n) = f i ∷ rising f (suc i) n

-- the first slot of a kind's pool: the root stands before its own
abbrev pub first_slot : Kind → ℕ
first_slot four = 0
first_slot sixteen = 0
first_slot forty_eight = 0
first_slot whole = 1

-- a just made index: an empty root, every slot of a pool spare
pub record New (N : Numbers) (σ : State) : Type 0 where
  pub root_prefix : prefix σ.tree root ≡ []
  pub root_child : (b : ℕ) → child σ.tree root b ≡ None
  pub words : WordsAre (λ x. fresh) σ
  pub leaves : σ.spare (pool (leaf 0)) ≡ rising leaf 0 (N.slots (pool (leaf 0)))
  pub nodes : (k : Kind) → σ.spare (room k) ≡ rising (node k) (first_slot k) (N.slots (room k))
  pub no_pool : (q : ℕ) → ((x : Ref) → pool x ≢ q) → σ.spare q ≡ []
  pub retired : σ.retired ≡ []
  pub epoch : σ.epoch ≡ 0
  pub calls : σ.calls ≡ 0
  pub seats : (s : ℕ) → σ.seats s ≡ closed

-- a call with what it returned
pub record Event (K : Type 0) : Type 0 where
  pub call : Call K
  pub reply : Reply

-- runs from an index that is Made
pub data Run {K : Type 0} (Made : State → Type 0) (N : Numbers) (accepts : K → Type 0) (bytes : K → List ℕ) : State → Type 0 where
  made : {σ : State} → Made σ → Run Made N accepts bytes σ
  on : {σ τ : State} → Run Made N accepts bytes σ → (e : Event K) → Did N accepts bytes σ τ e.call e.reply → Run Made N accepts bytes τ

-- the events of a run, the newest first
abbrev pub history : {K : Type 0} {Made : State → Type 0} {N : Numbers} {accepts : K → Type 0} {bytes : K → List ℕ} {σ : State} → Run Made N accepts bytes σ → List (Event K)
history (Run.made n) = []
history (Run.on r e d) = e ∷ history r
