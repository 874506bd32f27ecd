-- What holds of a seat whose operation is next.
use Rattle.std.specs.Prelude.{ℕ, suc, ◌<◌, ◌≤◌, List, [], ◌∷◌, ◌++◌, length, Some, None, Option, ◌≢◌}
use Rattle.model.specs.Refs.{Ref, leaf, root}
use Rattle.model.specs.Holds.{Hold}
use Rattle.model.specs.Operations.{Operation, Answer, none, Mode, by_key, back, down, Stage, take, check_p, look, scan}
use Rattle.model_next.specs.Walk as walk
use Rattle.model_next.specs.Walk.{Walk, on, held, Seen}
use Rattle.machine.specs.State.{State, Numbers}
use Rattle.machine.specs.Steps.{pair_at}
use Rattle.invariant.specs.Ghosts.{Ghosts, SoundAt, Safe}

-- depths rise from lo on, and stay below hi
abbrev pub Rises : ℕ → List Hold → ℕ → Type 0
Rises lo [] hi = lo ≤ hi
Rises lo (h ∷ hs) hi = (lo ≤ h.depth) × Rises (suc h.depth) hs hi

module _ (N : Numbers) (σ : State) (g : Ghosts) (o : Operation) where
  -- what the walk has seen, where checks would pass
  abbrev pub Saw : Walk Hold → Type 0
  Saw w = Seen held N.deep σ.tree o.key (SoundAt σ) w

  -- the answer in hand is the pair of the leaf, or none
  pub data Says : Answer → Option ℕ → Type 0 where
    says_none : Says none None
    says_pair : (i : ℕ) → Safe o.begun g (leaf i) → Says (pair_at σ.tree i) (Some i)

  -- how mode, holdings and stage are those of a walk
  pub data Nexts : Mode → List Hold → Stage → Type 0 where
    starts : Nexts by_key [] (take root 0)
    take_key : (f : Hold) (hs : List Hold) (y : Ref) (d : ℕ) → Saw (on f hs [] (walk.take_key y d)) → Rises 0 (f ∷ hs) d → d ≤ N.deep → (y ≢ root) → Nexts by_key (f ∷ hs) (take y d)
    check_key : (f h : Hold) (hs : List Hold) → Saw (on f (h ∷ hs) [] walk.check_key) → Rises 0 (f ∷ h ∷ hs) (suc N.deep) → Nexts by_key (f ∷ h ∷ hs) check_p
    look_key : (f : Hold) (hs : List Hold) → Saw (on f hs [] walk.look_key) → Rises 0 (f ∷ hs) (suc N.deep) → Nexts by_key (f ∷ hs) look
    look_back : (f : Hold) (hs : List Hold) (n : ℕ) → Saw (on f hs [] (walk.look_back n)) → Rises 0 (f ∷ hs) N.deep → n < length hs → Nexts (back n) (f ∷ hs) look
    take_down : (f : Hold) (hs ds : List Hold) (n : ℕ) (y : Ref) (d : ℕ) → Saw (on f hs ds (walk.take_down n y d)) → Rises 0 (f ∷ hs) N.deep → Rises 1 ds d → d ≤ N.deep → n ≤ length hs → (y ≢ root)
        → Nexts (down n (suc (length hs))) (f ∷ hs ++ ds) (take y d)
    check_down : (f : Hold) (hs : List Hold) (h : Hold) (ds : List Hold) (n : ℕ) → Saw (on f hs (h ∷ ds) (walk.check_down n)) → Rises 0 (f ∷ hs) N.deep → Rises 1 (h ∷ ds) (suc N.deep) → n ≤ length hs
        → Nexts (down n (suc (length hs))) (f ∷ hs ++ h ∷ ds) check_p
    look_down : (f : Hold) (hs : List Hold) (h : Hold) (ds : List Hold) (n : ℕ) → Saw (on f hs (h ∷ ds) (walk.look_down n)) → Rises 0 (f ∷ hs) N.deep → Rises 1 (h ∷ ds) (suc N.deep) → n ≤ length hs
        → Nexts (down n (suc (length hs))) (f ∷ hs ++ h ∷ ds) look
    scans : (m : Mode) (f : Hold) (hs ds : List Hold) (n i : ℕ) (a : Answer) (r : Option ℕ) → Saw (on f hs ds (walk.scan n i r)) → Rises 0 (f ∷ hs) N.deep → Rises 1 ds N.deep → Says a r → i < length (f ∷ hs ++ ds)
        → Nexts m (f ∷ hs ++ ds) (scan i a)
