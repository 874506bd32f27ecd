-- Rules of what a stage meets.
use Rattle.std.proofs.Common.{◌≡◌, true, is_some, Ok, Err, Result, MatchResult, sym, refl, ap, subst}
use Rattle.keys.specs.Room.{Code}
use Rattle.latches.specs.Rules.{Face}
use Rattle.index.specs.declared.operation.Met.{Met}
use Rattle.index.specs.declared.operation.Operation.{Operation}
use Rattle.index.specs.declared.operation.Stage.{Stage}
use Rattle.index.specs.declared.tree.Tree.{Tree}
use Rattle.index.specs.Machine.{moved, moved_saw, moved_done}
use Rattle.index.specs.Meets.{Meets}

-- The same rule, at a stage known by an equation.
pub at_stage : {f : Face} {k : Code} {σ τ : Tree} {m : Met} {g h : Stage} → h ≡ g → Meets f k σ τ g m → Meets f k σ τ h m
at_stage {f} {k} {σ} {τ} {m} e r = subst (λ (x : Stage). Meets f k σ τ x m) (sym e) r

-- What comes of a result, by the rule of either side.
pub met_by : {f : Face} {k : Code} {σ τ : Tree} {m : Met} {g h : Stage} {A E : Type 0} (T : Result A E → Type 0) {good : A → Met} {bad : E → Met}
    → h ≡ g → ((x : A) → T (Ok x) → Meets f k σ τ g (good x)) → ((e : E) → T (Err e) → Meets f k σ τ g (bad e))
    → {r : Result A E} → T r → MatchResult r (λ x. m ≡ good x) (λ e. m ≡ bad e) → Meets f k σ τ h m
met_by T s y n {r = Ok x} t e = at_stage s (rw e (y x t))
met_by T s y n {r = Err x} t e = at_stage s (rw e (n x t))

-- What a stage meets moves the seat on.
pub meets_moves : {f : Face} {k : Code} {σ τ : Tree} {g : Stage} {m : Met} → Meets f k σ τ g m → (o : Operation) → o.stage ≡ g → is_some (moved o m) ≡ true
meets_moves (Meets.granted _) o e = refl
meets_moves (Meets.not_granted _) o e = refl
meets_moves (Meets.saw {s = s} _ _) o e = ap (λ (g : Stage). is_some (moved_saw o s g)) e
meets_moves (Meets.ended _ _) o e = refl
meets_moves (Meets.passed _) o e = ap (λ (g : Stage). is_some (moved_done o g)) e
meets_moves (Meets.not_passed _) o e = refl
meets_moves (Meets.locked _) o e = ap (λ (g : Stage). is_some (moved_done o g)) e
meets_moves (Meets.not_locked _) o e = refl
meets_moves (Meets.drew _) o e = refl
meets_moves (Meets.no_room _) o e = refl
meets_moves (Meets.wrote _) o e = ap (λ (g : Stage). is_some (moved_done o g)) e
meets_moves (Meets.unlocked _) o e = ap (λ (g : Stage). is_some (moved_done o g)) e
