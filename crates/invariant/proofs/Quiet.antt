-- Steps that leave the tree as it is.
use Rattle.std.proofs.Common.{◌≡◌, ℕ, List, sym, refl, ap, ◌∙◌, subst, inl, arith}
use Rattle.model.specs.Refs.{Ref}
use Rattle.model.specs.Tree.{Tree, child, prefix, TreeOk, Holds}
use Rattle.model.specs.Operations.{Operation, Seat, busy, Outcome}
use Rattle.machine.specs.State.{State, Numbers}
use Rattle.machine.specs.Steps.{Row}
use Rattle.invariant.specs.Ghosts.{Ghosts, ghost, FluxOf, Flux}
use Rattle.invariant.specs.Invariant.{SeatOk, Inv}
use Rattle.invariant.specs.Changes.{Leaves, HoldsSame}
use Rattle.invariant.proofs.Setting.{Step}
use Rattle.model_tree.specs.Graft.{Closed}
use native.Mathlib.Decide.{ℕ_discrete}
use Rattle.invariant.proofs.RowWords.{row_places}
use Rattle.invariant.proofs.Written.{flux_more}

-- what is in flux stays so, where the seat's own stage is no flux stage
pub flux_goes : {N : Numbers} {Key : List ℕ → Type 0} {σ τ : State} {g : Ghosts} {s : ℕ} {o : Operation} {z : Seat} {r : Outcome} → Step N Key σ τ g s o z r → ((x : Ref) → FluxOf o x → ⊥) → (x : Ref) → Flux σ x → Flux τ x
flux_goes {σ = σ} {s = s} {o = o} st n x (t, u, l, e, f) = elim (ℕ_discrete t s) [
  | yes q ↦ (let both : busy u ≡ busy o = sym e ∙ ap σ.seats q ∙ st.was in let w : u ≡ o = cc in absurd (n x (subst (λ (v : Operation). FluxOf v x) w f)))
  | no q ↦ (t, u, l, st.turns.elsewhere t q ∙ e, f)
]

pub quiet_leaves : {N : Numbers} {Key : List ℕ → Type 0} {σ τ : State} {g : Ghosts} {s : ℕ} {o : Operation} {z : Seat} {r : Outcome} → Step N Key σ τ g s o z r → Row N σ τ o z r → τ.tree ≡ σ.tree → ((x : Ref) → FluxOf o x → ⊥)
    → ((u : Operation) → z ≡ busy u → SeatOk N Key τ g s u) → Leaves N Key σ τ g g s
quiet_leaves {N} {Key} {σ} {τ} {g} {s} {o} {z} st w e n ok = record {
  tree = subst (λ (T : Tree). TreeOk N.deep Key (Flux τ) T (ghost g)) (sym e) (flux_more (flux_goes st n) v.tree);
  spelled = record { child_byte = λ x b y q. v.spelled.child_byte x b y (kid x b ∙ q); full_byte = v.spelled.full_byte };
  closed' = subst (λ (T : Tree). Closed T (ghost g)) (sym e) v.closed';
  rootless = λ x q b l k. v.rootless x q b l (kid x b ∙ k);
  upto = λ x q l. let m = v.upto x q l in let k = st.turns.epoch in omega (arith, m, k);
  places = row_places st w;
  nodes = λ x _. inl (record { prefix_same = ap (λ (T : Tree). prefix T x) e; child_same = λ b. ap (λ (T : Tree). child T x b) e; path_same = refl; full_same = refl; mark_same = refl });
  leaves = λ i. inl (ap (λ (T : Tree). T.entries i) e);
  safe = λ t u q x l. l;
  drawn' = λ x t q l. l;
  seat = λ u q. ok u (sym st.turns.there ∙ q);
}
  where
    v : Inv N Key σ g
    v = st.inv

    kid : (x : Ref) (b : ℕ) → child σ.tree x b ≡ child τ.tree x b
    kid x b = ap (λ (T : Tree). child T x b) (sym e)

pub same_holds : (σ τ : State) (g : Ghosts) → τ.tree ≡ σ.tree → HoldsSame σ τ g g
same_holds σ τ g e k v = (subst (λ (T : Tree). Holds T (ghost g) k v) e, subst (λ (T : Tree). Holds T (ghost g) k v) (sym e))
