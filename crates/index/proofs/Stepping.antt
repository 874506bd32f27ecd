-- A step of a seat, from what its parts answer.
use Rattle.std.specs.Prelude.{◌≡◌, ℕ, ◌+◌, ◌<◌, Some, None, length, slice_set, slice_index_or}
use Rattle.std.proofs.Common.{get_or, refl, sym, subst, ap, ◌∙◌, arith}
use Rattle.std.proofs.lemmas.Bool.{lt-leb}
use Rattle.std.proofs.lemmas.List.{get_or_default, get_or-set_same}
use Rattle.terms.specs.Limits.{seat_count}
use Rattle.terms.specs.declared.outcome.Outcome.{Outcome}
use Rattle.latches.specs.Rules.{Face}
use Rattle.index.specs.Calls.{State, seat_at, limit_row, Stepped}
use Rattle.index.specs.Machine.{moved}
use Rattle.index.specs.Meets.{Meets}
use Rattle.index.specs.declared.operation.Met.{Met}
use Rattle.index.specs.declared.operation.Operation.{Operation}
use Rattle.index.specs.declared.seat.Seat.{Seat}
use Rattle.index.specs.declared.seat.Seat.TheVariants.{Closed, Busy}
use Rattle.index.specs.declared.tree.Tree.{Tree}

pub stepped : (f : Face) (s i : ℕ) (σ κ : State) (u : Seat) (op : Operation) (m : Met) (next : Seat) (o : Outcome) (t : Tree) → length σ.seats ≡ seat_count →
    (i ≡ s) × (i < seat_count) → get_or σ.seats i u ≡ Busy op →
    (limit_row σ ≡ None) × (κ ≡ record σ { calls = σ.calls + 1 }) → Meets f op.key κ.tree t op.stage m → moved op m ≡ Some (next, o) →
    Stepped f s σ (record { tree = t; seats = slice_set κ.seats i next; calls = κ.calls }) o
stepped f s i σ κ u op m next o t len p busy counted meets moves =
    let b : seat_at σ s ≡ Busy op = get_or_default σ.seats s Closed u (omega (arith, p.0, p.1)) ∙ ap (λ k. get_or σ.seats k u) (sym p.0) ∙ busy in
    let q : κ.seats ≡ σ.seats = ap (λ x. x.seats) counted.1 in
    let e : slice_index_or (slice_set κ.seats i next) s Closed ≡ next =
    ap (λ k. get_or (slice_set κ.seats i next) k Closed) (sym p.0) ∙ get_or-set_same κ.seats i next Closed (omega (arith, ap length q, p.0, p.1)) in
    record {
      none = rw (b, lt-leb seat_count s (omega (arith, p.0, p.1)), counted.0) refl;
      operation = op;
      busy = b;
      met = m;
      meets = subst (λ (r : Tree). Meets f op.key r t op.stage m) (ap (λ x. x.tree) counted.1) meets;
      moves = moves ∙ ap (λ z. Some (z, o)) (sym e);
      others = ap (λ xs. slice_set xs i next) q ∙ ap (λ k. slice_set σ.seats k next) p.0 ∙ ap (slice_set σ.seats s) (sym e);
      calls = ap (λ x. x.calls) counted.1;
    }
