-- Every accepted call keeps the invariant.
use Rattle.std.proofs.Common.{◌≡◌, ℕ, ◌<◌, List, ◌∷◌, sym, refl, ap, ◌∙◌, subst, inl, inr, ⊎_elim, arith}
use Rattle.model.specs.Refs.{Ref, pool}
use Rattle.model.specs.Holds.{Grip, Hold}
use Rattle.model.specs.Operations as op
use Rattle.model.specs.Operations.{Operation, Task, Answer, Course, insert, grow, split, miss, in_place, collapse, items, Item, lock_p, lock_n, lock_m, draw, write_n, write_m, write_p, unlock_m, unlock_n, unlock_n_gone, unlock_p, Drawn, Mode, by_key, back, down, Stage, check_p, look, check_n, act, scan, Seat, closed, idle, busy, Outcome, go, again, answers}
use Rattle.machine.specs.State.{State, Numbers}
use Rattle.machine.specs.Steps.{is_next, kept_p, Row}
use Rattle.invariant.specs.Ghosts.{Ghosts, held_by, Permits}
use Rattle.invariant.specs.Invariant.{SeatOk, Inv}
use Rattle.invariant.specs.Changes.{Change}
use Rattle.invariant.proofs.Setting.{Step, true_false, no_way, permits_snoc}
use native.Mathlib.Decide.{ℕ_discrete}
use Rattle.model_words.proofs.Rely as rely
use Rattle.model_slots.specs.Slots.{count}
use Rattle.model_slots.specs.Laws.{spare}
use Rattle.machine.specs.Kept as Keeps
use Rattle.machine.proofs.Keeping.{steps_keep_lem}
use Rattle.invariant.proofs.RowWords.{row_words, picked_held}
use Rattle.invariant.proofs.Stable.{stable}
use Rattle.invariant.proofs.Locking.{acting}
use Rattle.invariant.proofs.Steps.{Kept}

-- spare slots stand in their queues
abbrev pub Queued : State → Ghosts → Type 0
Queued σ g = (x : Ref) (p : ℕ) → 0 < count x (σ.spare p) → (g.mark x ≡ spare) × (pool x ≡ p)

-- next takes permits and locks nothing
next_calm : {N : Numbers} {Key : List ℕ → Type 0} {σ τ : State} {g : Ghosts} {s : ℕ} {o : Operation} {z : Seat} {r : Outcome} → Step N Key σ τ g s o z r → Row N σ τ o z r → o.task ≡ op.next → (u : Operation) → z ≡ busy u → Permits u.held
next_calm {N = N} {σ = σ} {s = s} {o = o} st (Row.takes x d e t q w) n u f =
    let h : Hold = record { at = x; depth = d; grip = Grip.Permit (σ.words x).count (N.weight o.restarts) } in
    subst Permits (ap held_by f) (permits_snoc o.held h (st.inv.calm s o st.was n) ((σ.words x).count, N.weight o.restarts, refl))
next_calm st (Row.takes_not x d c e t k) n u f = subst Permits (ap held_by (sym k.seat ∙ f)) tt
next_calm {s = s} {o = o} st (Row.checks_p p e c t q w) n u f =
    subst Permits (ap held_by f) (subst (λ (a : Task). Permits (kept_p a o.held)) (sym n) (st.inv.calm s o st.was n))
next_calm st (Row.checks_p_not p c e t q k) n u f = subst Permits (ap held_by (sym k.seat ∙ f)) tt
next_calm {s = s} {o = o} st (Row.looks_on hs x y d e t h k q w) n u f = subst Permits (ap held_by f) (st.inv.calm s o st.was n)
next_calm {s = s} {o = o} st (Row.looks_decides hs x k e t h l q w) n u f = subst Permits (ap held_by f) (st.inv.calm s o st.was n)
next_calm st (Row.looks_stale hs x e t h q k) n u f = subst Permits (ap held_by (sym k.seat ∙ f)) tt
next_calm st (Row.checks_n a hs x e h c q k) n u f = let y = k.seat in no_way cc
next_calm st (Row.checks_n_not a hs x c e h q k) n u f = subst Permits (ap held_by (sym k.seat ∙ f)) tt
next_calm {σ = σ} {s = s} {o = o} {z = z} st (Row.picks_on x j keys v e t h k q w) n u f =
    subst Permits (sym (picked_held σ.tree o j keys v z k) ∙ ap held_by f) (st.inv.calm s o st.was n)
next_calm st (Row.picks_stale x j keys e t h k) n u f = subst Permits (ap held_by (sym k.seat ∙ f)) tt
next_calm {s = s} {o = o} st (Row.scans i a x e h c l q w) n u f = subst Permits (ap held_by f) (st.inv.calm s o st.was n)
next_calm st (Row.scans_last i a x e h c l q k) n u f = let y = k.seat in no_way cc
next_calm st (Row.scans_not i a x c e h t k) n u f = subst Permits (ap held_by (sym k.seat ∙ f)) tt
next_calm {s = s} {o = o} st (Row.acts c a rest d d' f hs e w k) n u y = true_false (is_next o.task) (ap is_next n) (acting (st.inv.seats s o st.was) c (a ∷ rest) d e).0
next_calm st (Row.acts_not c a rest d m x y e q k) n u f = subst Permits (ap held_by (sym k.seat ∙ f)) tt
next_calm st (Row.no_room c rest d q e t h k w) n u f = let y = w.seat in no_way cc

module _ {N : Numbers} {Key : List ℕ → Type 0} {σ τ : State} {g : Ghosts} {s : ℕ} {o : Operation} {z : Seat} {r : Outcome} (st : Step N Key σ τ g s o z r) (w : Row N σ τ o z r) (k : Kept Key g s w) where
  changed : Change σ τ g k.after N s
  changed = record {
    words = row_words st w;
    others = st.turns.elsewhere;
    nodes = λ x n. ⊎_elim (λ q. inl q) (λ q. inr (⊎_elim (λ l. inl l) (λ l. inr (⊎_elim (λ m. inl m) (λ m. inr (inl m)) l)) q)) (k.leaves.nodes x n);
    leaves = k.leaves.leaves;
    safe = k.leaves.safe;
    drawn' = k.leaves.drawn';
    epoch = omega (arith, st.turns.epoch);
  }

  seats_kept : (t : ℕ) (u : Operation) → τ.seats t ≡ busy u → SeatOk N Key τ k.after t u
  seats_kept t u e = elim (ℕ_discrete t s) [
    | yes q ↦ subst (λ (i : ℕ). SeatOk N Key τ k.after i u) (sym q) (k.leaves.seat u (ap τ.seats (sym q) ∙ e))
    | no q ↦ stable st.inv changed t u (sym (st.turns.elsewhere t q) ∙ e) q
  ]

  task_kept : (u : Operation) → z ≡ busy u → u.task ≡ o.task
  task_kept u e = asked (steps_keep_lem N σ τ o z r w) e
    where
      asked : Keeps.Kept o z r → z ≡ busy u → u.task ≡ o.task
      asked q f = (subst (λ (y : Seat). Keeps.Kept o y r) f q).0.task

  calm_kept : (t : ℕ) (u : Operation) → τ.seats t ≡ busy u → u.task ≡ op.next → Permits u.held
  calm_kept t u e n = elim (ℕ_discrete t s) [
    | yes q ↦ (let f : z ≡ busy u = sym st.turns.there ∙ ap τ.seats (sym q) ∙ e in next_calm st w (sym (task_kept u f) ∙ n) u f)
    | no q ↦ st.inv.calm t u (sym (st.turns.elsewhere t q) ∙ e) n
  ]

  pub inv_kept : Queued τ k.after → Inv N Key τ k.after
  inv_kept q = record {
    tree = k.leaves.tree;
    spelled = k.leaves.spelled;
    closed' = k.leaves.closed';
    rootless = k.leaves.rootless;
    upto = k.leaves.upto;
    words = rely.keeps_run (row_words st w) st.inv.words;
    places = k.leaves.places;
    queued = q;
    seats = seats_kept;
    calm = calm_kept;
    outside = λ t l. st.turns.elsewhere t (λ e. let m = st.seat in omega (arith, l, e, m)) ∙ st.inv.outside t l;
  }
