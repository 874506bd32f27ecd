-- The slots of every run.
use Rattle.std.proofs.Common.{◌≡◌, ℕ, suc, ◌<◌, true, List, ◌∷◌, sym, refl, ap, ◌∙◌, subst, inl, inr, ⊎_elim}
use Rattle.model.specs.Refs.{Ref, root, pool}
use Rattle.model.specs.Tree.{Reach}
use Rattle.model.proofs.Reach.{linked_is_reached}
use Rattle.model_slots.specs.Slots as slots
use Rattle.model_slots.specs.Slots.{Event, count, history}
use Rattle.model_slots.specs.Laws as law
use Rattle.model_slots.specs.Laws.{is_linked, mark}
use Rattle.model_slots.proofs.Keeps.{linked_of, good}
use Rattle.model_slots.proofs.Promised.{promise}
use Rattle.model_slots.proofs.Told.{found}
use Rattle.machine.specs.State.{State, Numbers}
use Rattle.machine.specs.Calls.{Call, swept, Did}
use Rattle.runs.specs.Runs.{Run}
use Rattle.runs.specs.Happened.{events, in_pool}
use Rattle.invariant.specs.Ghosts.{status_of}
use Rattle.invariant.specs.Invariant.{Lawful}
use Rattle.invariant.proofs.Setting.{linked_mark}
use Rattle.invariant.proofs.SlotRuns.{sweep_may}
use Rattle.invariant.proofs.Runs.{KeyOf, Good, good_run}
use Rattle.promise.specs.Slots.{Linked, One, Slotted}

module _ {K : Type 0} {N : Numbers} {accepts : K → Type 0} {bytes : K → List ℕ} {σ : State} {r : Run N accepts bytes σ} (g : Good r) where
  -- what holds of the slots' events holds of the run's
  over : (P : List Event → Type 0) → P (history g.slots.run) → P (events r)
  over P h = subst P g.slots.tells h

  back : (P : List Event → Type 0) → P (events r) → P (history g.slots.run)
  back P h = subst P (sym g.slots.tells) h

  -- what is reached from the root is what the slots have as linked
  marked : (x : Ref) → g.slots.state.linked x ≡ is_linked (g.ghosts.mark x)
  marked x = over (λ h. g.slots.state.linked x ≡ is_linked (mark root (in_pool N) h x)) ((good g.slots.run).linked' x) ∙ sym (ap is_linked (g.marks x))

  linked_in : (x : Ref) → Linked N accepts bytes r x → g.slots.state.linked x ≡ true
  linked_in x h = marked x ∙ ap is_linked (linked_mark (g.ghosts.mark x) ((linked_is_reached g.inv.tree x).1 h))

  linked_out : (x : Ref) → g.slots.state.linked x ≡ true → Linked N accepts bytes r x
  linked_out x h = (linked_is_reached g.inv.tree x).0 (ap status_of (linked_of (g.ghosts.mark x) (sym (marked x) ∙ h)))

  single : (x : Ref) → in_pool N x ≡ true → One N accepts bytes r x
  single x a =
      let o = over (λ h. law.One root (in_pool N) h g.slots.state x) (promise.one g.slots.run x a) in
      record {
        some = ⊎_elim (λ h. inl (linked_out x h)) inr o.some;
        linked_spare = λ h. o.linked_spare (linked_in x h);
        linked_drawn = λ h. o.linked_drawn (linked_in x h);
        linked_retired = λ h. o.linked_retired (linked_in x h);
        spare_drawn = o.spare_drawn;
        spare_retired = o.spare_retired;
        drawn_retired = o.drawn_retired;
      }

  queued : (x : Ref) (p : ℕ) → law.Queued root (in_pool N) (events r) g.slots.state x p
  queued x p = over (λ h. law.Queued root (in_pool N) h g.slots.state x p) (promise.queued g.slots.run x p)

  may_sweep : (τ : State) (n : ℕ) → Did N accepts bytes σ τ Call.sweep (swept n) → slots.May (slots.sweep n) g.slots.state
  may_sweep τ n (Did.sweeps _ a w) = sweep_may g.slots.agree w

  good_slots : Slotted N accepts bytes r
  good_slots = record {
    root_linked = Reach.here;
    one = single;
    queued = λ x h. ap (count x) (sym (g.slots.agree.spare (pool x))) ∙ (queued x (pool x)).once h refl;
    only = λ x p h. (queued x p).only (subst (λ (l : List Ref). 0 < count x l) (sym (g.slots.agree.spare p)) h);
    origin = λ x h. let o = (found root (in_pool N) x (events r) h.0 h.1).0 in (o.seat, o.new, o.old, o.before, o.unlinked, o.waits);
    stays = λ x s new old b e w. over (λ h. law.Retired root (in_pool N) h x) (promise.waits g.slots.run x s new old b e (back (law.Waits (suc (law.sweeps b)) (slots.write s new old ∷ b)) w));
    turns = λ x s new old b e w c τ n d. over (λ h. law.Spare root (in_pool N) (slots.sweep n ∷ h) x)
        (promise.turns g.slots.run x s n new old b e (back (law.Waits (suc (law.sweeps b)) (slots.write s new old ∷ b)) w) (back (λ h. law.Clear h (suc (law.sweeps b))) c));
    counted = λ τ n d. over (law.Counted root (in_pool N) n) (promise.counted g.slots.run n (may_sweep τ n d));
  }

pub slotted : {K : Type 0} {N : Numbers} {accepts : K → Type 0} {bytes : K → List ℕ} → Lawful N (KeyOf accepts bytes) → {σ : State} (r : Run N accepts bytes σ) → Slotted N accepts bytes r
slotted l r = good_slots (good_run l r)
