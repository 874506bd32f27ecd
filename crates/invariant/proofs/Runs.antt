-- Every run keeps the invariant.
use Rattle.std.proofs.Common.{◌≡◌, ℕ, ◌<◌, ◌≤◌, Bool, List, [], ◌∷◌, ◌++◌, Some, sym, refl, ap, ◌∙◌, subst, ap₂, arith}
use Rattle.terms.specs.Limits.{seat_count}
use Rattle.model.specs.Refs.{Ref, root}
use Rattle.model.specs.Operations.{Task, Seat, closed, idle, busy}
use Rattle.machine.specs.State.{State, Numbers}
use Rattle.machine.specs.Calls.{Turns}
use Rattle.invariant.specs.Ghosts.{Ghosts, held_by}
use Rattle.invariant.specs.Invariant.{Lawful, Inv}
use Rattle.invariant.specs.Changes.{HoldsSame}
use Rattle.invariant.proofs.Setting.{Step, no_way}
use native.Mathlib.Decide.{dec_le}
use Rattle.model_slots.specs.Slots.{Event, sweep, clear, count}
use Rattle.model_slots.specs.Laws.{Mark, mark, sweeps, opens, swept}
use Rattle.model_slots.proofs.Keeps.{good}
use Rattle.model_slots.proofs.Promised as promised
use Rattle.model_slots.proofs.Lists.{clear_same}
use mathlib.Core.Path.{fun_ext}
use Rattle.machine.specs.Calls.{Call, Reply, seat_of, Accepted, Fits, Did, started, begun_at}
use Rattle.machine.specs.Runs as runs
use Rattle.machine.specs.Runs.{made, on}
use Rattle.runs.specs.Runs.{New, Run}
use Rattle.runs.specs.Happened.{happened, events, in_pool}
use Rattle.runs.specs.Named.{row_names}
use Rattle.terms.specs.declared.Refusal.TheVariants as refusal
use Rattle.invariant.proofs.Steps.{Effect, step_keeps}
use Rattle.invariant.proofs.SlotRuns.{SlotsOk, CallUnlinks, slots_made, slots_on}
use Rattle.invariant.proofs.Keeps.{Queued, inv_kept}
use Rattle.invariant.proofs.Others.{turn_kept, begun_ok, sweeping, sweep_kept, sweep_holds, beginning, start_kept}
use Rattle.invariant.proofs.Quiet.{same_holds}

-- the bytes of accepted keys
abbrev pub KeyOf : {K : Type 0} → (K → Type 0) → (K → List ℕ) → List ℕ → Type 0
KeyOf {K} accepts bytes k = (a : K) × accepts a × (bytes a ≡ k)

-- an accepted call is on one of the eight seats, and the seat is as the call needs it
module _ {K : Type 0} (accepts : K → Type 0) (σ : State) where
  accepted_seat : (c : Call K) (s : ℕ) → Accepted accepts σ c → seat_of c ≡ Some s → s < seat_count
  accepted_seat c s a e = by (dec_le seat_count s)
    where
      by : Dec (seat_count ≤ s) → s < seat_count
      by (yes h) = absurd (a refusal.NoSuchSeat (Fits.no_such_seat s e h))
      by (no h) = omega (arith, h)

  opened_seat : (s : ℕ) → Accepted accepts σ (Call.open_seat s) → σ.seats s ≡ closed
  opened_seat s a = go (σ.seats s) refl
    where
      go : (z : Seat) → σ.seats s ≡ z → z ≡ closed
      go closed e = refl
      go idle e = absurd (a refusal.AlreadyOpen (Fits.already_open s (λ q. no_way cc)))
      go (busy o) e = absurd (a refusal.AlreadyOpen (Fits.already_open s (λ q. no_way cc)))

  closed_seat : (s : ℕ) → Accepted accepts σ (Call.close_seat s) → σ.seats s ≡ idle
  closed_seat s a = go (σ.seats s) refl
    where
      go : (z : Seat) → σ.seats s ≡ z → z ≡ idle
      go closed e = absurd (a refusal.NotOpen (Fits.close_not_open s e))
      go idle e = refl
      go (busy o) e = absurd (a refusal.Busy (Fits.close_busy s o e))

  begun_seat : (s : ℕ) (t : Task) (k : K) → Accepted accepts σ (Call.begin s t k) → σ.seats s ≡ idle
  begun_seat s t k a = go (σ.seats s) refl
    where
      go : (z : Seat) → σ.seats s ≡ z → z ≡ idle
      go closed e = absurd (a refusal.NotOpen (Fits.begin_not_open s t k e))
      go idle e = refl
      go (busy o) e = absurd (a refusal.Busy (Fits.begin_busy s t k o e))

module _ {K : Type 0} {N : Numbers} {accepts : K → Type 0} {bytes : K → List ℕ} where
  -- what is known after a run
  pub record Good {σ : State} (r : Run N accepts bytes σ) : Type 0 where
    pub ghosts : Ghosts
    pub inv : Inv N (KeyOf accepts bytes) σ ghosts
    pub marks : (x : Ref) → ghosts.mark x ≡ mark root (in_pool N) (events r) x
    pub slots : SlotsOk r

  -- what a call does to the map of what is held
  abbrev pub CallEffect : {σ τ : State} {c : Call K} {r : Reply} → Ghosts → Ghosts → Did N accepts bytes σ τ c r → Type 0
  CallEffect {σ} {τ} g h (Did.refuses c e f q) = HoldsSame σ τ g h
  CallEffect {σ} {τ} g h (Did.opens s a t k) = HoldsSame σ τ g h
  CallEffect {σ} {τ} g h (Did.closes s a t k) = HoldsSame σ τ g h
  CallEffect {σ} {τ} g h (Did.begins s t k a b w x) = HoldsSame σ τ g h
  CallEffect {σ} {τ} g h (Did.steps s o z r a e t w) = Effect σ τ g h o (row_names w)
  CallEffect {σ} {τ} g h (Did.sweeps n a w) = HoldsSame σ τ g h

  -- one call more
  pub record Advance {σ τ : State} {r : Run N accepts bytes σ} (g : Good r) (e : runs.Event K) (d : Did N accepts bytes σ τ e.call e.reply) : Type 0 where
    pub after : Good (on r e d)
    pub effect : CallEffect g.ghosts after.ghosts d

  -- the queues of a run hold spare slots
  queued_by : {σ : State} (r : Run N accepts bytes σ) (ok : SlotsOk r) (g : Ghosts) → ((x : Ref) → g.mark x ≡ mark root (in_pool N) (events r) x) → Queued σ g
  queued_by {σ} r ok g m x p l =
      let q = (promised.queued ok.run x p).only (subst (λ (u : List Ref). 0 < count x u) (sym (ok.agree.spare p)) l) in
      (m x ∙ ap (λ (h : List Event). mark root (in_pool N) h x) (sym ok.tells) ∙ q.0, q.1)

  -- the sweeps of a run are its epoch
  sweeps_epoch : {σ : State} (r : Run N accepts bytes σ) (ok : SlotsOk r) → sweeps (events r) ≡ σ.epoch
  sweeps_epoch r ok = ap sweeps (sym ok.tells) ∙ sym (good ok.run).epoch' ∙ ok.agree.epoch

  opens_begun : {σ : State} (r : Run N accepts bytes σ) (ok : SlotsOk r) (s : ℕ) → opens (events r) s ≡ begun_at (σ.seats s)
  opens_begun r ok s = ap (λ (h : List Event). opens h s) (sym ok.tells) ∙ sym ((good ok.run).begun' s) ∙ ok.agree.begun s

  module _ (law : Lawful N (KeyOf accepts bytes)) where
    pub good_made : {σ : State} (n : New N σ) → Good (made n)
    unfolding mark
    good_made n =
        let ok = slots_made {accepts = accepts} {bytes = bytes} n in
        record { ghosts = beginning N; inv = start_kept law n (queued_by (made n) ok (beginning N) (λ x. refl)); marks = λ x. refl; slots = ok }

    -- a call that leaves slots and marks
    steady : {σ τ : State} {r : Run N accepts bytes σ} (g : Good r) (c : Call K) (p : Reply) (d : Did N accepts bytes σ τ c p) → happened d ≡ [] → CallUnlinks g.ghosts d → Inv N (KeyOf accepts bytes) τ g.ghosts → Good (on r (record { call = c; reply = p }) d)
    steady {r = r} g c p d e u v = record {
      ghosts = g.ghosts;
      inv = v;
      marks = λ x. g.marks x ∙ ap (λ (h : List Event). mark root (in_pool N) (h ++ events r) x) (sym e);
      slots = slots_on r g.slots g.inv g.marks (record { call = c; reply = p }) d u;
    }

    advance_by : {σ τ : State} {r : Run N accepts bytes σ} (g : Good r) (c : Call K) (p : Reply) (d : Did N accepts bytes σ τ c p) → Advance g (record { call = c; reply = p }) d
    unfolding mark steady
    advance_by {σ} {τ} {r} g c p (Did.refuses c' e f q) = record {
      after = steady g c p (Did.refuses c e f q) refl tt (subst (λ (υ : State). Inv N (KeyOf accepts bytes) υ g.ghosts) (sym q) g.inv);
      effect = same_holds σ τ g.ghosts (ap (λ (υ : State). υ.tree) q);
    }
    advance_by {σ} {τ} {r} g _ _ (Did.opens s a t k) =
        let was = opened_seat accepts σ s a in
        record {
          after = steady g _ _ (Did.opens s a t k) refl tt (turn_kept g.inv s (accepted_seat accepts σ (Call.open_seat s) s a refl) idle t k (ap held_by was) refl (λ u e. no_way cc) (λ u e. no_way cc));
          effect = same_holds σ τ g.ghosts k.still.tree;
        }
    advance_by {σ} {τ} {r} g _ _ (Did.closes s a t k) =
        let was = closed_seat accepts σ s a in
        record {
          after = steady g _ _ (Did.closes s a t k) refl tt (turn_kept g.inv s (accepted_seat accepts σ (Call.close_seat s) s a refl) closed t k (ap held_by was) refl (λ u e. no_way cc) (λ u e. no_way cc));
          effect = same_holds σ τ g.ghosts k.still.tree;
        }
    advance_by {σ} {τ} {r} g _ _ (Did.begins s t k a b w x) =
        let was = begun_seat accepts σ s t k a in
        let d : Did N accepts bytes σ τ (Call.begin s t k) Rattle.machine.specs.Calls.ok = Did.begins s t k a b w x in
        record {
          after = record {
            ghosts = g.ghosts;
            inv = turn_kept g.inv s (accepted_seat accepts σ (Call.begin s t k) s a refl) (started t (bytes k) σ.epoch) w x (ap held_by was) refl (λ u e. no_way cc)
                (begun_ok g.inv s t (bytes k) (k, b, refl) w.epoch);
            marks = g.marks;
            slots = slots_on r g.slots g.inv g.marks (record { call = Call.begin s t k; reply = Rattle.machine.specs.Calls.ok }) d tt;
          };
          effect = same_holds σ τ g.ghosts x.still.tree;
        }
    advance_by {σ} {τ} {r} g _ _ (Did.steps s o z q a e t w) =
        let st : Step N (KeyOf accepts bytes) σ τ g.ghosts s o z q = record { lawful = law; inv = g.inv; seat = accepted_seat accepts σ (Call.step s) s a refl; was = e; turns = t } in
        let k = step_keeps st w in
        let d : Did N accepts bytes σ τ (Call.step s) (Rattle.machine.specs.Calls.came q) = Did.steps s o z q a e t w in
        let ev : runs.Event K = record { call = Call.step s; reply = Rattle.machine.specs.Calls.came q } in
        let ok = slots_on r g.slots g.inv g.marks ev d k.unlinks in
        let m = k.marks (in_pool N) (events r) g.marks (sweeps_epoch r g.slots) in
        record { after = record { ghosts = k.after; inv = inv_kept st w k (queued_by (on r ev d) ok k.after m); marks = m; slots = ok }; effect = k.effect }
    advance_by {σ} {τ} {r} g _ _ (Did.sweeps n a w) =
        let d : Did N accepts bytes σ τ Call.sweep (Rattle.machine.specs.Calls.swept n) = Did.sweeps n a w in
        let ev : runs.Event K = record { call = Call.sweep; reply = Rattle.machine.specs.Calls.swept n } in
        let ok = slots_on r g.slots g.inv g.marks ev d tt in
        let f : (λ (q : ℕ). clear (λ s. begun_at (σ.seats s)) q seat_count) ≡ (λ (q : ℕ). clear (opens (events r)) q 8) =
        fun_ext (λ q. clear_same (λ s. begun_at (σ.seats s)) (opens (events r)) (λ s. sym (opens_begun r g.slots s)) q 8) in
        let m : (x : Ref) → (sweeping σ g.ghosts).mark x ≡ mark root (in_pool N) (sweep n ∷ events r) x = λ x. ap₂ (λ (h : ℕ → Bool) (k : Mark). swept h k) f (g.marks x) in
        record { after = record { ghosts = sweeping σ g.ghosts; inv = sweep_kept g.inv w (queued_by (on r ev d) ok (sweeping σ g.ghosts) m); marks = m; slots = ok }; effect = sweep_holds g.inv w }

    pub advance : {σ τ : State} {r : Run N accepts bytes σ} (g : Good r) (e : runs.Event K) (d : Did N accepts bytes σ τ e.call e.reply) → Advance g e d
    advance g e d = advance_by g e.call e.reply d

    pub good_run : {σ : State} (r : Run N accepts bytes σ) → Good r
    good_run (made n) = good_made n
    good_run (on r e d) = (advance (good_run r) e d).after
