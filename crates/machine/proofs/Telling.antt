-- The history of a run tells its calls, its epoch and its seats.
use Rattle.std.proofs.Common.{◌≡◌, ℕ, suc, ◌≤◌, Bool, true, false, cond, eqb, List, [], ◌∷◌, length, Some, sym, refl, ap, ◌∙◌, subst, arith}
use native.Mathlib.Decide.{dec_le}
use Rattle.std.proofs.lemmas.Bool.{eqb-true, eqb-false}
use Rattle.terms.specs.Limits.{seat_count, call_limit}
use Rattle.model.specs.Operations.{Task, Operation, Seat, closed, idle, busy, Outcome, go, again, answers, Answer}
use Rattle.machine.specs.State.{State, Numbers}
use Rattle.machine.specs.Calls.{Call, Reply, ok, came, swept, refused, seat_of, Fits, Accepted, Turns, Swept, Did, started}
use Rattle.machine.specs.Runs.{Event, New, Run, history}
use Rattle.machine.specs.Kept.{Kept}
use Rattle.machine.specs.Told.{Told, shut, free, asked, stepped, plus_call, plus_sweep, accepted, sweeps_of, told, turned, Asks, Agrees, Tells, HistoriesTell}
use Rattle.machine.proofs.Keeping.{steps_keep_lem}

-- what is not refused for the limit stays within it
within : (l n : ℕ) → (l ≤ n → ⊥) → suc n ≤ l
within l n f = by (dec_le l n)
  where
    by : Dec (l ≤ n) → suc n ≤ l
    by (yes h) = absurd (f h)
    by (no h) = omega (arith, h)

not_idle : {o : Operation} {P : Type 0} → idle ≡ busy o → P
not_idle e = let z : ◌≡◌ {A = ℕ} 0 1 = cc e in absurd (omega (arith, z))

not_closed : {o : Operation} {P : Type 0} → closed ≡ busy o → P
not_closed e = let z : ◌≡◌ {A = ℕ} 0 1 = cc e in absurd (omega (arith, z))

module _ {K : Type 0} (accepts : K → Type 0) (bytes : K → List ℕ) where
  -- a seat that turns, and one that stays
  at_seat : (σ τ : State) (s u : ℕ) (v w : Told K) (z : Seat) → Turns σ τ u z → (s ≡ u → Agrees accepts bytes v z) → Agrees accepts bytes w (σ.seats s) → Agrees accepts bytes (cond (eqb s u) v w) (τ.seats s)
  at_seat σ τ s u v w z t a b = by (eqb s u) refl
    where
      by : (c : Bool) → eqb s u ≡ c → Agrees accepts bytes (cond c v w) (τ.seats s)
      by true e = subst (λ (y : Seat). Agrees accepts bytes v y) (sym (ap τ.seats (eqb-true s u e) ∙ t.there)) (a (eqb-true s u e))
      by false e = subst (λ (y : Seat). Agrees accepts bytes w y) (sym (t.elsewhere s (eqb-false s u e))) b

  went : (o u : Operation) (r : Outcome) (t : Task) (k : K) (b e n : ℕ) → Asks accepts bytes t k e n (busy o) → Kept o (busy u) r → Agrees accepts bytes (stepped r (asked t k b e n)) (busy u)
  went o u go t k b e n a p =
      let q : o ≡ a.operation = cc a.seat in
      record {
        operation = u;
        seat = refl;
        accepted = a.accepted;
        task = p.0.task ∙ ap (λ (x : Operation). x.task) q ∙ a.task;
        key = p.0.key ∙ ap (λ (x : Operation). x.key) q ∙ a.key;
        begun = p.0.begun ∙ ap (λ (x : Operation). x.begun) q ∙ a.begun;
        restarts = p.1 ∙ ap (λ (x : Operation). x.restarts) q ∙ a.restarts;
      }
  went o u (again c x d) t k b e n a p =
      let q : o ≡ a.operation = cc a.seat in
      record {
        operation = u;
        seat = refl;
        accepted = a.accepted;
        task = p.0.task ∙ ap (λ (x : Operation). x.task) q ∙ a.task;
        key = p.0.key ∙ ap (λ (x : Operation). x.key) q ∙ a.key;
        begun = p.0.begun ∙ ap (λ (x : Operation). x.begun) q ∙ a.begun;
        restarts = p.1.0 ∙ ap suc (ap (λ (x : Operation). x.restarts) q ∙ a.restarts);
      }
  went o u (answers c) t k b e n a p = absurd p.1

  answered : (w : Told K) (r : Outcome) (b : Answer) → r ≡ answers b → Agrees accepts bytes (stepped r w) idle
  answered w r b e = subst (λ (x : Outcome). Agrees accepts bytes (stepped x w) idle) (sym e) refl

  -- what a step makes of its seat
  step_agrees : (w : Told K) (o : Operation) (y z : Seat) (r : Outcome) → y ≡ busy o → Agrees accepts bytes w y → Kept o z r → Agrees accepts bytes (stepped r w) z
  step_agrees shut o y z r q a p = not_closed (sym a ∙ q)
  step_agrees free o y z r q a p = not_idle (sym a ∙ q)
  step_agrees (asked t k b e n) o y closed r q a p = absurd p
  step_agrees (asked t k b e n) o y idle r q a p = answered (asked t k b e n) r p.0 p.1
  step_agrees (asked t k b e n) o y (busy u) r q a p = went o u r t k b e n (subst (λ (x : Seat). Asks accepts bytes t k e n x) q a) p

  -- a call on the seat u leaves those outside closed
  beyond : (σ τ : State) (u s : ℕ) (z : Seat) → Turns σ τ u z → (seat_count ≤ u → ⊥) → seat_count ≤ s → σ.seats s ≡ closed → τ.seats s ≡ closed
  beyond σ τ u s z t f h c = t.elsewhere s (λ e. f (subst (λ (x : ℕ). seat_count ≤ x) e h)) ∙ c

  module _ (σ τ : State) (h : List (Event K)) (t : Tells accepts bytes h σ) where
    -- an accepted call is within the limit
    room : (c : Call K) → Accepted accepts σ c → suc (accepted h) ≤ call_limit
    room c a = within call_limit (accepted h) (λ l. a _ (Fits.at_call_limit c (subst (λ (n : ℕ). call_limit ≤ n) (sym t.calls) l)))

    -- a call on the seat u that was accepted
    on_seat : (c : Call K) (r : Reply) (u : ℕ) (z : Seat) → seat_of c ≡ Some u → Accepted accepts σ c → ((n : ℕ) → plus_call r n ≡ suc n) → ((n : ℕ) → plus_sweep r n ≡ n) → Turns σ τ u z
        → ((s : ℕ) → Agrees accepts bytes (turned c r (length h) (sweeps_of h) s (told h s)) (τ.seats s)) → Tells accepts bytes (record { call = c; reply = r } ∷ h) τ
    on_seat c r u z n a i j w g = record {
      calls = w.calls ∙ ap suc t.calls ∙ sym (i (accepted h));
      limit = subst (λ (x : ℕ). x ≤ call_limit) (sym (i (accepted h))) (room c a);
      epoch = w.epoch ∙ t.epoch ∙ sym (j (sweeps_of h));
      seats = g;
      outside = λ s l. beyond σ τ u s z w (λ b. a _ (Fits.no_such_seat u n b)) l (t.outside s l);
    }

    swept_tells : (n : ℕ) → Accepted accepts σ Call.sweep → Swept σ τ n → Tells accepts bytes (record { call = Call.sweep; reply = swept n } ∷ h) τ
    swept_tells n a w = record {
      calls = w.calls ∙ ap suc t.calls;
      limit = room Call.sweep a;
      epoch = w.epoch ∙ ap suc t.epoch;
      seats = λ s. subst (λ (y : Seat). Agrees accepts bytes (told h s) y) (sym (w.seats s)) (t.seats s);
      outside = λ s l. w.seats s ∙ t.outside s l;
    }

    did_tells : (N : Numbers) (c : Call K) (r : Reply) → Did N accepts bytes σ τ c r → Tells accepts bytes (record { call = c; reply = r } ∷ h) τ
    did_tells N c r (Did.refuses c' e f q) = subst (λ (y : State). Tells accepts bytes (record { call = c; reply = refused e } ∷ h) y) (sym q) (record {
      calls = t.calls;
      limit = t.limit;
      epoch = t.epoch;
      seats = t.seats;
      outside = t.outside;
    })
    did_tells N c r (Did.opens u a w k) = on_seat (Call.open_seat u) ok u idle refl a (λ _. refl) (λ _. refl) w (λ s. at_seat σ τ s u free (told h s) idle w (λ _. refl) (t.seats s))
    did_tells N c r (Did.closes u a w k) = on_seat (Call.close_seat u) ok u closed refl a (λ _. refl) (λ _. refl) w (λ s. at_seat σ τ s u shut (told h s) closed w (λ _. refl) (t.seats s))
    did_tells N c r (Did.begins u b x a g w k) = on_seat (Call.begin u b x) ok u (started b (bytes x) σ.epoch) refl a (λ _. refl) (λ _. refl) w
        (λ s. at_seat σ τ s u (asked b x (length h) (sweeps_of h) 0) (told h s) (started b (bytes x) σ.epoch) w (λ _. record {
          operation = _;
          seat = refl;
          accepted = g;
          task = refl;
          key = refl;
          begun = t.epoch;
          restarts = refl;
        }) (t.seats s))
    did_tells N c r (Did.steps u o z d a q w g) = on_seat (Call.step u) (came d) u z refl a (λ _. refl) (λ _. refl) w
        (λ s. at_seat σ τ s u (stepped d (told h s)) (told h s) z w (λ e. step_agrees (told h s) o (σ.seats s) z d (ap σ.seats e ∙ q) (t.seats s) (steps_keep_lem N σ τ o z d g)) (t.seats s))
    did_tells N c r (Did.sweeps n a w) = swept_tells n a w

  new_tells : (N : Numbers) (σ : State) → New N σ → Tells accepts bytes [] σ
  new_tells N σ n = record { calls = n.calls; limit = omega arith; epoch = n.epoch; seats = n.seats; outside = λ s l. n.seats s }

  -- whatever more is asked of a just made index
  pub histories_tell_lem : (Made : Numbers → State → Type 0) → ((N : Numbers) (σ : State) → Made N σ → New N σ) → HistoriesTell Made accepts bytes
  histories_tell_lem Made f N σ (Run.made n) = new_tells N σ (f N σ n)
  histories_tell_lem Made f N τ (Run.on {σ = σ} r e d) = did_tells σ τ (history r) (histories_tell_lem Made f N σ r) N e.call e.reply d
