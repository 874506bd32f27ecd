-- An operation alone is answered soon.
use Rattle.std.proofs.Common.{◌≡◌, ℕ, suc, ◌+◌, ◌*◌, ◌<◌, ◌≤◌, ◌⊎◌, List, [], sym, refl, ◌∙◌, subst, inl, inr, ⊎_elim, arith}
use native.Mathlib.Decide.{ℕ_discrete}
use Rattle.terms.specs.Limits.{call_limit}
use Rattle.terms.specs.declared.Refusal.{Refusal}
use Rattle.model.specs.Operations.{Operation, Seat, closed, idle, busy, Outcome, go, again, answers, Answer}
use Rattle.model_words.specs.Words.{Every}
use Rattle.machine.specs.State.{State, Numbers}
use Rattle.machine.specs.Steps.{Row}
use Rattle.machine.specs.Calls.{Call, came, refused, Did, Fits, Turns}
use Rattle.machine.specs.Runs.{on}
use Rattle.runs.specs.Runs.{Run}
use Rattle.machine.specs.Kept.{Counted, Kept}
use Rattle.machine.proofs.Keeping.{steps_keep_lem}
use Rattle.invariant.specs.Ghosts.{Ghosts, held_by, SoundAt}
use Rattle.invariant.specs.Invariant.{Lawful, SeatOk}
use Rattle.invariant.proofs.Setting.{Step, no_way, seat_below}
use Rattle.invariant.proofs.Measure.{left, falls, some_left, most_left}
use Rattle.invariant.proofs.Alone.{AllSound, HoldsAlone, alone_goes}
use Rattle.invariant.proofs.Runs.{KeyOf, good_run}
use Rattle.promise.specs.Waiting.{step_bound, Alone, Waits, Waited}

-- the most steps of an attempt
abbrev most : Numbers → ℕ
most N = 9 * N.deep + 6

-- after n steps: it has not started again, or it has once, and will not once more
abbrev Budget : Numbers → ℕ → State → Operation → Type 0
Budget N n τ o = (n + left N.deep o ≤ most N) ⊎ (AllSound τ o × (n + left N.deep o ≤ 2 * most N))

-- the other seats hold nothing
holds_alone : {s : ℕ} {τ : State} → Alone s τ → HoldsAlone τ s
holds_alone {s} {τ} a t l n = by (τ.seats t) refl
  where
    by : (z : Seat) → τ.seats t ≡ z → held_by z ≡ []
    by closed e = refl
    by idle e = refl
    by (busy o) e = absurd (n (a.others t o e))

-- no other seat is busy after a step of the seat
still_alone : {s : ℕ} {τ υ : State} {z : Seat} → Alone s τ → Turns τ υ s z → (t : ℕ) (o : Operation) → υ.seats t ≡ busy o → t ≡ s
still_alone {s} a k t o e = by (ℕ_discrete t s)
  where
    by : Dec (t ≡ s) → t ≡ s
    by (yes h) = h
    by (no h) = a.others t o (sym (k.elsewhere t h) ∙ e)

-- one step more, that does not answer
spent : {N : Numbers} {Key : List ℕ → Type 0} {τ υ : State} {g h : Ghosts} {s : ℕ} {o : Operation} (n : ℕ) (u : Operation) (r : Outcome)
    → Step N Key τ υ g s o (busy u) r → Row N τ υ o (busy u) r → HoldsAlone τ s → Counted o u r → SeatOk N Key υ h s u → Budget N n τ o → Budget N (suc n) υ u
spent n u go st w a k ok b = ⊎_elim (λ l. inl (omega (arith, l, falls st w refl))) (λ l. inr ((alone_goes st a l.0 w).1 u refl, omega (arith, l.1, falls st w refl))) b
spent {υ = υ} {s = s} {o = o} n u (again c x d) st w a k ok b = ⊎_elim
    (λ l. inr (subst (Every (SoundAt υ)) (sym k.1) tt, omega (arith, l, some_left (st.inv.seats s o st.was), most_left ok)))
    (λ l. absurd ((alone_goes st a l.0 w).0 c x d refl))
    b
spent n u (answers x) st w a k ok b = absurd k

module _ {K : Type 0} {N : Numbers} {accepts : K → Type 0} {bytes : K → List ℕ} (law : Lawful N (KeyOf accepts bytes)) {σ : State} (r : Run N accepts bytes σ) {s : ℕ} (a : Alone s σ) where
  -- what is known after n steps that did not answer
  record After (n : ℕ) (τ : State) : Type 0 where
    run : Run N accepts bytes τ
    alone : Alone s τ
    calls : τ.calls ≡ σ.calls + n
    budget : Budget N n τ alone.operation

  stepped : (n : ℕ) (τ υ : State) (q : Outcome) → After n τ → Did N accepts bytes τ υ (Call.step s) (came q) → ((x : Answer) → q ≡ answers x → ⊥) → After (suc n) υ
  stepped n τ υ q p (Did.steps _ o z _ f was t w) x = by z t w (steps_keep_lem N τ υ o z q w)
    where
      by : (z : Seat) → Turns τ υ s z → Row N τ υ o z q → Kept o z q → After (suc n) υ
      by closed t w k = absurd k
      by idle t w k = absurd (x k.0 k.1)
      by (busy u) t w k =
          let g = good_run law p.run in
          let b = p.alone.busy' in
          let same : p.alone.operation ≡ o = cc in
          let st : Step N (KeyOf accepts bytes) τ υ g.ghosts s o (busy u) q = record { lawful = law; inv = g.inv; seat = seat_below g.inv s o was; was = was; turns = t } in
          let later : Run N accepts bytes υ = on p.run (record { call = Call.step s; reply = came q }) (Did.steps s o (busy u) q f was t w) in
          record {
            run = later;
            alone = record { operation = u; busy' = t.there; others = still_alone p.alone t };
            calls = omega (arith, p.calls, t.calls);
            budget = spent n u q st w (holds_alone p.alone) k.1 ((good_run law later).inv.seats s u t.there) (subst (Budget N n τ) same p.budget);
          }

  refusing : (n : ℕ) (τ υ : State) (c : Call K) (e : Refusal) → After n τ → Did N accepts bytes τ υ c (refused e) → After n υ
  refusing n τ υ c e p (Did.refuses _ _ f q) = subst (After n) (sym q) p

  after : {n : ℕ} {τ : State} → Waits N accepts bytes s σ n τ → After n τ
  after Waits.now = record { run = r; alone = a; calls = omega arith; budget = inl (omega (arith, most_left ((good_run law r).inv.seats s a.operation a.busy'))) }
  after (Waits.steps n τ υ q w d x) = stepped n τ υ q (after w) d x
  after (Waits.refuses n τ υ c e w d) = refusing n τ υ c e (after w) d

  -- each of at most two attempts has so many steps
  few_steps : {n : ℕ} {τ : State} → Waits N accepts bytes s σ n τ → n < 2 * most N
  few_steps w =
      let p = after w in
      let q = some_left ((good_run law p.run).inv.seats s p.alone.operation p.alone.busy') in
      ⊎_elim (λ l. omega (arith, l, q)) (λ l. omega (arith, l.1, q)) p.budget

  -- the seat is busy, and calls are left
  not_refused : {n : ℕ} {τ υ : State} {e : Refusal} → Waits N accepts bytes s σ n τ → n + σ.calls < call_limit → Did N accepts bytes τ υ (Call.step s) (refused e) → ⊥
  not_refused {n} {τ} w l (Did.refuses _ e f q) = fits e f.fits
    where
      fits : (e : Refusal) → Fits accepts τ (Call.step s) e → ⊥
      fits _ (Fits.no_such_seat t h m) =
          let p = after w in
          let e : s ≡ t = cc in
          omega (arith, e, m, seat_below (good_run law p.run).inv s p.alone.operation p.alone.busy')
      fits _ (Fits.step_not_open _ h) = let b = (after w).alone.busy' in no_way cc
      fits _ (Fits.no_operation _ h) = let b = (after w).alone.busy' in no_way cc
      fits _ (Fits.at_call_limit _ h) = omega (arith, (after w).calls, h, l)

pub waited : {K : Type 0} {N : Numbers} {accepts : K → Type 0} {bytes : K → List ℕ} → Lawful N (KeyOf accepts bytes) → 2 * (9 * N.deep + 6) ≤ step_bound → {σ : State} → Run N accepts bytes σ → Waited N accepts bytes σ
waited law few r s a l = record {
  bounded = λ n τ w. omega (arith, few, few_steps law r a w);
  accepted = λ n τ υ e w. not_refused law r a w (omega (arith, few, l, few_steps law r a w));
}
