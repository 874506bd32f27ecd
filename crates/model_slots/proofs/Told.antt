-- The promise in its words, from the marks.
use Rattle.std.proofs.Common.{◌≡◌, ℕ, suc, Bool, true, false, cond, List, [], ◌∷◌, sym, refl, ap, ◌∙◌, subst, inl, inr, ⊎_elim, eq-eqb}
use Rattle.model.specs.Refs.{Ref, pool, is}
use Rattle.model_slots.specs.Slots.{clear, has, State, Event, May, Run, history}
use Rattle.model_slots.specs.Slots.Event.{begin, answer, draw, back, write, sweep, other}
use Rattle.model_slots.specs.Laws.{Mark, mark, swept, sweeps, opens, is_spare, is_retired, is_drawn, Clear, Still, Waits, Spare, Drawn, Retired}
use Rattle.model_slots.specs.Laws.Mark.{linked, spare, outside, drawn, retired}
use Rattle.model_slots.specs.Told.{IsSpare, IsDrawn, IsRetired, Single, Turned, Origin, Told}
use Rattle.model_slots.proofs.Keeps.{never, spare_of, drawn_of, retired_of, good}
use Rattle.model_slots.proofs.Promised.{promise, clear_from}
use Rattle.model_slots.proofs.Words.{words}

module _ {root : Ref} {all : Ref → Bool} {σ : State} (r : Run root all σ) (x : Ref) where
  spare_in : IsSpare r x → Spare root all (history r) x
  spare_in h = spare_of (mark root all (history r) x) (sym (words.spare r x) ∙ h)

  spare_out : Spare root all (history r) x → IsSpare r x
  spare_out h = words.spare r x ∙ ap is_spare h

  retired_in : IsRetired r x → Retired root all (history r) x
  retired_in h = retired_of (mark root all (history r) x) (sym (words.retired r x) ∙ h)

  retired_out : Retired root all (history r) x → IsRetired r x
  retired_out h = words.retired r x ∙ ap is_retired h.1

  drawn_in : IsDrawn r x → Drawn root all (history r) x
  drawn_in h =
      let e = drawn_of h.0 (mark root all (history r) x) (sym (words.drawn r x h.0) ∙ h.1) in
      let b = (good r).busy x h.0 e in
      (h.0, b.0, b.1, e)

  drawn_out : Drawn root all (history r) x → IsDrawn r x
  drawn_out h = (h.0, words.drawn r x h.0 ∙ ap (is_drawn h.0) h.3 ∙ eq-eqb h.0 h.0 refl)

  single : all x ≡ true → Single r x
  single a =
      let o = promise.one r x a in
      record {
        some = ⊎_elim inl (λ u. inr (⊎_elim (λ v. inl (spare_out v)) (λ v. inr (⊎_elim (λ w. inl (drawn_out w)) (λ w. inr (retired_out w)) v)) u)) o.some;
        linked_spare = λ u v. o.linked_spare u (spare_in v);
        linked_drawn = λ u v. o.linked_drawn u (drawn_in v);
        linked_retired = λ u v. o.linked_retired u (retired_in v);
        spare_drawn = λ u v. o.spare_drawn (spare_in u) (drawn_in v);
        spare_retired = λ u v. o.spare_retired (spare_in u) (retired_in v);
        drawn_retired = λ u v. o.drawn_retired (drawn_in u) (retired_in v);
      }

turned : {root : Ref} {all : Ref → Bool} {σ : State} (r : Run root all σ) (n : ℕ) (m : May (sweep n) σ) → Turned r n m
turned r n m =
    let c = promise.counted r n m in
    record {
      list = c.list;
      long = c.long;
      each = λ x u v. c.turned x (retired_in r x u) (spare_in (Run.on r (sweep n) m) x v);
      only = λ x h. let k = c.only x h in (retired_out r x k.0, spare_out (Run.on r (sweep n) m) x k.1);
    }

-- the write from which x has waited, retired after k sweeps
abbrev pub Found : Ref → List Event → ℕ → Type 0
Found x h k = (o : Origin x h) × (sweeps o.before ≡ k)

on_still : (x : Ref) (h : List Event) (k : ℕ) (e : Event) → Still e → Found x h k → Found x (e ∷ h) k
on_still x h k e t (o, q) = (record { seat = o.seat; new = o.new; old = o.old; before = o.before; unlinked = o.unlinked; waits = Waits.still e o.waits t }, q)

on_held : (x : Ref) (h : List Event) (k n : ℕ) → (Clear h (suc k) → ⊥) → Found x h k → Found x (sweep n ∷ h) k
on_held x h k n c (o, q) = (record { seat = o.seat; new = o.new; old = o.old; before = o.before; unlinked = o.unlinked; waits = Waits.held n o.waits (λ d. c (subst (λ (v : ℕ). Clear h (suc v)) q d)) }, q)

swept_kept : (f : ℕ → Bool) (m : Mark) (k : ℕ) → swept f m ≡ retired k → (m ≡ retired k) × (f k ≡ false)
swept_kept f linked k e = never (sym (ap is_retired e))
swept_kept f spare k e = never (sym (ap is_retired e))
swept_kept f outside k e = never (sym (ap is_retired e))
swept_kept f (drawn t) k e = never (sym (ap is_retired e))
swept_kept f (retired j) k e = go (f j) refl e
  where
    go : (b : Bool) → f j ≡ b → cond b spare (retired j) ≡ retired k → (retired j ≡ retired k) × (f k ≡ false)
    go true q w = never (sym (ap is_retired w))
    go false q w = let z : j ≡ k = cc w in (w, ap f (sym z) ∙ q)

pub found : (root : Ref) (all : Ref → Bool) (x : Ref) (h : List Event) (k : ℕ) → mark root all h x ≡ retired k → Found x h k
unfolding mark
found root all x [] k e = go (is x root) (all x) e
  where
    go : (a b : Bool) → cond a linked (cond b spare outside) ≡ retired k → Found x [] k
    go true b q = never (sym (ap is_retired q))
    go false true q = never (sym (ap is_retired q))
    go false false q = never (sym (ap is_retired q))
found root all x (begin s ∷ h) k e = on_still x h k (begin s) tt (found root all x h k e)
found root all x (answer s ∷ h) k e = on_still x h k (answer s) tt (found root all x h k e)
found root all x (draw s y ∷ h) k e = go (is x y) e (λ q. found root all x h k q)
  where
    go : (c : Bool) → cond c (drawn s) (mark root all h x) ≡ retired k → (mark root all h x ≡ retired k → Found x h k) → Found x (draw s y ∷ h) k
    go true q f = never (sym (ap is_retired q))
    go false q f = on_still x h k (draw s y) tt (f q)
found root all x (back s y ∷ h) k e = go (is x y) e (λ q. found root all x h k q)
  where
    go : (c : Bool) → cond c spare (mark root all h x) ≡ retired k → (mark root all h x ≡ retired k → Found x h k) → Found x (back s y ∷ h) k
    go true q f = never (sym (ap is_retired q))
    go false q f = on_still x h k (back s y) tt (f q)
found root all x (write s new old ∷ h) k e = go (has x old) (has x new) refl e (λ q. found root all x h k q)
  where
    go : (a b : Bool) → has x old ≡ a → cond a (retired (sweeps h)) (cond b linked (mark root all h x)) ≡ retired k → (mark root all h x ≡ retired k → Found x h k) → Found x (write s new old ∷ h) k
    go true b w q f = (record { seat = s; new = new; old = old; before = h; unlinked = w; waits = Waits.start }, cc q)
    go false true w q f = never (sym (ap is_retired q))
    go false false w q f = on_still x h k (write s new old) tt (f q)
found root all x (sweep n ∷ h) k e =
    let c = swept_kept (λ v. clear (opens h) v 8) (mark root all h x) k e in
    on_held x h k n (λ d. never (sym (clear_from (opens h) k 8 d) ∙ c.1)) (found root all x h k c.0)
found root all x (other ∷ h) k e = on_still x h k other tt (found root all x h k e)

pub told : Told
told = record {
  one = single;
  once = λ r x h. (promise.queued r x (pool x)).once (spare_in r x h) refl;
  only = λ r x p h. let k = (promise.queued r x p).only h in (spare_out r x k.0, k.1);
  stays = λ r x s new old g e w. retired_out r x (promise.waits r x s new old g e w);
  turns = λ r x s new old g e w c n m. spare_out (Run.on r (sweep n) m) x (promise.turns r x s n new old g e w c);
  answer = turned;
  origin = λ {root} {all} {σ} r x h. let k = retired_in r x h in (found root all x (history r) k.0 k.1).0;
}
