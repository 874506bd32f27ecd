-- The promise, from the agreement.
use Rattle.std.proofs.Common.{◌≡◌, ℕ, zero, suc, ◌<◌, ◌≤◌, Bool, true, false, cond, eqb, ◌⊎◌, List, [], ◌∷◌, length, Some, None, Option, sym, refl, ap, ◌∙◌, subst, inl, inr, ⊎_elim, arith, ltb-true, lt-ltb, eq-eqb, eqb-true}
use native.Mathlib.Decide.{ℕ_discrete}
use Rattle.model.specs.Refs.{Ref, pool}
use Rattle.model.specs.Records.{Record}
use Rattle.model_slots.specs.Slots.{bit, both, count, has, refs, keep, late, clear, freed, State, Event, May, Run, history}
use Rattle.model_slots.specs.Slots.Event.{begin, answer, draw, back, write, sweep, other}
use Rattle.model_slots.specs.Laws.{Mark, mark, swept, sweeps, opens, is_spare, is_linked, is_retired, Clear, Still, Waits, Linked, Spare, Drawn, Retired, One, Queued, Counted, Promise}
use Rattle.model_slots.specs.Laws.Mark.{linked, spare, outside, drawn, retired}
use Rattle.model_slots.proofs.Lists.{is_tells, bit_true, both_true, count_keep, count_keep_most, clear_same}
use Rattle.model_slots.proofs.Keeps.{never, spare_of, retired_of, good, draw_was, back_was, old_was, new_was, alike}

pub queued : {root : Ref} {all : Ref → Bool} {σ : State} (r : Run root all σ) (x : Ref) (p : ℕ) → Queued root all (history r) σ x p
queued {root} {all} {σ} r x p =
    let g = (good r).spare' x p in
    record {
      once = λ e q. g ∙ ap (λ (k : Mark). bit (both (is_spare k) (eqb (pool x) p))) e ∙ ap bit (eq-eqb (pool x) p q);
      only = λ h. let b = both_true (is_spare (mark root all (history r) x)) (eqb (pool x) p) (bit_true (both (is_spare (mark root all (history r) x)) (eqb (pool x) p)) (omega (arith, g, h))) in
          (spare_of (mark root all (history r) x) b.0, eqb-true (pool x) p b.1);
    }

one : {root : Ref} {all : Ref → Bool} {σ : State} (r : Run root all σ) (x : Ref) → all x ≡ true → One root all (history r) σ x
one {root} {all} {σ} r x a = record {
  some = some (mark root all (history r) x) refl;
  linked_spare = λ l e. never (sym (li l) ∙ ap is_linked e);
  linked_drawn = λ l e. never (sym (li l) ∙ ap is_linked e.3);
  linked_retired = λ l e. never (sym (li l) ∙ ap is_linked e.1);
  spare_drawn = λ l e. never (sym (ap is_spare l) ∙ ap is_spare e.3);
  spare_retired = λ l e. never (sym (ap is_spare l) ∙ ap is_spare e.1);
  drawn_retired = λ l e. never (sym (ap is_retired e.1) ∙ ap is_retired l.3);
}
  where
    li : Linked root all σ x → is_linked (mark root all (history r) x) ≡ true
    li l = sym ((good r).linked' x) ∙ l

    some : (k : Mark) → mark root all (history r) x ≡ k → Linked root all σ x ⊎ (Spare root all (history r) x ⊎ (Drawn root all (history r) x ⊎ Retired root all (history r) x))
    some linked e = inl ((good r).linked' x ∙ ap is_linked e)
    some spare e = inr (inl e)
    some outside e = absurd ((good r).inside x a e)
    some (drawn s) e = let b = (good r).busy x s e in inr (inr (inl (s, b.0, b.1, e)))
    some (retired k) e = inr (inr (inr (k, e)))

length_refs : (l : List Record) → length (refs l) ≡ length l
length_refs [] = refl
length_refs (c ∷ l) = ap suc (length_refs l)

counted : {root : Ref} {all : Ref → Bool} {σ : State} (r : Run root all σ) (n : ℕ) → May (sweep n) σ → Counted root all n (history r)
unfolding mark
counted {root} {all} {σ} r n h = record {
  list = refs (keep (freed σ) σ.retired);
  long = length_refs (keep (freed σ) σ.retired) ∙ sym h;
  turned = λ x k e. turned x k.0 k.1 e;
  only = λ x k. only x k (retired_of (mark root all (history r) x) (bit_true (is_retired (mark root all (history r) x)) (omega (arith, k, count_keep_most x (freed σ) σ.retired, (good r).retired' x))));
}
  where
    same : (k : ℕ) → clear σ.begun k 8 ≡ clear (opens (history r)) k 8
    same k = clear_same σ.begun (opens (history r)) (good r).begun' k 8

    -- the records of a retired slot, kept or not by its epoch
    part : (x : Ref) (k : ℕ) (b : Bool) → mark root all (history r) x ≡ retired k → clear (opens (history r)) k 8 ≡ b → count x (refs (keep (freed σ) σ.retired)) ≡ cond b (count x (refs σ.retired)) 0
    part x k b e f = count_keep x (freed σ) b σ.retired (alike (good r) x k (freed σ) b e (λ c w z. ap (λ (v : ℕ). clear σ.begun v 8) z ∙ same k ∙ f))

    turned : (x : Ref) (k : ℕ) → mark root all (history r) x ≡ retired k → swept (λ v. clear (opens (history r)) v 8) (mark root all (history r) x) ≡ spare → count x (refs (keep (freed σ) σ.retired)) ≡ 1
    turned x k e q = go (clear (opens (history r)) k 8) refl (sym (ap (swept (λ v. clear (opens (history r)) v 8)) e) ∙ q)
      where
        go : (b : Bool) → clear (opens (history r)) k 8 ≡ b → cond b spare (retired k) ≡ spare → count x (refs (keep (freed σ) σ.retired)) ≡ 1
        go true f w = part x k true e f ∙ (good r).retired' x ∙ ap (λ (m : Mark). bit (is_retired m)) e
        go false f w = let z : ◌≡◌ {A = ℕ} 0 1 = cc w in absurd (omega arith)

    only : (x : Ref) → 0 < count x (refs (keep (freed σ) σ.retired)) → (k : ℕ) × (mark root all (history r) x ≡ retired k)
        → Retired root all (history r) x × (swept (λ v. clear (opens (history r)) v 8) (mark root all (history r) x) ≡ spare)
    only x h (k, e) = ((k, e), ap (swept (λ v. clear (opens (history r)) v 8)) e ∙ go (clear (opens (history r)) k 8) refl)
      where
        go : (b : Bool) → clear (opens (history r)) k 8 ≡ b → cond b spare (retired k) ≡ spare
        go true f = refl
        go false f = absurd (omega (arith, h, part x k false e f))

pub clear_from : (o : ℕ → Option ℕ) (r n : ℕ) → ((s e : ℕ) → s < n → o s ≡ Some e → suc r ≤ e) → clear o r n ≡ true
clear_from o r zero h = refl
clear_from o r (suc n) h = go (o n) refl (clear_from o r n (λ s e l q. h s e (omega (arith, l)) q))
  where
    go : (q : Option ℕ) → o n ≡ q → clear o r n ≡ true → both (late r q) (clear o r n) ≡ true
    go None e k = k
    go (Some v) e k = ap (λ (b : Bool). both b (clear o r n)) (lt-ltb r v (h n v (omega arith) e)) ∙ k

clear_to : (o : ℕ → Option ℕ) (r n : ℕ) → clear o r n ≡ true → (s e : ℕ) → s < n → o s ≡ Some e → suc r ≤ e
clear_to o r zero h s e l q = absurd (omega (arith, l))
clear_to o r (suc n) h s e l q =
    let b = both_true (late r (o n)) (clear o r n) h in
    elim (ℕ_discrete s n) [
      | yes z ↦ ltb-true r e (sym (ap (late r) (ap o (sym z) ∙ q)) ∙ b.0)
      | no ne ↦ clear_to o r n b.1 s e (omega (arith, l, ne)) q
    ]

-- what is retired stays so at all but a sweep
stays : {root : Ref} {all : Ref → Bool} {σ : State} (r : Run root all σ) (x : Ref) (k : ℕ) (e : Event) → May e σ → Still e → mark root all (history r) x ≡ retired k → mark root all (e ∷ history r) x ≡ retired k
unfolding mark
stays r x k (begin s) m t q = q
stays r x k (answer s) m t q = q
stays {root} {all} r x k (draw s y) m t q = ⊎_elim
    (λ a. never (sym (ap is_retired q) ∙ ap is_retired (subst (λ (z : Ref). mark root all (history r) z ≡ spare) (sym a.1) (draw_was (good r) s y m))))
    (λ a. rw a.0 q)
    (is_tells x y)
stays {root} {all} r x k (back s y) m t q = ⊎_elim
    (λ a. never (sym (ap is_retired q) ∙ ap is_retired (subst (λ (z : Ref). mark root all (history r) z ≡ drawn s) (sym a.1) (back_was (good r) s y m))))
    (λ a. rw a.0 q)
    (is_tells x y)
stays {root} {all} r x k (write s new old) m t q = go (has x old) (has x new) refl refl
  where
    go : (a b : Bool) → has x old ≡ a → has x new ≡ b → cond a (retired (sweeps (history r))) (cond b linked (mark root all (history r) x)) ≡ retired k
    go true b e f = never (sym (ap is_retired q) ∙ ap is_retired (old_was (good r) s new old m x e).0)
    go false true e f = never (sym (ap is_retired q) ∙ ap is_retired (new_was (good r) s new old m x f))
    go false false e f = q
stays r x k (sweep n) m t q = absurd t
stays r x k other m t q = q

swept_not : (root : Ref) (all : Ref → Bool) (h : List Event) (x : Ref) (n k : ℕ) → mark root all h x ≡ retired k → (Clear h (suc k) → ⊥) → mark root all (sweep n ∷ h) x ≡ retired k
unfolding mark
swept_not root all h x n k q c = ap (swept (λ v. clear (opens h) v 8)) q ∙ go (clear (opens h) k 8) refl
  where
    go : (b : Bool) → clear (opens h) k 8 ≡ b → cond b spare (retired k) ≡ retired k
    go true e = absurd (c (λ s e' l o. clear_to (opens h) k 8 e s e' l o))
    go false e = refl

swept_so : (root : Ref) (all : Ref → Bool) (h : List Event) (x : Ref) (n k : ℕ) → mark root all h x ≡ retired k → Clear h (suc k) → mark root all (sweep n ∷ h) x ≡ spare
unfolding mark
swept_so root all h x n k q c = ap (swept (λ v. clear (opens h) v 8)) q ∙ ap (λ (b : Bool). cond b spare (retired k)) (clear_from (opens h) k 8 c)

starts : (root : Ref) (all : Ref → Bool) (x : Ref) (s : ℕ) (new old : List Ref) (g : List Event) → has x old ≡ true → mark root all (write s new old ∷ g) x ≡ retired (sweeps g)
unfolding mark
starts root all x s new old g e = rw e

waits : {root : Ref} {all : Ref → Bool} (x : Ref) (k : ℕ) (g : List Event) → mark root all g x ≡ retired k → (h : List Event) → Waits (suc k) g h → (σ : State) (r : Run root all σ) → history r ≡ h → mark root all h x ≡ retired k
waits x k g e _ Waits.start σ r q = e
waits x k g e _ (Waits.still v w' t) σ (Run.made w) q = let z : ◌≡◌ {A = ℕ} 0 1 = cc q in absurd (omega arith)
waits x k g e _ (Waits.held n w' c) σ (Run.made w) q = let z : ◌≡◌ {A = ℕ} 0 1 = cc q in absurd (omega arith)
waits {root} {all} x k g e _ (Waits.still {h = h} u w t) _ (Run.on {σ = σ} r v m) q =
    let a : v ≡ u = cc q in
    let b : history r ≡ h = cc q in
    let c : mark root all (history r) x ≡ retired k = ap (λ (l : List Event). mark root all l x) b ∙ waits x k g e h w σ r b in
    subst (λ (l : List Event). mark root all l x ≡ retired k) q (stays r x k v m (subst Still (sym a) t) c)
waits {root} {all} x k g e _ (Waits.held {h = h} n w c) _ (Run.on {σ = σ} r v m) q =
    let b : history r ≡ h = cc q in
    swept_not root all h x n k (waits x k g e h w σ r b) c

pub promise : Promise
promise = record {
  queued = queued;
  one = one;
  counted = counted;
  waits = λ {root} {all} {σ} r x s new old g e w. (sweeps g, waits x (sweeps g) (write s new old ∷ g) (starts root all x s new old g e) (history r) w σ r refl);
  turns = λ {root} {all} {σ} r x s n new old g e w c. swept_so root all (history r) x n (sweeps g) (waits x (sweeps g) (write s new old ∷ g) (starts root all x s new old g e) (history r) w σ r refl) c;
}
