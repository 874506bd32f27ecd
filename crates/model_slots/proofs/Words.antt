-- The words are the marks.
use Rattle.std.proofs.Common.{◌≡◌, ℕ, Bool, true, false, cond, eqb, List, [], ◌∷◌, sym, refl, ap, ◌∙◌, subst, ⊎_elim, arith, eq-eqb, eqb-true}
use Rattle.model.specs.Refs.{Ref, pool, is}
use Rattle.model_slots.specs.Slots.{bit, both, not, count, has, clear, State, Event, May, after, Run, history}
use Rattle.model_slots.specs.Slots.Event.{begin, answer, draw, back, write, sweep, other}
use Rattle.model_slots.specs.Laws.{Mark, mark, swept, sweeps, opens, is_spare, is_retired, is_drawn}
use Rattle.model_slots.specs.Laws.Mark.{linked, spare, outside, drawn, retired}
use Rattle.model_slots.specs.Words.{either, since, never, draws, frees, returns, drawn_by, retired_by, spare_by, Words}
use Rattle.model_slots.proofs.Lists.{is_tells, has_some, has_counted}
use Rattle.model_slots.proofs.Keeps.{never as clash, good, next, draw_was, back_was, old_was, new_was}

both_yes : (b : Bool) → both b true ≡ b
both_yes true = refl
both_yes false = refl

both_no : (b : Bool) → both b false ≡ false
both_no true = refl
both_no false = refl

idle : (p n s : Bool) → either (both p (both n true)) (both s true) ≡ either (both p n) s
idle p n s = rw (both_yes n, both_yes s)

has_bit : (x : Ref) (l : List Ref) (b : Bool) → count x l ≡ bit b → has x l ≡ b
has_bit x l true e = has_counted x l (omega (arith, e))
has_bit x l false e = go (has x l) refl
  where
    go : (b : Bool) → has x l ≡ b → has x l ≡ false
    go true q = absurd (omega (arith, has_some x l q, e))
    go false q = q

swept_drawn : (f : ℕ → Bool) (t : ℕ) (k : Mark) → is_drawn t k ≡ is_drawn t (swept f k)
swept_drawn f t linked = refl
swept_drawn f t spare = refl
swept_drawn f t outside = refl
swept_drawn f t (drawn u) = refl
swept_drawn f t (retired r) = go (f r)
  where
    go : (b : Bool) → false ≡ is_drawn t (cond b spare (retired r))
    go true = refl
    go false = refl

swept_spare : (f : ℕ → Bool) (k : Mark) → is_spare k ≡ true → is_spare (swept f k) ≡ true
swept_spare f linked e = e
swept_spare f spare e = e
swept_spare f outside e = e
swept_spare f (drawn u) e = e
swept_spare f (retired r) e = clash (sym e)

swept_retired : (f : ℕ → Bool) (k : Mark) (s : Bool) → s ≡ is_retired k → both s (not (both (not (is_spare k)) (is_spare (swept f k)))) ≡ is_retired (swept f k)
swept_retired f linked s e = both_yes s ∙ e
swept_retired f spare s e = both_yes s ∙ e
swept_retired f outside s e = both_yes s ∙ e
swept_retired f (drawn u) s e = both_yes s ∙ e
swept_retired f (retired r) s e = go (f r)
  where
    go : (b : Bool) → both s (not (is_spare (cond b spare (retired r)))) ≡ is_retired (cond b spare (retired r))
    go true = both_no s
    go false = both_yes s ∙ e

module _ {root : Ref} {all : Ref → Bool} {σ : State} (r : Run root all σ) (x : Ref) where
  m : Mark
  m = mark root all (history r) x

  at_draw : (s : ℕ) (y : Ref) → May (draw s y) σ → is x y ≡ true → mark root all (history r) x ≡ spare
  at_draw s y h e = ⊎_elim (λ a. subst (λ (z : Ref). mark root all (history r) z ≡ spare) (sym a.1) (draw_was (good r) s y h)) (λ a. clash (sym e ∙ a.0)) (is_tells x y)

  at_back : (s : ℕ) (y : Ref) → May (back s y) σ → is x y ≡ true → mark root all (history r) x ≡ drawn s
  at_back s y h e = ⊎_elim (λ a. subst (λ (z : Ref). mark root all (history r) z ≡ drawn s) (sym a.1) (back_was (good r) s y h)) (λ a. clash (sym e ∙ a.0)) (is_tells x y)

  -- a sweep frees x just where it turns it spare
  freeing : (n : ℕ) → May (sweep n) σ → frees x (sweep n) σ ≡ both (not (is_spare (mark root all (history r) x))) (is_spare (swept (λ v. clear (opens (history r)) v 8) (mark root all (history r) x)))
  unfolding mark
  freeing n h =
      let q = eq-eqb (pool x) (pool x) refl in
      let a = has_bit x (σ.spare (pool x)) (is_spare (mark root all (history r) x))
      ((good r).spare' x (pool x) ∙ ap bit (ap (both (is_spare (mark root all (history r) x))) q ∙ both_yes (is_spare (mark root all (history r) x)))) in
      let w = is_spare (swept (λ v. clear (opens (history r)) v 8) (mark root all (history r) x)) in
      let b = has_bit x ((after (sweep n) σ).spare (pool x)) w ((next root (history r) (good r) (sweep n) h).spare' x (pool x) ∙ ap bit (ap (both w) q ∙ both_yes w)) in
      ap (λ (z : Bool). both (not z) (has x ((after (sweep n) σ).spare (pool x)))) a ∙ ap (both (not (is_spare (mark root all (history r) x)))) b

  drawn_step : (t : ℕ) (e : Event) (h : May e σ) → drawn_by t x r ≡ is_drawn t (mark root all (history r) x) → drawn_by t x (Run.on r e h) ≡ is_drawn t (mark root all (e ∷ history r) x)
  unfolding mark
  drawn_step t (begin s) h k = both_yes (drawn_by t x r) ∙ k
  drawn_step t (answer s) h k = go (eqb t s) refl
    where
      go : (b : Bool) → eqb t s ≡ b → both (drawn_by t x r) (not b) ≡ is_drawn t (mark root all (history r) x)
      go true e = both_no (drawn_by t x r) ∙ none (is_drawn t (mark root all (history r) x)) refl
        where
          none : (c : Bool) → is_drawn t (mark root all (history r) x) ≡ c → false ≡ c
          none true f = absurd (omega (arith, (good r).drawn' x t, ap bit f, ap (count x) (ap σ.drawn (eqb-true t s e) ∙ h)))
          none false f = refl
      go false e = both_yes (drawn_by t x r) ∙ k
  drawn_step t (draw s y) h k = go (is x y) (eqb t s) refl refl
    where
      go : (c b : Bool) → is x y ≡ c → eqb t s ≡ b → either (both c b) (both (drawn_by t x r) true) ≡ is_drawn t (cond c (drawn s) (mark root all (history r) x))
      go true true e f = sym f
      go true false e f = both_yes (drawn_by t x r) ∙ k ∙ ap (is_drawn t) (at_draw s y h e) ∙ sym f
      go false b e f = both_yes (drawn_by t x r) ∙ k
  drawn_step t (back s y) h k = go (is x y)
    where
      go : (c : Bool) → both (drawn_by t x r) (not c) ≡ is_drawn t (cond c spare (mark root all (history r) x))
      go true = both_no (drawn_by t x r)
      go false = both_yes (drawn_by t x r) ∙ k
  drawn_step t (write s new old) h k = go (has x old) (has x new) refl
    where
      go : (a b : Bool) → has x old ≡ a → both (drawn_by t x r) (not b) ≡ is_drawn t (cond a (retired (sweeps (history r))) (cond b linked (mark root all (history r) x)))
      go true b e = ap (λ (z : Bool). both z (not b)) (k ∙ ap (is_drawn t) (old_was (good r) s new old h x e).0)
      go false true e = both_no (drawn_by t x r)
      go false false e = both_yes (drawn_by t x r) ∙ k
  drawn_step t (sweep n) h k = both_yes (drawn_by t x r) ∙ k ∙ swept_drawn (λ v. clear (opens (history r)) v 8) t (mark root all (history r) x)
  drawn_step t other h k = both_yes (drawn_by t x r) ∙ k

  retired_step : (e : Event) (h : May e σ) → retired_by x r ≡ is_retired (mark root all (history r) x) → retired_by x (Run.on r e h) ≡ is_retired (mark root all (e ∷ history r) x)
  unfolding mark
  retired_step (begin s) h k = both_yes (retired_by x r) ∙ k
  retired_step (answer s) h k = both_yes (retired_by x r) ∙ k
  retired_step (draw s y) h k = both_yes (retired_by x r) ∙ k ∙ go (is x y) refl
    where
      go : (c : Bool) → is x y ≡ c → is_retired (mark root all (history r) x) ≡ is_retired (cond c (drawn s) (mark root all (history r) x))
      go true e = ap is_retired (at_draw s y h e)
      go false e = refl
  retired_step (back s y) h k = both_yes (retired_by x r) ∙ k ∙ go (is x y) refl
    where
      go : (c : Bool) → is x y ≡ c → is_retired (mark root all (history r) x) ≡ is_retired (cond c spare (mark root all (history r) x))
      go true e = ap is_retired (at_back s y h e)
      go false e = refl
  retired_step (write s new old) h k = go (has x old) (has x new) refl
    where
      go : (a b : Bool) → has x new ≡ b → either a (both (retired_by x r) true) ≡ is_retired (cond a (retired (sweeps (history r))) (cond b linked (mark root all (history r) x)))
      go true b e = refl
      go false true e = both_yes (retired_by x r) ∙ k ∙ ap is_retired (new_was (good r) s new old h x e)
      go false false e = both_yes (retired_by x r) ∙ k
  retired_step (sweep n) h k = ap (λ (z : Bool). both (retired_by x r) (not z)) (freeing n h) ∙ swept_retired (λ v. clear (opens (history r)) v 8) (mark root all (history r) x) (retired_by x r) k
  retired_step other h k = both_yes (retired_by x r) ∙ k

  -- a slot of a pool, and not the root
  abbrev p : Bool
  p = both (not (is x root)) (all x)

  abbrev fresh : Bool
  fresh = never (draws x) r

  abbrev again : Bool
  again = since (returns x) (draws x) r

  spare_step : (e : Event) (h : May e σ) → spare_by x r ≡ is_spare (mark root all (history r) x) → spare_by x (Run.on r e h) ≡ is_spare (mark root all (e ∷ history r) x)
  unfolding mark
  spare_step (begin s) h k = idle p fresh again ∙ k
  spare_step (answer s) h k = idle p fresh again ∙ k
  spare_step (draw s y) h k = go (is x y)
    where
      go : (c : Bool) → either (both p (both fresh (not c))) (both again (not c)) ≡ is_spare (cond c (drawn s) (mark root all (history r) x))
      go true = rw (both_no fresh, both_no again, both_no p)
      go false = idle p fresh again ∙ k
  spare_step (back s y) h k = go (is x y)
    where
      yes_either : (b : Bool) → either b true ≡ true
      yes_either true = refl
      yes_either false = refl

      go : (c : Bool) → either (both p (both fresh true)) (either c (both again true)) ≡ is_spare (cond c spare (mark root all (history r) x))
      go true = yes_either (both p (both fresh true))
      go false = idle p fresh again ∙ k
  spare_step (write s new old) h k = idle p fresh again ∙ k ∙ go (has x old) (has x new) refl refl
    where
      go : (a b : Bool) → has x old ≡ a → has x new ≡ b → is_spare (mark root all (history r) x) ≡ is_spare (cond a (retired (sweeps (history r))) (cond b linked (mark root all (history r) x)))
      go true b e f = ap is_spare (old_was (good r) s new old h x e).0
      go false true e f = ap is_spare (new_was (good r) s new old h x f)
      go false false e f = refl
  spare_step (sweep n) h k = ap (λ (z : Bool). either (both p (both fresh true)) (either z (both again true))) (freeing n h)
      ∙ go (is_spare (mark root all (history r) x)) (is_spare (swept (λ v. clear (opens (history r)) v 8) (mark root all (history r) x))) k (swept_spare (λ v. clear (opens (history r)) v 8) (mark root all (history r) x))
    where
      yes_either : (b : Bool) → either b true ≡ true
      yes_either true = refl
      yes_either false = refl

      go : (u v : Bool) → either (both p fresh) again ≡ u → (u ≡ true → v ≡ true) → either (both p (both fresh true)) (either (both (not u) v) (both again true)) ≡ v
      go true v e f = idle p fresh again ∙ e ∙ sym (f refl)
      go false true e f = yes_either (both p (both fresh true))
      go false false e f = idle p fresh again ∙ e
  spare_step other h k = idle p fresh again ∙ k

at_first : (root : Ref) (all : Ref → Bool) (x : Ref) → (either (both (both (not (is x root)) (all x)) true) false ≡ is_spare (mark root all [] x)) × (false ≡ is_retired (mark root all [] x)) × ((t : ℕ) → false ≡ is_drawn t (mark root all [] x))
unfolding mark
at_first root all x = go (is x root) (all x)
  where
    go : (a b : Bool) → (either (both (both (not a) b) true) false ≡ is_spare (cond a linked (cond b spare outside))) × (false ≡ is_retired (cond a linked (cond b spare outside))) × ((t : ℕ) → false ≡ is_drawn t (cond a linked (cond b spare outside)))
    go true b = (refl, refl, λ t. refl)
    go false true = (refl, refl, λ t. refl)
    go false false = (refl, refl, λ t. refl)

drawn_word : {root : Ref} {all : Ref → Bool} (x : Ref) (t : ℕ) {σ : State} (r : Run root all σ) → drawn_by t x r ≡ is_drawn t (mark root all (history r) x)
drawn_word {root} {all} x t (Run.made w) = (at_first root all x).2 t
drawn_word x t (Run.on r e h) = drawn_step r x t e h (drawn_word x t r)

retired_word : {root : Ref} {all : Ref → Bool} (x : Ref) {σ : State} (r : Run root all σ) → retired_by x r ≡ is_retired (mark root all (history r) x)
retired_word {root} {all} x (Run.made w) = (at_first root all x).1
retired_word x (Run.on r e h) = retired_step r x e h (retired_word x r)

spare_word : {root : Ref} {all : Ref → Bool} (x : Ref) {σ : State} (r : Run root all σ) → spare_by x r ≡ is_spare (mark root all (history r) x)
spare_word {root} {all} x (Run.made w) = (at_first root all x).0
spare_word x (Run.on r e h) = spare_step r x e h (spare_word x r)

pub words : Words
words = record {
  drawn = λ r x t. drawn_word x t r;
  retired = λ r x. retired_word x r;
  spare = λ r x. spare_word x r;
}
