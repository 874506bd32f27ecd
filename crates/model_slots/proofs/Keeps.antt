-- What the machine holds agrees with what the events say.
use Rattle.std.proofs.Common.{◌≡◌, ℕ, suc, ◌+◌, Bool, true, false, cond, eqb, ◌⊎◌, List, [], ◌∷◌, ◌++◌, Some, None, Option, sym, refl, ap, ◌∙◌, subst, inl, inr, ⊎_elim, arith, eq-eqb, eqb-true}
use Rattle.model.specs.Refs.{Ref, pool, is}
use Rattle.model.specs.Records.{Record}
use Rattle.model_slots.specs.Slots.{bit, both, not, count, has, tail, refs, stamped, keep, clear, freed, State, Event, May, after, New, Run, history}
use Rattle.model_slots.specs.Slots.Event.{begin, answer, draw, back, write, sweep, other}
use Rattle.model_slots.specs.Laws.{Mark, mark, swept, sweeps, opens, is_spare, is_linked, is_retired, is_drawn}
use Rattle.model_slots.specs.Laws.Mark.{linked, spare, outside, drawn, retired}
use Rattle.model_slots.proofs.Lists.{is_tells, is_self, bit_most, bit_true, both_true, count_app, refs_app, refs_stamped, has_none, has_some, has_counted, Each, each_map, each_app, each_keep, each_stamped, count_keep, count_keep_most, clear_same}

pub never : {P : Type 0} → true ≡ false → P
never e = let z : ◌≡◌ {A = ℕ} 0 1 = cc e in absurd (omega (arith, z))

pub spare_of : (k : Mark) → is_spare k ≡ true → k ≡ spare
spare_of linked e = never (sym e)
spare_of spare e = refl
spare_of outside e = never (sym e)
spare_of (drawn s) e = never (sym e)
spare_of (retired r) e = never (sym e)

pub linked_of : (k : Mark) → is_linked k ≡ true → k ≡ linked
linked_of linked e = refl
linked_of spare e = never (sym e)
linked_of outside e = never (sym e)
linked_of (drawn s) e = never (sym e)
linked_of (retired r) e = never (sym e)

pub drawn_of : (s : ℕ) (k : Mark) → is_drawn s k ≡ true → k ≡ drawn s
drawn_of s linked e = never (sym e)
drawn_of s spare e = never (sym e)
drawn_of s outside e = never (sym e)
drawn_of s (drawn t) e = ap drawn (sym (eqb-true s t e))
drawn_of s (retired r) e = never (sym e)

pub retired_of : (k : Mark) → is_retired k ≡ true → (r : ℕ) × (k ≡ retired r)
retired_of linked e = never (sym e)
retired_of spare e = never (sym e)
retired_of outside e = never (sym e)
retired_of (drawn s) e = never (sym e)
retired_of (retired r) e = (r, refl)

pub record Inv (all : Ref → Bool) (m : Ref → Mark) (o : ℕ → Option ℕ) (n : ℕ) (σ : State) : Type 0 where
  pub linked' : (x : Ref) → σ.linked x ≡ is_linked (m x)
  pub spare' : (x : Ref) (p : ℕ) → count x (σ.spare p) ≡ bit (both (is_spare (m x)) (eqb (pool x) p))
  pub drawn' : (x : Ref) (s : ℕ) → count x (σ.drawn s) ≡ bit (is_drawn s (m x))
  pub retired' : (x : Ref) → count x (refs σ.retired) ≡ bit (is_retired (m x))
  pub records : Each (λ r. m r.ref ≡ retired r.epoch) σ.retired
  pub epoch' : σ.epoch ≡ n
  pub begun' : (s : ℕ) → σ.begun s ≡ o s
  pub busy : (x : Ref) (s : ℕ) → m x ≡ drawn s → (e : ℕ) × (o s ≡ Some e)
  pub inside : (x : Ref) → all x ≡ true → m x ≡ outside → ⊥

module _ {all : Ref → Bool} {m : Ref → Mark} {o : ℕ → Option ℕ} {n : ℕ} {σ : State} (i : Inv all m o n σ) where
  -- what an event finds of the slots that it moves
  pub draw_was : (s : ℕ) (y : Ref) → May (draw s y) σ → m y ≡ spare
  draw_was s y h = spare_of (m y) (both_true (is_spare (m y)) (eqb (pool y) (pool y)) (bit_true (both (is_spare (m y)) (eqb (pool y) (pool y)))
      (omega (arith, i.spare' y (pool y), ap (count y) h.1.1, ap bit (is_self y))))).0

  pub back_was : (s : ℕ) (y : Ref) → May (back s y) σ → m y ≡ drawn s
  back_was s y h = drawn_of s (m y) (bit_true (is_drawn s (m y)) (omega (arith, i.drawn' y s, ap (count y) h.1, ap bit (is_self y))))

  pub old_was : (s : ℕ) (new old : List Ref) → May (write s new old) σ → (x : Ref) → has x old ≡ true → (m x ≡ linked) × (count x old ≡ 1)
  old_was s new old h x e = (
    linked_of (m x) (sym (i.linked' x) ∙ bit_true (σ.linked x) (omega (arith, has_some x old e, h.1 x))),
    omega (arith, has_some x old e, h.1 x, bit_most (σ.linked x)),
  )

  pub new_was : (s : ℕ) (new old : List Ref) → May (write s new old) σ → (x : Ref) → has x new ≡ true → m x ≡ drawn s
  new_was s new old h x e = drawn_of s (m x) (bit_true (is_drawn s (m x)) (omega (arith, has_some x new e, i.drawn' x s, ap (count x) h.0)))

  keeps_begin : (s : ℕ) → May (begin s) σ → Inv all m (λ t. cond (eqb t s) (Some n) (o t)) n (after (begin s) σ)
  keeps_begin s h = record {
    linked' = i.linked';
    spare' = i.spare';
    drawn' = i.drawn';
    retired' = i.retired';
    records = i.records;
    epoch' = i.epoch';
    begun' = λ t. let a = i.begun' t in let b = i.epoch' in cc;
    busy = λ x t e. go (eqb t s) (o t) (i.busy x t e);
    inside = i.inside;
  }
    where
      go : (b : Bool) (q : Option ℕ) → (e : ℕ) × (q ≡ Some e) → (e : ℕ) × (cond b (Some n) q ≡ Some e)
      go true q h = (n, refl)
      go false q h = h

  keeps_answer : (s : ℕ) → May (answer s) σ → Inv all m (λ t. cond (eqb t s) None (o t)) n (after (answer s) σ)
  keeps_answer s h = record {
    linked' = i.linked';
    spare' = i.spare';
    drawn' = i.drawn';
    retired' = i.retired';
    records = i.records;
    epoch' = i.epoch';
    begun' = λ t. let a = i.begun' t in cc;
    busy = λ x t e. go x t e (eqb t s) refl (i.busy x t e);
    inside = i.inside;
  }
    where
      go : (x : Ref) (t : ℕ) → m x ≡ drawn t → (b : Bool) → eqb t s ≡ b → (e : ℕ) × (o t ≡ Some e) → (e : ℕ) × (cond b None (o t) ≡ Some e)
      go x t e true q k =
          let a : is_drawn s (m x) ≡ true = ap (is_drawn s) e ∙ eq-eqb s t (sym (eqb-true t s q)) in
          absurd (omega (arith, i.drawn' x s, ap (count x) h, ap bit a))
      go x t e false q k = k

  -- one slot's mark changes, between ones that are neither linked nor retired
  module _ (y : Ref) (k : Mark) (kl : is_linked k ≡ false) (kr : is_retired k ≡ false) (yl : is_linked (m y) ≡ false) (yr : is_retired (m y) ≡ false) where
    one_linked : (x : Ref) → σ.linked x ≡ is_linked (cond (is x y) k (m x))
    one_linked x = ⊎_elim
        (λ a. rw a.0 (i.linked' x ∙ ap (λ (z : Ref). is_linked (m z)) a.1 ∙ yl ∙ sym kl))
        (λ a. rw a.0 (i.linked' x))
        (is_tells x y)

    one_retired : (x : Ref) → count x (refs σ.retired) ≡ bit (is_retired (cond (is x y) k (m x)))
    one_retired x = ⊎_elim
        (λ a. rw a.0 (i.retired' x ∙ ap bit (ap (λ (z : Ref). is_retired (m z)) a.1 ∙ yr ∙ sym kr)))
        (λ a. rw a.0 (i.retired' x))
        (is_tells x y)

    one_records : Each (λ r. cond (is r.ref y) k (m r.ref) ≡ retired r.epoch) σ.retired
    one_records = each_map (λ r. m r.ref ≡ retired r.epoch) (λ r. cond (is r.ref y) k (m r.ref) ≡ retired r.epoch)
        (λ r e. ⊎_elim
        (λ a. never (sym (ap is_retired e) ∙ ap (λ (z : Ref). is_retired (m z)) a.1 ∙ yr))
        (λ a. rw a.0 e)
        (is_tells r.ref y))
        σ.retired i.records

  both_false : (a : Bool) → both a false ≡ false
  both_false true = refl
  both_false false = refl

  keeps_draw : (s : ℕ) (y : Ref) → May (draw s y) σ → Inv all (λ x. cond (is x y) (drawn s) (m x)) o n (after (draw s y) σ)
  keeps_draw s y h = record {
    linked' = one_linked y (drawn s) refl refl (ap is_linked my) (ap is_retired my);
    spare' = λ x p. go x p (is x y) (eqb (pool y) p) (is_tells x y) refl refl;
    drawn' = λ x t. by x t (is x y) (eqb t s) refl refl (is_tells x y);
    retired' = one_retired y (drawn s) refl refl (ap is_linked my) (ap is_retired my);
    records = one_records y (drawn s) refl refl (ap is_linked my) (ap is_retired my);
    epoch' = i.epoch';
    begun' = i.begun';
    busy = λ x t e. op x t (is x y) e;
    inside = λ x a. within x (is x y) a;
  }
    where
      my : m y ≡ spare
      my = draw_was s y h

      front : (x : Ref) (p : ℕ) → eqb (pool y) p ≡ true → count x (σ.spare p) ≡ bit (is x y) + count x (tail (σ.spare p))
      front x p q =
          let e : σ.spare p ≡ y ∷ h.1.0 = subst (λ (z : ℕ). σ.spare z ≡ y ∷ h.1.0) (eqb-true (pool y) p q) h.1.1 in
          ap (count x) e ∙ ap (λ (l : List Ref). bit (is x y) + count x (tail l)) (sym e)

      go : (x : Ref) (p : ℕ) (c b : Bool) → ((is x y ≡ true) × (x ≡ y)) ⊎ ((is x y ≡ false) × (x ≡ y → ⊥)) → is x y ≡ c → eqb (pool y) p ≡ b
          → count x (cond b (tail (σ.spare p)) (σ.spare p)) ≡ bit (both (is_spare (cond c (drawn s) (m x))) (eqb (pool x) p))
      go x p true true t e q = omega (arith, front x p q, i.spare' x p, bit_most (both (is_spare (m x)) (eqb (pool x) p)), ap bit e)
      go x p true false (inl t) e q = i.spare' x p ∙ ap bit (ap (λ (z : Ref). both (is_spare (m x)) (eqb (pool z) p)) t.1 ∙ ap (both (is_spare (m x))) q ∙ both_false (is_spare (m x)))
      go x p true false (inr t) e q = never (sym e ∙ t.0)
      go x p false true t e q = omega (arith, front x p q, i.spare' x p, ap bit e)
      go x p false false t e q = i.spare' x p

      by : (x : Ref) (t : ℕ) (c b : Bool) → is x y ≡ c → eqb t s ≡ b → ((is x y ≡ true) × (x ≡ y)) ⊎ ((is x y ≡ false) × (x ≡ y → ⊥))
          → count x (cond b (y ∷ σ.drawn t) (σ.drawn t)) ≡ bit (is_drawn t (cond c (drawn s) (m x)))
      by x t true true e q (inl a) = omega (arith, i.drawn' x t, ap (λ (k : Mark). bit (is_drawn t k)) (ap m a.1 ∙ my), ap bit e, ap bit q)
      by x t true false e q (inl a) = omega (arith, i.drawn' x t, ap (λ (k : Mark). bit (is_drawn t k)) (ap m a.1 ∙ my), ap bit q)
      by x t true b e q (inr a) = never (sym e ∙ a.0)
      by x t false true e q a = omega (arith, i.drawn' x t, ap bit e)
      by x t false false e q a = i.drawn' x t

      op : (x : Ref) (t : ℕ) (c : Bool) → cond c (drawn s) (m x) ≡ drawn t → (e : ℕ) × (o t ≡ Some e)
      op x t true e = let z : s ≡ t = cc e in (h.0.0, ap o (sym z) ∙ sym (i.begun' s) ∙ h.0.1)
      op x t false e = i.busy x t e

      within : (x : Ref) (c : Bool) → all x ≡ true → cond c (drawn s) (m x) ≡ outside → ⊥
      within x true a e = let z : ◌≡◌ {A = ℕ} 0 1 = cc e in absurd (omega arith)
      within x false a e = i.inside x a e

  keeps_back : (s : ℕ) (y : Ref) → May (back s y) σ → Inv all (λ x. cond (is x y) spare (m x)) o n (after (back s y) σ)
  keeps_back s y h = record {
    linked' = one_linked y spare refl refl (ap is_linked my) (ap is_retired my);
    spare' = λ x p. go x p (is x y) (eqb (pool y) p) (is_tells x y) refl refl;
    drawn' = λ x t. by x t (is x y) (eqb t s) refl refl (is_tells x y);
    retired' = one_retired y spare refl refl (ap is_linked my) (ap is_retired my);
    records = one_records y spare refl refl (ap is_linked my) (ap is_retired my);
    epoch' = i.epoch';
    begun' = i.begun';
    busy = λ x t e. op x t (is x y) e;
    inside = λ x a. within x (is x y) a;
  }
    where
      my : m y ≡ drawn s
      my = back_was s y h

      front : (x : Ref) (t : ℕ) → eqb t s ≡ true → count x (σ.drawn t) ≡ bit (is x y) + count x (tail (σ.drawn t))
      front x t q =
          let e : σ.drawn t ≡ y ∷ h.0 = subst (λ (z : ℕ). σ.drawn z ≡ y ∷ h.0) (sym (eqb-true t s q)) h.1 in
          ap (count x) e ∙ ap (λ (l : List Ref). bit (is x y) + count x (tail l)) (sym e)

      go : (x : Ref) (p : ℕ) (c b : Bool) → ((is x y ≡ true) × (x ≡ y)) ⊎ ((is x y ≡ false) × (x ≡ y → ⊥)) → is x y ≡ c → eqb (pool y) p ≡ b
          → count x (cond b (σ.spare p ++ (y ∷ [])) (σ.spare p)) ≡ bit (both (is_spare (cond c spare (m x))) (eqb (pool x) p))
      go x p true true (inl t) e q = omega (arith, count_app x (σ.spare p) (y ∷ []), i.spare' x p, ap (λ (k : Mark). bit (both (is_spare k) (eqb (pool x) p))) (ap m t.1 ∙ my), ap bit e, ap bit (ap (λ (z : Ref). eqb (pool z) p) t.1 ∙ q))
      go x p true false (inl t) e q = omega (arith, i.spare' x p, ap (λ (k : Mark). bit (both (is_spare k) (eqb (pool x) p))) (ap m t.1 ∙ my), ap bit (ap (λ (z : Ref). eqb (pool z) p) t.1 ∙ q))
      go x p true b (inr t) e q = never (sym e ∙ t.0)
      go x p false true t e q = omega (arith, count_app x (σ.spare p) (y ∷ []), i.spare' x p, ap bit e)
      go x p false false t e q = i.spare' x p

      by : (x : Ref) (t : ℕ) (c b : Bool) → is x y ≡ c → eqb t s ≡ b → ((is x y ≡ true) × (x ≡ y)) ⊎ ((is x y ≡ false) × (x ≡ y → ⊥))
          → count x (cond b (tail (σ.drawn t)) (σ.drawn t)) ≡ bit (is_drawn t (cond c spare (m x)))
      by x t true true e q a = omega (arith, front x t q, i.drawn' x t, bit_most (is_drawn t (m x)), ap bit e)
      by x t true false e q (inl a) = omega (arith, i.drawn' x t, ap (λ (k : Mark). bit (is_drawn t k)) (ap m a.1 ∙ my), ap bit q)
      by x t true false e q (inr a) = never (sym e ∙ a.0)
      by x t false true e q a = omega (arith, front x t q, i.drawn' x t, ap bit e)
      by x t false false e q a = i.drawn' x t

      op : (x : Ref) (t : ℕ) (c : Bool) → cond c spare (m x) ≡ drawn t → (e : ℕ) × (o t ≡ Some e)
      op x t true e = let z : ◌≡◌ {A = ℕ} 0 1 = cc e in absurd (omega arith)
      op x t false e = i.busy x t e

      within : (x : Ref) (c : Bool) → all x ≡ true → cond c spare (m x) ≡ outside → ⊥
      within x true a e = let z : ◌≡◌ {A = ℕ} 0 1 = cc e in absurd (omega arith)
      within x false a e = i.inside x a e

  keeps_write : (s : ℕ) (new old : List Ref) → May (write s new old) σ
      → Inv all (λ x. cond (has x old) (retired n) (cond (has x new) linked (m x))) o n (after (write s new old) σ)
  keeps_write s new old h = record {
    linked' = λ x. li x (has x old) (has x new);
    spare' = λ x p. sp x p (has x old) (has x new) refl refl;
    drawn' = λ x t. dr x t (has x old) (has x new) (eqb t s) refl refl refl;
    retired' = λ x. re x (has x old) (has x new) refl refl;
    records = each_app (λ r. cond (has r.ref old) (retired n) (cond (has r.ref new) linked (m r.ref)) ≡ retired r.epoch) σ.retired (stamped σ.epoch old)
        (each_map (λ r. m r.ref ≡ retired r.epoch) (λ r. cond (has r.ref old) (retired n) (cond (has r.ref new) linked (m r.ref)) ≡ retired r.epoch)
        (λ r e. kept r.ref r.epoch (has r.ref old) (has r.ref new) refl refl e) σ.retired i.records)
        (each_map (λ r. (has r.ref old ≡ true) × (r.epoch ≡ σ.epoch)) (λ r. cond (has r.ref old) (retired n) (cond (has r.ref new) linked (m r.ref)) ≡ retired r.epoch)
        (λ r e. rw e.0 (ap retired (sym (e.1 ∙ i.epoch'))))
        (stamped σ.epoch old) (each_stamped σ.epoch (λ y. has y old ≡ true) old (λ y k. has_counted y old k)));
    epoch' = i.epoch';
    begun' = i.begun';
    busy = λ x t e. op x t (has x old) (has x new) e;
    inside = λ x a. within x (has x old) (has x new) a;
  }
    where
      was_linked : (x : Ref) → has x old ≡ true → (m x ≡ linked) × (count x old ≡ 1)
      was_linked x e = old_was s new old h x e

      was_drawn : (x : Ref) → has x new ≡ true → m x ≡ drawn s
      was_drawn x e = new_was s new old h x e

      li : (x : Ref) (a b : Bool) → cond a false (cond b true (σ.linked x)) ≡ is_linked (cond a (retired n) (cond b linked (m x)))
      li x true b = refl
      li x false true = refl
      li x false false = i.linked' x

      sp : (x : Ref) (p : ℕ) (a b : Bool) → has x old ≡ a → has x new ≡ b → count x (σ.spare p) ≡ bit (both (is_spare (cond a (retired n) (cond b linked (m x)))) (eqb (pool x) p))
      sp x p true b e q = i.spare' x p ∙ ap (λ (k : Mark). bit (both (is_spare k) (eqb (pool x) p))) (was_linked x e).0
      sp x p false true e q = i.spare' x p ∙ ap (λ (k : Mark). bit (both (is_spare k) (eqb (pool x) p))) (was_drawn x q)
      sp x p false false e q = i.spare' x p

      dr : (x : Ref) (t : ℕ) (a b c : Bool) → has x old ≡ a → has x new ≡ b → eqb t s ≡ c → count x (cond c [] (σ.drawn t)) ≡ bit (is_drawn t (cond a (retired n) (cond b linked (m x))))
      dr x t true b true e q g = refl
      dr x t false true true e q g = refl
      dr x t false false true e q g =
          let z : count x (σ.drawn t) ≡ 0 = ap (λ (k : ℕ). count x (σ.drawn k)) (eqb-true t s g) ∙ ap (count x) h.0 ∙ has_none x new q in
          sym z ∙ i.drawn' x t
      dr x t true b false e q g = i.drawn' x t ∙ ap (λ (k : Mark). bit (is_drawn t k)) (was_linked x e).0
      dr x t false true false e q g = i.drawn' x t ∙ ap (λ (k : Mark). bit (is_drawn t k)) (was_drawn x q) ∙ ap bit g
      dr x t false false false e q g = i.drawn' x t

      grown : (x : Ref) → count x (refs (σ.retired ++ stamped σ.epoch old)) ≡ count x (refs σ.retired) + count x old
      grown x = ap (count x) (refs_app σ.retired (stamped σ.epoch old) ∙ ap (λ (l : List Ref). refs σ.retired ++ l) (refs_stamped σ.epoch old)) ∙ count_app x (refs σ.retired) old

      re : (x : Ref) (a b : Bool) → has x old ≡ a → has x new ≡ b → count x (refs (σ.retired ++ stamped σ.epoch old)) ≡ bit (is_retired (cond a (retired n) (cond b linked (m x))))
      re x true b e q = omega (arith, grown x, i.retired' x, ap (λ (k : Mark). bit (is_retired k)) (was_linked x e).0, (was_linked x e).1)
      re x false true e q = omega (arith, grown x, i.retired' x, ap (λ (k : Mark). bit (is_retired k)) (was_drawn x q), has_none x old e)
      re x false false e q = omega (arith, grown x, i.retired' x, has_none x old e)

      kept : (x : Ref) (r : ℕ) (a b : Bool) → has x old ≡ a → has x new ≡ b → m x ≡ retired r → cond a (retired n) (cond b linked (m x)) ≡ retired r
      kept x r true b e q k = never (sym (ap is_retired k) ∙ ap is_retired (was_linked x e).0)
      kept x r false true e q k = never (sym (ap is_retired k) ∙ ap is_retired (was_drawn x q))
      kept x r false false e q k = k

      op : (x : Ref) (t : ℕ) (a b : Bool) → cond a (retired n) (cond b linked (m x)) ≡ drawn t → (e : ℕ) × (o t ≡ Some e)
      op x t true b e = let z : ◌≡◌ {A = ℕ} 0 1 = cc e in absurd (omega arith)
      op x t false true e = let z : ◌≡◌ {A = ℕ} 0 1 = cc e in absurd (omega arith)
      op x t false false e = i.busy x t e

      within : (x : Ref) (a b : Bool) → all x ≡ true → cond a (retired n) (cond b linked (m x)) ≡ outside → ⊥
      within x true b a e = let z : ◌≡◌ {A = ℕ} 0 1 = cc e in absurd (omega arith)
      within x false true a e = let z : ◌≡◌ {A = ℕ} 0 1 = cc e in absurd (omega arith)
      within x false false a e = i.inside x a e

  -- the records of a slot have its epoch
  pub alike : (x : Ref) (r : ℕ) (q : Record → Bool) (b : Bool) → m x ≡ retired r → ((c : Record) → c.ref ≡ x → c.epoch ≡ r → q c ≡ b) → Each (λ c. c.ref ≡ x → q c ≡ b) σ.retired
  alike x r q b e f = each_map (λ c. m c.ref ≡ retired c.epoch) (λ c. c.ref ≡ x → q c ≡ b)
      (λ c k w. let z : c.epoch ≡ r = same c.epoch (sym k ∙ ap m w ∙ e) in f c w z)
      σ.retired i.records
    where
      same : (a : ℕ) → retired a ≡ retired r → a ≡ r
      same a k = cc k

  keeps_sweep : (c : ℕ) → May (sweep c) σ → Inv all (λ x. swept (λ r. clear o r 8) (m x)) o (suc n) (after (sweep c) σ)
  keeps_sweep c h = record {
    linked' = λ x. i.linked' x ∙ li (m x);
    spare' = λ x p. count_app x (σ.spare p) (refs (keep (λ r. both (freed σ r) (eqb (pool r.ref) p)) σ.retired)) ∙ sp x p (m x) refl;
    drawn' = λ x t. i.drawn' x t ∙ dr t (m x);
    retired' = λ x. re x (m x) refl;
    records = each_map (λ r. (m r.ref ≡ retired r.epoch) × (not (freed σ r) ≡ true)) (λ r. swept (λ r. clear o r 8) (m r.ref) ≡ retired r.epoch)
        (λ r e. rw e.0 (kept r.epoch (clear o r.epoch 8) (ap not (sym (same r.epoch)) ∙ e.1)))
        (keep (λ r. not (freed σ r)) σ.retired) (each_keep (λ r. m r.ref ≡ retired r.epoch) (λ r. not (freed σ r)) σ.retired i.records);
    epoch' = ap suc i.epoch';
    begun' = i.begun';
    busy = λ x t e. i.busy x t (op t (m x) e);
    inside = λ x a e. i.inside x a (out (m x) e);
  }
    where
      same : (r : ℕ) → clear σ.begun r 8 ≡ clear o r 8
      same r = clear_same σ.begun o i.begun' r 8

      li : (k : Mark) → is_linked k ≡ is_linked (swept (λ r. clear o r 8) k)
      li linked = refl
      li spare = refl
      li outside = refl
      li (drawn t) = refl
      li (retired r) = go (clear o r 8)
        where
          go : (b : Bool) → false ≡ is_linked (cond b spare (retired r))
          go true = refl
          go false = refl

      dr : (t : ℕ) (k : Mark) → bit (is_drawn t k) ≡ bit (is_drawn t (swept (λ r. clear o r 8) k))
      dr t linked = refl
      dr t spare = refl
      dr t outside = refl
      dr t (drawn u) = refl
      dr t (retired r) = go (clear o r 8)
        where
          go : (b : Bool) → 0 ≡ bit (is_drawn t (cond b spare (retired r)))
          go true = refl
          go false = refl

      kept : (r : ℕ) (b : Bool) → not b ≡ true → cond b spare (retired r) ≡ retired r
      kept r true e = never (sym e)
      kept r false e = refl

      op : (t : ℕ) (k : Mark) → swept (λ r. clear o r 8) k ≡ drawn t → k ≡ drawn t
      op t linked e = e
      op t spare e = e
      op t outside e = e
      op t (drawn u) e = e
      op t (retired r) e = go (clear o r 8) e
        where
          go : (b : Bool) → cond b spare (retired r) ≡ drawn t → retired r ≡ drawn t
          go true e = let z : ◌≡◌ {A = ℕ} 0 1 = cc e in absurd (omega arith)
          go false e = e

      out : (k : Mark) → swept (λ r. clear o r 8) k ≡ outside → k ≡ outside
      out linked e = e
      out spare e = e
      out outside e = e
      out (drawn u) e = e
      out (retired r) e = go (clear o r 8) e
        where
          go : (b : Bool) → cond b spare (retired r) ≡ outside → retired r ≡ outside
          go true e = let z : ◌≡◌ {A = ℕ} 0 1 = cc e in absurd (omega arith)
          go false e = e

      -- no record, none kept
      none : (x : Ref) (q : Record → Bool) → is_retired (m x) ≡ false → count x (refs (keep q σ.retired)) ≡ 0
      none x q e = omega (arith, count_keep_most x q σ.retired, i.retired' x, ap bit e)

      sp : (x : Ref) (p : ℕ) (k : Mark) → m x ≡ k → count x (σ.spare p) + count x (refs (keep (λ r. both (freed σ r) (eqb (pool r.ref) p)) σ.retired))
          ≡ bit (both (is_spare (swept (λ r. clear o r 8) k)) (eqb (pool x) p))
      sp x p linked e = omega (arith, i.spare' x p, ap (λ (k : Mark). bit (both (is_spare k) (eqb (pool x) p))) e, none x (λ r. both (freed σ r) (eqb (pool r.ref) p)) (ap is_retired e))
      sp x p spare e = omega (arith, i.spare' x p, ap (λ (k : Mark). bit (both (is_spare k) (eqb (pool x) p))) e, none x (λ r. both (freed σ r) (eqb (pool r.ref) p)) (ap is_retired e))
      sp x p outside e = omega (arith, i.spare' x p, ap (λ (k : Mark). bit (both (is_spare k) (eqb (pool x) p))) e, none x (λ r. both (freed σ r) (eqb (pool r.ref) p)) (ap is_retired e))
      sp x p (drawn t) e = omega (arith, i.spare' x p, ap (λ (k : Mark). bit (both (is_spare k) (eqb (pool x) p))) e, none x (λ r. both (freed σ r) (eqb (pool r.ref) p)) (ap is_retired e))
      sp x p (retired r) e = go (clear o r 8) (eqb (pool x) p) refl refl
        where
          go : (b d : Bool) → clear o r 8 ≡ b → eqb (pool x) p ≡ d → count x (σ.spare p) + count x (refs (keep (λ r. both (freed σ r) (eqb (pool r.ref) p)) σ.retired)) ≡ bit (both (is_spare (cond b spare (retired r))) d)
          go b d f g =
              let u = count_keep x (λ r. both (freed σ r) (eqb (pool r.ref) p)) (both b d) σ.retired
              (alike x r (λ r. both (freed σ r) (eqb (pool r.ref) p)) (both b d) e (λ a w z. ap (λ (v : ℕ). both (clear σ.begun v 8) (eqb (pool a.ref) p)) z ∙ ap (λ (v : Bool). both v (eqb (pool a.ref) p)) (same r ∙ f) ∙ ap (both b) (ap (λ (v : Ref). eqb (pool v) p) w ∙ g))) in
              let v : count x (σ.spare p) ≡ 0 = i.spare' x p ∙ ap (λ (k : Mark). bit (both (is_spare k) (eqb (pool x) p))) e in
              let w : count x (refs σ.retired) ≡ 1 = i.retired' x ∙ ap (λ (k : Mark). bit (is_retired k)) e in
              fin b d u v w
            where
              fin : (b d : Bool) → count x (refs (keep (λ r. both (freed σ r) (eqb (pool r.ref) p)) σ.retired)) ≡ cond (both b d) (count x (refs σ.retired)) 0 → count x (σ.spare p) ≡ 0 → count x (refs σ.retired) ≡ 1
                  → count x (σ.spare p) + count x (refs (keep (λ r. both (freed σ r) (eqb (pool r.ref) p)) σ.retired)) ≡ bit (both (is_spare (cond b spare (retired r))) d)
              fin true true u v w = omega (arith, u, v, w)
              fin true false u v w = omega (arith, u, v, w)
              fin false d u v w = omega (arith, u, v, w)

      re : (x : Ref) (k : Mark) → m x ≡ k → count x (refs (keep (λ r. not (freed σ r)) σ.retired)) ≡ bit (is_retired (swept (λ r. clear o r 8) k))
      re x linked e = none x (λ r. not (freed σ r)) (ap is_retired e)
      re x spare e = none x (λ r. not (freed σ r)) (ap is_retired e)
      re x outside e = none x (λ r. not (freed σ r)) (ap is_retired e)
      re x (drawn t) e = none x (λ r. not (freed σ r)) (ap is_retired e)
      re x (retired r) e = go (clear o r 8) refl
        where
          go : (b : Bool) → clear o r 8 ≡ b → count x (refs (keep (λ r. not (freed σ r)) σ.retired)) ≡ bit (is_retired (cond b spare (retired r)))
          go b f =
              fin b (count_keep x (λ r. not (freed σ r)) (not b) σ.retired (alike x r (λ r. not (freed σ r)) (not b) e (λ a w z. ap (λ (v : ℕ). not (clear σ.begun v 8)) z ∙ ap not (same r ∙ f))))
              (i.retired' x ∙ ap (λ (k : Mark). bit (is_retired k)) e)
            where
              fin : (b : Bool) → count x (refs (keep (λ r. not (freed σ r)) σ.retired)) ≡ cond (not b) (count x (refs σ.retired)) 0 → count x (refs σ.retired) ≡ 1
                  → count x (refs (keep (λ r. not (freed σ r)) σ.retired)) ≡ bit (is_retired (cond b spare (retired r)))
              fin true u w = u
              fin false u w = u ∙ w

begins : {root : Ref} {all : Ref → Bool} {σ : State} → New root all σ → Inv all (mark root all []) (opens []) 0 σ
unfolding mark
begins {root} {all} {σ} w = record {
  linked' = λ x. w.linked x ∙ li (is x root) (all x);
  spare' = λ x p. w.spare x p ∙ ap (λ (b : Bool). bit (both b (eqb (pool x) p))) (sp (is x root) (all x));
  drawn' = λ x s. ap (count x) (w.drawn s) ∙ dr s (is x root) (all x);
  retired' = λ x. ap (λ (l : List Record). count x (refs l)) w.retired ∙ re (is x root) (all x);
  records = subst (λ (l : List Record). Each (λ r. mark root all [] r.ref ≡ retired r.epoch) l) (sym w.retired) tt;
  epoch' = w.epoch;
  begun' = w.begun;
  busy = λ x s e. op s (is x root) (all x) e;
  inside = λ x a e. within (is x root) (all x) a e;
}
  where
    li : (a b : Bool) → a ≡ is_linked (cond a linked (cond b spare outside))
    li true b = refl
    li false true = refl
    li false false = refl

    sp : (a b : Bool) → both (not a) b ≡ is_spare (cond a linked (cond b spare outside))
    sp true b = refl
    sp false true = refl
    sp false false = refl

    dr : (s : ℕ) (a b : Bool) → 0 ≡ bit (is_drawn s (cond a linked (cond b spare outside)))
    dr s true b = refl
    dr s false true = refl
    dr s false false = refl

    re : (a b : Bool) → 0 ≡ bit (is_retired (cond a linked (cond b spare outside)))
    re true b = refl
    re false true = refl
    re false false = refl

    op : (s : ℕ) (a b : Bool) → cond a linked (cond b spare outside) ≡ drawn s → (e : ℕ) × (opens [] s ≡ Some e)
    op s true b e = let z : ◌≡◌ {A = ℕ} 0 1 = cc e in absurd (omega arith)
    op s false true e = let z : ◌≡◌ {A = ℕ} 0 1 = cc e in absurd (omega arith)
    op s false false e = let z : ◌≡◌ {A = ℕ} 0 1 = cc e in absurd (omega arith)

    within : (a b : Bool) → b ≡ true → cond a linked (cond b spare outside) ≡ outside → ⊥
    within true b t e = let z : ◌≡◌ {A = ℕ} 0 1 = cc e in absurd (omega arith)
    within false true t e = let z : ◌≡◌ {A = ℕ} 0 1 = cc e in absurd (omega arith)
    within false false t e = never (sym t)

abbrev pub Good : Ref → (Ref → Bool) → List Event → State → Type 0
Good root all h σ = Inv all (mark root all h) (opens h) (sweeps h) σ

pub next : (root : Ref) {all : Ref → Bool} (h : List Event) {σ : State} → Good root all h σ → (e : Event) → May e σ → Good root all (e ∷ h) (after e σ)
unfolding mark
next root h g (begin s) k = keeps_begin g s k
next root h g (answer s) k = keeps_answer g s k
next root h g (draw s y) k = keeps_draw g s y k
next root h g (back s y) k = keeps_back g s y k
next root h g (write s new old) k = keeps_write g s new old k
next root h g (sweep c) k = keeps_sweep g c k
next root h g other k = g

pub good : {root : Ref} {all : Ref → Bool} {σ : State} (r : Run root all σ) → Good root all (history r) σ
good (Run.made w) = begins w
good {root} (Run.on r e k) = next root (history r) (good r) e k
