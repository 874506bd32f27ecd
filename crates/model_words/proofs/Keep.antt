-- Each effect keeps the words and the lists in agreement.
use Rattle.std.proofs.Common.{◌≡◌, ℕ, ◌+◌, ◌<◌, ◌≤◌, Bool, true, false, cond, ◌⊎◌, List, [], ◌∷◌, ◌++◌, Some, None, Option, sym, refl, ap, ◌∙◌, subst, inl, inr, ⊎_elim, arith}
use native.Mathlib.Decide.{ℕ_discrete}
use Rattle.model.specs.Holds.{Grip, Hold}
use Rattle.model.specs.Refs.{Ref}
use Rattle.latches.specs.declared.word.Meaning.{Meaning}
use Rattle.model_words.specs.Words.{State, bit, lock_of, grip_weight, sum, Every, Old, OldIn, WordsOk}
use Rattle.latches.specs.Rules.{shared, returned, held as shut, freed, freed_gone, raised, revived}
use Rattle.model_words.specs.Effects.{spot, Turn, Does}
use Rattle.model_words.specs.Effects.Does.{take, give, lock, unlock, unlock_gone, revive, pass}
use Rattle.model_words.proofs.Sums.{pick, of, sum_there, sum_else}

pub bit_le : (b : Bool) → bit b ≤ 1
bit_le false = omega arith
bit_le true = omega arith

pub bit_false : (b : Bool) → bit b ≡ 0 → b ≡ false
bit_false false e = refl
bit_false true e = absurd (omega (arith, e))

pub bit_true : (b : Bool) → 1 ≤ bit b → b ≡ true
bit_true false e = absurd (omega (arith, e))
bit_true true e = refl

pub every_map : (P Q : Hold → Type 0) (hs : List Hold) → ((h : Hold) → P h → Q h) → Every P hs → Every Q hs
every_map P Q [] f a = tt
every_map P Q (h ∷ hs) f a = (f h a.0, every_map P Q hs f a.1)

pub every-++ : (P : Hold → Type 0) (a b : List Hold) → Every P a → Every P b → Every P (a ++ b)
every-++ P [] b p q = q
every-++ P (h ∷ a) b p q = (p.0, every-++ P a b p.1 q)

pub every_left : (P : Hold → Type 0) (a b : List Hold) → Every P (a ++ b) → Every P a
every_left P [] b p = tt
every_left P (h ∷ a) b p = (p.0, every_left P a b p.1)

pub every_right : (P : Hold → Type 0) (a b : List Hold) → Every P (a ++ b) → Every P b
every_right P [] b p = p
every_right P (h ∷ a) b p = every_right P a b p.1

abbrev OldNew : Meaning → Option Grip → Type 0
OldNew m None = Unit {0}
OldNew m (Some g) = Old m g

pub old_rises : (m n : Meaning) (g : Grip) → m.count ≤ n.count → Old m g → Old n g
old_rises m n (Grip.Permit c w) l o = omega (arith, l, o)
old_rises m n Grip.Locked l o = tt

-- what an exchange has to say of its own word m, which becomes n
record Shift (limit : ℕ) (m n : Meaning) (before after : ℕ) (out new : Option Grip) : Type 0 where
  locks : bit m.locked + of lock_of new ≡ bit n.locked + of lock_of out
  shares : m.shares + of grip_weight new ≡ n.shares + of grip_weight out
  within : n.shares ≤ limit
  apart : bit n.gone + bit n.locked ≤ 1
  counts : n.count + bit n.locked ≤ after
  rises : m.count ≤ n.count
  time : before ≤ after
  fresh : OldNew n new

module _ {limit : ℕ} {S T : State} {i : ℕ} {x : Ref} {d : ℕ} {out new : Option Grip} (n : Meaning)
    (ok : WordsOk limit S) (t : Turn S T i x d out new) (e : T.words x ≡ n) (s : Shift limit (S.words x) n S.accepted T.accepted out new) where
  everywhere : (P : Ref → Type 0) → P x → ((y : Ref) → (y ≡ x → ⊥) → P y) → (y : Ref) → P y
  everywhere P h f y = pick y x (λ q. subst P (sym q) h) (f y)

  counts_rise : (y : Ref) → (S.words y).count ≤ (T.words y).count
  counts_rise = everywhere (λ y. (S.words y).count ≤ (T.words y).count)
      (omega (arith, s.rises, ap (λ (m : Meaning). m.count) e))
      (λ y ne. omega (arith, ap (λ (m : Meaning). m.count) (t.words y ne)))

  old_stays : (hs : List Hold) → Every (OldIn S) hs → Every (OldIn T) hs
  old_stays hs = every_map (OldIn S) (OldIn T) hs (λ h. old_rises (S.words h.at) (T.words h.at) h.grip (counts_rise h.at))

  fresh_old : (o : Option Grip) → OldNew n o → Every (OldIn T) (spot x d o)
  fresh_old None f = tt
  fresh_old (Some g) f = (subst (λ (m : Meaning). Old m g) (sym e) f, tt)

  old_after : (j : ℕ) → j < 8 → Every (OldIn T) (T.held j)
  old_after j l = elim (ℕ_discrete j i) [
    | yes q ↦ (let a : Every (OldIn S) (t.before ++ (spot x d out ++ t.after)) = subst (Every (OldIn S)) t.was (ok.old i t.seat) in
        let b = old_stays t.before (every_left (OldIn S) t.before (spot x d out ++ t.after) a) in
        let c = old_stays t.after (every_right (OldIn S) (spot x d out) t.after (every_right (OldIn S) t.before (spot x d out ++ t.after) a)) in
        let r : Every (OldIn T) (T.held i) = subst (Every (OldIn T)) (sym t.is) (every-++ (OldIn T) t.before (spot x d new ++ t.after) b (every-++ (OldIn T) (spot x d new) t.after (fresh_old new s.fresh) c)) in
        subst (λ (k : ℕ). Every (OldIn T) (T.held k)) (sym q) r)
    | no ne ↦ subst (Every (OldIn T)) (sym (t.others j ne)) (old_stays (S.held j) (ok.old j l))
  ]

  shifted : WordsOk limit T
  shifted = record {
    locks = everywhere (λ y. sum lock_of y T ≡ bit (T.words y).locked)
        (omega (arith, sum_there lock_of t, ok.locks x, s.locks, ap (λ (m : Meaning). bit m.locked) e))
        (λ y ne. omega (arith, sum_else lock_of t y ne, ok.locks y, ap (λ (m : Meaning). bit m.locked) (t.words y ne)));
    shares = everywhere (λ y. sum grip_weight y T ≡ (T.words y).shares)
        (omega (arith, sum_there grip_weight t, ok.shares x, s.shares, ap (λ (m : Meaning). m.shares) e))
        (λ y ne. omega (arith, sum_else grip_weight t y ne, ok.shares y, ap (λ (m : Meaning). m.shares) (t.words y ne)));
    within = everywhere (λ y. (T.words y).shares ≤ limit)
        (omega (arith, s.within, ap (λ (m : Meaning). m.shares) e))
        (λ y ne. omega (arith, ok.within y, ap (λ (m : Meaning). m.shares) (t.words y ne)));
    apart = everywhere (λ y. bit (T.words y).gone + bit (T.words y).locked ≤ 1)
        (omega (arith, s.apart, ap (λ (m : Meaning). bit m.gone) e, ap (λ (m : Meaning). bit m.locked) e))
        (λ y ne. omega (arith, ok.apart y, ap (λ (m : Meaning). bit m.gone) (t.words y ne), ap (λ (m : Meaning). bit m.locked) (t.words y ne)));
    counts = everywhere (λ y. (T.words y).count + bit (T.words y).locked ≤ T.accepted)
        (omega (arith, s.counts, ap (λ (m : Meaning). m.count) e, ap (λ (m : Meaning). bit m.locked) e))
        (λ y ne. omega (arith, ok.counts y, s.time, ap (λ (m : Meaning). m.count) (t.words y ne), ap (λ (m : Meaning). bit m.locked) (t.words y ne)));
    old = old_after;
  }

cond_cases : (b : Bool) (m n : Meaning) → ((b ≡ true) × (cond b m n ≡ m)) ⊎ (cond b m n ≡ n)
cond_cases false m n = inr refl
cond_cases true m n = inl (refl, refl)

pub revived_cases : (m : Meaning) → ((m.gone ≡ true) × (revived m ≡ raised m)) ⊎ (revived m ≡ m)
revived_cases m = cond_cases m.gone (raised m) m

pub keeps : {limit i : ℕ} {x : Ref} {S T : State} → Does limit i x S T → WordsOk limit S → WordsOk limit T
keeps {limit} {i} {x} {S} {T} (take d w may t e l) ok = shifted (shared w (S.words x)) ok t e (record {
  locks = omega arith;
  shares = omega arith;
  within = omega (arith, ok.within x, may.room, may.light);
  apart = ok.apart x;
  counts = omega (arith, ok.counts x, l);
  rises = omega arith;
  time = l;
  fresh = omega arith;
})
keeps {limit} {i} {x} {S} {T} (give d c w t e l) ok = shifted (returned w (S.words x)) ok t e (record {
  locks = omega arith;
  shares = omega (arith, sum_there grip_weight t, ok.shares x);
  within = omega (arith, ok.within x);
  apart = ok.apart x;
  counts = omega (arith, ok.counts x, l);
  rises = omega arith;
  time = l;
  fresh = tt;
})
keeps {limit} {i} {x} {S} {T} (lock d c w may t e l) ok =
    let g : bit (S.words x).gone ≡ 0 = ap bit may.passes.0 in
    let k : bit (S.words x).locked ≡ 0 = ap bit may.passes.1 in
    shifted (shut (S.words x)) ok t e (record {
      locks = omega (arith, k);
      shares = omega (arith, sum_there grip_weight t, ok.shares x, may.alone);
      within = omega arith;
      apart = omega (arith, g);
      counts = omega (arith, ok.counts x, l);
      rises = omega arith;
      time = omega (arith, l);
      fresh = tt;
    })
keeps {limit} {i} {x} {S} {T} (unlock d t e l) ok =
    let k : bit (S.words x).locked ≡ 1 = omega (arith, sum_there lock_of t, ok.locks x, bit_le (S.words x).locked) in
    shifted (freed (S.words x)) ok t e (record {
      locks = omega (arith, k);
      shares = omega arith;
      within = ok.within x;
      apart = omega (arith, bit_le (S.words x).gone);
      counts = omega (arith, ok.counts x, k, l);
      rises = omega arith;
      time = l;
      fresh = tt;
    })
keeps {limit} {i} {x} {S} {T} (unlock_gone d t e l) ok =
    let k : bit (S.words x).locked ≡ 1 = omega (arith, sum_there lock_of t, ok.locks x, bit_le (S.words x).locked) in
    shifted (freed_gone (S.words x)) ok t e (record {
      locks = omega (arith, k);
      shares = omega arith;
      within = ok.within x;
      apart = omega arith;
      counts = omega (arith, ok.counts x, k, l);
      rises = omega arith;
      time = l;
      fresh = tt;
    })
keeps {limit} {i} {x} {S} {T} (revive d t e l) ok = ⊎_elim
    (λ q. let g : bit (S.words x).gone ≡ 1 = ap bit q.0 in
    shifted (raised (S.words x)) ok t (e ∙ q.1) (record {
      locks = omega arith;
      shares = omega arith;
      within = ok.within x;
      apart = omega (arith, ok.apart x);
      counts = omega (arith, ok.counts x, l);
      rises = omega arith;
      time = omega (arith, l);
      fresh = tt;
    }))
    (λ q. shifted (S.words x) ok t (e ∙ q) (record {
      locks = omega arith;
      shares = omega arith;
      within = ok.within x;
      apart = ok.apart x;
      counts = omega (arith, ok.counts x, l);
      rises = omega arith;
      time = omega (arith, l);
      fresh = tt;
    }))
    (revived_cases (S.words x))
keeps {limit} {i} {x} {S} {T} (pass d t e l) ok = shifted (S.words x) ok t e (record {
  locks = omega arith;
  shares = omega arith;
  within = ok.within x;
  apart = ok.apart x;
  counts = omega (arith, ok.counts x, l);
  rises = omega arith;
  time = l;
  fresh = tt;
})
