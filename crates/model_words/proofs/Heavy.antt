-- A permit with weight keeps locks away, so it never fails.
use Rattle.std.proofs.Common.{◌≡◌, ℕ, ◌≤◌, ◌⊎◌, List, [], ◌∷◌, ◌++◌, Some, None, Option, sym, ap, ◌∙◌, subst, inl, inr, ⊎_elim, arith}
use native.Mathlib.Decide.{ℕ_discrete}
use Rattle.model.specs.Holds.{Grip, Hold}
use Rattle.model.specs.Refs.{Ref}
use Rattle.latches.specs.declared.word.Meaning.{Meaning}
use Rattle.model_words.specs.Words.{State, bit, lock_of, grip_weight, In, Sound, WordsOk, HeavySound}
use Rattle.model.specs.Holds.Grip.{Permit, Locked}
use Rattle.latches.specs.Rules.{shared, returned, held as shut, freed, freed_gone, raised}
use Rattle.model_words.specs.Effects.{spot, Turn, Does, Run}
use Rattle.model_words.specs.Effects.Does.{take, give, lock, unlock, unlock_gone, revive, pass}
use Rattle.model_words.specs.Effects.Run.{stop, more}
use Rattle.model_words.proofs.Sums.{pick, sum_there}
use Rattle.model_words.proofs.Keep.{keeps, revived_cases}
use Rattle.model_words.proofs.Owners.{sum_in}
use Rattle.model_words.proofs.Rely.{true_false, keeps_run}

in_split : (h : Hold) (a b : List Hold) → In h (a ++ b) → In h a ⊎ In h b
in_split h [] b i = inr i
in_split h (k ∷ a) b (inl e) = inl (inl e)
in_split h (k ∷ a) b (inr i) = ⊎_elim (λ j. inl (inr j)) inr (in_split h a b i)

in_left : (h : Hold) (a b : List Hold) → In h a → In h (a ++ b)
in_left h [] b i = absurd i
in_left h (k ∷ a) b (inl e) = inl e
in_left h (k ∷ a) b (inr i) = inr (in_left h a b i)

in_right : (h : Hold) (a b : List Hold) → In h b → In h (a ++ b)
in_right h [] b i = i
in_right h (k ∷ a) b i = inr (in_right h a b i)

in_spot : (h : Hold) (x : Ref) (d : ℕ) (o : Option Grip) → In h (spot x d o) → (h.at ≡ x) × (o ≡ Some h.grip)
in_spot h x d None i = absurd i
in_spot h x d (Some g) (inl e) = (ap (λ (k : Hold). k.at) e, ap {B = Option Grip} Some (sym (ap (λ (k : Hold). k.grip) e)))
in_spot h x d (Some g) (inr i) = absurd i

-- what is held after was held before, or is the new entry
pub was_in : {S T : State} {i : ℕ} {x : Ref} {d : ℕ} {out new : Option Grip} → Turn S T i x d out new → (j : ℕ) (h : Hold) → In h (T.held j) → In h (S.held j) ⊎ In h (spot x d new)
was_in {S} {T} {i} {x} {d} {out} {new} t j h m = elim (ℕ_discrete j i) [
  | yes e ↦ (
      let back : In h (t.before ++ (spot x d out ++ t.after)) → In h (S.held j) = λ p. subst (λ (k : ℕ). In h (S.held k)) (sym e) (subst (In h) (sym t.was) p) in
      ⊎_elim (λ p. inl (back (in_left h t.before (spot x d out ++ t.after) p)))
      (λ p. ⊎_elim inr (λ q. inl (back (in_right h t.before (spot x d out ++ t.after) (in_right h (spot x d out) t.after q)))) (in_split h (spot x d new) t.after p))
      (in_split h t.before (spot x d new ++ t.after) (subst (In h) t.is (subst (λ (k : ℕ). In h (T.held k)) e m))))
  | no n ↦ inl (subst (In h) (t.others j n) m)
]

heavy_by : {limit : ℕ} {S T : State} {i : ℕ} {x : Ref} {d : ℕ} {out new : Option Grip} (n : Meaning) → HeavySound S → WordsOk limit T → Turn S T i x d out new → T.words x ≡ n
    → ((c w : ℕ) → 1 ≤ w → w ≤ n.shares → Sound (S.words x) (Permit c w) → Sound n (Permit c w))
    → ((c w : ℕ) → new ≡ Some (Permit c w) → Sound n (Permit c w)) → HeavySound T
heavy_by {limit} {S} {T} {i} {x} {d} {out} {new} n hs ok t e stay fresh j h l m c w g p = pick h.at x
    (λ q.
    let u : (T.words h.at).shares ≡ n.shares = ap (λ (z : Ref). (T.words z).shares) q ∙ ap (λ (v : Meaning). v.shares) e in
    let v : grip_weight h.grip ≡ w = ap grip_weight g in
    let r : Sound n (Permit c w) = ⊎_elim
    (λ k. stay c w p (omega (arith, u, v, sum_in grip_weight T j h l m, ok.shares h.at)) (subst (λ (z : Ref). Sound (S.words z) (Permit c w)) q (hs j h l k c w g p)))
    (λ k. fresh c w ((in_spot h x d new k).1 ∙ ap {B = Option Grip} Some g)) (was_in t j h m) in
    subst (λ (z : Ref). Sound (T.words z) (Permit c w)) (sym q) (subst (λ (v : Meaning). Sound v (Permit c w)) (sym e) r))
    (λ ne. ⊎_elim
    (λ k. subst (λ (v : Meaning). Sound v (Permit c w)) (sym (t.words h.at ne)) (hs j h l k c w g p))
    (λ k. absurd (ne (in_spot h x d new k).0)) (was_in t j h m))

none_new : (n : Meaning) (c w : ℕ) → ◌≡◌ {A = Option Grip} None (Some (Permit c w)) → Sound n (Permit c w)
none_new n c w e = let z : ◌≡◌ {A = ℕ} 0 1 = cc e in absurd (omega (arith, z))

lock_new : (n : Meaning) (c w : ℕ) → ◌≡◌ {A = Option Grip} (Some Locked) (Some (Permit c w)) → Sound n (Permit c w)
lock_new n c w e = let z : ◌≡◌ {A = ℕ} 0 1 = cc e in absurd (omega (arith, z))

heavy : {limit i : ℕ} {x : Ref} {S T : State} → Does limit i x S T → WordsOk limit S → WordsOk limit T → HeavySound S → HeavySound T
heavy {limit} {i} {x} {S} {T} (take d w may t e l) ok ok' hs = heavy_by (shared w (S.words x)) hs ok' t e (λ c v _ _ s. s)
    (λ c v q. let k : (S.words x).count ≡ c = cc q in (may.here, may.loose, k))
heavy {limit} {i} {x} {S} {T} (give d c w t e l) ok ok' hs = heavy_by (returned w (S.words x)) hs ok' t e (λ c v _ _ s. s) (none_new (returned w (S.words x)))
heavy {limit} {i} {x} {S} {T} (lock d c w may t e l) ok ok' hs = heavy_by (shut (S.words x)) hs ok' t e (λ c v p q s. absurd (omega (arith, p, q))) (lock_new (shut (S.words x)))
heavy {limit} {i} {x} {S} {T} (unlock d t e l) ok ok' hs = heavy_by (freed (S.words x)) hs ok' t e
    (λ c v p q s. let k : bit (S.words x).locked ≡ 0 = ap bit s.1 in absurd (omega (arith, k, sum_there lock_of t, ok.locks x))) (none_new (freed (S.words x)))
heavy {limit} {i} {x} {S} {T} (unlock_gone d t e l) ok ok' hs = heavy_by (freed_gone (S.words x)) hs ok' t e
    (λ c v p q s. let k : bit (S.words x).locked ≡ 0 = ap bit s.1 in absurd (omega (arith, k, sum_there lock_of t, ok.locks x))) (none_new (freed_gone (S.words x)))
heavy {limit} {i} {x} {S} {T} (revive d t e l) ok ok' hs = ⊎_elim
    (λ r. heavy_by (raised (S.words x)) hs ok' t (e ∙ r.1) (λ c v p q s. absurd (true_false (S.words x).gone r.0 s.0)) (none_new (raised (S.words x))))
    (λ r. heavy_by (S.words x) hs ok' t (e ∙ r) (λ c v p q s. s) (none_new (S.words x)))
    (revived_cases (S.words x))
heavy {limit} {i} {x} {S} {T} (pass d t e l) ok ok' hs = heavy_by (S.words x) hs ok' t e (λ c v p q s. s) (none_new (S.words x))

pub heavy_run : {limit : ℕ} {who : ℕ → Type 0} {S T : State} → Run limit who S T → WordsOk limit S → HeavySound S → HeavySound T
heavy_run stop ok hs = hs
heavy_run (more i x U r p a) ok hs = let ok' = keeps_run r ok in heavy a ok' (keeps a ok') (heavy_run r ok hs)
