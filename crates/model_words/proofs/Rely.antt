-- A refused permit stays refused, and what a seat may rely on while others act.
use Rattle.std.proofs.Common.{◌≡◌, ℕ, ◌+◌, ◌<◌, Bool, true, false, List, [], ◌∷◌, ◌++◌, Some, None, Option, sym, refl, ap, ◌∙◌, subst, inl, inr, ⊎_elim, arith}
use Rattle.model.specs.Holds.{Grip, Hold}
use Rattle.model.specs.Refs.{Ref}
use Rattle.latches.specs.declared.word.Meaning.{Meaning}
use Rattle.model_words.specs.Words.{State, bit, Every, In, Old, OldIn, Sound, WordsOk}
use Rattle.model.specs.Holds.Grip.{Permit, Locked}
use Rattle.latches.specs.Rules.{shared, returned, held as shut, freed, freed_gone, raised}
use Rattle.model_words.specs.Effects.{Turn, Does, Run, Later, Rely}
use Rattle.model_words.specs.Effects.Does.{take, give, lock, unlock, unlock_gone, revive, pass}
use Rattle.model_words.specs.Effects.Run.{stop, more}
use Rattle.model_words.proofs.Sums.{pick}
use Rattle.model_words.proofs.Keep.{keeps, revived_cases}
use Rattle.model_words.proofs.Owners.{owner, owner_one}

pub true_false : (b : Bool) → b ≡ true → b ≡ false → ⊥
true_false b e h = let z : ◌≡◌ {A = ℕ} 0 1 = cc (e, h) in absurd (omega (arith, z))

later_same : (m n : Meaning) → n.locked ≡ m.locked → n.gone ≡ m.gone → n.count ≡ m.count → Later m n
later_same m n a b c = record { rises = omega (arith, c); stays = λ _ g l. (sym b ∙ g, sym a ∙ l) }

later_up : (m n : Meaning) → n.count ≡ m.count + 1 → Later m n
later_up m n c = record { rises = omega (arith, c); stays = λ e _ _. absurd (omega (arith, e, c)) }

later_by : (m n k : Meaning) → k ≡ n → Later m n → Later m k
later_by m n k e h = subst (Later m) (sym e) h

pub later_trans : (m n k : Meaning) → Later m n → Later n k → Later m k
later_trans m n k f g = record {
  rises = omega (arith, f.rises, g.rises);
  stays = λ e a b.
      let c : n.count ≡ k.count = omega (arith, e, f.rises, g.rises) in
      let d : m.count ≡ n.count = omega (arith, e, f.rises, g.rises) in
      let r = g.stays c a b in f.stays d r.0 r.1;
}

pub turn_of : {limit i : ℕ} {x : Ref} {S T : State} → Does limit i x S T → (d : ℕ) × (out : Option Grip) × (new : Option Grip) × Turn S T i x d out new
turn_of {limit} {i} {x} {S} {T} (take d w may t e l) = (d, None, Some (Permit (S.words x).count w), t)
turn_of (give d c w t e l) = (d, Some (Permit c w), None, t)
turn_of (lock d c w may t e l) = (d, Some (Permit c w), Some Locked, t)
turn_of (unlock d t e l) = (d, Some Locked, None, t)
turn_of (unlock_gone d t e l) = (d, Some Locked, None, t)
turn_of (revive d t e l) = (d, None, None, t)
turn_of (pass d t e l) = (d, None, None, t)

later_there : {limit i : ℕ} {x : Ref} {S T : State} → Does limit i x S T → Later (S.words x) (T.words x)
later_there {limit} {i} {x} {S} {T} (take d w may t e l) = later_by (S.words x) (shared w (S.words x)) (T.words x) e (later_same (S.words x) (shared w (S.words x)) refl refl refl)
later_there {limit} {i} {x} {S} {T} (give d c w t e l) = later_by (S.words x) (returned w (S.words x)) (T.words x) e (later_same (S.words x) (returned w (S.words x)) refl refl refl)
later_there {limit} {i} {x} {S} {T} (lock d c w may t e l) = later_by (S.words x) (shut (S.words x)) (T.words x) e (record { rises = omega arith; stays = λ _ _ b. absurd (true_false true refl b) })
later_there {limit} {i} {x} {S} {T} (unlock d t e l) = later_by (S.words x) (freed (S.words x)) (T.words x) e (later_up (S.words x) (freed (S.words x)) refl)
later_there {limit} {i} {x} {S} {T} (unlock_gone d t e l) = later_by (S.words x) (freed_gone (S.words x)) (T.words x) e (later_up (S.words x) (freed_gone (S.words x)) refl)
later_there {limit} {i} {x} {S} {T} (revive d t e l) = ⊎_elim
    (λ q. later_by (S.words x) (raised (S.words x)) (T.words x) (e ∙ q.1) (later_up (S.words x) (raised (S.words x)) refl))
    (λ q. later_by (S.words x) (S.words x) (T.words x) (e ∙ q) (later_same (S.words x) (S.words x) refl refl refl))
    (revived_cases (S.words x))
later_there {limit} {i} {x} {S} {T} (pass d t e l) = later_by (S.words x) (S.words x) (T.words x) e (later_same (S.words x) (S.words x) refl refl refl)

pub later_effect : {limit i : ℕ} {x : Ref} {S T : State} → Does limit i x S T → (y : Ref) → Later (S.words y) (T.words y)
later_effect {limit} {i} {x} {S} {T} a y = pick y x
    (λ e. subst (λ (z : Ref). Later (S.words z) (T.words z)) (sym e) (later_there a))
    (λ n. later_by (S.words y) (S.words y) (T.words y) ((turn_of a).3.words y n) (later_same (S.words y) (S.words y) refl refl refl))

pub later_run : {limit : ℕ} {who : ℕ → Type 0} {S T : State} → Run limit who S T → (y : Ref) → Later (S.words y) (T.words y)
later_run {limit} {who} {S} {T} stop y = later_same (S.words y) (S.words y) refl refl refl
later_run {limit} {who} {S} {T} (more {M} i x U r p a) y = later_trans (S.words y) (M.words y) (T.words y) (later_run r y) (later_effect a y)

pub keeps_run : {limit : ℕ} {who : ℕ → Type 0} {S T : State} → Run limit who S T → WordsOk limit S → WordsOk limit T
keeps_run stop ok = ok
keeps_run (more i x U r p a) ok = keeps a (keeps_run r ok)

-- sound later, so sound now
pub lasting : (m n : Meaning) (g : Grip) → Later m n → Old m g → Sound n g → Sound m g
lasting m n (Grip.Permit c w) f o s =
    let e : m.count ≡ n.count = omega (arith, o, f.rises, s.2) in
    let r = f.stays e s.0 s.1 in (r.0, r.1, e ∙ s.2)
lasting m n Grip.Locked f o s = tt

pub every_in : (P : Hold → Type 0) (hs : List Hold) (h : Hold) → Every P hs → In h hs → P h
every_in P [] h a i = absurd i
every_in P (k ∷ hs) h a (inl e) = subst P (sym e) a.0
every_in P (k ∷ hs) h a (inr i) = every_in P hs h a.1 i

pub held_old : {limit : ℕ} (S : State) → WordsOk limit S → (i : ℕ) (h : Hold) → i < 8 → In h (S.held i) → OldIn S h
held_old S ok i h l m = every_in (OldIn S) (S.held i) h (ok.old i l) m

in_middle : (h : Hold) (a b : List Hold) → In h (a ++ (h ∷ b))
in_middle h [] b = inl refl
in_middle h (k ∷ a) b = inr (in_middle h a b)

-- what a lock entry of seat i keeps from the others
abbrev Fixed : Meaning → Meaning → Type 0
Fixed m n = (n.locked ≡ true) × (n.gone ≡ m.gone) × (n.count ≡ m.count)

fixed_by : (m n k : Meaning) → k ≡ n → Fixed m n → Fixed m k
fixed_by m n k e h = subst (Fixed m) (sym e) h

module _ {limit : ℕ} {i j : ℕ} {x : Ref} {S : State} (T : State) (ok : WordsOk limit S) (l : i < 8) (ne : j ≡ i → ⊥) (h : Hold) (m : In h (S.held i)) (lk : h.grip ≡ Locked) (at : h.at ≡ x) where
  is_locked : (S.words x).locked ≡ true
  is_locked = subst (λ (z : Ref). (S.words z).locked ≡ true) at (owner S ok i h l m lk)

  no_other : (d : ℕ) (new : Option Grip) → Turn S T j x d (Some Locked) new → ⊥
  no_other d new t =
      let k : Hold = record { at = x; depth = d; grip = Locked } in
      ne (owner_one S ok j i k h t.seat l (subst (In k) (sym t.was) (in_middle k t.before t.after)) m (sym at) refl lk)

  fixed_there : Does limit j x S T → Fixed (S.words x) (T.words x)
  fixed_there (take d w may t e q) = absurd (true_false (S.words x).locked is_locked may.loose)
  fixed_there (give d c w t e q) = fixed_by (S.words x) (returned w (S.words x)) (T.words x) e (is_locked, refl, refl)
  fixed_there (lock d c w may t e q) = absurd (true_false (S.words x).locked is_locked may.passes.1)
  fixed_there (unlock d t e q) = absurd (no_other d None t)
  fixed_there (unlock_gone d t e q) = absurd (no_other d None t)
  fixed_there (revive d t e q) = ⊎_elim
      (λ r. let a : bit (S.words x).gone ≡ 1 = ap bit r.0 in let b : bit (S.words x).locked ≡ 1 = ap bit is_locked in absurd (omega (arith, a, b, ok.apart x)))
      (λ r. fixed_by (S.words x) (S.words x) (T.words x) (e ∙ r) (is_locked, refl, refl))
      (revived_cases (S.words x))
  fixed_there (pass d t e q) = fixed_by (S.words x) (S.words x) (T.words x) e (is_locked, refl, refl)

pub rely_effect : {limit : ℕ} {i j : ℕ} {x : Ref} {S T : State} → WordsOk limit S → i < 8 → (j ≡ i → ⊥) → Does limit j x S T → Rely i S T
rely_effect {limit} {i} {j} {x} {S} {T} ok l ne a = record {
  list = (turn_of a).3.others i (λ e. ne (sym e));
  rises = λ y. (later_effect a y).rises;
  sound = λ h m. lasting (S.words h.at) (T.words h.at) h.grip (later_effect a h.at) (every_in (OldIn S) (S.held i) h (ok.old i l) m);
  locked = λ h m lk. pick h.at x
      (λ e. subst (λ (z : Ref). Fixed (S.words z) (T.words z)) (sym e) (fixed_there T ok l ne h m lk e a))
      (λ n. fixed_by (S.words h.at) (S.words h.at) (T.words h.at) ((turn_of a).3.words h.at n) (owner S ok i h l m lk, refl, refl));
}

pub rely_run : {limit : ℕ} (i : ℕ) {S T : State} → i < 8 → Run limit (λ j. j ≡ i → ⊥) S T → WordsOk limit S → Rely i S T
rely_run i {S} {T} l stop ok = record {
  list = refl;
  rises = λ y. omega arith;
  sound = λ h m s. s;
  locked = λ h m lk. (owner S ok i h l m lk, refl, refl);
}
rely_run i {S} {T} l (more {M} j x U r ne a) ok =
    let f = rely_run i l r ok in
    let g = rely_effect (keeps_run r ok) l ne a in
    let there : (h : Hold) → In h (S.held i) → In h (M.held i) = λ h m. subst (In h) (sym f.list) m in record {
      list = g.list ∙ f.list;
      rises = λ y. omega (arith, f.rises y, g.rises y);
      sound = λ h m s. f.sound h m (g.sound h (there h m) s);
      locked = λ h m lk.
          let p = f.locked h m lk in let q = g.locked h (there h m) lk in
          (q.0, q.1 ∙ p.1, q.2 ∙ p.2);
    }
