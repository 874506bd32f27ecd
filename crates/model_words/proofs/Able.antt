-- Each effect can happen where its conditions hold.
use Rattle.std.proofs.Common.{◌≡◌, ℕ, ◌+◌, ◌<◌, Bool, true, false, cond, List, [], ◌∷◌, ◌++◌, Some, None, Option, sym, refl, ap, ◌∙◌, subst, append-nil, arith}
use Rattle.model.specs.Holds.{Grip, Hold, let_go_all}
use Rattle.model.specs.Refs.{Ref}
use Rattle.latches.specs.declared.word.Meaning.{Meaning}
use Rattle.model_words.specs.Words.{State, lock_of, grip_weight, Unheld, WordsOk}
use Rattle.model.specs.Holds.Grip.{Permit, Locked}
use Rattle.latches.specs.Rules.{shared, returned, held as shut, freed, freed_gone, raised, revived}
use Rattle.model_words.specs.Effects.{spot, Turn, MayTake, MayLock, Does, Run, seat_put, act}
use Rattle.model_words.specs.Theorems.{start_state, Able}
use Rattle.model_words.proofs.Owners.{sum_none, free}
use Rattle.model_words.proofs.Release.{put_same, put_else, seat_same, seat_else}

able_turn : (S : State) (i : ℕ) (x : Ref) (d : ℕ) (out new : Option Grip) (a b : List Hold) (m : Meaning) (t : ℕ) → i < 8 → S.held i ≡ a ++ (spot x d out ++ b)
    → Turn S (act S i x (a ++ (spot x d new ++ b)) m t) i x d out new
able_turn S i x d out new a b m t l e = record {
  seat = l;
  before = a;
  after = b;
  was = e;
  is = seat_same S.held i (a ++ (spot x d new ++ b));
  others = seat_else S.held i (a ++ (spot x d new ++ b));
  words = λ y n. put_else S.words x y m n;
}

revived_rest : (b : Bool) (m n : Meaning) → m.locked ≡ n.locked → m.shares ≡ n.shares → ((cond b m n).locked ≡ n.locked) × ((cond b m n).shares ≡ n.shares)
revived_rest false m n e h = (refl, refl)
revived_rest true m n e h = (e, h)

revived_here : (b : Bool) (m n : Meaning) → m.gone ≡ false → b ≡ n.gone → (cond b m n).gone ≡ false
revived_here false m n e h = sym h
revived_here true m n e h = e

pub drawn : {limit : ℕ} (S T : State) (x : Ref) → WordsOk limit S → ((i : ℕ) → i < 8 → Unheld S i x) → T.words x ≡ revived (S.words x)
    → ((T.words x).locked ≡ false) × ((T.words x).gone ≡ false) × ((T.words x).shares ≡ 0)
drawn S T x ok n e =
    let m : Meaning = S.words x in
    let r = revived_rest m.gone (raised m) m refl refl in
    let u = free S ok x n in (
      ap (λ (v : Meaning). v.locked) e ∙ r.0 ∙ u.0,
      ap (λ (v : Meaning). v.gone) e ∙ revived_here m.gone (raised m) m refl refl,
      ap (λ (v : Meaning). v.shares) e ∙ r.1 ∙ u.1,
    )

take_lock : (limit : ℕ) (S : State) (i : ℕ) (x : Ref) (d w : ℕ) → i < 8 → MayTake limit (S.words x) w → (S.words x).shares ≡ 0
    → (T : State) × Run limit (λ j. j ≡ i) S T × (T.held i ≡ S.held i ++ (record { at = x; depth = d; grip = Locked } ∷ [])) × (T.accepted ≡ S.accepted + 1)
take_lock limit S i x d w l may z =
    let c : ℕ = (S.words x).count in
    let hs : List Hold = S.held i ++ (record { at = x; depth = d; grip = Permit c w } ∷ []) in
    let ks : List Hold = S.held i ++ (record { at = x; depth = d; grip = Locked } ∷ []) in
    let m : Meaning = shared w (S.words x) in
    let M : State = act S i x hs m S.accepted in
    let e : M.words x ≡ m = put_same S.words x m in
    let n : Meaning = shut (M.words x) in
    let T : State = act M i x ks n (S.accepted + 1) in
    let a : Does limit i x S M = Does.take d w may (able_turn S i x d None (Some (Permit c w)) (S.held i) [] m S.accepted l (sym (append-nil (S.held i)))) e (omega arith) in
    let may' : MayLock (M.words x) c w = subst (λ (v : Meaning). MayLock v c w) (sym e) (record { passes = (may.here, may.loose, refl); alone = omega (arith, z) }) in
    let b : Does limit i x M T = Does.lock d c w may' (able_turn M i x d (Some (Permit c w)) (Some Locked) (S.held i) [] n (S.accepted + 1) l (seat_same S.held i hs)) (put_same M.words x n) (omega arith) in
    (T, Run.more i x T (Run.more i x M Run.stop refl a) refl b, seat_same M.held i ks, refl)

pub able : (limit : ℕ) → Able limit
able limit = record {
  start = record {
    locks = λ x. sum_none lock_of x start_state (λ i l. tt);
    shares = λ x. sum_none grip_weight x start_state (λ i l. tt);
    within = λ x. omega arith;
    apart = λ x. omega arith;
    counts = λ x. omega arith;
    old = λ i l. tt;
  };
  take = λ S i x d w l may.
      let m : Meaning = shared w (S.words x) in (
        act S i x (S.held i ++ (spot x d (Some (Permit (S.words x).count w)) ++ [])) m S.accepted,
        Does.take d w may (able_turn S i x d None (Some (Permit (S.words x).count w)) (S.held i) [] m S.accepted l (sym (append-nil (S.held i)))) (put_same S.words x m) (omega arith),
        seat_same S.held i (S.held i ++ (record { at = x; depth = d; grip = Permit (S.words x).count w } ∷ [])),
      );
  give = λ S i x d c w a b l e.
      let m : Meaning = returned w (S.words x) in (
        act S i x (a ++ b) m S.accepted,
        Does.give d c w (able_turn S i x d (Some (Permit c w)) None a b m S.accepted l e) (put_same S.words x m) (omega arith),
        seat_same S.held i (a ++ b),
      );
  lock = λ S i x d c w a b l may e.
      let m : Meaning = shut (S.words x) in (
        act S i x (a ++ (record { at = x; depth = d; grip = Locked } ∷ b)) m (S.accepted + 1),
        Does.lock d c w may (able_turn S i x d (Some (Permit c w)) (Some Locked) a b m (S.accepted + 1) l e) (put_same S.words x m) (omega arith),
        seat_same S.held i (a ++ (record { at = x; depth = d; grip = Locked } ∷ b)),
      );
  unlock = λ S i x d a b l e.
      let m : Meaning = freed (S.words x) in (
        act S i x (a ++ b) m S.accepted,
        Does.unlock d (able_turn S i x d (Some Locked) None a b m S.accepted l e) (put_same S.words x m) (omega arith),
        seat_same S.held i (a ++ b),
        ap (λ (n : Meaning). n.gone) (put_same S.words x m),
      );
  unlock_gone = λ S i x d a b l e.
      let m : Meaning = freed_gone (S.words x) in (
        act S i x (a ++ b) m S.accepted,
        Does.unlock_gone d (able_turn S i x d (Some Locked) None a b m S.accepted l e) (put_same S.words x m) (omega arith),
        seat_same S.held i (a ++ b),
        ap (λ (n : Meaning). n.gone) (put_same S.words x m),
      );
  revive = λ S i x l.
      let m : Meaning = revived (S.words x) in (
        act S i x (S.held i) m (S.accepted + 1),
        Does.revive 0 (able_turn S i x 0 None None [] (S.held i) m (S.accepted + 1) l refl) (put_same S.words x m) (omega arith),
        ap (λ (n : Meaning). n.gone) (put_same S.words x m) ∙ revived_here (S.words x).gone (raised (S.words x)) (S.words x) refl refl,
      );
  take_lock = take_lock limit;
  release = λ S i l. (
    record { words = let_go_all (S.held i) S.words; held = seat_put S.held i []; accepted = S.accepted },
    record { seat = l; empty = seat_same S.held i []; others = seat_else S.held i []; words = λ y. refl; time = omega arith },
  );
}
