-- Lines played one by one, and their replies written behind one another.
use Rattle.std.proofs.Common.{◌≡◌, ℕ, ◌+◌, ◌≤◌, Bool, true, false, List, [], ◌∷◌, ◌++◌, length, append_assoc, append-nil}
use Rattle.script.specs.Replies.{Reply}
use Rattle.index.specs.Calls.{State, NewIndex}
use Rattle.player.specs.Histories.{printed, Plays, done, stopped, goes, FromNew, AddedAll, AddedPart}
use Rattle.player.proofs.Buffers.{Filled, Cut, filled_none, filled_more, cut_more}

module _ (R : List ℕ → State → State → Reply → Type 0) (σ₀ : State) (ls₀ : List (List ℕ)) (out₀ : List ℕ) (at₀ : ℕ) where
  -- what was printed of the lines so far, in front of whatever the lines left print
  pub record SoFar (σ : State) (n : ℕ) (ls : List (List ℕ)) (out : List ℕ) (at : ℕ) : Type 0 where
    pub text : List ℕ
    pub plays : (more : List ℕ) (whole : Bool) → Plays R σ n ls more whole → Plays R σ₀ 2 ls₀ (text ++ more) whole
    pub filled : Filled out₀ at₀ text out at

  pub so_far_none : at₀ ≤ length out₀ → SoFar σ₀ 2 ls₀ out₀ at₀
  so_far_none h = record { text = []; plays = λ more whole p. p; filled = filled_none out₀ at₀ h }

  pub so_far_more : {σ τ : State} {n : ℕ} {l : List ℕ} {ls ls' : List (List ℕ)} {r : Reply} {out out' : List ℕ} {at at' : ℕ}
      → SoFar σ n ls out at → ls ≡ l ∷ ls' → R l σ τ r → Filled out at (printed n r) out' at' → SoFar τ (n + 1) ls' out' at'
  so_far_more {n} {r} s e did put =
      record {
        text = s.text ++ printed n r;
        plays = λ more whole p. rw (append_assoc s.text (printed n r) more) (s.plays (printed n r ++ more) whole (rw e (goes did p)));
        filled = filled_more s.filled put;
      }

  pub so_far_all : {σ : State} {n : ℕ} {ls : List (List ℕ)} {out : List ℕ} {at : ℕ} → NewIndex σ₀ → SoFar σ n ls out at → ls ≡ [] → AddedAll (FromNew R ls₀) out₀ at₀ out at
  so_far_all new s e =
      record {
        text = s.text;
        plays = record { start = σ₀; new = new; plays = rw append-nil at (s.plays [] true (rw e done)) };
        long = s.filled.long;
        kept = s.filled.kept;
        room = s.filled.room;
        same = s.filled.same;
      }

  pub so_far_cut : {σ τ : State} {n : ℕ} {l : List ℕ} {ls ls' : List (List ℕ)} {r : Reply} {out out' : List ℕ} {at : ℕ}
      → NewIndex σ₀ → SoFar σ n ls out at → ls ≡ l ∷ ls' → R l σ τ r → Cut out at (printed n r) out' → AddedPart (FromNew R ls₀) out₀ at₀ out'
  so_far_cut {n} {r} new s e did put =
      let cut = cut_more s.filled put in
      record {
        text = s.text ++ printed n r;
        plays = record { start = σ₀; new = new; plays = rw (append-nil (printed n r)) at (s.plays (printed n r ++ []) false (rw e (goes did stopped))) };
        past = cut.past;
        kept = cut.kept;
      }
