-- What a stage meets, and what it does to the tree: one rule for each.
use Rattle.std.specs.Prelude.{◌≡◌, ℕ, Some, None, Ok, Err}
use Rattle.inline_bytes.specs.Held.{bytes_of}
use Rattle.keys.specs.Room.{Code}
use Rattle.latches.specs.declared.word.Permit.{Permit}
use Rattle.latches.specs.Rules.{Face}
use Rattle.terms.specs.declared.Cause.{Cause}
use Rattle.terms.specs.declared.Cause.TheVariants.{Changed}
use Rattle.terms.specs.declared.Kind.{Kind}
use Rattle.terms.specs.declared.outcome.Answer.{Answer}
use Rattle.index.specs.declared.operation.Course.{Course}
use Rattle.index.specs.declared.operation.Met.{Met}
use Rattle.index.specs.declared.operation.Met.TheVariants.{Refused, NoRoom, Granted, Saw, Drew, Done}
use Rattle.index.specs.declared.operation.Sight.{Sight}
use Rattle.index.specs.declared.operation.Stage.{Stage}
use Rattle.index.specs.declared.operation.Stage.TheVariants.{Take, Look, Check, Lock, Draw, Write, Unlock}
use Rattle.index.specs.declared.tree.Tree.{Tree}
use Rattle.index.specs.Effects.{Taken, Looked, GaveBack, Checked, LockedNow, DrawnFor, Written, Unlocked}

pub data Meets (f : Face) (k : Code) (σ τ : Tree) : Stage → Met → Type 0 where
  granted : {p : Permit} → Taken f σ τ (Ok p) → Meets f k σ τ Take (Granted p)
  not_granted : {c : Cause} → Taken f σ τ (Err c) → Meets f k σ τ Take (Refused c)
  saw : {p : Permit} {s : Sight} → Looked σ (bytes_of k) (Some s) → τ ≡ σ → Meets f k σ τ (Look p) (Saw s)
  ended : {p : Permit} → Looked σ (bytes_of k) None → GaveBack f p σ τ → Meets f k σ τ (Look p) (Refused Changed)
  passed : {p : Permit} {a : Answer} → Checked f p σ τ (Ok tt) → Meets f k σ τ (Check p a) Done
  not_passed : {p : Permit} {a : Answer} {c : Cause} → Checked f p σ τ (Err c) → Meets f k σ τ (Check p a) (Refused c)
  locked : {p : Permit} {w : Course} → LockedNow f p σ τ (Ok tt) → Meets f k σ τ (Lock p w) Done
  not_locked : {p : Permit} {w : Course} {c : Cause} → LockedNow f p σ τ (Err c) → Meets f k σ τ (Lock p w) (Refused c)
  drew : {w : Course} {l : ℕ} → DrawnFor f k σ τ w (Ok l) → Meets f k σ τ (Draw w) (Drew l)
  no_room : {w : Course} {e : Kind} → DrawnFor f k σ τ w (Err e) → Meets f k σ τ (Draw w) (NoRoom e)
  wrote : {l : ℕ} → Written (bytes_of k) l σ τ → Meets f k σ τ (Write l) Done
  unlocked : Unlocked f σ τ → Meets f k σ τ Unlock Done
