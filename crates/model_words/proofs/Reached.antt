-- From the start on, call by call.
use Rattle.std.proofs.Common.{◌≡◌, ℕ, ◌+◌, sym, refl, subst, arith}
use Rattle.model_words.specs.Words.{State, Every, HeavySound, WordsOk}
use Rattle.model_words.specs.Theorems.{start_state, Calls, Reached}
use Rattle.model_words.proofs.Owners.{free}
use Rattle.model_words.proofs.Rely.{keeps_run}
use Rattle.model_words.proofs.Heavy.{heavy_run}
use Rattle.model_words.proofs.Able.{able}

from : {limit : ℕ} (n : ℕ) (S : State) → WordsOk limit S → HeavySound S → S.accepted ≡ n → Reached limit n S
from n S ok hs e = record {
  ok = ok;
  heavy = hs;
  accepted = e;
  counts = λ x. omega (arith, ok.counts x, e);
  quiet = λ q x. free S ok x (λ i l. subst (Every (λ h. h.at ≡ x → ⊥)) (sym (q i l)) tt);
}

pub reached : {limit n : ℕ} {S : State} → Calls limit n S → Reached limit n S
reached {limit} Calls.none = from 0 start_state (able limit).start (λ i h l m. absurd m) refl
reached {limit} (Calls.call n i T c r e) =
    let p = reached c in from (n + 1) T (keeps_run r p.ok) (heavy_run r p.ok p.heavy) e
