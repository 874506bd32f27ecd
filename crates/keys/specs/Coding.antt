-- What coding and decoding answer.
use Rattle.std.specs.Prelude.{◌≡◌, ℕ, Bool, List, Ok, Err, Decides, Result, ◌≢◌}
use Rattle.terms.specs.declared.Refusal.{Refusal}
use Rattle.terms.specs.Numbers.{refusal_number}
use Rattle.inline_bytes.specs.Held.{bytes_of}
use Rattle.keys.specs.Room.{Code}

-- a key's bytes if it is accepted, else refusal 6
abbrev pub Coded : {K : Type 0} → (K → Type 0) → (K → List ℕ) → K → Result Code Refusal → Type 0
Coded accepts bytes k (Ok c) = accepts k × (bytes_of c ≡ bytes k)
Coded accepts bytes k (Err e) = (refusal_number e ≡ 6) × (accepts k → ⊥)

-- the key that has these bytes, or refusal 6 where none has them
abbrev pub Decoded : {K : Type 0} → (K → Type 0) → (K → List ℕ) → List ℕ → Result K Refusal → Type 0
Decoded accepts bytes s (Ok k) = accepts k × (bytes k ≡ s)
Decoded {K} accepts bytes s (Err e) = (refusal_number e ≡ 6) × ((k : K) → accepts k → bytes k ≢ s)

-- the key itself if it is accepted, else refusal 6
abbrev pub Back : {K : Type 0} → (K → Type 0) → K → Result K Refusal → Type 0
Back accepts k (Ok j) = accepts k × (j ≡ k)
Back accepts k (Err e) = (refusal_number e ≡ 6) × (accepts k → ⊥)

-- whether two keys are one, or refusal 6 where one of them is not accepted
abbrev pub SameKey : {K : Type 0} → (K → Type 0) → K → K → Result Bool Refusal → Type 0
SameKey accepts a b (Ok t) = accepts a × accepts b × Decides t (a ≡ b)
SameKey accepts a b (Err e) = (refusal_number e ≡ 6) × (accepts a → accepts b → ⊥)

-- whether one key comes before another, or refusal 6 where one of them is not accepted
abbrev pub Placed : {K : Type 0} → (K → Type 0) → (K → K → Type 0) → K → K → Result Bool Refusal → Type 0
Placed accepts before a b (Ok t) = accepts a × accepts b × Decides t (before a b)
Placed accepts before a b (Err e) = (refusal_number e ≡ 6) × (accepts a → accepts b → ⊥)
