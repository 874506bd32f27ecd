use Rattle.std.specs.Prelude.{◌≡◌, ℕ, ◌-◌, ◌≤◌, List, take, replicate}
use Rattle.std.proofs.Common.{ap, arith}
use Rattle.std.proofs.lemmas.List.{length-replicate}
use Rattle.inline_bytes.specs.declared.inline_bytes.InlineBytes.{InlineBytes}

-- the bytes of a short string
abbrev pub bytes_of : {N : ℕ} → InlineBytes N → List ℕ
bytes_of s = take s.len s.bytes

-- no bytes fit anywhere, with zeros behind them
pub nothing_fits : (n : ℕ) → 0 ≤ n
nothing_fits n = omega arith

pub nothing_clear : (n : ℕ) → replicate {A = ℕ} n 0 ≡ replicate (n - 0) 0
nothing_clear n = ap (λ k. replicate k 0) (omega arith)

-- the short string of no bytes
abbrev pub no_bytes : {N : ℕ} → InlineBytes N
no_bytes {N} = record { bytes = replicate N 0; len = 0; fits = nothing_fits N; whole = length-replicate {A = ℕ} N 0; clear = nothing_clear N }
