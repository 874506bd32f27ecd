use Rattle.std.specs.Prelude.{◌≡◌, ℕ, suc, ◌+◌, ◌-◌, ◌*◌, ◌/◌, ◌%◌, ◌^◌, ◌<◌, List, [], ◌∷◌, length, ℤ, pos, negsuc, ◌<ℤ◌, bit_xor, slice_index, refl}
use Rattle.std.proofs.Common.{sym, ap, ◌∙◌, inl, inr, arith, of_z, to_z}
use Rattle.std.specs.Int.Signed.{mag}
use Rattle.std.specs.Int.Bits.{xor_shifted, xor_zero_r, xor_assoc}
use Rattle.std.specs.Int.{w32}
use Rattle.std.proofs.lemmas.Bool.{cases_order}
use Rattle.std.proofs.lemmas.Nat.{shr-shr, xor_comm, xor_block, xor_lt}
use Rattle.std.proofs.lemmas.Int.{ints, of_z-to_z}
use Rattle.keys.specs.Bytes.{First}
use Rattle.keys.specs.Laws.{Lawful}
use Rattle.keys.specs.Numbers.{Signed32, four_bytes, number_bytes}
use Rattle.keys.specs.Lists.{begins_whole}

-- flipping the top bit of 32
flip_low : (n : ℕ) → n < 2 ^ 31 → bit_xor n 0x80000000 ≡ 2 ^ 31 + n
flip_low n h = xor_comm n 0x80000000 ∙ xor_shifted 1 31 n h

flip_high : (n : ℕ) → n < 2 ^ 31 → bit_xor (2 ^ 31 + n) 0x80000000 ≡ n
flip_high n h = xor_block 31 1 1 n 0 h (omega arith) ∙ omega (arith, xor_zero_r n)

-- how many numbers of 32 bits come before z
abbrev rank : ℤ → ℕ
rank (pos n) = 2 ^ 31 + n
rank (negsuc n) = 2 ^ 31 - suc n

rank_is : (z : ℤ) → Signed32 z → bit_xor (of_z w32 z) 0x80000000 ≡ rank z
rank_is (pos n) h = flip_low n h
rank_is (negsuc n) h =
    let e : 2 ^ 32 - suc n ≡ 2 ^ 31 + (2 ^ 31 - suc n) = omega arith in
    rw e (flip_high (2 ^ 31 - suc n) (omega arith))

rank_fits : (z : ℤ) → Signed32 z → rank z < 2 ^ 32
rank_fits (pos n) h = omega arith
rank_fits (negsuc n) h = omega arith

rank_same : (a b : ℤ) → Signed32 a → Signed32 b → rank a ≡ rank b → a ≡ b
rank_same (pos m) (pos n) h k e = ap pos (omega arith)
rank_same (pos m) (negsuc n) h k e = absurd (omega arith)
rank_same (negsuc m) (pos n) h k e = absurd (omega arith)
rank_same (negsuc m) (negsuc n) h k e = ap negsuc (omega arith)

rank_less : (a b : ℤ) → Signed32 a → Signed32 b → a <ℤ b → rank a < rank b
rank_less (pos m) (pos n) h k e = omega (arith, ints)
rank_less (pos m) (negsuc n) h k e = omega (arith, ints)
rank_less (negsuc m) (pos n) h k e = omega (arith, ints)
rank_less (negsuc m) (negsuc n) h k e = omega (arith, ints)

less_rank : (a b : ℤ) → Signed32 a → Signed32 b → rank a < rank b → a <ℤ b
less_rank (pos m) (pos n) h k e = omega (arith, ints)
less_rank (pos m) (negsuc n) h k e = omega (arith, ints)
less_rank (negsuc m) (pos n) h k e = omega (arith, ints)
less_rank (negsuc m) (negsuc n) h k e = omega (arith, ints)

-- the value of four bytes, highest first
abbrev value : ℕ → ℕ → ℕ → ℕ → ℕ
value a b c d = a * 16777216 + b * 65536 + c * 256 + d

four_value : (a b c d : ℕ) → a < 256 → b < 256 → c < 256 → d < 256 → four_bytes (value a b c d) ≡ a ∷ b ∷ c ∷ d ∷ []
four_value a b c d h i j k =
    let p : (value a b c d / 16777216 % 256) ≡ a = omega arith in
    let q : (value a b c d / 65536 % 256) ≡ b = omega arith in
    let r : (value a b c d / 256 % 256) ≡ c = omega arith in
    let s : (value a b c d % 256) ≡ d = omega arith in
    cc

value_four : (n : ℕ) → n < 2 ^ 32 → value (n / 16777216 % 256) (n / 65536 % 256) (n / 256 % 256) (n % 256) ≡ n
value_four n h =
    let top : (n / 16777216 % 256) ≡ n / 16777216 = omega arith in
    let p : n / 65536 ≡ n / 16777216 * 256 + n / 65536 % 256 = rw (← shr-shr n 16 8) (omega arith) in
    let q : n / 256 ≡ n / 65536 * 256 + n / 256 % 256 = rw (← shr-shr n 8 8) (omega arith) in
    omega arith

-- four bytes are in the order of their values
module _ (n m : ℕ) (h : n < 2 ^ 32) (k : m < 2 ^ 32) where
  four_bytes_less : First (four_bytes n) (four_bytes m) → n < m
  four_bytes_less (inl x) = omega (arith, value_four n h, value_four m k)
  four_bytes_less (inr (e, inl x)) = omega (arith, value_four n h, value_four m k)
  four_bytes_less (inr (e, inr (f, inl x))) = omega (arith, value_four n h, value_four m k)
  four_bytes_less (inr (e, inr (f, inr (g, inl x)))) = omega (arith, value_four n h, value_four m k)
  four_bytes_less (inr (e, inr (f, inr (g, inr (i, x))))) = absurd x

  less_four_bytes : n < m → First (four_bytes n) (four_bytes m)
  less_four_bytes l =
      let p = value_four n h in
      let q = value_four m k in
      elim (cases_order (n / 16777216 % 256) (m / 16777216 % 256)) [
        | inr (inl x) ↦ inl x
        | inr (inr x) ↦ absurd (omega arith)
        | inl e ↦ inr (
          e,
          elim (cases_order (n / 65536 % 256) (m / 65536 % 256)) [
            | inr (inl x) ↦ inl x
            | inr (inr x) ↦ absurd (omega arith)
            | inl f ↦ inr (
              f,
              elim (cases_order (n / 256 % 256) (m / 256 % 256)) [
                | inr (inl x) ↦ inl x
                | inr (inr x) ↦ absurd (omega arith)
                | inl g ↦ inr (g, inl (omega arith))
              ],
            )
          ],
        )
      ]

  four_bytes_same : four_bytes n ≡ four_bytes m → n ≡ m
  four_bytes_same e =
      let p = value_four n h in
      let q = value_four m k in
      let a : (n / 16777216 % 256) ≡ (m / 16777216 % 256) = cc in
      let b : (n / 65536 % 256) ≡ (m / 65536 % 256) = cc in
      let c : (n / 256 % 256) ≡ (m / 256 % 256) = cc in
      let d : (n % 256) ≡ (m % 256) = cc in
      omega arith

number_same : (a b : ℤ) → Signed32 a → Signed32 b → number_bytes a ≡ number_bytes b → a ≡ b
number_same a b h k e = rank_same a b h k (four_bytes_same (rank a) (rank b) (rank_fits a h) (rank_fits b k) (rw (rank_is a h, rank_is b k) at e))

pub number_lawful : Lawful Signed32 (λ a b. a <ℤ b) number_bytes 4
number_lawful = record {
  same = number_same;
  first = λ a b h k l. rw (rank_is a h, rank_is b k) (less_four_bytes (rank a) (rank b) (rank_fits a h) (rank_fits b k) (rank_less a b h k l));
  comes = λ a b h k f. less_rank a b h k (four_bytes_less (rank a) (rank b) (rank_fits a h) (rank_fits b k) (rw (rank_is a h, rank_is b k) at f));
  apart = λ a b h k p. number_same a b h k (begins_whole (number_bytes a) (number_bytes b) refl p);
  some = λ a h. omega arith;
  most = λ a h. omega arith;
  room = omega arith;
}

signed_fits : (z : ℤ) → mag z < 2 ^ 31 → Signed32 z
signed_fits (pos n) h = h
signed_fits (negsuc n) h = h

four_reads : (s : List ℕ) → length s ≡ 4 → s ≡ slice_index s 0 ∷ slice_index s 1 ∷ slice_index s 2 ∷ slice_index s 3 ∷ []
four_reads [] e = absurd (omega arith)
four_reads (a ∷ []) e = absurd (omega arith)
four_reads (a ∷ b ∷ []) e = absurd (omega arith)
four_reads (a ∷ b ∷ c ∷ []) e = absurd (omega arith)
four_reads (a ∷ b ∷ c ∷ d ∷ []) e = refl
four_reads (a ∷ b ∷ c ∷ d ∷ x ∷ s) e = absurd (omega arith)

-- the number that four bytes stand for has those bytes
pub read_back : (s : List ℕ) (n : ℕ) (z : ℤ) → length s ≡ 4 → ((i : ℕ) → slice_index s i < 256) →
    n ≡ value (slice_index s 0) (slice_index s 1) (slice_index s 2) (slice_index s 3) → mag z < 2 ^ 31 → z ≡ to_z w32 (bit_xor n 0x80000000) →
    Signed32 z × (number_bytes z ≡ s)
read_back s n z l h v f e =
    let small : n < 2 ^ 32 = omega (arith, h 0, h 1, h 2, h 3) in
    let o : of_z w32 z ≡ bit_xor n 0x80000000 = ap (of_z w32) e ∙ of_z-to_z w32 (bit_xor n 0x80000000) (xor_lt 32 n 0x80000000 small (omega arith)) in
    let x : bit_xor (of_z w32 z) 0x80000000 ≡ n = ap (λ k. bit_xor k 0x80000000) o ∙ xor_assoc n 0x80000000 0x80000000 ∙ xor_zero_r n in
    (signed_fits z f, ap four_bytes (x ∙ v) ∙ four_value (slice_index s 0) (slice_index s 1) (slice_index s 2) (slice_index s 3) (h 0) (h 1) (h 2) (h 3) ∙ sym (four_reads s l))
