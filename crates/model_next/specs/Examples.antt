-- A small tree, and what looks see in it: 1, 2 and 256 as four bytes each, highest first, the top bit flipped.
use Rattle.std.specs.Prelude.{◌≡◌, ℕ, zero, suc, cond, List, [], ◌∷◌, Some, None, Option, ◌==◌}
use Rattle.model.specs.Refs.{Ref, leaf, node, Kind, four, sixteen, forty_eight, whole, root}
use Rattle.model.specs.Tree.{Tree}
use Rattle.model_next.specs.Look.{stale, back, onward, aside, got, key_sight, back_sight, down_sight}

abbrev pub kids : Kind → ℕ → ℕ → Option Ref
kids four zero b = cond (b == 1) (Some (leaf 0)) (cond (b == 2) (Some (leaf 1)) None)
kids four (suc n) b = cond (b == 0) (Some (node four 0)) (cond (b == 1) (Some (leaf 2)) None)
kids sixteen n b = None
kids forty_eight n b = None
kids whole n b = cond (b == 0x80) (Some (node four 1)) None

abbrev pub fronts : Kind → ℕ → List ℕ
fronts four zero = []
fronts four (suc n) = 0 ∷ []
fronts sixteen n = []
fronts forty_eight n = []
fronts whole n = []

abbrev pub number : ℕ → List ℕ
number zero = 0x80 ∷ 0 ∷ 0 ∷ 1 ∷ []
number (suc zero) = 0x80 ∷ 0 ∷ 0 ∷ 2 ∷ []
number (suc (suc n)) = 0x80 ∷ 0 ∷ 1 ∷ 0 ∷ []

abbrev pub small : Tree
small = record { contents = λ c n. record { prefix = fronts c n; child = kids c n }; entries = λ i. record { key = number i; value = i } }

abbrev pub three : List ℕ
three = 0x80 ∷ 0 ∷ 0 ∷ 3 ∷ []

abbrev pub over : List ℕ
over = 0x80 ∷ 0 ∷ 1 ∷ 1 ∷ []

-- next 3 goes down to the node of 1 and 2, back, and gets 256; next 257 goes back past the root
pub record Sights : Type 0 where
  pub a : key_sight 16 small three root 0 ≡ onward (node four 1) 1
  pub b : key_sight 16 small three (node four 1) 1 ≡ onward (node four 0) 3
  pub c : key_sight 16 small three (node four 0) 3 ≡ back
  pub d : back_sight 16 small 0 (node four 1) 1 ≡ got 2
  pub e : key_sight 16 small over (node four 1) 1 ≡ back
  pub f : back_sight 16 small 0x80 root 0 ≡ back
  pub g : down_sight 16 small (node four 1) 1 ≡ aside (node four 0) 3
  pub h : down_sight 16 small (node four 0) 3 ≡ got 0
  pub i : key_sight 16 small (0 ∷ []) root 0 ≡ aside (node four 1) 1
  pub j : key_sight 16 small (0x80 ∷ 0 ∷ []) (node four 1) 1 ≡ stale
