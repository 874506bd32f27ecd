-- Beginnings of byte lists.
use Rattle.std.specs.Prelude.{◌≡◌, ℕ, List, [], ◌∷◌}

infix 40 ◌≼◌
-- u is a beginning of v
abbrev pub ◌≼◌ : List ℕ → List ℕ → Type 0
◌≼◌ [] v = Unit {0}
◌≼◌ (a ∷ u) [] = ⊥
◌≼◌ (a ∷ u) (b ∷ v) = (a ≡ b) × (u ≼ v)
