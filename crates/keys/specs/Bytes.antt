use Rattle.std.specs.Prelude.{◌≡◌, ℕ, ◌<◌, ◌⊎◌, List, [], ◌∷◌, ◌++◌}

-- byte-by-byte order: the first byte that differs decides, and a list that ends comes before a longer one
abbrev pub First : List ℕ → List ℕ → Type 0
First [] [] = ⊥
First [] (y ∷ ys) = Unit {0}
First (x ∷ xs) [] = ⊥
First (x ∷ xs) (y ∷ ys) = (x < y) ⊎ ((x ≡ y) × First xs ys)

-- p is a beginning of s
abbrev pub Begins : List ℕ → List ℕ → Type 0
Begins p s = (t : List ℕ) × (s ≡ p ++ t)
