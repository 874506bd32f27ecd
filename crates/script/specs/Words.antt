-- The words of a line, parted by single spaces.
use Rattle.std.specs.Prelude.{ℕ, ◌≤◌, Bool, true, false, cond, List, [], ◌∷◌, drop, Some, None, Option, ◌==◌, slice_index}
use Rattle.std.specs.List.{AllByRecursion}

-- the bytes before the first space
abbrev pub first_word : List ℕ → List ℕ
first_word [] = []
first_word (b ∷ bs) = cond (b == 0x20) [] (b ∷ first_word bs)

-- the bytes after the first space, if there is one
abbrev pub after_word : List ℕ → Option (List ℕ)
after_word [] = None
after_word (b ∷ bs) = cond (b == 0x20) (Some bs) (after_word bs)

-- whether a word is a text, and its bytes without the `'` that begins a text
abbrev pub word_of : List ℕ → Bool × List ℕ
word_of bs = cond (slice_index bs 0 == 0x27) (true, drop 1 bs) (false, bs)

-- bytes that a text of a script may have
abbrev pub Printable : List ℕ → Type 0
Printable = AllByRecursion (λ b. (0x21 ≤ b) × (b ≤ 0x7E))
