use Rattle.std.specs.Prelude.{◌≡◌, ℕ, zero, suc, ◌+◌, ◌<◌, ◌≤◌, cond, Some, None, Option, MatchOption, ◌==◌}
use Rattle.nodes.specs.declared.child.Child.{Child}
use Rattle.nodes.specs.declared.child.Edge.{Edge}

-- the child under each byte
abbrev pub View : Type 0
View = ℕ → Option Child

-- one byte has another answer, all others keep theirs
abbrev pub Changed : View → View → ℕ → Option Child → Type 0
Changed f g b o = (k : ℕ) → g k ≡ cond (k == b) o (f k)

abbrev pub Taken : Option Child → Type 0
Taken None = ⊥
Taken (Some c) = Unit {0}

abbrev pub one : Option Child → ℕ
one None = 0
one (Some c) = 1

-- how many of the first n bytes are taken
unfoldable pub count_to : View → ℕ → ℕ
count_to f zero = 0
count_to f (suc n) = count_to f n + one (f n)

-- how many bytes are taken
unfoldable pub count : View → ℕ
count f = count_to f 256

-- the child with the smallest byte from s on, or none
abbrev pub First : View → ℕ → Option Edge → Type 0
First f s None = (k : ℕ) → s ≤ k → f k ≡ None
First f s (Some e) = (s ≤ e.byte) × (f e.byte ≡ Some e.child) × ((k : ℕ) → s ≤ k → k < e.byte → f k ≡ None)

-- from s on the next child is r, and the one after it is looked for from t on
abbrev pub Advances : View → ℕ → Option Edge → ℕ → Type 0
Advances f s r t = First f s r × MatchOption r (t ≡ s) (λ e. t ≡ e.byte + 1)

-- no byte is taken
abbrev pub Bare : View → Type 0
Bare f = (k : ℕ) → f k ≡ None

-- all but the child under b
abbrev pub without : View → ℕ → View
without f b k = cond (k == b) None (f k)
