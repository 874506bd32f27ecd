-- What a look at a node sees, over lists.
use Rattle.std.specs.Prelude.{ℕ, suc, ◌+◌, cond, List, [], ◌∷◌, length, drop, Some, None, Option, ◌==◌, nat_le, nat_lt, slice_index}
use Rattle.keys.specs.Room.{longest_key}
use Rattle.nodes.specs.declared.child.Child.{Child}
use Rattle.nodes.specs.declared.child.Child.TheVariants as child
use Rattle.nodes.specs.View.{View}
use Rattle.look.specs.declared.seen.Met.{Met}
use Rattle.look.specs.declared.seen.Met.TheVariants.{Parts, Ends, Goes}
use Rattle.look.specs.declared.seen.Rank.{Rank}
use Rattle.look.specs.declared.seen.Rank.TheVariants.{Larger, Smaller, Ended, Same}
use Rattle.look.specs.declared.seen.Seen.{Seen}
use Rattle.look.specs.declared.seen.Seen.TheVariants as seen

abbrev pub later : Met → Met
later (Parts i) = Parts (suc i)
later Ends = Ends
later (Goes b) = Goes b

-- a prefix against the rest of a key: the first place where they differ goes before the key's end
abbrev pub meet : List ℕ → List ℕ → Met
meet [] [] = Ends
meet [] (b ∷ r) = Goes b
meet (a ∷ p) [] = Ends
meet (a ∷ p) (b ∷ r) = cond (a == b) (later (meet p r)) (Parts 0)

-- the order at the place where they differ
abbrev pub rank_by : List ℕ → List ℕ → Met → Rank
rank_by p r (Parts i) = cond (nat_lt (slice_index p i) (slice_index r i)) Smaller Larger
rank_by p r Ends = Ended
rank_by p r (Goes b) = Same b

abbrev pub rank : List ℕ → List ℕ → Rank
rank p r = rank_by p r (meet p r)

-- what stands under the key's byte; e counts the key bytes up to it
abbrev pub under : Option Child → ℕ → Seen
under None e = seen.Empty
under (Some (child.Leaf s)) e = seen.Leaf s
under (Some (child.Node k s)) e = seen.Node k s e

abbrev pub sight : View → ℕ → Met → Seen
sight f e (Parts i) = seen.Miss i
sight f e Ends = seen.Stale
sight f e (Goes b) = under (f b) e

-- the prefix p, the children f, the key k, and d of its bytes before p; no prefix reaches as far as the longest key
abbrev pub looked : List ℕ → View → List ℕ → ℕ → Seen
looked p f k d = cond (nat_le longest_key (d + length p)) seen.Stale (sight f (d + length p + 1) (meet p (drop d k)))
