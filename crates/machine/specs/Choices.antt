-- What follows a look of find, add or remove.
use Rattle.std.specs.Prelude.{ℕ, ◌+◌, ◌-◌, cond, ◌||◌, List, length, Some, None, Option, ◌==◌, nat_le, slice_index}
use Rattle.model.specs.Refs.{Ref, root, is}
use Rattle.model.specs.Tree.{Tree, child, prefix, fan, cap}
use Rattle.model.specs.Holds.{Hold}
use Rattle.model.specs.Operations.{Task, find, add, remove, next, found, present, absent, Course, insert, grow, split, miss, in_place, collapse, items, Stage, check_n, act}
use Rattle.model.specs.Sights.{Seen, stale, empty, missed, other, same_key, onward}
use Rattle.model_next.specs.Look.{least}

-- the key's byte in the node that is held as n
abbrev pub key_byte : Tree → List ℕ → Hold → ℕ
key_byte S k n = slice_index k (n.depth + length (prefix S n.at))

-- all children but the one under b
abbrev pub without : (ℕ → Option Ref) → ℕ → ℕ → Option Ref
without f b e = cond (e == b) None (f e)

abbrev pub second : Option (ℕ × Ref) → Option Ref
second None = None
second (Some (b, y)) = Some y

-- the child of n that is left without the one under b
abbrev pub left : Tree → Ref → ℕ → Option Ref
left S x b = second (least (without (child S x) b) 0 256)

abbrev pub begun : Course → Stage
begun c = act c (items c) None

abbrev pub collapsing : ℕ → ℕ → Option Ref → Option Stage
collapsing v l None = None
collapsing v l (Some x) = Some (begun (collapse v l x))

-- in place at the root, or where two children or more are kept; else the child that is left takes the node's place
abbrev pub removing : Tree → List ℕ → Hold → ℕ → ℕ → Option Stage
removing S k n l v = cond (is n.at root || nat_le 2 (fan S n.at - 1)) (Some (begun (in_place v l))) (collapsing v l (left S n.at (key_byte S k n)))

abbrev pub finding : Seen → Option Stage
finding stale = None
finding empty = Some (check_n absent)
finding (missed i) = Some (check_n absent)
finding (other l) = Some (check_n absent)
finding (same_key l v) = Some (check_n (found v))
finding (onward y e) = None

abbrev pub adding : Tree → Hold → ℕ → Seen → Option Stage
adding S n v stale = None
adding S n v empty = Some (begun (cond (nat_le (cap n.at) (fan S n.at)) (grow v) (insert v)))
adding S n v (missed i) = Some (begun (miss v i))
adding S n v (other l) = Some (begun (split v l))
adding S n v (same_key l w) = Some (check_n (present w))
adding S n v (onward y e) = None

abbrev pub taking : Tree → List ℕ → Hold → Seen → Option Stage
taking S k n stale = None
taking S k n empty = Some (check_n absent)
taking S k n (missed i) = Some (check_n absent)
taking S k n (other l) = Some (check_n absent)
taking S k n (same_key l v) = removing S k n l v
taking S k n (onward y e) = None

-- the stage that a look decides on; none where it restarts or goes on to a node
abbrev pub decided : Tree → List ℕ → Hold → Task → Seen → Option Stage
decided S k n find s = finding s
decided S k n (add v) s = adding S n v s
decided S k n remove s = taking S k n s
decided S k n next s = None
