-- What holds of a seat whose operation is in a course, by the items that are left.
use Rattle.std.specs.Prelude.{◌≡◌, ℕ, List, [], ◌∷◌, ◌++◌, Some, None, Option}
use Rattle.model.specs.Refs.{Ref, leaf, node, Kind, IsNode}
use Rattle.model.specs.Tree.{Content, child, prefix, Status, Linked}
use Rattle.model.specs.Holds.{Hold}
use Rattle.model.specs.Operations.{Operation, add, remove, Course, insert, grow, split, miss, in_place, collapse, items, Item, lock_p, lock_n, lock_m, draw, write_n, write_m, write_p, unlock_m, unlock_n, unlock_n_gone, unlock_p, Drawn}
use Rattle.model_tree.specs.Writes.{Miss, Collapse}
use Rattle.model_slots.specs.Laws.{drawn}
use Rattle.machine.specs.State.{State, Numbers}
use Rattle.machine.specs.Choices.{begun}
use Rattle.machine.specs.Items.{adds, byte_above, filling}
use Rattle.invariant.specs.Ghosts.{Ghosts, ghost, Permits, IsPermit, IsLocked}
use Rattle.invariant.specs.Seats.{Placed, Decides, Stand}

-- a course that locks n alone
pub data Solo : Course → Type 0 where
  inserting : (v : ℕ) → Solo (insert v)
  splitting : (v j : ℕ) → Solo (split v j)
  removing : (v l : ℕ) → Solo (in_place v l)

-- a course that locks p and n
pub data Pair : Course → Type 0 where
  growing : (v : ℕ) → Pair (grow v)
  missing : (v i : ℕ) → Pair (miss v i)
  collapsing : (v l : ℕ) (x : Ref) → Pair (collapse v l x)

module _ (N : Numbers) (Key : List ℕ → Type 0) (σ : State) (g : Ghosts) (s : ℕ) (o : Operation) where
  -- the leaf i was drawn and filled in with the key and v
  pub record LeafDrawn (i v : ℕ) : Type 0 where
    pub drawn' : g.mark (leaf i) ≡ drawn s
    pub key : (σ.tree.entries i).key ≡ o.key
    pub value : (σ.tree.entries i).value ≡ v

  -- the node y was drawn and filled in for the course c at n
  pub record NodeDrawn (c : Course) (n : Hold) (i : ℕ) (y : Ref) : Type 0 where
    pub inner : IsNode y
    pub drawn' : g.mark y ≡ drawn s
    pub content : Content
    pub filled : filling σ.tree o.key n i c ≡ Some content
    pub prefix_is : prefix σ.tree y ≡ content.prefix
    pub child_is : (b : ℕ) → child σ.tree y b ≡ content.child b

  -- the course was decided at n, which is locked; a solo course may hold p's permit besides
  pub record OneLocked (c : Course) (hs : List Hold) (n : Hold) : Type 0 where
    pub stand : Stand N σ g o hs n
    pub permits : Permits hs
    pub locked : IsLocked n
    pub decides : Decides N σ g o n (begun c)

  pub record BothLocked (c : Course) (p n : Hold) : Type 0 where
    pub stand : Stand N σ g o (p ∷ []) n
    pub above : IsLocked p
    pub locked : IsLocked n
    pub decides : Decides N σ g o n (begun c)

  abbrev pub IsRetired : Ref → Type 0
  IsRetired x = (r : ℕ) × ((ghost g).st x ≡ Status.retired r)

  -- m is locked below n, which it hangs from
  pub record Joins (v l : ℕ) (p n m : Hold) : Type 0 where
    pub both : BothLocked (collapse v l m.at) p n
    pub locked : IsLocked m
    pub inner : IsNode m.at
    pub linked : Linked (ghost g) m.at

  -- m has its longer prefix, and takes n's place under p next
  pub record Joined (v l : ℕ) (p n m : Hold) : Type 0 where
    pub above : IsLocked p
    pub locked : IsLocked n
    pub below : IsLocked m
    pub inner : IsNode m.at
    pub placed : Placed N σ g o n
    pub own : ℕ
    pub other : ℕ
    pub ready : Collapse σ.tree (ghost g) p.at (byte_above o.key n) n.at own l other m.at
    pub key : (σ.tree.entries l).key ≡ o.key
    pub value : (σ.tree.entries l).value ≡ v
    pub task : o.task ≡ remove

  -- n's prefix is cut, and the new node y comes between p and n next
  pub record Cut (v i : ℕ) (p n : Hold) (y : Ref) : Type 0 where
    pub above : IsLocked p
    pub locked : IsLocked n
    pub placed : Placed N σ g o n
    pub node_drawn : g.mark y ≡ drawn s
    pub leaf_drawn : g.mark (leaf i) ≡ drawn s
    pub own : ℕ
    pub other : ℕ
    pub ready : Miss Key σ.tree (ghost g) p.at (byte_above o.key n) n.at y own other i o.key v
    pub task : o.task ≡ add v

  -- what has been drawn, the items that are left, and what is held
  pub data Acts : Course → List Item → Option Drawn → List Hold → Type 0 where
    -- n alone
    to_lock : (c : Course) (hs : List Hold) (n : Hold) → Solo c → Stand N σ g o hs n → Permits (hs ++ n ∷ []) → Decides N σ g o n (begun c) → Acts c (items c) None (hs ++ n ∷ [])
    to_draw : (c : Course) (v : ℕ) (hs : List Hold) (n : Hold) → Solo c → adds c ≡ Some v → OneLocked c hs n → Acts c (draw ∷ write_n ∷ unlock_n ∷ []) None (hs ++ n ∷ [])
    to_insert : (v i : ℕ) (hs : List Hold) (n : Hold) → OneLocked (insert v) hs n → LeafDrawn i v
        → Acts (insert v) (write_n ∷ unlock_n ∷ []) (Some (record { leaf_slot = i; node_slot = None })) (hs ++ n ∷ [])
    to_split : (v j i : ℕ) (y : Ref) (hs : List Hold) (n : Hold) → OneLocked (split v j) hs n → LeafDrawn i v → NodeDrawn (split v j) n i y
        → Acts (split v j) (write_n ∷ unlock_n ∷ []) (Some (record { leaf_slot = i; node_slot = Some y })) (hs ++ n ∷ [])
    to_remove : (v l : ℕ) (hs : List Hold) (n : Hold) → OneLocked (in_place v l) hs n → Acts (in_place v l) (write_n ∷ unlock_n ∷ []) None (hs ++ n ∷ [])
    to_unlock : (c : Course) (hs : List Hold) (n : Hold) → Solo c → Permits hs → IsLocked n → Linked (ghost g) n.at → Acts c (unlock_n ∷ []) None (hs ++ n ∷ [])
    -- p and n
    to_lock_p : (c : Course) (p n : Hold) → Pair c → Stand N σ g o (p ∷ []) n → Permits (p ∷ n ∷ []) → Decides N σ g o n (begun c) → Acts c (items c) None (p ∷ n ∷ [])
    to_lock_n : (c : Course) (rest : List Item) (p n : Hold) → Pair c → items c ≡ lock_p ∷ lock_n ∷ rest → Stand N σ g o (p ∷ []) n → IsLocked p → IsPermit n → Decides N σ g o n (begun c)
        → Acts c (lock_n ∷ rest) None (p ∷ n ∷ [])
    to_draw_both : (c : Course) (v : ℕ) (rest : List Item) (p n : Hold) → Pair c → items c ≡ lock_p ∷ lock_n ∷ draw ∷ rest → adds c ≡ Some v → BothLocked c p n → Acts c (draw ∷ rest) None (p ∷ n ∷ [])
    to_grow : (v i : ℕ) (y : Ref) (p n : Hold) → BothLocked (grow v) p n → LeafDrawn i v → NodeDrawn (grow v) n i y
        → Acts (grow v) (write_p ∷ unlock_n_gone ∷ unlock_p ∷ []) (Some (record { leaf_slot = i; node_slot = Some y })) (p ∷ n ∷ [])
    to_cut : (v m i : ℕ) (y : Ref) (p n : Hold) → BothLocked (miss v m) p n → LeafDrawn i v → NodeDrawn (miss v m) n i y
        → Acts (miss v m) (write_n ∷ write_p ∷ unlock_n ∷ unlock_p ∷ []) (Some (record { leaf_slot = i; node_slot = Some y })) (p ∷ n ∷ [])
    to_miss : (v m i : ℕ) (y : Ref) (p n : Hold) → Cut v i p n y
        → Acts (miss v m) (write_p ∷ unlock_n ∷ unlock_p ∷ []) (Some (record { leaf_slot = i; node_slot = Some y })) (p ∷ n ∷ [])
    to_collapse : (v l j : ℕ) (p n : Hold) → BothLocked (collapse v l (leaf j)) p n → Acts (collapse v l (leaf j)) (write_p ∷ unlock_n_gone ∷ unlock_p ∷ []) None (p ∷ n ∷ [])
    to_lock_m : (v l : ℕ) (k : Kind) (j : ℕ) (p n : Hold) → BothLocked (collapse v l (node k j)) p n
        → Acts (collapse v l (node k j)) (lock_m ∷ write_m ∷ write_p ∷ unlock_m ∷ unlock_n_gone ∷ unlock_p ∷ []) None (p ∷ n ∷ [])
    to_join : (v l : ℕ) (p n m : Hold) → Joins v l p n m → Acts (collapse v l m.at) (write_m ∷ write_p ∷ unlock_m ∷ unlock_n_gone ∷ unlock_p ∷ []) None (p ∷ n ∷ m ∷ [])
    to_collapse_m : (v l : ℕ) (p n m : Hold) → Joined v l p n m → Acts (collapse v l m.at) (write_p ∷ unlock_m ∷ unlock_n_gone ∷ unlock_p ∷ []) None (p ∷ n ∷ m ∷ [])
    to_unlock_m : (c : Course) (p n m : Hold) → Pair c → IsLocked p → IsLocked n → IsLocked m → Linked (ghost g) p.at → IsRetired n.at → Linked (ghost g) m.at
        → Acts c (unlock_m ∷ unlock_n_gone ∷ unlock_p ∷ []) None (p ∷ n ∷ m ∷ [])
    to_unlock_gone : (c : Course) (p n : Hold) → Pair c → IsLocked p → IsLocked n → Linked (ghost g) p.at → IsRetired n.at → Acts c (unlock_n_gone ∷ unlock_p ∷ []) None (p ∷ n ∷ [])
    to_unlock_n : (v m : ℕ) (p n : Hold) → IsLocked p → IsLocked n → Linked (ghost g) p.at → Linked (ghost g) n.at → Acts (miss v m) (unlock_n ∷ unlock_p ∷ []) None (p ∷ n ∷ [])
    to_unlock_p : (c : Course) (p : Hold) → Pair c → IsLocked p → Linked (ghost g) p.at → Acts c (unlock_p ∷ []) None (p ∷ [])
