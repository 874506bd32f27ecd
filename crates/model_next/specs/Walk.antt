-- The walk of `next`, step by step, and what it has seen at each stage.
use Rattle.std.specs.Prelude.{◌≡◌, ℕ, zero, suc, List, [], ◌∷◌, ◌++◌, length, Some, None, Option}
use Rattle.std.specs.List.{AllByRecursion}
use Rattle.model.specs.Holds.{Grip, Hold}
use Rattle.model.specs.Refs.{Ref, root}
use Rattle.model.specs.Tree.{Tree}
use Rattle.model_next.specs.Look.{Sight, stale, back, onward, aside, got, key_sight, back_sight, down_sight, Held, taken, Saw, SawDown, Led}
use Rattle.model_next.specs.Next.{Past}

-- A take names the node to take. Going back looks at a place of the key's way. A way down remembers the place that it left the key's way at.
-- A scan has that place, the permit to check, and the result.
pub data Stage : Type 0 where
  take_key : Ref → ℕ → Stage
  check_key look_key : Stage
  look_back : ℕ → Stage
  take_down : ℕ → Ref → ℕ → Stage
  check_down look_down : ℕ → Stage
  scan : ℕ → ℕ → Option ℕ → Stage

-- the first node held, the others on the key's way, and those on the way down, oldest first
pub data Walk (H : Type 0) : Type 0 where
  start : Walk H
  on : H → List H → List H → Stage → Walk H

module _ {H : Type 0} where
  abbrev pub newest : H → List H → H
  newest h [] = h
  newest h (g ∷ hs) = newest g hs

  abbrev pub place : H → List H → ℕ → H
  place h hs zero = h
  place h [] (suc n) = h
  place h (g ∷ hs) (suc n) = place g hs n

  -- nothing at place n: to the one above, or none past the first
  abbrev pub leaves : H → List H → ℕ → Walk H
  leaves f hs zero = on f hs [] (scan 0 0 None)
  leaves f hs (suc n) = on f hs [] (look_back n)

  -- after a look at place n of the key's way
  abbrev pub looked : H → List H → ℕ → Sight → Walk H
  looked f hs n stale = start
  looked f hs n back = leaves f hs n
  looked f hs n (onward y e) = on f hs [] (take_key y e)
  looked f hs n (aside y e) = on f hs [] (take_down n y e)
  looked f hs n (got i) = on f hs [] (scan n 0 (Some i))

  abbrev pub looked_down : H → List H → List H → ℕ → Sight → Walk H
  looked_down f hs ds n stale = start
  looked_down f hs ds n back = start
  looked_down f hs ds n (onward y e) = start
  looked_down f hs ds n (aside y e) = on f hs ds (take_down n y e)
  looked_down f hs ds n (got i) = on f hs ds (scan n 0 (Some i))

  abbrev pub HeldStays : (H → Type 0) → Walk H → Type 0
  HeldStays P start = Unit {0}
  HeldStays P (on f hs ds g) = AllByRecursion P (f ∷ hs) × AllByRecursion P ds

-- a held node stands at x, with d key bytes before its prefix
abbrev pub Stands : {H : Type 0} → Held H → H → Ref → ℕ → Type 0
Stands V h x d = (V.at h ≡ x) × (V.depth h ≡ d)

-- nodes held by where they stand alone
abbrev pub plain : Held (Ref × ℕ)
plain = record { at = λ h. h.0; depth = λ h. h.1 }

-- nodes held with their permits
abbrev pub held : Held Hold
held = record { at = λ h. h.at; depth = λ h. h.depth }

abbrev pub hold : Ref → ℕ → Grip → Hold
hold x d c = record { at = x; depth = d; grip = c }

-- A step of the walk that is not refused, or a restart. A take puts in any held node that stands where it says.
pub data Goes {H : Type 0} (V : Held H) (deep : ℕ) (S : Tree) (k : List ℕ) : Walk H → Walk H → Type 0 where
  restarts : {w : Walk H} → Goes V deep S k w start
  takes_root : (h : H) → Stands V h root 0 → Goes V deep S k start (on h [] [] look_key)
  takes_key : {f : H} {hs : List H} {y : Ref} {d : ℕ} (h : H) → Stands V h y d → Goes V deep S k (on f hs [] (take_key y d)) (on f (hs ++ h ∷ []) [] check_key)
  checks_key : {f : H} {hs : List H} → Goes V deep S k (on f hs [] check_key) (on f hs [] look_key)
  looks_key : {f : H} {hs : List H} → Goes V deep S k (on f hs [] look_key) (looked f hs (length hs) (key_sight deep S k (V.at (newest f hs)) (V.depth (newest f hs))))
  looks_back : {f : H} {hs : List H} {n : ℕ}
      → Goes V deep S k (on f hs [] (look_back n)) (looked f hs n (back_sight deep S (taken V k (place f hs (suc n))) (V.at (place f hs n)) (V.depth (place f hs n))))
  takes_down : {f : H} {hs ds : List H} {n : ℕ} {y : Ref} {d : ℕ} (h : H) → Stands V h y d → Goes V deep S k (on f hs ds (take_down n y d)) (on f hs (ds ++ h ∷ []) (check_down n))
  checks_down : {f : H} {hs ds : List H} {n : ℕ} → Goes V deep S k (on f hs ds (check_down n)) (on f hs ds (look_down n))
  looks_down : {f g : H} {hs ds : List H} {n : ℕ}
      → Goes V deep S k (on f hs (g ∷ ds) (look_down n)) (looked_down f hs (g ∷ ds) n (down_sight deep S (V.at (newest g ds)) (V.depth (newest g ds))))
  scans : {f : H} {hs ds : List H} {n i : ℕ} {r : Option ℕ} → Goes V deep S k (on f hs ds (scan n i r)) (on f hs ds (scan n (suc i) r))

module _ {H : Type 0} (V : Held H) (deep : ℕ) (S : Tree) (k : List ℕ) (Ok : H → Type 0) where
  -- the key's way, whose newest node has not been looked at
  abbrev pub Links : H → List H → Type 0
  Links h [] = Unit {0}
  Links h (g ∷ hs) = (Ok h → key_sight deep S k (V.at h) (V.depth h) ≡ onward (V.at g) (V.depth g)) × Links g hs

  -- the way down, whose newest node has not been looked at
  abbrev pub DownLinks : H → List H → Type 0
  DownLinks h [] = Unit {0}
  DownLinks h (g ∷ hs) = (Ok h → down_sight deep S (V.at h) (V.depth h) ≡ aside (V.at g) (V.depth g)) × DownLinks g hs

  abbrev pub DownOpen : Sight → List H → Type 0
  DownOpen s [] = ⊥
  DownOpen s (h ∷ hs) = (s ≡ aside (V.at h) (V.depth h)) × DownLinks h hs

  -- the way down leads to y
  abbrev pub DownTo : Sight → List H → Ref → ℕ → Type 0
  DownTo s [] y e = s ≡ aside y e
  DownTo s (h ∷ hs) y e = (s ≡ aside (V.at h) (V.depth h)) × SawDown V deep S Ok h hs (aside y e)

  abbrev pub SeenAt : H → List H → List H → Stage → Type 0
  SeenAt f hs ds (take_key y d) = Saw V deep S k Ok (f ∷ hs) (length hs) (onward y d)
  SeenAt f hs ds check_key = Links f hs
  SeenAt f hs ds look_key = Links f hs
  SeenAt f hs ds (look_back n) = Saw V deep S k Ok (f ∷ hs) (suc n) back
  SeenAt f hs ds (take_down n y e) = (s : Sight) × Saw V deep S k Ok (f ∷ hs) n s × DownTo s ds y e
  SeenAt f hs ds (check_down n) = (s : Sight) × Saw V deep S k Ok (f ∷ hs) n s × DownOpen s ds
  SeenAt f hs ds (look_down n) = (s : Sight) × Saw V deep S k Ok (f ∷ hs) n s × DownOpen s ds
  SeenAt f hs ds (scan n zero r) = (s : Sight) × Saw V deep S k Ok (f ∷ hs) n s × Led V deep S Ok s ds r × Past n r
  SeenAt f hs ds (scan n (suc i) r) = Unit {0}

  abbrev pub Seen : Walk H → Type 0
  Seen start = Unit {0}
  Seen (on f hs ds g) = Stands V f root 0 × SeenAt f hs ds g

-- what a change of the tree by others leaves to a held node whose permit is sound after it
pub record Stays {H : Type 0} (V : Held H) (deep : ℕ) (k : List ℕ) (S S' : Tree) (Ok Ok' : H → Type 0) (h : H) : Type 0 where
  pub was : Ok' h → Ok h
  pub key : Ok' h → key_sight deep S' k (V.at h) (V.depth h) ≡ key_sight deep S k (V.at h) (V.depth h)
  pub back : Ok' h → (b : ℕ) → back_sight deep S' b (V.at h) (V.depth h) ≡ back_sight deep S b (V.at h) (V.depth h)
  pub down : Ok' h → down_sight deep S' (V.at h) (V.depth h) ≡ down_sight deep S (V.at h) (V.depth h)
