-- How many steps an attempt can still take.
use Rattle.std.proofs.Common.{◌≡◌, ℕ, zero, suc, ◌+◌, ◌-◌, ◌*◌, ◌<◌, ◌≤◌, Bool, true, false, cond, ◌||◌, leb, List, [], ◌∷◌, ◌++◌, length, drop, Some, None, Option, sym, refl, ap, ◌∙◌, subst, ⊎_elim, arith, length-append}
use Rattle.terms.specs.declared.Cause.{Cause}
use Rattle.latches.specs.declared.word.Meaning.{Meaning}
use Rattle.model.specs.Refs.{Ref, leaf, node, root, is}
use Rattle.model.specs.Tree.{Tree, fan, cap}
use Rattle.model.specs.Holds.{Grip, Hold}
use Rattle.model.specs.Operations as op
use Rattle.model.specs.Operations.{Operation, Task, Answer, Course, insert, grow, split, miss, in_place, collapse, items, Item, Drawn, Mode, by_key, back, down, Stage, check_p, look, check_n, act, scan, Seat, busy, Outcome, go, again, answers}
use Rattle.machine.specs.State.{State, Numbers, with}
use Rattle.machine.specs.Choices as choices
use Rattle.machine.specs.Choices.{key_byte, decided, begun}
use Rattle.machine.specs.Steps.{is_next, kept_p, after_take, pair_at, picked, Sees, Follows, Row}
use Rattle.invariant.specs.Ghosts.{Ghosts}
use Rattle.invariant.specs.Seats.{Stand, at_root, below}
use Rattle.invariant.specs.Courses.{Solo, inserting, splitting, removing, Acts}
use Rattle.invariant.specs.Nexts.{Rises, Nexts}
use Rattle.invariant.specs.Invariant.{Walks, SeatOk}
use Rattle.invariant.proofs.Setting.{Step, true_false, no_way}
use Rattle.std.specs.List.{slice_get}
use Rattle.model.specs.Sights as sight
use Rattle.model_next.specs.Look as picks
use Rattle.model_next.specs.Look.{Sight, key_sight, back_sight, down_sight}
use Rattle.model_next.specs.Walk as walk
use Rattle.model_next.proofs.Views.{down_view, back_view, picks_not, picked_not}
use Rattle.invariant.proofs.Sees.{leads_onward}
use Rattle.invariant.proofs.NextRows.{Shows, key_shows, back_shows, down_shows, newest_is, newest_append, picks_back}

-- the depth of the newest entry
abbrev pub lowest : List Hold → ℕ
lowest [] = 0
lowest (f ∷ hs) = (walk.newest f hs).depth

-- the steps that may follow once the way that is gone now has come to its end
abbrev pub beyond : ℕ → Mode → ℕ
beyond deep by_key = 6 * deep + 3
beyond deep (back i) = i + 5 * deep + 3
beyond deep (down at keys) = 2 * deep

-- each level takes three steps; a course has its items, a scan what is held
abbrev pub left_at : ℕ → Mode → List Hold → Stage → ℕ
left_at deep m hs (op.take y d) = 3 * (deep - d) + beyond deep m + 3
left_at deep m hs check_p = 3 * (deep - lowest hs) + beyond deep m + 2
left_at deep m hs look = 3 * (deep - lowest hs) + beyond deep m + 1
left_at deep m hs (check_n a) = 1
left_at deep m hs (act c is d) = length is
left_at deep m hs (scan i a) = length hs - i

-- the steps that an attempt can still take at most: each is a step that goes on, but for the last
abbrev pub left : ℕ → Operation → ℕ
left deep o = left_at deep o.mode o.held o.stage

-- a list whose depths rise is no longer than they do
rises_length : (lo : ℕ) (hs : List Hold) (hi : ℕ) → Rises lo hs hi → length hs + lo ≤ hi
rises_length lo [] hi r = omega (arith, r)
rises_length lo (h ∷ hs) hi r = let q = rises_length (suc h.depth) hs hi r.1 in omega (arith, r.0, q)

lowest_end : (hs : List Hold) (n : Hold) → lowest (hs ++ n ∷ []) ≡ n.depth
lowest_end [] n = refl
lowest_end (f ∷ hs) n = ap (λ (h : Hold). h.depth) (newest_append f hs n [])

-- the newest entry is the last one
lowest_last : (hs : List Hold) (n : Hold) → slice_get hs (length hs - 1) ≡ Some n → lowest hs ≡ n.depth
lowest_last [] n q = no_way cc
lowest_last (f ∷ hs) n q = ap (λ (h : Hold). h.depth) (newest_is f hs n q)

lowest_drop : (m : ℕ) (hs : List Hold) → m < length hs → lowest (drop m hs) ≡ lowest hs
lowest_drop zero hs l = refl
lowest_drop (suc m) [] l = absurd (omega (arith, l))
lowest_drop (suc m) (f ∷ []) l = absurd (omega (arith, l))
lowest_drop (suc m) (f ∷ g ∷ hs) l = lowest_drop m (g ∷ hs) (omega (arith, l))

lowest_two : (hs : List Hold) → lowest (drop (length hs - 2) hs) ≡ lowest hs
lowest_two [] = refl
lowest_two (f ∷ hs) = lowest_drop (length (f ∷ hs) - 2) (f ∷ hs) (omega arith)

lowest_kept : (t : Task) (hs : List Hold) → lowest (kept_p t hs) ≡ lowest hs
lowest_kept op.find hs = lowest_two hs
lowest_kept op.remove hs = lowest_two hs
lowest_kept op.next hs = refl
lowest_kept (op.add v) hs = lowest_two hs

items_some : (c : Course) → 1 ≤ length (items c)
items_some (insert v) = omega arith
items_some (grow v) = omega arith
items_some (split v j) = omega arith
items_some (miss v i) = omega arith
items_some (in_place v l) = omega arith
items_some (collapse v l (leaf i)) = omega arith
items_some (collapse v l (node k i)) = omega arith

items_few : (c : Course) → length (items c) ≤ 8
items_few (insert v) = omega arith
items_few (grow v) = omega arith
items_few (split v j) = omega arith
items_few (miss v i) = omega arith
items_few (in_place v l) = omega arith
items_few (collapse v l (leaf i)) = omega arith
items_few (collapse v l (node k i)) = omega arith

-- what a look decides on takes eight steps at most
module _ (deep : ℕ) (m : Mode) (hs : List Hold) where
  abbrev Few : Option Stage → Type 0
  Few None = Unit {0}
  Few (Some k) = left_at deep m hs k ≤ 8

  removing_few : (b : Bool) (v l : ℕ) (x : Option Ref) → Few (cond b (Some (begun (in_place v l))) (choices.collapsing v l x))
  removing_few true v l x = omega arith
  removing_few false v l None = tt
  removing_few false v l (Some x) = items_few (collapse v l x)

  decided_few : (S : Tree) (key : List ℕ) (n : Hold) (t : Task) (r : sight.Seen) → Few (decided S key n t r)
  decided_few S key n op.find sight.stale = tt
  decided_few S key n op.find sight.empty = omega arith
  decided_few S key n op.find (sight.missed i) = omega arith
  decided_few S key n op.find (sight.other l) = omega arith
  decided_few S key n op.find (sight.same_key l v) = omega arith
  decided_few S key n op.find (sight.onward y d) = tt
  decided_few S key n (op.add v) sight.stale = tt
  decided_few S key n (op.add v) sight.empty = items_few (cond (leb (cap n.at) (fan S n.at)) (grow v) (insert v))
  decided_few S key n (op.add v) (sight.missed i) = omega arith
  decided_few S key n (op.add v) (sight.other l) = omega arith
  decided_few S key n (op.add v) (sight.same_key l w) = omega arith
  decided_few S key n (op.add v) (sight.onward y d) = tt
  decided_few S key n op.remove sight.stale = tt
  decided_few S key n op.remove sight.empty = omega arith
  decided_few S key n op.remove (sight.missed i) = omega arith
  decided_few S key n op.remove (sight.other l) = omega arith
  decided_few S key n op.remove (sight.same_key l v) = removing_few (is n.at root || leb 2 (fan S n.at - 1)) v l (choices.left S n.at (key_byte S key n))
  decided_few S key n op.remove (sight.onward y d) = tt
  decided_few S key n op.next r = tt

-- where a step leads
moved : (deep bound : ℕ) (o u : Operation) (m : Mode) (hs : List Hold) (k : Stage) → with o m hs k ≡ busy u → left_at deep m hs k < bound → left deep u < bound
moved deep bound o u m hs k e l =
    let p : record { task = o.task; key = o.key; begun = o.begun; restarts = o.restarts; mode = m; held = hs; stage = k } ≡ u = cc in
    subst (λ (v : Operation). left deep v < bound) p l

-- after a look of next
picked_less : (deep bound : ℕ) (S : Tree) (o u : Operation) (x : Hold) (j keys : ℕ) (v : Sight) → Shows deep S x v → picked S o j keys v ≡ Some (busy u)
    → length o.held < bound
    → ((i : ℕ) → v ≡ picks.back → j ≡ suc i → 3 * (deep - lowest o.held) + (i + 5 * deep + 3) + 1 < bound)
    → ((y : Ref) (e : ℕ) → v ≡ picks.onward y e → x.depth < e → e ≤ deep → 3 * (deep - e) + (6 * deep + 3) + 3 < bound)
    → ((y : Ref) (e : ℕ) → v ≡ picks.aside y e → x.depth < e → e ≤ deep → 3 * (deep - e) + 2 * deep + 3 < bound)
    → left deep u < bound
picked_less deep bound S o u x j keys picks.stale s p l b c d = no_way cc
picked_less deep bound S o u x zero keys picks.back s p l b c d = moved deep bound o u by_key o.held (scan 0 op.none) (cc) (omega (arith, l))
picked_less deep bound S o u x (suc j) keys picks.back s p l b c d = moved deep bound o u (back j) o.held look (cc) (b j refl refl)
picked_less deep bound S o u x j keys (picks.onward y e) s p l b c d = moved deep bound o u by_key o.held (op.take y e) (cc) (c y e refl s.deeper s.within)
picked_less deep bound S o u x j keys (picks.aside y e) s p l b c d = moved deep bound o u (down j keys) o.held (op.take y e) (cc) (d y e refl s.deeper s.within)
picked_less deep bound S o u x j keys (picks.got i) s p l b c d = moved deep bound o u o.mode o.held (scan 0 (pair_at S i)) (cc) (omega (arith, l))

module _ {N : Numbers} {σ : State} {g : Ghosts} {o : Operation} where
  pick_falls : (u : Operation) (m : Mode) (hs : List Hold) (k : Stage) → Nexts N σ g o m hs k → k ≡ look → m ≡ o.mode → hs ≡ o.held → (n : Hold) (j keys : ℕ) (v : Sight) → Sees N σ.tree o n j keys v
      → picked σ.tree o j keys v ≡ Some (busy u) → left N.deep u < left_at N.deep m hs look
  pick_falls u _ _ _ Nexts.starts q me he x j keys v se p = no_way cc
  pick_falls u _ _ _ (Nexts.take_key f hs y d w r l i) q me he x j keys v se p = no_way cc
  pick_falls u _ _ _ (Nexts.check_key f h hs w r) q me he x j keys v se p = no_way cc
  pick_falls u _ _ _ (Nexts.look_key f hs w r) q me he _ _ _ _ (Sees.along x m b) p =
      let L = N.deep in
      let a : (walk.newest f hs).depth ≡ lowest o.held = ap lowest he in
      let c = lowest_last o.held x b in
      let s : suc (length hs) ≡ length o.held = ap length he in
      let t = rises_length 0 (f ∷ hs) (suc L) r in
      picked_less L (left_at L by_key (f ∷ hs) look) σ.tree o u x (length o.held - 1) (length o.held) (key_sight L σ.tree o.key x.at x.depth) (key_shows L σ.tree o.key x) p
      (omega (arith, s, t))
      (λ i z e. omega (arith, s, t, a, e))
      (λ y e z h l. omega (arith, a, c, h, l))
      (λ y e z h l. omega (arith, a, c, h, l))
  pick_falls u _ _ _ (Nexts.look_key f hs w r) q me he _ _ _ _ (Sees.going_back j x y m b c) p = no_way cc
  pick_falls u _ _ _ (Nexts.look_key f hs w r) q me he _ _ _ _ (Sees.going_down at keys x m b) p = no_way cc
  pick_falls u _ _ _ (Nexts.look_back f hs n w r l) q me he _ _ _ _ (Sees.along x m b) p = no_way cc
  pick_falls u _ _ _ (Nexts.look_back f hs n w r l) q me he _ _ _ _ (Sees.going_back j x y m b c) p =
      let L = N.deep in
      let i : j ≡ n = cc in
      let a : (walk.newest f hs).depth ≡ lowest o.held = ap lowest he in
      let s : suc (length hs) ≡ length o.held = ap length he in
      let t = rises_length 0 (f ∷ hs) L r in
      let byte = picks.taken walk.held o.key y in
      picked_less L (left_at L (back n) (f ∷ hs) look) σ.tree o u x j (length o.held) (back_sight L σ.tree byte x.at x.depth) (back_shows L σ.tree o.key x byte) p
      (omega (arith, s, t))
      (λ k z e. omega (arith, a, e, i))
      (λ y e z h l. absurd (picked_not (picks.past σ.tree x.at byte) _ y e (back_view L σ.tree byte x.at x.depth (picks.onward y e) z (λ q. no_way cc))))
      (λ y e z h l. omega (arith, h, l))
  pick_falls u _ _ _ (Nexts.look_back f hs n w r l) q me he _ _ _ _ (Sees.going_down at keys x m b) p = no_way cc
  pick_falls u _ _ _ (Nexts.take_down f hs ds n y d w r r' l i nr) q me he x j keys v se p = no_way cc
  pick_falls u _ _ _ (Nexts.check_down f hs h ds n w r r' l) q me he x j keys v se p = no_way cc
  pick_falls u _ _ _ (Nexts.look_down f hs h ds n w r r' l) q me he _ _ _ _ (Sees.along x m b) p = no_way cc
  pick_falls u _ _ _ (Nexts.look_down f hs h ds n w r r' l) q me he _ _ _ _ (Sees.going_back j x y m b c) p = no_way cc
  pick_falls u _ _ _ (Nexts.look_down f hs h ds n w r r' l) q me he _ _ _ _ (Sees.going_down at keys x m b) p =
      let L = N.deep in
      let a : lowest (f ∷ hs ++ h ∷ ds) ≡ lowest o.held = ap lowest he in
      let c = lowest_last o.held x b in
      let s : length (f ∷ hs ++ h ∷ ds) ≡ length o.held = ap length he in
      let t = rises_length 0 (f ∷ hs) L r in
      let t' = rises_length 1 (h ∷ ds) (suc L) r' in
      let z = length-append (f ∷ hs) (h ∷ ds) in
      picked_less L (left_at L (down n (suc (length hs))) (f ∷ hs ++ h ∷ ds) look) σ.tree o u x at keys (down_sight L σ.tree x.at x.depth) (down_shows L σ.tree o.key x) p
      (omega (arith, s, t, t', z))
      (λ k e j. let w = down_view L σ.tree x.at x.depth picks.back e (λ q. no_way cc) in absurd (picks_back w.1 _ w.3))
      (λ y d e h l. let w = down_view L σ.tree x.at x.depth (picks.onward y d) e (λ q. no_way cc) in absurd (picks_not w.1 _ y d w.3))
      (λ y e z h l. omega (arith, a, c, h, l))
  pick_falls u _ _ _ (Nexts.scans m f hs ds n i d y w r r' sa l) q me he x j keys v se p = no_way cc

take_falls : (deep : ℕ) (b : Bool) (m : Mode) (hs : List Hold) (n : Hold) → left_at deep m (hs ++ n ∷ []) (cond b look check_p) < left_at deep m hs (op.take n.at n.depth)
take_falls deep true m hs n = omega (arith, lowest_end hs n)
take_falls deep false m hs n = omega (arith, lowest_end hs n)

again_go : {P : Type 0} (r : Outcome) (c : Cause) (x : Ref) (d : ℕ) → r ≡ again c x d → r ≡ go → P
again_go r c x d a b = no_way cc

answers_go : {P : Type 0} (r : Outcome) (a : Answer) → r ≡ answers a → r ≡ go → P
answers_go r a b c = no_way cc

module _ (N : Numbers) (o : Operation) where
  -- from this stage
  from : (k : Stage) (u : Operation) → o.stage ≡ k → left N.deep u < left_at N.deep o.mode o.held k → left N.deep u < left N.deep o
  from k u q l = subst (λ (j : Stage). left N.deep u < left_at N.deep o.mode o.held j) (sym q) l

  -- by this step
  to : (k j : Stage) (m : Mode) (hs : List Hold) (u : Operation) → o.stage ≡ k → with o m hs j ≡ busy u → left_at N.deep m hs j < left_at N.deep o.mode o.held k → left N.deep u < left N.deep o
  to k j m hs u q e l = from k u q (moved N.deep (left_at N.deep o.mode o.held k) o u m hs j e l)

module _ {N : Numbers} {Key : List ℕ → Type 0} {σ : State} {g : Ghosts} {s : ℕ} {o : Operation} (ok : SeatOk N Key σ g s o) where
  by_walk : is_next o.task ≡ false → o.mode ≡ by_key
  by_walk t = ⊎_elim (λ w. w.1) (λ w. true_false (is_next o.task) (ap is_next w.0) t) ok.doing

  nexts_of : is_next o.task ≡ true → Nexts N σ g o o.mode o.held o.stage
  nexts_of t = ⊎_elim (λ w. true_false (is_next o.task) t w.0) (λ w. w.1) ok.doing

follow_falls : (N : Numbers) (o : Operation) {τ : State} {z : Seat} {r : Outcome} (u : Operation) (c : Course) (a : Item) (rest : List Item) (d d' : Option Drawn) (f : Ref → Meaning) (hs : List Hold) → o.stage ≡ act c (a ∷ rest) d
    → Follows o τ c f hs d' rest z r → z ≡ busy u → r ≡ go → left N.deep u < left N.deep o
follow_falls N o u c a _ d d' f hs q (Follows.more {a = b} {rest} w) e _ = to N o (act c (a ∷ b ∷ rest) d) (act c (b ∷ rest) d') o.mode hs u q e (omega arith)
follow_falls N o u c a _ d d' f hs q (Follows.over w) e h = answers_go _ _ w.outcome h

module _ {N : Numbers} {Key : List ℕ → Type 0} {σ τ : State} {g : Ghosts} {s : ℕ} {o : Operation} (ok : SeatOk N Key σ g s o) (some : 0 < N.deep) where
  row_falls : {z : Seat} {r : Outcome} (u : Operation) → Row N σ τ o z r → z ≡ busy u → r ≡ go → left N.deep u < left N.deep o
  row_falls u (Row.takes x d q a b w) e h =
      let n : Hold = walk.hold x d (Grip.Permit (σ.words x).count (N.weight o.restarts)) in
      to N o (op.take x d) (after_take x) o.mode (o.held ++ n ∷ []) u q e (take_falls N.deep (is x root) o.mode o.held n)
  row_falls u (Row.takes_not x d c q a b) e h = again_go _ c x d b.outcome h
  row_falls u (Row.checks_p x q a b c w) e h = to N o check_p look o.mode (kept_p o.task o.held) u q e (omega (arith, lowest_kept o.task o.held))
  row_falls u (Row.checks_p_not x c q a b w) e h = again_go _ c x.at x.depth w.outcome h
  row_falls u (Row.looks_on hs n y d q a b c f w) e h =
      let l : lowest o.held ≡ n.depth = ap lowest b ∙ lowest_end hs n in
      let t = leads_onward N.deep σ.tree o.key n.at n.depth y d c in
      to N o look (op.take y d) o.mode o.held u q e (omega (arith, l, t.deeper, t.within))
  row_falls u (Row.looks_decides hs n k q a b c f w) e h =
      let t = subst (λ (x : Option Stage). Few N.deep o.mode o.held x) c (decided_few N.deep o.mode o.held σ.tree o.key n o.task _) in
      let m : beyond N.deep o.mode ≡ 6 * N.deep + 3 = ap (beyond N.deep) (by_walk ok a) in
      to N o look k o.mode o.held u q e (omega (arith, t, m, some))
  row_falls u (Row.looks_stale hs n q a b c w) e h = again_go _ _ n.at n.depth w.outcome h
  row_falls u (Row.checks_n a hs n q b c f w) e h = answers_go _ a w.outcome h
  row_falls u (Row.checks_n_not a hs n c q b f w) e h = again_go _ c n.at n.depth w.outcome h
  row_falls u (Row.picks_on n j keys v q a b c f w) e h = from N o look u q (pick_falls u o.mode o.held o.stage (nexts_of ok a) q refl refl n j keys v b (c ∙ ap Some e))
  row_falls u (Row.picks_stale n j keys q a b w) e h = again_go _ _ n.at n.depth w.outcome h
  row_falls u (Row.scans i a k q b c l f w) e h = to N o (scan i a) (scan (suc i) a) o.mode o.held u q e (omega (arith, l))
  row_falls u (Row.scans_last i a k q b c l f w) e h = answers_go _ a w.outcome h
  row_falls u (Row.scans_not i a k c q b f w) e h = again_go _ c k.at k.depth w.outcome h
  row_falls u (Row.acts c a rest d d' f hs q b w) e h = follow_falls N o u c a rest d d' f hs q w e h
  row_falls u (Row.acts_not c a rest d x y i q b w) e h = again_go _ x y i w.outcome h
  row_falls u (Row.no_room c rest d n q a b f w) e h = answers_go _ _ w.outcome h

-- each step that goes on leaves fewer
pub falls : {N : Numbers} {Key : List ℕ → Type 0} {σ τ : State} {g : Ghosts} {s : ℕ} {o u : Operation} {r : Outcome} → Step N Key σ τ g s o (busy u) r → Row N σ τ o (busy u) r → r ≡ go → left N.deep u < left N.deep o
falls {s = s} {o} {u} st w e = row_falls (st.inv.seats s o st.was) st.lawful.deep u w refl e

solo_few : (c : Course) → Solo c → length (items c) ≤ 4
solo_few _ (inserting v) = omega arith
solo_few _ (splitting v j) = omega arith
solo_few _ (removing v l) = omega arith

module _ {N : Numbers} {σ : State} {g : Ghosts} {o : Operation} where
  -- below a node there is some depth
  stand_deep : (hs : List Hold) (p n : Hold) → Stand N σ g o hs n → hs ≡ p ∷ [] → 1 ≤ N.deep
  stand_deep _ p _ (at_root n e d q) f = no_way cc
  stand_deep _ p _ (below r n a q) f = omega (arith, a.deeper, a.within)

module _ {N : Numbers} {Key : List ℕ → Type 0} {σ : State} {g : Ghosts} {s : ℕ} {o : Operation} where
  acts_some : (c : Course) (is : List Item) (d : Option Drawn) (hs : List Hold) → Acts N Key σ g s o c is d hs → 1 ≤ length is
  acts_some _ _ _ _ (Acts.to_lock c hs k so st pe de) = items_some c
  acts_some _ _ _ _ (Acts.to_draw c w hs k so ad ol) = omega arith
  acts_some _ _ _ _ (Acts.to_insert w j hs k ol ld) = omega arith
  acts_some _ _ _ _ (Acts.to_split w j u y hs k ol ld nd) = omega arith
  acts_some _ _ _ _ (Acts.to_remove w j hs k ol) = omega arith
  acts_some _ _ _ _ (Acts.to_unlock c hs k so pe lo li) = omega arith
  acts_some _ _ _ _ (Acts.to_lock_p c q k pa st pe de) = items_some c
  acts_some _ _ _ _ (Acts.to_lock_n c is q k pa it st lo pe de) = omega arith
  acts_some _ _ _ _ (Acts.to_draw_both c w is q k pa it ad bl) = omega arith
  acts_some _ _ _ _ (Acts.to_grow w j y q k bl ld nd) = omega arith
  acts_some _ _ _ _ (Acts.to_cut w i j y q k bl ld nd) = omega arith
  acts_some _ _ _ _ (Acts.to_miss w i j y q k cu) = omega arith
  acts_some _ _ _ _ (Acts.to_collapse w j i q k bl) = omega arith
  acts_some _ _ _ _ (Acts.to_lock_m w j kd i q k bl) = omega arith
  acts_some _ _ _ _ (Acts.to_join w j q k n jo) = omega arith
  acts_some _ _ _ _ (Acts.to_collapse_m w j q k n jo) = omega arith
  acts_some _ _ _ _ (Acts.to_unlock_m c q k n pa lp lk lm ip re im) = omega arith
  acts_some _ _ _ _ (Acts.to_unlock_gone c q k pa lp lk ip re) = omega arith
  acts_some _ _ _ _ (Acts.to_unlock_n w i q k lp lk ip ik) = omega arith
  acts_some _ _ _ _ (Acts.to_unlock_p c q pa lp ip) = omega arith

  acts_most : (c : Course) (is : List Item) (d : Option Drawn) (hs : List Hold) → Acts N Key σ g s o c is d hs → length is ≤ 9 * N.deep + 6
  acts_most _ _ _ _ (Acts.to_lock c hs k so st pe de) = omega (arith, solo_few c so)
  acts_most _ _ _ _ (Acts.to_draw c w hs k so ad ol) = omega arith
  acts_most _ _ _ _ (Acts.to_insert w j hs k ol ld) = omega arith
  acts_most _ _ _ _ (Acts.to_split w j u y hs k ol ld nd) = omega arith
  acts_most _ _ _ _ (Acts.to_remove w j hs k ol) = omega arith
  acts_most _ _ _ _ (Acts.to_unlock c hs k so pe lo li) = omega arith
  acts_most _ _ _ _ (Acts.to_lock_p c q k pa st pe de) = omega (arith, items_few c, stand_deep (q ∷ []) q k st refl)
  acts_most _ _ _ _ (Acts.to_lock_n c is q k pa it st lo pe de) = let l : length (items c) ≡ suc (suc (length is)) = ap length it in omega (arith, l, items_few c, stand_deep (q ∷ []) q k st refl)
  acts_most _ _ _ _ (Acts.to_draw_both c w is q k pa it ad bl) = let l : length (items c) ≡ suc (suc (suc (length is))) = ap length it in omega (arith, l, items_few c)
  acts_most _ _ _ _ (Acts.to_grow w j y q k bl ld nd) = omega arith
  acts_most _ _ _ _ (Acts.to_cut w i j y q k bl ld nd) = omega arith
  acts_most _ _ _ _ (Acts.to_miss w i j y q k cu) = omega arith
  acts_most _ _ _ _ (Acts.to_collapse w j i q k bl) = omega arith
  acts_most _ _ _ _ (Acts.to_lock_m w j kd i q k bl) = omega arith
  acts_most _ _ _ _ (Acts.to_join w j q k n jo) = omega arith
  acts_most _ _ _ _ (Acts.to_collapse_m w j q k n jo) = omega arith
  acts_most _ _ _ _ (Acts.to_unlock_m c q k n pa lp lk lm ip re im) = omega arith
  acts_most _ _ _ _ (Acts.to_unlock_gone c q k pa lp lk ip re) = omega arith
  acts_most _ _ _ _ (Acts.to_unlock_n w i q k lp lk ip ik) = omega arith
  acts_most _ _ _ _ (Acts.to_unlock_p c q pa lp ip) = omega arith

  walk_some : (hs : List Hold) (k : Stage) → Walks N Key σ g s o hs k → 1 ≤ left_at N.deep by_key hs k
  walk_some _ _ Walks.starts = omega arith
  walk_some _ _ (Walks.to_take hs p y d m pe ab) = omega arith
  walk_some _ _ (Walks.to_check_p hs p n m pe ab) = omega arith
  walk_some _ _ (Walks.to_look hs n a pe) = omega arith
  walk_some _ _ (Walks.to_check_n hs n b a pe d) = omega arith
  walk_some hs _ (Walks.acts c is d a) = acts_some c is d hs a

  walk_most : (hs : List Hold) (k : Stage) → Walks N Key σ g s o hs k → left_at N.deep by_key hs k ≤ 9 * N.deep + 6
  walk_most _ _ Walks.starts = omega arith
  walk_most _ _ (Walks.to_take hs p y d m pe ab) = omega arith
  walk_most _ _ (Walks.to_check_p hs p n m pe ab) = omega arith
  walk_most _ _ (Walks.to_look hs n a pe) = omega arith
  walk_most _ _ (Walks.to_check_n hs n b a pe d) = omega arith
  walk_most hs _ (Walks.acts c is d a) = acts_most c is d hs a

module _ {N : Numbers} {σ : State} {g : Ghosts} {o : Operation} where
  next_some : (m : Mode) (hs : List Hold) (k : Stage) → Nexts N σ g o m hs k → 1 ≤ left_at N.deep m hs k
  next_some _ _ _ Nexts.starts = omega arith
  next_some _ _ _ (Nexts.take_key f hs y d w r l i) = omega arith
  next_some _ _ _ (Nexts.check_key f h hs w r) = omega arith
  next_some _ _ _ (Nexts.look_key f hs w r) = omega arith
  next_some _ _ _ (Nexts.look_back f hs n w r l) = omega arith
  next_some _ _ _ (Nexts.take_down f hs ds n y d w r r' l i nr) = omega arith
  next_some _ _ _ (Nexts.check_down f hs h ds n w r r' l) = omega arith
  next_some _ _ _ (Nexts.look_down f hs h ds n w r r' l) = omega arith
  next_some _ _ _ (Nexts.scans m f hs ds n i d y w r r' sa l) = omega (arith, l)

  next_most : (m : Mode) (hs : List Hold) (k : Stage) → Nexts N σ g o m hs k → left_at N.deep m hs k ≤ 9 * N.deep + 6
  next_most _ _ _ Nexts.starts = omega arith
  next_most _ _ _ (Nexts.take_key f hs y d w r l i) = omega arith
  next_most _ _ _ (Nexts.check_key f h hs w r) = omega arith
  next_most _ _ _ (Nexts.look_key f hs w r) = omega arith
  next_most _ _ _ (Nexts.look_back f hs n w r l) = omega (arith, l, rises_length 0 (f ∷ hs) N.deep r)
  next_most _ _ _ (Nexts.take_down f hs ds n y d w r r' l i nr) = omega arith
  next_most _ _ _ (Nexts.check_down f hs h ds n w r r' l) = omega arith
  next_most _ _ _ (Nexts.look_down f hs h ds n w r r' l) = omega arith
  next_most _ _ _ (Nexts.scans m f hs ds n i d y w r r' sa l) = omega (arith, length-append (f ∷ hs) ds, rises_length 0 (f ∷ hs) N.deep r, rises_length 1 ds N.deep r')

pub some_left : {N : Numbers} {Key : List ℕ → Type 0} {σ : State} {g : Ghosts} {s : ℕ} {o : Operation} → SeatOk N Key σ g s o → 1 ≤ left N.deep o
some_left {N} {Key} {σ} {g} {s} {o} ok = ⊎_elim
    (λ w. subst (λ (m : Mode). 1 ≤ left_at N.deep m o.held o.stage) (sym w.1) (walk_some o.held o.stage w.2))
    (λ w. next_some o.mode o.held o.stage w.1) ok.doing

pub most_left : {N : Numbers} {Key : List ℕ → Type 0} {σ : State} {g : Ghosts} {s : ℕ} {o : Operation} → SeatOk N Key σ g s o → left N.deep o ≤ 9 * N.deep + 6
most_left {N} {Key} {σ} {g} {s} {o} ok = ⊎_elim
    (λ w. subst (λ (m : Mode). left_at N.deep m o.held o.stage ≤ 9 * N.deep + 6) (sym w.1) (walk_most o.held o.stage w.2))
    (λ w. next_most o.mode o.held o.stage w.1) ok.doing
