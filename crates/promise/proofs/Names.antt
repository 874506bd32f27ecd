-- Which steps of a run are named, and that they stay so.
use Rattle.std.proofs.Common.{◌≡◌, ℕ, zero, suc, ◌-◌, ◌<◌, ◌≤◌, Bool, true, false, cond, ◌||◌, eqb, leb, ◌⊎◌, List, [], ◌∷◌, ◌++◌, length, Some, None, Option, sym, refl, ap, ◌∙◌, subst, ap₂, inl, inr, ⊎_elim, arith, length-append}
use Rattle.std.proofs.lemmas.Bool.{eqb-true, eqb-false, eq-eqb, ne_eqb, cases_eq}
use Rattle.latches.specs.declared.word.Meaning.{Meaning}
use Rattle.terms.specs.declared.Cause.{Cause}
use Rattle.model.specs.Refs.{Ref, leaf, node, root, is}
use Rattle.model.specs.Tree.{Tree, cap, fan}
use Rattle.model.specs.Holds.{Hold}
use Rattle.model.specs.Operations as op
use Rattle.model.specs.Operations.{Operation, Task, Answer, Course, course_answer, Item, Drawn, Stage, act, scan, Seat, closed, idle, busy, Outcome, go, again, answers}
use Rattle.model.specs.Sights as sight
use Rattle.model.specs.Sights.{Seen}
use Rattle.model_next.specs.Look as picks
use Rattle.machine.specs.State.{State, Numbers, Restarts}
use Rattle.machine.specs.Choices as choices
use Rattle.machine.specs.Choices.{decided, begun, left, key_byte}
use Rattle.machine.specs.Items.{Does, Plain}
use Rattle.machine.specs.Steps.{Row, Refuses, Follows, picked}
use Rattle.machine.specs.Calls.{Call, Reply, ok, came, swept, refused, Accepted, Turns, started, Did}
use Rattle.machine.specs.Runs.{Event, made, on, history}
use Rattle.machine.specs.Told.{sweeps_of, Told, shut, free, asked, again_asked, stepped, turned, told, Agrees}
use Rattle.runs.specs.Runs.{Run}
use Rattle.runs.specs.Named.{Feed, Names, nothing, itself, first_check, item_names, row_names, is_first_check, feed, named_by, checked_at, named}
use Rattle.runs.proofs.Telling.{histories_tell_lem}
use Rattle.invariant.specs.Ghosts.{Ghosts}
use Rattle.invariant.specs.Courses.{Solo, inserting, splitting, removing, Pair, growing, missing, collapsing, Acts}
use Rattle.invariant.specs.Invariant.{Lawful, SeatOk}
use Rattle.invariant.proofs.Setting.{no_way}
use Rattle.invariant.proofs.Locking.{acting}
use Rattle.invariant.proofs.Steps.{last_item}
use Rattle.invariant.proofs.Runs.{KeyOf, good_run}
use Rattle.promise.specs.Answers.{StepAt}

-- the ends of a list that have one length are the same
same_end : {A : Type 0} (l m : List A) (x y : A) (u v : List A) → l ++ x ∷ u ≡ m ++ y ∷ v → length u ≡ length v → (x ≡ y) × (u ≡ v)
same_end [] [] x y u v e n = ((cc), (cc))
same_end [] (a ∷ m) x y u v e n = let q : u ≡ m ++ y ∷ v = cc in absurd (omega (arith, ap length q, length-append m (y ∷ v)))
same_end (a ∷ l) [] x y u v e n = let q : l ++ x ∷ u ≡ v = cc in absurd (omega (arith, ap length q, length-append l (x ∷ u)))
same_end (a ∷ l) (b ∷ m) x y u v e n = same_end l m x y u v (cc) n

module _ {K : Type 0} where
  -- a step of the seat s that came to r
  abbrev the_step : ℕ → Outcome → Event K
  the_step s r = record { call = Call.step s; reply = came r }

  -- what a seat was asked, with b calls before, whatever the sweeps and restarts
  abbrev AskedAt : Told K → Task → K → ℕ → Type 0
  AskedAt w t k b = (d : ℕ) × (i : ℕ) × (w ≡ asked t k b d i)

  -- it was asked the same before it started again
  again_back : (w : Told K) (t : Task) (k : K) (b e n : ℕ) → again_asked w ≡ asked t k b e n → AskedAt w t k b
  again_back shut t k b e n q = no_way cc
  again_back free t k b e n q = no_way cc
  again_back (asked g j c d i) t k b e n q = (d, i, (cc))

  -- and before a step
  stepped_back : (r : Outcome) (w : Told K) (t : Task) (k : K) (b e n : ℕ) → stepped r w ≡ asked t k b e n → AskedAt w t k b
  stepped_back go w t k b e n q = (e, n, q)
  stepped_back (again c x d) w t k b e n q = again_back w t k b e n q
  stepped_back (answers a) w t k b e n q = no_way cc

  -- who was asked is asked still, or is asked just now
  turned_asked : (c : Call K) (p : Reply) (m y s : ℕ) (w : Told K) (t : Task) (k : K) (b e n : ℕ) → turned c p m y s w ≡ asked t k b e n → AskedAt w t k b ⊎ ((b ≡ m) × (c ≡ Call.begin s t k))
  turned_asked (Call.open_seat u) ok m y s w t k b e n q = by (eqb s u) q
    where
      by : (x : Bool) → cond x free w ≡ asked t k b e n → AskedAt w t k b ⊎ ((b ≡ m) × (◌≡◌ {A = Call K} (Call.open_seat u) (Call.begin s t k)))
      by true f = no_way cc
      by false f = inl (e, n, f)
  turned_asked (Call.close_seat u) ok m y s w t k b e n q = by (eqb s u) q
    where
      by : (x : Bool) → cond x shut w ≡ asked t k b e n → AskedAt w t k b ⊎ ((b ≡ m) × (◌≡◌ {A = Call K} (Call.close_seat u) (Call.begin s t k)))
      by true f = no_way cc
      by false f = inl (e, n, f)
  turned_asked (Call.step u) ok m y s w t k b e n q = inl (e, n, q)
  turned_asked (Call.begin u g j) ok m y s w t k b e n q = by (eqb s u) refl q
    where
      by : (x : Bool) → eqb s u ≡ x → cond x (asked g j m y 0) w ≡ asked t k b e n → AskedAt w t k b ⊎ ((b ≡ m) × (Call.begin u g j ≡ Call.begin s t k))
      by true f h = let v = eqb-true s u f in inr ((cc), (cc))
      by false f h = inl (e, n, h)
  turned_asked Call.sweep ok m y s w t k b e n q = inl (e, n, q)
  turned_asked (Call.open_seat u) (came r) m y s w t k b e n q = inl (e, n, q)
  turned_asked (Call.close_seat u) (came r) m y s w t k b e n q = inl (e, n, q)
  turned_asked (Call.step u) (came r) m y s w t k b e n q = by (eqb s u) q
    where
      by : (x : Bool) → cond x (stepped r w) w ≡ asked t k b e n → AskedAt w t k b ⊎ ((b ≡ m) × (◌≡◌ {A = Call K} (Call.step u) (Call.begin s t k)))
      by true f = inl (stepped_back r w t k b e n f)
      by false f = inl (e, n, f)
  turned_asked (Call.begin u g j) (came r) m y s w t k b e n q = inl (e, n, q)
  turned_asked Call.sweep (came r) m y s w t k b e n q = inl (e, n, q)
  turned_asked c (swept x) m y s w t k b e n q = inl (e, n, q)
  turned_asked c (refused x) m y s w t k b e n q = inl (e, n, q)

  -- an operation is open since before now
  told_since : (h : List (Event K)) (s : ℕ) (t : Task) (k : K) (b e n : ℕ) → told h s ≡ asked t k b e n → b < length h
  told_since [] s t k b e n q = no_way cc
  told_since (a ∷ h) s t k b e n q =
      ⊎_elim (λ x. let l = told_since h s t k b x.0 x.1 x.2 in omega (arith, l)) (λ x. let l = x.0 in omega (arith, l)) (turned_asked a.call a.reply (length h) (sweeps_of h) s (told h s) t k b e n q)

  -- two seats have two operations
  told_apart : (h : List (Event K)) (s u : ℕ) (t q : Task) (k j : K) (b e n d m : ℕ) → told h s ≡ asked t k b e n → told h u ≡ asked q j b d m → s ≡ u
  told_apart [] s u t q k j b e n d m f g = no_way cc
  told_apart (a ∷ h) s u t q k j b e n d m f g = ⊎_elim
      (λ x. ⊎_elim (λ y. told_apart h s u t q k j b x.0 x.1 y.0 y.1 x.2 y.2) (λ y. let l = told_since h s t k b x.0 x.1 x.2 in let i = y.0 in absurd (omega (arith, l, i))) right)
      (λ x. ⊎_elim (λ y. let l = told_since h u q j b y.0 y.1 y.2 in let i = x.0 in absurd (omega (arith, l, i))) (λ y. let v = x.1 in let i = y.1 in cc) right)
      (turned_asked a.call a.reply (length h) (sweeps_of h) s (told h s) t k b e n f)
    where
      right : AskedAt (told h u) q j b ⊎ ((b ≡ length h) × (a.call ≡ Call.begin u q j))
      right = turned_asked a.call a.reply (length h) (sweeps_of h) u (told h u) q j b d m g

  -- a step is before now
  step_below : {h : List (Event K)} {t b : ℕ} {q : Task} {k : K} {o : Outcome} → StepAt h t b q k o → t < length h
  step_below {o = o} x = omega (arith, ap length x.split, length-append x.later (record { call = Call.step x.seat; reply = came o } ∷ x.earlier), x.time)

  -- it stays one after one call more
  step_on : (e : Event K) {h : List (Event K)} {t b : ℕ} {q : Task} {k : K} {o : Outcome} → StepAt h t b q k o → StepAt (e ∷ h) t b q k o
  step_on e x = record { later = e ∷ x.later; earlier = x.earlier; seat = x.seat; sweeps = x.sweeps; restarts = x.restarts; split = ap (λ (l : List (Event K)). e ∷ l) x.split; time = x.time; own = x.own }

  -- the newest call is a step
  step_now : (h : List (Event K)) (s : ℕ) (q : Task) (k : K) (b e n : ℕ) (o : Outcome) → told h s ≡ asked q k b e n → StepAt (the_step s o ∷ h) (length h) b q k o
  step_now h s q k b e n o w = record { later = []; earlier = h; seat = s; sweeps = e; restarts = n; split = refl; time = refl; own = w }

  -- what a seat was asked
  record Now (h : List (Event K)) (s : ℕ) : Type 0 where
    task : Task
    key : K
    since : ℕ
    sweeps : ℕ
    restarts : ℕ
    is_asked : told h s ≡ asked task key since sweeps restarts

  -- the operation of a seat, with its answer
  abbrev fed_by : {h : List (Event K)} {s : ℕ} → Now h s → Answer → Feed K
  fed_by k a = record { since = k.since; task = k.task; key = k.key; answer = a }

  -- the newest call is a step of this operation
  record Newest (e : Event K) (h : List (Event K)) (t b : ℕ) (q : Task) (k : K) (o : Outcome) : Type 0 where
    seat : ℕ
    sweeps : ℕ
    restarts : ℕ
    event : e ≡ record { call = Call.step seat; reply = came o }
    time : length h ≡ t
    own : told h seat ≡ asked q k b sweeps restarts

  -- a step is the newest call or was one before it
  step_back : (e : Event K) (h : List (Event K)) (t b : ℕ) (q : Task) (k : K) (o : Outcome) → StepAt (e ∷ h) t b q k o → StepAt h t b q k o ⊎ Newest e h t b q k o
  step_back e h t b q k o x = go x.later x.split
    where
      go : (l : List (Event K)) → e ∷ h ≡ l ++ record { call = Call.step x.seat; reply = came o } ∷ x.earlier → StepAt h t b q k o ⊎ Newest e h t b q k o
      go [] f = let i : x.earlier ≡ h = cc in
          inr (record { seat = x.seat; sweeps = x.sweeps; restarts = x.restarts; event = cc; time = ap length (sym i) ∙ x.time; own = ap (λ (l : List (Event K)). told l x.seat) (sym i) ∙ x.own })
      go (a ∷ l) f = inl (record { later = l; earlier = x.earlier; seat = x.seat; sweeps = x.sweeps; restarts = x.restarts; split = cc; time = x.time; own = x.own })

  -- one call is a step of one operation
  step_same : {h : List (Event K)} {t b c : ℕ} {q p : Task} {k j : K} {o r : Outcome} → StepAt h t b q k o → StepAt h t c p j r → b ≡ c
  step_same {o = o} {r = r} x y =
      let z = same_end x.later y.later (record { call = Call.step x.seat; reply = came o }) (record { call = Call.step y.seat; reply = came r }) x.earlier y.earlier (sym x.split ∙ y.split) (x.time ∙ sym y.time) in
      let u : x.seat ≡ y.seat = let v : ◌≡◌ {A = Call K} (Call.step x.seat) (Call.step y.seat) = ap (λ (e : Event K). e.call) z.0 in cc in
      let w : told x.earlier x.seat ≡ told y.earlier y.seat = ap₂ (λ (l : List (Event K)) (s : ℕ). told l s) z.1 u in
      cc (w, x.own, y.own)

-- whether a write is still to come
abbrev is_write : Item → Bool
is_write op.lock_p = false
is_write op.lock_n = false
is_write op.lock_m = false
is_write op.draw = false
is_write op.write_n = true
is_write op.write_m = true
is_write op.write_p = true
is_write op.unlock_m = false
is_write op.unlock_n = false
is_write op.unlock_n_gone = false
is_write op.unlock_p = false

abbrev writes : List Item → Bool
writes [] = false
writes (a ∷ is) = cond (is_write a) true (writes is)

-- the answer of an operation that is past its last write
abbrev pub decided_on : Stage → Option Answer
decided_on (op.take x d) = None
decided_on op.check_p = None
decided_on op.look = None
decided_on (op.check_n a) = None
decided_on (act c is d) = cond (writes is) None (Some (course_answer c))
decided_on (scan i a) = None

-- whether a write comes after an item of a course
abbrev ahead : Course → Item → Bool
ahead c op.lock_p = true
ahead c op.lock_n = true
ahead c op.lock_m = true
ahead c op.draw = true
ahead (op.insert v) op.write_n = false
ahead (op.grow v) op.write_n = false
ahead (op.split v j) op.write_n = false
ahead (op.miss v i) op.write_n = true
ahead (op.in_place v l) op.write_n = false
ahead (op.collapse v l x) op.write_n = false
ahead c op.write_m = true
ahead c op.write_p = false
ahead c op.unlock_m = false
ahead c op.unlock_n = false
ahead c op.unlock_n_gone = false
ahead c op.unlock_p = false

-- a list without its first
abbrev behind : List Item → List Item
behind [] = []
behind (a ∷ is) = is

-- what is left of a course has a write after its first item just where the course has one
abbrev Fits : Course → List Item → Type 0
Fits c [] = Unit {0}
Fits c (a ∷ rest) = writes rest ≡ ahead c a

-- the items that are left of a course
acts_fit : {N : Numbers} {Key : List ℕ → Type 0} {σ : State} {g : Ghosts} {s : ℕ} {o : Operation} (c : Course) (is : List Item) (d : Option Drawn) (hs : List Hold) → Acts N Key σ g s o c is d hs → Fits c is
acts_fit _ _ _ _ (Acts.to_lock c hs n so st pe de) = solo c so
  where
    solo : (c : Course) → Solo c → Fits c (op.items c)
    solo _ (inserting v) = refl
    solo _ (splitting v j) = refl
    solo _ (removing v l) = refl
acts_fit _ _ _ _ (Acts.to_draw c v hs n so ad ol) = refl
acts_fit _ _ _ _ (Acts.to_insert v i hs n ol ld) = refl
acts_fit _ _ _ _ (Acts.to_split v j i y hs n ol ld nd) = refl
acts_fit _ _ _ _ (Acts.to_remove v l hs n ol) = refl
acts_fit _ _ _ _ (Acts.to_unlock c hs n so pe lo li) = refl
acts_fit _ _ _ _ (Acts.to_lock_p c p n pa st pe de) = pair c pa
  where
    pair : (c : Course) → Pair c → Fits c (op.items c)
    pair _ (growing v) = refl
    pair _ (missing v i) = refl
    pair _ (collapsing v l (leaf j)) = refl
    pair _ (collapsing v l (node k j)) = refl
acts_fit _ _ _ _ (Acts.to_lock_n c rest p n pa it st lo pe de) = pair c pa it
  where
    pair : (c : Course) → Pair c → op.items c ≡ op.lock_p ∷ op.lock_n ∷ rest → writes rest ≡ true
    pair _ (growing v) f = ap (λ (l : List Item). writes (behind (behind l))) (sym f)
    pair _ (missing v i) f = ap (λ (l : List Item). writes (behind (behind l))) (sym f)
    pair _ (collapsing v l (leaf j)) f = ap (λ (l : List Item). writes (behind (behind l))) (sym f)
    pair _ (collapsing v l (node k j)) f = ap (λ (l : List Item). writes (behind (behind l))) (sym f)
acts_fit _ _ _ _ (Acts.to_draw_both c v rest p n pa it ad bl) = pair c pa it
  where
    pair : (c : Course) → Pair c → op.items c ≡ op.lock_p ∷ op.lock_n ∷ op.draw ∷ rest → writes rest ≡ true
    pair _ (growing v) f = ap (λ (l : List Item). writes (behind (behind (behind l)))) (sym f)
    pair _ (missing v i) f = ap (λ (l : List Item). writes (behind (behind (behind l)))) (sym f)
    pair _ (collapsing v l (leaf j)) f = no_way cc
    pair _ (collapsing v l (node k j)) f = no_way cc
acts_fit _ _ _ _ (Acts.to_grow v i y p n bl ld nd) = refl
acts_fit _ _ _ _ (Acts.to_cut v m i y p n bl ld nd) = refl
acts_fit _ _ _ _ (Acts.to_miss v m i y p n cu) = refl
acts_fit _ _ _ _ (Acts.to_collapse v l j p n bl) = refl
acts_fit _ _ _ _ (Acts.to_lock_m v l k j p n bl) = refl
acts_fit _ _ _ _ (Acts.to_join v l p n m jo) = refl
acts_fit _ _ _ _ (Acts.to_collapse_m v l p n m jo) = refl
acts_fit _ _ _ _ (Acts.to_unlock_m c p n m pa lp ln lm ip re im) = refl
acts_fit _ _ _ _ (Acts.to_unlock_gone c p n pa lp ln ip re) = refl
acts_fit _ _ _ _ (Acts.to_unlock_n v m p n lp ln ip im) = refl
acts_fit _ _ _ _ (Acts.to_unlock_p c p pa lp ip) = refl

-- a stage before the last write, and not after a first check
abbrev Open : Stage → Type 0
Open g = (decided_on g ≡ None) × ((i : ℕ) (a : Answer) → g ≡ scan (suc i) a → ⊥)

-- the same of what may be none
abbrev OpenStage : Option Stage → Type 0
OpenStage None = Unit {0}
OpenStage (Some g) = Open g

abbrev OpenSeat : Option Seat → Type 0
OpenSeat None = Unit {0}
OpenSeat (Some closed) = ⊥
OpenSeat (Some idle) = ⊥
OpenSeat (Some (busy u)) = Open u.stage

take_open : (x : Ref) (d : ℕ) → Open (op.take x d)
take_open x d = (refl, λ i a e. no_way cc)

check_open : (a : Answer) → Open (op.check_n a)
check_open a = (refl, λ i b e. no_way cc)

act_open : (c : Course) (is : List Item) (d : Option Drawn) → writes is ≡ true → Open (act c is d)
act_open c is d e = (ap (λ (b : Bool). cond b None (Some (course_answer c))) e, λ i a q. no_way cc)

after_take_lem : (b : Bool) → Open (cond b op.look op.check_p)
after_take_lem true = (refl, λ i a e. no_way cc)
after_take_lem false = (refl, λ i a e. no_way cc)

-- what a look decides on is before the last write
decided_open : (S : Tree) (k : List ℕ) (n : Hold) (t : Task) (s : Seen) → OpenStage (decided S k n t s)
decided_open S k n op.find sight.stale = tt
decided_open S k n op.find sight.empty = check_open op.absent
decided_open S k n op.find (sight.missed i) = check_open op.absent
decided_open S k n op.find (sight.other l) = check_open op.absent
decided_open S k n op.find (sight.same_key l v) = check_open (op.found v)
decided_open S k n op.find (sight.onward y e) = tt
decided_open S k n (op.add v) sight.stale = tt
decided_open S k n (op.add v) sight.empty = by (leb (cap n.at) (fan S n.at))
  where
    by : (b : Bool) → OpenStage (Some (begun (cond b (op.grow v) (op.insert v))))
    by true = act_open (op.grow v) (op.items (op.grow v)) None refl
    by false = act_open (op.insert v) (op.items (op.insert v)) None refl
decided_open S k n (op.add v) (sight.missed i) = act_open (op.miss v i) (op.items (op.miss v i)) None refl
decided_open S k n (op.add v) (sight.other l) = act_open (op.split v l) (op.items (op.split v l)) None refl
decided_open S k n (op.add v) (sight.same_key l w) = check_open (op.present w)
decided_open S k n (op.add v) (sight.onward y e) = tt
decided_open S k n op.remove sight.stale = tt
decided_open S k n op.remove sight.empty = check_open op.absent
decided_open S k n op.remove (sight.missed i) = check_open op.absent
decided_open S k n op.remove (sight.other l) = check_open op.absent
decided_open S k n op.remove (sight.same_key l v) = by (is n.at root || leb 2 (fan S n.at - 1))
  where
    onto : (x : Option Ref) → OpenStage (choices.collapsing v l x)
    onto None = tt
    onto (Some (leaf j)) = act_open (op.collapse v l (leaf j)) (op.items (op.collapse v l (leaf j))) None refl
    onto (Some (node c j)) = act_open (op.collapse v l (node c j)) (op.items (op.collapse v l (node c j))) None refl

    by : (b : Bool) → OpenStage (cond b (Some (begun (op.in_place v l))) (choices.collapsing v l (left S n.at (key_byte S k n))))
    by true = act_open (op.in_place v l) (op.items (op.in_place v l)) None refl
    by false = onto (left S n.at (key_byte S k n))
decided_open S k n op.remove (sight.onward y e) = tt
decided_open S k n op.next s = tt

-- and so is what next picks
picked_open : (S : Tree) (o : Operation) (j keys : ℕ) (s : picks.Sight) → OpenSeat (picked S o j keys s)
picked_open S o j keys picks.stale = tt
picked_open S o zero keys picks.back = (refl, λ i a e. no_way cc)
picked_open S o (suc j) keys picks.back = (refl, λ i a e. no_way cc)
picked_open S o j keys (picks.onward y e) = take_open y e
picked_open S o j keys (picks.aside y e) = take_open y e
picked_open S o j keys (picks.got i) = (refl, λ i a e. no_way cc)

-- a step of o, by what it names: it goes on, makes its last write, answers what it checked, answers what was decided, or answers what it scanned
data Moves (o : Operation) (z : Seat) (r : Outcome) (n : Names) : Type 0 where
  goes : (u : Operation) → z ≡ busy u → ((a : Answer) → r ≡ answers a → ⊥) → n ≡ nothing → decided_on u.stage ≡ decided_on o.stage
      → ((i : ℕ) (a : Answer) → u.stage ≡ scan (suc i) a → (o.stage ≡ scan i a) × (r ≡ go)) → Moves o z r n
  fixes : (u : Operation) (a : Answer) → z ≡ busy u → ((b : Answer) → r ≡ answers b → ⊥) → n ≡ itself a → decided_on o.stage ≡ None → decided_on u.stage ≡ Some a → Moves o z r n
  says : (a : Answer) → z ≡ idle → r ≡ answers a → n ≡ itself a → decided_on o.stage ≡ None → Moves o z r n
  ends : (a : Answer) → z ≡ idle → r ≡ answers a → n ≡ nothing → decided_on o.stage ≡ Some a → Moves o z r n
  scanned : (i : ℕ) (a : Answer) → z ≡ idle → r ≡ answers a → n ≡ first_check a → o.stage ≡ scan i a → Moves o z r n

-- a restart from before the last write
restart_moves : {σ τ : State} {o : Operation} {c : Cause} {x : Ref} {d : ℕ} {z : Seat} {r : Outcome} → Restarts σ τ o c x d z r → decided_on o.stage ≡ None → Moves o z r nothing
restart_moves k e = Moves.goes _ k.seat (λ a q. let f = k.outcome in no_way cc) refl (sym e) (λ i a q. no_way cc)

-- a step to another stage before the last write
open_moves : (o u : Operation) → decided_on o.stage ≡ None → Open u.stage → Moves o (busy u) go nothing
open_moves o u e f = Moves.goes u refl (λ a q. no_way cc) refl (f.0 ∙ sym e) (λ i a q. absurd (f.1 i a q))

-- an item that is not the last write of its course
pass_moves : {o : Operation} {τ : State} {c : Course} {f : Ref → Meaning} {hs : List Hold} {d : Option Drawn} {rest : List Item} {z : Seat} {r : Outcome} (a : Item) (g : Option Drawn) → o.stage ≡ act c (a ∷ rest) g
    → cond (is_write a) true (writes rest) ≡ writes rest → Follows o τ c f hs d rest z r → Moves o z r nothing
pass_moves {c = c} a g e k (Follows.more w) = Moves.goes _ refl (λ b q. no_way cc) refl (ap (λ (b : Bool). cond b None (Some (course_answer c))) (sym k) ∙ ap decided_on (sym e)) (λ i b q. no_way cc)
pass_moves {c = c} a g e k (Follows.over x) = Moves.ends (course_answer c) x.seat x.outcome refl (ap decided_on e ∙ ap (λ (b : Bool). cond b None (Some (course_answer c))) k)

-- the last write of a course
link_moves : {N : Numbers} {Key : List ℕ → Type 0} {σ τ : State} {g : Ghosts} {s : ℕ} {o : Operation} {c : Course} {f : Ref → Meaning} {hs : List Hold} {d : Option Drawn} {rest : List Item} {z : Seat} {r : Outcome}
    → SeatOk N Key σ g s o → (a : Item) (e : Option Drawn) → o.stage ≡ act c (a ∷ rest) e → is_write a ≡ true → ahead c a ≡ false → Follows o τ c f hs d rest z r → Moves o z r (itself (course_answer c))
link_moves {o = o} {c = c} okay a e q w h (Follows.more {a = b} {rest = rest} x) =
    let fit = acts_fit c (a ∷ b ∷ rest) e o.held (acting okay c (a ∷ b ∷ rest) e q).2 in
    Moves.fixes _ (course_answer c) refl (λ y n. no_way cc) refl (ap decided_on q ∙ ap (λ (v : Bool). cond (cond v true (writes (b ∷ rest))) None (Some (course_answer c))) w)
    (ap (λ (v : Bool). cond v None (Some (course_answer c))) (fit ∙ h))
link_moves {o = o} {c = c} okay a e q w h (Follows.over x) =
    ⊎_elim (λ y. let n : is_write a ≡ false = ap is_write y in no_way cc) (λ y. let n : is_write a ≡ false = ap is_write y in no_way cc) (last_item c (a ∷ []) e o.held (acting okay c (a ∷ []) e q).2 a refl)

-- a plain unlock is no write
plain_unlocks : (a : Item) → Plain a → is_write a ≡ false
plain_unlocks op.lock_p p = absurd p
plain_unlocks op.lock_n p = absurd p
plain_unlocks op.lock_m p = absurd p
plain_unlocks op.draw p = absurd p
plain_unlocks op.write_n p = absurd p
plain_unlocks op.write_m p = absurd p
plain_unlocks op.write_p p = absurd p
plain_unlocks op.unlock_m p = refl
plain_unlocks op.unlock_n p = refl
plain_unlocks op.unlock_n_gone p = absurd p
plain_unlocks op.unlock_p p = refl

-- a refused item has a write after it
refused_ahead : {N : Numbers} {σ : State} {o : Operation} {c : Course} {a : Item} {e : Cause} {x : Ref} {d : ℕ} → Refuses N σ o c a e x d → (is_write a ≡ false) × (ahead c a ≡ true)
refused_ahead (Refuses.at_p p n h l) = (refl, refl)
refused_ahead (Refuses.at_n hs n h l) = (refl, refl)
refused_ahead (Refuses.taking_m hs n h l) = (refl, refl)
refused_ahead (Refuses.locking_m hs n h t l) = (refl, refl)

module _ {N : Numbers} {Key : List ℕ → Type 0} {σ : State} {g : Ghosts} {s : ℕ} {o : Operation} (okay : SeatOk N Key σ g s o) where
  -- the items that are left in its course
  fits : (c : Course) (is : List Item) (d : Option Drawn) → o.stage ≡ act c is d → Fits c is
  fits c items d e = acts_fit c items d o.held (acting okay c items d e).2

  -- an item of a course
  item_moves : {τ : State} {z : Seat} {r : Outcome} (c : Course) (a : Item) (rest : List Item) (d d' : Option Drawn) (f : Ref → Meaning) (hs : List Hold) → o.stage ≡ act c (a ∷ rest) d → (w : Does N σ τ o c a d f hs d')
      → Follows o τ c f hs d' rest z r → Moves o z r (item_names w)
  item_moves c _ rest d d' f hs e (Does.locks_p p n h l q) k = pass_moves op.lock_p d e refl k
  item_moves c _ rest d d' f hs e (Does.locks_n ks n h l q) k = pass_moves op.lock_n d e refl k
  item_moves c _ rest d d' f hs e (Does.locks_m ks n h t l q) k = pass_moves op.lock_m d e refl k
  item_moves c _ rest d d' f hs e (Does.draws_leaf ks n v i ls h a q b p t lf co) k = pass_moves op.draw d e refl k
  item_moves c _ rest d d' f hs e (Does.draws_both ks n v i j kind filled ls ns h a q b l m t u y p lf nf) k = pass_moves op.draw d e refl k
  item_moves c _ rest d d' f hs e (Does.inserts v i ks n h w) k = link_moves okay op.write_n d e refl refl k
  item_moves c _ rest d d' f hs e (Does.splits ks n h w) k = link_moves okay op.write_n d e refl refl k
  item_moves c _ rest d d' f hs e (Does.grows v i p n h w) k = link_moves okay op.write_p d e refl refl k
  item_moves c _ rest d d' f hs e (Does.cuts {v = v} {m = m} ks n h w x y) k = pass_moves op.write_n d e (sym (fits (op.miss v m) (op.write_n ∷ rest) d e)) k
  item_moves c _ rest d d' f hs e (Does.misses p n h w) k = link_moves okay op.write_p d e refl refl k
  item_moves c _ rest d d' f hs e (Does.removes ks n h w) k = link_moves okay op.write_n d e refl refl k
  item_moves c _ rest d d' f hs e (Does.joins v l b p n m h q w x y) k = pass_moves op.write_m d e (sym (fits (op.collapse v l m.at) (op.write_m ∷ rest) d e)) k
  item_moves c _ rest d d' f hs e (Does.collapses x p n ms h w) k = link_moves okay op.write_p d e refl refl k
  item_moves c a rest d d' f hs e (Does.unlocks ks x p h q) k = pass_moves a d e (ap (λ (b : Bool). cond b true (writes rest)) (plain_unlocks a p)) k
  item_moves c _ rest d d' f hs e (Does.unlocks_gone ks x h q) k = pass_moves op.unlock_n_gone d e refl k

  -- a course with a write after its next item is before its last write
  before_write : (c : Course) (a : Item) (rest : List Item) (d : Option Drawn) → o.stage ≡ act c (a ∷ rest) d → is_write a ≡ false → ahead c a ≡ true → decided_on o.stage ≡ None
  before_write c a rest d e w h =
      ap decided_on e ∙ ap (λ (v : Bool). cond (cond v true (writes rest)) None (Some (course_answer c))) w ∙ ap (λ (v : Bool). cond v None (Some (course_answer c))) (fits c (a ∷ rest) d e ∙ h)

  -- every rule
  row_moves : {τ : State} {z : Seat} {r : Outcome} (w : Row N σ τ o z r) → Moves o z r (row_names w)
  row_moves (Row.takes x d e t q w) = open_moves o _ (ap decided_on e) (after_take_lem (is x root))
  row_moves (Row.takes_not x d c e t k) = restart_moves k (ap decided_on e)
  row_moves (Row.checks_p p e f c q w) = open_moves o _ (ap decided_on e) (refl, λ i a e. no_way cc)
  row_moves (Row.checks_p_not p c e f t k) = restart_moves k (ap decided_on e)
  row_moves (Row.looks_on hs x y d e t h k q w) = open_moves o _ (ap decided_on e) (take_open y d)
  row_moves (Row.looks_decides hs x k e t h l q w) = open_moves o _ (ap decided_on e) (subst OpenStage l (decided_open σ.tree o.key x o.task _))
  row_moves (Row.looks_stale hs x e t h q k) = restart_moves k (ap decided_on e)
  row_moves (Row.checks_n a hs x e h c q k) = Moves.says a k.seat k.outcome refl (ap decided_on e)
  row_moves (Row.checks_n_not a hs x c e h q k) = restart_moves k (ap decided_on e)
  row_moves {z = z} (Row.picks_on x j keys v e t h k q w) = picks_moves z (subst OpenSeat k (picked_open σ.tree o j keys v))
    where
      picks_moves : (z : Seat) → OpenSeat (Some z) → Moves o z go nothing
      picks_moves closed x = absurd x
      picks_moves idle x = absurd x
      picks_moves (busy u) x = open_moves o u (ap decided_on e) x
  row_moves (Row.picks_stale x j keys e t h k) = restart_moves k (ap decided_on e)
  row_moves (Row.scans i a x e h c l q w) = Moves.goes _ refl (λ b f. no_way cc) refl (ap decided_on (sym e)) (λ j b f. ((cc), refl))
  row_moves (Row.scans_last i a x e h c l q k) = Moves.scanned i a k.seat k.outcome refl e
  row_moves (Row.scans_not i a x c e h t k) = restart_moves k (ap decided_on e)
  row_moves (Row.acts c a rest d d' f hs e w k) = item_moves c a rest d d' f hs e w k
  row_moves (Row.acts_not c a rest d m x y e q k) = let f = refused_ahead q in restart_moves k (before_write c a rest d e f.0 f.1)
  row_moves (Row.no_room c rest d q e t h k w) = Moves.says (op.no_room q) w.seat w.outcome refl (before_write c op.draw rest d e refl refl)

-- where next has passed a check, it was the step's own
checks_on : {o : Operation} {z : Seat} {q : Outcome} {n : Names} → Moves o z q n → (u : Operation) → z ≡ busy u → (i : ℕ) (a : Answer) → u.stage ≡ scan (suc i) a → (o.stage ≡ scan i a) × (q ≡ go)
checks_on (Moves.goes v e na nn dec sc) u f i a g = let h : u ≡ v = cc in sc i a (ap (λ (m : Operation). m.stage) (sym h) ∙ g)
checks_on (Moves.fixes v b e na nn dec fix) u f i a g = let h : u ≡ v = cc in let w : None ≡ Some b = ap decided_on (sym g) ∙ ap (λ (m : Operation). decided_on m.stage) h ∙ fix in no_way cc
checks_on (Moves.says b e x nn dec) u f i a g = no_way cc
checks_on (Moves.ends b e x nn dec) u f i a g = no_way cc
checks_on (Moves.scanned j b e x nn dec) u f i a g = no_way cc

-- a call on the seat u leaves the others
seat_turn : {K : Type 0} {σ τ : State} (s u : ℕ) (v w : Told K) (z : Seat) → Turns σ τ u z → (o : Operation) (t : Task) (k : K) (b i n : ℕ) → τ.seats s ≡ busy o → cond (eqb s u) v w ≡ asked t k b i n
    → ((s ≡ u → ⊥) × (σ.seats s ≡ busy o) × (w ≡ asked t k b i n)) ⊎ ((s ≡ u) × (z ≡ busy o) × (v ≡ asked t k b i n))
seat_turn {K} {σ} {τ} s u v w z x o t k b i n e f = by (eqb s u) refl f
  where
    by : (c : Bool) → eqb s u ≡ c → cond c v w ≡ asked t k b i n → ((s ≡ u → ⊥) × (σ.seats s ≡ busy o) × (w ≡ asked t k b i n)) ⊎ ((s ≡ u) × (z ≡ busy o) × (v ≡ asked t k b i n))
    by true g h = let j = eqb-true s u g in inr (j, sym (ap τ.seats j ∙ x.there) ∙ e, h)
    by false g h = let j = eqb-false s u g in inl (j, sym (x.elsewhere s j) ∙ e, h)

module _ {K : Type 0} {N : Numbers} {accepts : K → Type 0} {bytes : K → List ℕ} where
  -- an open operation has a named step just when it is past its last write, with the answer that it will give
  abbrev pub NamedOpen : {σ : State} → Run N accepts bytes σ → ℕ → Task → K → Option Answer → Type 0
  NamedOpen r b t k None = (u : ℕ) (f : Feed K) → named r u ≡ Some f → f.since ≡ b → ⊥
  NamedOpen r b t k (Some a) = (u : ℕ) × (named r u ≡ Some (record { since = b; task = t; key = k; answer = a }))

  pub record NamesOk {σ : State} (r : Run N accepts bytes σ) : Type 0 where
    -- nothing is named ahead
    pub future : (t : ℕ) → length (history r) ≤ t → named r t ≡ None
    pub own : (t : ℕ) (f : Feed K) → named r t ≡ Some f → (o : Outcome) × StepAt (history r) t f.since f.task f.key o
    pub one : (t u : ℕ) (f e : Feed K) → named r t ≡ Some f → named r u ≡ Some e → f.since ≡ e.since → t ≡ u
    pub answered : (t b : ℕ) (task : Task) (key : K) (a : Answer) → StepAt (history r) t b task key (answers a)
        → (u : ℕ) × (u ≤ t) × (named r u ≡ Some (record { since = b; task = task; key = key; answer = a }))
    -- an operation is open since before now
    pub since : (s : ℕ) (t : Task) (k : K) (b e n : ℕ) → told (history r) s ≡ asked t k b e n → b < length (history r)
    -- two seats have two operations
    pub apart : (s u : ℕ) (t q : Task) (k j : K) (b e n d m : ℕ) → told (history r) s ≡ asked t k b e n → told (history r) u ≡ asked q j b d m → s ≡ u
    pub opened : (s : ℕ) (o : Operation) (t : Task) (k : K) (b e n : ℕ) → σ.seats s ≡ busy o → told (history r) s ≡ asked t k b e n → NamedOpen r b t k (decided_on o.stage)
    -- a next that has passed its first check made it at the noted time
    pub checked : (s : ℕ) (o : Operation) (i : ℕ) (a : Answer) (t : Task) (k : K) (b e n : ℕ) → σ.seats s ≡ busy o → o.stage ≡ scan (suc i) a → told (history r) s ≡ asked t k b e n
        → StepAt (history r) (checked_at r s) b t k go

  -- one call more, of the operation that began after b calls: what was named stays, and what is newly named is of that operation, which has one then
  record Renames {σ τ : State} (r : Run N accepts bytes σ) (r' : Run N accepts bytes τ) (h : List (Event K)) (b : ℕ) : Type 0 where
    stay : (t : ℕ) (f : Feed K) → named r t ≡ Some f → named r' t ≡ Some f
    fresh : (t : ℕ) (f : Feed K) → named r' t ≡ Some f → (named r t ≡ Some f) ⊎ ((f.since ≡ b) × (o : Outcome) × StepAt h t f.since f.task f.key o)
    one : (t u : ℕ) (f e : Feed K) → named r' t ≡ Some f → named r' u ≡ Some e → f.since ≡ b → e.since ≡ b → t ≡ u

  -- a call that names nothing
  same_names : {σ τ : State} (r : Run N accepts bytes σ) → NamesOk r → (r' : Run N accepts bytes τ) (h : List (Event K)) (b : ℕ) → ((t : ℕ) → named r' t ≡ named r t) → Renames r r' h b
  same_names r good r' h b same = record {
    stay = λ t f x. same t ∙ x;
    fresh = λ t f x. inl (sym (same t) ∙ x);
    one = λ t u f g x y p i. good.one t u f g (sym (same t) ∙ x) (sym (same u) ∙ y) (p ∙ sym i);
  }

  -- an open operation that the call is not of, or that it names nothing for
  open_on : {σ τ : State} (r : Run N accepts bytes σ) (r' : Run N accepts bytes τ) (b : ℕ) (t : Task) (k : K) → ((u : ℕ) (f : Feed K) → named r u ≡ Some f → named r' u ≡ Some f)
      → ((u : ℕ) (f : Feed K) → named r' u ≡ Some f → f.since ≡ b → named r u ≡ Some f) → (x : Option Answer) → NamedOpen r b t k x → NamedOpen r' b t k x
  open_on r r' b t k stay fresh None n = λ u f e i. n u f (fresh u f e i) i
  open_on r r' b t k stay fresh (Some a) n = (n.0, stay n.0 _ n.1)

  module _ {σ τ : State} (r : Run N accepts bytes σ) (good : NamesOk r) (e : Event K) (d : Did N accepts bytes σ τ e.call e.reply) where
    -- what is left to say of one call more
    ok_on : (b : ℕ) → Renames r (on r e d) (e ∷ history r) b
        → ((t b : ℕ) (q : Task) (k : K) (a : Answer) → Newest e (history r) t b q k (answers a) → (u : ℕ) × (u ≤ t) × (named (on r e d) u ≡ Some (record { since = b; task = q; key = k; answer = a })))
        → ((s : ℕ) (o : Operation) (t : Task) (k : K) (b i n : ℕ) → τ.seats s ≡ busy o → told (e ∷ history r) s ≡ asked t k b i n → NamedOpen (on r e d) b t k (decided_on o.stage))
        → ((s : ℕ) (o : Operation) (j : ℕ) (a : Answer) (t : Task) (k : K) (b i n : ℕ) → τ.seats s ≡ busy o → o.stage ≡ scan (suc j) a → told (e ∷ history r) s ≡ asked t k b i n
        → StepAt (e ∷ history r) (checked_at (on r e d) s) b t k go) → NamesOk (on r e d)
    ok_on b w answered' opened' checked' = record {
      future = ahead';
      own = own';
      one = one';
      answered = λ t c q k a x. ⊎_elim (λ y. let z = good.answered t c q k a y in (z.0, z.1, w.stay z.0 _ z.2)) (λ y. answered' t c q k a y) (step_back e (history r) t c q k (answers a) x);
      since = told_since (e ∷ history r);
      apart = told_apart (e ∷ history r);
      opened = opened';
      checked = checked';
    }
      where
        ahead' : (t : ℕ) → suc (length (history r)) ≤ t → named (on r e d) t ≡ None
        ahead' t l = by (named (on r e d) t) refl
          where
            by : (x : Option (Feed K)) → named (on r e d) t ≡ x → x ≡ None
            by None q = refl
            by (Some f) q = ⊎_elim (λ y. let z = good.future t (omega (arith, l)) in no_way cc) (λ y. absurd (omega (arith, l, step_below y.2))) (w.fresh t f q)

        own' : (t : ℕ) (f : Feed K) → named (on r e d) t ≡ Some f → (o : Outcome) × StepAt (e ∷ history r) t f.since f.task f.key o
        own' t f q = ⊎_elim (λ y. let z = good.own t f y in (z.0, step_on e z.1)) (λ y. (y.1, y.2)) (w.fresh t f q)

        one' : (t u : ℕ) (f g : Feed K) → named (on r e d) t ≡ Some f → named (on r e d) u ≡ Some g → f.since ≡ g.since → t ≡ u
        one' t u f g x y i = ⊎_elim
            (λ p. ⊎_elim (λ q. good.one t u f g p q i) (λ q. w.one t u f g x y (i ∙ q.0) q.0) (w.fresh u g y))
            (λ p. w.one t u f g x y p.0 (sym i ∙ p.0))
            (w.fresh t f x)

    -- nothing is named for an operation that begins now
    not_yet : (u : ℕ) (f : Feed K) → named r u ≡ Some f → f.since ≡ length (history r) → ⊥
    not_yet u f q i =
        let x = (good.own u f q).1 in
        omega (arith, i, step_below x, x.time, told_since x.earlier x.seat f.task f.key f.since x.sweeps x.restarts x.own)

    -- a call that is no step
    quiet_ok : ((t : ℕ) → named (on r e d) t ≡ named r t) → ((s : ℕ) → checked_at (on r e d) s ≡ checked_at r s) → ((o : Outcome) → e.reply ≡ came o → ⊥)
        → ((s : ℕ) (o : Operation) (t : Task) (k : K) (b i n : ℕ) → τ.seats s ≡ busy o → told (e ∷ history r) s ≡ asked t k b i n
        → ((σ.seats s ≡ busy o) × (told (history r) s ≡ asked t k b i n)) ⊎ ((b ≡ length (history r)) × (o.stage ≡ op.take root 0))) → NamesOk (on r e d)
    quiet_ok same check call seat = ok_on (length (history r)) (same_names r good (on r e d) (e ∷ history r) (length (history r)) same)
        (λ t b q k a x. absurd (call (answers a) (ap (λ (y : Event K). y.reply) x.event)))
        (λ s o t k b i n x y. ⊎_elim (λ z. open_on r (on r e d) b t k (λ u f q. same u ∙ q) (λ u f q _. sym (same u) ∙ q) (decided_on o.stage) (good.opened s o t k b i n z.0 z.1))
        (λ z. subst (λ (g : Stage). NamedOpen (on r e d) b t k (decided_on g)) (sym z.1) (λ u f q j. not_yet u f (sym (same u) ∙ q) (j ∙ z.0))) (seat s o t k b i n x y))
        (λ s o j a t k b i n x g y. ⊎_elim (λ z. subst (λ (v : ℕ). StepAt (e ∷ history r) v b t k go) (sym (check s)) (step_on e (good.checked s o j a t k b i n z.0 g z.1))) (λ z. let v = z.1 in no_way cc) (seat s o t k b i n x y))

  -- a busy seat was asked
  busy_asked : {σ : State} (r : Run N accepts bytes σ) (s : ℕ) (o : Operation) → σ.seats s ≡ busy o → Now (history r) s
  busy_asked {σ} r s o e = by (told (history r) s) refl ((histories_tell_lem accepts bytes N σ r).seats s)
    where
      by : (w : Told K) → told (history r) s ≡ w → Agrees accepts bytes w (σ.seats s) → Now (history r) s
      by shut q a = no_way cc
      by free q a = no_way cc
      by (asked t k b i n) q a = record { task = t; key = k; since = b; sweeps = i; restarts = n; is_asked = q }

  -- what a step of the seat s does to what is named
  record StepNames {σ τ : State} (r : Run N accepts bytes σ) (r' : Run N accepts bytes τ) (s : ℕ) (z : Seat) (q : Outcome) (k : Now (history r) s) : Type 0 where
    renames : Renames r r' (the_step s q ∷ history r) k.since
    answered : (a : Answer) → q ≡ answers a → (u : ℕ) × (u ≤ length (history r)) × (named r' u ≡ Some (fed_by k a))
    opened : (u : Operation) → z ≡ busy u → NamedOpen r' k.since k.task k.key (decided_on u.stage)

  module _ {σ τ : State} (r : Run N accepts bytes σ) (good : NamesOk r) (r' : Run N accepts bytes τ) (s : ℕ) (o : Operation) (was : σ.seats s ≡ busy o) (k : Now (history r) s) where
    -- whether the operation has a named step before
    before : NamedOpen r k.since k.task k.key (decided_on o.stage)
    before = good.opened s o k.task k.key k.since k.sweeps k.restarts was k.is_asked

    -- the operation has a named step, by what its stage has decided
    was_named : (a : Answer) → decided_on o.stage ≡ Some a → (u : ℕ) × (named r u ≡ Some (fed_by k a))
    was_named a e = subst (NamedOpen r k.since k.task k.key) e before

    -- it has none before its last write
    unnamed : decided_on o.stage ≡ None → (u : ℕ) (f : Feed K) → named r u ≡ Some f → f.since ≡ k.since → ⊥
    unnamed e = subst (NamedOpen r k.since k.task k.key) e before

    -- a step of its own is named for it, which had none
    put_names : (v : ℕ) (a : Answer) (p q : Outcome) → StepAt (the_step s q ∷ history r) v k.since k.task k.key p → named r v ≡ None → decided_on o.stage ≡ None
        → ((t : ℕ) → named r' t ≡ cond (eqb t v) (Some (fed_by k a)) (named r t))
        → Renames r r' (the_step s q ∷ history r) k.since × (named r' v ≡ Some (fed_by k a))
    put_names v a p q x none dec new = (
      record {
        stay = λ t f y. ⊎_elim (λ i. let j : named r v ≡ Some f = ap (named r) (sym i) ∙ y in no_way cc) (λ i. elsewhere t i ∙ y) (cases_eq t v);
        fresh = λ t f y. ⊎_elim (λ i. inr (tell t f y i)) (λ i. inl (sym (elsewhere t i) ∙ y)) (cases_eq t v);
        one = λ t u f g y z i j. own t f y i ∙ sym (own u g z j);
      },
      there,
    )
      where
        there : named r' v ≡ Some (fed_by k a)
        there = new v ∙ ap (λ (b : Bool). cond b (Some (fed_by k a)) (named r v)) (eq-eqb v v refl)

        elsewhere : (t : ℕ) → (t ≡ v → ⊥) → named r' t ≡ named r t
        elsewhere t n = new t ∙ ap (λ (b : Bool). cond b (Some (fed_by k a)) (named r t)) (ne_eqb t v n)

        tell : (t : ℕ) (f : Feed K) → named r' t ≡ Some f → t ≡ v
            → (f.since ≡ k.since) × (j : Outcome) × StepAt (the_step s q ∷ history r) t f.since f.task f.key j
        tell t f y i =
            let g : fed_by k a ≡ f = let z = ap (named r') i in cc (z, y, there) in (
              sym (ap (λ (m : Feed K). m.since) g),
              p,
              subst (λ (m : Feed K). StepAt (the_step s q ∷ history r) t m.since m.task m.key p) g
                  (subst (λ (m : ℕ). StepAt (the_step s q ∷ history r) m k.since k.task k.key p) (sym i) x),
            )

        own : (t : ℕ) (f : Feed K) → named r' t ≡ Some f → f.since ≡ k.since → t ≡ v
        own t f y i = ⊎_elim (λ j. j) (λ j. absurd (unnamed dec t f (sym (elsewhere t j) ∙ y) i)) (cases_eq t v)

    module _ (z : Seat) (q : Outcome) (n : Names) (first : ℕ) (new : (t : ℕ) → named r' t ≡ named_by t (length (history r)) first (told (history r) s) n (named r t)) where
      -- a step that names nothing
      unchanged : n ≡ nothing → (t : ℕ) → named r' t ≡ named r t
      unchanged e t = new t ∙ ap (λ (m : Names). named_by t (length (history r)) first (told (history r) s) m (named r t)) e

      -- the step itself is named
      put_now : (a : Answer) → n ≡ itself a → decided_on o.stage ≡ None
          → Renames r r' (the_step s q ∷ history r) k.since × (named r' (length (history r)) ≡ Some (fed_by k a))
      put_now a e dec = put_names (length (history r)) a q q (step_now (history r) s k.task k.key k.since k.sweeps k.restarts q k.is_asked) (good.future (length (history r)) (omega arith)) dec
          (λ t. new t ∙ ap (λ (m : Names). named_by t (length (history r)) first (told (history r) s) m (named r t)) e ∙ ap (λ (w : Told K). cond (eqb t (length (history r))) (feed w a) (named r t)) k.is_asked)

      -- the first check is named
      put_first : (i : ℕ) (a : Answer) → n ≡ first_check a → o.stage ≡ scan i a → first ≡ cond (is_first_check o.stage) (length (history r)) (checked_at r s)
          → Renames r r' (the_step s q ∷ history r) k.since × (named r' first ≡ Some (fed_by k a)) × (first ≤ length (history r))
      put_first i a e g f = by i g
        where
          fed : (t : ℕ) → named r' t ≡ cond (eqb t first) (Some (fed_by k a)) (named r t)
          fed t = new t ∙ ap (λ (m : Names). named_by t (length (history r)) first (told (history r) s) m (named r t)) e ∙ ap (λ (w : Told K). cond (eqb t first) (feed w a) (named r t)) k.is_asked

          put : (p : Outcome) → StepAt (the_step s q ∷ history r) first k.since k.task k.key p → named r first ≡ None → decided_on o.stage ≡ None
              → Renames r r' (the_step s q ∷ history r) k.since × (named r' first ≡ Some (fed_by k a)) × (first ≤ length (history r))
          put p x none dec = let y = put_names first a p q x none dec fed in let l = step_below x in (y.0, y.1, omega (arith, l))

          by : (i : ℕ) → o.stage ≡ scan i a
              → Renames r r' (the_step s q ∷ history r) k.since × (named r' first ≡ Some (fed_by k a)) × (first ≤ length (history r))
          by zero h =
              let at : first ≡ length (history r) = f ∙ ap (λ (c : Stage). cond (is_first_check c) (length (history r)) (checked_at r s)) h in
              put q (subst (λ (m : ℕ). StepAt (the_step s q ∷ history r) m k.since k.task k.key q) (sym at)
              (step_now (history r) s k.task k.key k.since k.sweeps k.restarts q k.is_asked)) (good.future first (omega (arith, at))) (ap decided_on h)
          by (suc j) h =
              let at : first ≡ checked_at r s = f ∙ ap (λ (c : Stage). cond (is_first_check c) (length (history r)) (checked_at r s)) h in
              let x = subst (λ (m : ℕ). StepAt (history r) m k.since k.task k.key go) (sym at) (good.checked s o j a k.task k.key k.since k.sweeps k.restarts was h k.is_asked) in
              put go (step_on _ x) (free_at (named r first) refl x) (ap decided_on h)
            where
              free_at : (y : Option (Feed K)) → named r first ≡ y → StepAt (history r) first k.since k.task k.key go → y ≡ None
              free_at None _ x = refl
              free_at (Some m) v x = absurd (unnamed (ap decided_on h) first m v (step_same (good.own first m v).1 x))

      -- every step
      step_names : first ≡ cond (is_first_check o.stage) (length (history r)) (checked_at r s) → Moves o z q n → StepNames r r' s z q k
      step_names f (Moves.goes u e na nn dec sc) = record {
        renames = same_names r good r' (the_step s q ∷ history r) k.since (unchanged nn);
        answered = λ a x. absurd (na a x);
        opened = λ v x. let i : u ≡ v = cc in
            subst (λ (m : Operation). NamedOpen r' k.since k.task k.key (decided_on m.stage)) i (subst (NamedOpen r' k.since k.task k.key) (sym dec)
            (open_on r r' k.since k.task k.key (λ t m y. unchanged nn t ∙ y) (λ t m y _. sym (unchanged nn t) ∙ y) (decided_on o.stage) before));
      }
      step_names f (Moves.fixes u a e na nn dec fix) =
          let x = put_now a nn dec in
          record {
            renames = x.0;
            answered = λ b y. absurd (na b y);
            opened = λ v y. let i : u ≡ v = cc in subst (λ (m : Operation). NamedOpen r' k.since k.task k.key (decided_on m.stage)) i
                (subst (NamedOpen r' k.since k.task k.key) (sym fix) (length (history r), x.1));
          }
      step_names f (Moves.says a e q' nn dec) =
          let x = put_now a nn dec in
          record {
            renames = x.0;
            answered = λ b y. let i : a ≡ b = cc in (length (history r), omega arith, x.1 ∙ ap (λ (m : Answer). Some (fed_by k m)) i);
            opened = λ v y. no_way cc;
          }
      step_names f (Moves.ends a e q' nn dec) =
          let x = was_named a dec in
          record {
            renames = same_names r good r' (the_step s q ∷ history r) k.since (unchanged nn);
            answered = λ b y. let i : a ≡ b = cc in let l = step_below (good.own x.0 _ x.1).1 in (x.0, omega (arith, l), unchanged nn x.0 ∙ x.1 ∙ ap (λ (m : Answer). Some (fed_by k m)) i);
            opened = λ v y. no_way cc;
          }
      step_names f (Moves.scanned i a e q' nn g) =
          let x = put_first i a nn g f in
          record {
            renames = x.0;
            answered = λ b y. let j : a ≡ b = cc in (first, x.2, x.1 ∙ ap (λ (m : Answer). Some (fed_by k m)) j);
            opened = λ v y. no_way cc;
          }

  module _ (law : Lawful N (KeyOf accepts bytes)) where
    module _ {σ τ : State} (r : Run N accepts bytes σ) (good : NamesOk r) (s : ℕ) (o : Operation) (z : Seat) (q : Outcome) (a : Accepted accepts σ (Call.step s)) (e : σ.seats s ≡ busy o) (t : Turns σ τ s z) (w : Row N σ τ o z q) where
      abbrev after : Run N accepts bytes τ
      after = on r (the_step s q) (Did.steps s o z q a e t w)

      -- what it does to its seat
      moves : Moves o z q (row_names w)
      moves = row_moves ((good_run law r).inv.seats s o e) w

      -- when the seat's newest first check was
      first_is : (u : ℕ) → u ≡ s → checked_at after u ≡ cond (is_first_check o.stage) (length (history r)) (checked_at r u)
      first_is u i = ap (λ (b : Bool). cond (cond b (is_first_check o.stage) false) (length (history r)) (checked_at r u)) (eq-eqb s u (sym i))

      first_else : (u : ℕ) → (u ≡ s → ⊥) → checked_at after u ≡ checked_at r u
      first_else u i = ap (λ (b : Bool). cond (cond b (is_first_check o.stage) false) (length (history r)) (checked_at r u)) (ne_eqb s u (λ j. i (sym j)))

      -- the operation of the step
      who : Now (history r) s
      who = busy_asked r s o e

      names : StepNames r after s z q who
      names = step_names r good after s o e who z q (row_names w) (checked_at after s) (λ u. refl) (first_is s refl) moves

      -- the seat's operation is no other seat's
      other : (u : ℕ) (v : Task) (k : K) (b i n : ℕ) → told (history r) u ≡ asked v k b i n → b ≡ who.since → u ≡ s
      other u v k b i n f j = told_apart (history r) u s v who.task k who.key who.since i n who.sweeps who.restarts (f ∙ ap (λ (m : ℕ). asked v k m i n) j) who.is_asked

      -- each of what is known, after the step
      step_answered : (v b : ℕ) (p : Task) (k : K) (c : Answer) → Newest (the_step s q) (history r) v b p k (answers c) → (u : ℕ) × (u ≤ v) × (named after u ≡ Some (record { since = b; task = p; key = k; answer = c }))
      step_answered v b p k c x =
          let i : s ≡ x.seat = let f : ◌≡◌ {A = Call K} (Call.step s) (Call.step x.seat) = ap (λ (m : Event K). m.call) x.event in cc in
          let j : q ≡ answers c = let f : came q ≡ came (answers c) = ap (λ (m : Event K). m.reply) x.event in cc in
          let y = names.answered c j in
          let l = x.time in
          (y.0, omega (arith, l, y.1), y.2 ∙ sym (ap (λ (m : Told K). feed m c) who.is_asked) ∙ ap (λ (m : ℕ). feed (told (history r) m) c) i ∙ ap (λ (m : Told K). feed m c) x.own)

      step_opened : (u : ℕ) (p : Operation) (v : Task) (k : K) (b i n : ℕ) → τ.seats u ≡ busy p → told (the_step s q ∷ history r) u ≡ asked v k b i n → NamedOpen after b v k (decided_on p.stage)
      step_opened u p v k b i n f g = ⊎_elim
          (λ x. open_on r after b v k names.renames.stay (λ m l y j. ⊎_elim (λ c. c) (λ c. absurd (x.0 (other u v k b i n x.2 (sym j ∙ c.0)))) (names.renames.fresh m l y)) (decided_on p.stage)
          (good.opened u p v k b i n x.1 x.2))
          (λ x. let y = stepped_back q (told (history r) u) v k b i n x.2 in
          subst (OpenAs (decided_on p.stage)) (sym who.is_asked ∙ ap (told (history r)) (sym x.0) ∙ y.2) (names.opened p x.1))
          (seat_turn u s (stepped q (told (history r) u)) (told (history r) u) z t p v k b i n f g)
        where
          OpenAs : Option Answer → Told K → Type 0
          OpenAs x shut = Unit {0}
          OpenAs x free = Unit {0}
          OpenAs x (asked v k b i n) = NamedOpen after b v k x

      step_checked : (u : ℕ) (p : Operation) (j : ℕ) (c : Answer) (v : Task) (k : K) (b i n : ℕ) → τ.seats u ≡ busy p → p.stage ≡ scan (suc j) c → told (the_step s q ∷ history r) u ≡ asked v k b i n
          → StepAt (the_step s q ∷ history r) (checked_at after u) b v k go
      step_checked u p j c v k b i n f h g = ⊎_elim
          (λ x. subst (λ (m : ℕ). StepAt (the_step s q ∷ history r) m b v k go) (sym (first_else u x.0)) (step_on (the_step s q) (good.checked u p j c v k b i n x.1 h x.2)))
          (λ x. let y = stepped_back q (told (history r) u) v k b i n x.2 in
          let on = checks_on moves p x.1 j c h in
          own j x.0 on.0 on.1 y.0 y.1 y.2)
          (seat_turn u s (stepped q (told (history r) u)) (told (history r) u) z t p v k b i n f g)
        where
          own : (j : ℕ) → u ≡ s → o.stage ≡ scan j c → q ≡ go → (i n : ℕ) → told (history r) u ≡ asked v k b i n → StepAt (the_step s q ∷ history r) (checked_at after u) b v k go
          own zero l m y i n x =
              let at : checked_at after u ≡ length (history r) = first_is u l ∙ ap (λ (g : Stage). cond (is_first_check g) (length (history r)) (checked_at r u)) m in
              subst (λ (d : ℕ). StepAt (the_step s q ∷ history r) d b v k go) (sym at) (subst (λ (d : Outcome). StepAt (the_step s q ∷ history r) (length (history r)) b v k d) y
              (step_now (history r) s v k b i n q (ap (told (history r)) (sym l) ∙ x)))
          own (suc j) l m y i n x =
              let at : checked_at after u ≡ checked_at r u = first_is u l ∙ ap (λ (g : Stage). cond (is_first_check g) (length (history r)) (checked_at r u)) m in
              subst (λ (d : ℕ). StepAt (the_step s q ∷ history r) d b v k go) (sym at) (step_on (the_step s q) (good.checked u o j c v k b i n (ap σ.seats l ∙ e) m x))

      step_ok : NamesOk after
      step_ok = ok_on r good (the_step s q) (Did.steps s o z q a e t w) who.since names.renames step_answered step_opened step_checked

    -- every call
    names_by : {σ τ : State} (r : Run N accepts bytes σ) → NamesOk r → (c : Call K) (p : Reply) (d : Did N accepts bytes σ τ c p) → NamesOk (on r (record { call = c; reply = p }) d)
    names_by r good c _ (Did.refuses c' e f q) = quiet_ok r good (record { call = c; reply = refused e }) (Did.refuses c e f q) (λ t. refl) (λ s. refl) (λ o i. no_way cc) (λ s o t k b i n x y. inl (ap (λ (m : State). m.seats s) (sym q) ∙ x, y))
    names_by r good _ _ (Did.opens s a t k) = quiet_ok r good (record { call = Call.open_seat s; reply = ok }) (Did.opens s a t k) (λ t. refl) (λ s. refl) (λ o i. no_way cc)
        (λ u o v j b i n x y. ⊎_elim (λ m. inl (m.1, m.2)) (λ m. let l = m.1 in no_way cc) (seat_turn u s free (told (history r) u) idle t o v j b i n x y))
    names_by r good _ _ (Did.closes s a t k) = quiet_ok r good (record { call = Call.close_seat s; reply = ok }) (Did.closes s a t k) (λ t. refl) (λ s. refl) (λ o i. no_way cc)
        (λ u o v j b i n x y. ⊎_elim (λ m. inl (m.1, m.2)) (λ m. let l = m.1 in no_way cc) (seat_turn u s shut (told (history r) u) closed t o v j b i n x y))
    names_by {σ} r good _ _ (Did.begins s t k a b w x) = quiet_ok r good (record { call = Call.begin s t k; reply = ok }) (Did.begins s t k a b w x) (λ t. refl) (λ s. refl) (λ o i. no_way cc)
        (λ u o v j c i n y h. ⊎_elim (λ m. inl (m.1, m.2)) (λ m. inr (let l = m.2 in (cc), begun_at o m.1))
        (seat_turn u s (asked t k (length (history r)) (sweeps_of (history r)) 0) (told (history r) u) (started t (bytes k) σ.epoch) w o v j c i n y h))
      where
        begun_at : (o : Operation) → started t (bytes k) σ.epoch ≡ busy o → o.stage ≡ op.take root 0
        begun_at o e = ap stage_of (sym e)
          where
            stage_of : Seat → Stage
            stage_of closed = op.look
            stage_of idle = op.look
            stage_of (busy o) = o.stage
    names_by r good _ _ (Did.steps s o z q a e t w) = step_ok r good s o z q a e t w
    names_by r good _ _ (Did.sweeps n a w) = quiet_ok r good (record { call = Call.sweep; reply = swept n }) (Did.sweeps n a w) (λ t. refl) (λ s. refl) (λ o i. no_way cc) (λ s o t k b i m x y. inl (sym (w.seats s) ∙ x, y))

    -- what is named stays so at every call
    stay_by : {σ τ : State} (r : Run N accepts bytes σ) → NamesOk r → (c : Call K) (p : Reply) (d : Did N accepts bytes σ τ c p) (t : ℕ) (f : Feed K) → named r t ≡ Some f → named (on r (record { call = c; reply = p }) d) t ≡ Some f
    stay_by r good c _ (Did.refuses c' e f q) v m n = n
    stay_by r good _ _ (Did.opens s a t k) v m n = n
    stay_by r good _ _ (Did.closes s a t k) v m n = n
    stay_by r good _ _ (Did.begins s t k a b w x) v m n = n
    stay_by r good _ _ (Did.steps s o z q a e t w) v m n = (names r good s o z q a e t w).renames.stay v m n
    stay_by r good _ _ (Did.sweeps n a w) v m i = i

    pub names_ok : {σ : State} (r : Run N accepts bytes σ) → NamesOk r
    names_ok (made n) = record {
      future = λ t l. refl;
      own = λ t f e. no_way cc;
      one = λ t u f g e q i. no_way cc;
      answered = λ t b q k a x. let l = step_below x in absurd (omega (arith, l));
      since = told_since [];
      apart = told_apart [];
      opened = λ s o t k b e m x y. no_way cc;
      checked = λ s o i a t k b e m x g y. no_way cc;
    }
    names_ok (on r e d) = names_by r (names_ok r) e.call e.reply d

    -- a named step stays named
    pub names_stay : {σ τ : State} (r : Run N accepts bytes σ) (e : Event K) (d : Did N accepts bytes σ τ e.call e.reply) (t : ℕ) (f : Feed K) → named r t ≡ Some f → named (on r e d) t ≡ Some f
    names_stay r e d t f n = stay_by r (names_ok r) e.call e.reply d t f n
