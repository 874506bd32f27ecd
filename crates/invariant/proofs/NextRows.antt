-- The steps of next keep their seat.
use Rattle.std.proofs.Common.{◌≡◌, ℕ, zero, suc, ◌+◌, ◌-◌, ◌<◌, ◌≤◌, Bool, true, false, cond, leb, List, [], ◌∷◌, ◌++◌, length, drop, Some, None, Option, sym, refl, ap, ◌∙◌, subst, subst₂, inl, inr, ⊎_elim, append_assoc, append-nil, arith}
use Rattle.latches.specs.declared.word.Meaning.{Meaning}
use Rattle.model.specs.Refs.{Ref, leaf, node, root, is, same, IsNode}
use Rattle.model.specs.Tree.{Tree, child, prefix}
use Rattle.model.specs.Holds.{Grip, Hold, put, let_go_all}
use Rattle.model.specs.Operations as op
use Rattle.model.specs.Operations.{Operation, Task, Answer, Mode, by_key, back, down, Stage, check_p, look, scan, Seat, idle, busy, Outcome}
use Rattle.machine.specs.State.{State, Numbers, WordsAre, with}
use Rattle.machine.specs.Steps.{is_next, above_p, kept_p, after_take, pair_at, goes_back, picked, Sees, Row}
use Rattle.invariant.specs.Ghosts.{Ghosts, SoundAt, Safe}
use Rattle.invariant.specs.Seats.{Reads}
use Rattle.invariant.specs.Nexts.{Rises, Saw, Says, Nexts}
use Rattle.invariant.specs.Invariant.{Aims, SeatOk}
use Rattle.invariant.proofs.Setting.{Step, true_false, entry_reads, no_way, next_acts, every_snoc}
use Rattle.std.specs.List.{slice_get, AllByRecursion}
use Rattle.std.proofs.lemmas.Bool.{leb-false}
use Rattle.model_words.specs.Words.{Sound, Every, In}
use Rattle.latches.specs.Rules.{shared}
use Rattle.model_words.proofs.Release.{put_same, put_else}
use Rattle.model_next.specs.Bytes as bytes
use Rattle.model_next.specs.Look as picks
use Rattle.model_next.specs.Look.{Sight, key_sight, back_sight, down_sight}
use Rattle.model_next.proofs.Same.{stays}
use Rattle.model_next.proofs.Walks as walks
use Rattle.model_next.proofs.Views.{smallest_some, past_some, down_view, back_view, picks_not, picked_not}
use Rattle.model_slots.proofs.Lists.{is_tells, is_self}
use Rattle.model_next.specs.Walk as walk
use Rattle.model_next.specs.Walk.{Walk, start, on, held, Goes, Stays}
use Rattle.invariant.proofs.WalkRows.{restart_ok}
use Rattle.invariant.proofs.Stable.{kid_safe}

-- a look at x led to its child y, at depth e
pub record Leads (deep : ℕ) (S : Tree) (x : Hold) (y : Ref) (e : ℕ) : Type 0 where
  pub byte : ℕ
  pub there : child S x.at byte ≡ Some y
  pub inner : IsNode y
  pub deeper : x.depth < e
  pub within : e ≤ deep

-- what a look at x says, by what was seen
abbrev pub Shows : ℕ → Tree → Hold → Sight → Type 0
Shows deep S x picks.stale = Unit {0}
Shows deep S x picks.back = x.depth < deep
Shows deep S x (picks.onward y e) = Leads deep S x y e
Shows deep S x (picks.aside y e) = Leads deep S x y e
Shows deep S x (picks.got i) = (b : ℕ) × (child S x.at b ≡ Some (leaf i)) × (x.depth < deep)

module _ (deep : ℕ) (S : Tree) (k : List ℕ) (x : Hold) where
  within_shows : (s : Sight) → (x.depth + length (prefix S x.at) < deep → Shows deep S x s) → Shows deep S x (picks.within deep S x.at x.depth s)
  within_shows s h = go (leb deep (x.depth + length (prefix S x.at))) refl
    where
      go : (t : Bool) → leb deep (x.depth + length (prefix S x.at)) ≡ t → Shows deep S x (cond t picks.stale s)
      go true q = tt
      go false q = h (leb-false deep (x.depth + length (prefix S x.at)) q)

  module _ (l : x.depth + length (prefix S x.at) < deep) where
    leads_to : (b : ℕ) (y : Ref) → IsNode y → child S x.at b ≡ Some y → Leads deep S x y (suc (x.depth + length (prefix S x.at)))
    leads_to b y n q = record { byte = b; there = q; inner = n; deeper = omega arith; within = omega arith }

    picks_shows : (b : ℕ) (y : Ref) → child S x.at b ≡ Some y → Shows deep S x (picks.picks y (suc (x.depth + length (prefix S x.at))))
    picks_shows b (leaf i) q = (b, q, omega arith)
    picks_shows b (node c i) q = leads_to b (node c i) tt q

    smallest_shows : Shows deep S x (picks.picked (picks.smallest S x.at) (suc (x.depth + length (prefix S x.at))) picks.stale)
    smallest_shows = go (picks.smallest S x.at) refl
      where
        go : (o : Option (ℕ × Ref)) → picks.smallest S x.at ≡ o → Shows deep S x (picks.picked o (suc (x.depth + length (prefix S x.at))) picks.stale)
        go None q = tt
        go (Some (b, y)) q = picks_shows b y (smallest_some S x.at b y q).0

    past_shows : (b : ℕ) → Shows deep S x (picks.picked (picks.past S x.at b) (suc (x.depth + length (prefix S x.at))) picks.back)
    past_shows b = go (picks.past S x.at b) refl
      where
        go : (o : Option (ℕ × Ref)) → picks.past S x.at b ≡ o → Shows deep S x (picks.picked o (suc (x.depth + length (prefix S x.at))) picks.back)
        go None q = omega arith
        go (Some (a, y)) q = picks_shows a y (past_some S x.at b a y q).0

    under_shows : (b : ℕ) (o : Option Ref) → child S x.at b ≡ o → Shows deep S x (picks.under S k x.at (suc (x.depth + length (prefix S x.at))) b o)
    under_shows b None q = past_shows b
    under_shows b (Some (leaf i)) q = go (bytes.comes (S.entries i).key k)
      where
        go : (t : Bool) → Shows deep S x (cond t (picks.picked (picks.past S x.at b) (suc (x.depth + length (prefix S x.at))) picks.back) (picks.got i))
        go true = past_shows b
        go false = (b, q, omega arith)
    under_shows b (Some (node c i)) q = leads_to b (node c i) tt q

    keyed_shows : (c : bytes.Compared) → Shows deep S x (picks.keyed S k x.at (suc (x.depth + length (prefix S x.at))) c)
    keyed_shows bytes.larger = smallest_shows
    keyed_shows bytes.smaller = omega arith
    keyed_shows bytes.ended = tt
    keyed_shows (bytes.same b) = under_shows b (child S x.at b) refl

  pub key_shows : Shows deep S x (key_sight deep S k x.at x.depth)
  unfolding key_sight
  key_shows = within_shows _ (λ l. keyed_shows l (bytes.against (prefix S x.at) (drop x.depth k)))

  pub back_shows : (b : ℕ) → Shows deep S x (back_sight deep S b x.at x.depth)
  unfolding back_sight
  back_shows b = within_shows _ (λ l. past_shows l b)

  pub down_shows : Shows deep S x (down_sight deep S x.at x.depth)
  unfolding down_sight
  down_shows = within_shows _ smallest_shows

rises_push : (lo : ℕ) (hs : List Hold) (y : Ref) (d : ℕ) (c : Grip) (hi : ℕ) → Rises lo hs d → d < hi → Rises lo (hs ++ walk.hold y d c ∷ []) hi
rises_push lo [] y d c hi r l = (r, l)
rises_push lo (h ∷ hs) y d c hi r l = (r.0, rises_push (suc h.depth) hs y d c hi r.1 l)

rises_to : (lo : ℕ) (f : Hold) (hs : List Hold) (hi top : ℕ) → Rises lo (f ∷ hs) hi → (walk.newest f hs).depth < top → Rises lo (f ∷ hs) top
rises_to lo f [] hi top r l = (r.0, l)
rises_to lo f (h ∷ hs) hi top r l = (r.0, rises_to (suc f.depth) h hs hi top r.1 l)

nth_newest : (f : Hold) (hs : List Hold) → slice_get (f ∷ hs) (length hs) ≡ Some (walk.newest f hs)
nth_newest f [] = refl
nth_newest f (h ∷ hs) = nth_newest h hs

pub newest_is : (f : Hold) (ks : List Hold) (n : Hold) → slice_get (f ∷ ks) (length (f ∷ ks) - 1) ≡ Some n → walk.newest f ks ≡ n
newest_is f ks n q =
    let m : length (f ∷ ks) - 1 ≡ length ks = omega arith in
    let p : slice_get (f ∷ ks) (length ks) ≡ Some n = subst (λ (i : ℕ). slice_get (f ∷ ks) i ≡ Some n) m q in
    let w = nth_newest f ks in cc

pub newest_append : (f : Hold) (hs : List Hold) (h : Hold) (ds : List Hold) → walk.newest f (hs ++ h ∷ ds) ≡ walk.newest h ds
newest_append f [] h ds = refl
newest_append f (k ∷ hs) h ds = newest_append k hs h ds

pub nth_place : (f : Hold) (hs : List Hold) (n : ℕ) (x : Hold) → slice_get (f ∷ hs) n ≡ Some x → walk.place f hs n ≡ x
nth_place f hs zero x q = cc
nth_place f [] (suc n) x q = no_way cc
nth_place f (h ∷ hs) (suc n) x q = nth_place h hs n x q

in_newest : (f : Hold) (hs : List Hold) → In (walk.newest f hs) (f ∷ hs)
in_newest f [] = inl refl
in_newest f (h ∷ hs) = inr (in_newest h hs)

in_place' : (f : Hold) (hs : List Hold) (n : ℕ) → In (walk.place f hs n) (f ∷ hs)
in_place' f hs zero = inl refl
in_place' f [] (suc n) = inl refl
in_place' f (h ∷ hs) (suc n) = inr (in_place' h hs n)

not_root : (y : Ref) → (y ≡ root → ⊥) → after_take y ≡ check_p
not_root y n = ⊎_elim (λ a. absurd (n a.1)) (λ b. ap (λ (t : Bool). cond t look check_p) b.0) (is_tells y root)

pub picks_back : (y : Ref) (e : ℕ) → picks.picks y e ≡ picks.back → ⊥
picks_back (leaf i) e q = no_way cc
picks_back (node c i) e q = no_way cc

not_nil : (u : List ℕ) (b : ℕ) → u ++ b ∷ [] ≡ [] → ⊥
not_nil [] b q = no_way cc
not_nil (a ∷ u) b q = no_way cc

-- the operation with other holdings and at another stage
abbrev to : Operation → Mode → List Hold → Stage → Operation
to o m hs k = record { task = o.task; key = o.key; begun = o.begun; restarts = o.restarts; mode = m; held = hs; stage = k }

module _ {N : Numbers} {τ : State} {g : Ghosts} (u : Operation) where
  checks_key : (f : Hold) (hs : List Hold) (n : Hold) → Saw N τ g u (on f (hs ++ n ∷ []) [] walk.check_key) → Rises 0 (f ∷ (hs ++ n ∷ [])) (suc N.deep) → Nexts N τ g u by_key (f ∷ (hs ++ n ∷ [])) check_p
  checks_key f [] n w r = Nexts.check_key f n [] w r
  checks_key f (h ∷ hs) n w r = Nexts.check_key f h (hs ++ n ∷ []) w r

  checks_down : (f : Hold) (hs ds : List Hold) (x : Hold) (n : ℕ) → Saw N τ g u (on f hs (ds ++ x ∷ []) (walk.check_down n)) → Rises 0 (f ∷ hs) N.deep → Rises 1 (ds ++ x ∷ []) (suc N.deep) → n ≤ length hs
      → Nexts N τ g u (down n (suc (length hs))) (f ∷ hs ++ (ds ++ x ∷ [])) check_p
  checks_down f hs [] x n w r q l = Nexts.check_down f hs x [] n w r q l
  checks_down f hs (h ∷ ds) x n w r q l = Nexts.check_down f hs h (ds ++ x ∷ []) n w r q l

  -- with nothing on the way down
  takes_aside : (f : Hold) (hs : List Hold) (n : ℕ) (y : Ref) (d : ℕ) → Saw N τ g u (on f hs [] (walk.take_down n y d)) → Rises 0 (f ∷ hs) N.deep → 1 ≤ d → d ≤ N.deep → n ≤ length hs → (y ≡ root → ⊥)
      → Nexts N τ g u (down n (suc (length hs))) (f ∷ hs) (op.take y d)
  takes_aside f hs n y d w r a b l x = subst (λ (q : List Hold). Nexts N τ g u (down n (suc (length hs))) q (op.take y d)) (append-nil (f ∷ hs)) (Nexts.take_down f hs [] n y d w r a b l x)

  scans_key : (m : Mode) (f : Hold) (hs : List Hold) (n : ℕ) (a : Answer) (r : Option ℕ) → Saw N τ g u (on f hs [] (walk.scan n 0 r)) → Rises 0 (f ∷ hs) N.deep → 1 ≤ N.deep → Says N τ g u a r
      → Nexts N τ g u m (f ∷ hs) (scan 0 a)
  scans_key m f hs n a r w x l q = subst (λ (q : List Hold). Nexts N τ g u m q (scan 0 a)) (append-nil (f ∷ hs)) (Nexts.scans m f hs [] n 0 a r w x l q (omega arith))

-- a step that leaves the tree, and makes no permit sound
module _ {N : Numbers} {Key : List ℕ → Type 0} {σ τ : State} {g : Ghosts} {s : ℕ} {o : Operation} {z : Seat} {r : Outcome} (st : Step N Key σ τ g s o z r) (t : o.task ≡ op.next)
    (tree : τ.tree ≡ σ.tree) (was : (h : Hold) → SoundAt τ h → SoundAt σ h) where
  abbrev Kept : Hold → Type 0
  Kept h = Stays held N.deep o.key σ.tree τ.tree (SoundAt σ) (SoundAt τ) h

  all_kept : (hs : List Hold) → AllByRecursion Kept hs
  all_kept [] = tt
  all_kept (h ∷ hs) = (
    stays held N.deep o.key σ.tree τ.tree (SoundAt σ) (SoundAt τ) h (was h)
        (λ x. (ap (λ (S : Tree). prefix S h.at) tree, ap (λ (S : Tree). child S h.at) tree, λ b i q. ap (λ (S : Tree). (S.entries i).key) tree)),
    all_kept hs,
  )

  carry : (w : Walk Hold) → Saw N σ g o w → Saw N τ g o w
  carry start a = tt
  carry (on f hs ds k) a = walks.stable held N.deep o.key σ.tree τ.tree (SoundAt σ) (SoundAt τ) (on f hs ds k) (all_kept (f ∷ hs), all_kept ds) a

  -- a step of the walk
  goes : (w v : Walk Hold) → Saw N σ g o w → Goes held N.deep σ.tree o.key w v → Saw N τ g o v
  goes w v a q = carry v (walks.kept held N.deep σ.tree o.key (SoundAt σ) w v a q)

  says_kept : (u : Operation) → u.begun ≡ o.begun → (a : Answer) (x : Option ℕ) → Says N σ g o a x → Says N τ g u a x
  says_kept u e _ _ Says.says_none = Says.says_none
  says_kept u e _ _ (Says.says_pair i q) =
      subst (λ (S : Tree). Says N τ g u (pair_at S i) (Some i)) tree (Says.says_pair i (subst (λ (b : ℕ). Safe b g (leaf i)) (sym e) q))

  abbrev Readable : List Hold → Type 0
  Readable hs = Every (λ h. Reads N σ g o h.at) hs

  abbrev Good : Mode → List Hold → Stage → Type 0
  Good m hs k = SeatOk N Key τ g s (to o m hs k)

  good : (m : Mode) (hs : List Hold) (k : Stage) → Readable hs → Aims N Key τ g (to o m hs k) k → Nexts N τ g (to o m hs k) m hs k → Good m hs k
  good m hs k a b n =
      let q = st.inv.seats s o st.was in
      record { key = q.key; begun = omega (arith, q.begun, st.turns.epoch); reads = a; aims = b; doing = inr (t, n) }

  take_ok : (x : Ref) (d : ℕ) (c : Grip) (m : Mode) (hs : List Hold) (k : Stage) → Nexts N σ g o m hs k → k ≡ op.take x d → Readable hs → Reads N σ g o x → Good m (hs ++ walk.hold x d c ∷ []) (after_take x)
  take_ok x d c _ _ _ Nexts.starts q a b =
      let p : x ≡ root = cc in
      let e : 0 ≡ d = cc in
      let here = ap (λ (t : Bool). cond t look check_p) (ap (λ (y : Ref). is y root) p ∙ is_self root) in
      let f : Hold = walk.hold x d c in
      let v : Saw N τ g o (on f [] [] walk.look_key) = ((p, sym e), tt) in
      subst (λ (k : Stage). Good by_key (f ∷ []) k) (sym here)
      (good by_key (f ∷ []) look (b, tt) (Aims.at_none (λ y d q. no_way cc)) (Nexts.look_key f [] v (omega arith, omega (arith, e))))
  take_ok x d c _ _ _ (Nexts.take_key f hs y e w r l n) q a b =
      let p : y ≡ x = cc in
      let i : e ≡ d = cc in
      let h : Hold = walk.hold y e c in
      let v = goes (on f hs [] (walk.take_key y e)) (on f (hs ++ h ∷ []) [] walk.check_key) w (Goes.takes_key h (refl, refl)) in
      subst₂ (λ (y : Ref) (e : ℕ). Good by_key (f ∷ (hs ++ walk.hold y e c ∷ [])) (after_take y)) p i
      (subst (λ (k : Stage). Good by_key (f ∷ (hs ++ h ∷ [])) k) (sym (not_root y n))
      (good by_key (f ∷ (hs ++ h ∷ [])) check_p (a.0, every_snoc (λ h. Reads N σ g o h.at) hs h a.1 (subst (λ (x : Ref). Reads N σ g o x) (sym p) b)) (Aims.at_none (λ y d q. no_way cc))
      (checks_key (to o by_key (f ∷ (hs ++ h ∷ [])) check_p) f hs h v (rises_push 0 (f ∷ hs) y e c (suc N.deep) r (omega (arith, l))))))
  take_ok x d c _ _ _ (Nexts.check_key f h hs w r) q a b = no_way cc
  take_ok x d c _ _ _ (Nexts.look_key f hs w r) q a b = no_way cc
  take_ok x d c _ _ _ (Nexts.look_back f hs n w r l) q a b = no_way cc
  take_ok x d c _ _ _ (Nexts.take_down f hs ds n y e w r r' l i nr) q a b =
      let p : y ≡ x = cc in
      let j : e ≡ d = cc in
      let h : Hold = walk.hold y e c in
      let v = goes (on f hs ds (walk.take_down n y e)) (on f hs (ds ++ h ∷ []) (walk.check_down n)) w (Goes.takes_down h (refl, refl)) in
      let m : Mode = down n (suc (length hs)) in
      let ls : List Hold = f ∷ hs ++ ds ++ h ∷ [] in
      let ks : List Hold = f ∷ hs ++ (ds ++ h ∷ []) in
      let es : ls ≡ ks = append_assoc (f ∷ hs) ds (h ∷ []) in
      let all : Readable ls = every_snoc (λ h. Reads N σ g o h.at) (f ∷ hs ++ ds) h a (subst (λ (x : Ref). Reads N σ g o x) (sym p) b) in
      subst₂ (λ (y : Ref) (e : ℕ). Good m (f ∷ hs ++ ds ++ walk.hold y e c ∷ []) (after_take y)) p j
      (subst₂ (λ (l : List Hold) (k : Stage). Good m l k) (sym es) (sym (not_root y nr))
      (good m ks check_p (subst Readable es all) (Aims.at_none (λ y d q. no_way cc))
      (checks_down (to o m ks check_p) f hs ds h n v r (rises_push 1 ds y e c (suc N.deep) r' (omega (arith, l))) i)))
  take_ok x d c _ _ _ (Nexts.check_down f hs h ds n w r r' i) q a b = no_way cc
  take_ok x d c _ _ _ (Nexts.look_down f hs h ds n w r r' i) q a b = no_way cc
  take_ok x d c _ _ _ (Nexts.scans m f hs ds n i e y w r r' sa l) q a b = no_way cc

  check_ok : (m : Mode) (hs : List Hold) (k : Stage) → Nexts N σ g o m hs k → k ≡ check_p → Readable hs → Good m hs look
  check_ok _ _ _ Nexts.starts q a = no_way cc
  check_ok _ _ _ (Nexts.take_key f hs y e w r l n) q a = no_way cc
  check_ok _ _ _ (Nexts.check_key f h hs w r) q a = good by_key (f ∷ h ∷ hs) look a (Aims.at_none (λ y d q. no_way cc))
      (Nexts.look_key f (h ∷ hs) (goes (on f (h ∷ hs) [] walk.check_key) (on f (h ∷ hs) [] walk.look_key) w Goes.checks_key) r)
  check_ok _ _ _ (Nexts.look_key f hs w r) q a = no_way cc
  check_ok _ _ _ (Nexts.look_back f hs n w r l) q a = no_way cc
  check_ok _ _ _ (Nexts.take_down f hs ds n y e w r r' l i nr) q a = no_way cc
  check_ok _ _ _ (Nexts.check_down f hs h ds n w r r' i) q a = good (down n (suc (length hs))) (f ∷ hs ++ h ∷ ds) look a (Aims.at_none (λ y d q. no_way cc))
      (Nexts.look_down f hs h ds n (goes (on f hs (h ∷ ds) (walk.check_down n)) (on f hs (h ∷ ds) (walk.look_down n)) w Goes.checks_down) r r' i)
  check_ok _ _ _ (Nexts.look_down f hs h ds n w r r' i) q a = no_way cc
  check_ok _ _ _ (Nexts.scans m f hs ds n i e y w r r' sa l) q a = no_way cc

  scan_ok : (i : ℕ) (a : Answer) (m : Mode) (hs : List Hold) (k : Stage) → Nexts N σ g o m hs k → k ≡ scan i a → suc i < length hs → Readable hs → Good m hs (scan (suc i) a)
  scan_ok i a _ _ _ Nexts.starts q l b = no_way cc
  scan_ok i a _ _ _ (Nexts.take_key f hs y e w r v n) q l b = no_way cc
  scan_ok i a _ _ _ (Nexts.check_key f h hs w r) q l b = no_way cc
  scan_ok i a _ _ _ (Nexts.look_key f hs w r) q l b = no_way cc
  scan_ok i a _ _ _ (Nexts.look_back f hs n w r v) q l b = no_way cc
  scan_ok i a _ _ _ (Nexts.take_down f hs ds n y e w r r' v x nr) q l b = no_way cc
  scan_ok i a _ _ _ (Nexts.check_down f hs h ds n w r r' v) q l b = no_way cc
  scan_ok i a _ _ _ (Nexts.look_down f hs h ds n w r r' v) q l b = no_way cc
  scan_ok i a _ _ _ (Nexts.scans m f hs ds n j e y w r r' sa v) q l b =
      let p : j ≡ i = cc in
      let x : e ≡ a = cc in
      let k : Stage = scan (suc j) e in
      subst₂ (λ (j : ℕ) (e : Answer). Good m (f ∷ hs ++ ds) (scan (suc j) e)) p x
      (good m (f ∷ hs ++ ds) k b (Aims.at_none (λ y d q. no_way cc))
      (Nexts.scans m f hs ds n (suc j) e y (goes (on f hs ds (walk.scan n j y)) (on f hs ds (walk.scan n (suc j) y)) w Goes.scans) r r' (says_kept (to o m (f ∷ hs ++ ds) k) refl e y sa) (omega (arith, p, l))))

  -- a child of what may be read is not the root
  no_root : (x : Ref) → Safe o.begun g x → (b : ℕ) (y : Ref) → child σ.tree x b ≡ Some y → y ≡ root → ⊥
  no_root x (inl l) b y q p = not_nil (g.full x) b (sym (st.inv.tree.kid x b y l q).1 ∙ ap g.path p ∙ st.inv.tree.root_path)
  no_root x (inr (r, h, m)) b y q p = st.inv.rootless x r b h (q ∙ ap (λ (y : Ref). Some y) p)

  arrive : (m : Mode) (hs : List Hold) (k : Stage) (u : Operation) → hs ≡ o.held → Aims N Key τ g (to o m hs k) k → Nexts N τ g (to o m hs k) m hs k → Some (with o m o.held k) ≡ Some (busy u) → SeatOk N Key τ g s u
  arrive m hs k u e b n q =
      let p : to o m o.held k ≡ u = cc in
      let a : Readable hs = subst Readable (sym e) (st.inv.seats s o st.was).reads in
      subst (λ (v : Operation). SeatOk N Key τ g s v) p (subst (λ (l : List Hold). Good m l k) e (good m hs k a b n))

  -- where a look at x leads to y
  arrive_at : (m : Mode) (hs : List Hold) (x : Hold) (y : Ref) (d : ℕ) (u : Operation) → hs ≡ o.held → Reads N σ g o x.at → Leads N.deep σ.tree x y d
      → ((y ≡ root → ⊥) → Nexts N τ g (to o m hs (op.take y d)) m hs (op.take y d)) → Some (with o m o.held (op.take y d)) ≡ Some (busy u) → SeatOk N Key τ g s u
  arrive_at m hs x y d u e a l n q = arrive m hs (op.take y d) u e (Aims.at y d (l.inner, kid_safe st.inv o.begun x.at l.byte y a.1 l.there)) (n (no_root x.at a.1 l.byte y l.there)) q

  leaf_said : (x : Hold) (i : ℕ) → Reads N σ g o x.at → Shows N.deep σ.tree x (picks.got i) → Says N σ g o (pair_at σ.tree i) (Some i)
  leaf_said x i a l = Says.says_pair i (kid_safe st.inv o.begun x.at l.0 (leaf i) a.1 l.1)

  backs : (f : Hold) (hs : List Hold) (n : ℕ) (u : Operation) → f ∷ hs ≡ o.held → n ≤ length hs → Rises 0 (f ∷ hs) N.deep → Saw N τ g o (walk.leaves f hs n) → Some (goes_back o n) ≡ Some (busy u) → SeatOk N Key τ g s u
  backs f hs zero u e l r w q = arrive by_key (f ∷ hs) (scan 0 op.none) u e (Aims.at_none (λ y d q. no_way cc))
      (scans_key (to o by_key (f ∷ hs) (scan 0 op.none)) by_key f hs 0 op.none None w r st.lawful.deep Says.says_none) q
  backs f hs (suc n) u e l r w q = arrive (back n) (f ∷ hs) look u e (Aims.at_none (λ y d q. no_way cc)) (Nexts.look_back f hs n w r l) q

  -- after a look at x, at place n of the key's way
  looked_ok : (f : Hold) (hs : List Hold) (n : ℕ) (x : Hold) (v : Sight) (u : Operation) → f ∷ hs ≡ o.held → n ≤ length hs → Reads N σ g o x.at → Shows N.deep σ.tree x v
      → ((y : Ref) (d : ℕ) → v ≡ picks.onward y d → Rises 0 (f ∷ hs) d) → (x.depth < N.deep → Rises 0 (f ∷ hs) N.deep)
      → Saw N τ g o (walk.looked f hs n v) → picked σ.tree o n (suc (length hs)) v ≡ Some (busy u) → SeatOk N Key τ g s u
  looked_ok f hs n x picks.stale u e l a b on-to r w q = no_way cc
  looked_ok f hs n x picks.back u e l a b on-to r w q = backs f hs n u e l (r b) w q
  looked_ok f hs n x (picks.onward y d) u e l a b on-to r w q = arrive_at by_key (f ∷ hs) x y d u e a b (λ i. Nexts.take_key f hs y d w (on-to y d refl) b.within i) q
  looked_ok f hs n x (picks.aside y d) u e l a b on-to r w q = arrive_at (down n (suc (length hs))) (f ∷ hs) x y d u e a b
      (λ i. takes_aside (to o (down n (suc (length hs))) (f ∷ hs) (op.take y d)) f hs n y d w (r (omega (arith, b.deeper, b.within))) (omega (arith, b.deeper)) b.within l i) q
  looked_ok f hs n x (picks.got i) u e l a b on-to r w q =
      let k : Stage = scan 0 (pair_at σ.tree i) in
      let m : Operation = to o o.mode (f ∷ hs) k in
      arrive o.mode (f ∷ hs) k u e (Aims.at_none (λ y d q. no_way cc))
      (scans_key m o.mode f hs n (pair_at σ.tree i) (Some i) w (r b.2) st.lawful.deep (says_kept m refl (pair_at σ.tree i) (Some i) (leaf_said x i a b))) q

  -- after a look at the newest node on the way down
  downed_ok : (f : Hold) (hs : List Hold) (h : Hold) (ds : List Hold) (n : ℕ) (x : Hold) (v : Sight) (u : Operation) → f ∷ hs ++ h ∷ ds ≡ o.held → n ≤ length hs → Reads N σ g o x.at
      → Shows N.deep σ.tree x v → (v ≡ picks.back → ⊥) → ((y : Ref) (d : ℕ) → v ≡ picks.onward y d → ⊥) → ((d : ℕ) → x.depth < d → Rises 1 (h ∷ ds) d) → Rises 0 (f ∷ hs) N.deep
      → Saw N τ g o (walk.looked_down f hs (h ∷ ds) n v) → picked σ.tree o n (suc (length hs)) v ≡ Some (busy u) → SeatOk N Key τ g s u
  downed_ok f hs h ds n x picks.stale u e l a b nb na r r' w q = no_way cc
  downed_ok f hs h ds n x picks.back u e l a b nb na r r' w q = absurd (nb refl)
  downed_ok f hs h ds n x (picks.onward y d) u e l a b nb na r r' w q = absurd (na y d refl)
  downed_ok f hs h ds n x (picks.aside y d) u e l a b nb na r r' w q =
      arrive_at (down n (suc (length hs))) (f ∷ hs ++ h ∷ ds) x y d u e a b (λ i. Nexts.take_down f hs (h ∷ ds) n y d w r' (r d b.deeper) b.within l i) q
  downed_ok f hs h ds n x (picks.got i) u e l a b nb na r r' w q =
      let k : Stage = scan 0 (pair_at σ.tree i) in
      let ls : List Hold = f ∷ hs ++ h ∷ ds in
      arrive o.mode ls k u e (Aims.at_none (λ y d q. no_way cc))
      (Nexts.scans o.mode f hs (h ∷ ds) n 0 (pair_at σ.tree i) (Some i) w r' (r N.deep b.2) (says_kept (to o o.mode ls k) refl (pair_at σ.tree i) (Some i) (leaf_said x i a b)) (omega arith)) q

  reads_of : (x : Hold) → In x o.held → Reads N σ g o x.at
  reads_of x m = entry_reads st.inv s o st.was x m

  ends : (f : Hold) (ks : List Hold) → f ∷ ks ≡ o.held → length o.held - 1 ≡ length ks
  ends f ks e = let q : suc (length ks) ≡ length o.held = ap length e in omega (arith, q)

  -- the node that is looked at last
  last_is : (f : Hold) (ks : List Hold) (n : Hold) → f ∷ ks ≡ o.held → slice_get o.held (length o.held - 1) ≡ Some n → walk.newest f ks ≡ n
  last_is f ks n e q = newest_is f ks n (subst (λ (l : List Hold). slice_get l (length l - 1) ≡ Some n) (sym e) q)

  pick_ok : (u : Operation) (m : Mode) (hs : List Hold) (k : Stage) → Nexts N σ g o m hs k → k ≡ look → m ≡ o.mode → hs ≡ o.held → (n : Hold) (j keys : ℕ) (v : Sight) → Sees N σ.tree o n j keys v
      → picked σ.tree o j keys v ≡ Some (busy u) → SeatOk N Key τ g s u
  pick_ok u _ _ _ Nexts.starts q me he x j keys v se p = no_way cc
  pick_ok u _ _ _ (Nexts.take_key f hs y d w r l i) q me he x j keys v se p = no_way cc
  pick_ok u _ _ _ (Nexts.check_key f h hs w r) q me he x j keys v se p = no_way cc
  pick_ok u _ _ _ (Nexts.look_key f hs w r) q me he _ _ _ _ (Sees.along x m b) p =
      let e : walk.newest f hs ≡ x = last_is f hs x he b in
      let a = goes (on f hs [] walk.look_key) (walk.looked f hs (length hs) (key_sight N.deep σ.tree o.key (walk.newest f hs).at (walk.newest f hs).depth)) w Goes.looks_key in
      let c = key_shows N.deep σ.tree o.key x in
      looked_ok f hs (length hs) x (key_sight N.deep σ.tree o.key x.at x.depth) u he (omega arith) (reads_of x (subst (λ (l : List Hold). In x l) he (subst (λ (y : Hold). In y (f ∷ hs)) e (in_newest f hs)))) c
      (λ y d t. rises_to 0 f hs (suc N.deep) d r (subst (λ (y : Hold). y.depth < d) (sym e) (subst (λ (v : Sight). Shows N.deep σ.tree x v) t c).deeper))
      (λ l. rises_to 0 f hs (suc N.deep) N.deep r (subst (λ (y : Hold). y.depth < N.deep) (sym e) l))
      (subst (λ (y : Hold). Saw N τ g o (walk.looked f hs (length hs) (key_sight N.deep σ.tree o.key y.at y.depth))) e a)
      (subst₂ (λ (i n : ℕ). picked σ.tree o i n (key_sight N.deep σ.tree o.key x.at x.depth) ≡ Some (busy u)) (ends f hs he) (sym (ap length he)) p)
  pick_ok u _ _ _ (Nexts.look_key f hs w r) q me he _ _ _ _ (Sees.going_back j x y m b c) p = no_way cc
  pick_ok u _ _ _ (Nexts.look_key f hs w r) q me he _ _ _ _ (Sees.going_down at keys x m b) p = no_way cc
  pick_ok u _ _ _ (Nexts.look_back f hs n w r l) q me he _ _ _ _ (Sees.along x m b) p = no_way cc
  pick_ok u _ _ _ (Nexts.look_back f hs n w r l) q me he _ _ _ _ (Sees.going_back j x y m b c) p =
      let i : j ≡ n = cc in
      let e : walk.place f hs n ≡ x = nth_place f hs n x (subst₂ (λ (l : List Hold) (i : ℕ). slice_get l i ≡ Some x) (sym he) i b) in
      let d : walk.place f hs (suc n) ≡ y = nth_place f hs (suc n) y (subst₂ (λ (l : List Hold) (i : ℕ). slice_get l i ≡ Some y) (sym he) (ap suc i) c) in
      let v : Sight = back_sight N.deep σ.tree (picks.taken held o.key y) x.at x.depth in
      let a = goes (on f hs [] (walk.look_back n)) (walk.looked f hs n (back_sight N.deep σ.tree (picks.taken held o.key (walk.place f hs (suc n))) (walk.place f hs n).at (walk.place f hs n).depth)) w Goes.looks_back in
      looked_ok f hs n x v u he (omega (arith, l)) (reads_of x (subst (λ (l : List Hold). In x l) he (subst (λ (y : Hold). In y (f ∷ hs)) e (in_place' f hs n))))
      (back_shows N.deep σ.tree o.key x (picks.taken held o.key y))
      (λ z d t. absurd (picked_not (picks.past σ.tree x.at (picks.taken held o.key y)) _ z d (back_view N.deep σ.tree (picks.taken held o.key y) x.at x.depth (picks.onward z d) t (λ q. no_way cc))))
      (λ l. r)
      (subst₂ (λ (p c : Hold). Saw N τ g o (walk.looked f hs n (back_sight N.deep σ.tree (picks.taken held o.key c) p.at p.depth))) e d a)
      (subst₂ (λ (i n : ℕ). picked σ.tree o i n v ≡ Some (busy u)) i (sym (ap length he)) p)
  pick_ok u _ _ _ (Nexts.look_back f hs n w r l) q me he _ _ _ _ (Sees.going_down at keys x m b) p = no_way cc
  pick_ok u _ _ _ (Nexts.take_down f hs ds n y d w r r' l i nr) q me he x j keys v se p = no_way cc
  pick_ok u _ _ _ (Nexts.check_down f hs h ds n w r r' l) q me he x j keys v se p = no_way cc
  pick_ok u _ _ _ (Nexts.look_down f hs h ds n w r r' l) q me he _ _ _ _ (Sees.along x m b) p = no_way cc
  pick_ok u _ _ _ (Nexts.look_down f hs h ds n w r r' l) q me he _ _ _ _ (Sees.going_back j x y m b c) p = no_way cc
  pick_ok u _ _ _ (Nexts.look_down f hs h ds n w r r' l) q me he _ _ _ _ (Sees.going_down at keys x m b) p =
      let i : at ≡ n = cc in
      let k : keys ≡ suc (length hs) = cc in
      let c : walk.newest f (hs ++ h ∷ ds) ≡ x = last_is f (hs ++ h ∷ ds) x he b in
      let e : walk.newest h ds ≡ x = sym (newest_append f hs h ds) ∙ c in
      let v : Sight = down_sight N.deep σ.tree x.at x.depth in
      let a = goes (on f hs (h ∷ ds) (walk.look_down n)) (walk.looked_down f hs (h ∷ ds) n (down_sight N.deep σ.tree (walk.newest h ds).at (walk.newest h ds).depth)) w Goes.looks_down in
      downed_ok f hs h ds n x v u he l (reads_of x (subst (λ (l : List Hold). In x l) he (subst (λ (y : Hold). In y (f ∷ hs ++ h ∷ ds)) c (in_newest f (hs ++ h ∷ ds)))))
      (down_shows N.deep σ.tree o.key x)
      (λ t. let w = down_view N.deep σ.tree x.at x.depth picks.back t (λ q. no_way cc) in picks_back w.1 _ w.3)
      (λ z d t. let w = down_view N.deep σ.tree x.at x.depth (picks.onward z d) t (λ q. no_way cc) in picks_not w.1 _ z d w.3)
      (λ d l. rises_to 1 h ds (suc N.deep) d r' (subst (λ (y : Hold). y.depth < d) (sym e) l)) r
      (subst (λ (y : Hold). Saw N τ g o (walk.looked_down f hs (h ∷ ds) n (down_sight N.deep σ.tree y.at y.depth))) e a)
      (subst₂ (λ (i n : ℕ). picked σ.tree o i n v ≡ Some (busy u)) i k p)
  pick_ok u _ _ _ (Nexts.scans m f hs ds n i d y w r r' sa l) q me he x j keys v se p = no_way cc

-- a share more makes nothing sound
shared_sound : (w : ℕ) (m : Meaning) (k : Grip) → Sound (shared w m) k → Sound m k
shared_sound w m (Grip.Permit c v) q = q
shared_sound w m Grip.Locked q = tt

put_sound : (f : Ref → Meaning) (x : Ref) (w : ℕ) (h : Hold) → Sound (put f x (shared w (f x)) h.at) h.grip → Sound (f h.at) h.grip
put_sound f x w h q = go (same h.at x)
  where
    go : Dec (h.at ≡ x) → Sound (f h.at) h.grip
    go (yes e) = shared_sound w (f h.at) h.grip
        (subst (λ (m : Meaning). Sound m h.grip) (ap (put f x (shared w (f x))) e ∙ put_same f x (shared w (f x)) ∙ ap (λ (y : Ref). shared w (f y)) (sym e)) q)
    go (no n) = subst (λ (m : Meaning). Sound m h.grip) (put_else f x h.at (shared w (f x)) n) q

idle_busy : {P : Type 0} (z : Seat) (u : Operation) → z ≡ idle → z ≡ busy u → P
idle_busy z u a b = no_way cc

is_next_lem : {P : Type 0} (t : Task) → t ≡ op.next → is_next t ≡ false → P
is_next_lem t e f = true_false (is_next t) (ap is_next e) f

aim_of : {N : Numbers} {Key : List ℕ → Type 0} {σ : State} {g : Ghosts} {o : Operation} (x : Ref) (d : ℕ) (k : Stage) → Aims N Key σ g o k → k ≡ op.take x d → Reads N σ g o x
aim_of {N} {Key} {σ} {g} {o} x d _ (Aims.at y e a) q = let p : y ≡ x = cc in subst (λ (y : Ref). Reads N σ g o y) p a
aim_of x d _ (Aims.at_none n) q = absurd (n x d q)

calm : (σ τ : State) → WordsAre σ.words τ → (h : Hold) → SoundAt τ h → SoundAt σ h
calm σ τ w h q = subst (λ (m : Meaning). Sound m h.grip) (w h.at) q

module _ {N : Numbers} {Key : List ℕ → Type 0} {σ τ : State} {g : Ghosts} {s : ℕ} {o : Operation} where
  nexts_of : {z : Seat} {r : Outcome} → Step N Key σ τ g s o z r → o.task ≡ op.next → Nexts N σ g o o.mode o.held o.stage
  nexts_of st t = ⊎_elim (λ w. is_next_lem o.task t w.0) (λ w. w.1) (st.inv.seats s o st.was).doing

  row_ok : {z : Seat} {r : Outcome} → Step N Key σ τ g s o z r → o.task ≡ op.next → (u : Operation) → Row N σ τ o z r → z ≡ busy u → SeatOk N Key τ g s u
  row_ok st t u (Row.takes x d q a b w) e =
      let i = st.inv.seats s o st.was in
      let c : Grip = Grip.Permit (σ.words x).count (N.weight o.restarts) in
      let p : to o o.mode (o.held ++ walk.hold x d c ∷ []) (after_take x) ≡ u = cc in
      subst (λ (v : Operation). SeatOk N Key τ g s v) p
      (take_ok st t b.tree (λ h k. put_sound σ.words x (N.weight o.restarts) h (subst (λ (m : Meaning). Sound m h.grip) (w h.at) k)) x d c o.mode o.held o.stage
      (nexts_of st t) q i.reads (aim_of x d o.stage i.aims q))
  row_ok st t u (Row.takes_not x d c q a b) e = restart_ok st b u e
  row_ok st t u (Row.checks_p x q a b c w) e =
      let i = st.inv.seats s o st.was in
      let k : kept_p o.task o.held ≡ o.held = ap (λ (y : Task). kept_p y o.held) t in
      let none : above_p o.task o.held ≡ [] = ap (λ (y : Task). above_p y o.held) t in
      let p : to o o.mode (kept_p o.task o.held) look ≡ u = cc in
      let v : WordsAre σ.words τ = subst (λ (l : List Hold). WordsAre (let_go_all l σ.words) τ) none w in
      subst (λ (v : Operation). SeatOk N Key τ g s v) p
      (subst (λ (l : List Hold). SeatOk N Key τ g s (to o o.mode l look)) (sym k) (check_ok st t c.tree (calm σ τ v) o.mode o.held o.stage (nexts_of st t) q i.reads))
  row_ok st t u (Row.checks_p_not x c q a b w) e = restart_ok st w u e
  row_ok st t u (Row.looks_on hs n y d q a b c f w) e = is_next_lem o.task t a
  row_ok st t u (Row.looks_decides hs n k q a b c f w) e = is_next_lem o.task t a
  row_ok st t u (Row.looks_stale hs n q a b c w) e = is_next_lem o.task t a
  row_ok st t u (Row.checks_n a hs n q b c f w) e = idle_busy _ u w.seat e
  row_ok st t u (Row.checks_n_not a hs n c q b f w) e = restart_ok st w u e
  row_ok st t u (Row.picks_on n j keys v q a b c f w) e =
      pick_ok st t f.tree (calm σ τ w) u o.mode o.held o.stage (nexts_of st t) q refl refl n j keys v b (c ∙ ap (λ (z : Seat). Some z) e)
  row_ok st t u (Row.picks_stale n j keys q a b w) e = restart_ok st w u e
  row_ok st t u (Row.scans i a h q b c l f w) e =
      let p : to o o.mode o.held (scan (suc i) a) ≡ u = cc in
      subst (λ (v : Operation). SeatOk N Key τ g s v) p
      (scan_ok st t f.tree (calm σ τ w) i a o.mode o.held o.stage (nexts_of st t) q l (st.inv.seats s o st.was).reads)
  row_ok st t u (Row.scans_last i a h q b c l f w) e = idle_busy _ u w.seat e
  row_ok st t u (Row.scans_not i a h c q b f w) e = restart_ok st w u e
  row_ok st t u (Row.acts c a rest d d' f hs q b w) e = next_acts o.mode o.held o.stage c (a ∷ rest) d (nexts_of st t) q
  row_ok st t u (Row.acts_not c a rest d x y i q b w) e = restart_ok st w u e
  row_ok st t u (Row.no_room c rest d n q a b f w) e = idle_busy _ u w.seat e

pub next_ok : {N : Numbers} {Key : List ℕ → Type 0} {σ τ : State} {g : Ghosts} {s : ℕ} {o u : Operation} {r : Outcome}
    → Step N Key σ τ g s o (busy u) r → o.task ≡ op.next → Row N σ τ o (busy u) r → SeatOk N Key τ g s u
next_ok {u = u} st t w = row_ok st t u w refl
