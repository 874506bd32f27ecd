-- Each step of `next`, and each step of others, leaves true what it has seen.
use Rattle.std.proofs.Common.{◌≡◌, ℕ, zero, suc, List, [], ◌∷◌, ◌++◌, length, Some, None, Option, sym, refl, ◌∙◌, subst, subst₂, arith}
use Rattle.std.specs.List.{AllByRecursion}
use Rattle.model.specs.Refs.{Ref, root}
use Rattle.model.specs.Tree.{Tree}
use Rattle.model_next.specs.Look.{Sight, stale, back, onward, aside, got, key_sight, back_sight, down_sight, Held, taken, Saw, SawDown, Led, past}
use Rattle.model_next.specs.Next.{Trail}
use Rattle.model_next.specs.Walk.{Stage, take_key, check_key, look_key, look_back, take_down, check_down, look_down, scan, Walk, start, on, newest, place, Stands, leaves, looked, looked_down, Goes, Links, DownLinks, DownOpen, DownTo, SeenAt, Seen, Stays, HeldStays}
use Rattle.model_next.proofs.Views.{back_view, picked_not}

module _ {H : Type 0} (V : Held H) (deep : ℕ) (S : Tree) (k : List ℕ) (Ok : H → Type 0) where
  -- a node taken
  push : (f : H) (hs : List H) (n : H) → Saw V deep S k Ok (f ∷ hs) (length hs) (onward (V.at n) (V.depth n)) → Links V deep S k Ok f (hs ++ n ∷ [])
  push f [] n h = (h, tt)
  push f (g ∷ hs) n h = (h.0, push g hs n h.1)

  -- the newest node looked at
  look : (f : H) (hs : List H) → Links V deep S k Ok f hs → Saw V deep S k Ok (f ∷ hs) (length hs) (key_sight deep S k (V.at (newest f hs)) (V.depth (newest f hs)))
  look f [] h = λ o. refl
  look f (g ∷ hs) h = (h.0, look g hs h.1)

  -- a look in going back
  look_again : (f : H) (hs : List H) (n : ℕ) → Saw V deep S k Ok (f ∷ hs) (suc n) back
      → Saw V deep S k Ok (f ∷ hs) n (back_sight deep S (taken V k (place f hs (suc n))) (V.at (place f hs n)) (V.depth (place f hs n)))
  look_again f [] n h = absurd h
  look_again f (g ∷ hs) zero h = (h.0, h.1, λ o. refl)
  look_again f (g ∷ hs) (suc n) h = (h.0, look_again g hs n h.1)

  push_down : (h : H) (hs : List H) (n : H) → SawDown V deep S Ok h hs (aside (V.at n) (V.depth n)) → DownLinks V deep S k Ok h (hs ++ n ∷ [])
  push_down h [] n q = (q, tt)
  push_down h (g ∷ hs) n q = (q.0, push_down g hs n q.1)

  open_down : (s : Sight) (ds : List H) (n : H) → DownTo V deep S k Ok s ds (V.at n) (V.depth n) → DownOpen V deep S k Ok s (ds ++ n ∷ [])
  open_down s [] n q = (q, tt)
  open_down s (h ∷ hs) n q = (q.0, push_down h hs n q.1)

  look_down' : (h : H) (hs : List H) → DownLinks V deep S k Ok h hs → SawDown V deep S Ok h hs (down_sight deep S (V.at (newest h hs)) (V.depth (newest h hs)))
  look_down' h [] q = λ o. refl
  look_down' h (g ∷ hs) q = (q.0, look_down' g hs q.1)

  left : (f : H) (hs : List H) (n : ℕ) → Stands V f root 0 → Saw V deep S k Ok (f ∷ hs) n back → Seen V deep S k Ok (leaves f hs n)
  left f hs zero e h = (e, (back, h, refl, refl))
  left f hs (suc n) e h = (e, h)

  -- after a look at place n, where only the newest may lead onward
  after : (f : H) (hs : List H) (n : ℕ) (s : Sight) → Stands V f root 0 → ((y : Ref) (d : ℕ) → s ≡ onward y d → n ≡ length hs) → Saw V deep S k Ok (f ∷ hs) n s → Seen V deep S k Ok (looked f hs n s)
  after f hs n stale e o h = tt
  after f hs n back e o h = left f hs n e h
  after f hs n (onward y d) e o h = (e, subst (λ (m : ℕ). Saw V deep S k Ok (f ∷ hs) m (onward y d)) (o y d refl) h)
  after f hs n (aside y d) e o h = (e, (aside y d, h, refl))
  after f hs n (got i) e o h = (e, (got i, h, refl, tt))

  after_down : (f : H) (hs : List H) (g : H) (ds : List H) (n : ℕ) (s z : Sight) → Stands V f root 0 → Saw V deep S k Ok (f ∷ hs) n s → s ≡ aside (V.at g) (V.depth g) → SawDown V deep S Ok g ds z
      → Seen V deep S k Ok (looked_down f hs (g ∷ ds) n z)
  after_down f hs g ds n s stale e h q d = tt
  after_down f hs g ds n s back e h q d = tt
  after_down f hs g ds n s (onward y x) e h q d = tt
  after_down f hs g ds n s (aside y x) e h q d = (e, (s, h, (q, d)))
  after_down f hs g ds n s (got i) e h q d = (e, (s, h, (q, d), tt))

  back_never_onward : (b : ℕ) (x : Ref) (d : ℕ) (y : Ref) (e : ℕ) → back_sight deep S b x d ≡ onward y e → ⊥
  back_never_onward b x d y e h =
      let v = back_view deep S b x d (onward y e) h (λ q. let z : ◌≡◌ {A = ℕ} 0 1 = cc q in omega arith) in
      picked_not (past S x b) _ y e v

  -- a step of its own
  pub kept : (w v : Walk H) → Seen V deep S k Ok w → Goes V deep S k w v → Seen V deep S k Ok v
  kept w _ h Goes.restarts = tt
  kept _ _ h (Goes.takes_root n r) = (r, tt)
  kept _ _ h (Goes.takes_key {f = f} {hs = hs} n r) =
      (h.0, push f hs n (subst₂ (λ (y : Ref) (d : ℕ). Saw V deep S k Ok (f ∷ hs) (length hs) (onward y d)) (sym r.0) (sym r.1) h.1))
  kept _ _ h Goes.checks_key = h
  kept _ _ h (Goes.looks_key {f = f} {hs = hs}) = after f hs (length hs) _ h.0 (λ y d e. refl) (look f hs h.1)
  kept _ _ h (Goes.looks_back {f = f} {hs = hs} {n = n}) = after f hs n _ h.0 (λ y d e. absurd (back_never_onward _ _ _ y d e)) (look_again f hs n h.1)
  kept _ _ h (Goes.takes_down {ds = ds} n r) =
      (h.0, (h.1.0, h.1.1, open_down h.1.0 ds n (subst₂ (λ (y : Ref) (d : ℕ). DownTo V deep S k Ok h.1.0 ds y d) (sym r.0) (sym r.1) h.1.2)))
  kept _ _ h Goes.checks_down = h
  kept _ _ h (Goes.looks_down {f = f} {g = g} {hs = hs} {ds = ds} {n = n}) = after_down f hs g ds n h.1.0 _ h.0 h.1.1 h.1.2.0 (look_down' g ds h.1.2.1)
  kept _ _ h Goes.scans = (h.0, tt)

  abbrev pub trail : (f : H) (hs ds : List H) (n : ℕ) (r : Option ℕ) → Seen V deep S k Ok (on f hs ds (scan n 0 r)) → Trail V deep S k Ok r
  trail f hs ds n r h = record {
    first = f;
    keys = hs;
    downs = ds;
    place = n;
    sight = h.1.0;
    at_root = h.0.0;
    at_start = h.0.1;
    saw = h.1.1;
    led = h.1.2;
    past = h.1.3;
  }

-- a step of others
module _ {H : Type 0} (V : Held H) (deep : ℕ) (k : List ℕ) (S S' : Tree) (Ok Ok' : H → Type 0) where
  saw_stays : (hs : List H) (n : ℕ) (s : Sight) → AllByRecursion (Stays V deep k S S' Ok Ok') hs → Saw V deep S k Ok hs n s → Saw V deep S' k Ok' hs n s
  saw_stays [] n s a h = h
  saw_stays (f ∷ []) zero s a h = λ o. a.0.key o ∙ h (a.0.was o)
  saw_stays (f ∷ []) (suc n) s a h = h
  saw_stays (f ∷ g ∷ hs) zero s a h = (λ o. a.0.key o ∙ h.0 (a.0.was o), saw_stays (g ∷ hs) zero back a.1 h.1, λ o. a.0.back o (taken V k g) ∙ h.2 (a.0.was o))
  saw_stays (f ∷ g ∷ hs) (suc n) s a h = (λ o. a.0.key o ∙ h.0 (a.0.was o), saw_stays (g ∷ hs) n s a.1 h.1)

  links_stay : (f : H) (hs : List H) → AllByRecursion (Stays V deep k S S' Ok Ok') (f ∷ hs) → Links V deep S k Ok f hs → Links V deep S' k Ok' f hs
  links_stay f [] a h = tt
  links_stay f (g ∷ hs) a h = (λ o. a.0.key o ∙ h.0 (a.0.was o), links_stay g hs a.1 h.1)

  down_stays : (f : H) (hs : List H) (s : Sight) → AllByRecursion (Stays V deep k S S' Ok Ok') (f ∷ hs) → SawDown V deep S Ok f hs s → SawDown V deep S' Ok' f hs s
  down_stays f [] s a h = λ o. a.0.down o ∙ h (a.0.was o)
  down_stays f (g ∷ hs) s a h = (λ o. a.0.down o ∙ h.0 (a.0.was o), down_stays g hs s a.1 h.1)

  downs_stay : (f : H) (hs : List H) → AllByRecursion (Stays V deep k S S' Ok Ok') (f ∷ hs) → DownLinks V deep S k Ok f hs → DownLinks V deep S' k Ok' f hs
  downs_stay f [] a h = tt
  downs_stay f (g ∷ hs) a h = (λ o. a.0.down o ∙ h.0 (a.0.was o), downs_stay g hs a.1 h.1)

  open_stays : (s : Sight) (ds : List H) → AllByRecursion (Stays V deep k S S' Ok Ok') ds → DownOpen V deep S k Ok s ds → DownOpen V deep S' k Ok' s ds
  open_stays s [] a h = h
  open_stays s (f ∷ ds) a h = (h.0, downs_stay f ds a h.1)

  to_stays : (s : Sight) (ds : List H) (y : Ref) (e : ℕ) → AllByRecursion (Stays V deep k S S' Ok Ok') ds → DownTo V deep S k Ok s ds y e → DownTo V deep S' k Ok' s ds y e
  to_stays s [] y e a h = h
  to_stays s (f ∷ ds) y e a h = (h.0, down_stays f ds (aside y e) a h.1)

  led_stays : (s : Sight) (ds : List H) (r : Option ℕ) → AllByRecursion (Stays V deep k S S' Ok Ok') ds → Led V deep S Ok s ds r → Led V deep S' Ok' s ds r
  led_stays s [] None a h = h
  led_stays s [] (Some i) a h = h
  led_stays s (f ∷ ds) None a h = h
  led_stays s (f ∷ ds) (Some i) a h = (h.0, down_stays f ds (got i) a h.1)

  at_stays : (f : H) (hs ds : List H) (g : Stage) → AllByRecursion (Stays V deep k S S' Ok Ok') (f ∷ hs) → AllByRecursion (Stays V deep k S S' Ok Ok') ds → SeenAt V deep S k Ok f hs ds g → SeenAt V deep S' k Ok' f hs ds g
  at_stays f hs ds (take_key y d) a b h = saw_stays (f ∷ hs) (length hs) (onward y d) a h
  at_stays f hs ds check_key a b h = links_stay f hs a h
  at_stays f hs ds look_key a b h = links_stay f hs a h
  at_stays f hs ds (look_back n) a b h = saw_stays (f ∷ hs) (suc n) back a h
  at_stays f hs ds (take_down n y e) a b h = (h.0, saw_stays (f ∷ hs) n h.0 a h.1, to_stays h.0 ds y e b h.2)
  at_stays f hs ds (check_down n) a b h = (h.0, saw_stays (f ∷ hs) n h.0 a h.1, open_stays h.0 ds b h.2)
  at_stays f hs ds (look_down n) a b h = (h.0, saw_stays (f ∷ hs) n h.0 a h.1, open_stays h.0 ds b h.2)
  at_stays f hs ds (scan n zero r) a b h = (h.0, saw_stays (f ∷ hs) n h.0 a h.1, led_stays h.0 ds r b h.2, h.3)
  at_stays f hs ds (scan n (suc i) r) a b h = tt

  pub stable : (w : Walk H) → HeldStays (Stays V deep k S S' Ok Ok') w → Seen V deep S k Ok w → Seen V deep S' k Ok' w
  stable start a h = tt
  stable (on f hs ds g) a h = (h.0, at_stays f hs ds g a.0 a.1 h.1)
