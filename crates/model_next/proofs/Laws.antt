-- The laws, from their parts.
use Rattle.std.proofs.Common.{◌≡◌, ℕ, zero, suc, ◌<◌, Bool, true, false, T, ◌⊎◌, List, [], ◌∷◌, ◌++◌, length, get_or, Some, None, sym, refl, ap, ◌∙◌, subst, ap₂, inl, inr, ⊎_elim, arith}
use Rattle.std.proofs.lemmas.Bool.{cases_eq}
use Rattle.std.specs.List.{AllByRecursion}
use Rattle.model.specs.Bytes.{◌≼◌}
use Rattle.model.specs.Tree.{Holds}
use Rattle.model_next.specs.Look.{Held, taken}
use Rattle.model_next.specs.Next.{FirstFrom}
use Rattle.model_next.specs.Walk.{place}
use Rattle.model_next.specs.Laws.{OrderLaws, TreeLaws, OneAnswer, Bad, WalkLaws, FreshLaws}
use Rattle.model.proofs.Bytes.{snoc_byte}
use Rattle.model.proofs.Reach
use Rattle.model_next.proofs.Order.{first_not, first_trans, first_total, comes_first, first_comes, fork, larger_first, smaller_first, same_begins}
use Rattle.model_next.proofs.Snapshot.{snapshot, leaf_best, min, fresh_look, fresh_look_back, fresh_look_down}
use Rattle.model_next.proofs.Walks.{kept, stable, trail}

pub order_stands : OrderLaws
order_stands = record {
  not_self = first_not;
  trans = first_trans;
  total = first_total;
  test = λ u v. (comes_first u v, first_comes u v);
  fork = fork;
  larger_prefix = larger_first;
  smaller_prefix = smaller_first;
  same_prefix = same_begins;
}

pub tree_stands : TreeLaws
tree_stands = record {
  branch = λ deep key flux S G (t, b) x i n l li h.
      let r = Reach.branch t x i n l li h in (
        r.0,
        r.1,
        r.2,
        subst (λ (v : List ℕ). v ≼ (S.entries i).key) (sym (t.kid x r.0 r.1 l r.2).1) r.4,
        λ c z e g. snoc_byte (G.full x) (S.entries i).key c r.0 (subst (λ (v : List ℕ). v ≼ (S.entries i).key) (t.kid x c z l e).1 g) r.4,
      );
  leaf = λ deep key flux S G (t, b) i l. leaf_best t b i l;
  smallest = λ deep key flux S G (t, b) x y c i n l e m. min t b x y c i n l e m;
}

-- two first pairs have one key
first_one : (Has : List ℕ → ℕ → Type 0) (k a b : List ℕ) (v w : ℕ) → FirstFrom Has k a v → FirstFrom Has k b w → a ≡ b
first_one Has k a b v w p q =
    ⊎_elim (λ e. e) (λ h. absurd (⊎_elim (λ f. q.least a v p.has p.from f) (λ f. p.least b w q.has q.from f) h)) (first_total a b)

pub one_stands : OneAnswer
one_stands S G k None None one p q = refl
one_stands S G k None (Some (b, w)) one p q = absurd (q.from (p b w q.has))
one_stands S G k (Some (a, v)) None one p q = absurd (p.from (q a v p.has))
one_stands S G k (Some (a, v)) (Some (b, w)) one p q =
    let e = first_one (Holds S G) k a b v w p q in
    let i : v ≡ w = one b v w (subst (λ (u : List ℕ). Holds S G u v) e p.has) q.has in
    ap₂ (λ (u : List ℕ) (m : ℕ). Some (u, m)) e i

-- each is sound, or some one is not
sound_or : {H : Type 0} (ok : H → Bool) (hs : List H) → AllByRecursion (λ (h : H). T (ok h)) hs ⊎ Bad ok hs 0
sound_or ok [] = inl tt
sound_or {H = H} ok (h ∷ hs) = go (ok h) refl (sound_or ok hs)
  where
    go : (b : Bool) → ok h ≡ b → AllByRecursion (λ (g : H). T (ok g)) hs ⊎ Bad ok hs 0 → AllByRecursion (λ (g : H). T (ok g)) (h ∷ hs) ⊎ Bad ok (h ∷ hs) 0
    go true e (inl a) = inl (subst T (sym e) tt, a)
    go true e (inr (j, g, l, m, i, f)) = inr (suc j, g, omega arith, omega arith, i, f)
    go false e r = inr (0, h, omega arith, omega arith, refl, e)

pub split_all : {H : Type 0} (P : H → Type 0) (hs ds : List H) → AllByRecursion P (hs ++ ds) → AllByRecursion P hs × AllByRecursion P ds
split_all P [] ds a = (tt, a)
split_all P (h ∷ hs) ds a = let r = split_all P hs ds a.1 in ((a.0, r.0), r.1)

pub any_default : {H : Type 0} (hs : List H) (j : ℕ) (g h : H) → j < length hs → get_or hs j g ≡ get_or hs j h
any_default [] j g h l = absurd (omega arith)
any_default (x ∷ hs) zero g h l = refl
any_default (x ∷ hs) (suc j) g h l = any_default hs j g h (omega arith)

pub all_at : {H : Type 0} (P : H → Type 0) (hs : List H) (j : ℕ) (h : H) → AllByRecursion P hs → j < length hs → h ≡ get_or hs j h → P h
all_at P [] j h a l e = absurd (omega arith)
all_at P (x ∷ hs) zero h a l e = subst P (sym e) a.0
all_at P (x ∷ hs) (suc j) h a l e = all_at P hs j h a.1 (omega arith) e

pub not_true : (b : Bool) → T b → b ≡ false → ⊥
not_true true t e = let z : ◌≡◌ {A = ℕ} 0 1 = cc e in omega arith
not_true false t e = t

pub turned : (b c : Bool) → (T c → T b) → b ≡ false → c ≡ false
turned b true f e = absurd (not_true b (f tt) e)
turned b false f e = refl

pub walk_stands : {H : Type 0} (V : Held H) → WalkLaws V
walk_stands {H = H} V = record {
  own = λ deep S k ok w v h g. kept V deep S k (λ (x : H). T (ok x)) w v h g;
  others = λ deep k S S' ok ok' w a h. stable V deep k S S' (λ (x : H). T (ok x)) (λ (x : H). T (ok' x)) w a h;
  begins = λ deep key flux ok S G k f hs ds n r (t, b) still h.
      ⊎_elim
      (λ a.
      let q = split_all (λ (x : H). T (ok x)) hs ds a.1 in
      inl (snapshot t b V (λ (x : H). T (ok x)) k r (trail V deep S k (λ (x : H). T (ok x)) f hs ds n r h) (record { keys = (a.0, q.0); downs = q.1; still = still })))
      inr
      (sound_or ok (f ∷ hs ++ ds));
  bad_stays = λ ok ok' hs i f (j, h, l, m, e, o). (j, h, l, m, e, turned (ok h) (ok' h) (all_at (λ (x : H). T (ok' x) → T (ok x)) hs j h f m e) o);
  passes = λ ok hs i g e o (j, h, l, m, q, f). (
    j,
    h,
    ⊎_elim
        (λ x. let y : g ≡ h = e ∙ ap (λ (z : ℕ). get_or hs z g) x ∙ any_default hs j g h m ∙ sym q in absurd (not_true (ok h) (subst (λ (z : H). T (ok z)) y o) f))
        (λ x. omega arith)
        (cases_eq i j),
    m,
    q,
    f,
  );
  ends = λ ok hs (j, h, l, m, q, f). omega arith;
}

pub fresh_stands : {H : Type 0} (V : Held H) → FreshLaws V
fresh_stands {H = H} V = record {
  key = λ deep key flux ok S G k f hs (t, b) still a w o. fresh_look t b V (λ (x : H). T (ok x)) k still f hs a w o.0 o.1;
  back = λ deep key flux ok S G k f hs n (t, b) still w o. fresh_look_back t b V (λ (x : H). T (ok x)) k still f hs n (taken V k (place f hs (suc n))) w o.0 o.1;
  down = λ deep key flux ok S G k f g hs ds n (t, b) still w o od. fresh_look_down t b V (λ (x : H). T (ok x)) k still f g hs ds n w o.0 o.1 od;
}
