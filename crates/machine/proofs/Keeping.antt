-- Every rule keeps its operation.
use Rattle.std.proofs.Common.{◌≡◌, ℕ, zero, suc, List, Some, None, Option, sym, refl, subst}
use Rattle.latches.specs.declared.word.Meaning.{Meaning}
use Rattle.terms.specs.declared.Cause.{Cause}
use Rattle.model.specs.Refs.{Ref}
use Rattle.model.specs.Tree.{Tree}
use Rattle.model.specs.Holds.{Hold}
use Rattle.model.specs.Operations.{Operation, Seat, Outcome, go, Answer, Course, Item, Drawn, Mode, Stage}
use Rattle.model_next.specs.Look as picks
use Rattle.machine.specs.State.{State, with, anew, Restarts, Ends}
use Rattle.machine.specs.Steps.{Row, Follows, picked, goes_back}
use Rattle.machine.specs.Kept.{Kept, StepsKeep}

asked : (o : Operation) (m : Mode) (hs : List Hold) (g : Stage) → Kept o (with o m hs g) go
asked o m hs g = (record { task = refl; key = refl; begun = refl }, refl)

restarted : {σ τ : State} {o : Operation} {c : Cause} {x : Ref} {d : ℕ} {z : Seat} {r : Outcome} → Restarts σ τ o c x d z r → Kept o z r
restarted {o = o} {c = c} {x = x} {d = d} {z = z} {r = r} s =
    subst (λ (w : Seat). Kept o w r) (sym s.seat) (subst (λ (t : Outcome). Kept o (anew o) t) (sym s.outcome) (record { task = refl; key = refl; begun = refl }, (refl, refl)))

ended : (o : Operation) {f : Ref → Meaning} {hs : List Hold} {τ : State} {a : Answer} {z : Seat} {r : Outcome} → Ends f hs τ a z r → Kept o z r
ended o {a = a} {r = r} s = subst (λ (w : Seat). Kept o w r) (sym s.seat) (a, s.outcome)

back_kept : (o : Operation) (j : ℕ) → Kept o (goes_back o j) go
back_kept o zero = asked o _ _ _
back_kept o (suc j) = asked o _ _ _

none_some : {z : Seat} → ◌≡◌ {A = Option Seat} None (Some z) → ⊥
none_some e = let q : ◌≡◌ {A = ℕ} 0 1 = cc in absurd (subst (λ (n : ℕ). Zero n) q tt)
  where
    Zero : ℕ → Type 0
    Zero zero = Unit {0}
    Zero (suc n) = ⊥

some_kept : (o : Operation) (y z : Seat) → ◌≡◌ {A = Option Seat} (Some y) (Some z) → Kept o y go → Kept o z go
some_kept o y z e k = let q : y ≡ z = cc in subst (λ (w : Seat). Kept o w go) q k

picked_kept : (S : Tree) (o : Operation) (j keys : ℕ) (s : picks.Sight) (z : Seat) → picked S o j keys s ≡ Some z → Kept o z go
picked_kept S o j keys picks.stale z e = absurd (none_some e)
picked_kept S o j keys picks.back z e = some_kept o _ z e (back_kept o j)
picked_kept S o j keys (picks.onward y d) z e = some_kept o _ z e (asked o _ _ _)
picked_kept S o j keys (picks.aside y d) z e = some_kept o _ z e (asked o _ _ _)
picked_kept S o j keys (picks.got i) z e = some_kept o _ z e (asked o _ _ _)

followed : {o : Operation} {τ : State} {c : Course} {f : Ref → Meaning} {hs : List Hold} {g : Option Drawn} {is : List Item} {z : Seat} {r : Outcome} → Follows o τ c f hs g is z r → Kept o z r
followed {o = o} (Follows.more w) = asked o _ _ _
followed {o = o} (Follows.over e) = ended o e

pub steps_keep_lem : StepsKeep
steps_keep_lem N σ τ o z r (Row.takes x d g t s w) = asked o _ _ _
steps_keep_lem N σ τ o z r (Row.takes_not x d e g t s) = restarted s
steps_keep_lem N σ τ o z r (Row.checks_p p g e t s w) = asked o _ _ _
steps_keep_lem N σ τ o z r (Row.checks_p_not p e g q t s) = restarted s
steps_keep_lem N σ τ o z r (Row.looks_on hs n y e g t h q s w) = asked o _ _ _
steps_keep_lem N σ τ o z r (Row.looks_decides hs n k g t h q s w) = asked o _ _ _
steps_keep_lem N σ τ o z r (Row.looks_stale hs n g t h q s) = restarted s
steps_keep_lem N σ τ o z r (Row.checks_n a hs n g h q s e) = ended o e
steps_keep_lem N σ τ o z r (Row.checks_n_not a hs n e g h q s) = restarted s
steps_keep_lem N σ τ o z r (Row.picks_on n j keys s g t h q k w) = picked_kept σ.tree o j keys s z q
steps_keep_lem N σ τ o z r (Row.picks_stale n j keys g t h s) = restarted s
steps_keep_lem N σ τ o z r (Row.scans i a h g q t l s w) = asked o _ _ _
steps_keep_lem N σ τ o z r (Row.scans_last i a h g q t l s e) = ended o e
steps_keep_lem N σ τ o z r (Row.scans_not i a h e g q t s) = restarted s
steps_keep_lem N σ τ o z r (Row.acts c a is g g' f hs e d w) = followed w
steps_keep_lem N σ τ o z r (Row.acts_not c a is g e x d q t s) = restarted s
steps_keep_lem N σ τ o z r (Row.no_room c is g q e t h k s) = ended o s
