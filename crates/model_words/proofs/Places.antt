-- Which words are gone, effect by effect.
use Rattle.std.proofs.Common.{◌≡◌, ℕ, true, List, [], ◌∷◌, sym, refl, ap, ◌∙◌, subst, inl, inr, ⊎_elim}
use Rattle.model.specs.Holds.{Grip, Hold, put, let_go, let_go_all}
use Rattle.model.specs.Refs.{Ref}
use Rattle.latches.specs.declared.word.Meaning.{Meaning}
use Rattle.model_words.specs.Words.{State}
use Rattle.model.specs.Holds.Grip.{Locked}
use Rattle.latches.specs.Rules.{shared, returned, held as shut, freed}
use Rattle.model_words.specs.Effects.{Does, Released}
use Rattle.model_words.specs.Effects.Does.{take, give, lock, unlock, unlock_gone, revive, pass}
use Rattle.model_words.specs.Places.{Place, Suits, PlacesOk, Proper, NoneRetired}
use Rattle.model_words.proofs.Sums.{pick}
use Rattle.model_words.proofs.Rely.{turn_of}
use Rattle.model_words.proofs.Release.{put_same, put_else}

-- a change that keeps both marks
suits_same : (p : Place) (m n : Meaning) → n.gone ≡ m.gone → n.locked ≡ m.locked → Suits p m → Suits p n
suits_same Place.linked m n a b s = a ∙ s
suits_same Place.drawn m n a b s = a ∙ s
suits_same Place.spare m n a b s = tt
suits_same Place.retired m n a b s = ⊎_elim (λ e. inl (a ∙ e)) (λ e. inr (b ∙ e)) s

-- a change that keeps gone and ends with a lock
suits_shut : (p : Place) (m n : Meaning) → n.gone ≡ m.gone → n.locked ≡ true → Suits p m → Suits p n
suits_shut Place.linked m n a b s = a ∙ s
suits_shut Place.drawn m n a b s = a ∙ s
suits_shut Place.spare m n a b s = tt
suits_shut Place.retired m n a b s = inr b

-- a change that keeps gone, of one that is not retired
suits_freed : (p : Place) (m n : Meaning) → n.gone ≡ m.gone → (p ≡ Place.retired → ⊥) → Suits p m → Suits p n
suits_freed Place.linked m n a b s = a ∙ s
suits_freed Place.drawn m n a b s = a ∙ s
suits_freed Place.spare m n a b s = tt
suits_freed Place.retired m n a b s = absurd (b refl)

suits_by : (p : Place) (n k : Meaning) → k ≡ n → Suits p n → Suits p k
suits_by p n k e s = subst (Suits p) (sym e) s

there : {limit i : ℕ} {x : Ref} {S T : State} (p : Place) (a : Does limit i x S T) → Proper p a → Suits p (S.words x) → Suits p (T.words x)
there {limit} {i} {x} {S} {T} p (take d w may t e l) g s = suits_by p (shared w (S.words x)) (T.words x) e (suits_same p (S.words x) (shared w (S.words x)) refl refl s)
there {limit} {i} {x} {S} {T} p (give d c w t e l) g s = suits_by p (returned w (S.words x)) (T.words x) e (suits_same p (S.words x) (returned w (S.words x)) refl refl s)
there {limit} {i} {x} {S} {T} p (lock d c w may t e l) g s = suits_by p (shut (S.words x)) (T.words x) e (suits_shut p (S.words x) (shut (S.words x)) refl refl s)
there {limit} {i} {x} {S} {T} p (unlock d t e l) g s = suits_by p (freed (S.words x)) (T.words x) e (suits_freed p (S.words x) (freed (S.words x)) refl g s)
there {limit} {i} {x} {S} {T} p (unlock_gone d t e l) g s = subst (λ (q : Place). Suits q (T.words x)) (sym g) (inl (ap (λ (m : Meaning). m.gone) e))
there {limit} {i} {x} {S} {T} p (revive d t e l) g s = subst (λ (q : Place). Suits q (T.words x)) (sym g) tt
there {limit} {i} {x} {S} {T} p (pass d t e l) g s = suits_by p (S.words x) (T.words x) e s

pub places : (st : Ref → Place) {limit i : ℕ} {x : Ref} {S T : State} (a : Does limit i x S T) → Proper (st x) a → PlacesOk st S.words → PlacesOk st T.words
places st {limit} {i} {x} {S} {T} a g ok y = pick y x
    (λ e. subst (λ (z : Ref). Suits (st z) (T.words z)) (sym e) (there (st x) a g (ok x)))
    (λ n. suits_by (st y) (S.words y) (T.words y) ((turn_of a).3.words y n) (ok y))

let_go_suits : (p : Place) (g : Grip) (m : Meaning) → (g ≡ Locked → p ≡ Place.retired → ⊥) → Suits p m → Suits p (let_go g m)
let_go_suits p (Grip.Permit c w) m n s = suits_same p m (returned w m) refl refl s
let_go_suits p Grip.Locked m n s = suits_freed p m (freed m) refl (n refl) s

all_suit : (st : Ref → Place) (hs : List Hold) (f : Ref → Meaning) → NoneRetired st hs → PlacesOk st f → PlacesOk st (let_go_all hs f)
all_suit st [] f n ok = ok
all_suit st (h ∷ hs) f n ok = all_suit st hs (put f h.at (let_go h.grip (f h.at))) n.1 (λ y. pick y h.at
    (λ e. subst (λ (z : Ref). Suits (st z) (put f h.at (let_go h.grip (f h.at)) z)) (sym e)
    (suits_by (st h.at) (let_go h.grip (f h.at)) (put f h.at (let_go h.grip (f h.at)) h.at) (put_same f h.at (let_go h.grip (f h.at)))
    (let_go_suits (st h.at) h.grip (f h.at) n.0 (ok h.at))))
    (λ ne. suits_by (st y) (f y) (put f h.at (let_go h.grip (f h.at)) y) (put_else f h.at y (let_go h.grip (f h.at)) ne) (ok y)))

pub places_release : (st : Ref → Place) (i : ℕ) (S T : State) → Released i S T → NoneRetired st (S.held i) → PlacesOk st S.words → PlacesOk st T.words
places_release st i S T r n ok y = suits_by (st y) (let_go_all (S.held i) S.words y) (T.words y) (r.words y) (all_suit st (S.held i) S.words n ok y)

pub places_turn : (st st' : Ref → Place) (f : Ref → Meaning) (x : Ref) → PlacesOk st f → ((y : Ref) → (y ≡ x → ⊥) → st' y ≡ st y) → Suits (st' x) (f x) → PlacesOk st' f
places_turn st st' f x ok o s y = pick y x (λ e. subst (λ (z : Ref). Suits (st' z) (f z)) (sym e) s) (λ n. subst (λ (p : Place). Suits p (f y)) (sym (o y n)) (ok y))
