use Rattle.std.proofs.Common.{◌≡◌, ℕ, zero, suc, ◌+◌, ◌<◌, ◌≤◌, Bool, false, not, ltb, cond, eqb, Some, None, Option, sym, refl, ap, ◌∙◌, ⊎_elim, arith}
use Rattle.std.proofs.lemmas.Bool.Decides.{nat_tests}
use Rattle.std.proofs.lemmas.Bool.{eq-eqb, ne_eqb, cases_eq, cond-true, cond-false, cases_lt, cases_order}
use Rattle.nodes.specs.declared.child.Child.{Child}
use Rattle.nodes.specs.declared.child.Edge.{Edge}
use Rattle.nodes.specs.View.{View, Changed, First, Taken, one, count, count_to}

pub changed_at : (f g : View) (b : ℕ) (o : Option Child) → Changed f g b o → g b ≡ o
changed_at f g b o h = h b ∙ cond-true (eqb b b) o (f b) (eq-eqb b b refl)

pub changed_off : (f g : View) (b : ℕ) (o : Option Child) → Changed f g b o → (k : ℕ) → (k ≡ b → ⊥) → g k ≡ f k
changed_off f g b o h k n = h k ∙ cond-false (eqb k b) o (f k) (ne_eqb k b n)

pub changed_from : (f g : View) (b : ℕ) (o : Option Child) → g b ≡ o → ((k : ℕ) → (k ≡ b → ⊥) → g k ≡ f k) → Changed f g b o
changed_from f g b o here off k =
    ⊎_elim
    (λ e. ap g e ∙ here ∙ sym (cond-true (eqb k b) o (f k) (eq-eqb k b e)))
    (λ n. off k n ∙ sym (cond-false (eqb k b) o (f k) (ne_eqb k b n)))
    (cases_eq k b)

pub count_to_off : (f g : View) (b : ℕ) (o : Option Child) → Changed f g b o → (n : ℕ) → n ≤ b → count_to g n ≡ count_to f n
unfolding count_to
count_to_off f g b o h zero l = refl
count_to_off f g b o h (suc n) l =
    let i = count_to_off f g b o h n (omega arith) in
    let e = ap one (changed_off f g b o h n (omega arith)) in
    omega arith

pub count_to_on : (f g : View) (b : ℕ) (o : Option Child) → Changed f g b o → (n : ℕ) → b < n → count_to g n + one (f b) ≡ count_to f n + one o
unfolding count_to
count_to_on f g b o h zero l = absurd (omega arith)
count_to_on f g b o h (suc n) l =
    ⊎_elim
    (λ (e : n ≡ b).
    let i = count_to_off f g b o h n (omega arith) in
    let p = ap one (changed_at f g b o h) in
    let q = ap (λ j. one (g j)) e in
    let r = ap (λ j. one (f j)) e in
    omega arith)
    (λ (m : n ≡ b → ⊥).
    let i = count_to_on f g b o h n (omega arith) in
    let e = ap one (changed_off f g b o h n m) in
    omega arith)
    (cases_eq n b)

pub count_changed : (f g : View) (b : ℕ) (o : Option Child) → b < 256 → Changed f g b o → count g + one (f b) ≡ count f + one o
unfolding count
count_changed f g b o l h = count_to_on f g b o h 256 l

pub one_taken : (o : Option Child) → Taken o → one o ≡ 1
one_taken None t = absurd t
one_taken (Some c) t = refl

pub count_added : (f g : View) (b : ℕ) (c : Child) → b < 256 → f b ≡ None → Changed f g b (Some c) → count g ≡ count f + 1
count_added f g b c l e h = let p = count_changed f g b (Some c) l h in let q = ap one e in omega arith

pub count_kept : (f g : View) (b : ℕ) (c : Child) → b < 256 → Taken (f b) → Changed f g b (Some c) → count g ≡ count f
count_kept f g b c l t h = let p = count_changed f g b (Some c) l h in let q = one_taken (f b) t in omega arith

pub count_freed : (f g : View) (b : ℕ) → b < 256 → Taken (f b) → Changed f g b None → count g + 1 ≡ count f
count_freed f g b l t h = let p = count_changed f g b None l h in let q = one_taken (f b) t in omega arith

count_to_none : (f : View) → ((k : ℕ) → f k ≡ None) → (n : ℕ) → count_to f n ≡ 0
unfolding count_to
count_to_none f h zero = refl
count_to_none f h (suc n) = let i = count_to_none f h n in let e = ap one (h n) in omega arith

pub count_none : (f : View) → ((k : ℕ) → f k ≡ None) → count f ≡ 0
unfolding count
count_none f h = count_to_none f h 256

pub none_taken : (o : Option Child) → o ≡ None → Taken o → ⊥
none_taken None e t = t
none_taken (Some c) e t = let z : ◌≡◌ {A = ℕ} 0 1 = cc in omega arith

count_to_le : (f g : View) → ((k : ℕ) → one (g k) ≤ one (f k)) → (n : ℕ) → count_to g n ≤ count_to f n
unfolding count_to
count_to_le f g h zero = omega arith
count_to_le f g h (suc n) = let i = count_to_le f g h n in let e = h n in omega arith

pub count_le : (f g : View) → ((k : ℕ) → one (g k) ≤ one (f k)) → count g ≤ count f
unfolding count
count_le f g h = count_to_le f g h 256

-- g has f's children below s and no other, and f has one from s on: g has fewer
pub count_fewer : (f g : View) (s : ℕ) (e : Edge) → e.byte < 256 → ((k : ℕ) → k < s → g k ≡ f k) → ((k : ℕ) → s ≤ k → g k ≡ None) → First f s (Some e) → count g < count f
count_fewer f g s e l low high first =
    let h : View = λ k. cond (eqb k e.byte) (Some e.child) (g k) in
    let c : Changed g h e.byte (Some e.child) = λ k. refl in
    let a = count_added g h e.byte e.child l (high e.byte first.0) c in
    let b : count h ≤ count f = count_le f h
    (λ k. ⊎_elim
    (λ (q : k ≡ e.byte).
    let x = ap (λ j. one (h j)) q in
    let y = ap one (changed_at g h e.byte (Some e.child) c) in
    let z = ap (λ j. one (f j)) q in
    let w = ap one first.1 in
    omega arith)
    (λ (q : k ≡ e.byte → ⊥).
    let x = ap one (changed_off g h e.byte (Some e.child) c k q) in
    ⊎_elim
    (λ (m : k < s). let y = ap one (low k m) in omega arith)
    (λ (m : s ≤ k). let y = ap one (high k m) in omega arith)
    (cases_lt k s))
    (cases_eq k e.byte)) in
    omega arith

-- one more child carried over
pub carried_low : (f g h : View) (s : ℕ) (e : Edge) → ((k : ℕ) → k < s → g k ≡ f k) → ((k : ℕ) → s ≤ k → g k ≡ None) → First f s (Some e) → Changed g h e.byte (Some e.child) → (k : ℕ) → k < e.byte + 1 → h k ≡ f k
carried_low f g h s e low high first c k l =
    ⊎_elim
    (λ (q : k ≡ e.byte). ap h q ∙ changed_at g h e.byte (Some e.child) c ∙ sym first.1 ∙ ap f (sym q))
    (λ (q : k ≡ e.byte → ⊥).
    changed_off g h e.byte (Some e.child) c k q
    ∙ ⊎_elim (λ (m : k < s). low k m) (λ (m : s ≤ k). high k m ∙ sym (first.2 k m (omega arith))) (cases_lt k s))
    (cases_eq k e.byte)

-- there is at most one first child
pub first_one : (f : View) (s : ℕ) (q r : Option Edge) → First f s q → First f s r → q ≡ r
first_one f s None None x y = refl
first_one f s None (Some e) x y = let z : ◌≡◌ {A = ℕ} 0 1 = (let h = x e.byte y.0 in let i = y.1 in cc) in absurd (omega arith)
first_one f s (Some e) None x y = let z : ◌≡◌ {A = ℕ} 0 1 = (let h = y e.byte x.0 in let i = x.1 in cc) in absurd (omega arith)
first_one f s (Some d) (Some e) x y =
    ⊎_elim
    (λ (q : d.byte ≡ e.byte). let i = x.1 in let j = y.1 in let k = ap f q in let c : d.child ≡ e.child = cc in
    let mk : ℕ → Child → Option Edge = λ b x. Some (record { byte = b; child = x }) in
    ap (λ b. mk b d.child) q ∙ ap (λ x. mk e.byte x) c)
    (λ t. ⊎_elim
    (λ (q : d.byte < e.byte). let z : ◌≡◌ {A = ℕ} 0 1 = (let h = y.2 d.byte x.0 q in let i = x.1 in cc) in absurd (omega arith))
    (λ (q : e.byte < d.byte). let z : ◌≡◌ {A = ℕ} 0 1 = (let h = x.2 e.byte y.0 q in let i = y.1 in cc) in absurd (omega arith))
    t)
    (cases_order d.byte e.byte)

one_most : (o : Option Child) → one o ≤ 1
one_most None = omega arith
one_most (Some c) = omega arith

count_to_most : (f : View) (n : ℕ) → count_to f n ≤ n
unfolding count_to
count_to_most f zero = omega arith
count_to_most f (suc n) = let i = count_to_most f n in let e = one_most (f n) in omega arith

pub count_most : (f : View) → count f ≤ 256
unfolding count
count_most f = count_to_most f 256

-- what is not full has room
pub room_left : (b : Bool) (a n : ℕ) → b ≡ not (ltb a n) → b ≡ false → a < n
room_left b a n e f = grind (arith, nat_tests)
