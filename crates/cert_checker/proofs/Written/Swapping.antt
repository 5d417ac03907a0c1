-- A sum over all lines, each times the multiplier that is written for its name, is a sum over what is written.
use Rattle.std.proofs.Common.{◌≡◌, ◌≢◌, ℕ, zero, suc, ◌<◌, Bool, true, false, cond, List, [], ◌∷◌, length, get_or, ℤ, pos, ◌+ℤ◌, ◌*ℤ◌, refl, sym, ap, ap₂, subst, ◌∙◌, arith, eq-eqb, ne_eqb}
use borrow.Author.Differences.{ints}
use Rattle.problem_core.specs.declared.parts.RowName.{RowName}
use Rattle.problem_core.specs.declared.parts.RowName.TheVariants.{Held, Stay as StayOf}
use Rattle.problem_core.specs.Layout.{Line, sum_of}
use Rattle.frac_core.proofs.Integers.{add-mul_right, mul-zero_ℤ, zero-mul_ℤ}
use Rattle.problem_core.proofs.Forms.{sum-add, sum-cong, mul-sum}
use Rattle.cert_core.specs.declared.by.By.{By}
use Rattle.cert_core.specs.Claims.{same_row, times_of}

-- ---- names

pub same-true : (a b : RowName) → a ≡ b → same_row a b ≡ true
same-true (Held a) b e = subst (λ (n : RowName). same_row (Held a) n ≡ true) e (eq-eqb a a refl)
same-true (StayOf a) b e = subst (λ (n : RowName). same_row (StayOf a) n ≡ true) e (eq-eqb a a refl)

pub same-false : (a b : RowName) → a ≢ b → same_row a b ≡ false
same-false (Held a) (Held b) n = ne_eqb a b (λ e. n (ap Held e))
same-false (Held a) (StayOf b) n = refl
same-false (StayOf a) (Held b) n = refl
same-false (StayOf a) (StayOf b) n = ne_eqb a b (λ e. n (ap StayOf e))

-- ---- the two sums

cond-times : (b : Bool) (y g : ℤ) → cond b y (pos 0) *ℤ g ≡ y *ℤ cond b g (pos 0)
cond-times true y g = refl
cond-times false y g = zero-mul_ℤ g ∙ sym (mul-zero_ℤ y)

-- what a name picks out of the lines
unfoldable pub picked : (Line → ℤ) → List Line → RowName → ℤ
picked g ls row = sum_of (λ l. cond (same_row row l.name) (g l) (pos 0)) ls

pub zeros : (g : Line → ℤ) (ls : List Line) → sum_of (λ l. pos 0 *ℤ g l) ls ≡ pos 0
zeros g [] = refl
zeros g (l ∷ ls) = omega (arith, ints, zeros g ls)

pub exchanged : (g : Line → ℤ) (ls : List Line) (bys : List By) → sum_of (λ l. times_of bys l.name *ℤ g l) ls ≡ sum_of (λ b. b.times *ℤ picked g ls b.row) bys
unfolding picked
exchanged g ls [] = zeros g ls
exchanged g ls (b ∷ bys) =
    sum-cong (λ l. times_of (b ∷ bys) l.name *ℤ g l) (λ l. b.times *ℤ cond (same_row b.row l.name) (g l) (pos 0) +ℤ times_of bys l.name *ℤ g l) ls
    (λ l. add-mul_right (cond (same_row b.row l.name) b.times (pos 0)) (times_of bys l.name) (g l) ∙ ap (λ (z : ℤ). z +ℤ times_of bys l.name *ℤ g l) (cond-times (same_row b.row l.name) b.times (g l)))
    ∙ sum-add (λ l. b.times *ℤ cond (same_row b.row l.name) (g l) (pos 0)) (λ l. times_of bys l.name *ℤ g l) ls
    ∙ ap₂ ◌+ℤ◌ (mul-sum b.times (λ l. cond (same_row b.row l.name) (g l) (pos 0)) ls) (exchanged g ls bys)

-- ---- what is picked

not_picked : (g : Line → ℤ) (ls : List Line) (row : RowName) → ((k : ℕ) (d : Line) → k < length ls → (get_or ls k d).name ≢ row) → picked g ls row ≡ pos 0
unfolding picked
not_picked g [] row apart = refl
not_picked g (l ∷ ls) row apart =
    let other : cond (same_row row l.name) (g l) (pos 0) ≡ pos 0 = ap (λ (b : Bool). cond b (g l) (pos 0)) (same-false row l.name (λ e. apart 0 l (omega arith) (sym e))) in
    omega (arith, ints, other, not_picked g ls row (λ k d m. apart (suc k) d (omega (arith, m))))

unfoldable pub AreApart : List Line → Type 0
AreApart ls = (i j : ℕ) (d : Line) → i < j → j < length ls → (get_or ls i d).name ≢ (get_or ls j d).name

pub picked-at : (g : Line → ℤ) (ls : List Line) (k : ℕ) (d : Line) → k < length ls → AreApart ls → picked g ls (get_or ls k d).name ≡ g (get_or ls k d)
unfolding picked AreApart
picked-at g [] k d h apart = absurd (omega (arith, h))
picked-at g (l ∷ ls) zero d h apart =
    let here : cond (same_row l.name l.name) (g l) (pos 0) ≡ g l = ap (λ (b : Bool). cond b (g l) (pos 0)) (same-true l.name l.name refl) in
    let rest : picked g ls l.name ≡ pos 0 = not_picked g ls l.name (λ k d m e. apart 0 (suc k) d (omega arith) (omega (arith, m)) (sym e)) in
    omega (arith, ints, here, rest)
picked-at g (l ∷ ls) (suc k) d h apart =
    let other : cond (same_row (get_or ls k d).name l.name) (g l) (pos 0) ≡ pos 0 =
    ap (λ (b : Bool). cond b (g l) (pos 0)) (same-false (get_or ls k d).name l.name (λ e. apart 0 (suc k) d (omega arith) (omega (arith, h)) (sym e))) in
    omega (arith, ints, other, picked-at g ls k d (omega (arith, h)) (λ i j d m n. apart (suc i) (suc j) d (omega (arith, m)) (omega (arith, n))))
