-- The constants of rows which are else alike.
use Rattle.std.proofs.Common.{◌≡◌, ◌≢◌, ◌∙◌, ℕ, zero, suc, ◌<◌, ◌⊎◌, inl, inr, List, [], ◌∷◌, ◌++◌, length, map, get_or, refl, sym, ap, ap₂, subst, arith, All, AllPairs}
use Rattle.std.specs.List.{AllByRecursion as Each}
use Rattle.std.proofs.lemmas.List.{get_or_default}
use Rattle.std.proofs.lemmas.List.Elements.{All-from_recursion}
use Rattle.frac_core.specs.Fraction.{Fraction}
use Rattle.problem_core.specs.Layout.{Row, Problem}
use Rattle.corner_view.specs.Changes.{IsNear}
use Rattle.corner_lines.specs.Shifts.{has_constant}
use Rattle.layout_solver.specs.declared.engine.Change.{Change}
use Rattle.layout_solver.specs.Shifts.{CanShift, shifted}
use Rattle.problem_core.specs.Unfit.{without_constant}
use Rattle.held_items.specs.Moving.{AreNear}
use Rattle.held_items.proofs.Lists.{pairs-cons}
use Rattle.held_items.proofs.Constants.ShiftedRows.{can-shift, near-at, same-row, shift-on, shifted-append, shifted-apart, unchanged}
use Rattle.corner_lines.proofs.ProblemChanges.Shifted.{changed}
use Rattle.frac_core.proofs.Lists.{pairs-nil, pairs-rest as pairs-tail}

abbrev pub change : ℕ → Fraction → Change
change row constant = record { row = row; constant = constant }

-- one change for each of some rows, among them those whose constants differ
abbrev pub AreChanges : List Row → List Row → List Change → Type 0
AreChanges [] [] to = to ≡ []
AreChanges [] (a ∷ after) to = ⊥
AreChanges (b ∷ before) [] to = ⊥
AreChanges (b ∷ before) (a ∷ after) to =
    ((b.constant ≡ a.constant) × AreChanges before after to)
    ⊎ ((more : List Change) × (to ≡ change b.id a.constant ∷ more) × AreChanges before after more)

pub changes-none : (rows : List Row) → AreChanges rows rows []
changes-none [] = refl
changes-none (r ∷ rows) = inl (refl, changes-none rows)

pub changes-append : (xs ys us vs : List Row) (to more : List Change) → AreChanges xs ys to → AreChanges us vs more → AreChanges (xs ++ us) (ys ++ vs) (to ++ more)
changes-append [] [] us vs to more is rest = subst (λ (cs : List Change). AreChanges us vs (cs ++ more)) (sym is) rest
changes-append [] (y ∷ ys) us vs to more is rest = absurd is
changes-append (x ∷ xs) [] us vs to more is rest = absurd is
changes-append (x ∷ xs) (y ∷ ys) us vs to more (inl (e, is)) rest = inl (e, changes-append xs ys us vs to more is rest)
changes-append (x ∷ xs) (y ∷ ys) us vs to more (inr (later, e, is)) rest = inr (later ++ more, ap (λ (cs : List Change). cs ++ more) e, changes-append xs ys us vs later more is rest)

-- ---- what holds of each change

pub each-change : (P : ℕ → Fraction → Type 0) (xs ys : List Row) (to : List Change) → AreChanges xs ys to → ((i : ℕ) (b a : Row) → i < length xs → P (get_or xs i b).id (get_or ys i a).constant) → Each (λ c. P c.row c.constant) to
each-change P [] [] to is h = subst (Each (λ (c : Change). P c.row c.constant)) (sym is) tt
each-change P [] (a ∷ ys) to is h = absurd is
each-change P (b ∷ xs) [] to is h = absurd is
each-change P (b ∷ xs) (a ∷ ys) to (inl (e, is)) h = each-change P xs ys to is (λ i x y within. h (suc i) x y (omega (arith, within)))
each-change P (b ∷ xs) (a ∷ ys) to (inr (more, e, is)) h =
    subst (Each (λ (c : Change). P c.row c.constant)) (sym e)
    (h zero b a (omega arith), each-change P xs ys more is (λ i x y within. h (suc i) x y (omega (arith, within))))

changes-above : (n : ℕ) (xs ys : List Row) (to : List Change) → AreChanges xs ys to → ((i : ℕ) (b : Row) → i < length xs → n < (get_or xs i b).id) → Each (λ c. n < c.row) to
changes-above n xs ys to is above = each-change (λ row constant. n < row) xs ys to is (λ i b a within. above i b within)

first-below : (b : Row) (xs : List Row) → AllPairs (λ r s. r.id < s.id) (b ∷ xs) → (i : ℕ) (d : Row) → i < length xs → b.id < (get_or xs i d).id
first-below b xs rising i d within = rising zero (suc i) d (omega arith) (omega (arith, within))

pub changes-rising : (xs ys : List Row) (to : List Change) → AreChanges xs ys to → AllPairs (λ r s. r.id < s.id) xs → AllPairs (λ a b. a.row < b.row) to
changes-rising [] [] to is rising = subst (AllPairs (λ (a b : Change). a.row < b.row)) (sym is) (pairs-nil (λ (a b : Change). a.row < b.row))
changes-rising [] (a ∷ ys) to is rising = absurd is
changes-rising (b ∷ xs) [] to is rising = absurd is
changes-rising (b ∷ xs) (a ∷ ys) to (inl (e, is)) rising = changes-rising xs ys to is (pairs-tail (λ (r s : Row). r.id < s.id) b xs rising)
changes-rising (b ∷ xs) (a ∷ ys) to (inr (more, e, is)) rising =
    subst (AllPairs (λ (a b : Change). a.row < b.row)) (sym e)
    (pairs-cons (λ (a b : Change). a.row < b.row) (change b.id a.constant) more
    (All-from_recursion (λ (c : Change). b.id < c.row) more (changes-above b.id xs ys more is (first-below b xs rising)))
    (changes-rising xs ys more is (pairs-tail (λ (r s : Row). r.id < s.id) b xs rising)))

-- denominators above 0 stay so
pub above-after : (xs ys : List Row) (to : List Change) → AreChanges xs ys to → Each (λ r. 0 < r.constant.den) xs → Each (λ c. 0 < c.constant.den) to → Each (λ r. 0 < r.constant.den) ys
above-after [] [] to are of_xs of_to = tt
above-after [] (y ∷ ys) to are of_xs of_to = absurd are
above-after (x ∷ xs) [] to are of_xs of_to = absurd are
above-after (x ∷ xs) (y ∷ ys) to (inl (e, are)) of_xs of_to = (subst (λ (f : Fraction). 0 < f.den) e of_xs.0, above-after xs ys to are of_xs.1 of_to)
above-after (x ∷ xs) (y ∷ ys) to (inr (more, e, are)) of_xs of_to =
    let parts : Each (λ c. 0 < c.constant.den) (change x.id y.constant ∷ more) = subst (Each (λ (c : Change). 0 < c.constant.den)) e of_to in
    (parts.0, above-after xs ys more are of_xs.1 parts.1)

-- ---- what the changes make

apart : (n : ℕ) (r : Row) → r.id ≡ n → (to : List Change) → Each (λ c. n < c.row) to → Each (λ c. Each (λ s. s.id ≢ c.row) (r ∷ [])) to
apart n r is [] above = tt
apart n r is (c ∷ to) above = (((λ e. let less : n < c.row = above.0 in omega (arith, e, is, less)), tt), apart n r is to above.1)

-- changes of later rows leave the first
behind : (r : Row) (rows : List Row) (to : List Change) → Each (λ c. r.id < c.row) to → shifted to (r ∷ rows) ≡ r ∷ shifted to rows
behind r rows to above =
    shifted-append to (r ∷ []) rows ∙ ap (λ (rs : List Row). rs ++ shifted to rows) (shifted-apart to (r ∷ []) (apart r.id r refl to above))

others : (b : Row) (xs : List Row) → ((i : ℕ) (d : Row) → i < length xs → b.id < (get_or xs i d).id) → Each (λ r. r.id ≢ b.id) xs
others b [] above = tt
others b (r ∷ xs) above = ((λ e. let less : b.id < r.id = above zero r (omega arith) in omega (arith, e, less)), others b xs (λ i d within. above (suc i) d (omega (arith, within))))

pub changes-rows : (xs ys : List Row) (to : List Change) → AreChanges xs ys to → map without_constant ys ≡ map without_constant xs → AllPairs (λ r s. r.id < s.id) xs → shifted to xs ≡ ys
changes-rows [] [] to is alike rising = ap (λ (cs : List Change). shifted cs []) is
changes-rows [] (a ∷ ys) to is alike rising = absurd is
changes-rows (b ∷ xs) [] to is alike rising = absurd is
changes-rows (b ∷ xs) (a ∷ ys) to (inl (e, is)) alike rising =
    let head : without_constant a ≡ without_constant b = cc in
    let tail : map without_constant ys ≡ map without_constant xs = cc in
    behind b xs to (changes-above b.id xs ys to is (first-below b xs rising))
    ∙ ap₂ (λ (r : Row) (rs : List Row). r ∷ rs) (same-row b a (sym head) e) (changes-rows xs ys to is tail (pairs-tail (λ (r s : Row). r.id < s.id) b xs rising))
changes-rows (b ∷ xs) (a ∷ ys) to (inr (more, e, is)) alike rising =
    let head : without_constant a ≡ without_constant b = cc in
    let tail : map without_constant ys ≡ map without_constant xs = cc in
    let here : has_constant b.id a.constant b ≡ a = shift-on b.id a.constant b refl ∙ same-row (changed a.constant b) a (sym head) refl in
    let ids : b.id ≡ a.id = sym (ap (λ (r : Row). r.id) head) in
    ap (λ (cs : List Change). shifted cs (b ∷ xs)) e
    ∙ ap₂ (λ (r : Row) (rs : List Row). shifted more (r ∷ rs)) here (unchanged b.id a.constant xs (others b xs (first-below b xs rising)))
    ∙ behind a xs more (subst (λ (n : ℕ). Each (λ (c : Change). n < c.row) more) ids (changes-above b.id xs ys more is (first-below b xs rising)))
    ∙ ap (λ (rs : List Row). a ∷ rs) (changes-rows xs ys more is tail (pairs-tail (λ (r s : Row). r.id < s.id) b xs rising))

-- the changes may be made
pub changes-can : (p : Problem) (xs ys : List Row) (to : List Change) → p.rows ≡ xs → AreChanges xs ys to → AllPairs (λ r s. r.id < s.id) xs → AreNear xs ys → All (λ r. 0 < r.constant.den) xs → All (λ r. 0 < r.constant.den) ys → CanShift p to
changes-can p xs ys to rows_are is rising near each_b each_a =
    can-shift to p (each-change (IsNear p) xs ys to is each) (changes-rising xs ys to is rising)
  where
    each : (i : ℕ) (b a : Row) → i < length xs → IsNear p (get_or xs i b).id (get_or ys i a).constant
    each i b a within =
        near-at p i (get_or xs i b) (get_or ys i a).constant
        (subst (AllPairs (λ (r s : Row). r.id < s.id)) (sym rows_are) rising)
        (let long : length p.rows ≡ length xs = ap length rows_are in omega (arith, within, long))
        (ap (λ (rs : List Row). get_or rs i (get_or xs i b)) rows_are ∙ get_or_default xs i (get_or xs i b) b within)
        (each_b i b within)
        (each_a i a (omega (arith, within, near.long)))
        (near.each i b a within)
