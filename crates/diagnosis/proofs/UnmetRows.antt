-- The rows that do not hold, one more at a time.
use Rattle.std.proofs.Common.{◌≡◌, ◌≢◌, ◌∙◌, ℕ, suc, ◌+◌, ◌*◌, ◌<◌, ◌≤◌, List, [], ◌∷◌, ◌++◌, length, take, get_or, ℤ, pos, ◌*ℤ◌, inl, inr, refl, sym, ap, subst, arith, All, AllPairs, Any}
use Rattle.std.specs.List.{AllByRecursion as Each}
use Rattle.std.proofs.lemmas.Bool.{cases_order}
use Rattle.std.proofs.lemmas.List.{get_or-take, get_or_default, length-take-le, take_all, take_more}
use Rattle.std.proofs.lemmas.List.Elements.{All-from_recursion, All-nil, All-push, recursion_from_All}
use Rattle.std.proofs.lemmas.List.Quantifiers.{all_pairs_push}
use borrow.Author.Differences.{ints}
use Rattle.frac_core.specs.Fraction.{Fraction, IsLowest, IsRatio}
use Rattle.frac_core.proofs.Integers.{zero-mul_ℤ}
use Rattle.problem_core.specs.Layout.{Problem, Row, error, line_of_row}
use Rattle.problem_core.specs.Kept.{IsWhole}
use Rattle.cert_checker.specs.Certifying.{EachGiven}
use Rattle.certificates.specs.Errors.{IsErrorAt}
use Rattle.diagnosis.specs.Unmet.{AreUnmet}
use Rattle.frac_core.proofs.Numbers.{factor-zero as product-zero}
use Rattle.frac_core.proofs.Lists.{any-front}
use Rattle.frac_core.proofs.Made.{same_fraction}

pub unmet_none : (values : List (ℕ × Fraction)) → AreUnmet [] values []
unmet_none values = record {
  rows_are = All-nil (λ (u : ℕ × Fraction). Any (λ r. (r.id ≡ u.0) × (r.rank < 1000) × EachGiven values (λ x. IsErrorAt x (line_of_row r) u.1)) []);
  lowest = All-nil (λ (u : ℕ × Fraction). IsLowest u.1);
  lacking = All-nil (λ (u : ℕ × Fraction). u.1.num ≢ pos 0);
  rising = λ i j d less within. absurd (omega (arith, within));
  all = All-nil (λ (r : Row). r.rank < 1000 → All (λ (u : ℕ × Fraction). u.0 ≢ r.id) [] → EachGiven values (λ x. error x (line_of_row r) ≡ 0));
}

abbrev IsOf : List (ℕ × Fraction) → ℕ × Fraction → Row → Type 0
IsOf values u r = (r.id ≡ u.0) × (r.rank < 1000) × EachGiven values (λ x. IsErrorAt x (line_of_row r) u.1)

pub any-last : {X : Type 0} (P : X → Type 0) (rows : List X) (r : X) → P r → Any P (rows ++ r ∷ [])
any-last P [] r h = (0, r, omega arith, refl, h)
any-last P (s ∷ rows) r h = let more = any-last P rows r h in (suc more.0, more.1, (let less = more.2 in omega (arith, less)), more.3, more.4)

-- what is listed so far has lesser numbers
listed-below : (rows : List Row) (values unmet : List (ℕ × Fraction)) (r : Row) → All (λ s. s.id < r.id) rows → AreUnmet rows values unmet → All (λ u. u.0 < r.id) unmet
listed-below rows values unmet r below are i d within =
    let n = are.rows_are i d within in
    let less : n.1.id < r.id = subst (λ (s : Row). s.id < r.id) n.3 (below n.0 n.1 n.2) in
    let same = n.4.0 in
    omega (arith, less, same)

both-parts : (P : ℕ × Fraction → Type 0) (us : List (ℕ × Fraction)) (u : ℕ × Fraction) → Each P (us ++ u ∷ []) → Each P us × P u
both-parts P [] u h = (tt, h.0)
both-parts P (v ∷ us) u h = let rest = both-parts P us u h.1 in ((h.0, rest.0), rest.1)

pub front-all : (P : ℕ × Fraction → Type 0) (us : List (ℕ × Fraction)) (u : ℕ × Fraction) → All P (us ++ u ∷ []) → All P us × P u
front-all P us u h = let r = both-parts P us u (recursion_from_All P (us ++ u ∷ []) h) in (All-from_recursion P us r.0, r.1)

pub unmet_skip : (rows : List Row) (values unmet : List (ℕ × Fraction)) (r : Row) → (r.rank < 1000 → EachGiven values (λ x. error x (line_of_row r) ≡ 0)) → AreUnmet rows values unmet → AreUnmet (rows ++ r ∷ []) values unmet
unmet_skip rows values unmet r none are = record {
  rows_are = λ i d within. any-front (IsOf values (get_or unmet i d)) rows r (are.rows_are i d within);
  lowest = are.lowest;
  lacking = are.lacking;
  rising = are.rising;
  all = All-push (λ s. s.rank < 1000 → All (λ u. u.0 ≢ s.id) unmet → EachGiven values (λ x. error x (line_of_row s) ≡ 0)) rows r are.all (λ low apart. none low);
}

pub unmet_push : (rows : List Row) (values unmet new : List (ℕ × Fraction)) (r : Row) (f : Fraction) → All (λ s. s.id < r.id) rows → r.rank < 1000 → EachGiven values (λ x. IsErrorAt x (line_of_row r) f) → IsLowest f → f.num ≢ pos 0 → new ≡ unmet ++ (r.id, f) ∷ []
    → AreUnmet rows values unmet → AreUnmet (rows ++ r ∷ []) values new
unmet_push rows values unmet new r f below low is low_terms some e are =
    subst (AreUnmet (rows ++ r ∷ []) values) (sym e)
    (record {
      rows_are = All-push (λ u. Any (IsOf values u) (rows ++ r ∷ [])) unmet (r.id, f) (λ i d within. any-front (IsOf values (get_or unmet i d)) rows r (are.rows_are i d within)) (any-last (IsOf values (r.id, f)) rows r (refl, low, is));
      lowest = All-push (λ u. IsLowest u.1) unmet (r.id, f) are.lowest low_terms;
      lacking = All-push (λ u. u.1.num ≢ pos 0) unmet (r.id, f) are.lacking some;
      rising = all_pairs_push (λ u v. u.0 < v.0) unmet (r.id, f) are.rising (listed-below rows values unmet r below are);
      all = All-push (λ s. s.rank < 1000 → All (λ u. u.0 ≢ s.id) (unmet ++ (r.id, f) ∷ []) → EachGiven values (λ x. error x (line_of_row s) ≡ 0)) rows r
          (λ i d within small apart. are.all i d within small (front-all (λ u. u.0 ≢ (get_or rows i d).id) unmet (r.id, f) apart).0)
          (λ small apart. absurd ((front-all (λ u. u.0 ≢ r.id) unmet (r.id, f) apart).1 refl));
    })

-- ---- a row by its number

same-row : (rows : List Row) (i j : ℕ) (r s : Row) → AllPairs (λ a b. a.id < b.id) rows → i < length rows → j < length rows → get_or rows i r ≡ r → get_or rows j s ≡ s → r.id ≡ s.id → r ≡ s
same-row rows i j r s rising within also is at same =
    elim (cases_order i j) [
      | inl e ↦ sym is ∙ get_or_default rows i r s within ∙ ap (λ (k : ℕ). get_or rows k s) e ∙ at
      | inr f ↦ elim f [
        | inl less ↦
            let low : (get_or rows i r).id < (get_or rows j r).id = rising i j r less also in
            let a : (get_or rows i r).id ≡ r.id = ap (λ (q : Row). q.id) is in
            let b : (get_or rows j r).id ≡ s.id = ap (λ (q : Row). q.id) (get_or_default rows j r s also ∙ at) in
            absurd (omega (arith, low, a, b, same))
        | inr more ↦
            let low : (get_or rows j r).id < (get_or rows i r).id = rising j i r more within in
            let a : (get_or rows i r).id ≡ r.id = ap (λ (q : Row). q.id) is in
            let b : (get_or rows j r).id ≡ s.id = ap (λ (q : Row). q.id) (get_or_default rows j r s also ∙ at) in
            absurd (omega (arith, low, a, b, same))
      ]
    ]

-- the error that is read by a row's number is the row's
pub own_error : (rows : List Row) (values : List (ℕ × Fraction)) (r : Row) (id : ℕ) (f : Fraction) → AllPairs (λ a b. a.id < b.id) rows → Any (λ s. s ≡ r) rows → id ≡ r.id → Any (λ s. (s.id ≡ id) × EachGiven values (λ x. IsErrorAt x (line_of_row s) f)) rows
    → EachGiven values (λ x. IsErrorAt x (line_of_row r) f)
own_error rows values r id f rising (i, q, within, is, e) same (j, s, also, at, h) =
    let one : q ≡ s = same-row rows i j q s rising within also is at (ap (λ (t : Row). t.id) e ∙ sym same ∙ sym h.0) in
    subst (λ (t : Row). EachGiven values (λ x. IsErrorAt x (line_of_row t) f)) (sym one ∙ e) h.1

-- a row that is not required has a rank below 1000
pub row_rank : (p : Problem) (r : Row) → IsWhole p → Any (λ s. s ≡ r) p.rows → r.rank ≢ 1000 → r.rank < 1000
row_rank p r whole (i, q, within, is, e) other =
    let most : q.rank ≤ 1000 = subst (λ (s : Row). s.rank ≤ 1000) is (whole.rows i q within).rank in
    let low : r.rank ≤ 1000 = subst (λ (s : Row). s.rank ≤ 1000) e most in
    omega (arith, low, other)

-- ---- a fraction of 0

pub no_error : (values : List (ℕ × Fraction)) (r : Row) (f none : Fraction) → EachGiven values (λ x. IsErrorAt x (line_of_row r) f) → f ≡ none → IsLowest none → IsRatio none (pos 0) (pos 1) → EachGiven values (λ x. error x (line_of_row r) ≡ 0)
no_error values r f none is same low ratio x gives =
    let zero-num : none.num ≡ pos 0 = (let z = zero-mul_ℤ (pos none.den) in let m : none.num *ℤ pos 1 ≡ none.num = omega (arith, ints) in sym m ∙ ratio ∙ z) in
    let e : none.num *ℤ pos (x.den * (r.constant.den * r.scale)) ≡ pos (error x (line_of_row r)) *ℤ pos none.den = subst (λ (g : Fraction). IsErrorAt x (line_of_row r) g) same (is x gives) in
    let a = ap (λ (z : ℤ). z *ℤ pos (x.den * (r.constant.den * r.scale))) zero-num in
    let b = zero-mul_ℤ (pos (x.den * (r.constant.den * r.scale))) in
    let p : error x (line_of_row r) * none.den ≡ 0 = omega (arith, ints, e, a, b) in
    product-zero (error x (line_of_row r)) none.den low.above p

pub some_error : (f none : Fraction) → IsLowest f → IsLowest none → IsRatio none (pos 0) (pos 1) → f ≢ none → f.num ≢ pos 0
some_error f none a b ratio other nought =
    let zero-num : none.num ≡ pos 0 = (let z = zero-mul_ℤ (pos none.den) in let m : none.num *ℤ pos 1 ≡ none.num = omega (arith, ints) in sym m ∙ ratio ∙ z) in
    other (same_fraction f none a b
    (ap (λ (z : ℤ). z *ℤ pos none.den) nought ∙ zero-mul_ℤ (pos none.den) ∙ sym (zero-mul_ℤ (pos f.den)) ∙ ap (λ (z : ℤ). z *ℤ pos f.den) (sym zero-num)))

-- ---- the loop

pub unmet_more : (rows : List Row) (values old new : List (ℕ × Fraction)) (i : ℕ) (r : Row) → AllPairs (λ a b. a.id < b.id) rows → i < length rows → r ≡ get_or rows i r
    → ((done : List Row) → All (λ s. s.id < r.id) done → AreUnmet done values old → AreUnmet (done ++ r ∷ []) values new) → AreUnmet (take i rows) values old → AreUnmet (take (i + 1) rows) values new
unmet_more rows values old new i r rising within is step h =
    subst (λ (done : List Row). AreUnmet done values new) (ap (λ (s : Row). take i rows ++ s ∷ []) is ∙ sym (take_more rows i r within))
    (step (take i rows) (λ k d short.
    let less : k < i = omega (arith, short, length-take-le i rows (omega (arith, within))) in
    let low : (get_or rows k d).id < (get_or rows i d).id = rising k i d less within in
    let a : (get_or (take i rows) k d).id ≡ (get_or rows k d).id = ap (λ (q : Row). q.id) (get_or-take i rows k d less) in
    let b : (get_or rows i d).id ≡ r.id = ap (λ (q : Row). q.id) (get_or_default rows i d r within ∙ sym is) in
    omega (arith, low, a, b)) h)

pub unmet_all : (rows : List Row) (values unmet : List (ℕ × Fraction)) (i : ℕ) → length rows ≤ i → AreUnmet (take i rows) values unmet → AreUnmet rows values unmet
unmet_all rows values unmet i over h = subst (λ (done : List Row). AreUnmet done values unmet) (take_all i rows over) h

pub row_there : (rows : List Row) (i : ℕ) (r : Row) → i < length rows → r ≡ get_or rows i r → Any (λ s. s ≡ r) rows
row_there rows i r within is = (i, r, within, sym is, refl)
