-- Where rows lack something, and where they do not; where a wished value fits, and where it does not.
use Rattle.std.proofs.Common.{◌≡◌, ◌≢◌, ◌∙◌, ℕ, zero, suc, ◌+◌, ◌*◌, ◌%◌, ◌<◌, List, [], ◌∷◌, get_or, true, ℤ, pos, negsuc, ◌*ℤ◌, unsigned_abs, refl, sym, ap, subst, arith, Any}
use Rattle.std.proofs.lemmas.List.Elements.{All-from_recursion, All-nil}
use Rattle.std.proofs.lemmas.Nat.Gcd.{IsGcd-from_mod, IsGcd-from_zero}
use borrow.Author.Differences.{ints}
use Rattle.frac_core.specs.Fraction.{Fraction, IsLowest, IsUnfitRatio}
use Rattle.problem_core.specs.declared.parts.Rel.TheVariants.{Eq}
use Rattle.problem_core.specs.Layout.{Assignment, Gives, Row, error, error_of, line_of_row}
use Rattle.cert_checker.specs.Certifying.{EachGiven}
use Rattle.certificates.specs.Errors.{IsErrorAt}
use Rattle.diagnosis.specs.Examples.{whole, wish_row}
use Rattle.diagnosis.specs.Probes.{next_num}
use Rattle.diagnosis.specs.Unmet.{AreUnmet}
use Rattle.diagnosis.proofs.Examples.AmbiguityExamples.{gap_size}
use Rattle.diagnosis.proofs.UnmetRows.{unmet_none, unmet_push, unmet_skip}

abbrev pub values : ℕ → List (ℕ × Fraction)
values n = (1, whole n) ∷ []

-- attribute 1 is n
unfoldable pub at : ℕ → Assignment
at n = record { den = 1; num = λ v. pos n; positive = omega arith }

pub at_gives : (n : ℕ) → Gives (values n) (at n)
unfolding at
at_gives n = All-from_recursion (λ v. (at n).num v.0 *ℤ pos v.1.den ≡ v.1.num *ℤ pos (at n).den) (values n) (refl, tt)

pub wish_error : (n : ℕ) (x : Assignment) → Gives (values n) x → error x (line_of_row wish_row) ≡ n * x.den
wish_error n x gives =
    let g : x.num 1 *ℤ pos 1 ≡ pos n *ℤ pos x.den = gives 0 (1, whole n) (omega arith) in
    let z : x.num 1 ≡ pos (n * x.den) = omega (arith, ints, g) in
    ap (λ (w : ℤ). error_of Eq w) (gap_size (x.num 1) x.den ∙ z) ∙ (let q : n * x.den + 0 ≡ n * x.den = omega arith in q)

wish-lacks : (n : ℕ) → EachGiven (values n) (λ x. IsErrorAt x (line_of_row wish_row) (whole n))
wish-lacks n x gives =
    let e = wish_error n x gives in
    let d : pos n *ℤ pos (x.den * (1 * 1)) ≡ pos (n * x.den) *ℤ pos 1 = ap pos (let q : n * (x.den * (1 * 1)) ≡ n * x.den * 1 = omega arith in q) in
    d ∙ ap (λ (k : ℕ). pos k *ℤ pos 1) (sym e)

three-lowest : IsLowest (whole 3)
three-lowest = record { above = omega arith; coprime = IsGcd-from_mod 3 1 1 (IsGcd-from_zero 1 (3 % 1) refl) }

pub one_lowest : IsLowest (whole 1)
one_lowest = record { above = omega arith; coprime = IsGcd-from_mod 1 1 1 (IsGcd-from_zero 1 (1 % 1) refl) }

-- the wish lacks 3 at 3, whatever its weight
pub wish_unmet : AreUnmet (wish_row ∷ []) (values 3) ((7, whole 3) ∷ [])
wish_unmet = unmet_push [] (values 3) [] ((7, whole 3) ∷ []) wish_row (whole 3) (All-nil (λ (s : Row). s.id < 7)) (omega arith) (wish-lacks 3) three-lowest (λ e. absurd (omega (arith, ints, e))) refl (unmet_none (values 3))

at-wish : (i : ℕ) (r : Row) → i < 1 → get_or (wish_row ∷ []) i r ≡ r → r ≡ wish_row
at-wish zero r within is = sym is
at-wish (suc i) r within is = absurd (omega (arith, within))

pub wish_not_weighted : AreUnmet (wish_row ∷ []) (values 3) ((7, whole 6) ∷ []) → ⊥
unfolding at
wish_not_weighted are = six (are.rows_are 0 (7, whole 6) (omega arith))
  where
    six : Any (λ r. (r.id ≡ 7) × (r.rank < 1000) × EachGiven (values 3) (λ x. IsErrorAt x (line_of_row r) (whole 6))) (wish_row ∷ []) → ⊥
    six (i, r, within, is, h) =
        let e : pos 6 *ℤ pos 1 ≡ pos 3 *ℤ pos 1 = subst (λ (s : Row). EachGiven (values 3) (λ x. IsErrorAt x (line_of_row s) (whole 6))) (at-wish i r within is) h.2 (at 3) (at_gives 3) in
        absurd (omega (arith, ints, e))

pub wish_not_left_out : AreUnmet (wish_row ∷ []) (values 3) [] → ⊥
unfolding at
wish_not_left_out are =
    let e : 3 ≡ 0 = are.all 0 wish_row (omega arith) (omega arith) (All-nil (λ (u : ℕ × Fraction). u.0 ≢ 7)) (at 3) (at_gives 3) in
    absurd (omega (arith, e))

-- it holds at 0
pub wish_met : AreUnmet (wish_row ∷ []) (values 0) []
wish_met = unmet_skip [] (values 0) [] wish_row (λ low x gives. wish_error 0 x gives ∙ (let q : 0 * x.den ≡ 0 = omega arith in q)) (unmet_none (values 0))

-- ---- the value that is wished

-- 2^42 doesn't fit
pub past_the_greatest : IsUnfitRatio (next_num true (whole 4398046511103)) (pos 1)
past_the_greatest f lowest ratio fits = too-great f.num f.den lowest.above ratio fits.num_fits
  where
    too-great : (z : ℤ) (d : ℕ) → 0 < d → z *ℤ pos 1 ≡ pos 4398046511104 *ℤ pos d → unsigned_abs z < 4398046511104 → ⊥
    too-great (pos n) d above e low = absurd (omega (arith, ints, above, e, low))
    too-great (negsuc n) d above e low = absurd (omega (arith, ints, above, e, low))

pub one_fits : IsUnfitRatio (next_num true (whole 0)) (pos 1) → ⊥
one_fits unfit = unfit (whole 1) one_lowest refl (record { num_fits = omega arith; den_fits = omega arith })
