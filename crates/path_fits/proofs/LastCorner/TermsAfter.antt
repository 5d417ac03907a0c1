-- Sums of terms at a corner.
use Rattle.std.proofs.Common.{◌≡◌, ◌∙◌, ℕ, ◌+◌, ◌*◌, ◌<◌, List, length, get_or, take, ℤ, pos, ◌+ℤ◌, ◌-ℤ◌, ◌*ℤ◌, ◌<ℤ◌, unsigned_abs, refl, sym, ap, ap₂, subst, subst₂, arith, All, mul-pos}
use Rattle.std.proofs.lemmas.List.Elements.{recursion_from_All}
use Rattle.std.proofs.Math.Nat.{eq-one_of_dvd-one}
use Rattle.frac_core.specs.Fraction.{Fraction, IsRatio, IsUnfitRatio, sum_den, sum_num}
use Rattle.frac_core.proofs.Integers.{zero-mul_ℤ}
use Rattle.problem_core.proofs.Forms.{each-impl, sum-more, sum-zero}
use Rattle.problem_core.specs.declared.parts.Mark.{Mark}
use Rattle.problem_core.specs.declared.parts.Term.{Term}
use Rattle.problem_core.specs.Layout.{Problem, lines, sum_of}
use Rattle.problem_core.specs.Corners.{attr_column, one_column}
use Rattle.problem_core.specs.Unfit.{HasNoWriting, IsUnfitWhat}
use Rattle.problem_core.specs.declared.stops.What.TheVariants.{Attr}
use Rattle.std.proofs.lemmas.List.{get_or_default}
use Rattle.corner_laws.proofs.LinePlaces.{lines_apart}
use Rattle.path_lines.proofs.Exchanges.EnteringLine.{at_place}
use Rattle.problem_core.specs.Window.{zero_fraction}
use Rattle.corner_lines.specs.LineEquations.{IsLineEquation, IsLineSum, IsUnfitLine, deviation}
use Rattle.corner_lines.proofs.ProblemChanges.JoinedLines.{added, same-sum, same-writing}
use Rattle.corner_lines.proofs.Lines.LineUnfits.{line_sum, line_unfit, reduced_line}
use Rattle.path_lines.specs.declared.table.Sum.{Sum}
use Rattle.path_lines.specs.Numbers.{AreFitting, AreLowest, AreUnfit, IsCombined}
use Rattle.path_lines.specs.Tables.{IsSized, IsThere, line_count, numbers_of}
use Rattle.path_lines.proofs.Exchanges.NextLines.{sized_from}
use Rattle.path_lines.proofs.Arithmetic.NumbersOf.{numbers-combined, reduced_numbers}
use Rattle.path_lines.proofs.Arithmetic.Unfits.{unfit_list_is_unfit}
use Rattle.path_fits.specs.Sums.{IsQuantitySum, IsUnitSum}
use Rattle.path_fits.specs.TermSums.{IsAttrStop, IsMoreStop, IsTermsStop, terms_of}
use Rattle.path_fits.specs.declared.last.terms.TermsStop.{TermsStop}
use Rattle.path_fits.specs.declared.last.terms.TermsStop.TheVariants.{UnfitAttr, UnfitTerms, OutOfMemory}
use Rattle.path_fits.proofs.LastCorner.QuantitiesAfter.{product_is, unit_sized}
use Rattle.frac_core.proofs.Numbers.{pos-size as up}
use Rattle.frac_core.proofs.Divisors.{size_above as some_up}

-- ---- one term more

abbrev pub more_num : Sum → ℤ → Sum → ℤ
more_num sum by more = sum_num sum.value by (pos 1) more.value

abbrev pub more_den : Sum → Sum → ℕ
more_den sum more = sum.value.den * (1 * more.value.den)

joined_sum : (p : Problem) (at : List Mark) (q u : (ℕ → ℤ) → ℤ) (sum more : Sum) (by : ℤ) (out : List ℤ) → IsQuantitySum p at q sum → IsQuantitySum p at u more → IsCombined more.own sum.by.items (sum.own *ℤ by) more.by.items out
    → IsLineSum p at (λ x. q x +ℤ by *ℤ u x) (unsigned_abs more.own * unsigned_abs sum.own) (numbers_of (lines p) out) (more_num sum by more) (more_den sum more)
joined_sum p at q u sum more by out s m combined =
    let own_is : pos (unsigned_abs sum.own) ≡ sum.own = up sum.own s.sized.above in
    let more_is : pos (unsigned_abs more.own) ≡ more.own = up more.own m.sized.above in
    added p at q u by (unsigned_abs sum.own) (numbers_of (lines p) sum.by.items) sum.value (unsigned_abs more.own) (numbers_of (lines p) more.by.items) more.value (numbers_of (lines p) out) (more_num sum by more) (more_den sum more)
    (line_sum p at q (unsigned_abs sum.own) (numbers_of (lines p) sum.by.items) sum.value.num sum.value.den s.equation)
    (line_sum p at u (unsigned_abs more.own) (numbers_of (lines p) more.by.items) more.value.num more.value.den m.equation)
    (λ k d within.
    numbers-combined more.own (sum.own *ℤ by) (lines p) sum.by.items more.by.items out (get_or (lines p) k d).name s.sized.count_is m.sized.count_is combined
    ∙ ap₂ (λ (a b : ℤ). a *ℤ numbers_of (lines p) sum.by.items (get_or (lines p) k d).name +ℤ (b *ℤ by) *ℤ numbers_of (lines p) more.by.items (get_or (lines p) k d).name) (sym more_is) (sym own_is))
    (den_above sum.value.den more.value.den s.equation.den_positive m.equation.den_positive) refl
  where
    den_above : (a b : ℕ) → 0 < a → 0 < b → 0 < a * (1 * b)
    den_above a b h k = mul-pos h (let o : 0 < 1 * b = omega (arith, k) in o)

pub term_more : (p : Problem) (at : List Mark) (q u : (ℕ → ℤ) → ℤ) (sum more next : Sum) (by own low : ℤ) (out part : List ℤ) (value : Fraction) → IsThere p at → IsQuantitySum p at q sum → IsQuantitySum p at u more → own ≡ more.own *ℤ sum.own
    → IsCombined more.own sum.by.items (sum.own *ℤ by) more.by.items out → AreLowest own out low part → pos 0 <ℤ low → AreFitting low part → 0 < value.den → IsRatio value (sum_num sum.value by (pos 1) more.value) (sum_den sum.value (pos 1) more.value)
    → next.own ≡ low → next.by.items ≡ part → next.value ≡ value → IsQuantitySum p at (λ x. q x +ℤ by *ℤ u x) next
term_more p at q u sum more next by own low out part value there s m own_is combined are above fits den ratio next_own next_by next_value =
    let long : length out ≡ line_count p = combined.count ∙ s.sized.count_is in
    let lowest : AreLowest (pos (unsigned_abs more.own * unsigned_abs sum.own)) out (pos (unsigned_abs low)) part =
    subst₂ (λ (x y : ℤ). AreLowest x out y part) (own_is ∙ sym (product_is more.own sum.own m.sized.above s.sized.above)) (sym (up low above)) are in
    let e : IsLineEquation p at (λ x. q x +ℤ by *ℤ u x) (unsigned_abs low) (numbers_of (lines p) part) value.num value.den =
    reduced_line p at (λ x. q x +ℤ by *ℤ u x) (unsigned_abs more.own * unsigned_abs sum.own) (numbers_of (lines p) out) (more_num sum by more) (more_den sum more) (unsigned_abs low) (numbers_of (lines p) part) value
    (joined_sum p at q u sum more by out s m combined)
    (reduced_numbers p (unsigned_abs more.own * unsigned_abs sum.own) (unsigned_abs low) out part there.whole long (some_up low above) lowest) den ratio in
    record {
      sized = sized_from (line_count p) next own low out part are long above fits next_own next_by;
      equation = subst (λ (f : Fraction). IsLineEquation p at (λ x. q x +ℤ by *ℤ u x) (unsigned_abs next.own) (numbers_of (lines p) next.by.items) f.num f.den) (sym next_value)
          (subst₂ (λ (z : ℤ) (zs : List ℤ). IsLineEquation p at (λ x. q x +ℤ by *ℤ u x) (unsigned_abs z) (numbers_of (lines p) zs) value.num value.den) (sym next_own) (sym next_by) e);
    }

told : (p : Problem) (at : List Mark) (q u : (ℕ → ℤ) → ℤ) (sum more : Sum) (by : ℤ) (out : List ℤ) → IsThere p at → IsQuantitySum p at q sum → IsQuantitySum p at u more → IsCombined more.own sum.by.items (sum.own *ℤ by) more.by.items out
    → IsUnfitLine p (unsigned_abs more.own * unsigned_abs sum.own) (numbers_of (lines p) out) (more_num sum by more) (more_den sum more) → HasNoWriting p at (λ x. q x +ℤ by *ℤ u x)
told p at q u sum more by out there s m combined unfit =
    line_unfit p at (λ x. q x +ℤ by *ℤ u x) (unsigned_abs more.own * unsigned_abs sum.own) (numbers_of (lines p) out) (more_num sum by more) (more_den sum more) there.whole there.corner there.rays (joined_sum p at q u sum more by out s m combined) unfit

pub term_list_unfit : (p : Problem) (at : List Mark) (q u : (ℕ → ℤ) → ℤ) (sum more : Sum) (by own : ℤ) (out : List ℤ) → IsThere p at → IsQuantitySum p at q sum → IsQuantitySum p at u more → own ≡ more.own *ℤ sum.own → IsCombined more.own sum.by.items (sum.own *ℤ by) more.by.items out
    → AreUnfit own out → HasNoWriting p at (λ x. q x +ℤ by *ℤ u x)
term_list_unfit p at q u sum more by own out there s m own_is combined unfit =
    told p at q u sum more by out there s m combined
    (unfit_list_is_unfit p (unsigned_abs more.own * unsigned_abs sum.own) out (more_num sum by more) (more_den sum more) there.whole (combined.count ∙ s.sized.count_is)
    (subst (λ (z : ℤ). AreUnfit z out) (own_is ∙ sym (product_is more.own sum.own m.sized.above s.sized.above)) unfit))

pub term_value_unfit : (p : Problem) (at : List Mark) (q u : (ℕ → ℤ) → ℤ) (sum more : Sum) (by : ℤ) (out : List ℤ) → IsThere p at → IsQuantitySum p at q sum → IsQuantitySum p at u more → IsCombined more.own sum.by.items (sum.own *ℤ by) more.by.items out
    → IsUnfitRatio (sum_num sum.value by (pos 1) more.value) (sum_den sum.value (pos 1) more.value) → HasNoWriting p at (λ x. q x +ℤ by *ℤ u x)
term_value_unfit p at q u sum more by out there s m combined unfit =
    told p at q u sum more by out there s m combined (λ low part value reduced ratio low_fits part_fit kept. unfit value kept.lowest ratio kept.fits)

-- ---- term by term

pub same_quantity : (p : Problem) (at : List Mark) (q u : (ℕ → ℤ) → ℤ) (sum : Sum) → ((x : ℕ → ℤ) → q x ≡ u x) → IsQuantitySum p at q sum → IsQuantitySum p at u sum
same_quantity p at q u sum same s =
    let e = same-sum p at q u (unsigned_abs sum.own) (numbers_of (lines p) sum.by.items) sum.value.num sum.value.den same (line_sum p at q (unsigned_abs sum.own) (numbers_of (lines p) sum.by.items) sum.value.num sum.value.den s.equation) in
    record {
      sized = s.sized;
      equation = record { own_positive = e.own_positive; den_positive = e.den_positive; outside = e.outside; holds = e.holds; lowest = s.equation.lowest };
    }

pub terms_more : (terms : List Term) (k : ℕ) (d : Term) (x : ℕ → ℤ) → k < length terms → terms_of (take k terms) x +ℤ (get_or terms k d).by *ℤ x (attr_column (get_or terms k d).attr) ≡ terms_of (take (k + 1) terms) x
terms_more terms k d x within = sym (sum-more (λ (t : Term). t.by *ℤ x (attr_column t.attr)) terms k d within)

pub no_terms_yet : (p : Problem) (at : List Mark) (terms : List Term) (sum : Sum) (count : ℕ) → count ≡ line_count p → IsUnitSum count count zero_fraction sum → IsThere p at → IsQuantitySum p at (terms_of (take 0 terms)) sum
no_terms_yet p at terms sum count count_is unit there =
    let none : All (λ l. numbers_of (lines p) sum.by.items l.name ≡ pos 0) (lines p) =
    λ k d within.
    at_place (lines p) sum.by.items k d (lines_apart p there.whole) (unit.by.count_is ∙ count_is) within
    ∙ unit.by.others k (omega (arith, within, count_is)) (λ e. absurd (omega (arith, within, count_is, e))) in
    record {
      sized = subst (λ (n : ℕ). IsSized n sum) count_is (unit_sized count count zero_fraction sum unit);
      equation = subst₂ (λ (z : ℤ) (f : Fraction). IsLineEquation p at (terms_of (take 0 terms)) (unsigned_abs z) (numbers_of (lines p) sum.by.items) f.num f.den) (sym unit.own) (sym unit.value_is) (record {
        own_positive = omega arith;
        den_positive = omega arith;
        outside = λ k d within some. absurd (some (none k d within));
        holds = λ x solves.
            nothing (terms_of (take 0 terms) x.num) (sum_of (λ l. numbers_of (lines p) sum.by.items l.name *ℤ deviation l.name x.num) (lines p)) (x.num one_column) refl
            (sum-zero (λ l. numbers_of (lines p) sum.by.items l.name *ℤ deviation l.name x.num) (lines p)
            (each-impl (λ l. numbers_of (lines p) sum.by.items l.name ≡ pos 0) (λ l. numbers_of (lines p) sum.by.items l.name *ℤ deviation l.name x.num ≡ pos 0) (lines p) (λ l e. ap (λ (z : ℤ). z *ℤ deviation l.name x.num) e ∙ zero-mul_ℤ (deviation l.name x.num))
            (recursion_from_All (λ l. numbers_of (lines p) sum.by.items l.name ≡ pos 0) (lines p) none)));
        lowest = λ k d all. eq-one_of_dvd-one d;
      });
    }
  where
    nothing : (q s o : ℤ) → q ≡ pos 0 → s ≡ pos 0 → pos 1 *ℤ (pos 1 *ℤ q -ℤ s) ≡ pos 1 *ℤ (pos 0 *ℤ o)
    nothing q s o e f = ap₂ (λ (a b : ℤ). pos 1 *ℤ (pos 1 *ℤ a -ℤ b)) e f ∙ ap (λ (z : ℤ). pos 1 *ℤ z) (sym (zero-mul_ℤ o))

-- why it stops
pub attr_stops : (p : Problem) (at : List Mark) (terms : List Term) (k : ℕ) (d : Term) (stop : TermsStop) → k < length terms → IsAttrStop p at (get_or terms k d).attr stop → IsTermsStop p at terms stop
attr_stops p at terms k d (UnfitAttr attr) within is =
    ((k, get_or terms k d, within, get_or_default terms k (get_or terms k d) d within, sym is.0), subst (λ (a : ℕ). IsUnfitWhat p at (Attr a)) (sym is.0) is.1)
attr_stops p at terms k d (UnfitTerms j) within is = absurd is
attr_stops p at terms k d OutOfMemory within is = tt

pub more_stops : (p : Problem) (at : List Mark) (terms : List Term) (k : ℕ) (d : Term) (sum more : Sum) (stop : TermsStop) → k < length terms → IsThere p at → IsQuantitySum p at (terms_of (take k terms)) sum → IsQuantitySum p at (λ x. x (attr_column (get_or terms k d).attr)) more
    → IsMoreStop sum (get_or terms k d).by more k stop → IsTermsStop p at terms stop
more_stops p at terms k d sum more (UnfitAttr attr) within there s m is = absurd is
more_stops p at terms k d sum more (UnfitTerms j) within there s m is = (
  omega (arith, is.0),
  omega (arith, is.0, within),
  subst (λ (i : ℕ). HasNoWriting p at (terms_of (take i terms))) (sym is.0)
      (same-writing p at (λ x. terms_of (take k terms) x +ℤ (get_or terms k d).by *ℤ x (attr_column (get_or terms k d).attr)) (terms_of (take (k + 1) terms)) (λ x. terms_more terms k d x within)
      (is.1 p at (terms_of (take k terms)) (λ x. x (attr_column (get_or terms k d).attr)) there s m)),
)
more_stops p at terms k d sum more OutOfMemory within there s m is = tt
