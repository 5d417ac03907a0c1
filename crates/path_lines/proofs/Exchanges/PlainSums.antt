-- Sums and lines after an exchange that adds a multiple of the pivot's numbers.
use Rattle.std.proofs.Common.{◌≡◌, ◌≢◌, ◌∙◌, ℕ, List, length, ℤ, pos, ◌*ℤ◌, refl, sym, ap, ap₂, subst, arith, All, Some}
use borrow.Author.Differences.{ints}
use Rattle.frac_core.specs.Fraction.{Fraction, IsFitting, IsLowest, IsRatio, IsUnfitRatio, sum_den, sum_num}
use Rattle.path_lines.specs.declared.exchange.Pivot.{Pivot}
use Rattle.path_lines.specs.declared.table.Sum.{Sum}
use Rattle.path_lines.specs.declared.table.Inside.{Inside}
use Rattle.path_lines.specs.Numbers.{IsCombined, number_at}
use Rattle.path_lines.specs.Adding.{HasLargeSum}
use Rattle.path_lines.specs.Tables.{IsSized, name_at}
use Rattle.path_lines.specs.Exchanges.Pivots.{IsNextLine, IsNextSum, IsUnfitNext, IsUnfitNextSum}
use Rattle.path_lines.proofs.Arithmetic.AddedNumbers.{blended, blended_is, blended_unfit, one_lowest}
use Rattle.path_lines.proofs.Exchanges.NextLines.{carried_from, carried_unfit, still_inside, value_unfit}
use Rattle.problem_core.specs.declared.parts.Mark.{Mark}

-- the sums' own numbers are 1
one_own : (pivot : Pivot) (sum : Sum) → pivot.size ≡ pos 1 → sum.own ≡ pos 1 → pos 1 ≡ pivot.size *ℤ sum.own
one_own pivot sum size own = sym (ap₂ (λ (x y : ℤ). x *ℤ y) size own)

of_size : (pivot : Pivot) (sum : Sum) (out : List ℤ) → pivot.size ≡ pos 1 → IsCombined (pos 1) sum.by.items (number_at sum.by.items pivot.step.enter.at) pivot.by.items out
    → IsCombined pivot.size sum.by.items (number_at sum.by.items pivot.step.enter.at) pivot.by.items out
of_size pivot sum out size is = subst (λ (z : ℤ). IsCombined z sum.by.items (number_at sum.by.items pivot.step.enter.at) pivot.by.items out) (sym size) is

pub plain_next : (pivot : Pivot) (enters : Fraction) (sum next : Sum) (new : List ℤ) (value : Fraction) → pivot.size ≡ pos 1 → sum.own ≡ pos 1 → next.own ≡ sum.own → next.by.items ≡ new → next.value ≡ value
    → IsCombined (pos 1) sum.by.items (number_at sum.by.items pivot.step.enter.at) pivot.by.items new → All IsFitting new → IsLowest value
    → IsRatio value (sum_num sum.value (number_at sum.by.items pivot.step.enter.at) sum.own enters) (sum_den sum.value sum.own enters) → IsNextSum pivot enters sum next
plain_next pivot enters sum next new value size own next_own next_by next_value is fits lowest ratio = λ p at name there entered sum_is.
    carried_from p at pivot name enters sum next (pos 1) (pos 1) new new value (one_own pivot sum size own) (of_size pivot sum new size is) (one_lowest new) (omega (arith, ints)) (omega (arith, ints), fits)
    lowest ratio (next_own ∙ own) next_by next_value there entered sum_is

pub plain_sized : (count : ℕ) (sum next : Sum) (new : List ℤ) → IsSized count sum → next.own ≡ sum.own → next.by.items ≡ new → length new ≡ length sum.by.items → All IsFitting new → IsSized count next
plain_sized count sum next new sized next_own next_by long fits = record {
  count_is = ap (λ (zs : List ℤ). length zs) next_by ∙ long ∙ sized.count_is;
  above = rw next_own sized.above;
  fits = (rw next_own sized.fits.0, subst (λ (zs : List ℤ). All IsFitting zs) (sym next_by) fits);
}

pub plain_unfit : (pivot : Pivot) (enters : Fraction) (sum : Sum) → pivot.size ≡ pos 1 → sum.own ≡ pos 1 → length sum.by.items ≡ length pivot.by.items
    → HasLargeSum sum.by.items (number_at sum.by.items pivot.step.enter.at) pivot.by.items → IsUnfitNextSum pivot enters sum
plain_unfit pivot enters sum size own long has = λ p at mark there entered sum_is inside.
    let out : List ℤ = blended sum.by.items (number_at sum.by.items pivot.step.enter.at) pivot.by.items in
    carried_unfit p at pivot mark enters sum (pos 1) out there entered sum_is
    (of_size pivot sum out size (blended_is sum.by.items (number_at sum.by.items pivot.step.enter.at) pivot.by.items long)) (one_own pivot sum size own) inside
    (blended_unfit sum.by.items (number_at sum.by.items pivot.step.enter.at) pivot.by.items long has)

pub plain_value_unfit : (pivot : Pivot) (enters : Fraction) (sum : Sum) → pivot.size ≡ pos 1 → length sum.by.items ≡ length pivot.by.items
    → IsUnfitRatio (sum_num sum.value (number_at sum.by.items pivot.step.enter.at) sum.own enters) (sum_den sum.value sum.own enters) → IsUnfitNextSum pivot enters sum
plain_value_unfit pivot enters sum size long unfit = λ p at mark there entered sum_is inside.
    let out : List ℤ = blended sum.by.items (number_at sum.by.items pivot.step.enter.at) pivot.by.items in
    value_unfit p at pivot mark enters sum out there entered sum_is
    (of_size pivot sum out size (blended_is sum.by.items (number_at sum.by.items pivot.step.enter.at) pivot.by.items long)) inside unfit

pub plain_line : (pivot : Pivot) (enters : Fraction) (k : ℕ) (old next : Inside) → k ≢ pivot.step.leave.at → next.side ≡ old.side → IsNextSum pivot enters old.sum next.sum → IsNextLine pivot enters k (Some old) (Some next)
plain_line pivot enters k old next other side is = λ p at there entered within line. (
  rw side (still_inside p at pivot k old.side there within other line.0),
  is p at (name_at p k) there entered line.1,
)

pub plain_line_unfit : (pivot : Pivot) (enters : Fraction) (k : ℕ) (old : Inside) → k ≢ pivot.step.leave.at → IsUnfitNextSum pivot enters old.sum → IsUnfitNext pivot enters k (Some old)
plain_line_unfit pivot enters k old other unfit = λ p at there entered within line.
    unfit p at (record { row = name_at p k; side = old.side }) there entered line.1 (still_inside p at pivot k old.side there within other line.0)
