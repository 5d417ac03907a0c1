-- The contribution of terms to a row: to the coefficient of each attribute, and to the constant.
use Rattle.std.specs.Prelude.{ℕ, List, map, take, ⊤}
use Rattle.frac_core.specs.Fraction.{Fraction}
use Rattle.problem_core.specs.Window.{zero_fraction}
use Rattle.view_tree.specs.Views.{LiveView}
use Rattle.script_text.specs.Meaning.{Term}
use Rattle.compile_parts.specs.Fractions.{plus, total}
use Rattle.compile_parts.specs.Meaning as meaning
use Rattle.compile_parts.specs.Meaning.{share, Part, Nothing, Number, Multiple}
use Rattle.compile_parts.specs.Shares.{share_fraction, AreHalves}
use Rattle.compile_parts.specs.declared.addends.Addend as declared_addend
use Rattle.compile_parts.specs.declared.addends.Addend.TheVariants as code

-- the contribution of a term
pub record Addend : Type 0 where
  pub share : ℕ → Fraction
  pub part : Part

-- the contribution of the term, if these views are live
abbrev pub addend : List LiveView → Term → Addend
addend views t = record { share = (λ v. share views v t); part = meaning.part t }

-- the contributions of the terms, in order
abbrev pub addends : List LiveView → List Term → List Addend
addends views terms = map (addend views) terms

-- the coefficient of the attribute v in the sum
abbrev pub sum_of : List Addend → ℕ → Fraction
sum_of added v = total (λ a. a.share v) added

-- the coefficients in the sum of the first n
abbrev pub first_of : List Addend → ℕ → ℕ → Fraction
first_of added n = sum_of (take n added)

-- the coefficients with one addend more
abbrev pub with_addend : (ℕ → Fraction) → Addend → ℕ → Fraction
with_addend b a v = plus (b v) (a.share v)

-- ---- as the code has them

-- how often the addend has each attribute
abbrev pub share_in : declared_addend.Addend → ℕ → Fraction
share_in (code.Attr s) = share_fraction s
share_in (code.Number by) = λ v. zero_fraction
share_in (code.Multiple by name) = λ v. zero_fraction
share_in code.Nothing = λ v. zero_fraction

-- the addend's contribution to the constant
abbrev pub part_in : declared_addend.Addend → Part
part_in (code.Attr s) = Nothing
part_in (code.Number by) = Number by
part_in (code.Multiple by name) = Multiple by name.now
part_in code.Nothing = Nothing

-- the addend's contribution in all
abbrev pub addend_view : declared_addend.Addend → Addend
addend_view a = record { share = share_in a; part = part_in a }

-- the addends' contributions, in order
abbrev pub addends_view : List declared_addend.Addend → List Addend
addends_view added = map addend_view added

-- an attribute is made of halves
abbrev pub IsKept : declared_addend.Addend → Type 0
IsKept (code.Attr s) = AreHalves s.of
IsKept (code.Number by) = ⊤
IsKept (code.Multiple by name) = ⊤
IsKept code.Nothing = ⊤
