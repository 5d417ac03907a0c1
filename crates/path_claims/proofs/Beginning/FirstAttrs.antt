-- All attributes fit where the route begins.
use Rattle.std.proofs.Common.{◌+◌, ℕ, Bool, true, false, cond, length, get_or, ℤ, pos, neg_ℤ, subst, arith, sym, ap, List, [], ◌∷◌, ◌∙◌}
use Rattle.std.specs.List.{AllByRecursion as Each}
use Rattle.frac_core.specs.Fraction.{Fraction, IsFitting, IsKept}
use Rattle.problem_core.specs.declared.parts.Mark.{Mark}
use Rattle.problem_core.specs.declared.parts.RowName.{RowName}
use Rattle.problem_core.specs.declared.parts.Stay.{Stay}
use Rattle.problem_core.specs.Layout.{Line, Problem, lines}
use Rattle.problem_core.specs.Kept.{IsWhole}
use Rattle.problem_core.specs.Corners.{attr_column}
use Rattle.problem_core.specs.Unfit.{HasNoWriting}
use Rattle.corner_laws.proofs.LinePlaces.{lines_apart}
use Rattle.corner_lines.specs.LineEquations.{IsLineEquation, IsLineSum, mark_form}
use Rattle.corner_lines.proofs.LevelRows.LevelJoins.{one-divides}
use Rattle.corner_lines.proofs.Lines.LineWritings.{line_writing}
use Rattle.corner_lines.proofs.Lines.MarkForms.{by-places}
use Rattle.path_lines.specs.Route.{over_marks}
use Rattle.path_lines.proofs.Walking.FirstLines.{attr_sum, units}
use Rattle.path_fits.specs.Fits.{AllAttrsFit}

unit_fits : (b : Bool) → IsFitting (cond b (pos 1) (pos 0)) × IsFitting (neg_ℤ (cond b (pos 1) (pos 0)))
unit_fits true = (omega arith, omega arith)
unit_fits false = (omega arith, omega arith)

each_fits : (by : RowName → ℤ) → ((l : Line) → IsFitting (by l.name) × IsFitting (neg_ℤ (by l.name))) → (ls : List Line) → Each (λ (l : Line). IsFitting (by l.name) × IsFitting (neg_ℤ (by l.name))) ls
each_fits by fits [] = tt
each_fits by fits (l ∷ ls) = (fits l, each_fits by fits ls)

-- a target and one deviation
pub unit_fits_there : (p : Problem) (at : List Mark) (attr k : ℕ) (target : Fraction) → IsWhole p → IsKept target → IsLineSum p at (λ x. x (attr_column attr)) 1 (units p k) target.num target.den → HasNoWriting p at (λ x. x (attr_column attr)) → ⊥
unit_fits_there p at attr k target whole kept sum none =
    let equation : IsLineEquation p at (λ x. x (attr_column attr)) 1 (units p k) target.num target.den = record {
      own_positive = sum.own_positive;
      den_positive = sum.den_positive;
      outside = sum.outside;
      holds = sum.holds;
      lowest = λ d divides all. one-divides d divides;
    } in
    none 1 (mark_form (units p k) (lines p)) target (line_writing p at (λ x. x (attr_column attr)) 1 (units p k) target.num target.den whole equation) (omega arith)
    (by-places (λ v z. IsFitting z) (units p k) (lines p) (lines_apart p whole) (λ v. omega arith) (each_fits (units p k) (λ l. unit_fits _) (lines p))) kept

pub attrs_first : (p : Problem) → IsWhole p → AllAttrsFit p (over_marks p)
attrs_first p whole attr (has, none) =
    let s : Stay = has.1 in
    unit_fits_there p (over_marks p) (get_or p.stays has.0 s).attr (length p.rows + has.0) (get_or p.stays has.0 s).target whole (whole.stays has.0 s has.2).target (attr_sum p has.0 s whole has.2)
    (subst (λ (a : ℕ). HasNoWriting p (over_marks p) (λ x. x (attr_column a))) (sym (ap (λ (t : Stay). t.attr) has.3 ∙ has.4)) none)
