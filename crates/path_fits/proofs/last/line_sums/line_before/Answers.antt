use Rattle.std.proofs.Common.{ℕ, ℤ, None, Some, sym, subst}
use Rattle.corner_lines.specs.LineEquations.{IsLineSum, deviation}
use Rattle.path_lines.specs.Tables.{IsLineAt, IsSized, IsSizedLine, name_at}
use Rattle.path_lines.proofs.Walking.FirstLines.{units}
use Rattle.path_lines.proofs.Exchanges.Leading.{ok_then}
use Rattle.path_fits.specs.Sums.{IsUnitSum}
use Rattle.path_fits.proofs.LastCorner.QuantitiesAfter.{copied_sized, copied_sum, unit_equation, unit_sized}
use Rattle.path_fits.proofs.LastCorner.SumsAfter.{unit_line}
use Rattle.path_fits.proofs.last.line_sums.line_before.Goals as goal

pub returns-in-Some-clause-sized : goal.returns-in-Some-clause-sized
returns-in-Some-clause-sized c =
    let sized : IsSized c.args.line.count c.in-Some.inside.sum = subst (IsSizedLine c.args.line.count) c.in-Some.is c.requires in
    ok_then c.with_value.result (λ next copy. copied_sized c.args.line.count c.in-Some.inside.sum next c.in-Some.inside.sum.value copy sized) c.with_value.ensures.copy

pub returns-in-Some-clause-sum : goal.returns-in-Some-clause-sum
returns-in-Some-clause-sum c =
    ok_then c.with_value.result (λ next copy p marks there count within line.
    let kept : IsLineAt p marks (name_at p c.args.line.at) (Some c.in-Some.inside) = subst (IsLineAt p marks (name_at p c.args.line.at)) c.in-Some.is line in
    copied_sum p marks (deviation (name_at p c.args.line.at)) c.in-Some.inside.sum next c.in-Some.inside.sum.value copy kept.1.sized kept.1.equation) c.with_value.ensures.copy

pub returns-in-None-clause-sized : goal.returns-in-None-clause-sized
returns-in-None-clause-sized c = ok_then c.unit_sum.result (λ next unit. unit_sized c.args.line.count c.args.line.at c.zero.result next unit) c.unit_sum.ensures

pub returns-in-None-clause-sum : goal.returns-in-None-clause-sum
returns-in-None-clause-sum c =
    ok_then c.unit_sum.result (λ next unit p marks there count within line.
    let out : IsLineAt p marks (name_at p c.args.line.at) None = subst (IsLineAt p marks (name_at p c.args.line.at)) c.in-None.is line in
    let line_is : IsLineSum p marks (deviation (name_at p c.args.line.at)) 1 (units p c.args.line.at) c.zero.result.num c.zero.result.den =
    subst (λ (d : ℕ). IsLineSum p marks (deviation (name_at p c.args.line.at)) 1 (units p c.args.line.at) c.zero.result.num d) (sym c.zero.ensures.den)
    (subst (λ (z : ℤ). IsLineSum p marks (deviation (name_at p c.args.line.at)) 1 (units p c.args.line.at) z 1) (sym c.zero.ensures.num) (unit_line p marks c.args.line.at there.whole within out)) in
    unit_equation p marks c.args.line.at next (deviation (name_at p c.args.line.at)) c.zero.result there within (subst (λ (n : ℕ). IsUnitSum n c.args.line.at c.zero.result next) count unit) line_is) c.unit_sum.ensures
