use Rattle.std.proofs.Common.{◌≡◌, ◌∙◌, length, get_or, sym, None, Some}
use Rattle.std.proofs.lemmas.List.{get_or_default}
use Rattle.path_lines.specs.Tables.{IsSized}
use Rattle.path_lines.proofs.Exchanges.Leading.{err_then}
use Rattle.path_levels.proofs.Exchanges.PivotFacts.{none_enters, pivot_is, sized_line}
use Rattle.path_levels.proofs.Results.{ok_both}
use Rattle.path_levels.proofs.pivots.pivot_of.Goals as goal

pub returns-in-Some-clause-pivot : goal.returns-in-Some-clause-pivot
returns-in-Some-clause-pivot c =
    let is : get_or c.args.lines.now c.args.step.leave.at None ≡ Some c.in-Some.inside = get_or_default c.args.lines.now c.args.step.leave.at None c.index-lines-step.result c.requires.step.1 ∙ sym c.index-lines-step.is ∙ c.in-Some.is in
    let sized : IsSized (length c.args.lines.now) c.in-Some.inside.sum = sized_line (length c.args.lines.now) (get_or c.args.lines.now c.args.step.leave.at None) c.in-Some.inside is (c.requires.lines c.args.step.leave.at None c.requires.step.1) in
    ok_both c.pivot_from.result (λ pivot turned solved p at there lines ex. pivot_is p at c.args.step c.args.lines.now c.in-Some.inside pivot c.requires.step.0 c.requires.step.1 is sized turned solved there lines ex)
    c.pivot_from.ensures.turned c.pivot_from.ensures.solved

pub returns-in-Some-clause-unfit : goal.returns-in-Some-clause-unfit
returns-in-Some-clause-unfit c =
    let is : get_or c.args.lines.now c.args.step.leave.at None ≡ Some c.in-Some.inside = get_or_default c.args.lines.now c.args.step.leave.at None c.index-lines-step.result c.requires.step.1 ∙ sym c.index-lines-step.is ∙ c.in-Some.is in
    err_then c.pivot_from.result (λ stop unfit same p at there lines ex. none_enters p at c.args.step c.args.lines.now c.in-Some.inside c.requires.step.0 c.requires.step.1 is (unfit same).0 (unfit same).1 there lines ex)
    c.pivot_from.ensures.unfit
