use Rattle.std.proofs.Common.{◌≡◌, ◌∙◌, get_or, length, refl, sym, subst, None, Some, Option}
use Rattle.std.proofs.lemmas.List.{get_or_default}
use Rattle.path_lines.specs.declared.table.Inside.{Inside}
use Rattle.path_lines.specs.Tables.{IsSized, IsSizedLine}
use Rattle.path_lines.specs.Exchanges.Pivots.{IsLeavingBy}
use Rattle.path_lines.proofs.Exchanges.Leading.{err_then, exchange_stands, nothing_leaves, ok_then}
use Rattle.path_lines.proofs.exchange.solved_at.Goals as goal

pub returns-in-Some-clause-pivot : goal.returns-in-Some-clause-pivot
returns-in-Some-clause-pivot c =
    let there : (d : Option Inside) → get_or c.args.lines.now c.args.step.leave.at d ≡ Some c.in-Some.inside =
    λ d. get_or_default c.args.lines.now c.args.step.leave.at d c.index-lines-step.result c.requires.leave ∙ sym c.index-lines-step.is ∙ c.in-Some.is in
    let sized : IsSized (length c.args.lines.now) c.in-Some.inside.sum = subst (IsSizedLine (length c.args.lines.now)) (there None) (c.requires.sized c.args.step.leave.at None c.requires.leave) in
    ok_then c.solved_from.result
    (λ pivot solved. record {
      leaving = c.in-Some.inside.sum;
      left = (c.in-Some.inside, refl, c.requires.apart, c.requires.leave, there);
      solved = solved;
      count = solved.by_is.count ∙ sized.count_is;
    })
    c.solved_from.ensures.pivot

pub returns-in-Some-clause-unfit : goal.returns-in-Some-clause-unfit
returns-in-Some-clause-unfit c =
    let left : IsLeavingBy c.args.step c.args.lines.now c.in-Some.inside.sum =
    (c.in-Some.inside, refl, c.requires.apart, c.requires.leave, λ d. get_or_default c.args.lines.now c.args.step.leave.at d c.index-lines-step.result c.requires.leave ∙ sym c.index-lines-step.is ∙ c.in-Some.is) in
    err_then c.solved_from.result
    (λ stop zero same p at there lines ex. absurd (exchange_stands p at c.args.step c.args.lines.now c.in-Some.inside.sum there lines c.requires.enter left ex (zero same)))
    c.solved_from.ensures.unfit

pub returns-in-None-clause-unfit : goal.returns-in-None-clause-unfit
returns-in-None-clause-unfit c = λ same.
    nothing_leaves c.args.step c.args.lines.now (λ d. get_or_default c.args.lines.now c.args.step.leave.at d c.index-lines-step.result c.requires.leave ∙ sym c.index-lines-step.is ∙ c.in-None.is) c.requires.leave
