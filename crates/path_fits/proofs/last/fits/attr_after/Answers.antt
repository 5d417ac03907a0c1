use Rattle.std.proofs.Common.{ℕ, ◌<◌, length, sym, subst, rules, arith}
use Rattle.std.proofs.lemmas.Result.{err_from_is_err_and}
use Rattle.problem_core.specs.Corners.{attr_column}
use Rattle.path_lines.specs.Tables.{IsSized, IsSizedLine}
use Rattle.path_fits.proofs.LastCorner.AttrsAfter.{has_stay, line_is, stay_within}
use Rattle.path_fits.proofs.last.fits.attr_after.Goals as goal

pub bounds-lines-stay : goal.bounds-lines-stay
bounds-lines-stay c =
    let within = stay_within c.args.case.p.now c.args.attr c.in-Some.stay.at c.in-Some.stay.target c.in-Some.ensures.some in
    omega (arith, within, c.requires.count)

pub offset_bounds-lines-stay : goal.offset_bounds-lines-stay
offset_bounds-lines-stay c =
    let within = stay_within c.args.case.p.now c.args.attr c.in-Some.stay.at c.in-Some.stay.target c.in-Some.ensures.some in
    let inside : c.in-Some.stay.at < length c.args.case.lines.now = omega (arith, within, c.requires.count) in
    search rules

pub attr_before-requires : goal.attr_before-requires
attr_before-requires c =
    let within = stay_within c.args.case.p.now c.args.attr c.in-Some.stay.at c.in-Some.stay.target c.in-Some.ensures.some in
    subst (IsSizedLine (length c.args.case.lines.now)) (sym c.index-lines-stay.is) (c.requires.lines_are c.in-Some.stay.at c.index-lines-stay.result (omega (arith, within, c.requires.count)))

pub returns-in_err-before-clause-unfit : goal.returns-in_err-before-clause-unfit
returns-in_err-before-clause-unfit c =
    let stay = c.in-Some.ensures.some in
    let within = stay_within c.args.case.p.now c.args.attr c.in-Some.stay.at c.in-Some.stay.target stay in
    let exit = err_from_is_err_and c.from_residual.result c.from_residual.ensures.1 in
    rw (exit.1, exit.2) (λ same marks turn lines attrs.
    absurd (attrs c.args.attr (
      has_stay c.args.case.p.now c.args.attr c.in-Some.stay.at c.in-Some.stay.target stay,
      c.in_err-before.ensures.unfit same c.args.case.p.now marks c.args.attr turn.there c.requires.count stay (line_is c.args.case.p.now marks c.args.case.lines.now c.in-Some.stay.at c.index-lines-stay.result lines within c.index-lines-stay.is),
    )))

pub returns-in_err-sum-clause-unfit : goal.returns-in_err-sum-clause-unfit
returns-in_err-sum-clause-unfit c =
    let stay = c.in-Some.ensures.some in
    let within = stay_within c.args.case.p.now c.args.attr c.in-Some.stay.at c.in-Some.stay.target stay in
    let exit = err_from_is_err_and c.from_residual-in_err-sum.result c.from_residual-in_err-sum.ensures.1 in
    rw (exit.1, exit.2) (λ same marks turn lines attrs. (
      has_stay c.args.case.p.now c.args.attr c.in-Some.stay.at c.in-Some.stay.target stay,
      c.in_err-sum.ensures.unfit same c.args.case.p.now marks (λ x. x (attr_column c.args.attr)) turn
          (c.in_ok-before.ensures.attr c.args.case.p.now marks c.args.attr turn.there c.requires.count stay (line_is c.args.case.p.now marks c.args.case.lines.now c.in-Some.stay.at c.index-lines-stay.result lines within c.index-lines-stay.is)),
    ))

pub returns-clause-attr : goal.returns-clause-attr
returns-clause-attr c =
    let stay = c.in-Some.ensures.some in
    let within = stay_within c.args.case.p.now c.args.attr c.in-Some.stay.at c.in-Some.stay.target stay in
    λ marks turn lines. (
      c.in_ok-sum.ensures.next c.args.case.p.now marks (λ x. x (attr_column c.args.attr)) turn
          (c.in_ok-before.ensures.attr c.args.case.p.now marks c.args.attr turn.there c.requires.count stay (line_is c.args.case.p.now marks c.args.case.lines.now c.in-Some.stay.at c.index-lines-stay.result lines within c.index-lines-stay.is)),
      c.in_ok-sum.ensures.kept,
    )

pub returns-clause-sized : goal.returns-clause-sized
returns-clause-sized c = subst (λ (n : ℕ). IsSized n c.in_ok-sum.sum) c.in_ok-before.ensures.sized.count_is c.in_ok-sum.ensures.sized
