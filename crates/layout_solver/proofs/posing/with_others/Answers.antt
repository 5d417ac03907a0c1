use Rattle.std.proofs.Common.{◌≡◌, ◌∙◌, All, ap, refl, subst}
use Rattle.problem_core.specs.Kept.{IsRow}
use Rattle.layout_solver.specs.Shifts.{shifted}
use Rattle.layout_solver.proofs.Posed.Wholes.{shifts_whole}
use Rattle.layout_solver.proofs.posing.with_others.Goals as goal

pub of-requires : goal.of-requires
of-requires g c =
    let rows_are : c.in_ok-rows.rows.items ≡ shifted c.args.to.now c.args.engine.now.problem.rows =
    c.in_ok-rows.ensures.rows ∙ ap (shifted c.args.to.now) c.rows.ensures in
    rw (rows_are, c.in_ok-stays.ensures) (shifts_whole c.args.engine.now c.show_layout.ensures.layout c.args.to.now (subst (All IsRow) rows_are c.in_ok-rows.ensures.each))

pub returns : goal.returns
returns g c =
    let rows_are : c.in_ok-rows.rows.items ≡ shifted c.args.to.now c.args.engine.now.problem.rows =
    c.in_ok-rows.ensures.rows ∙ ap (shifted c.args.to.now) c.rows.ensures in
    rw (c.of.ensures, rows_are, c.in_ok-stays.ensures) refl
