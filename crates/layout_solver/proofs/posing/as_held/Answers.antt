use Rattle.std.proofs.Common.{◌≡◌, ◌∙◌, refl}
use Rattle.layout_solver.proofs.posing.as_held.Goals as goal

pub of-requires : goal.of-requires
of-requires g c =
    let rows_are : c.in_ok-rows.rows.items ≡ c.args.engine.now.problem.rows = c.in_ok-rows.ensures.rows ∙ c.rows.ensures in
    let stays_are : c.in_ok-stays.stays.items ≡ c.args.engine.now.problem.stays = c.in_ok-stays.ensures.items ∙ c.stays.ensures in
    rw (rows_are, stays_are) c.show_layout.ensures.whole

pub returns : goal.returns
returns g c =
    let rows_are : c.in_ok-rows.rows.items ≡ c.args.engine.now.problem.rows = c.in_ok-rows.ensures.rows ∙ c.rows.ensures in
    let stays_are : c.in_ok-stays.stays.items ≡ c.args.engine.now.problem.stays = c.in_ok-stays.ensures.items ∙ c.stays.ensures in
    rw (c.of.ensures, rows_are, stays_are) refl
