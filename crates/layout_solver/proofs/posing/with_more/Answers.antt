use Rattle.std.proofs.Common.{◌≡◌, ◌∙◌, ◌++◌, List, ap, refl}
use Rattle.problem_core.specs.declared.parts.Stay.{Stay}
use Rattle.problem_core.specs.Layout.{Row}
use Rattle.layout_solver.specs.Layouts.{stays_at, zeros}
use Rattle.layout_solver.proofs.Posed.Moves.{stays-added}
use Rattle.layout_solver.proofs.posing.with_more.Goals as goal

pub of-requires : goal.of-requires
of-requires g c =
    let rows_are : c.append.new.self.items ≡ c.args.engine.now.problem.rows ++ c.args.rows.items =
    c.in_ok-append.ensures.items ∙ ap (λ (rs : List Row). rs ++ c.args.rows.items) (c.in_ok-all.ensures.rows ∙ c.rows.ensures) in
    let stays_are : c.push_zeros.new.stays.items ≡ stays_at (c.args.engine.now.values ++ zeros c.args.attrs.now) =
    c.in_ok-push_zeros.ensures ∙ ap (λ (ss : List Stay). ss ++ stays_at (zeros c.args.attrs.now)) c.in_ok-stays.ensures
    ∙ stays-added c.args.engine.now.values c.args.attrs.now in
    rw (rows_are, stays_are) c.requires

pub returns : goal.returns
returns g c =
    let rows_are : c.append.new.self.items ≡ c.args.engine.now.problem.rows ++ c.args.rows.items =
    c.in_ok-append.ensures.items ∙ ap (λ (rs : List Row). rs ++ c.args.rows.items) (c.in_ok-all.ensures.rows ∙ c.rows.ensures) in
    let stays_are : c.push_zeros.new.stays.items ≡ stays_at (c.args.engine.now.values ++ zeros c.args.attrs.now) =
    c.in_ok-push_zeros.ensures ∙ ap (λ (ss : List Stay). ss ++ stays_at (zeros c.args.attrs.now)) c.in_ok-stays.ensures
    ∙ stays-added c.args.engine.now.values c.args.attrs.now in
    rw (c.of.ensures, rows_are, stays_are) refl
