use Rattle.std.proofs.Common.{rules, SFits, ◌∙◌, ap, ap₂, ◌*ℤ◌}
use Rattle.std.specs.Int.{w64, w128}
use Rattle.std.specs.Ordering.{int_cmp}
use Rattle.std.proofs.lemmas.Int.{to_z-of_z}
use Rattle.problem_core.specs.Corners.{place}
use Rattle.corner_laws.specs.Runs.{count_at}
use Rattle.primal_run.proofs.ties.count_order.Goals as goal

pub returns : goal.returns
returns g c = λ v w h g.
    let by-a : SFits w64 c.args.a.by = search rules in
    let by-b : SFits w64 c.args.b.by = search rules in
    let first : SFits w128 c.count.result = search rules in
    let second : SFits w128 c.count-2.result = search rules in
    c.cmp.ensures ∙ ap₂ int_cmp (to_z-of_z w128 c.count.result first ∙ c.count.ensures w g ∙ ap (λ z. count_at (place c.args.b.mark) w (place c.args.f) *ℤ z) (to_z-of_z w64 c.args.a.by by-a)) (to_z-of_z w128 c.count-2.result second ∙ c.count-2.ensures v h ∙ ap (λ z. count_at (place c.args.a.mark) v (place c.args.f) *ℤ z) (to_z-of_z w64 c.args.b.by by-b))
