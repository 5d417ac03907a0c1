use Rattle.std.proofs.Common.{rules, SFits, ◌≡◌, ◌∙◌, ◌*ℤ◌, ap}
use Rattle.std.specs.Int.{w64, w128}
use Rattle.std.proofs.lemmas.Int.{to_z-of_z}
use Rattle.problem_core.specs.Corners.{IsIn, place}
use Rattle.corner_ends.proofs.Marks.{one_mark}
use Rattle.primal_run.proofs.Counts.{count_inside, count_outside, count_self}
use Rattle.primal_run.proofs.ties.count.Goals as goal

pub returns-then-eq : goal.returns-then-eq
returns-then-eq g c = λ w h.
    let fits : SFits w64 c.scale.result = search rules in
    let all : SFits w128 c.product.result = search rules in
    let same : c.args.m ≡ c.args.f = search rules in
    let e = simp (to_z-of_z, c.ranges.by) at c.product.ensures.value in
    to_z-of_z w128 c.product.result all ∙ count_self c.args.c.now.problem c.args.c.now.marks c.args.m c.args.f c.scale.result c.args.by c.product.result w same (c.scale.ensures.of w h) (e ∙ ap (λ z. z *ℤ c.args.by) (to_z-of_z w64 c.scale.result fits))

pub returns-then-is_inside : goal.returns-then-is_inside
returns-then-is_inside g c = λ w h.
    let other : c.args.m ≡ c.args.f → ⊥ = search rules in
    let inside : IsIn (place c.args.f) c.args.c.now.marks = search rules in
    count_inside c.args.c.now.problem c.args.c.now.marks c.args.m c.args.f c.args.by w h inside (λ e. other (one_mark c.args.m c.args.f e))

pub returns : goal.returns
returns g c = λ w h.
    let fits : SFits w64 c.coefficient_of.result = search rules in
    let some : SFits w128 c.product-2.result = search rules in
    let all : SFits w128 c.opposite.result = search rules in
    let other : c.args.m ≡ c.args.f → ⊥ = search rules in
    let e = simp (to_z-of_z, c.ranges.by) at c.product-2.ensures.value in
    let o = simp to_z-of_z at c.opposite.ensures in
    to_z-of_z w128 c.opposite.result all ∙ count_outside c.args.c.now.problem c.args.c.now.marks c.args.m c.args.f c.coefficient_of.result c.args.by c.opposite.result c.product-2.result w (λ q. other (one_mark c.args.m c.args.f q)) (c.coefficient_of.ensures w h) (e ∙ ap (λ z. z *ℤ c.args.by) (to_z-of_z w64 c.coefficient_of.result fits)) o
