use Rattle.std.proofs.Common.{rules, SFits, ℤ, pos, ◌*ℤ◌, subst}
use Rattle.std.specs.Int.{w64}
use Rattle.std.proofs.lemmas.Int.{to_z-of_z}
use Rattle.frac_core.specs.Fraction.{IsRatio}
use Rattle.problem_core.specs.declared.parts.Rel.{Rel}
use Rattle.problem_core.specs.declared.parts.Mark.{Mark}
use Rattle.problem_core.specs.declared.parts.Side.TheVariants.{Under, Over}
use Rattle.problem_core.specs.Corners.{place}
use Rattle.corner_view.specs.Seen.{HasValueAt}
use Rattle.certificates.specs.Errors.{IsLack}
use Rattle.certificates.proofs.ErrorFacts.{row_error, row_mark}
use Rattle.certificates.proofs.errors.error.Goals as goal

pub value-under-requires : goal.value-under-requires
value-under-requires g c = record { mark = row_mark c.args.c.now.problem c.args.row.now c.mark_of.result Under c.requires.held c.mark_of.ensures }

pub value-over-requires : goal.value-over-requires
value-over-requires g c = record { mark = row_mark c.args.c.now.problem c.args.row.now c.mark_of-2.result Over c.requires.held c.mark_of-2.ensures }

pub returns-clause-error : goal.returns-clause-error
returns-clause-error g c =
    let s : SFits w64 c.scale.result = search rules in
    let ratio = simp (to_z-of_z, s) at c.over_scale.ensures.value in
    row_error c.args.c.now.problem c.args.c.now.marks c.args.row.now c.value-under.result c.value-over.result c.lacking.result c.over_scale.result c.show_corner.ensures.kept.whole c.show_corner.ensures.kept.corner c.requires.values c.requires.held
    (subst (λ (m : Mark). HasValueAt c.args.c.now.problem c.args.c.now.marks (place m) c.value-under.result) c.mark_of.ensures c.value-under.ensures)
    (subst (λ (m : Mark). HasValueAt c.args.c.now.problem c.args.c.now.marks (place m) c.value-over.result) c.mark_of-2.ensures c.value-over.ensures)
    c.lacking.ensures.kept.lowest.above c.over_scale.ensures.kept.lowest.above
    (subst (λ (rel : Rel). IsLack rel c.value-under.result c.value-over.result c.lacking.result) c.rel.ensures c.lacking.ensures.value)
    (subst (λ (z : ℤ). IsRatio c.over_scale.result c.lacking.result.num (z *ℤ pos c.lacking.result.den)) c.scale.ensures ratio)
