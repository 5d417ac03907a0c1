use Rattle.std.proofs.Common.{rules, ◌≡◌, ◌∙◌, SFits, refl, sym, subst, pos}
use Rattle.std.specs.Int.{w64}
use Rattle.std.proofs.lemmas.Int.{to_z-of_z}
use Rattle.problem_core.specs.declared.parts.Mark.{Mark}
use Rattle.problem_core.specs.Corners.{IsIn, place}
use Rattle.corner_view.specs.Seen.{IsCoefficientOf, IsMarkOf}
use Rattle.sweep_run.specs.Ways.{backwards}
use Rattle.sweep_run.proofs.BackRates.{coefficient_fits, over_is_mark, rate_none, rate_outside}
use Rattle.sweep_run.proofs.EndFacts.{end_is_kept}
use Rattle.sweep_run.proofs.rates.rate_of.Goals as goal

pub is_inside-requires : goal.is_inside-requires
is_inside-requires g c = record { mark = subst (IsMarkOf c.args.c.now.problem) (sym c.over.ensures) (over_is_mark c.args.c.now.problem c.args.way.now.row c.requires.held.held) }

pub returns-then-is_inside : goal.returns-then-is_inside
returns-then-is_inside g c =
    rate_none c.args.c.now.problem c.args.c.now.marks c.args.way.now c.show_corner.ensures.kept c.requires.held.held c.requires.held.constant (end_is_kept c.args.way.now c.args.c.now c.requires.held).lowest.above c.args.what
    (record { n = pos 0; d = pos 1 }) c.requires.what c.requires.other (subst (λ (m : Mark). IsIn (place m) c.args.c.now.marks) c.over.ensures (c.is_inside.ensures.0 c.if-is_inside.true)) refl refl

pub coefficient-requires-clause-outside : goal.coefficient-requires-clause-outside
coefficient-requires-clause-outside g c = (
  subst (IsMarkOf c.args.c.now.problem) (sym c.over-2.ensures) (over_is_mark c.args.c.now.problem c.args.way.now.row c.requires.held.held),
  λ inside.
      let no = c.if-is_inside.false in
      let yes = c.is_inside.ensures.1 (subst (λ (m : Mark). IsIn (place m) c.args.c.now.marks) (c.over-2.ensures ∙ sym c.over.ensures) inside) in
      absurd (let both = yes in cc),
)

pub backwards-requires : goal.backwards-requires
backwards-requires g c =
    let fits : SFits w64 c.coefficient.result = search rules in
    simp to_z-of_z (coefficient_fits c.args.c.now.problem c.args.c.now.marks c.args.what c.over-2.result c.coefficient.result c.show_corner.ensures.kept c.coefficient.ensures)

pub returns : goal.returns
returns g c =
    let f : SFits w64 c.coefficient.result = search rules in
    let n : SFits w64 c.backwards.result = search rules in
    let d : SFits w64 c.denominator.result = search rules in
    let value : c.backwards.result ≡ backwards c.args.way.now.up c.coefficient.result = simp (to_z-of_z, f) at c.backwards.ensures.value in
    simp (to_z-of_z, n, d)
    (rate_outside c.args.c.now.problem c.args.c.now.marks c.args.way.now c.show_corner.ensures.kept c.requires.held.held c.requires.held.constant (end_is_kept c.args.way.now c.args.c.now c.requires.held).lowest.above c.args.what c.coefficient.result
    (record { n = c.backwards.result; d = c.denominator.result }) c.requires.other
    (subst (λ (m : Mark). IsCoefficientOf c.args.c.now.problem c.args.c.now.marks c.args.what m c.coefficient.result) c.over-2.ensures c.coefficient.ensures) c.denominator.ensures value c.backwards.ensures.fits)
