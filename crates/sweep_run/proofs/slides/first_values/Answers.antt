use Rattle.std.proofs.Common.{refl, subst, sym}
use Rattle.problem_core.specs.Layout.{Problem}
use Rattle.sweep_run.specs.Values.{AreValuesAt}
use Rattle.sweep_run.proofs.Beginning.{there_first}
use Rattle.sweep_run.proofs.Orders.{earlier_place, no_earlier_place}
use Rattle.sweep_run.proofs.slides.first_values.Goals as goal

pub returns-then-is_before : goal.returns-then-is_before
returns-then-is_before g c =
    let w = c.args.way.now in (
      earlier_place w.up w.end w.first w.near c.requires.way.end_near.2.to_positive c.requires.way.is.first c.requires.way.is.near_place (c.is_before.ensures.yes c.if-is_before.true),
      refl,
    )

pub returns : goal.returns
returns g c =
    let w = c.args.way.now in (
      no_earlier_place w.up w.end w.first w.near c.requires.way.end_near.2.to_positive c.requires.way.is.first c.requires.way.is.near_place (c.is_before.ensures.no c.if-is_before.false),
      subst (λ (k : Problem). AreValuesAt k c.args.c.now.marks c.in_ok-values.values) (sym (there_first c.args.c.now.problem w c.show_corner.ensures.kept.whole c.requires.way)) c.in_ok-values.ensures,
    )
