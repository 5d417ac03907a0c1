use Rattle.std.proofs.Common.{false, refl, sym, subst}
use Rattle.std.specs.Prelude.{IsTrue}
use Rattle.path_levels.proofs.Joining.Fitting.{fits_more, not_true}
use Rattle.path_levels.proofs.joins.are_lines_fitting.Goals as goal

pub loop-at-preserved : goal.loop-at-preserved
loop-at-preserved c = fits_more c.args.corner.outline.now c.args.corner.lines.now c.args.place c.loop-at.at c.args.draft.now c.loop-at.invariant (c.is_line_fitting.ensures.0 (subst IsTrue (sym c.if-not-is_line_fitting.false) refl))

pub returns-then-not-is_line_fitting : goal.returns-then-not-is_line_fitting
returns-then-not-is_line_fitting c = ((λ t. not_true _ false refl t), (λ h. subst IsTrue c.if-not-is_line_fitting.true (c.is_line_fitting.ensures.1 (h c.loop-at.at c.loop-at-test.true))))
