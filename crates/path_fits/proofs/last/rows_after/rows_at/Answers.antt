use Rattle.std.proofs.Common.{◌≤◌, sym, subst, arith, inl, inr}
use Rattle.std.proofs.lemmas.Bool.{cases_eq}
use Rattle.problem_core.specs.Levels.{IsLevelAt}
use Rattle.problem_core.specs.Unfit.{IsUnfitRows}
use Rattle.problem_core.specs.declared.stops.Quantity.TheVariants.{Rows}
use Rattle.path_fits.specs.Fits.{IsFitAt}
use Rattle.path_levels.specs.Outlines.{number_at}
use Rattle.path_levels.specs.Rows.{IsFirstUnfit, IsRowsStop}
use Rattle.path_fits.proofs.LastCorner.FirstRows.{part_unfit, same_rows}
use Rattle.path_fits.proofs.last.rows_after.rows_at.Goals.{in-Ok, in-Err-Refused, in-Err-OutOfMemory}
use Rattle.path_fits.proofs.last.rows_after.rows_at.Goals as goal

pub returns : goal.returns
returns c = elim c.match-level_of_lines.branch [
  | in-Ok w ↦ rw w.result-is (λ p at level kept is. (w.in-Ok.ensures.row p at kept).fitting level is c.args.first (omega arith))
  | in-Err-Refused w ↦ rw w.result-is (λ p at level kept is.
      let stop : IsLevelAt p w.in-Err-Refused.rows.level (number_at c.args.corner.outline.now.levels.items c.args.place) × (w.in-Err-Refused.rows.first ≤ c.args.first) × IsFirstUnfit p at w.in-Err-Refused.rows.level w.in-Err-Refused.rows.first = subst (IsRowsStop c.args.corner c.args.place c.args.first) w.in-Err-Refused.field-0-is w.in-Err-Refused.ensures.unfit p at kept in
      elim (cases_eq w.in-Err-Refused.rows.first c.args.first) [
        | inl e ↦
            subst (IsFitAt p at (Rows level c.args.first)) (sym (w.stop_of.ensures.whole e))
            (subst (IsUnfitRows p at level) e (same_rows p at level w.in-Err-Refused.rows.level (number_at c.args.corner.outline.now.levels.items c.args.place) w.in-Err-Refused.rows.first kept.there.whole is stop.0 stop.2.unfit))
        | inr ne ↦
            subst (IsFitAt p at (Rows level c.args.first)) (sym (w.stop_of.ensures.part ne))
            (part_unfit p at level w.in-Err-Refused.rows.level (number_at c.args.corner.outline.now.levels.items c.args.place) w.in-Err-Refused.rows.first c.args.first kept.there.whole is stop.0 stop.1 ne stop.2.unfit)
      ])
  | in-Err-OutOfMemory w ↦ rw w.result-is tt
]
