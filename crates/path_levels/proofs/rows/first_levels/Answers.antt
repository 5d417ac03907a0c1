use Rattle.std.proofs.Common.{rules, ◌≡◌, ◌<◌, length, ◌+◌, ◌++◌, ◌∷◌, [], sym, subst}
use Rattle.std.proofs.lemmas.List.Elements.{All-push}
use Rattle.path_levels.specs.Levels.{AreSizedLevels, IsSizedLevel}
use Rattle.path_levels.specs.Rows.{IsLevelsStop}
use Rattle.path_levels.proofs.LevelsOfLines.{AreRowsTo, all_fit, are_levels, levels_stop, one_more_level}
use Rattle.path_levels.proofs.rows.first_levels.Goals as goal

pub returns-in_err-level_of_lines-clause-unfit : goal.returns-in_err-level_of_lines-clause-unfit
returns-in_err-level_of_lines-clause-unfit c =
    let within : c.loop-place.place < length c.args.corner.outline.now.levels.items = search rules in
    let stop : IsLevelsStop c.args.corner c.in_err-level_of_lines.field-0.0 =
    levels_stop c.args.corner c.loop-place.place c.loop-place.levels.items c.in_err-level_of_lines.field-0.0 within c.loop-place.invariant.rows c.in_err-level_of_lines.ensures.unfit in
    search rules

pub loop-place-preserved : goal.loop-place-preserved
loop-place-preserved c =
    let count : length c.loop-place.levels.items ≡ c.loop-place.place = c.loop-place.invariant.count in
    let items : c.push.new.self.items ≡ c.loop-place.levels.items ++ c.in_ok-level_of_lines.field-0 ∷ [] = search rules in
    record {
      count = search rules;
      sized = subst (AreSizedLevels (length c.args.corner.lines.now)) (sym items)
          (All-push (IsSizedLevel (length c.args.corner.lines.now)) c.loop-place.levels.items c.in_ok-level_of_lines.field-0 c.loop-place.invariant.sized c.in_ok-level_of_lines.ensures.sized);
      rows = subst (AreRowsTo c.args.corner.outline.now c.args.corner.lines.now (c.loop-place.place + 1)) (sym items)
          (one_more_level c.args.corner.outline.now c.args.corner.lines.now c.loop-place.place c.loop-place.levels.items c.in_ok-level_of_lines.field-0 count c.loop-place.invariant.rows c.in_ok-level_of_lines.ensures.row);
    }

pub returns-clause-levels : goal.returns-clause-levels
returns-clause-levels c =
    let whole : c.loop-place.place ≡ length c.args.corner.outline.now.levels.items = search rules in
    λ p at are. are_levels c.args.corner.outline.now c.args.corner.lines.now c.loop-place.place c.loop-place.levels.items p at c.loop-place.invariant.count whole c.loop-place.invariant.rows are

pub returns-clause-fits : goal.returns-clause-fits
returns-clause-fits c =
    let whole : c.loop-place.place ≡ length c.args.corner.outline.now.levels.items = search rules in
    λ p at are. all_fit c.args.corner.outline.now c.args.corner.lines.now c.loop-place.place c.loop-place.levels.items p at whole c.loop-place.invariant.rows are
