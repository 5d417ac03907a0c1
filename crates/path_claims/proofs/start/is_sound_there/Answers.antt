use Rattle.path_lines.specs.Route.{over_marks}
use Rattle.path_lines.proofs.Iffs.{through}
use Rattle.path_claims.proofs.Beginning.StartVerdicts.{dual_sound, primal_by, sound_before, whole_lines}
use Rattle.path_claims.proofs.start.is_sound_there.Goals as goal

pub returns-then-dual : goal.returns-then-dual
returns-then-dual c = λ p row whole begun to.
    dual_sound c.args.dual c.has_no_negative_column.result p row c.if-dual.true (c.has_no_negative_column.ensures p (over_marks p) begun.kept begun.levels_are)

pub returns : goal.returns
returns c = λ p row whole begun to.
    primal_by c.args.dual c.are_up.result p row c.if-dual.false
    (through c.are_up.result (c.are_up.ensures p whole (whole_lines p c.args.tableau.corner.outline.now c.args.tableau.corner.lines.now c.args.tableau.levels.now begun))
    (sound_before p row c.args.judged _ c.args.tableau.corner.lines.now whole to c.requires.judged (whole_lines p c.args.tableau.corner.outline.now c.args.tableau.corner.lines.now c.args.tableau.levels.now begun)))
