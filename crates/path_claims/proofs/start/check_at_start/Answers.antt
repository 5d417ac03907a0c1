use Rattle.std.proofs.Common.{sym, subst, subst₂, List, Option, Some}
use Rattle.path_lines.specs.declared.table.Inside.{Inside}
use Rattle.path_claims.specs.PathClauses.{row_of_terms}
use Rattle.path_levels.specs.declared.outline.Outline.{Outline}
use Rattle.path_levels.specs.declared.sums.LevelSum.{LevelSum}
use Rattle.path_claims.specs.Begun.{IsBegun, IsWholeBegun}
use Rattle.path_claims.proofs.Beginning.StartVerdicts.{whole_verdict}
use Rattle.path_claims.proofs.start.check_at_start.Goals as goal

pub returns-in-Whole : goal.returns-in-Whole
returns-in-Whole c =
    let begun : IsWholeBegun c.args.p.now c.args.outline.now c.in-Whole.table.lines.items c.in-Whole.table.levels.items = subst (IsBegun c.args.p.now c.args.outline.now) c.in-Whole.is c.in_ok-table.ensures in
    let there : IsWholeBegun c.args.p.now c.tableau.result.corner.outline.now c.tableau.result.corner.lines.now c.tableau.result.levels.now =
    subst (λ (o : Outline). IsWholeBegun c.args.p.now o c.tableau.result.corner.lines.now c.tableau.result.levels.now) (sym c.tableau.ensures.outline)
    (subst₂ (λ (ls : List (Option Inside)) (vs : List LevelSum). IsWholeBegun c.args.p.now c.args.outline.now ls vs) (sym c.tableau.ensures.lines) (sym c.tableau.ensures.levels) begun) in
    whole_verdict c.args.p.now c.args.path.now c.args.named c.tableau.result.corner.outline.now c.tableau.result.corner.lines.now c.tableau.result.levels.now c.dual.result c.is_sound_there-is_sound.result c.verdict_of_fitting.result
    c.show_whole.ensures (record { swaps = c.requires.swaps; corner = c.requires.corner; marks = c.requires.marks }) c.dual.ensures there
    (c.is_sound_there-is_sound.ensures c.args.p.now (row_of_terms (Some c.args.named)) c.show_whole.ensures there c.judged_rows-judged.ensures) c.verdict_of_fitting.ensures
