use Rattle.std.proofs.Common.{◌≡◌, false, refl, get_or, length}
use Rattle.path_lines.proofs.Iffs.{never}
use Rattle.path_levels.proofs.Judging.LevelEnds.{and_else, and_then, first_is, never_without, none_first}
use Rattle.path_levels.proofs.ends.is_refuted.Goals as goal

pub returns-then-is_costly : goal.returns-then-is_costly
returns-then-is_costly c = λ p at kept sums.
    let first : get_or c.args.tableau.levels.now 0 c.in-Some.sum.now ≡ c.in-Some.sum.now = first_is c.args.tableau.levels.now c.in-Some.sum.now c.in-Some.sum.now c.in-Some.ensures.value in
    and_then c.is_costly.result c.has_no_negative_required.result c.if-is_costly.true (c.is_costly.ensures.above p at c.args.tableau.corner.lines.now c.args.tableau.levels.now c.in-Some.sum.now kept sums first)
    (c.has_no_negative_required.ensures p at c.args.tableau.levels.now c.in-Some.sum.now kept sums first (c.is_costly.ensures.required c.if-is_costly.true))

pub returns-else-is_costly : goal.returns-else-is_costly
returns-else-is_costly c = λ p at kept sums.
    let first : get_or c.args.tableau.levels.now 0 c.in-Some.sum.now ≡ c.in-Some.sum.now = first_is c.args.tableau.levels.now c.in-Some.sum.now c.in-Some.sum.now c.in-Some.ensures.value in
    and_else c.is_costly.result c.if-is_costly.false (c.is_costly.ensures.above p at c.args.tableau.corner.lines.now c.args.tableau.levels.now c.in-Some.sum.now kept sums first)

pub returns-in-None : goal.returns-in-None
returns-in-None c = λ p at kept sums.
    let none : length c.args.tableau.levels.now ≡ 0 = none_first c.args.tableau.levels.now c.in-None.ensures.value in
    never false refl (λ both. never_without p at c.args.tableau.corner.outline.now c.args.tableau.corner.lines.now c.args.tableau.levels.now kept sums none both.0)
