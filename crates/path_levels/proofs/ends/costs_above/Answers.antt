use Rattle.std.proofs.Common.{◌≡◌, false, refl, get_or, length}
use Rattle.path_lines.proofs.Iffs.{never}
use Rattle.path_levels.proofs.Judging.LevelEnds.{first_is, never_without, none_first}
use Rattle.path_levels.proofs.ends.costs_above.Goals as goal

pub returns-in-Some : goal.returns-in-Some
returns-in-Some c = λ p at lines kept sums.
    let first : get_or c.args.levels.now 0 c.in-Some.sum.now ≡ c.in-Some.sum.now = first_is c.args.levels.now c.in-Some.sum.now c.in-Some.sum.now c.in-Some.ensures.value in
    c.is_costly.ensures.above p at lines c.args.levels.now c.in-Some.sum.now kept sums first

pub returns-in-None : goal.returns-in-None
returns-in-None c = λ p at lines kept sums.
    let none : length c.args.levels.now ≡ 0 = none_first c.args.levels.now c.in-None.ensures.value in
    never false refl (never_without p at c.args.outline.now lines c.args.levels.now kept sums none)
