use Rattle.std.proofs.Common.{◌≡◌, ◌∙◌, List, length, ap, arith, Option}
use Rattle.path_lines.specs.declared.table.Inside.{Inside}
use Rattle.path_lines.specs.Tables.{line_count}
use Rattle.path_claims.proofs.StationTables.{outline_long}
use Rattle.path_claims.proofs.along.is_called_for.Goals as goal

pub may_swap-may-requires-clause-step : goal.may_swap-may-requires-clause-step
may_swap-may-requires-clause-step c =
    let long : length c.tableau-tableau.result.corner.lines.now ≡ line_count c.args.case.p.now = ap (λ (zs : List (Option Inside)). length zs) c.tableau-tableau.ensures.lines ∙ c.requires.table.count ∙ outline_long c.args.case.p.now c.args.case.outline.now c.requires.case.outline_is in
    (omega (arith, long, c.requires.step.0), omega (arith, long, c.requires.step.1))
