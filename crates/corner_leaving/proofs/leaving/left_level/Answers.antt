use Rattle.std.proofs.Common.{rules, ◌≡◌, ◌+◌, ◌-◌, ◌∙◌, pos, ap, sym, arith}
use Rattle.corner_table.specs.declared.table.Priority.{Priority}
use Rattle.corner_table.specs.Tables.{lists_of}
use Rattle.corner_view.specs.Stops.{IsUnfitStop}
use Rattle.corner_leaving.specs.Leaving.{IsLeftStop, marks_left, problem_left}
use Rattle.corner_leaving.proofs.Removals.LeavingRows.{its_level, rows_left_is}
use Rattle.corner_leaving.proofs.Removals.LeavingCosts.{left_stop, none_left}
use Rattle.corner_leaving.proofs.leaving.left_level.Goals as goal
use Rattle.frac_core.proofs.Results.{err_implies as err_all}

pub priority_at-rows-requires-clause-level : goal.priority_at-rows-requires-clause-level
priority_at-rows-requires-clause-level c = its_level (lists_of c.args.table.now) c.requires.leaver.0 c.args.leaver (record { kept = c.requires.kept; is = c.requires.leaver.1 })

pub overflow_sub-rows : goal.overflow_sub-rows
overflow_sub-rows c = let e = ap (λ (p : Priority). p.rows) c.priority_at-rows.ensures ∙ rows_left_is (lists_of c.args.table.now) c.requires.leaver.0 c.args.leaver (record { kept = c.requires.kept; is = c.requires.leaver.1 }) in omega (arith, e)

pub returns-then-rows-eq0-clause-ok : goal.returns-then-rows-eq0-clause-ok
returns-then-rows-eq0-clause-ok c =
    let e = ap (λ (p : Priority). p.rows) c.priority_at-rows.ensures in
    let m = e ∙ rows_left_is (lists_of c.args.table.now) c.requires.leaver.0 c.args.leaver (record { kept = c.requires.kept; is = c.requires.leaver.1 }) in
    let zero : c.priority_at-rows.result.rows - 1 ≡ 0 = search rules in
    let one : c.priority_at-rows.result.rows ≡ 1 = omega (arith, zero, m) in
    let unit : c.no_level.result.unit ≡ pos 1 = search rules in
    (none_left (lists_of c.args.table.now) c.requires.leaver.0 c.args.leaver c.no_level.result (record { kept = c.requires.kept; is = c.requires.leaver.1 }) c.no_level.ensures.at c.no_level.ensures.row c.no_level.ensures.value unit c.no_level.ensures.rows (sym one ∙ e))

pub rest_level-requires-clause-rows : goal.rest_level-requires-clause-rows
rest_level-requires-clause-rows c =
    let h = ap (λ (p : Priority). p.rows) c.priority_at-rows.ensures ∙ rows_left_is (lists_of c.args.table.now) c.requires.leaver.0 c.args.leaver (record { kept = c.requires.kept; is = c.requires.leaver.1 }) in
    let e : c.priority_at-rows.result.rows - 1 + 1 ≡ c.priority_at-rows.result.rows = omega (arith, h) in
    e ∙ ap (λ (p : Priority). p.rows) c.priority_at-rows.ensures

pub level_stop-requires : goal.level_stop-requires
level_stop-requires c = let h = its_level (lists_of c.args.table.now) c.requires.leaver.0 c.args.leaver (record { kept = c.requires.kept; is = c.requires.leaver.1 }) in omega (arith, h)

pub returns-clause-stop : goal.returns-clause-stop
returns-clause-stop c =
    err_all c.rest_level.result (IsLeftStop (lists_of c.args.table.now) c.args.leaver c.level_stop.result) (IsUnfitStop (problem_left (lists_of c.args.table.now) c.args.leaver) (marks_left (lists_of c.args.table.now) c.args.leaver))
    (λ e h. left_stop (lists_of c.args.table.now) c.requires.leaver.0 c.args.leaver c.level_stop.result e (record { kept = c.requires.kept; is = c.requires.leaver.1 }) c.level_stop.ensures h) c.rest_level.ensures.err
