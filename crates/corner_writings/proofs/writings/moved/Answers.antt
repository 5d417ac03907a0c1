use Rattle.std.proofs.Common.{List, ℕ, subst, sym}
use Rattle.std.proofs.lemmas.List.{take_rest}
use Rattle.corner_table.specs.declared.table.TheConstants.{LEVELS}
use Rattle.corner_table.specs.Tables.{AreMoved, lists_of}
use Rattle.corner_writings.proofs.Readings.MoverFacts.{above_in_drop, drop_above, drop_has, drop_rises}
use Rattle.corner_writings.proofs.writings.moved.Goals as goal

pub returns-clause-moved : goal.returns-clause-moved
returns-clause-moved c =
    let column = c.column-column.ensures.value in
    subst (λ (ws : List ℕ). AreMoved (lists_of c.args.table.now) c.args.line ws) (sym (take_rest c.column-column.result.now c.level_count.result))
    (record {
      rising = drop_rises c.level_count.result c.column-column.result.now column.rising;
      exact = λ w. (
        (λ h. (drop_above LEVELS c.level_count.result c.column-column.result.now c.level_count.ensures.behind w h, (column.exact w).0 (drop_has c.level_count.result c.column-column.result.now w h))),
        (λ h. above_in_drop LEVELS c.level_count.result c.column-column.result.now c.level_count.ensures.before w h.0 ((column.exact w).1 h.1)),
      );
    })
