use Rattle.std.proofs.Common.{◌∙◌, ◌++◌, ◌∷◌, [], All, ap, subst, sym}
use Rattle.std.proofs.lemmas.List.Elements.{All-append, All-from_recursion}
use Rattle.problem_core.specs.Kept.{IsRow}
use Rattle.problem_core.specs.Layout.{Row}
use Rattle.problem_core.specs.Unfit.{at_constant}
use Rattle.layout_solver.proofs.Posed.ShiftedRows.{shifted-next, shifted-none}
use Rattle.layout_solver.proofs.posing.rows_after.Goals as goal

pub loop-row-preserved : goal.loop-row-preserved
loop-row-preserved c =
    let next = shifted-next c.args.to.now c.args.rows.now c.loop-row.after.items c.loop-row.row-index c.row-item.result (at_constant c.constant_after.result c.row-item.result) c.loop-row-test.true c.row-item.is c.loop-row.invariant.is c.constant_after.ensures in
    record {
      is = c.in_ok-push.ensures.items ∙ ap (λ (r : Row). c.loop-row.after.items ++ r ∷ []) c.in_ok-with_constant.ensures.row ∙ next;
      each = subst (All IsRow) (sym c.in_ok-push.ensures.items) (All-append IsRow c.loop-row.after.items (c.in_ok-with_constant.field-0 ∷ []) c.loop-row.invariant.each
          (All-from_recursion IsRow (c.in_ok-with_constant.field-0 ∷ []) (c.in_ok-with_constant.ensures.kept, tt)));
    }

pub loop-row-init : goal.loop-row-init
loop-row-init c = record {
  is = c.new-after.ensures.items ∙ sym (shifted-none c.args.to.now);
  each = subst (All IsRow) (sym c.new-after.ensures.items) (All-from_recursion IsRow [] tt);
}
