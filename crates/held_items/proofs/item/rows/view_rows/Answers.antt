use Rattle.std.proofs.Common.{◌≡◌, ◌+◌, ◌-◌, [], suc, refl, arith}
use Rattle.problem_core.specs.Layout.{Row}
use Rattle.problem_core.specs.declared.parts.Rel.TheVariants.{Ge}
use Rattle.problem_core.specs.Window.{required_row, zero_fraction}
use Rattle.problem_core.specs.Kept.{IsRow}
use Rattle.std.proofs.lemmas.List.Elements.{All-from_recursion}
use Rattle.view_tree.specs.Attributes.{height_of, width_of}
use Rattle.held_items.specs.Items.{rows_of_views}
use Rattle.held_items.proofs.Views.ViewRows.{rows-step, rows-done}
use Rattle.held_items.proofs.item.rows.view_rows.Goals as goal

pub loop-left-init : goal.loop-left-init
loop-left-init c = rw c.new-rows.ensures.items (record { is = refl; some = c.requires.first_row; rows = c.requires.rows; each = All-from_recursion IsRow [] tt; ids = c.requires.ids })

pub loop-left-preserved : goal.loop-left-preserved
loop-left-preserved c =
    let one : c.loop-left.left ≡ suc (c.loop-left.left - 1) = omega (arith, c.loop-left-test.true) in
    let width : Row = required_row c.loop-left.row (width_of c.loop-left.next) Ge zero_fraction in
    let height : Row = required_row (c.loop-left.row + 1) (height_of c.loop-left.next) Ge zero_fraction in
    record {
      is = rows-step c.loop-left.rows.items c.push_required.new.rows.items c.push_required-in-loop-left.new.rows.items (rows_of_views c.args.first_row c.args.id c.args.count) width height c.loop-left.row c.loop-left.next c.loop-left.left (c.loop-left.left - 1) one c.loop-left.invariant.is
          refl refl (rw c.attributes-attrs.ensures at c.in_ok-push_required.ensures.row) (rw c.attributes-attrs.ensures at c.in_ok-push_required-2.ensures.row);
      some = omega (arith, c.loop-left.invariant.some);
      rows = omega (arith, c.loop-left.invariant.rows, one);
      each = c.in_ok-push_required-2.ensures.each (c.in_ok-push_required.ensures.each c.loop-left.invariant.each);
      ids = omega (arith, c.loop-left.invariant.ids, one);
    }

pub returns-clause-rows : goal.returns-clause-rows
returns-clause-rows c = rows-done c.loop-left.rows.items (rows_of_views c.args.first_row c.args.id c.args.count) c.loop-left.row c.loop-left.next c.loop-left.left (omega (arith, c.loop-left-test.false)) c.loop-left.invariant.is
