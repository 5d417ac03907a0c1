use Rattle.std.proofs.Common.{◌≡◌, ◌∙◌, ◌-◌, ◌++◌, List, suc, ap, arith}
use Rattle.held_items.specs.declared.item.Item as declared
use Rattle.held_items.specs.declared.item.Item.TheVariants as kind
use Rattle.held_items.specs.Items.{view_items}
use Rattle.held_items.specs.Kept.{items_of}
use Rattle.held_items.proofs.HeldRows.ItemRows.{items-more}
use Rattle.held_items.proofs.Marks.{refused-items}
use Rattle.held_items.proofs.Marks.{marked-all}
use Rattle.held_items.proofs.Views.ViewRows.{items-step, items-done}
use Rattle.held_items.proofs.item.coming.push_views.Goals as goal

pub loop-left-init : goal.loop-left-init
loop-left-init c = record {
  is = ap (λ (xs : List declared.Item). items_of xs ++ view_items c.args.first_row c.args.id c.args.count) c.mark.ensures.items;
  before = marked-all c.args.items.now.before c.mark.new.self.before c.args.items.now.items c.requires.few c.mark.ensures.before;
  rows = c.requires.rows;
  ids = c.requires.ids;
}

pub loop-left-preserved : goal.loop-left-preserved
loop-left-preserved c =
    let one : c.loop-left.left ≡ suc (c.loop-left.left - 1) = omega (arith, c.loop-left-test.true) in
    record {
      is = items-step (items_of c.loop-left.items.items) (items_of c.push.new.self.items) (items_of c.args.items.now.items ++ view_items c.args.first_row c.args.id c.args.count) c.loop-left.row c.loop-left.next c.loop-left.left (c.loop-left.left - 1) one c.loop-left.invariant.is
          (items-more c.loop-left.items.items c.push.new.self.items (kind.OfView c.loop-left.row c.loop-left.next) c.in-Ok.ensures.ok);
      before = c.in-Ok.ensures.before ∙ c.loop-left.invariant.before;
      rows = omega (arith, c.loop-left.invariant.rows, one);
      ids = omega (arith, c.loop-left.invariant.ids, one);
    }

pub returns-clause-items : goal.returns-clause-items
returns-clause-items c =
    items-done (items_of c.loop-left.items.items) (items_of c.args.items.now.items ++ view_items c.args.first_row c.args.id c.args.count) c.loop-left.row c.loop-left.next c.loop-left.left (omega (arith, c.loop-left-test.false)) c.loop-left.invariant.is

pub returns-in-Err-clause-same : goal.returns-in-Err-clause-same
returns-in-Err-clause-same c =
    refused-items c.args.items.now c.back.new.self c.push.new.self.before (c.in-Err.ensures.before ∙ c.loop-left.invariant.before) c.back.ensures.version
