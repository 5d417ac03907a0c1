use Rattle.std.proofs.Common.{◌≡◌, ◌++◌, rules}
use Rattle.std.proofs.lemmas.Result.{err_from_is_err_and}
use Rattle.constraint_compile.specs.Naming.{naming}
use Rattle.held_items.specs.Kept.{item_of, items_of}
use Rattle.held_items.specs.Moving.{forms_in, forms_of}
use Rattle.held_items.proofs.Constants.ItemConstants.{constants-next, item-small, stop-among}
use Rattle.held_items.proofs.item.moving.constants_naming.Goals as goal

pub loop-item-preserved : goal.loop-item-preserved
loop-item-preserved c =
    let is : c.append.new.self.items ≡ c.loop-item.constants.items ++ c.in_ok-more.more.items = search rules in
    constants-next c.args.metrics.now c.args.name.now c.args.items.now c.loop-item.item-index c.item-item.result c.loop-item.constants.items c.in_ok-more.more.items c.append.new.self.items c.loop-item-test.true c.item-item.is c.loop-item.invariant c.in_ok-more.ensures.constants is

pub returns-in_err-more-clause-stop : goal.returns-in_err-more-clause-stop
returns-in_err-more-clause-stop c =
    let exit = err_from_is_err_and c.from_residual.result c.from_residual.ensures.1 in
    rw (exit.1, exit.2)
    (stop-among c.args.metrics.now (naming c.args.name.now (forms_in (item_of c.item-item.result))) (naming c.args.name.now (forms_of (items_of c.args.items.now)))
    (item-small c.args.metrics.now c.args.name.now c.args.items.now c.loop-item.item-index c.item-item.result c.loop-item-test.true c.item-item.is) c.in_err-more.field-0.0 c.in_err-more.ensures.stop)
