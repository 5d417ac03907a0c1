use Rattle.held_items.proofs.item.moving.item_constants.Goals as goal

pub returns-in-OfLine-clause-stop : goal.returns-in-OfLine-clause-stop
returns-in-OfLine-clause-stop c = rw c.in-OfLine.is c.constants_naming.ensures.stop
