use Rattle.held_items.proofs.Constants.Nears.{less-num, less-den}
use Rattle.held_items.proofs.changes.fits_after.Goals as goal

pub returns-in-Ok-clause-yes : goal.returns-in-Ok-clause-yes
returns-in-Ok-clause-yes c =
    let value = rw (less-num c.args.to c.args.from, less-den c.args.to c.args.from) at c.in-Ok.ensures.value in
    λ yes. record { sum = c.in-Ok.field-0; lowest = c.in-Ok.ensures.lowest; fits = c.in-Ok.ensures.fits; value = value }

pub returns-in-Err-clause-no : goal.returns-in-Err-clause-no
returns-in-Err-clause-no c =
    let unfit = rw (less-num c.args.to c.args.from, less-den c.args.to c.args.from) at c.in-Err.ensures.unfit in
    λ no near. unfit near.sum near.lowest near.value near.fits
