use Rattle.row_core.proofs.Lowest.{unfit_same}
use Rattle.row_core.proofs.Patches.{alone_is}
use Rattle.row_core.proofs.row.IntRow.of.Goals as goal
use Rattle.frac_core.proofs.Results.{err_implies}

pub returns-clause-unfit : goal.returns-clause-unfit
returns-clause-unfit c =
    err_implies c.lowest.result _ _
    (λ stop unfit is.
    unfit_same _ _ (alone_is c.plain.result c.args.entries.now c.plain.ensures.r c.plain.ensures.p c.plain.ensures.k c.plain.ensures.n c.plain.ensures.extra c.plain.ensures.leaves) (unfit is))
    c.lowest.ensures.unfit
