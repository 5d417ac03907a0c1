use Rattle.std.proofs.Common.{◌≡◌, ◌∙◌, ℕ}
use Rattle.row_core.specs.Combinations.{combination_but}
use Rattle.row_core.specs.Walks.{whole}
use Rattle.row_core.proofs.Lowest.{unfit_same}
use Rattle.row_core.proofs.Patches.{patched_is}
use Rattle.row_core.proofs.row.combine_but.Goals.{After-combined}
use Rattle.row_core.proofs.row.combine_but.Goals as goal
use Rattle.frac_core.proofs.Results.{err_implies}

same : (c : After-combined) (q : ℕ) → whole c.patched.result q ≡ combination_but c.args.by c.args.r.now c.args.p.now c.args.but q
same c q =
    let left : c.patched.result.r.now ≡ c.args.r.now = c.patched.ensures.r ∙ c.deref.ensures.value ∙ c.r.view_is in
    let right : c.patched.result.p.now ≡ c.args.p.now = c.patched.ensures.p ∙ c.deref-2.ensures.value ∙ c.p.view_is in
    patched_is c.patched.result c.args.r.now c.args.p.now c.args.by c.args.but left right c.patched.ensures.k c.patched.ensures.n c.patched.ensures.leaves c.patched.ensures.without
    c.patched.ensures.at c.patched.ensures.extra q

pub returns-clause-unfit : goal.returns-clause-unfit
returns-clause-unfit c = err_implies c.combined.result _ _ (λ stop unfit is. unfit_same _ _ (same c) (unfit is)) c.combined.ensures.unfit
