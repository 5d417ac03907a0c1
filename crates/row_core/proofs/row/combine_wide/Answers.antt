use Rattle.std.proofs.Common.{◌≡◌, ◌∙◌, ℕ}
use Rattle.std.proofs.lemmas.Int.{to_z-of_z}
use Rattle.row_core.specs.Rows.{combination}
use Rattle.row_core.specs.Walks.{whole}
use Rattle.row_core.proofs.Lowest.{reduced_same, unfit_same}
use Rattle.row_core.proofs.Patches.{plain_is}
use Rattle.row_core.proofs.row.combine_wide.Goals.{After-combined}
use Rattle.row_core.proofs.row.combine_wide.Goals as goal
use Rattle.frac_core.proofs.Results.{ok_implies, err_implies}

same : (c : After-combined) (q : ℕ) → whole c.plain.result q ≡ combination c.args.k c.args.r.now c.args.n c.args.p.now q
same c q =
    let left : c.plain.result.r.now ≡ c.args.r.now = c.plain.ensures.r ∙ c.deref.ensures.value ∙ c.r.view_is in
    let right : c.plain.result.p.now ≡ c.args.p.now = c.plain.ensures.p ∙ c.deref-2.ensures.value ∙ c.p.view_is in
    let k : c.plain.result.k ≡ c.args.k = simp (to_z-of_z, c.ranges.k) at c.plain.ensures.k in
    let n : c.plain.result.n ≡ c.args.n = simp (to_z-of_z, c.ranges.n) at c.plain.ensures.n in
    plain_is c.plain.result c.args.r.now c.args.p.now c.args.k c.args.n left right k n c.plain.ensures.extra c.plain.ensures.leaves q

pub returns-clause-value : goal.returns-clause-value
returns-clause-value c = ok_implies c.combined.result _ _ (λ row red. reduced_same row _ _ (same c) red) c.combined.ensures.value

pub returns-clause-unfit : goal.returns-clause-unfit
returns-clause-unfit c = err_implies c.combined.result _ _ (λ stop unfit is. unfit_same _ _ (same c) (unfit is)) c.combined.ensures.unfit
