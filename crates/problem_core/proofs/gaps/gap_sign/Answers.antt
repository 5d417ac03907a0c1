use Rattle.std.proofs.Common.{◌≡◌, ◌∙◌, pos, ◌*ℤ◌, SFits, rules}
use Rattle.std.specs.Int.{w128}
use Rattle.std.specs.Ordering.{int_cmp}
use Rattle.std.proofs.lemmas.Int.{to_z-of_z}
use Rattle.problem_core.proofs.GapFacts.GapSigns.{sign-is, room-is, large-none, sums-none, on_err}
use Rattle.problem_core.proofs.gaps.gap_sign.Goals as goal

pub returns-clause-room : goal.returns-clause-room
returns-clause-room c =
    room-is c.args.row.now c.args.values.now c.in_ok-common.common c.in_ok-common.ensures.room (rw c.terms-terms.ensures at c.in_ok-common.ensures.least) (rw c.terms-terms.ensures at c.in_ok-sum.ensures.room)

pub returns-clause-sign : goal.returns-clause-sign
returns-clause-sign c = λ x gives.
    let least = rw c.terms-terms.ensures at c.in_ok-common.ensures.least in
    let sum = rw c.terms-terms.ensures at c.in_ok-sum.ensures.sum in
    let fits : SFits w128 c.in_ok-sum.sum = search rules in
    let order : c.compare.result ≡ int_cmp (c.in_ok-sum.sum *ℤ pos c.constant.result.den) (c.constant.result.num *ℤ pos c.in_ok-common.common) = simp to_z-of_z at c.compare.ensures in
    (rw (sum, c.constant.ensures) at order) ∙ sign-is c.args.row.now c.args.values.now c.in_ok-common.common least.above least.common c.requires x gives

pub returns-in_err-common-clause-none : goal.returns-in_err-common-clause-none
returns-in_err-common-clause-none c =
    let none = rw c.terms-terms.ensures at c.in_err-common.ensures.none in
    on_err c.from_residual.result _ (large-none c.args.row.now c.args.values.now none.0 none.1 none.2)

pub returns-in_err-sum-clause-none : goal.returns-in_err-sum-clause-none
returns-in_err-sum-clause-none c =
    on_err c.from_residual-in_err-sum.result _ (sums-none c.args.row.now c.args.values.now c.in_ok-common.common (rw c.terms-terms.ensures at c.in_ok-common.ensures.least) (rw c.terms-terms.ensures at c.in_err-sum.ensures.none))
