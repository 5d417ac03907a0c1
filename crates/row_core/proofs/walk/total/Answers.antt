use Rattle.std.proofs.Common.{◌≡◌, ◌∙◌, sym, ◌+ℤ◌, ◌*ℤ◌, ap, ℤ, SFits, rules}
use Rattle.std.specs.Int.{w64, w128}
use Rattle.std.proofs.lemmas.Int.{to_z-of_z}
use Rattle.row_core.proofs.Walks.{whole_there, whole_elsewhere}
use Rattle.row_core.proofs.Sizes.{extra_fits}
use Rattle.row_core.proofs.walk.total.Goals.{After-both-rows}
use Rattle.row_core.proofs.walk.total.Goals as goal

rows_is : (c : After-both-rows) → c.both-rows.result ≡ c.args.sum.now.k *ℤ c.args.left +ℤ c.args.sum.now.n *ℤ c.args.right
rows_is c =
    let left : SFits w64 c.args.left = c.ranges.left in
    let right : SFits w64 c.args.right = c.ranges.right in
    simp to_z-of_z at c.both-rows.ensures.value

pub overflow_add-result : goal.overflow_add-result
overflow_add-result c =
    let extra : SFits w128 c.args.sum.now.extra = search rules in
    let rows : SFits w128 c.both-rows.result = record { sfits = c.both-rows.type_inv } in
    simp to_z-of_z (extra_fits c.both-rows.result c.args.sum.now.extra c.both-rows.ensures.small c.requires.extra)

pub returns-then-col-sum-clause-value : goal.returns-then-col-sum-clause-value
returns-then-col-sum-clause-value c =
    let extra : SFits w128 c.args.sum.now.extra = search rules in
    let rows : SFits w128 c.both-rows.result = record { sfits = c.both-rows.type_inv } in
    let fits : SFits w128 (c.both-rows.result +ℤ c.args.sum.now.extra) =
    extra_fits c.both-rows.result c.args.sum.now.extra c.both-rows.ensures.small c.requires.extra in
    simp to_z-of_z (ap (λ (z : ℤ). z +ℤ c.args.sum.now.extra) (rows_is c.before.before.before.before)
    ∙ whole_there c.args.sum.now c.args.col (c.args.sum.now.k *ℤ c.args.left +ℤ c.args.sum.now.n *ℤ c.args.right) (sym c.is_left_out.ensures ∙ c.if-is_left_out.false) c.if-col-sum.true)

pub returns-else-col-sum-clause-value : goal.returns-else-col-sum-clause-value
returns-else-col-sum-clause-value c =
    let rows : SFits w128 c.both-rows.result = record { sfits = c.both-rows.type_inv } in
    simp to_z-of_z (rows_is c.before.before.before
    ∙ whole_elsewhere c.args.sum.now c.args.col (c.args.sum.now.k *ℤ c.args.left +ℤ c.args.sum.now.n *ℤ c.args.right) (sym c.is_left_out.ensures ∙ c.if-is_left_out.false) c.if-col-sum.false)
