use Rattle.std.proofs.Common.{◌≡◌, ◌∙◌, sym, ◌+ℤ◌, ◌*ℤ◌, ap, ℤ, SFits, rules}
use Rattle.std.specs.Int.{w64, w128}
use Rattle.std.proofs.lemmas.Int.{to_z-of_z}
use Rattle.row_core.proofs.Walks.{whole_there, whole_elsewhere}
use Rattle.row_core.proofs.Sizes.{narrow_extra, narrow_extra_fit}
use Rattle.row_core.proofs.walk.narrow_total.Goals as goal

pub returns-then-col-sum : goal.returns-then-col-sum
returns-then-col-sum c =
    let left : SFits w64 c.args.left = c.ranges.left in
    let right : SFits w64 c.args.right = c.ranges.right in
    let rows_is : c.narrow_both-rows.result ≡ c.args.sum.now.k *ℤ c.args.left +ℤ c.args.sum.now.n *ℤ c.args.right = simp to_z-of_z at c.narrow_both-rows.ensures.value in
    let wide : SFits w128 c.args.sum.now.extra = search rules in
    let extra : SFits w64 c.args.sum.now.extra = narrow_extra c.args.sum.now.extra c.requires.narrow.extra in
    let rows : SFits w64 c.narrow_both-rows.result = record { sfits = c.narrow_both-rows.type_inv } in
    let fits : SFits w64 (c.narrow_both-rows.result +ℤ c.args.sum.now.extra) =
    narrow_extra_fit c.narrow_both-rows.result c.args.sum.now.extra c.narrow_both-rows.ensures.small c.requires.narrow.extra in
    record {
      value = simp to_z-of_z (ap (λ (z : ℤ). z +ℤ c.args.sum.now.extra) rows_is
          ∙ whole_there c.args.sum.now c.args.col (c.args.sum.now.k *ℤ c.args.left +ℤ c.args.sum.now.n *ℤ c.args.right) (sym c.is_left_out.ensures ∙ c.if-is_left_out.false) c.if-col-sum.true);
    }

pub returns-else-col-sum : goal.returns-else-col-sum
returns-else-col-sum c =
    let left : SFits w64 c.args.left = c.ranges.left in
    let right : SFits w64 c.args.right = c.ranges.right in
    let rows_is : c.narrow_both-rows.result ≡ c.args.sum.now.k *ℤ c.args.left +ℤ c.args.sum.now.n *ℤ c.args.right = simp to_z-of_z at c.narrow_both-rows.ensures.value in
    let rows : SFits w64 c.narrow_both-rows.result = record { sfits = c.narrow_both-rows.type_inv } in
    record {
      value = simp to_z-of_z (rows_is
          ∙ whole_elsewhere c.args.sum.now c.args.col (c.args.sum.now.k *ℤ c.args.left +ℤ c.args.sum.now.n *ℤ c.args.right) (sym c.is_left_out.ensures ∙ c.if-is_left_out.false) c.if-col-sum.false);
    }
