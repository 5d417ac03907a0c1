use Rattle.std.proofs.Common.{◌∙◌, ◌-ℤ◌, ◌<◌, ◌^◌, ap, subst, sym, neg_ℤ, pos, unsigned_abs, SFits, rules, w64}
use Rattle.std.specs.Int.{w128}
use Rattle.std.proofs.lemmas.Int.{to_z-of_z}
use Rattle.frac_core.proofs.Integers.{zero-add_ℤ}
use Rattle.path_levels.proofs.Joining.JoinShares.{as_factor, small_sfits, widened}
use Rattle.path_levels.proofs.joins.counted.Goals as goal
use Rattle.frac_core.proofs.Quotients.{size_opposite}

fits : (c : goal.After-count) → SFits w128 (pos 0 -ℤ c.count.result)
fits c = subst (λ z. SFits w128 z) (sym (zero-add_ℤ (neg_ℤ c.count.result))) (small_sfits (neg_ℤ c.count.result) (subst (λ n. n < 2 ^ 126) (sym (size_opposite c.count.result)) (widened _ c.count.ensures.factor)))

pub overflow_sub-result : goal.overflow_sub-result
overflow_sub-result c =
    let s : SFits w128 c.count.result = record { sfits = c.count.type_inv } in
    simp to_z-of_z (fits c)

pub returns-in-Under-clause-value : goal.returns-in-Under-clause-value
returns-in-Under-clause-value c =
    let s : SFits w128 c.count.result = record { sfits = c.count.type_inv } in
    let f : SFits w128 (pos 0 -ℤ c.count.result) = subst (λ z. SFits w128 z) (sym (zero-add_ℤ (neg_ℤ c.count.result))) (small_sfits (neg_ℤ c.count.result) (subst (λ n. n < 2 ^ 126) (sym (size_opposite c.count.result)) (widened _ c.count.ensures.factor))) in
    let u : SFits w128 c.args.unit = c.ranges.unit in
    let o : SFits w64 c.args.own = c.ranges.own in
    let x : SFits w64 c.args.line.under = search rules in
    let y : SFits w64 c.args.line.scale = search rules in
    let v = simp to_z-of_z at c.count.ensures.value in
    simp to_z-of_z (rw c.in-Under.is (zero-add_ℤ (neg_ℤ c.count.result) ∙ ap neg_ℤ v))

pub returns-in-Under-clause-factor : goal.returns-in-Under-clause-factor
returns-in-Under-clause-factor c =
    let s : SFits w128 c.count.result = record { sfits = c.count.type_inv } in
    let f : SFits w128 (pos 0 -ℤ c.count.result) = subst (λ z. SFits w128 z) (sym (zero-add_ℤ (neg_ℤ c.count.result))) (small_sfits (neg_ℤ c.count.result) (subst (λ n. n < 2 ^ 126) (sym (size_opposite c.count.result)) (widened _ c.count.ensures.factor))) in
    simp to_z-of_z (subst (λ z. unsigned_abs z < 2 ^ 84) (sym (zero-add_ℤ (neg_ℤ c.count.result))) (subst (λ n. n < 2 ^ 84) (sym (size_opposite c.count.result)) (as_factor _ c.count.ensures.factor)))
