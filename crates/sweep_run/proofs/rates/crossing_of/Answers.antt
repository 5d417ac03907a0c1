use Rattle.std.proofs.Common.{rules, ◌≡◌, ◌∙◌, SFits, refl, ap, ℤ, pos, neg_ℤ, ◌-ℤ◌, ◌*ℤ◌}
use Rattle.std.specs.Int.{w64, w128}
use Rattle.std.proofs.lemmas.Int.{to_z-of_z}
use Rattle.frac_core.proofs.Numbers.{zero-minus}
use Rattle.corner_ends.proofs.Marks.{in_mark}
use Rattle.sweep_run.proofs.EndFacts.{end_is_kept}
use Rattle.sweep_run.proofs.Ends.{product_turns}
use Rattle.sweep_run.proofs.Soonest.{crossing_is}
use Rattle.sweep_run.proofs.rates.crossing_of.Goals as goal

pub value-value-requires : goal.value-value-requires
value-value-requires g c = record { mark = in_mark c.args.c.now.problem c.args.c.now.marks c.args.mark c.show_corner.ensures.kept c.requires.low.inside }

pub overflow_sub-result : goal.overflow_sub-result
overflow_sub-result g c =
    let p : SFits w128 c.product.result = search rules in
    simp to_z-of_z (product_turns c.product.result c.product.ensures.small)

pub returns-clause-crossing : goal.returns-clause-crossing
returns-clause-crossing g c =
    let n : SFits w64 c.num.result = search rules in
    let d : SFits w64 c.den.result = search rules in
    let rn : SFits w64 c.mark_rate-rate.result.n = search rules in
    let rd : SFits w64 c.mark_rate-rate.result.d = search rules in
    let p : SFits w128 c.product.result = search rules in
    let q : SFits w128 c.product-2.result = search rules in
    let turned : SFits w128 (pos 0 -ℤ c.product.result) = product_turns c.product.result c.product.ensures.small in
    let first : c.product.result ≡ c.num.result *ℤ c.mark_rate-rate.result.d = simp (to_z-of_z, n, rd) at c.product.ensures.value in
    let second : c.product-2.result ≡ c.den.result *ℤ c.mark_rate-rate.result.n = simp (to_z-of_z, d, rn) at c.product-2.ensures.value in
    simp (to_z-of_z, p, q, turned)
    (crossing_is c.args.c.now.problem c.args.c.now.marks c.args.way.now c.show_corner.ensures.kept c.requires.held.held c.requires.held.constant (end_is_kept c.args.way.now c.args.c.now c.requires.held).lowest.above c.args.mark
    c.value-value.result c.num.ensures.kept.lowest.above c.value-value.ensures c.requires.low c.mark_rate-rate.result (record { mark = c.args.mark; p = pos 0 -ℤ c.product.result; q = c.product-2.result })
    c.mark_rate-rate.ensures c.requires.before refl
    (zero-minus c.product.result ∙ ap neg_ℤ (first ∙ ap (λ (z : ℤ). z *ℤ c.mark_rate-rate.result.d) c.num.ensures.value))
    (second ∙ ap (λ (z : ℤ). z *ℤ c.mark_rate-rate.result.n) c.den.ensures.value))
