use Rattle.std.proofs.Common.{◌≡◌, ◌*ℤ◌, ◌<ℤ◌, ℤ, pos, sym, subst, subst₂, SFits, rules}
use Rattle.std.specs.Int.{w128}
use Rattle.std.proofs.lemmas.Int.{to_z-of_z}
use Rattle.path_lines.proofs.Exchanges.Leading.{ok_then}
use Rattle.path_levels.proofs.Results.{onerr_then}
use Rattle.path_levels.specs.Exchanges.Moved.{IsLowestPart}
use Rattle.path_levels.proofs.Exchanges.MovedValues.{moved_ratio, moved_unfit}
use Rattle.path_levels.proofs.moved.moved_value.Goals as goal
use Rattle.frac_core.proofs.Numbers.{product-up as positive_product}

pub lowest_part-requires : goal.lowest_part-requires
lowest_part-requires c =
    let den : SFits w128 c.product-den.result = record { sfits = c.product-den.type_inv } in
    let over : SFits w128 c.args.ratio.over = search rules in
    let den_is : c.product-den.result ≡ c.args.ratio.over *ℤ pos c.args.value.den = search rules in
    let above : pos 0 <ℤ pos c.args.value.den = search rules in
    simp to_z-of_z (subst (λ (z : ℤ). pos 0 <ℤ z) (sym den_is) (positive_product c.args.ratio.over (pos c.args.value.den) c.requires.above above))

-- the multiple, in lowest terms
part_is : (c : goal.After-joined) → IsLowestPart (c.args.ratio.times *ℤ c.args.value.num) (c.args.ratio.over *ℤ pos c.args.value.den) c.lowest_part.result.num c.lowest_part.result.den
part_is c =
    let times : SFits w128 c.args.ratio.times = search rules in
    let over : SFits w128 c.args.ratio.over = search rules in
    let num : SFits w128 c.product-num.result = record { sfits = c.product-num.type_inv } in
    let den : SFits w128 c.product-den.result = record { sfits = c.product-den.type_inv } in
    let num_is : c.product-num.result ≡ c.args.ratio.times *ℤ c.args.value.num = search rules in
    let den_is : c.product-den.result ≡ c.args.ratio.over *ℤ pos c.args.value.den = search rules in
    subst₂ (λ (n d : ℤ). IsLowestPart n d c.lowest_part.result.num c.lowest_part.result.den) num_is den_is (simp to_z-of_z at c.lowest_part.ensures)

pub returns-clause-value : goal.returns-clause-value
returns-clause-value c =
    ok_then c.joined.result (λ f r. moved_ratio c.args.base c.args.value f c.args.ratio.times c.args.ratio.over c.lowest_part.result.num c.lowest_part.result.den (part_is c) r) c.joined.ensures.value

pub returns-clause-unfit : goal.returns-clause-unfit
returns-clause-unfit c =
    onerr_then c.joined.result (λ none. moved_unfit c.args.base c.args.value c.args.ratio.times c.args.ratio.over c.lowest_part.result.num c.lowest_part.result.den (part_is c) none) c.joined.ensures.unfit
