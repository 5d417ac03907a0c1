use Rattle.std.proofs.Common.{◌≡◌, ◌∙◌, ◌*ℤ◌, pos, rules, SFits, to_z, of_z, sym, ap}
use Rattle.std.specs.Prelude.{FitsSigned}
use Rattle.std.specs.Int.{w64}
use Rattle.std.proofs.lemmas.Int.{quot_fits, quot_is, to_z-of_z}
use Rattle.path_levels.specs.Shares.{weight_on}
use Rattle.path_levels.proofs.Counting.ShareFacts.{share_here, share_ints, share_small, weight_most, weight_up, weighted_fits}
use Rattle.path_levels.proofs.shares.share.Goals as goal

pub overflow_mul-result : goal.overflow_mul-result
overflow_mul-result c =
    let weight : SFits w64 c.weight_on.result = record { sfits = c.weight_on.type_inv } in
    let unit : SFits w64 c.args.unit = c.ranges.unit in
    let product : SFits w64 (c.args.unit *ℤ c.weight_on.result) =
    rw c.weight_on.ensures (weighted_fits c.args.unit (weight_on c.args.side c.args.line.now) c.requires.fits (weight_most c.args.side c.args.line.now c.requires.line)) in
    simp to_z-of_z product

pub returns-clause-value : goal.returns-clause-value
returns-clause-value c =
    let weight : SFits w64 c.weight_on.result = record { sfits = c.weight_on.type_inv } in
    let scale : SFits w64 c.args.line.now.scale = search rules in
    let product : FitsSigned w64 (c.args.unit *ℤ c.weight_on.result) =
    rw c.weight_on.ensures (weighted_fits c.args.unit (weight_on c.args.side c.args.line.now) c.requires.fits (weight_most c.args.side c.args.line.now c.requires.line)) in
    let units : to_z w64 (of_z w64 c.args.unit) ≡ c.args.unit = to_z-of_z w64 c.args.unit c.ranges.unit in
    let weights : to_z w64 (of_z w64 c.weight_on.result) ≡ c.weight_on.result = to_z-of_z w64 c.weight_on.result weight in
    rw (units, weights)
    (quot_is w64 (c.args.unit *ℤ c.weight_on.result) c.args.line.now.scale product scale (quot_fits w64 (c.args.unit *ℤ c.weight_on.result) c.args.line.now.scale product c.requires.line.scale.0)
    ∙ rw c.weight_on.ensures (share_ints c.args.unit (weight_on c.args.side c.args.line.now) c.args.line.now.scale c.requires.above (weight_up c.args.side c.args.line.now c.requires.line) c.requires.line.scale.0)
    ∙ ap pos (sym (share_here c.args.line.now c.args.side c.args.place c.args.unit c.if-line-place.false)))

pub returns-clause-small : goal.returns-clause-small
returns-clause-small c = share_small c.args.line.now c.args.side c.args.place c.args.unit c.requires.line
