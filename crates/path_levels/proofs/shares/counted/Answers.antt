use Rattle.std.proofs.Common.{◌≡◌, ◌∙◌, ◌*ℤ◌, ℤ, pos, rules, SFits, to_z, of_z, ap}
use Rattle.std.specs.Int.{w64}
use Rattle.std.proofs.lemmas.Int.{to_z-of_z}
use Rattle.path_levels.specs.Shares.{counted_of, share_at}
use Rattle.path_levels.proofs.Counting.ShareFacts.{counted_fits, counted_small, own_times, unit_fits}
use Rattle.path_levels.proofs.shares.counted.Goals as goal

pub share-requires-clause-fits : goal.share-requires-clause-fits
share-requires-clause-fits c =
    let unit : SFits w64 c.args.row.sum.now.unit = search rules in
    simp to_z-of_z (unit_fits c.args.row.sum.now c.requires.sum)

pub overflow_mul-result : goal.overflow_mul-result
overflow_mul-result c =
    let own : SFits w64 c.args.row.sum.now.own = search rules in
    let unit : SFits w64 c.args.row.sum.now.unit = search rules in
    let unit_is : to_z w64 (of_z w64 c.args.row.sum.now.unit) ≡ c.args.row.sum.now.unit = to_z-of_z w64 c.args.row.sum.now.unit unit in
    let result : SFits w64 c.share.result = record { sfits = c.share.type_inv } in
    let value : c.share.result ≡ pos (share_at c.args.line.now c.args.side c.args.row.place c.args.row.sum.now.unit) = rw unit_is at c.share.ensures.value in
    let product : SFits w64 (c.args.row.sum.now.own *ℤ c.share.result) =
    rw (value, own_times c.args.row.sum.now.own (share_at c.args.line.now c.args.side c.args.row.place c.args.row.sum.now.unit) c.requires.sum.own)
    (counted_fits c.args.line.now c.args.side c.args.row.place c.args.row.sum.now c.requires.line c.requires.sum) in
    simp to_z-of_z product

pub returns-clause-value : goal.returns-clause-value
returns-clause-value c =
    let own : SFits w64 c.args.row.sum.now.own = search rules in
    let unit : SFits w64 c.args.row.sum.now.unit = search rules in
    let unit_is : to_z w64 (of_z w64 c.args.row.sum.now.unit) ≡ c.args.row.sum.now.unit = to_z-of_z w64 c.args.row.sum.now.unit unit in
    let result : SFits w64 c.share.result = record { sfits = c.share.type_inv } in
    let value : c.share.result ≡ pos (share_at c.args.line.now c.args.side c.args.row.place c.args.row.sum.now.unit) = rw unit_is at c.share.ensures.value in
    let product : c.args.row.sum.now.own *ℤ c.share.result ≡ pos (counted_of c.args.line.now c.args.side c.args.row.place c.args.row.sum.now) =
    ap (λ (z : ℤ). c.args.row.sum.now.own *ℤ z) value ∙ own_times c.args.row.sum.now.own (share_at c.args.line.now c.args.side c.args.row.place c.args.row.sum.now.unit) c.requires.sum.own in
    let fits : SFits w64 (c.args.row.sum.now.own *ℤ c.share.result) = rw product (counted_fits c.args.line.now c.args.side c.args.row.place c.args.row.sum.now c.requires.line c.requires.sum) in
    simp to_z-of_z product

pub returns-clause-small : goal.returns-clause-small
returns-clause-small c = counted_small c.args.line.now c.args.side c.args.row.place c.args.row.sum.now c.requires.line c.requires.sum
