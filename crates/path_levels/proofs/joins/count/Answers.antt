use Rattle.std.proofs.Common.{◌≡◌, ◌∙◌, ◌*◌, ◌/◌, ◌*ℤ◌, ◌<◌, ◌^◌, ap, subst, sym, pos, unsigned_abs, SFits}
use Rattle.std.specs.Int.{w128}
use Rattle.std.proofs.lemmas.Int.{to_z-of_z}
use Rattle.path_levels.proofs.Joining.JoinShares.{counted_is, counted_small, unit_bound, widened}
use Rattle.path_levels.proofs.joins.count.Goals as goal

pub share-requires-clause-small : goal.share-requires-clause-small
share-requires-clause-small c =
    let u : SFits w128 c.args.unit = c.ranges.unit in
    simp to_z-of_z (unit_bound c.args.own c.args.unit (2 ^ 72) c.requires.own c.requires.small)

pub product-requires : goal.product-requires
product-requires c =
    let u : SFits w128 c.args.unit = c.ranges.unit in
    let e : c.from.result ≡ c.args.own = simp (to_z-of_z, c.ranges.own) at c.from.ensures in
    let a : SFits w128 c.from.result = record { sfits = c.from.type_inv } in
    let s : SFits w128 c.share.result = record { sfits = c.share.type_inv } in
    let v = simp (to_z-of_z, c.ranges.unit, c.ranges.cost, c.ranges.scale) at c.share.ensures in
    simp to_z-of_z (rw e (widened _ (counted_small c.args.own c.args.unit c.args.cost c.args.scale c.share.result c.requires.small c.requires.cost.0 c.requires.cost.1 v)))

-- the product, and the share in it
made : (c : goal.After-product) → (c.product.result ≡ c.args.own *ℤ c.share.result) × (c.share.result ≡ pos (unsigned_abs c.args.unit * unsigned_abs c.args.cost / unsigned_abs c.args.scale))
made c =
    let e : c.from.result ≡ c.args.own = simp (to_z-of_z, c.ranges.own) at c.from.ensures in
    let a : SFits w128 c.from.result = record { sfits = c.from.type_inv } in
    let s : SFits w128 c.share.result = record { sfits = c.share.type_inv } in
    (simp to_z-of_z at c.product.ensures ∙ ap (λ z. z *ℤ c.share.result) e, simp (to_z-of_z, c.ranges.unit, c.ranges.cost, c.ranges.scale) at c.share.ensures)

pub returns-clause-value : goal.returns-clause-value
returns-clause-value c =
    let t : SFits w128 c.product.result = record { sfits = c.product.type_inv } in
    simp to_z-of_z ((made c).0 ∙ counted_is c.args.own c.share.result (unsigned_abs c.args.unit * unsigned_abs c.args.cost / unsigned_abs c.args.scale) c.requires.own (made c).1)

pub returns-clause-factor : goal.returns-clause-factor
returns-clause-factor c =
    let t : SFits w128 c.product.result = record { sfits = c.product.type_inv } in
    simp to_z-of_z (subst (λ z. unsigned_abs z < 2 ^ 83) (sym (made c).0) (counted_small c.args.own c.args.unit c.args.cost c.args.scale c.share.result c.requires.small c.requires.cost.0 c.requires.cost.1 (made c).1))
