use Rattle.std.proofs.Common.{◌≡◌, ◌*ℤ◌, SFits}
use Rattle.std.specs.Int.{w128}
use Rattle.std.proofs.lemmas.Int.{to_z-of_z}
use lib.Signed.{quot_z}
use Rattle.path_levels.proofs.Joining.JoinShares.{quotient_sfits, share_is, share_small, small_sfits, widened}
use Rattle.path_levels.proofs.joins.share.Goals as goal

pub returns : goal.returns
returns c =
    let e : c.from.result ≡ c.args.cost = simp (to_z-of_z, c.ranges.cost) at c.from.ensures in
    let d : c.from-2.result ≡ c.args.scale = simp (to_z-of_z, c.ranges.scale) at c.from-2.ensures in
    let u : SFits w128 c.args.unit = c.ranges.unit in
    let a : SFits w128 c.from.result = record { sfits = c.from.type_inv } in
    let b : SFits w128 c.from-2.result = record { sfits = c.from-2.type_inv } in
    let p : SFits w128 (c.args.unit *ℤ c.from.result) = rw e (small_sfits (c.args.unit *ℤ c.args.cost) (widened _ (share_small c.args.unit c.args.cost c.requires.small c.requires.cost.0 c.requires.cost.1))) in
    let q : SFits w128 (quot_z (c.args.unit *ℤ c.from.result) c.from-2.result) = rw (e, d) (quotient_sfits c.args.unit c.args.cost c.args.scale c.requires.unit c.requires.small c.requires.cost.0 c.requires.cost.1 c.requires.scale) in
    simp to_z-of_z (rw (e, d) (share_is c.args.unit c.args.cost c.args.scale c.requires.unit c.requires.cost.0 c.requires.scale))
