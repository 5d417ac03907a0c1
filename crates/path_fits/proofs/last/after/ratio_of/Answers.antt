use Rattle.std.proofs.Common.{◌≡◌, ◌*ℤ◌, ◌<ℤ◌, ℤ, pos, sym, subst, SFits, rules}
use Rattle.std.specs.Int.{w128}
use Rattle.std.proofs.lemmas.Int.{to_z-of_z}
use Rattle.path_fits.proofs.last.after.ratio_of.Goals as goal
use Rattle.frac_core.proofs.Numbers.{product-up as positive_product}

pub returns-clause-above : goal.returns-clause-above
returns-clause-above c =
    let over : SFits w128 c.pair_product-2.result = record { sfits = c.pair_product-2.type_inv } in
    let is : c.pair_product-2.result ≡ c.args.own *ℤ c.args.pivot.now.size = search rules in
    simp to_z-of_z (subst (λ (z : ℤ). pos 0 <ℤ z) (sym is) (positive_product c.args.own c.args.pivot.now.size c.requires.above c.requires.size_above))
