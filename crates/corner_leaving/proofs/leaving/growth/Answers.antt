use Rattle.std.proofs.Common.{rules, SFits, w64, ◌≡◌, ◌<◌, ◌^◌, ◌*ℤ◌, ◌-ℤ◌, ℤ, pos, sym, ap, subst, unsigned_abs}
use Rattle.std.specs.Int.{w128}
use Rattle.std.proofs.lemmas.Int.{to_z-of_z}
use Rattle.corner_leaving.proofs.Removals.LeavingEnds.{factor_fits, factor_sfits, growth_small, growth_times}
use Rattle.corner_leaving.proofs.leaving.growth.Goals as goal
use Rattle.frac_core.proofs.Fitting.{fits-word as fitting_sfits}

from-is : (c : goal.After-from) → c.from.result ≡ c.args.own *ℤ (c.args.times -ℤ pos 1)
from-is c =
    let o : SFits w64 c.args.own = c.ranges.own in
    let t : SFits w64 c.args.times = c.ranges.times in
    let m : SFits w64 (c.args.times -ℤ pos 1) = fitting_sfits (c.args.times -ℤ pos 1) (growth_times c.args.own c.args.times c.requires.own c.requires.times c.requires.fits) in
    let p : SFits w64 (c.args.own *ℤ (c.args.times -ℤ pos 1)) = fitting_sfits (c.args.own *ℤ (c.args.times -ℤ pos 1)) (growth_small c.args.k c.args.own c.args.times c.requires.k c.requires.own c.requires.times c.requires.fits).1 in
    simp to_z-of_z at c.from.ensures

small : (c : goal.After-from) → unsigned_abs (c.args.k *ℤ c.from.result) < 2 ^ 84
small c = subst (λ (z : ℤ). unsigned_abs (c.args.k *ℤ z) < 2 ^ 84) (sym (from-is c)) (growth_small c.args.k c.args.own c.args.times c.requires.k c.requires.own c.requires.times c.requires.fits).0

pub overflow_mul-result : goal.overflow_mul-result
overflow_mul-result c =
    let k : SFits w128 c.args.k = c.ranges.k in
    let f : SFits w128 c.from.result = search rules in
    simp to_z-of_z (factor_fits (c.args.k *ℤ c.from.result) (small c))

pub returns-clause-value : goal.returns-clause-value
returns-clause-value c =
    let k : SFits w128 c.args.k = c.ranges.k in
    let f : SFits w128 c.from.result = search rules in
    let p : SFits w128 (c.args.k *ℤ c.from.result) = factor_sfits (c.args.k *ℤ c.from.result) (small c) in
    simp to_z-of_z (ap (λ (z : ℤ). c.args.k *ℤ z) (from-is c))

pub returns-clause-factor : goal.returns-clause-factor
returns-clause-factor c =
    let k : SFits w128 c.args.k = c.ranges.k in
    let f : SFits w128 c.from.result = search rules in
    let p : SFits w128 (c.args.k *ℤ c.from.result) = factor_sfits (c.args.k *ℤ c.from.result) (small c) in
    simp to_z-of_z (small c)
