use Rattle.std.proofs.Common.{rules, refl}
use Rattle.frac_core.specs.Fraction.{IsKept}
use Rattle.corner_exchange.proofs.Basics.Opposites.{opposite_is, opposite_there}
use Rattle.corner_exchange.proofs.exchange.turning.negated.Goals as goal

pub returns-in-Ok : goal.returns-in-Ok
returns-in-Ok c =
    let kept : IsKept c.args.f = search rules in
    opposite_is c.zero.result c.args.f c.in-Ok.f _ _ c.zero.ensures.num c.zero.ensures.den refl refl kept.lowest c.in-Ok.ensures.lowest c.in-Ok.ensures.value

pub returns-in-Err : goal.returns-in-Err
returns-in-Err c =
    let kept : IsKept c.args.f = search rules in
    absurd (opposite_there c.zero.result c.args.f _ _ c.zero.ensures.num c.zero.ensures.den refl refl kept c.in-Err.ensures.unfit)
