use Rattle.std.proofs.Common.{rules}
use Rattle.sweep_laws.specs.Fractions.{IsLess}
use Rattle.sweep_param.proofs.Ways.{down_fits, goes_down}
use Rattle.sweep_param.proofs.sweeps.way_down.Goals as goal

pub unreachable-requires : goal.unreachable-requires
unreachable-requires c =
    let r = c.args.range.now in
    let less : IsLess r.from r.present = search rules in down_fits r.present r.from r.to less c.requires.fits c.requires.wide c.in-Err.ensures.unfit

pub returns : goal.returns
returns c =
    let r = c.args.range.now in
    let less : IsLess r.from r.present = search rules in ((goes_down r.row r.present r.to r.from c.in-Ok.way c.in-Ok.ensures.way less, c.in-Ok.ensures.way), tt)
