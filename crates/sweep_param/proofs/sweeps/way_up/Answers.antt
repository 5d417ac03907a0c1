use Rattle.std.proofs.Common.{rules}
use Rattle.sweep_laws.specs.Fractions.{IsLess}
use Rattle.sweep_param.proofs.Ways.{goes_up}
use Rattle.sweep_param.proofs.sweeps.way_up.Goals as goal

pub returns : goal.returns
returns c =
    let r = c.args.range.now in
    let less : IsLess r.present r.to = search rules in ((goes_up r.row r.present r.from r.to c.in-Ok.way c.in-Ok.ensures.way less, c.in-Ok.ensures.way), tt)
