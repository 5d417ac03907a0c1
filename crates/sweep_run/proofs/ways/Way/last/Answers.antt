use Rattle.sweep_run.proofs.Ends.{zero_kept}
use Rattle.sweep_run.proofs.Places.{at-end}
use Rattle.sweep_run.proofs.ways.Way.last.Goals as goal

pub returns-clause-place : goal.returns-clause-place
returns-clause-place c =
    at-end c.args.self.now.up c.args.self.now.end c.zero.result c.num.ensures.kept (zero_kept c.zero.result c.zero.ensures.num c.zero.ensures.den) c.zero.ensures.num c.zero.ensures.den
