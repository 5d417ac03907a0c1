use Rattle.std.proofs.Common.{rules, inr}
use Rattle.problem_core.proofs.GapFacts.GapSigns.{on_err}
use Rattle.sweep_run.specs.Ways.{ComesBefore, IsUnfitWay}
use Rattle.sweep_run.proofs.ways.Way.of.Goals as goal

pub returns-in_err-place_of-2-clause-unfit : goal.returns-in_err-place_of-2-clause-unfit
returns-in_err-place_of-2-clause-unfit c =
    let before : ComesBefore c.eq-up.result c.args.present c.args.end = search rules in
    on_err c.from_residual-in_err-place_of-2.result (IsUnfitWay c.args.present c.args.near c.args.end) (c.eq-up.result, before, inr c.in_err-place_of-2.ensures.unfit)
