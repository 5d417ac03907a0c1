use Rattle.std.proofs.Common.{subst}
use Rattle.conflict_core.specs.Cores.{trial}
use Rattle.conflict_core.specs.Shown.{IsSolution}
use Rattle.conflict_core.specs.Trials.{IsOutcome}
use Rattle.conflict_core.proofs.Narrowing.{all_required}
use Rattle.conflict_core.proofs.TrialRows.{all_satisfied}
use Rattle.conflict_core.proofs.finding.found_of.Goals as goal

pub tried-requires-clause-rows : goal.tried-requires-clause-rows
tried-requires-clause-rows g c = all_required c.args.t.now.problem.now c.args.all.now c.show_whole.ensures c.requires.all

pub returns-in-Solved-clause-found : goal.returns-in-Solved-clause-found
returns-in-Solved-clause-found g c =
    let solution : IsSolution (trial c.args.t.now.problem.now c.args.all.now) c.in-Solved.field-0 =
    subst (IsOutcome c.args.t.now.problem.now c.args.all.now) c.in-Solved.is c.in_ok-tried.ensures.outcome in
    let (x, sat, gives) = solution.satisfies in
    (x, all_satisfied c.args.t.now.problem.now c.args.all.now x c.requires.all sat)
