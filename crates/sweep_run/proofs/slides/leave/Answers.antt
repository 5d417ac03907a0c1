use Rattle.std.proofs.Common.{◌≡◌, length, arith}
use Rattle.sweep_run.proofs.Stopping.{slide_stop, used_up}
use Rattle.sweep_run.proofs.slides.leave.Goals as goal

pub returns-then-is_spent-clause-stop : goal.returns-then-is_spent-clause-stop
returns-then-is_spent-clause-stop g c = λ first is few.
    let least = c.is_spent.ensures.yes c.if-is_spent.true in
    let full : length c.args.trail.now.swaps ≡ c.args.budget = omega (arith, least, few) in
    used_up c.args.c.now c.args.way.now c.requires.held first c.args.trail.now c.args.budget c.spent_at.result is c.requires.leave.no_end full c.spent_at.ensures

pub returns-in-Err-clause-stop : goal.returns-in-Err-clause-stop
returns-in-Err-clause-stop g c = λ first is few.
    let short = c.is_spent.ensures.no c.if-is_spent.false in
    rw c.run_stop.ensures
    (slide_stop c.args.c.now c.args.way.now c.requires.held first c.args.budget c.in-Err.stop c.in-Err.ensures.plain (c.in-Err.ensures.stop first is c.args.budget short))
