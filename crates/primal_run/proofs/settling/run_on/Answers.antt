use Rattle.std.proofs.Common.{rules, false, ◌≡◌, ◌∙◌, ◌<◌, ℕ, length, arith, refl, subst, []}
use Rattle.std.proofs.lemmas.Result.{err_from_is_err_and}
use Rattle.problem_core.specs.Corners.{NoNegativeColumn}
use Rattle.problem_core.specs.Levels.{CostsAbove}
use Rattle.cert_core.specs.Stops.{IsStopOf}
use Rattle.corner_ends.specs.Runs.{FromHere}
use Rattle.corner_ends.proofs.Marks.{none_here}
use Rattle.corner_ends.proofs.RunEnds.{best_end, run_made, stop_moved}
use Rattle.corner_ends.proofs.Trails.{run_lawful, run_sound}
use Rattle.primal_run.proofs.settling.run_on.Goals as goal

pub exchange-requires-clause-trail : goal.exchange-requires-clause-trail
exchange-requires-clause-trail g c = (c.args.c.now.marks, c.loop-alloc.invariant.trail)

pub returns-then-is_spent-clause-stop : goal.returns-then-is_spent-clause-stop
returns-then-is_spent-clause-stop g c =
    let least = c.is_spent.ensures.yes c.if-is_spent.true in
    let most = c.loop-alloc.invariant.few in
    let full : length c.loop-alloc.trail.swaps ≡ c.args.budget = omega (arith, least, most) in
    stop_moved false c.loop-alloc.c.problem c.args.c.now.problem c.args.c.now.marks c.args.c.now.marks c.args.budget c.spent.result c.loop-alloc.invariant.problem refl
    (subst (λ (n : ℕ). IsStopOf false c.loop-alloc.c.problem c.loop-alloc.c.problem.rows (FromHere c.args.c.now.marks) n c.spent.result) full
    (c.spent.ensures false c.args.c.now.marks c.loop-alloc.invariant.trail c.loop-alloc.invariant.enter.no_end))

pub returns-in_err-exchange-clause-stop : goal.returns-in_err-exchange-clause-stop
returns-in_err-exchange-clause-stop g c =
    let short : length c.loop-alloc.trail.swaps < c.args.budget = search rules in
    let p = err_from_is_err_and c.from_residual.result c.from_residual.ensures.1 in
    rw (p.1, p.2)
    (stop_moved false c.loop-alloc.c.problem c.args.c.now.problem c.args.c.now.marks c.args.c.now.marks c.args.budget c.in_err-exchange.field-0.0 c.loop-alloc.invariant.problem refl (c.in_err-exchange.ensures.stop c.args.c.now.marks c.loop-alloc.invariant.trail c.args.budget short))

pub returns-in-None-clause-end : goal.returns-in-None-clause-end
returns-in-None-clause-end g c =
    let run = c.in_ok-exchange.ensures.trail c.args.c.now.marks c.loop-alloc.invariant.trail in
    let end = best_end c.exchange.new.c.problem c.entering.new.c.problem c.exchange.new.c.marks c.entering.new.c.marks c.entering.ensures.problem c.entering.ensures.marks
    (run_sound false c.exchange.new.c.problem c.args.c.now.marks c.exchange.new.c.marks c.exchange.new.trail.swaps run.swapped) (none_here c.in_ok-found.found c.in_ok-found.found (NoNegativeColumn c.exchange.new.c.problem c.exchange.new.c.marks) (NoNegativeColumn c.exchange.new.c.problem c.exchange.new.c.marks) c.in_ok-found.ensures.columns c.in-None.is)
    (none_here c.in_ok-found.found c.in_ok-found.found (CostsAbove c.exchange.new.c.problem c.exchange.new.c.marks 0 → ⊥) (CostsAbove c.exchange.new.c.problem c.exchange.new.c.marks 0 → ⊥) c.in_ok-found.ensures.costs c.in-None.is) in
    record { end = end; listed = none_here c.in_ok-found.found c.in_ok-found.found (c.entering.new.c.candidates ≡ []) (c.entering.new.c.candidates ≡ []) c.in_ok-found.ensures.listed c.in-None.is }

pub returns-in-None-clause-path : goal.returns-in-None-clause-path
returns-in-None-clause-path g c =
    let short : length c.loop-alloc.trail.swaps < c.args.budget = search rules in
    let more = c.in_ok-exchange.ensures.more in
    let run = c.in_ok-exchange.ensures.trail c.args.c.now.marks c.loop-alloc.invariant.trail in
    run_made false c.exchange.new.c.problem c.args.c.now.problem c.args.c.now.marks c.args.c.now.marks c.exchange.new.c.marks c.entering.new.c.marks c.exchange.new.trail.swaps c.args.budget
    (run_lawful false c.exchange.new.c.problem c.args.c.now.marks c.exchange.new.c.marks c.exchange.new.trail.swaps run.swapped) run.swapped.here
    (c.in_ok-exchange.ensures.problem ∙ c.loop-alloc.invariant.problem) refl c.entering.ensures.marks (omega (arith, short, more))
