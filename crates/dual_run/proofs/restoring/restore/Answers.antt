use Rattle.std.proofs.Common.{true, ap, refl, subst, ◌≡◌, ◌<◌, ℕ, length, arith}
use Rattle.std.proofs.lemmas.Result.{err_from_is_err_and}
use Rattle.problem_core.specs.Corners.{NoNegativeValue}
use Rattle.problem_core.specs.Levels.{CostsAbove}
use Rattle.corner_view.specs.Seen.{Scene}
use Rattle.cert_core.specs.Stops.{IsStopOf}
use Rattle.corner_ends.specs.Runs.{FromHere}
use Rattle.corner_ends.proofs.Marks.{none_here, some_here}
use Rattle.corner_ends.proofs.RunEnds.{best_end, run_made, stop_moved}
use Rattle.corner_ends.proofs.Trails.{run_lawful, run_sound}
use Rattle.dual_run.specs.Turning.{IsNext}
use Rattle.dual_run.proofs.restoring.restore.Goals as goal

pub next-requires-clause-columns : goal.next-requires-clause-columns
next-requires-clause-columns g c = run_sound true c.loop-low.c.problem c.args.c.now.marks c.loop-low.c.marks c.loop-low.trail.swaps c.loop-low.invariant.trail.swapped

pub step-requires-clause-columns : goal.step-requires-clause-columns
step-requires-clause-columns g c = run_sound true c.loop-low.c.problem c.args.c.now.marks c.loop-low.c.marks c.loop-low.trail.swaps c.loop-low.invariant.trail.swapped

pub unlist_all-requires : goal.unlist_all-requires
unlist_all-requires g c = run_sound true c.loop-low.c.problem c.args.c.now.marks c.loop-low.c.marks c.loop-low.trail.swaps c.loop-low.invariant.trail.swapped

pub returns-in-None-clause-end : goal.returns-in-None-clause-end
returns-in-None-clause-end g c =
    let end = best_end c.loop-low.c.problem c.unlist_all.new.c.problem c.loop-low.c.marks c.unlist_all.new.c.marks (ap (λ (s : Scene). s.problem) c.unlist_all.ensures.scene) (ap (λ (s : Scene). s.marks) c.unlist_all.ensures.scene)
    (none_here c.in_ok-found.found c.in_ok-found.found (NoNegativeValue c.loop-low.c.problem c.loop-low.c.marks) (NoNegativeValue c.loop-low.c.problem c.loop-low.c.marks) c.in_ok-found.ensures.values c.in-None.is)
    (run_sound true c.loop-low.c.problem c.args.c.now.marks c.loop-low.c.marks c.loop-low.trail.swaps c.loop-low.invariant.trail.swapped)
    (none_here c.in_ok-found.found c.in_ok-found.found (CostsAbove c.loop-low.c.problem c.loop-low.c.marks 0 → ⊥) (CostsAbove c.loop-low.c.problem c.loop-low.c.marks 0 → ⊥) c.in_ok-found.ensures.costs c.in-None.is) in
    record { end = end; listed = c.unlist_all.ensures.listed }

pub returns-in-None-clause-path : goal.returns-in-None-clause-path
returns-in-None-clause-path g c =
    run_made true c.loop-low.c.problem c.args.c.now.problem c.args.c.now.marks c.args.c.now.marks c.loop-low.c.marks c.unlist_all.new.c.marks c.loop-low.trail.swaps c.args.budget
    (run_lawful true c.loop-low.c.problem c.args.c.now.marks c.loop-low.c.marks c.loop-low.trail.swaps c.loop-low.invariant.trail.swapped) c.loop-low.invariant.trail.swapped.here c.loop-low.invariant.problem refl (ap (λ (s : Scene). s.marks) c.unlist_all.ensures.scene) c.loop-low.invariant.few

pub returns-then-is_spent-clause-stop : goal.returns-then-is_spent-clause-stop
returns-then-is_spent-clause-stop g c =
    let least = c.is_spent.ensures.yes c.if-is_spent.true in
    let most = c.loop-low.invariant.few in
    let full : length c.loop-low.trail.swaps ≡ c.args.budget = omega (arith, least, most) in
    let may = some_here c.in_ok-found.found (IsNext c.loop-low.c.problem c.loop-low.c.marks) c.in-Some.leave c.in_ok-found.ensures.leaves c.in-Some.is in
    stop_moved true c.loop-low.c.problem c.args.c.now.problem c.args.c.now.marks c.args.c.now.marks c.args.budget c.spent.result c.loop-low.invariant.problem refl
    (subst (λ (n : ℕ). IsStopOf true c.loop-low.c.problem c.loop-low.c.problem.rows (FromHere c.args.c.now.marks) n c.spent.result) full
    (c.spent.ensures true c.args.c.now.marks c.loop-low.invariant.trail may.may.no_end))

pub returns-in_err-step-in-Some-clause-stop : goal.returns-in_err-step-in-Some-clause-stop
returns-in_err-step-in-Some-clause-stop g c =
    let short : length c.loop-low.trail.swaps < c.args.budget = c.is_spent.ensures.no c.if-is_spent.false in
    let p = err_from_is_err_and c.from_residual-in_err-step-in-Some.result c.from_residual-in_err-step-in-Some.ensures.1 in
    rw (p.1, p.2)
    (stop_moved true c.loop-low.c.problem c.args.c.now.problem c.args.c.now.marks c.args.c.now.marks c.args.budget c.in_err-step-in-Some.field-0.0 c.loop-low.invariant.problem refl (c.in_err-step-in-Some.ensures.stop c.args.c.now.marks c.loop-low.invariant.trail c.args.budget short))
