use Rattle.std.proofs.Common.{◌∙◌, ◌≤◌, Bool, List, length, ap, subst, sym, arith}
use Rattle.std.specs.Prelude.{Ok}
use Rattle.std.proofs.lemmas.Result.{err_from_is_err_and}
use Rattle.problem_core.specs.Corners.{Swap}
use Rattle.sweep_run.proofs.Stepping.{begins_sliding, columns_here, slid_back, stop_back}
use Rattle.sweep_run.proofs.slides.slide.Goals as goal

pub returns-in_err-go_to_end-clause-stop : goal.returns-in_err-go_to_end-clause-stop
returns-in_err-go_to_end-clause-stop g c =
    let p = err_from_is_err_and c.from_residual-in_err-go_to_end.result c.from_residual-in_err-go_to_end.ensures.1 in
    rw (p.1, p.2) (c.in_err-go_to_end.ensures.stop c.args.budget)

pub of-trail-requires : goal.of-trail-requires
of-trail-requires g c = columns_here c.args.c.now.problem c.args.way.now c.go_to_end.new.c c.in_ok-go_to_end.ensures.problem c.args.c.now.marks c.in_ok-go_to_end.ensures.marks c.requires.end.end.columns

pub loop-trail-init : goal.loop-trail-init
loop-trail-init g c = record {
  problem = c.in_ok-go_to_end.ensures.problem;
  before = c.in_ok-go_to_end.ensures.before;
  sliding = begins_sliding c.args.c.now.problem c.args.way.now c.go_to_end.new.c c.in_ok-go_to_end.ensures.problem c.args.c.now.marks c.in_ok-slid.slid c.of-trail.result c.in_ok-go_to_end.ensures.marks c.requires.end.end.columns c.in_ok-slid.ensures
      c.in_ok-go_to_end.ensures.held c.of-trail.ensures.trail c.of-trail.ensures.none;
  few = subst (λ (xs : List Swap). length xs ≤ c.args.budget) (sym c.of-trail.ensures.none) (omega arith);
}

pub returns-in_err-step-clause-stop : goal.returns-in_err-step-clause-stop
returns-in_err-step-clause-stop g c =
    let p = err_from_is_err_and c.from_residual-in_err-step.result c.from_residual-in_err-step.ensures.1 in
    rw (p.1, p.2)
    (stop_back c.args.c.now.problem c.args.way.now c.loop-trail.c c.loop-trail.invariant.problem c.args.c.now.marks c.args.budget c.in_err-step.field-0.0
    (c.in_err-step.ensures.stop c.args.c.now.marks c.loop-trail.invariant.sliding c.loop-trail.invariant.few))

pub returns-clause-stretches : goal.returns-clause-stretches
returns-clause-stretches g c = slid_back c.args.c.now.problem c.args.way.now c.loop-trail.c c.loop-trail.invariant.problem c.step.new.slid (c.step.ensures.through (c.in_ok-step.was ∙ ap (λ (b : Bool). Ok b) c.if-not-branch.false))
