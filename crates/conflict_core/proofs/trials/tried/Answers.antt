use Rattle.std.proofs.Common.{ℕ, sym, subst, All}
use Rattle.std.proofs.lemmas.Result.{IfOk-weaker}
use Rattle.problem_core.specs.Layout.{HasStay, Problem}
use Rattle.layout_solver.specs.Layouts.{AreBest}
use Rattle.layout_solver.specs.Requests.{run_of}
use Rattle.conflict_core.specs.Cores.{trial}
use Rattle.conflict_core.specs.Shown.{IsSolution}
use Rattle.conflict_core.specs.Trials.{IsOutcome, IsStopOfTrial}
use Rattle.conflict_core.proofs.Outcomes.{all_held, solved, trial_numbers}
use Rattle.conflict_core.proofs.trials.tried.Goals as goal

pub taken-requires-clause-held : goal.taken-requires-clause-held
taken-requires-clause-held g c =
    subst (λ (q : Problem). All (HasStay q.stays) c.args.t.now.numbers.now) (sym c.in-Ok.ensures.done)
    (all_held (trial c.args.t.now.problem.now c.args.ids.now) c.args.t.now.numbers.now
    (trial_numbers c.args.t.now.problem.now c.args.ids.now c.args.t.now.numbers.now c.requires.trials.numbers.same))

pub returns-in_ok-taken-in-Ok-clause-outcome : goal.returns-in_ok-taken-in-Ok-clause-outcome
returns-in_ok-taken-in-Ok-clause-outcome g c =
    let q = trial c.args.t.now.problem.now c.args.ids.now in
    let best : AreBest q c.add_rows.new.e.values = subst (λ (p : Problem). AreBest p c.add_rows.new.e.values) c.in-Ok.ensures.done c.show_layout.ensures.best in
    subst (IsSolution q) (sym c.in_ok-taken-in-Ok.ensures.values)
    (solved q c.args.t.now.numbers.now (trial_numbers c.args.t.now.problem.now c.args.ids.now c.args.t.now.numbers.now c.requires.trials.numbers.same)
    c.add_rows.new.e.values best c.show_layout.ensures.kept c.requires.trials.numbers.rising)

pub returns-in-Err-clause-outcome : goal.returns-in-Err-clause-outcome
returns-in-Err-clause-outcome g c =
    IfOk-weaker c.outcome_of.result (λ outcome. (p : Problem) (budget : ℕ) → IsStopOfTrial p c.args.ids.now budget (run_of c.in-Err.stop) → IsOutcome p c.args.ids.now outcome)
    (IsOutcome c.args.t.now.problem.now c.args.ids.now) (λ outcome told. told c.args.t.now.problem.now c.args.t.now.budget c.in-Err.ensures.stop) c.outcome_of.ensures.refuted
