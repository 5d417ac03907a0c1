use Rattle.std.proofs.Common.{◌≡◌, ◌∙◌, ◌+◌, ◌-◌, ℕ, false, take, drop, ap, subst, arith}
use Rattle.std.proofs.lemmas.Result.{IfErr-weaker, IfOk-weaker}
use Rattle.cert_core.specs.Stops.{IsStopOf}
use Rattle.corner_view.specs.AddStops.{FromAdded}
use Rattle.problem_core.specs.Kept.{IsWhole}
use Rattle.corner_laws.specs.Lifts.{with_rows}
use Rattle.layout_solver.specs.Starts.{HasAdded, as_problem}
use Rattle.layout_solver.specs.Trials.{IsJoinStop}
use Rattle.layout_solver.proofs.Starts.FirstRows.{next_rows, next_whole}
use Rattle.layout_solver.proofs.Trials.{next_path, next_stop}
use Rattle.layout_solver.proofs.starting.join_next.Goals as goal

pub join-requires-clause-whole : goal.join-requires-clause-whole
join-requires-clause-whole g c =
    let one : 1 ≡ c.args.i + 1 - c.args.i = omega arith in
    subst (λ (n : ℕ). IsWhole (with_rows (take n (drop c.args.i c.args.rows.now)) c.args.c.now.problem)) one (next_whole c.args.c.now.problem c.args.rows.now c.args.i c.requires.held c.requires.within c.requires.whole)

pub returns-clause-problem : goal.returns-clause-problem
returns-clause-problem g c =
    let one : c.args.i + 1 - c.args.i ≡ 1 = omega arith in
    IfOk-weaker c.join.result (λ _. c.join.new.c.problem ≡ with_rows (take (c.args.i + 1 - c.args.i) (drop c.args.i c.args.rows.now)) c.args.c.now.problem)
    (λ _. c.join.new.c.problem ≡ as_problem (take (c.args.i + 1) c.args.rows.now) c.args.c.now.problem.stays)
    (λ _ is. is ∙ (ap (λ (n : ℕ). with_rows (take n (drop c.args.i c.args.rows.now)) c.args.c.now.problem) one ∙ next_rows c.args.c.now.problem c.args.rows.now c.args.i c.requires.held))
    c.join.ensures.problem

pub returns-clause-path : goal.returns-clause-path
returns-clause-path g c =
    let one : c.args.i + 1 - c.args.i ≡ 1 = omega arith in
    IfOk-weaker c.join.result (λ _. HasAdded (with_rows (take (c.args.i + 1 - c.args.i) (drop c.args.i c.args.rows.now)) c.args.c.now.problem) c.args.c.now.marks (take (c.args.i + 1 - c.args.i) (drop c.args.i c.args.rows.now)) c.args.budget c.join.new.c.marks)
    (λ _. HasAdded (as_problem (take (c.args.i + 1) c.args.rows.now) c.args.c.now.problem.stays) c.args.c.now.marks (take 1 (drop c.args.i c.args.rows.now)) c.args.budget c.join.new.c.marks)
    (λ _ run. next_path c.args.c.now.problem c.args.rows.now c.args.i c.requires.held c.args.budget c.args.c.now.marks c.join.new.c.marks
    (subst (λ (n : ℕ). HasAdded (with_rows (take n (drop c.args.i c.args.rows.now)) c.args.c.now.problem) c.args.c.now.marks (take n (drop c.args.i c.args.rows.now)) c.args.budget c.join.new.c.marks) one run))
    c.join.ensures.path

pub returns-clause-stop : goal.returns-clause-stop
returns-clause-stop g c =
    let one : c.args.i + 1 - c.args.i ≡ 1 = omega arith in
    IfErr-weaker c.join.result
    (IsStopOf false (with_rows (take (c.args.i + 1 - c.args.i) (drop c.args.i c.args.rows.now)) c.args.c.now.problem) c.args.c.now.problem.rows (FromAdded (with_rows (take (c.args.i + 1 - c.args.i) (drop c.args.i c.args.rows.now)) c.args.c.now.problem) c.args.c.now.marks (take (c.args.i + 1 - c.args.i) (drop c.args.i c.args.rows.now))) c.args.budget)
    (IsJoinStop c.args.c.now.problem.stays c.args.rows.now c.args.budget c.args.i c.args.c.now.marks)
    (λ stop h. next_stop c.args.c.now.problem c.args.rows.now c.args.i c.requires.held c.args.budget c.args.c.now.marks stop
    (subst (λ (n : ℕ). IsStopOf false (with_rows (take n (drop c.args.i c.args.rows.now)) c.args.c.now.problem) c.args.c.now.problem.rows (FromAdded (with_rows (take n (drop c.args.i c.args.rows.now)) c.args.c.now.problem) c.args.c.now.marks (take n (drop c.args.i c.args.rows.now))) c.args.budget stop) one h))
    c.join.ensures.stop
