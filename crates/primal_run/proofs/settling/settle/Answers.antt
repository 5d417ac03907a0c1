use Rattle.std.proofs.Common.{List, IfOk, false, ◌≡◌, refl, subst, sym, arith, []}
use Rattle.problem_core.specs.Layout.{Problem}
use Rattle.problem_core.specs.declared.parts.Mark.{Mark}
use Rattle.problem_core.specs.Corners.{NoNegativeColumn, NoNegativeValue}
use Rattle.problem_core.specs.Levels.{CostsAbove}
use Rattle.cert_core.specs.Paths.{Path}
use Rattle.corner_ends.specs.Runs.{IsRun}
use Rattle.corner_ends.proofs.Marks.{none_here}
use Rattle.corner_ends.proofs.MarkOrders.{same_self}
use Rattle.corner_ends.proofs.RunEnds.{best_end, run_made}
use Rattle.corner_ends.proofs.Trails.{run_begins, run_lawful}
use Rattle.primal_run.proofs.settling.settle.Goals as goal

pub returns-in-None-clause-end : goal.returns-in-None-clause-end
returns-in-None-clause-end g c =
    let end = best_end c.args.c.now.problem c.entering.new.c.problem c.args.c.now.marks c.entering.new.c.marks c.entering.ensures.problem c.entering.ensures.marks c.requires.values
    (none_here c.in_ok-found.found c.in_ok-found.found (NoNegativeColumn c.args.c.now.problem c.args.c.now.marks) (NoNegativeColumn c.args.c.now.problem c.args.c.now.marks) c.in_ok-found.ensures.columns c.in-None.is)
    (none_here c.in_ok-found.found c.in_ok-found.found (CostsAbove c.args.c.now.problem c.args.c.now.marks 0 → ⊥) (CostsAbove c.args.c.now.problem c.args.c.now.marks 0 → ⊥) c.in_ok-found.ensures.costs c.in-None.is) in
    record { end = end; listed = none_here c.in_ok-found.found c.in_ok-found.found (c.entering.new.c.candidates ≡ []) (c.entering.new.c.candidates ≡ []) c.in_ok-found.ensures.listed c.in-None.is }

pub returns-in-None-clause-path : goal.returns-in-None-clause-path
returns-in-None-clause-path g c =
    let begun = run_begins false c.args.c.now.problem c.args.c.now.marks c.show_corner.ensures.kept c.requires.values in
    run_made false c.args.c.now.problem c.args.c.now.problem c.args.c.now.marks c.args.c.now.marks c.args.c.now.marks c.entering.new.c.marks [] c.args.budget (run_lawful false c.args.c.now.problem c.args.c.now.marks c.args.c.now.marks [] begun) (same_self c.args.c.now.marks) refl refl c.entering.ensures.marks (omega arith)

pub run_on-requires-clause-values : goal.run_on-requires-clause-values
run_on-requires-clause-values g c =
    subst (λ (p : Problem). NoNegativeValue p c.entering.new.c.marks) (sym c.entering.ensures.problem) (subst (λ (at : List Mark). NoNegativeValue c.args.c.now.problem at) (sym c.entering.ensures.marks) c.requires.values)

pub returns-in-Some-clause-path : goal.returns-in-Some-clause-path
returns-in-Some-clause-path g c =
    subst (λ (p : Problem). IfOk c.run_on.result (λ _. (path : Path) × IsRun false p (λ at. at ≡ c.args.c.now.marks) c.args.budget c.run_on.new.c.marks path)) c.entering.ensures.problem
    (subst (λ (ms : List Mark). IfOk c.run_on.result (λ _. (path : Path) × IsRun false c.entering.new.c.problem (λ at. at ≡ ms) c.args.budget c.run_on.new.c.marks path)) c.entering.ensures.marks c.run_on.ensures.path)
