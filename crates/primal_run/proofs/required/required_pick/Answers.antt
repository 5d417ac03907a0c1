use Rattle.std.proofs.Common.{rules, ◌+◌, All, take, slice_get, ◌≡◌, Some}
use Rattle.problem_core.specs.declared.parts.RowName.{RowName}
use Rattle.primal_run.specs.Entering.{HasNoRequired}
use Rattle.corner_ends.proofs.Marks.{none_here, none_more, took_more}
use Rattle.primal_run.proofs.FirstLevel.{none_required}
use Rattle.primal_run.proofs.required.required_pick.Goals as goal
use Rattle.frac_core.proofs.Lists.{all-whole as took_all}

pub loop-i-preserved : goal.loop-i-preserved
loop-i-preserved g c = record {
  found = c.next_lowest-found.ensures.some;
  none = none_more c.next_lowest-found.result c.loop-i.found ((name : RowName) × (slice_get c.args.c.now.candidates c.loop-i.i ≡ Some name) × HasNoRequired c.args.c.now.problem c.args.c.now.marks name) (All (HasNoRequired c.args.c.now.problem c.args.c.now.marks) (take c.loop-i.i c.args.c.now.candidates)) (All (HasNoRequired c.args.c.now.problem c.args.c.now.marks) (take (c.loop-i.i + 1) c.args.c.now.candidates))
      (λ own before. took_more (HasNoRequired c.args.c.now.problem c.args.c.now.marks) c.args.c.now.candidates c.loop-i.i own.0 before own.1 own.2)
      c.next_lowest-found.ensures.none c.loop-i.invariant.none;
}

pub returns-in_err-lower-clause-none : goal.returns-in_err-lower-clause-none
returns-in_err-lower-clause-none g c =
    rw c.from_residual.ensures (none_required c.args.c.now.problem c.args.c.now.marks c.args.c.now.candidates c.show_corner.ensures.kept c.show_corner.ensures.candidates
    (took_all (HasNoRequired c.args.c.now.problem c.args.c.now.marks) c.args.c.now.candidates c.loop-i.i (search rules) (none_here c.loop-i.found c.loop-i.found (All (HasNoRequired c.args.c.now.problem c.args.c.now.marks) (take c.loop-i.i c.args.c.now.candidates)) (All (HasNoRequired c.args.c.now.problem c.args.c.now.marks) (take c.loop-i.i c.args.c.now.candidates)) c.loop-i.invariant.none c.in_err-lower.was)))
