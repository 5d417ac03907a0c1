use Rattle.std.proofs.Common.{[], ◌∷◌, List, subst, sym}
use Rattle.problem_core.specs.declared.parts.Mark.{Mark}
use Rattle.problem_core.specs.declared.parts.RowName.{RowName}
use Rattle.problem_core.specs.Layout.{HasStay, Problem}
use Rattle.dual_run.specs.Leaving.{AreLowLines}
use Rattle.layout_solver.specs.Layouts.{IsBestValue}
use Rattle.layout_solver.specs.Trials.{IsDualStop}
use Rattle.layout_solver.proofs.Shifts.Alterations.{nothing_low}
use Rattle.layout_solver.proofs.Shifts.ShiftedProblems.{columns_there}
use Rattle.layout_solver.proofs.Trials.{change_stop_is}
use Rattle.layout_solver.proofs.trying.shifted.Goals as goal

pub restored-requires-clause-columns : goal.restored-requires-clause-columns
restored-requires-clause-columns g c = columns_there c.args.c.now c.shift.new.c (c.args.to ∷ []) c.in-Ok.ensures.problem c.in-Ok.ensures.marks c.requires.end.end.columns

pub restored-requires-clause-low : goal.restored-requires-clause-low
restored-requires-clause-low g c =
    c.in-Ok.ensures.low
    (subst (λ (names : List RowName). AreLowLines c.args.c.now.problem c.args.c.now.marks names) (sym c.new-low.ensures.items) (nothing_low c.args.c.now.problem c.args.c.now.marks c.show_corner.ensures.kept c.requires.end.end.values))

pub restored-requires-clause-attr : goal.restored-requires-clause-attr
restored-requires-clause-attr g c = subst (λ (q : Problem). HasStay q.stays c.args.attr) (sym c.in-Ok.ensures.problem) c.requires.attr

pub returns-in-Ok-restored-clause-value : goal.returns-in-Ok-restored-clause-value
returns-in-Ok-restored-clause-value g c =
    subst (λ (q : Problem). IsBestValue q c.args.attr c.in-Ok-restored.value) c.in-Ok.ensures.problem c.in-Ok-restored.ensures.value

pub returns-in-Err-restored-clause-stop : goal.returns-in-Err-restored-clause-stop
returns-in-Err-restored-clause-stop g c =
    subst (λ (q : Problem). IsDualStop q c.args.c.now.marks c.args.budget c.in-Err-restored.stop) c.in-Ok.ensures.problem
    (subst (λ (ms : List Mark). IsDualStop c.shift.new.c.problem ms c.args.budget c.in-Err-restored.stop) c.in-Ok.ensures.marks c.in-Err-restored.ensures.stop)

pub returns-in-Err-clause-stop : goal.returns-in-Err-clause-stop
returns-in-Err-clause-stop g c = change_stop_is c.args.c.now.problem c.args.c.now.marks c.args.to c.args.budget c.in-Err.stop c.change_stop.result c.change_stop.ensures.refused c.change_stop.ensures.memory c.in-Err.ensures.stop
