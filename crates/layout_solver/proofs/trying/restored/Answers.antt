use Rattle.std.proofs.Common.{subst, sym}
use Rattle.problem_core.specs.Layout.{HasStay, Problem}
use Rattle.layout_solver.specs.Layouts.{IsBestValue}
use Rattle.layout_solver.proofs.BestValues.{best_value}
use Rattle.layout_solver.proofs.trying.restored.Goals as goal

pub attr_value-requires : goal.attr_value-requires
attr_value-requires g c = record { attr = subst (λ (q : Problem). HasStay q.stays c.args.attr) (sym c.in_ok-restore.ensures.problem) c.requires.attr }

pub returns-clause-value : goal.returns-clause-value
returns-clause-value g c =
    subst (λ (q : Problem). IsBestValue q c.args.attr c.attr_value.result) c.in_ok-restore.ensures.problem
    (best_value c.restore.new.c.problem c.restore.new.c.marks c.args.attr c.attr_value.result c.show_corner.ensures.kept.whole c.show_corner.ensures.kept.corner c.in_ok-restore.ensures.end.end
    (subst (λ (q : Problem). HasStay q.stays c.args.attr) (sym c.in_ok-restore.ensures.problem) c.requires.attr) c.attr_value.ensures)
