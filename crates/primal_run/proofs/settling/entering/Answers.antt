use Rattle.std.proofs.Common.{◌≡◌, List, [], subst, sym}
use Rattle.problem_core.specs.Layout.{Problem}
use Rattle.problem_core.specs.declared.parts.Mark.{Mark}
use Rattle.problem_core.specs.declared.parts.RowName.{RowName}
use Rattle.problem_core.specs.Corners.{NoNegativeColumn}
use Rattle.problem_core.specs.Levels.{CostsAbove}
use Rattle.corner_view.specs.Seen.{AreCandidates}
use Rattle.corner_ends.specs.Columns.{IsNegative}
use Rattle.primal_run.specs.Entering.{MayEnter}
use Rattle.primal_run.proofs.FirstLevel.{negative_enters, none_listed}
use Rattle.corner_ends.proofs.Marks.{none_follows, some_maps}
use Rattle.primal_run.proofs.settling.entering.Goals as goal

pub required_entering-requires-clause-costs : goal.required_entering-requires-clause-costs
required_entering-requires-clause-costs g c =
    subst (λ (p : Problem). CostsAbove p c.pick-found.new.c.marks 0) (sym c.pick-found.ensures.problem)
    (subst (λ (at : List Mark). CostsAbove c.args.c.now.problem at 0) (sym c.pick-found.ensures.marks) (c.is_costly-costly.ensures.yes c.if-costly.true))

pub returns-clause-enters : goal.returns-clause-enters
returns-clause-enters g c =
    some_maps c.mark_of.result (IsNegative c.pick-found.new.c.problem c.pick-found.new.c.marks) (MayEnter c.args.c.now.problem c.args.c.now.marks)
    (λ m h. negative_enters c.args.c.now.problem c.args.c.now.marks m c.show_corner.ensures.kept (c.is_costly-costly.ensures.no c.if-costly.false)
    (subst (λ (p : Problem). IsNegative p c.args.c.now.marks m) c.pick-found.ensures.problem
    (subst (λ (at : List Mark). IsNegative c.pick-found.new.c.problem at m) c.pick-found.ensures.marks h)))
    c.mark_of.ensures.some

pub returns-clause-columns : goal.returns-clause-columns
returns-clause-columns g c =
    none_follows c.mark_of.result c.pick-found.result (c.pick-found.new.c.candidates ≡ []) (NoNegativeColumn c.args.c.now.problem c.args.c.now.marks) c.mark_of.ensures.none c.pick-found.ensures.none
    (λ none. none_listed c.args.c.now.problem c.args.c.now.marks c.show_corner.ensures.kept
    (subst (λ (p : Problem). AreCandidates p c.args.c.now.marks []) c.pick-found.ensures.problem
    (subst (λ (at : List Mark). AreCandidates c.pick-found.new.c.problem at []) c.pick-found.ensures.marks
    (subst (λ (names : List RowName). AreCandidates c.pick-found.new.c.problem c.pick-found.new.c.marks names) none c.show_corner-2.ensures.candidates))))
