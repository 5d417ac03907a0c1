use Rattle.std.proofs.Common.{◌≡◌, ◌∙◌, All, false, ap, subst, sym}
use Rattle.std.proofs.lemmas.Result.{IfErr-weaker, IfOk-weaker}
use Rattle.problem_core.specs.Layout.{Problem, error, line_of_row}
use Rattle.problem_core.specs.Corners.{NoNegativeValue}
use Rattle.cert_core.specs.Paths.{Path}
use Rattle.corner_ends.specs.Runs.{IsRun}
use Rattle.layout_solver.specs.Removals.{IsEndStop, without_attrs}
use Rattle.layout_solver.proofs.Removals.LeftEnds.{attrs_up, gone_path, gone_stop}
use Rattle.layout_solver.proofs.Removals.LeftRows.{rows_same}
use Rattle.layout_solver.proofs.removing.leave_attrs.Goals as goal

pub settle_left-requires-clause-values : goal.settle_left-requires-clause-values
settle_left-requires-clause-values g c =
    subst (λ (q : Problem). NoNegativeValue q c.drop_attrs.new.c.marks) (sym c.in_ok-drop_attrs.ensures.problem)
    (subst (NoNegativeValue (without_attrs c.args.attrs.now c.args.c.now.problem)) (sym c.in_ok-drop_attrs.ensures.marks) (attrs_up c.args.attrs.now c.args.c.now.problem c.args.c.now.marks c.requires.values))

pub settle_left-requires-clause-satisfied : goal.settle_left-requires-clause-satisfied
settle_left-requires-clause-satisfied g c = (
  c.requires.satisfied.0,
  subst (All (λ r. r.rank ≡ 1000 → error c.requires.satisfied.0 (line_of_row r) ≡ 0)) (sym (ap (λ (q : Problem). q.rows) c.in_ok-drop_attrs.ensures.problem ∙ rows_same c.args.attrs.now c.args.c.now.problem)) c.requires.satisfied.1,
)

pub returns-clause-problem : goal.returns-clause-problem
returns-clause-problem g c =
    IfOk-weaker c.settle_left.result (λ _. c.settle_left.new.c.problem ≡ c.drop_attrs.new.c.problem) (λ _. c.settle_left.new.c.problem ≡ without_attrs c.args.attrs.now c.args.c.now.problem)
    (λ _ e. e ∙ c.in_ok-drop_attrs.ensures.problem) c.settle_left.ensures.problem

pub returns-clause-path : goal.returns-clause-path
returns-clause-path g c =
    IfOk-weaker c.settle_left.result (λ _. (path : Path) × IsRun false c.drop_attrs.new.c.problem (λ at. at ≡ c.drop_attrs.new.c.marks) c.args.budget c.settle_left.new.c.marks path) _
    (λ _ run p kept rows gone. gone_path p kept rows c.args.attrs.now c.args.c.now c.drop_attrs.new.c gone c.in_ok-drop_attrs.ensures.problem c.in_ok-drop_attrs.ensures.marks c.show_corner.ensures.kept.ordered c.args.budget c.settle_left.new.c.marks run)
    c.settle_left.ensures.path

pub returns-clause-stop : goal.returns-clause-stop
returns-clause-stop g c =
    IfErr-weaker c.settle_left.result (IsEndStop c.drop_attrs.new.c.problem c.drop_attrs.new.c.marks c.args.budget) _
    (λ stop h p kept rows gone. gone_stop p kept rows c.args.attrs.now c.args.c.now c.drop_attrs.new.c gone c.in_ok-drop_attrs.ensures.problem c.in_ok-drop_attrs.ensures.marks c.show_corner.ensures.kept.ordered c.args.budget stop h)
    c.settle_left.ensures.stop
