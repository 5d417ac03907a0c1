use Rattle.std.proofs.Common.{◌≡◌, ◌∙◌, List, All, Contains, ap, subst, sym}
use Rattle.std.proofs.lemmas.Result.{IfErr-weaker, IfOk-weaker, err_from_is_err_and}
use Rattle.problem_core.specs.declared.parts.Stay.{Stay}
use Rattle.problem_core.specs.Layout.{HasStay, Problem, error, line_of_row}
use Rattle.layout_solver.specs.Removals.{without, without_attrs}
use Rattle.layout_solver.proofs.Removals.LeftAttrs.{still_stop}
use Rattle.layout_solver.proofs.Removals.LeftRows.{left_free, rows_all, stays_same}
use Rattle.layout_solver.proofs.removing.take_out.Goals as goal

pub leave_attrs-requires-clause-held : goal.leave_attrs-requires-clause-held
leave_attrs-requires-clause-held g c =
    subst (λ (ss : List Stay). All (HasStay ss) c.args.attrs.now) (sym (ap (λ (q : Problem). q.stays) c.in_ok-drop_rows.ensures.gone.problem ∙ stays_same c.args.rows.now c.args.c.now.problem)) c.requires.leave.stays

pub leave_attrs-requires-clause-free : goal.leave_attrs-requires-clause-free
leave_attrs-requires-clause-free g c =
    subst (λ (q : Problem). All (λ r. All (λ t. Contains c.args.attrs.now t.attr → ⊥) r.terms) q.rows) (sym c.in_ok-drop_rows.ensures.gone.problem)
    (left_free (record { rows = c.args.rows.now; attrs = c.args.attrs.now }) c.args.c.now.problem c.requires.leave)

pub leave_attrs-requires-clause-satisfied : goal.leave_attrs-requires-clause-satisfied
leave_attrs-requires-clause-satisfied g c = (
  c.requires.satisfied.0,
  subst (λ (q : Problem). All (λ r. r.rank ≡ 1000 → error c.requires.satisfied.0 (line_of_row r) ≡ 0) q.rows) (sym c.in_ok-drop_rows.ensures.gone.problem)
      (rows_all (λ r. r.rank ≡ 1000 → error c.requires.satisfied.0 (line_of_row r) ≡ 0) c.args.rows.now c.args.c.now.problem c.requires.satisfied.1),
)

pub returns-clause-problem : goal.returns-clause-problem
returns-clause-problem g c =
    IfOk-weaker c.leave_attrs.result (λ _. c.leave_attrs.new.c.problem ≡ without_attrs c.args.attrs.now c.drop_rows.new.c.problem) (λ _. c.leave_attrs.new.c.problem ≡ without (record { rows = c.args.rows.now; attrs = c.args.attrs.now }) c.args.c.now.problem)
    (λ _ e. e ∙ ap (without_attrs c.args.attrs.now) c.in_ok-drop_rows.ensures.gone.problem) c.leave_attrs.ensures.problem

pub returns-clause-path : goal.returns-clause-path
returns-clause-path g c =
    IfOk-weaker c.leave_attrs.result _ _ (λ _ path. path c.args.c.now.problem c.args.c.now.marks c.args.rows.now c.in_ok-drop_rows.ensures.gone) c.leave_attrs.ensures.path

pub returns-clause-stop : goal.returns-clause-stop
returns-clause-stop g c =
    IfErr-weaker c.leave_attrs.result _ _ (λ stop h. h c.args.c.now.problem c.args.c.now.marks c.args.rows.now c.in_ok-drop_rows.ensures.gone) c.leave_attrs.ensures.stop

pub returns-in_err-drop_rows-clause-stop : goal.returns-in_err-drop_rows-clause-stop
returns-in_err-drop_rows-clause-stop g c =
    let p = err_from_is_err_and c.from_residual.result c.from_residual.ensures.1 in
    rw (p.1, p.2) (still_stop c.args.c.now.problem c.args.c.now.marks (record { rows = c.args.rows.now; attrs = c.args.attrs.now }) c.args.budget c.in_err-drop_rows.field-0.0 c.show_corner.ensures.kept.whole c.requires.leave c.in_err-drop_rows.ensures.stop)
