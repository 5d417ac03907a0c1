use Rattle.std.proofs.lemmas.List.Elements.{All-push}
use Rattle.problem_core.specs.Kept.{IsRow}
use Rattle.constraint_compile.proofs.RowConstants.Forms.{rows_more, form_small}
use Rattle.constraint_compile.proofs.rows.rows_of.Goals as goal

pub returns-in_default-clause-none : goal.returns-in_default-clause-none
returns-in_default-clause-none c = λ small.
    let no = rw c.in_default.is at c.in_ok-row.ensures.none in
    no (form_small c.args.metrics.now c.args.forms.now c.loop-form.form-index c.form-item.result c.loop-form-test.true c.form-item.is small)

pub loop-form-preserved : goal.loop-form-preserved
loop-form-preserved c =
    let row = rw c.in-Some.is at c.in_ok-row.ensures.row in
    let small = rw c.in-Some.is at c.in_ok-row.ensures.small in
    let kept = rw c.in-Some.is at c.in_ok-row.ensures.kept in
    rw c.in_ok-push.ensures.items (record {
      now = rows_more c.args.metrics.now c.args.forms.now c.loop-form.rows.items c.loop-form.form-index c.form-item.result c.in-Some.row c.loop-form-test.true c.form-item.is row small c.loop-form.invariant.now;
      each = All-push IsRow c.loop-form.rows.items c.in-Some.row c.loop-form.invariant.each kept;
    })
