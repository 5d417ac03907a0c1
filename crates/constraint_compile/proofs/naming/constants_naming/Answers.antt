use Rattle.std.proofs.Common.{rules, ◌≡◌, true, false}
use Rattle.constraint_compile.specs.Inside.{form_view}
use Rattle.constraint_compile.specs.Naming.{names_metric}
use Rattle.constraint_compile.proofs.RowConstants.Named.{naming_next, naming_past, naming_small}
use Rattle.constraint_compile.proofs.naming.constants_naming.Goals.{then-names_metric+in-Some+in_ok-push, else-names_metric}
use Rattle.constraint_compile.proofs.naming.constants_naming.Goals as goal

pub returns-in_default-clause-none : goal.returns-in_default-clause-none
returns-in_default-clause-none c = λ small.
    let names : names_metric c.args.name.now (form_view c.form-item.result) ≡ true = search rules in
    c.in_default.ensures.none (naming_small c.args.metrics.now c.args.name.now c.args.forms.now c.loop-form.form-index c.form-item.result c.loop-form-test.true c.form-item.is names small)

pub loop-form-preserved : goal.loop-form-preserved
loop-form-preserved c = elim c.if-names_metric.branch [
  | then-names_metric+in-Some+in_ok-push w ↦
      let names : names_metric c.args.name.now (form_view c.form-item.result) ≡ true = search rules in
      rw (w.constants-is, w.in_ok-push.ensures.items)
      (naming_next c.args.metrics.now c.args.name.now c.args.forms.now c.loop-form.form-index c.form-item.result c.loop-form-test.true c.form-item.is c.loop-form.constants.items w.in-Some.constant names w.in-Some.ensures.some c.loop-form.invariant)
  | else-names_metric w ↦
      let none : names_metric c.args.name.now (form_view c.form-item.result) ≡ false = search rules in
      rw w.constants-is
      (naming_past c.args.metrics.now c.args.name.now c.args.forms.now c.loop-form.form-index c.form-item.result c.loop-form-test.true c.form-item.is c.loop-form.constants.items none c.loop-form.invariant)
]
