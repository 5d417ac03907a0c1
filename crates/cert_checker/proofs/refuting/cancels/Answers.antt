use Rattle.std.proofs.Common.{length, sym, refl}
use Rattle.std.proofs.lemmas.Bool.{eqb-false}
use Rattle.std.proofs.lemmas.Result.{IfOk-weaker}
use Rattle.cert_checker.proofs.Refuted.{cancels-iff, not_empty, lines-count}
use Rattle.cert_checker.proofs.Written.Weighing.{weighed-fit}
use Rattle.cert_checker.proofs.Written.Naming.{named-required}
use Rattle.cert_checker.proofs.refuting.cancels.Goals as goal
use Rattle.frac_core.proofs.Bools.{false-not-true as false-true}

pub cancel-requires-clause-weighted : goal.cancel-requires-clause-weighted
cancel-requires-clause-weighted c = weighed-fit c.args.p.now c.args.by.now c.args.weighted.now c.requires.weighted c.requires.by

pub cancel-requires-clause-count : goal.cancel-requires-clause-count
cancel-requires-clause-count c = lines-count c.args.p.now c.show_whole.ensures c.args.by.now c.args.weighted.now c.requires.weighted c.requires.by

pub returns-then-not-are_required-clause-cancels : goal.returns-then-not-are_required-clause-cancels
returns-then-not-are_required-clause-cancels c = (
  λ h. absurd (false-true h),
  λ h. c.if-not-are_required.ensures.1 (named-required c.args.p.now c.show_whole.ensures c.args.by.now c.args.weighted.now c.requires.weighted h.named),
)

pub returns-clause-cancels : goal.returns-clause-cancels
returns-clause-cancels c =
    IfOk-weaker c.cancel.result _ _
    (λ ok h. cancels-iff c.args.p.now c.show_whole.ensures c.args.by.now c.args.weighted.now c.requires.weighted (not_empty c.args.by.now (eqb-false (length c.args.by.now) 0 (sym c.if-is_empty.ensures))) (c.if-not-are_required.ensures.0 refl) ok h)
    c.cancel.ensures
