use Rattle.std.proofs.Common.{◌≡◌, ◌++◌, ◌∷◌, [], ◌+◌, ◌-◌, suc, length, length-append, sym, ◌∙◌, arith}
use Rattle.std.proofs.lemmas.Result.{err_from_is_err_and}
use Rattle.std.proofs.lemmas.List.{map_push}
use Rattle.span_text.specs.Loops.{rounds_at}
use Rattle.vfl_text.specs.Reading.{pred_round_at}
use Rattle.vfl_text.specs.View.{pred_meaning, pred_meanings}
use Rattle.vfl_text.proofs.PredSteps.{list_begins, list_fails, list_goes_on, list_comma_fails, list_ends, list_end_fails}
use Rattle.vfl_text.proofs.preds.predicates_from.Goals as goal

pub loop-preds-init : goal.loop-preds-init
loop-preds-init c = rw c.new-preds.ensures.items (record { same = list_begins _ c.args.text.now (omega arith); room = omega arith })

pub returns-in_err-pred-clause-gives : goal.returns-in_err-pred-clause-gives
returns-in_err-pred-clause-gives c =
    let p = err_from_is_err_and c.from_residual.result c.from_residual.ensures.1 in
    rw (p.1, p.2) (sym c.loop-preds.invariant.same ∙ list_fails _ (length c.args.text.now - length c.loop-preds.preds.items) _ c.loop-preds.rest.now (omega arith) _ c.in_err-pred.ensures.gives)

pub returns-in_err-end-clause-gives : goal.returns-in_err-end-clause-gives
returns-in_err-end-clause-gives c =
    let p = err_from_is_err_and c.from_residual-in_err-end.result c.from_residual-in_err-end.ensures.1 in
    rw (p.1, p.2) (sym c.loop-preds.invariant.same ∙ list_end_fails _ (length c.args.text.now - length c.loop-preds.preds.items) _ c.loop-preds.rest.now (omega arith) _ _ _ c.in_ok-pred.ensures.gives (sym c.begins.ensures ∙ c.if-not-begins.true) c.in_err-end.ensures.gives)

pub returns-then-not-begins-clause-gives : goal.returns-then-not-begins-clause-gives
returns-then-not-begins-clause-gives c =
    let e : pred_meanings c.push.new.self.items ≡ pred_meanings c.loop-preds.preds.items ++ pred_meaning c.in_ok-pred.pred ∷ [] = rw c.in_ok-push.ensures.items (map_push _ c.loop-preds.preds.items c.in_ok-pred.pred) in
    rw e (sym c.loop-preds.invariant.same ∙ list_ends _ (length c.args.text.now - length c.loop-preds.preds.items) _ c.loop-preds.rest.now (omega arith) _ _ _ c.in_ok-pred.ensures.gives (sym c.begins.ensures ∙ c.if-not-begins.true) c.in_ok-end.ensures.gives)

pub returns-in_err-rest-clause-gives : goal.returns-in_err-rest-clause-gives
returns-in_err-rest-clause-gives c =
    let p = err_from_is_err_and c.from_residual-in_err-rest.result c.from_residual-in_err-rest.ensures.1 in
    rw (p.1, p.2) (sym c.loop-preds.invariant.same ∙ list_comma_fails _ (length c.args.text.now - length c.loop-preds.preds.items) _ c.loop-preds.rest.now (omega arith) _ _ _ c.in_ok-pred.ensures.gives (sym c.begins.ensures ∙ c.if-not-begins.false) c.in_err-rest.ensures.gives)

pub loop-preds-preserved : goal.loop-preds-preserved
loop-preds-preserved c =
    let e : pred_meanings c.push.new.self.items ≡ pred_meanings c.loop-preds.preds.items ++ pred_meaning c.in_ok-pred.pred ∷ [] = rw c.in_ok-push.ensures.items (map_push _ c.loop-preds.preds.items c.in_ok-pred.pred) in
    let k : length c.push.new.self.items ≡ length c.loop-preds.preds.items + 1 = rw c.in_ok-push.ensures.items (length-append _ _) in
    let one : rounds_at pred_round_at (suc (length c.args.text.now) - length c.loop-preds.preds.items) (pred_meanings c.loop-preds.preds.items) c.loop-preds.rest.now
    ≡ rounds_at pred_round_at (suc (length c.args.text.now) - length c.push.new.self.items) (pred_meanings c.loop-preds.preds.items ++ pred_meaning c.in_ok-pred.pred ∷ []) c.in_ok-rest.rest.now
    = list_goes_on _ _ _ c.loop-preds.rest.now (omega arith) _ _ _ c.in_ok-pred.ensures.gives (sym c.begins.ensures ∙ c.if-not-begins.false) c.in_ok-rest.ensures.gives in
    record { same = rw e (sym one ∙ c.loop-preds.invariant.same); room = omega (arith, c.in_ok-pred.ensures.shorter, c.in_ok-rest.ensures.shorter) }
