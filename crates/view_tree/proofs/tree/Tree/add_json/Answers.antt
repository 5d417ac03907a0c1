use Rattle.std.proofs.Common.{IfSome, subst}
use Rattle.std.proofs.lemmas.Result.{IfOk-weaker, err_from_is_err_and}
use Rattle.serde_json.specs.View.{view}
use Rattle.view_tree.specs.JsonStops.{IsGrown, MayStayOut}
use Rattle.view_tree.specs.JsonTrees.{IsJson, IsTreeText}
use Rattle.view_tree.proofs.JsonLemmas.{stop_then}
use Rattle.view_tree.proofs.tree.Tree.add_json.Goals as goal

pub returns-in_err-plan-clause-refused : goal.returns-in_err-plan-clause-refused
returns-in_err-plan-clause-refused c =
    let json : IsJson c.args.json.now (view c.in-Some.value) = subst (λ o. IfSome o (λ v. IsJson c.args.json.now (view v))) c.in-Some.is c.in_ok-value.ensures.json in
    let exit = err_from_is_err_and c.from_residual-in_err-plan.result c.from_residual-in_err-plan.ensures.1 in
    rw (exit.1, exit.2) (c.in_err-plan.ensures.stop c.args.self.now c.args.metrics.now c.args.json.now json)

pub returns-clause-grown : goal.returns-clause-grown
returns-clause-grown c =
    let json : IsJson c.args.json.now (view c.in-Some.value) = subst (λ o. IfSome o (λ v. IsJson c.args.json.now (view v))) c.in-Some.is c.in_ok-value.ensures.json in
    let from : IsTreeText c.args.json.now c.in_ok-plan.ensures.planned.0 = record { value = view c.in-Some.value; json = json; shape = c.in_ok-plan.ensures.planned.1 } in
    IfOk-weaker c.add_plan.result _ (IsGrown c.args.self.now c.args.metrics.now c.args.json.now c.add_plan.new.self) (λ count h. h c.args.json.now c.in_ok-plan.ensures.planned.0 from c.in_ok-plan.ensures.planned.2) c.add_plan.ensures.grown

pub returns-clause-refused : goal.returns-clause-refused
returns-clause-refused c =
    let json : IsJson c.args.json.now (view c.in-Some.value) = subst (λ o. IfSome o (λ v. IsJson c.args.json.now (view v))) c.in-Some.is c.in_ok-value.ensures.json in
    let from : IsTreeText c.args.json.now c.in_ok-plan.ensures.planned.0 = record { value = view c.in-Some.value; json = json; shape = c.in_ok-plan.ensures.planned.1 } in
    stop_then c.add_plan.result _ (MayStayOut c.args.self.now c.args.metrics.now c.args.json.now) (λ stop h. h c.args.json.now c.in_ok-plan.ensures.planned.0 from c.in_ok-plan.ensures.planned.2) c.add_plan.ensures.refused
