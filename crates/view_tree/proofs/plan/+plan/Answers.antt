use Rattle.std.proofs.Common.{◌∙◌, ◌<◌, ◌≤◌, ◌^◌, Some, ap, arith, sym, length}
use Rattle.std.specs.Prelude.{codes}
use Rattle.std.proofs.lemmas.List.{length-map}
use Rattle.std.proofs.lemmas.Result.{err_from_is_err_and}
use Rattle.serde_json.specs.View.{items_view, view}
use Rattle.view_tree.specs.JsonTrees.{branch, height_in, no_branches}
use Rattle.view_tree.specs.Plans.{pair_of, pairs_of}
use Rattle.view_tree.proofs.PlanLemmas.{depth-element, depth-get, low_height, object_alone, object_other, object_some, pairs_leaf, pairs_object}
use Rattle.view_tree.proofs.plan.+plan.Goals as goal

pub plan_elements-plan_object-requires : goal.plan_elements-plan_object-requires
plan_elements-plan_object-requires t c =
    let is = ap (λ vs. Some (items_view vs)) c.deref-element-items.ensures.value ∙ c.in-Some.ensures in (
      omega (
        arith,
        depth-element (view c.args.value.now) c.deref-element-items.result.now c.loop-element.element-index c.element-item.result is c.loop-element-test.true,
        ap (λ v. Rattle.serde_json.specs.Data.depth (view v)) c.element-item.is,
      ),
      tt,
    )

pub plan_object-plan_elements-requires : goal.plan_object-plan_elements-requires
plan_object-plan_elements-requires t c = (omega (arith, depth-get (codes "children") (view c.args.value.now) (view c.in-Some-get.children.now) (sym c.in-Some-get.ensures)), tt)

pub plan_object-returns-in-None-clause-planned : goal.plan_object-returns-in-None-clause-planned
plan_object-returns-in-None-clause-planned t c = (
  branch c.in-Some.name.now no_branches,
  object_alone c.args.is_outermost (view c.args.value.now) c.in-Some.name.now (sym c.has_shape.ensures ∙ c.if-not-has_shape.false) c.in-Some.ensures c.in-None.ensures,
  pairs_leaf c.args.views.now.items c.push.new.self.items (record { name = c.in-Some.name; parent = c.args.parent }) c.in_ok-push.ensures.items,
  omega arith,
)

pub plan_object-overflow_add-result : goal.plan_object-overflow_add-result
plan_object-overflow_add-result t c =
    let below = c.in_ok-height.ensures.planned in
    let few : height_in below.0 ≤ length (pairs_of c.plan_elements.new.views.items) = low_height c.in-Some.name.now below.0 (pairs_of c.push.new.self.items) (pairs_of c.plan_elements.new.views.items) below.2 in
    let len : length c.plan_elements.new.views.items < 2 ^ 63 = omega (arith, c.plan_elements.new.views.ok.0, c.plan_elements.new.views.ok.1, c.plan_elements.new.views.small) in
    record { fits = omega (arith, few, len, below.3, length-map c.plan_elements.new.views.items pair_of) }

pub plan_object-returns-clause-planned : goal.plan_object-returns-clause-planned
plan_object-returns-clause-planned t c =
    let below = c.in_ok-height.ensures.planned in (
      branch c.in-Some.name.now below.0,
      object_some c.args.is_outermost (view c.args.value.now) c.in-Some.name.now (view c.in-Some-get.children.now) below.0 (sym c.has_shape.ensures ∙ c.if-not-has_shape.false) c.in-Some.ensures c.in-Some-get.ensures below.1,
      pairs_object c.args.views.now.items c.push.new.self.items (record { name = c.in-Some.name; parent = c.args.parent }) below.0 (pairs_of c.plan_elements.new.views.items) c.in_ok-push.ensures.items below.2,
      omega (arith, below.3),
    )

pub plan_object-returns-in_err-height-clause-other : goal.plan_object-returns-in_err-height-clause-other
plan_object-returns-in_err-height-clause-other t c =
    let exit = err_from_is_err_and c.from_residual-in_err-height.result c.from_residual-in_err-height.ensures.1 in
    rw (exit.1, exit.2) (λ e.
    object_other c.args.is_outermost (view c.args.value.now) c.in-Some.name.now (view c.in-Some-get.children.now) (sym c.has_shape.ensures ∙ c.if-not-has_shape.false) c.in-Some.ensures c.in-Some-get.ensures (c.in_err-height.ensures.other e))
