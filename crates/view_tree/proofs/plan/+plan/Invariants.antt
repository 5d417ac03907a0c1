use Rattle.std.proofs.Common.{drop}
use Rattle.serde_json.specs.Data.{depth}
use Rattle.serde_json.specs.View.{view, items_view}
use Rattle.view_tree.specs.Plans.{pairs_of}
use Rattle.view_tree.proofs.PlanLemmas.{Upto}
use Rattle.view_tree.proofs.plan.+plan.Given as goal

abbrev pub decreases-plan_object : goal.decreases-plan_object
decreases-plan_object l = depth (view l.value.now)

abbrev pub decreases-plan_elements : goal.decreases-plan_elements
decreases-plan_elements l = depth (view l.value.now)

abbrev pub invariant-plan_elements-loop-element : goal.invariant-plan_elements-loop-element
invariant-plan_elements-loop-element l = Upto (items_view l.element-items) (items_view (drop l.element-index l.element-items)) l.parent (pairs_of l.fn.views.items) (pairs_of l.views.items) l.height
