use Rattle.std.proofs.Common.{◌∙◌, ◌++◌, ap, refl}
use Rattle.serde_json.specs.View.{view}
use Rattle.view_tree.specs.Plans.{pairs, pairs_of}
use Rattle.view_tree.proofs.PlanLemmas.{tree_is}
use Rattle.view_tree.proofs.plan.plan_of.Goals as goal

pub returns-clause-planned : goal.returns-clause-planned
returns-clause-planned c =
    let planned = c.in_ok-height.ensures.planned in (
      record { place = c.in-Some.place.now; branch = planned.0 },
      tree_is (view c.args.value.now) c.in-Some.place.now planned.0 c.in-Some.ensures planned.1,
      record {
        place = refl;
        pairs = planned.2 ∙ ap (λ ps. pairs_of ps ++ pairs c.in-Some.place.now planned.0) c.new-views.ensures.items;
        height = planned.3;
      },
    )
