use Rattle.std.proofs.Common.{◌∙◌, IfSome, subst}
use Rattle.view_tree.specs.JsonStops.{IsFirstHeld}
use Rattle.view_tree.specs.Plans.{names_of_plan}
use Rattle.view_tree.proofs.JsonLemmas.{taken_by}
use Rattle.view_tree.proofs.tree.Tree.holds_none.Goals as goal

pub returns-clause-stop : goal.returns-clause-stop
returns-clause-stop c = λ text tree from planned.
    let first : IsFirstHeld c.args.self.now c.args.metrics.now (names_of_plan c.deref.result.now) c.in-Some.name.now = subst (λ o. IfSome o (λ n. IsFirstHeld c.args.self.now c.args.metrics.now (names_of_plan c.deref.result.now) n.now)) c.in-Some.is c.in_ok-name.ensures.held in
    let held : IsFirstHeld c.args.self.now c.args.metrics.now (names_of_plan c.args.plan.now.views.items) c.in-Some.name.now = subst (λ vs. IsFirstHeld c.args.self.now c.args.metrics.now (names_of_plan vs) c.in-Some.name.now) c.deref.ensures.value first in
    taken_by c.args.self.now c.args.metrics.now c.args.plan.now tree planned text from c.requires c.in-Some.name.now held c.in_ok-name-2.name (c.in_ok-name-2.ensures ∙ c.as_bytes.ensures.value)
