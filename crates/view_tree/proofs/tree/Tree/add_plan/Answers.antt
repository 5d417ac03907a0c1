use Rattle.std.proofs.Common.{◌≡◌, ◌∙◌, arith, subst, sym}
use Rattle.view_tree.specs.Plans.{AreNew, grown, pairs_of}
use Rattle.view_tree.proofs.JsonLemmas.{few_views, is_grown, new_views}
use Rattle.view_tree.proofs.tree.Tree.add_plan.Goals as goal

pub add_all-requires : goal.add_all-requires
add_all-requires c = subst (λ vs. AreNew c.args.self.now (pairs_of vs)) (sym c.deref.ensures.value) (new_views c.args.self.now c.args.metrics.now c.args.plan.now c.requires.0 c.requires.1 c.in_ok-may_add.ensures.addable)

pub overflow_cast-result : goal.overflow_cast-result
overflow_cast-result c = record { fits = omega (arith, few_views c.args.self.now c.args.metrics.now c.args.plan.now c.requires.0 c.requires.1 c.in_ok-may_add.ensures.addable, c.len.ensures, c.args.plan.now.views.ok.0) }

pub returns-clause-grown : goal.returns-clause-grown
returns-clause-grown c = λ text tree from planned.
    is_grown c.args.self.now c.args.metrics.now c.args.plan.now tree planned c.in_ok-may_add.ensures.addable text from c.add_all.new.self
    (subst (λ vs. c.add_all.new.self ≡ grown c.args.self.now (pairs_of vs)) c.deref.ensures.value c.in_ok-add_all.ensures.grown) c.len.result
    (c.len.ensures ∙ c.args.plan.now.views.ok.0)
