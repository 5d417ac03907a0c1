use Rattle.std.proofs.Common.{◌∙◌, sym}
use Rattle.view_tree.proofs.JsonLemmas.{is_within, long_no, long_yes, passes_depth, passes_name, passes_views}
use Rattle.view_tree.proofs.tree.Tree.plan_limit.Goals as goal

pub returns-then-has_long-clause-passed : goal.returns-then-has_long-clause-passed
returns-then-has_long-clause-passed c = λ tree is.
    passes_name c.args.self.now c.args.parent.0 c.args.plan.now tree is c.deref.result.now c.deref.ensures.value (long_yes c.deref.result.now (sym c.has_long.ensures ∙ c.if-has_long.true))

pub returns-then-not-has_room-clause-passed : goal.returns-then-not-has_room-clause-passed
returns-then-not-has_room-clause-passed c = λ tree is.
    passes_views c.args.self.now c.args.parent.0 c.args.plan.now tree is c.deref.result.now c.deref.ensures.value c.len.result (long_no c.deref.result.now (sym c.has_long.ensures ∙ c.if-has_long.false)) (c.len.ensures ∙ c.args.plan.now.views.ok.0)
    (sym c.has_room.ensures.room ∙ c.if-not-has_room.true)

pub returns-then-is_deep-clause-passed : goal.returns-then-is_deep-clause-passed
returns-then-is_deep-clause-passed c = λ tree is.
    passes_depth c.args.self.now c.args.parent.0 c.args.plan.now tree is c.deref.result.now c.deref.ensures.value c.len.result (long_no c.deref.result.now (sym c.has_long.ensures ∙ c.if-has_long.false)) (c.len.ensures ∙ c.args.plan.now.views.ok.0)
    (sym c.has_room.ensures.room ∙ c.if-not-has_room.false) (c.is_deep.ensures.yes c.if-is_deep.true)

pub returns-clause-within : goal.returns-clause-within
returns-clause-within c = λ tree is.
    is_within c.args.self.now c.args.parent.0 c.args.plan.now tree is c.deref.result.now c.deref.ensures.value c.len.result (long_no c.deref.result.now (sym c.has_long.ensures ∙ c.if-has_long.false)) (c.len.ensures ∙ c.args.plan.now.views.ok.0)
    (sym c.has_room.ensures.room ∙ c.if-not-has_room.false) (c.is_deep.ensures.no c.if-is_deep.false)
