use Rattle.std.proofs.Common.{subst}
use Rattle.span_text.specs.Objects.{object_view}
use Rattle.session_undo.specs.Adding.{IsFreeIntrinsic}
use Rattle.session_undo.proofs.Commands.Drafts.{preferred-draft, size-draft, size-numbers}
use Rattle.session_undo.proofs.session.Session.size_draft.Goals as goal

pub intrinsic-requires : goal.intrinsic-requires
intrinsic-requires g c =
    size-numbers c.args.self.now c.args.name.now c.args.size.now.width c.args.size.now.height (object_view c.args.pulls.hug) (object_view c.args.pulls.resist) c.in-First.new c.show_numbers.ensures.above c.show_numbers.ensures.tree
    (subst (IsFreeIntrinsic c.args.self.now c.args.name.now c.args.size.now.width c.args.size.now.height (object_view c.args.pulls.hug) (object_view c.args.pulls.resist)) c.in-First.is c.in_ok-new.ensures.made)

pub returns-in_ok-intrinsic-in-First-clause-made :
    goal.returns-in_ok-intrinsic-in-First-clause-made
returns-in_ok-intrinsic-in-First-clause-made g c =
    size-draft c.args.self.now c.show_limits.ensures c.args.name.now c.args.size.now.width c.args.size.now.height (object_view c.args.pulls.hug) (object_view c.args.pulls.resist) c.in-First.new c.in_ok-intrinsic-in-First.field-0
    (subst (IsFreeIntrinsic c.args.self.now c.args.name.now c.args.size.now.width c.args.size.now.height (object_view c.args.pulls.hug) (object_view c.args.pulls.resist)) c.in-First.is c.in_ok-new.ensures.made)
    c.in_ok-intrinsic-in-First.ensures.item c.in_ok-intrinsic-in-First.ensures.rows c.in_ok-intrinsic-in-First.ensures.each

pub returns-in-Again-clause-made : goal.returns-in-Again-clause-made
returns-in-Again-clause-made g c =
    preferred-draft c.args.self.now c.args.name.now c.args.size.now.width c.args.size.now.height (object_view c.args.pulls.hug) (object_view c.args.pulls.resist) c.in-Again.again
    (subst (IsFreeIntrinsic c.args.self.now c.args.name.now c.args.size.now.width c.args.size.now.height (object_view c.args.pulls.hug) (object_view c.args.pulls.resist)) c.in-Again.is c.in_ok-new.ensures.made)
