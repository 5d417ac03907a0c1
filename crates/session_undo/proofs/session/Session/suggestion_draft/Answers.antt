use Rattle.std.proofs.Common.{subst}
use Rattle.span_text.specs.Objects.{object_view}
use Rattle.session_undo.specs.Adding.{IsFreeSuggestion}
use Rattle.session_undo.proofs.Commands.Drafts.{suggested-draft, suggestion-draft, suggestion-numbers}
use Rattle.session_undo.proofs.session.Session.suggestion_draft.Goals as goal

pub suggestion-requires : goal.suggestion-requires
suggestion-requires g c =
    suggestion-numbers c.args.self.now c.args.name.now c.args.word c.args.value (object_view c.args.priority) c.in-First.new c.show_numbers.ensures.above c.show_numbers.ensures.tree
    (subst (IsFreeSuggestion c.args.self.now c.args.name.now c.args.word c.args.value (object_view c.args.priority)) c.in-First.is c.in_ok-new.ensures.made)

pub returns-in_ok-suggestion-in-First-clause-made :
    goal.returns-in_ok-suggestion-in-First-clause-made
returns-in_ok-suggestion-in-First-clause-made g c =
    suggestion-draft c.args.self.now c.show_limits.ensures c.args.name.now c.args.word c.args.value (object_view c.args.priority) c.in-First.new c.in_ok-suggestion-in-First.field-0
    (subst (IsFreeSuggestion c.args.self.now c.args.name.now c.args.word c.args.value (object_view c.args.priority)) c.in-First.is c.in_ok-new.ensures.made)
    c.in_ok-suggestion-in-First.ensures.item c.in_ok-suggestion-in-First.ensures.rows c.in_ok-suggestion-in-First.ensures.each

pub returns-in-Again-clause-made : goal.returns-in-Again-clause-made
returns-in-Again-clause-made g c =
    suggested-draft c.args.self.now c.args.name.now c.args.word c.args.value (object_view c.args.priority) c.in-Again.again
    (subst (IsFreeSuggestion c.args.self.now c.args.name.now c.args.word c.args.value (object_view c.args.priority)) c.in-Again.is c.in_ok-new.ensures.made)
