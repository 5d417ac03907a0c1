use Rattle.std.proofs.Common.{ℕ, sym, subst}
use Rattle.std.proofs.lemmas.Result.{IfOk-weaker}
use Rattle.span_text.specs.Objects.{object_view}
use Rattle.view_tree.specs.Views.{view_named}
use Rattle.session_undo.specs.declared.wishes.NewSuggestion.{NewSuggestion}
use Rattle.session_undo.specs.Adding.{IsFreeSuggestion, IsSuggestionFor, NoEnd, SuggestStep}
use Rattle.session_undo.specs.Machine.{TriedSuggest}
use Rattle.session_undo.specs.Replies.{Reply}
use Rattle.session_undo.specs.Kept.{session_at}
use Rattle.session_undo.proofs.Commands.Chains.{err-map}
use Rattle.session_undo.proofs.Commands.SuggestionSteps.{step-causes, view-found}
use Rattle.session_undo.proofs.session.Session.new_suggestion.Goals as goal

pub returns-clause-made : goal.returns-clause-made
returns-clause-made g c =
    let old = (session_at c.self.inside.scene c.self.inside.budget c.self.inside.limits c.self.inside.version) in
    let f = view-found (view_named old.scene.tree.views c.args.name.now) c.in-Some.view.0 (rw c.tree.ensures at c.in-Some.ensures) in
    rw (← c.self.view_is)
    (IfOk-weaker c.suggestion_for.result (λ (new : NewSuggestion). IsSuggestionFor old c.in-Some.view.0 c.args.word c.args.value (object_view c.args.priority) new) (λ (new : NewSuggestion). IsFreeSuggestion old c.args.name.now c.args.word c.args.value (object_view c.args.priority) new)
    (λ new to. to c.args.name.now f.0 f.1 f.2) (rw (← c.self.view_is) at c.suggestion_for.ensures.made))

pub returns-clause-refused : goal.returns-clause-refused
returns-clause-refused g c =
    let old = (session_at c.self.inside.scene c.self.inside.budget c.self.inside.limits c.self.inside.version) in
    let f = view-found (view_named old.scene.tree.views c.args.name.now) c.in-Some.view.0 (rw c.tree.ensures at c.in-Some.ensures) in
    rw (← c.self.view_is)
    (err-map (λ (reply : Reply). SuggestStep old c.in-Some.view.0 c.args.word c.args.value (object_view c.args.priority) reply old) (λ (reply : Reply). TriedSuggest old c.args.name.now c.args.word c.args.value (object_view c.args.priority) NoEnd reply old) c.suggestion_for.result
    (λ reply step. step-causes old c.args.name.now f.0 c.args.word c.args.value (object_view c.args.priority) reply old f.1 (subst (λ (n : ℕ). SuggestStep old n c.args.word c.args.value (object_view c.args.priority) reply old) (sym f.2) step))
    (rw (← c.self.view_is) at c.suggestion_for.ensures.refused))
