use Rattle.std.proofs.Common.{◌≡◌, Option, Some, None, false, is_some, sym, subst, rules}
use Rattle.span_text.specs.Objects.{Meant, object_view}
use Rattle.held_items.specs.Items.{suggestion_of}
use Rattle.session_undo.specs.Adding.{NoEnd}
use Rattle.session_undo.specs.Machine.{Suggests}
use Rattle.session_undo.specs.Replies.{Limit}
use Rattle.session_undo.proofs.Commands.SuggestionSteps.{held-step, no-priority, ranked-step}
use Rattle.session_undo.proofs.session.Session.suggestion_for.Goals as goal

pub returns-in-Err-clause-refused : goal.returns-in-Err-clause-refused
returns-in-Err-clause-refused g c =
    let none : suggestion_of c.args.view.0 c.args.word c.args.self.now.scene.held ≡ None = search rules in
    ranked-step c.args.self.now c.args.view.0 c.args.word c.args.value (object_view c.args.priority) c.in_ok-rank.rank (Limit c.in-Err.limit) c.args.self.now c.in_ok-rank.ensures.known c.in_ok-rank.ensures.rank
    (held-step c.args.self.now c.args.view.0 c.in_ok-rank.rank c.args.word c.args.value (object_view c.args.priority) None (Limit c.in-Err.limit) c.args.self.now none (c.in-Err.ensures.stop (object_view c.args.priority)))

pub returns-in-Err-later_suggestion-clause-refused : goal.returns-in-Err-later_suggestion-clause-refused
returns-in-Err-later_suggestion-clause-refused g c =
    let some : suggestion_of c.args.view.0 c.args.word c.args.self.now.scene.held ≡ Some c.in-Some.held = search rules in
    let no : is_some c.args.priority ≡ false = search rules in
    let step : Suggests c.args.self.now c.args.view.0 c.args.word c.args.value (object_view c.args.priority) c.in_ok-rank.rank (Some c.in-Some.held) NoEnd (Limit c.in-Err-later_suggestion.limit) c.args.self.now =
    subst (λ (p : Option Meant). Suggests c.args.self.now c.args.view.0 c.args.word c.args.value p c.in_ok-rank.rank (Some c.in-Some.held) NoEnd (Limit c.in-Err-later_suggestion.limit) c.args.self.now) (sym (no-priority c.args.priority no))
    (c.in-Err-later_suggestion.ensures.stop c.in_ok-rank.rank) in
    ranked-step c.args.self.now c.args.view.0 c.args.word c.args.value (object_view c.args.priority) c.in_ok-rank.rank (Limit c.in-Err-later_suggestion.limit) c.args.self.now c.in_ok-rank.ensures.known c.in_ok-rank.ensures.rank
    (held-step c.args.self.now c.args.view.0 c.in_ok-rank.rank c.args.word c.args.value (object_view c.args.priority) (Some c.in-Some.held) (Limit c.in-Err-later_suggestion.limit) c.args.self.now some step)
