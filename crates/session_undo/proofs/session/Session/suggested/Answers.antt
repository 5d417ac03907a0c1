use Rattle.std.proofs.Common.{◌≡◌, ℕ, List, None, Some, inl, inr, refl, sym, rules, ◌∙◌}
use Rattle.std.proofs.lemmas.Option.{none-some}
use Rattle.script_text.specs.declared.words.AttrWord.{AttrWord}
use Rattle.view_tree.specs.Views.{LiveView, view_named}
use Rattle.held_items.specs.Items.{suggestion_name, suggestion_of}
use Rattle.session_undo.specs.State.{State}
use Rattle.session_undo.specs.Adding.{NoEnd}
use Rattle.session_undo.specs.Kept.{session_at}
use Rattle.session_undo.specs.Machine.{TriedRelease}
use Rattle.session_undo.specs.Replies.{Unknown}
use Rattle.session_undo.proofs.Commands.SuggestionSteps.{view-found}
use Rattle.session_undo.proofs.session.Session.suggested.Goals as goal

-- no suggestion of the attribute is held
release-unknown : (old : State) (name : List ℕ) (attr : AttrWord) (view : LiveView) → view_named old.scene.tree.views name ≡ Some view → suggestion_of view.id attr old.scene.held ≡ None
    → TriedRelease old name attr NoEnd (Unknown (suggestion_name name attr)) old
release-unknown old name attr view found none = inr ((λ h. none-some view (sym h ∙ found)), (view, found, inl (none, refl, refl)))

pub returns-then-is_none-clause-refused : goal.returns-then-is_none-clause-refused
returns-then-is_none-clause-refused g c =
    let old = (session_at c.self.inside.scene c.self.inside.budget c.self.inside.limits c.self.inside.version) in
    let f = view-found (view_named old.scene.tree.views c.args.name.now) c.in-Some.view.0 (rw c.tree.ensures at c.in-Some.ensures) in
    let none : suggestion_of c.in-Some.view.0 c.args.word old.scene.held ≡ None = search rules in
    rw (c.in_ok-suggestion_name.ensures, ← c.self.view_is) (release-unknown old c.args.name.now c.args.word f.0 f.1 (rw f.2 none))
