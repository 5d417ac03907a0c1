use Rattle.std.proofs.Common.{◌≡◌, ◌∙◌, ℕ, ap, refl}
use Rattle.held_items.specs.Items.{Sized, size_rows}
use Rattle.session_undo.specs.State.{State}
use Rattle.session_undo.proofs.Commands.Drafts.{first-window-draft}
use Rattle.session_undo.proofs.session.Session.first_size_draft.Goals as goal

pub returns-clause-made : goal.returns-clause-made
returns-clause-made g c =
    let next : c.next_row.result ≡ c.args.self.now.scene.next_row = c.next_row.ensures.value ∙ ap (λ (s : State). s.scene.next_row) c.self.view_is in
    first-window-draft c.args.self.now c.show_limits.ensures c.args.size.now.width c.args.size.now.height c.in_ok-new.new c.requires (c.if-is_crowded.ensures.no refl)
    (c.in_ok-new.ensures.item ∙ ap (λ (n : ℕ). Sized n c.args.size.now.width c.args.size.now.height) next) (c.in_ok-new.ensures.rows ∙ ap (λ (n : ℕ). size_rows n c.args.size.now.width c.args.size.now.height) next) c.in_ok-new.ensures.each
