use Rattle.std.proofs.Common.{refl}
use Rattle.session_undo.proofs.Commands.Drafts.{later-window-draft, later-window-far}
use Rattle.session_undo.proofs.session.Session.later_size_draft.Goals as goal

pub returns-then-not-is_near_size-clause-refused : goal.returns-then-not-is_near_size-clause-refused
returns-then-not-is_near_size-clause-refused g c = later-window-far c.args.self.now c.args.size.now c.args.held c.requires (c.if-not-is_near_size.ensures.no refl)

pub returns-clause-made : goal.returns-clause-made
returns-clause-made g c = later-window-draft c.args.self.now c.args.size.now c.args.held c.requires (c.if-not-is_near_size.ensures.yes refl)
