use Rattle.std.proofs.Common.{◌≡◌, ◌∙◌, ◌++◌, List, ℕ, ap, not, subst, sym}
use Rattle.edge_io.specs.Feeding.{shown}
use Rattle.edge_io.specs.declared.feed.Piece.{Piece}
use Rattle.line_by_line.specs.Answers.{IsGivenAs}
use Rattle.layout_cli.specs.Hosted.{IsHosted}
use Rattle.layout_cli.proofs.hosting.HostTalk.say.Goals as goal

pub returns-in_ok-refused-in-Line : goal.returns-in_ok-refused-in-Line
returns-in_ok-refused-in-Line c =
    λ line given.
    let this : line ≡ c.in-Line.line.now = subst (λ (p : Piece). IsGivenAs (shown p) line) c.in-Line.is given in
    let told = c.in_ok-refused-in-Line.ensures.told in
    let text : c.answer.new.out.items ≡ told.0 = told.2 ∙ ap (λ (front : List ℕ). front ++ told.0) c.clear.ensures.items in
    subst (λ (l : List ℕ). IsHosted c.args.self.now.host.scenes l c.answer.new.out.items (not c.in_ok-refused-in-Line.refused) c.answer.new.self.scenes) (sym this)
    (subst (λ (t : List ℕ). IsHosted c.args.self.now.host.scenes c.in-Line.line.now t (not c.in_ok-refused-in-Line.refused) c.answer.new.self.scenes) (sym text) told.1)
