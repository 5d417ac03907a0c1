use Rattle.std.proofs.Common.{subst}
use Rattle.script_text.specs.Grammar.{Line, words_of}
use Rattle.script_text.specs.View.{reading_view}
use Rattle.script_text.specs.declared.words.Version.{Version}
use Rattle.session_undo.specs.Replies.{Reply}
use Rattle.session_undo.specs.Explaining.{SaidStep}
use Rattle.session_undo.proofs.Commands.Chains.{err-map}
use Rattle.layout_cli.specs.Machine.{Step}
use Rattle.layout_cli.proofs.Told.{step-read}
use Rattle.layout_cli.proofs.answers.step.Goals as goal

pub returns-in-Ok-clause-refused : goal.returns-in-Ok-clause-refused
returns-in-Ok-clause-refused c =
    let reads = subst (λ (v : Version). Line (words_of v) c.args.line.now (reading_view c.in-Ok.reading)) c.version.ensures c.in-Ok.ensures.sound in
    err-map (λ (reply : Reply). SaidStep c.args.session.now (reading_view c.in-Ok.reading) reply c.args.session.now) (λ (reply : Reply). Step c.args.session.now c.args.line.now reply c.args.session.now) c.apply.result
    (λ reply step. step-read c.args.session.now c.args.line.now (reading_view c.in-Ok.reading) c.if-line-gt-LINE_LIMIT.false reads reply c.args.session.now step) c.apply.ensures.refused
