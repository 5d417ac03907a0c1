use Rattle.std.proofs.Common.{◌≡◌, ◌<◌, true, false, Err, List, ℕ, length, sym, subst, ap}
use Rattle.std.proofs.lemmas.Result.{IfOk-weaker, err_from_is_err_and}
use Rattle.std.specs.Io.KnownBytes.{Appends}
use Rattle.edge_io.specs.Feeding.{shown}
use Rattle.edge_io.specs.Outside.{HasFront}
use Rattle.edge_io.specs.declared.feed.Piece.{Piece}
use Rattle.edge_io.specs.declared.traits.Failed.{Failed}
use Rattle.frac_core.specs.declared.memory.Stop.{Stop}
use Rattle.name_tables.specs.declared.stops.LimitWord.TheVariants as word
use Rattle.session_undo.specs.Replies.{Limit}
use Rattle.session_undo.specs.State.{State}
use Rattle.line_by_line.specs.Answers.{IsGivenAs}
use Rattle.line_by_line.proofs.Stops.{passed_on}
use Rattle.reply_texts.specs.Replies.{text_of}
use Rattle.layout_cli.specs.Machine.{Talking, Talks}
use Rattle.layout_cli.proofs.Answered.{long_talks}
use Rattle.layout_cli.proofs.talk.TalkAnswerer.answer.Goals as goal

pub returns-in-Line-clause-told : goal.returns-in-Line-clause-told
returns-in-Line-clause-told g c =
    IfOk-weaker c.put_answer.result _ _ (λ good told line given.
    let this : line ≡ c.in-Line.line.now = subst (λ (p : Piece). IsGivenAs (shown p) line) c.in-Line.is given in
    (told.0, subst (λ (l : List ℕ). Talks c.args.self.now.responder l told.0 good c.put_answer.new.self) (sym this) told.1, told.2)) c.put_answer.ensures.told

pub returns-in-Line-clause-front : goal.returns-in-Line-clause-front
returns-in-Line-clause-front g c =
    λ is line given.
    let told = c.put_answer.ensures.front is in
    let this : line ≡ c.in-Line.line.now = subst (λ (p : Piece). IsGivenAs (shown p) line) c.in-Line.is given in
    (told.0, told.1, record c.args.self.now { responder = told.2 }, subst (λ (l : List ℕ). Talks c.args.self.now.responder l told.0 told.1 told.2) (sym this) told.3, told.4)

pub returns-in_err-refuse_long-in-Long-clause-front : goal.returns-in_err-refuse_long-in-Long-clause-front
returns-in_err-refuse_long-in-Long-clause-front g c =
    λ is line given.
    let exit = err_from_is_err_and c.from_residual.result c.from_residual.ensures.1 in
    let front = c.in_err-refuse_long-in-Long.ensures.front (ap (λ (e : Stop Failed). Err e) (passed_on _ _ exit.0 _ exit.1 exit.2 is)) in
    let long : 4096 < length line = subst (λ (p : Piece). IsGivenAs (shown p) line) c.in-Long.is given in
    let old : Talking = c.args.self.now.responder in (
      text_of old.state.scene (Limit word.Line),
      false,
      record c.args.self.now { responder = record { state = old.state; begun = true } },
      long_talks old line long,
      subst (λ (s : State). HasFront (g.K.Sink.held c.args.sink.now) (g.K.Sink.held c.refuse_long.new.sink) (text_of s.scene (Limit word.Line))) c.session.ensures front,
    )

pub returns-in_ok-refuse_long-in-Long-clause-told : goal.returns-in_ok-refuse_long-in-Long-clause-told
returns-in_ok-refuse_long-in-Long-clause-told g c =
    λ line given.
    let long : 4096 < length line = subst (λ (p : Piece). IsGivenAs (shown p) line) c.in-Long.is given in
    let old : Talking = c.args.self.now.responder in (
      text_of old.state.scene (Limit word.Line),
      subst (λ (t : Talking). Talks old line (text_of old.state.scene (Limit word.Line)) false t) (sym c.long.ensures) (long_talks old line long),
      subst (λ (s : State). Appends (g.K.Sink.held c.args.sink.now) (g.K.Sink.held c.refuse_long.new.sink) (text_of s.scene (Limit word.Line))) c.session.ensures c.in_ok-refuse_long-in-Long.ensures.put,
    )
