use Rattle.std.proofs.Common.{◌∙◌, Err, subst, ap, arith}
use Rattle.std.specs.Prelude.{IfSome, IfNone, Option}
use Rattle.std.proofs.lemmas.Result.{err_from_is_err_and}
use Rattle.edge_io.specs.Feeding.{Gives, Waits, shown}
use Rattle.edge_io.specs.declared.feed.Piece.{Piece}
use Rattle.edge_io.specs.declared.traits.Failed.{Failed}
use Rattle.frac_core.specs.declared.memory.Stop.{Stop}
use Rattle.line_by_line.proofs.Stops.{passed_on}
use Rattle.line_by_line.proofs.Talks.{talk_answers, talk_breaks, talk_first, talk_takes, talk_waits, talk_whole}
use Rattle.line_by_line.proofs.talk.answer_pending.Goals as goal

pub loop-piece-preserved : goal.loop-piece-preserved
loop-piece-preserved g c =
    let gives : Gives c.loop-piece.feed (shown c.in-Some.piece) c.next.follows.lender-at-none =
    subst (λ (r : Option Piece). IfSome r (λ piece. Gives c.loop-piece.feed (shown piece) c.next.follows.lender-at-none)) c.in-Some.is c.next.follows.holds-at-none.some in
    record {
      later = omega (arith, c.loop-piece.invariant.later, c.in_ok-good.ensures.cause.later);
      unfailed = c.in_ok-good.ensures.cause.unfailed ∙ c.loop-piece.invariant.unfailed;
      talk = λ first before taken talk. talk_answers _ first before _ _ taken _ _ _ _ _ _ _ (c.loop-piece.invariant.talk first before taken talk) gives c.in_ok-good.ensures.told;
    }

pub returns-in_err-good-clause-front : goal.returns-in_err-good-clause-front
returns-in_err-good-clause-front g c =
    let gives : Gives c.loop-piece.feed (shown c.in-Some.piece) c.next.follows.lender-at-none =
    subst (λ (r : Option Piece). IfSome r (λ piece. Gives c.loop-piece.feed (shown piece) c.next.follows.lender-at-none)) c.in-Some.is c.next.follows.holds-at-none.some in
    let exit = err_from_is_err_and c.from_residual.result c.from_residual.ensures.1 in
    λ is first left p before taken more talk joins. talk_breaks _ first before _ _ left _ _ _ _ _ _ (c.loop-piece.invariant.talk first before _ (talk_takes _ first before _ taken more p _ _ _ talk joins)) gives
    (c.in_err-good.ensures.front (ap (λ (e : Stop Failed). Err e) (passed_on _ _ exit.0 _ exit.1 exit.2 is)))

pub returns-in_err-good-clause-first : goal.returns-in_err-good-clause-first
returns-in_err-good-clause-first g c =
    let exit = err_from_is_err_and c.from_residual.result c.from_residual.ensures.1 in
    λ is first p before taken more talk joins.
    rw (c.in_err-good.ensures.cause.unwritten (ap (λ (e : Stop Failed). Err e) (passed_on _ _ exit.0 _ exit.1 exit.2 is)))
    (talk_first _ first before _ _ _ _ _ (c.loop-piece.invariant.talk first before _ (talk_takes _ first before _ taken more p _ _ _ talk joins)))

pub returns-clause-answered : goal.returns-clause-answered
returns-clause-answered g c =
    let waits : Waits c.loop-piece.feed c.next.follows.lender-at-none =
    subst (λ (r : Option Piece). IfNone r (Waits c.loop-piece.feed c.next.follows.lender-at-none)) c.in_default.is c.next.follows.holds-at-none.none in
    λ first p before taken more talk joins.
    let was = c.loop-piece.invariant.talk first before _ (talk_takes _ first before _ taken more p _ _ _ talk joins) in
    let is = talk_waits _ first before _ _ _ _ _ _ was waits in
    (is, talk_whole _ first before _ _ _ _ _ is waits.ready.unended)

pub returns-in_err-good-clause-unfailed_first : goal.returns-in_err-good-clause-unfailed_first
returns-in_err-good-clause-unfailed_first g c =
    let exit = err_from_is_err_and c.from_residual.result c.from_residual.ensures.1 in
    λ is. ap g.K.Sink.faults (c.in_err-good.ensures.cause.unwritten (ap (λ (e : Stop Failed). Err e) (passed_on _ _ exit.0 _ exit.1 exit.2 is))) ∙ c.loop-piece.invariant.unfailed
