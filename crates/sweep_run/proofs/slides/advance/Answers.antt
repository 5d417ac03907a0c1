use Rattle.std.proofs.Common.{refl}
use Rattle.std.proofs.lemmas.Result.{err_from_is_err_and}
use Rattle.sweep_run.proofs.Advancing.{advance_stop, advanced_hidden, advanced_more, enter_stop, near_reached, there_already}
use Rattle.sweep_run.proofs.slides.advance.Goals as goal

pub returns-then-is_before-clause-behind : goal.returns-then-is_before-clause-behind
returns-then-is_before-clause-behind g c =
    advanced_hidden c.args.c.now c.args.way.now c.requires.sliding.1.at_end c.args.slid.now _ c.args.to c.requires.sliding.1.on_way.behind c.requires.to (c.is_before.ensures.yes c.if-is_before.true) refl refl refl

pub enter-requires-clause-near : goal.enter-requires-clause-near
enter-requires-clause-near g c =
    near_reached c.args.c.now c.args.way.now c.requires.sliding.1.at_end c.show_corner.ensures.kept.corner c.args.slid.now c.args.to c.requires.sliding.1.on_way.behind c.requires.to (c.is_before.ensures.no c.if-is_before.false)

pub returns-in_err-enter-clause-stop : goal.returns-in_err-enter-clause-stop
returns-in_err-enter-clause-stop g c =
    let p = err_from_is_err_and c.from_residual.result c.from_residual.ensures.1 in
    rw (p.1, p.2)
    (λ budget first sliding few. enter_stop c.args.c.now c.args.way.now sliding.at_end first c.args.trail.now c.args.slid.now budget sliding few c.in_err-enter.ensures.hidden c.in_err-enter.field-0.0 c.in_err-enter.ensures.stop)

pub returns-in_err-values-clause-stop : goal.returns-in_err-values-clause-stop
returns-in_err-values-clause-stop g c =
    let p = err_from_is_err_and c.from_residual-in_err-values.result c.from_residual-in_err-values.ensures.1 in
    rw (p.1, p.2)
    (λ budget first sliding few. advance_stop c.args.c.now c.args.way.now sliding.at_end first c.args.trail.now c.args.slid.now c.enter.new.slid c.args.to budget sliding few c.in_ok-enter.ensures.entered c.requires.to (c.is_before-2.ensures.yes c.if-not-is_before.false) c.in_err-values.field-0.0 c.in_err-values.ensures.stop)

pub returns-clause-behind : goal.returns-clause-behind
returns-clause-behind g c =
    advanced_more c.args.c.now c.args.way.now c.requires.sliding.1.at_end c.show_corner.ensures.kept.corner c.args.slid.now c.enter.new.slid c.push_piece.new.slid c.args.to c.in_ok-values.values c.in_ok-enter.ensures.entered c.requires.to (c.is_before-2.ensures.yes c.if-not-is_before.false)
    c.in_ok-values.ensures.values c.in_ok-push_piece.ensures

pub returns-then-not-is_before-clause-at : goal.returns-then-not-is_before-clause-at
returns-then-not-is_before-clause-at g c =
    there_already c.args.c.now c.args.way.now c.requires.sliding.1.at_end c.args.slid.now c.enter.new.slid c.args.to c.in_ok-enter.ensures.entered c.requires.to (c.is_before.ensures.no c.if-is_before.false) (c.is_before-2.ensures.no c.if-not-is_before.true)
