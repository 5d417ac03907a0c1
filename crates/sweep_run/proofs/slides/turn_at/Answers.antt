use Rattle.std.proofs.lemmas.Result.{err_from_is_err_and}
use Rattle.sweep_run.proofs.Leaving.{slides_on}
use Rattle.sweep_run.proofs.Stepping.{trail_of, turn_advances, turn_later, turn_leaves}
use Rattle.sweep_run.proofs.slides.turn_at.Goals as goal

pub advance-requires-clause-to : goal.advance-requires-clause-to
advance-requires-clause-to g c = turn_advances c.args.c.now c.args.way.now c.requires.sliding.1.at_end c.args.slid.now c.requires.sliding.1.on_way.behind c.args.turn c.requires.turn

pub returns-in_err-advance-clause-stop : goal.returns-in_err-advance-clause-stop
returns-in_err-advance-clause-stop g c =
    let p = err_from_is_err_and c.from_residual.result c.from_residual.ensures.1 in
    rw (p.1, p.2) (c.in_err-advance.ensures.stop c.args.budget)

pub leave-requires-clause-trail : goal.leave-requires-clause-trail
leave-requires-clause-trail g c = (c.requires.sliding.0, trail_of c.args.c.now c.args.way.now c.requires.sliding.0 c.args.trail.now c.args.slid.now c.requires.sliding.1)

pub leave-requires-clause-leave : goal.leave-requires-clause-leave
leave-requires-clause-leave g c = turn_leaves c.args.c.now c.args.way.now c.requires.sliding.1.at_end c.show_corner.ensures.kept c.requires.free c.args.turn c.requires.turn

pub returns-in_err-leave-clause-stop : goal.returns-in_err-leave-clause-stop
returns-in_err-leave-clause-stop g c =
    let p = err_from_is_err_and c.from_residual-in_err-leave.result c.from_residual-in_err-leave.ensures.1 in
    rw (p.1, p.2)
    (λ first sliding few. c.in_err-leave.ensures.stop first (trail_of c.args.c.now c.args.way.now first c.args.trail.now c.args.slid.now sliding) few)

pub returns-clause-goes : goal.returns-clause-goes
returns-clause-goes g c = λ first sliding.
    slides_on c.args.c.now c.leave.new.c c.args.way.now sliding.at_end c.show_corner.ensures.kept c.show_corner-2.ensures.kept c.in_ok-leave.ensures.problem first c.args.trail.now c.leave.new.trail c.args.slid.now c.advance.new.slid sliding c.in_ok-advance.ensures.behind c.args.turn c.requires.turn c.in_ok-advance.ensures.at
    (turn_later c.args.c.now c.args.way.now sliding.at_end c.args.slid.now c.advance.new.slid c.args.turn sliding.on_way.behind c.requires.turn c.in_ok-advance.ensures.at) c.in_ok-leave.ensures.swap c.in_ok-leave.ensures.trail
