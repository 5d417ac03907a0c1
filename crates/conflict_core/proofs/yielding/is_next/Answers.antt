use Rattle.std.proofs.Common.{rules, ◌<◌, List, subst}
use Rattle.problem_core.specs.Layout.{Row}
use Rattle.conflict_core.specs.Yielding.{MayGet}
use Rattle.conflict_core.proofs.GivingWay.{both_shift, next_way, trial_rises}
use Rattle.conflict_core.proofs.yielding.is_next.Goals as goal

pub own-requires : goal.own-requires
own-requires g c = record { rising = trial_rises c.args.t.now.problem.now c.args.s.now.rows.items c.args.rows.now c.show_whole.ensures c.requires.rows }

pub shift_both-requires-clause-held : goal.shift_both-requires-clause-held
shift_both-requires-clause-held g c =
    let may : (c.in-Some.back.row < c.args.to.now.row) × MayGet c.rows.result.now c.in-Some.back × MayGet c.rows.result.now c.args.to.now = search rules in
    both_shift c.args.e.now.problem c.in-Some.back c.args.to.now may.0
    (subst (λ (rows : List Row). MayGet rows c.in-Some.back) c.rows.ensures may.1)
    (subst (λ (rows : List Row). MayGet rows c.args.to.now) c.rows.ensures may.2)

pub returns : goal.returns
returns g c = λ yes.
    next_way c.args.t.now.problem.now c.args.s.now.rows.items c.args.last.now c.in-Some.back c.args.to.now c.args.e.now c.shift_both.new.e c.args.rows.now
    c.requires.rows c.requires.last c.in-Some.ensures.0 c.in-Some.ensures.1 c.show_layout.ensures.best c.in-Ok.ensures.done c.in-Ok.ensures.earlier
