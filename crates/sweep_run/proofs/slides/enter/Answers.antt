use Rattle.std.proofs.Common.{refl}
use Rattle.sweep_run.proofs.Standing.{entered_at, entered_before}
use Rattle.sweep_run.proofs.slides.enter.Goals as goal

pub returns-then-is_shown-clause-entered : goal.returns-then-is_shown-clause-entered
returns-then-is_shown-clause-entered g c = entered_before c.args.c.now c.args.way.now c.args.slid.now c.requires.sliding.1.on_way.behind (c.is_shown.ensures.yes c.if-is_shown.true)

pub returns-clause-entered : goal.returns-clause-entered
returns-clause-entered g c =
    let none = c.is_shown.ensures.no c.if-is_shown.false in
    entered_at c.args.c.now c.args.way.now c.args.slid.now _ c.in_ok-values.values c.requires.sliding.1.at_end.parts.first.width.lowest.above c.requires.sliding.1.on_way.behind none (c.requires.near none) c.in_ok-values.ensures.values refl refl refl
