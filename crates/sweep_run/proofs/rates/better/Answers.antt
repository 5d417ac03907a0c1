use Rattle.std.proofs.Common.{sym, subst, Some}
use Rattle.std.specs.declared.option.Option.{Option}
use Rattle.sweep_run.specs.declared.rates.Crossing.{Crossing}
use Rattle.sweep_run.specs.Ways.{IsBetterOf}
use Rattle.sweep_run.proofs.Better.{better_alone, better_both, better_none}
use Rattle.sweep_run.proofs.EndFacts.{there_is_here}
use Rattle.sweep_run.proofs.rates.better.Goals as goal

pub returns-in-None : goal.returns-in-None
returns-in-None g c = better_none c.args.c.now c.args.way.now c.args.line (there_is_here c.args.way.now c.args.c.now c.requires.held) c.args.found c.in-None.ensures.none

pub returns-in-Some-found : goal.returns-in-Some-found
returns-in-Some-found g c =
    subst (λ (o : Option Crossing). IsBetterOf c.args.c.now c.args.way.now o c.args.line (Some c.farther.result)) (sym c.in-Some-found.is)
    (better_both c.args.c.now c.args.way.now c.args.line (there_is_here c.args.way.now c.args.c.now c.requires.held) c.show_corner.ensures.kept c.in-Some.mark c.in-Some.ensures.some c.in-Some.ensures.row
    c.crossing_of-next.result c.crossing_of-next.ensures.mark c.crossing_of-next.ensures.crossing c.in-Some-found.best c.farther.result c.farther.ensures)

pub returns-in-None-found : goal.returns-in-None-found
returns-in-None-found g c =
    subst (λ (o : Option Crossing). IsBetterOf c.args.c.now c.args.way.now o c.args.line (Some c.crossing_of-next.result)) (sym c.in-None-found.is)
    (better_alone c.args.c.now c.args.way.now c.args.line (there_is_here c.args.way.now c.args.c.now c.requires.held) c.show_corner.ensures.kept c.in-Some.mark c.in-Some.ensures.some c.in-Some.ensures.row
    c.crossing_of-next.result c.crossing_of-next.ensures.mark c.crossing_of-next.ensures.crossing)
