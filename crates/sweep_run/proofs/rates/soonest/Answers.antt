use Rattle.std.proofs.lemmas.List.{get_or_default}
use Rattle.std.proofs.Common.{slice_index_or}
use Rattle.problem_core.specs.declared.parts.RowName.TheVariants.{Held}
use Rattle.sweep_run.proofs.EndFacts.{there_is_here}
use Rattle.sweep_run.proofs.Found.{farthest_more, none_soonest, some_soonest}
use Rattle.sweep_run.proofs.rates.soonest.Goals as goal

pub loop-line-preserved : goal.loop-line-preserved
loop-line-preserved g c =
    farthest_more c.args.c.now c.args.way.now c.args.low.now c.loop-line.line-index c.loop-line.found c.better-found.result (slice_index_or c.args.low.now c.loop-line.line-index (Held 0)) c.loop-line.invariant
    (λ d within. get_or_default c.args.low.now c.loop-line.line-index d (Held 0) within) c.better-found.ensures

pub returns-clause-some : goal.returns-clause-some
returns-clause-some g c =
    some_soonest c.args.c.now c.args.way.now c.show_corner.ensures.kept (there_is_here c.args.way.now c.args.c.now c.requires.held) c.args.low.now c.requires.low c.loop-line.line-index c.loop-line-test.false c.loop-line.found c.loop-line.invariant

pub returns-clause-none : goal.returns-clause-none
returns-clause-none g c =
    none_soonest c.args.c.now c.args.way.now c.show_corner.ensures.kept (there_is_here c.args.way.now c.args.c.now c.requires.held) c.args.low.now c.requires.low c.loop-line.line-index c.loop-line-test.false c.loop-line.found c.loop-line.invariant
