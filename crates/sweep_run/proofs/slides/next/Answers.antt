use Rattle.std.proofs.Common.{List, refl, subst, sym}
use Rattle.problem_core.specs.declared.parts.RowName.{RowName}
use Rattle.problem_core.specs.declared.parts.RowName.TheVariants.{Held}
use Rattle.corner_view.specs.Lows.{ListsLow}
use Rattle.corner_ends.proofs.RequiredTimes.{row_named}
use Rattle.dual_run.specs.Leaving.{AreLowLines}
use Rattle.sweep_run.proofs.EndFacts.{end_is_kept}
use Rattle.sweep_run.proofs.FarStops.{far_stop}
use Rattle.sweep_run.proofs.Listing.{lows_listed}
use Rattle.sweep_run.proofs.NextTurns.{is_turn}
use Rattle.sweep_run.proofs.slides.next.Goals as goal

pub list_low-requires : goal.list_low-requires
list_low-requires g c = row_named c.args.c.now.problem c.args.way.now.row c.args.way.now.row c.requires.held.held refl

pub soonest-requires-clause-low : goal.soonest-requires-clause-low
soonest-requires-clause-low g c =
    subst (AreLowLines c.args.c.now.problem c.args.c.now.marks) (sym c.deref.ensures.value)
    (lows_listed c.args.c.now.problem c.args.c.now.marks c.args.way.now c.show_corner.ensures.kept c.requires.held.held c.requires.held.constant (end_is_kept c.args.way.now c.args.c.now c.requires.held).lowest.above c.requires.before c.list_low.new.low.items
    (subst (λ (old : List RowName). ListsLow c.args.c.now.problem c.args.c.now.marks (Held c.args.way.now.row) old c.list_low.new.low.items) c.clear.ensures.items c.in_ok-list_low.ensures))

pub returns-in_default-clause-low : goal.returns-in_default-clause-low
returns-in_default-clause-low g c =
    lows_listed c.args.c.now.problem c.args.c.now.marks c.args.way.now c.show_corner.ensures.kept c.requires.held.held c.requires.held.constant (end_is_kept c.args.way.now c.args.c.now c.requires.held).lowest.above c.requires.before c.list_low.new.low.items
    (subst (λ (old : List RowName). ListsLow c.args.c.now.problem c.args.c.now.marks (Held c.args.way.now.row) old c.list_low.new.low.items) c.clear.ensures.items c.in_ok-list_low.ensures)

pub returns-in-Ok-clause-low : goal.returns-in-Ok-clause-low
returns-in-Ok-clause-low g c =
    lows_listed c.args.c.now.problem c.args.c.now.marks c.args.way.now c.show_corner.ensures.kept c.requires.held.held c.requires.held.constant (end_is_kept c.args.way.now c.args.c.now c.requires.held).lowest.above c.requires.before c.list_low.new.low.items
    (subst (λ (old : List RowName). ListsLow c.args.c.now.problem c.args.c.now.marks (Held c.args.way.now.row) old c.list_low.new.low.items) c.clear.ensures.items c.in_ok-list_low.ensures)

pub returns-in-Ok-clause-turn : goal.returns-in-Ok-clause-turn
returns-in-Ok-clause-turn g c =
    is_turn c.args.c.now c.args.way.now c.show_corner.ensures.kept c.requires.held.held c.requires.held.constant (end_is_kept c.args.way.now c.args.c.now c.requires.held).lowest.above c.requires.free c.requires.before c.in-Some.crossing c.in-Some.ensures.some
    (record { mark = c.in-Some.crossing.mark; place = c.in-Ok.place }) refl c.in-Ok.ensures.place

pub returns-in-Err-clause-stop : goal.returns-in-Err-clause-stop
returns-in-Err-clause-stop g c =
    far_stop c.args.c.now c.args.way.now c.show_corner.ensures.kept c.requires.held.held c.requires.held.constant (end_is_kept c.args.way.now c.args.c.now c.requires.held).lowest.above c.requires.before c.in-Some.crossing c.in-Some.ensures.some c.in-Err.ensures.unfit
    c.args.trail.now c.unfit_at.result c.unfit_at.ensures
