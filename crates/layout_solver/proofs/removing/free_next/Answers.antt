use Rattle.std.proofs.Common.{rules, ◌≡◌, ℕ, List, get_or, subst}
use Rattle.cert_core.specs.declared.stops.RunStop.TheVariants.{Unfit as UnfitRun}
use Rattle.marker_remove.specs.Freed.{IsFreeStop}
use Rattle.std.proofs.lemmas.List.{take_rest}
use Rattle.layout_solver.specs.Removals.{IsUnfitOf}
use Rattle.layout_solver.proofs.Removals.LeftEnds.{row_freed, unfit_freed}
use Rattle.layout_solver.proofs.removing.free_next.Goals as goal

pub returns-in-Ok-clause-freed : goal.returns-in-Ok-clause-freed
returns-in-Ok-clause-freed g c = λ p kept k apart h.
    row_freed p kept c.args.rows.now c.args.gone c.requires.within c.args.c.now c.free_row.new.c _ c.show_corner.ensures.kept.corner k apart c.in-Ok.ensures.some c.in-Ok.ensures.fresh c.in-Ok.ensures.none c.in-Ok.ensures.problem c.in-Ok.ensures.same c.in-Ok.ensures.values h

pub returns-in-Err-Unfit-clause-stop : goal.returns-in-Err-Unfit-clause-stop
returns-in-Err-Unfit-clause-stop g c = λ p kept k apart h.
    let same : c.in-Err-Unfit.field-0 ≡ UnfitRun c.in-Err-Unfit.at = search rules in
    unfit_freed p kept c.args.rows.now c.args.gone c.requires.within c.args.c.now c.in-Err-Unfit.at c.held_stop.result c.show_corner.ensures.kept.corner k apart (subst (IsFreeStop c.args.c.now.problem c.args.c.now.marks (get_or c.args.rows.now c.args.gone 0)) same c.in-Err-Unfit.ensures.stop) h
    (subst (λ (ids : List ℕ). IsUnfitOf ids c.in-Err-Unfit.at c.held_stop.result) (take_rest c.args.rows.now c.args.gone) c.held_stop.ensures)
