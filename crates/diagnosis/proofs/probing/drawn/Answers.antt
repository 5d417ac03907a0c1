use Rattle.std.proofs.Common.{◌∙◌, ◌∷◌, [], false, sym, subst, ap}
use Rattle.problem_core.specs.Layout.{Row}
use Rattle.problem_core.specs.Kept.{IsRow, IsWhole}
use Rattle.layout_solver.specs.Layouts.{IsBestValue, with_added}
use Rattle.cert_core.specs.Stops.{IsStopOf}
use Rattle.corner_view.specs.AddStops.{FromAdded}
use Rattle.diagnosis.specs.Probes.{IsStopped, next_number}
use Rattle.diagnosis.proofs.Probes.ProbeStops.{stop_not_conflict, stopped}
use Rattle.diagnosis.proofs.Probes.ProbeWhole.{made_row, probe_whole}
use Rattle.diagnosis.proofs.Probes.Probed.{probed_value}
use Rattle.diagnosis.proofs.probing.drawn.Goals as goal

pub wish-requires : goal.wish-requires
wish-requires g c =
    subst IsRow (sym (made_row c.args.e.now c.args.attr c.next_number.result c.args.target (c.next_number.ensures ∙ ap next_number c.rows.ensures)))
    (probe_whole c.args.e.now c.args.attr c.args.target c.show_layout.ensures.whole c.show_layout.ensures.best.attributes c.show_layout.ensures.kept c.requires.target c.requires.can).0

pub value_with-requires-clause-whole : goal.value_with-requires-clause-whole
value_with-requires-clause-whole g c =
    subst (λ (r : Row). IsWhole (with_added c.args.e.now [] (r ∷ []))) (sym (c.in_ok-row.ensures ∙ made_row c.args.e.now c.args.attr c.next_number.result c.args.target (c.next_number.ensures ∙ ap next_number c.rows.ensures)))
    (probe_whole c.args.e.now c.args.attr c.args.target c.show_layout.ensures.whole c.show_layout.ensures.best.attributes c.show_layout.ensures.kept c.requires.target c.requires.can).1

pub returns-in-Ok-clause-value : goal.returns-in-Ok-clause-value
returns-in-Ok-clause-value g c =
    probed_value c.args.e.now c.args.attr c.args.target c.in-Ok.value c.show_layout.ensures.whole (probe_whole c.args.e.now c.args.attr c.args.target c.show_layout.ensures.whole c.show_layout.ensures.best.attributes c.show_layout.ensures.kept c.requires.target c.requires.can).1 c.requires.can
    (subst (λ (r : Row). IsBestValue (with_added c.args.e.now [] (r ∷ [])) c.args.attr c.in-Ok.value) (c.in_ok-row.ensures ∙ made_row c.args.e.now c.args.attr c.next_number.result c.args.target (c.next_number.ensures ∙ ap next_number c.rows.ensures)) c.in-Ok.ensures.value)

pub stop_of-requires : goal.stop_of-requires
stop_of-requires g c =
    stop_not_conflict c.args.e.now c.args.attr c.args.target c.args.budget c.in-Err.stop c.show_layout.ensures.best (probe_whole c.args.e.now c.args.attr c.args.target c.show_layout.ensures.whole c.show_layout.ensures.best.attributes c.show_layout.ensures.kept c.requires.target c.requires.can).1
    (subst (λ (r : Row). IsStopOf false (with_added c.args.e.now [] (r ∷ [])) c.args.e.now.problem.rows (FromAdded (with_added c.args.e.now [] (r ∷ [])) c.args.e.now.corner (r ∷ [])) c.args.budget c.in-Err.stop)
    (c.in_ok-row.ensures ∙ made_row c.args.e.now c.args.attr c.next_number.result c.args.target (c.next_number.ensures ∙ ap next_number c.rows.ensures)) c.in-Err.ensures.stop)

pub returns-clause-stop : goal.returns-clause-stop
returns-clause-stop g c =
    subst (IsStopped c.args.e.now c.args.attr c.args.up c.args.budget) (sym c.stop_of.ensures)
    (stopped c.args.e.now c.args.attr c.args.up c.args.target c.args.budget c.in-Err.stop c.requires.beside c.requires.target
    (subst (λ (r : Row). IsStopOf false (with_added c.args.e.now [] (r ∷ [])) c.args.e.now.problem.rows (FromAdded (with_added c.args.e.now [] (r ∷ [])) c.args.e.now.corner (r ∷ [])) c.args.budget c.in-Err.stop)
    (c.in_ok-row.ensures ∙ made_row c.args.e.now c.args.attr c.next_number.result c.args.target (c.next_number.ensures ∙ ap next_number c.rows.ensures)) c.in-Err.ensures.stop))
