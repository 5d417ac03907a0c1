use Rattle.std.proofs.Common.{true, false, subst}
use Rattle.std.proofs.lemmas.Result.{err_from_is_err_and}
use Rattle.layout_solver.specs.Layouts.{Layout}
use Rattle.diagnosis.specs.Probes.{IsStopped, IsTried}
use Rattle.diagnosis.proofs.Probes.Probed.{Read, tried_down_moves, tried_fixed, tried_up_moves, tried_up_stays}
use Rattle.diagnosis.proofs.Probes.ProbeStops.{called_for, up_called_for}
use Rattle.diagnosis.proofs.probing.ambiguous.Goals as goal

pub returns-in_err-above-clause-stop : goal.returns-in_err-above-clause-stop
returns-in_err-above-clause-stop g c =
    let p = err_from_is_err_and c.from_residual.result c.from_residual.ensures.1 in
    rw (p.1, p.2) (called_for c.args.e.now c.args.attr true c.args.budget c.in_err-above.field-0.0 (up_called_for c.args.e.now c.args.attr) c.in_err-above.ensures.stop)

pub returns-then-not-is_same-clause-answer : goal.returns-then-not-is_same-clause-answer
returns-then-not-is_same-clause-answer g c =
    let other = c.is_same.ensures.no c.if-not-is_same.true in
    let read : Read c.args.e.now c.args.attr c.value_at-value.result = record { whole = c.show_layout.ensures.whole; best = c.show_layout.ensures.best; kept = c.show_layout.ensures.kept; apart = c.show_layout.ensures.apart; can = c.requires.can; value = c.value_at-value.ensures } in
    tried_up_moves c.args.e.now c.args.attr c.value_at-value.result c.in_ok-above.above read c.in_ok-above.ensures.kept c.in_ok-above.ensures.value other

pub returns-in_err-below-clause-stop : goal.returns-in_err-below-clause-stop
returns-in_err-below-clause-stop g c =
    let same = c.is_same.ensures.yes c.if-not-is_same.false in
    let read : Read c.args.e.now c.args.attr c.value_at-value.result = record { whole = c.show_layout.ensures.whole; best = c.show_layout.ensures.best; kept = c.show_layout.ensures.kept; apart = c.show_layout.ensures.apart; can = c.requires.can; value = c.value_at-value.ensures } in
    let p = err_from_is_err_and c.from_residual-in_err-below.result c.from_residual-in_err-below.ensures.1 in
    rw (p.1, p.2)
    (called_for c.args.e.now c.args.attr false c.args.budget c.in_err-below.field-0.0
    (λ e. tried_up_stays c.args.e.now c.args.attr c.value_at-value.result c.in_ok-above.above read c.in_ok-above.ensures.kept c.in_ok-above.ensures.value same)
    (subst (λ (l : Layout). IsStopped l c.args.attr false c.args.budget c.in_err-below.field-0.0) c.in_ok-above.ensures.same c.in_err-below.ensures.stop))

pub returns-then-not-is_same-2-clause-answer : goal.returns-then-not-is_same-2-clause-answer
returns-then-not-is_same-2-clause-answer g c =
    let same = c.is_same.ensures.yes c.if-not-is_same.false in
    let other = c.is_same-2.ensures.no c.if-not-is_same-2.true in
    let read : Read c.args.e.now c.args.attr c.value_at-value.result = record { whole = c.show_layout.ensures.whole; best = c.show_layout.ensures.best; kept = c.show_layout.ensures.kept; apart = c.show_layout.ensures.apart; can = c.requires.can; value = c.value_at-value.ensures } in
    tried_down_moves c.args.e.now c.args.attr c.value_at-value.result c.in_ok-below.below read c.in_ok-below.ensures.kept
    (subst (λ (l : Layout). IsTried l c.args.attr false c.in_ok-below.below) c.in_ok-above.ensures.same c.in_ok-below.ensures.value) other
    (tried_up_stays c.args.e.now c.args.attr c.value_at-value.result c.in_ok-above.above read c.in_ok-above.ensures.kept c.in_ok-above.ensures.value same)

pub returns-clause-answer : goal.returns-clause-answer
returns-clause-answer g c =
    let same = c.is_same.ensures.yes c.if-not-is_same.false in
    let also = c.is_same-2.ensures.yes c.if-not-is_same-2.false in
    let read : Read c.args.e.now c.args.attr c.value_at-value.result = record { whole = c.show_layout.ensures.whole; best = c.show_layout.ensures.best; kept = c.show_layout.ensures.kept; apart = c.show_layout.ensures.apart; can = c.requires.can; value = c.value_at-value.ensures } in
    tried_fixed c.args.e.now c.args.attr c.value_at-value.result c.in_ok-above.above c.in_ok-below.below read c.in_ok-above.ensures.kept c.in_ok-above.ensures.value same c.in_ok-below.ensures.kept
    (subst (λ (l : Layout). IsTried l c.args.attr false c.in_ok-below.below) c.in_ok-above.ensures.same c.in_ok-below.ensures.value) also
