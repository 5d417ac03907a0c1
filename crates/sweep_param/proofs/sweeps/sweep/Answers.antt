use Rattle.std.proofs.Common.{sym, subst}
use Rattle.std.proofs.lemmas.Result.{err_from_is_err_and}
use Rattle.problem_core.specs.Layout.{Problem}
use Rattle.sweep_param.specs.declared.sweeps.Range.{Range}
use Rattle.sweep_param.specs.Joining.{IsRangeOf, IsSlidesStop}
use Rattle.sweep_param.proofs.Stopping.{slides_stop, starts_stop}
use Rattle.sweep_param.proofs.sweeps.sweep.Goals as goal

pub returns-in_err-corner-clause-stop : goal.returns-in_err-corner-clause-stop
returns-in_err-corner-clause-stop g c =
    let e = err_from_is_err_and c.from_residual.result c.from_residual.ensures.1 in
    rw (e.1, e.2)
    (starts_stop c.args.p.now c.args.row c.constant_of.result c.args.from c.args.to c.args.budget c.in_err-corner.field-0.0 c.constant_of.ensures.constant c.in_err-corner.ensures.stop)

pub swept-all-requires-clause-range : goal.swept-all-requires-clause-range
swept-all-requires-clause-range g c =
    let r : Range = record { row = c.args.row; present = c.constant_of.result; from = c.args.from; to = c.args.to; budget = c.args.budget } in
    let range : IsRangeOf c.args.p.now r = record { held = c.constant_of.ensures.constant; order = c.requires.order; near = c.requires.near; wide = c.requires.wide } in
    subst (λ (q : Problem). IsRangeOf q r) (sym c.in_ok-corner.ensures.problem) range

pub returns-in-Err-clause-stop : goal.returns-in-Err-clause-stop
returns-in-Err-clause-stop g c =
    let r : Range = record { row = c.args.row; present = c.constant_of.result; from = c.args.from; to = c.args.to; budget = c.args.budget } in
    let range : IsRangeOf c.args.p.now r = record { held = c.constant_of.ensures.constant; order = c.requires.order; near = c.requires.near; wide = c.requires.wide } in
    slides_stop c.args.p.now r c.in_ok-corner.corner.marks c.in-Err.stop c.show_stop.ensures range c.in_ok-corner.ensures.started
    (subst (λ (q : Problem). IsSlidesStop q c.in_ok-corner.corner.marks r c.in-Err.stop) c.in_ok-corner.ensures.problem c.in-Err.ensures.stop)
