use Rattle.std.proofs.lemmas.Result.{err_from_is_err_and}
use Rattle.path_levels.proofs.Joining.Fitting.{not_true}
use Rattle.path_levels.proofs.Parts.WithLine.{read_no_draft, read_row, read_unfit, unit_small}
use Rattle.path_levels.proofs.rows.with_line.Goals as goal

pub does_fit-requires-clause-small : goal.does_fit-requires-clause-small
does_fit-requires-clause-small c =
    unit_small c.args.old.now c.index-line.result.now c.index-lines-at.result c.in_ok-draft.draft c.requires.old.own_above c.requires.old.scale c.in_ok-draft.ensures.ok

pub returns-then-does_fit-clause-row : goal.returns-then-does_fit-clause-row
returns-then-does_fit-clause-row c p marks place e is before =
    read_row p marks c.args.corner.outline.now place c.args.at c.args.corner.lines.now c.args.old.now c.in_ok-draft.draft c.fitting_sum.result c.index-line.result.now c.index-lines-at.result
    (record { within = c.requires.at; count = c.requires.corner.outline.count; line_is = c.index-line.ensures; inside_is = c.index-lines-at.is }) c.in_ok-draft.ensures.ok
    (c.does_fit.ensures.0 c.if-does_fit.true) (record { unit = c.fitting_sum.ensures.unit; own = c.fitting_sum.ensures.own; by = c.fitting_sum.ensures.by; cost = c.fitting_sum.ensures.cost }) e is before

pub returns-else-does_fit-clause-unfit : goal.returns-else-does_fit-clause-unfit
returns-else-does_fit-clause-unfit c same p marks place e is before =
    read_unfit p marks c.args.corner.outline.now place c.args.at c.args.corner.lines.now c.args.old.now c.in_ok-draft.draft c.index-line.result.now c.index-lines-at.result
    (record { within = c.requires.at; count = c.requires.corner.outline.count; line_is = c.index-line.ensures; inside_is = c.index-lines-at.is }) c.in_ok-draft.ensures.ok
    (λ fit. not_true ⊥ c.does_fit.result c.if-does_fit.false (c.does_fit.ensures.1 fit)) e is before

pub returns-in_err-draft-clause-unfit : goal.returns-in_err-draft-clause-unfit
returns-in_err-draft-clause-unfit c =
    let exit = err_from_is_err_and c.from_residual.result c.from_residual.ensures.1 in
    rw (exit.1, exit.2) (λ same p marks place e is before.
    read_no_draft p marks c.args.corner.outline.now place c.args.at c.args.corner.lines.now c.args.old.now c.index-line.result.now c.index-lines-at.result
    (record { within = c.requires.at; count = c.requires.corner.outline.count; line_is = c.index-line.ensures; inside_is = c.index-lines-at.is }) (c.in_err-draft.ensures.unfit same) e is before)
