use Rattle.std.proofs.Common.{◌≡◌, ◌∙◌, length, true, false, rules, SFits, sym, subst, refl, arith}
use Rattle.std.specs.Int.{w64}
use Rattle.std.proofs.lemmas.Int.{to_z-of_z}
use Rattle.std.proofs.lemmas.Result.{err_from_is_err_and}
use Rattle.path_lines.proofs.Iffs.{right_then, wrong_then}
use Rattle.path_levels.specs.Exchanges.FitsAfter.{IsFitLevel, IsMadeLevel}
use Rattle.path_levels.specs.Outlines.{IsPriced}
use Rattle.path_levels.specs.Shares.{entering_of}
use Rattle.path_levels.proofs.Exchanges.NextLevels.{IsMadeFrom, made_from, made_level, next_cost_unfit, next_is, next_row_unfit, next_unfit}
use Rattle.path_levels.proofs.levels_after.level_by.Goals as goal

pub returns-in_err-numbers-clause-unfit : goal.returns-in_err-numbers-clause-unfit
returns-in_err-numbers-clause-unfit c =
    let exit = err_from_is_err_and c.from_residual-in_err-numbers.result c.from_residual-in_err-numbers.ensures.1 in
    rw (exit.1, exit.2) (λ same.
    next_row_unfit c.args.exchange.corner.outline.now c.args.exchange.corner.lines.now c.args.exchange.step c.args.row.place c.args.row.sum.now c.args.pivot.now c.in_ok-wide.wide c.requires.pivot.step_is c.in_ok-wide.ensures.sized c.requires.pivot.gives c.in_ok-wide.ensures.next (c.in_err-numbers.ensures.unfit same))

pub cost_after-requires-clause-line : goal.cost_after-requires-clause-line
cost_after-requires-clause-line c =
    subst IsPriced (sym c.index.ensures)
    (c.requires.exchange.corner.outline.outline_is c.args.exchange.step.enter.at c.index.result.now (omega (arith, c.requires.exchange.step.0, c.requires.exchange.corner.outline.count))).priced

pub returns-in_err-cost-clause-unfit : goal.returns-in_err-cost-clause-unfit
returns-in_err-cost-clause-unfit c =
    let exit = err_from_is_err_and c.from_residual-in_err-cost.result c.from_residual-in_err-cost.ensures.1 in
    rw (exit.1, exit.2) (λ same.
    next_cost_unfit c.args.exchange.corner.outline.now c.args.exchange.corner.lines.now c.args.exchange.step c.args.row.place c.args.row.sum.now c.args.pivot.now c.index.result.now c.requires.place c.requires.pivot.step_is c.index.ensures c.requires.pivot.gives c.in_err-cost.ensures.stop.1)

pub level_fits-requires-clause-sum : goal.level_fits-requires-clause-sum
level_fits-requires-clause-sum c =
    let unit : SFits w64 c.args.row.sum.now.unit = search rules in
    made_level (length c.args.exchange.corner.lines.now) c.args.row.sum.now c.in_ok-wide.wide c.in_ok-numbers.numbers.own c.in_ok-numbers.numbers.by.items c.level_with-next.result c.requires.sum (c.in_ok-wide.ensures.sized.count_is ∙ sym c.requires.exchange.corner.outline.count) c.in_ok-numbers.ensures.lowest
    c.in_ok-numbers.ensures.above c.in_ok-numbers.ensures.fits (simp to_z-of_z at c.level_with-next.ensures.unit) c.level_with-next.ensures.own c.level_with-next.ensures.by

pub returns-then-not-level_fits-clause-unfit : goal.returns-then-not-level_fits-clause-unfit
returns-then-not-level_fits-clause-unfit c =
    let unit : SFits w64 c.args.row.sum.now.unit = search rules in
    let down : c.level_fits.result ≡ false = search rules in
    let good : IsMadeLevel (length c.in_ok-wide.wide.by.items) c.level_with-next.result =
    made_level (length c.in_ok-wide.wide.by.items) c.args.row.sum.now c.in_ok-wide.wide c.in_ok-numbers.numbers.own c.in_ok-numbers.numbers.by.items c.level_with-next.result (rw (c.in_ok-wide.ensures.sized.count_is, ← c.requires.exchange.corner.outline.count) c.requires.sum) refl c.in_ok-numbers.ensures.lowest
    c.in_ok-numbers.ensures.above c.in_ok-numbers.ensures.fits (simp to_z-of_z at c.level_with-next.ensures.unit) c.level_with-next.ensures.own c.level_with-next.ensures.by in
    let made : IsMadeFrom c.args.pivot.now c.args.row.place c.args.row.sum.now c.in_ok-wide.wide (entering_of c.index.result.now c.args.pivot.now c.args.row.place c.args.row.sum.now) c.level_with-next.result =
    made_from c.args.row.sum.now c.args.pivot.now c.args.row.place (entering_of c.index.result.now c.args.pivot.now c.args.row.place c.args.row.sum.now) c.in_ok-wide.wide c.in_ok-numbers.numbers.own c.in_ok-numbers.numbers.by.items c.in_ok-cost.cost c.level_with-next.result good
    c.in_ok-numbers.ensures.lowest c.in_ok-cost.ensures.cost (simp to_z-of_z at c.level_with-next.ensures.unit) c.level_with-next.ensures.own c.level_with-next.ensures.by c.level_with-next.ensures.cost in
    λ same. next_unfit c.args.exchange.corner.outline.now c.args.exchange.corner.lines.now c.args.exchange.step c.args.row.place c.args.row.sum.now c.args.pivot.now c.index.result.now c.in_ok-wide.wide c.level_with-next.result c.requires.place c.requires.pivot.step_is c.index.ensures
    c.in_ok-wide.ensures.sized.count_is c.requires.pivot.gives c.in_ok-wide.ensures.next made (wrong_then c.level_fits.result down c.level_fits.ensures)

pub returns-clause-sized : goal.returns-clause-sized
returns-clause-sized c =
    let unit : SFits w64 c.args.row.sum.now.unit = search rules in
    let up : c.level_fits.result ≡ true = search rules in
    let good : IsMadeLevel (length c.args.exchange.corner.lines.now) c.level_with-next.result =
    made_level (length c.args.exchange.corner.lines.now) c.args.row.sum.now c.in_ok-wide.wide c.in_ok-numbers.numbers.own c.in_ok-numbers.numbers.by.items c.level_with-next.result c.requires.sum (c.in_ok-wide.ensures.sized.count_is ∙ sym c.requires.exchange.corner.outline.count) c.in_ok-numbers.ensures.lowest
    c.in_ok-numbers.ensures.above c.in_ok-numbers.ensures.fits (simp to_z-of_z at c.level_with-next.ensures.unit) c.level_with-next.ensures.own c.level_with-next.ensures.by in
    let fits : IsFitLevel c.args.exchange.corner.outline.now c.args.exchange.corner.lines.now c.args.pivot.now c.args.row.place c.level_with-next.result = right_then c.level_fits.result up c.level_fits.ensures in
    record { count_is = good.count_is; unit_above = good.unit_above; own_above = good.own_above; scale = fits.scale; fits = good.fits }

pub returns-clause-next : goal.returns-clause-next
returns-clause-next c =
    let unit : SFits w64 c.args.row.sum.now.unit = search rules in
    let up : c.level_fits.result ≡ true = search rules in
    let good : IsMadeLevel (length c.in_ok-wide.wide.by.items) c.level_with-next.result =
    made_level (length c.in_ok-wide.wide.by.items) c.args.row.sum.now c.in_ok-wide.wide c.in_ok-numbers.numbers.own c.in_ok-numbers.numbers.by.items c.level_with-next.result (rw (c.in_ok-wide.ensures.sized.count_is, ← c.requires.exchange.corner.outline.count) c.requires.sum) refl c.in_ok-numbers.ensures.lowest
    c.in_ok-numbers.ensures.above c.in_ok-numbers.ensures.fits (simp to_z-of_z at c.level_with-next.ensures.unit) c.level_with-next.ensures.own c.level_with-next.ensures.by in
    let made : IsMadeFrom c.args.pivot.now c.args.row.place c.args.row.sum.now c.in_ok-wide.wide (entering_of c.index.result.now c.args.pivot.now c.args.row.place c.args.row.sum.now) c.level_with-next.result =
    made_from c.args.row.sum.now c.args.pivot.now c.args.row.place (entering_of c.index.result.now c.args.pivot.now c.args.row.place c.args.row.sum.now) c.in_ok-wide.wide c.in_ok-numbers.numbers.own c.in_ok-numbers.numbers.by.items c.in_ok-cost.cost c.level_with-next.result good
    c.in_ok-numbers.ensures.lowest c.in_ok-cost.ensures.cost (simp to_z-of_z at c.level_with-next.ensures.unit) c.level_with-next.ensures.own c.level_with-next.ensures.by c.level_with-next.ensures.cost in
    next_is c.args.exchange.corner.outline.now c.args.exchange.corner.lines.now c.args.exchange.step c.args.row.place c.args.row.sum.now c.args.pivot.now c.index.result.now c.in_ok-wide.wide c.level_with-next.result c.requires.place c.requires.pivot.step_is c.index.ensures
    c.in_ok-wide.ensures.sized.count_is c.requires.pivot.gives c.in_ok-wide.ensures.next made (right_then c.level_fits.result up c.level_fits.ensures)
