use Rattle.std.proofs.Common.{rules, ◌≡◌, ◌∙◌, ◌<◌, ◌<ℤ◌, ◌*ℤ◌, pos, arith, All, unsigned_abs}
use borrow.Author.Differences.{ints}
use Rattle.frac_core.specs.Fraction.{IsFitting}
use Rattle.row_core.specs.Rows.{coefficient}
use Rattle.corner_laws.specs.LevelLaws.{small_number}
use Rattle.corner_table.specs.Tables.{lists_of}
use Rattle.corner_writings.proofs.LevelFacts.FittingRows.{fits_by_lines, fits_if_small, unfit_by_lines}
use Rattle.corner_writings.proofs.levels.fitting.does_level_fit.Goals as goal

pub returns-then-are_small-clause-fits : goal.returns-then-are_small-clause-fits
returns-then-are_small-clause-fits c t =
    let lt : c.scale_of-scale.result <ℤ pos 1073741824 = search rules in
    let small : All (λ e. unsigned_abs e.by < small_number) c.args.row.now = search rules in
    fits_if_small (lists_of c.args.table.now) c.args.draft c.args.row.now c.requires.whole c.scale_of-scale.ensures.kept
    (λ n e. let is : c.scale_of-scale.result ≡ pos n = c.scale_of-scale.ensures.value ∙ e in omega (arith, ints, lt, is)) small

pub returns-clause-fits : goal.returns-clause-fits
returns-clause-fits c e =
    let scale : IsFitting (coefficient c.args.draft.level c.args.row.now *ℤ c.args.draft.unit) = search rules in
    fits_by_lines (lists_of c.args.table.now) c.args.draft c.args.row.now c.requires.slots c.requires.whole c.requires.level c.scale_of-scale.ensures.kept scale (c.do_lines_fit.ensures.fit e)

pub returns-clause-unfit : goal.returns-clause-unfit
returns-clause-unfit c e = unfit_by_lines (lists_of c.args.table.now) c.args.draft c.args.row.now c.requires.slots c.requires.whole c.requires.level c.scale_of-scale.ensures.kept (c.do_lines_fit.ensures.unfit e)
