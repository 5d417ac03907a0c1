use Rattle.std.proofs.Common.{rules, SFits, w64, ◌≡◌, ◌∙◌, ◌<◌, ◌<ℤ◌, ◌*ℤ◌, true, false, pos, arith, All, unsigned_abs}
use Rattle.std.proofs.lemmas.Int.{to_z-of_z}
use borrow.Author.Differences.{ints}
use Rattle.frac_core.specs.Fraction.{IsFitting}
use Rattle.row_core.specs.Rows.{coefficient}
use Rattle.corner_laws.specs.LevelLaws.{small_number}
use Rattle.corner_table.specs.Tables.{lists_of}
use Rattle.corner_leaving.specs.Leaving.{AreLeftFitting}
use Rattle.corner_leaving.proofs.Removals.LeavingFits.{draft_left, fits_left, small_left, unfit_left}
use Rattle.corner_leaving.proofs.leaving.does_left_fit.Goals as goal

pub returns-then-are_small-clause-fits : goal.returns-then-are_small-clause-fits
returns-then-are_small-clause-fits c t =
    let u : SFits w64 c.args.unit = c.ranges.unit in
    let lt : c.scale_of-scale.result <ℤ pos 1073741824 = search rules in
    let small : All (λ e. unsigned_abs e.by < small_number) c.args.row.now = search rules in
    let value : c.scale_of-scale.result ≡ coefficient c.args.leaver.level c.args.row.now *ℤ c.args.unit = simp to_z-of_z at c.scale_of-scale.ensures.value in
    small_left (lists_of c.args.table.now) c.requires.leaver.0 c.args.leaver c.args.unit c.args.row.now (record { kept = c.requires.kept; is = c.requires.leaver.1 }) c.scale_of-scale.ensures.kept
    (λ n e. let is : c.scale_of-scale.result ≡ pos n = value ∙ e in omega (arith, ints, lt, is)) small

pub returns-clause-fits : goal.returns-clause-fits
returns-clause-fits c e =
    let u : SFits w64 c.args.unit = c.ranges.unit in
    let scale : IsFitting (coefficient c.args.leaver.level c.args.row.now *ℤ c.args.unit) = search rules in
    let fit : c.do_others_fit.result ≡ true → AreLeftFitting (lists_of c.args.table.now) (draft_left c.args.leaver c.args.unit) c.args.row.now c.args.leaver.id c.args.table.now.rows.items = simp to_z-of_z at c.do_others_fit.ensures.fit in
    fits_left (lists_of c.args.table.now) c.requires.leaver.0 c.args.leaver c.args.unit c.args.row.now (record { kept = c.requires.kept; is = c.requires.leaver.1 }) c.scale_of-scale.ensures.kept scale (fit e)

pub returns-clause-unfit : goal.returns-clause-unfit
returns-clause-unfit c e =
    let u : SFits w64 c.args.unit = c.ranges.unit in
    let unfit : c.do_others_fit.result ≡ false → AreLeftFitting (lists_of c.args.table.now) (draft_left c.args.leaver c.args.unit) c.args.row.now c.args.leaver.id c.args.table.now.rows.items → ⊥ = simp to_z-of_z at c.do_others_fit.ensures.unfit in
    unfit_left (lists_of c.args.table.now) c.requires.leaver.0 c.args.leaver c.args.unit c.args.row.now (record { kept = c.requires.kept; is = c.requires.leaver.1 }) c.scale_of-scale.ensures.kept (unfit e)
