use Rattle.std.proofs.Common.{rules, SFits, w64, ◌≤◌, ◌∙◌, inr, ◌*ℤ◌, ℤ, pos, sym, ap, ap₂, subst}
use Rattle.std.proofs.lemmas.Int.{to_z-of_z}
use Rattle.frac_core.specs.Fraction.{IsFitting}
use Rattle.frac_core.specs.declared.frac.TheConstants.{PART_BOUND}
use Rattle.problem_core.specs.declared.parts.Side.{Side}
use Rattle.corner_lines.specs.LineEquations.{sign_of}
use Rattle.corner_table.specs.declared.table.Slot.{Slot}
use Rattle.corner_table.specs.Tables.{lists_of}
use Rattle.corner_table.specs.Reads.LevelNumbers.{IsCounted, share_of, side_share}
use Rattle.corner_joins.specs.Additions.CostJoins.{IsCostStop}
use Rattle.corner_joins.proofs.Costs.CostFound.{found, found_counted, found_share_unfit, passed_on, signed_fits}
use Rattle.corner_joins.proofs.joining.joined_cost.Goals as goal
use Rattle.frac_core.proofs.Fitting.{fits-word as fitting_sfits}

pub counted-requires : goal.counted-requires
counted-requires c =
    let u : SFits w64 c.args.rise.unit = fitting_sfits c.args.rise.unit c.requires.rise.fits in
    record { counted = simp to_z-of_z (subst (λ (slot : Slot). IsCounted slot c.args.rise.unit) (sym c.slot_at-slot.ensures) (found_counted (lists_of c.args.table.now) c.args.line c.args.rise (found (lists_of c.args.table.now) c.requires.joins.row c.args.line c.args.rise c.requires.joins.kept c.requires.joins.is c.requires.rise) c.requires.rise.fits)) }

pub returns-in_err-count-clause-err : goal.returns-in_err-count-clause-err
returns-in_err-count-clause-err c =
    let u : SFits w64 c.args.rise.unit = fitting_sfits c.args.rise.unit c.requires.rise.fits in
    let h = simp to_z-of_z at c.in_err-count.ensures.err in
    passed_on c.from_residual.result c.in_err-count.field-0.0 (IsCostStop (lists_of c.args.table.now) c.args.line c.args.stop) c.from_residual.ensures.1
    (inr (h.0, found_share_unfit (lists_of c.args.table.now) c.args.line c.args.rise (found (lists_of c.args.table.now) c.requires.joins.row c.args.line c.args.rise c.requires.joins.kept c.requires.joins.is c.requires.rise) (subst (λ (slot : Slot). PART_BOUND ≤ share_of slot c.args.rise.unit) c.slot_at-slot.ensures h.1)))

pub joined_row-requires-clause-count : goal.joined_row-requires-clause-count
joined_row-requires-clause-count c = λ side e.
    let u : SFits w64 c.args.rise.unit = fitting_sfits c.args.rise.unit c.requires.rise.fits in
    let n : SFits w64 c.in_ok-count.count = search rules in
    let s : SFits w64 c.sign.result = search rules in
    let small : IsFitting (c.in_ok-count.count *ℤ c.sign.result) = subst (λ (z : ℤ). IsFitting (c.in_ok-count.count *ℤ z)) (sym c.sign.ensures.value) (signed_fits c.in_ok-count.count c.side_in-side.result c.in_ok-count.ensures.fits) in
    let p : SFits w64 (c.in_ok-count.count *ℤ c.sign.result) = fitting_sfits (c.in_ok-count.count *ℤ c.sign.result) small in
    simp to_z-of_z
    (ap₂ ◌*ℤ◌ ((simp to_z-of_z at c.in_ok-count.ensures.ok) ∙ ap₂ (λ (slot : Slot) (d : Side). pos (side_share slot.rel d (share_of slot c.args.rise.unit))) c.slot_at-slot.ensures (c.side_in-side.ensures side e))
    (c.sign.ensures.value ∙ ap sign_of (c.side_in-side.ensures side e)))

pub joined_row-requires-clause-fits : goal.joined_row-requires-clause-fits
joined_row-requires-clause-fits c =
    let n : SFits w64 c.in_ok-count.count = search rules in
    let s : SFits w64 c.sign.result = search rules in
    let small : IsFitting (c.in_ok-count.count *ℤ c.sign.result) = subst (λ (z : ℤ). IsFitting (c.in_ok-count.count *ℤ z)) (sym c.sign.ensures.value) (signed_fits c.in_ok-count.count c.side_in-side.result c.in_ok-count.ensures.fits) in
    let p : SFits w64 (c.in_ok-count.count *ℤ c.sign.result) = fitting_sfits (c.in_ok-count.count *ℤ c.sign.result) small in
    simp to_z-of_z small

pub joined_value-requires-clause-rise : goal.joined_value-requires-clause-rise
joined_value-requires-clause-rise c =
    let u : SFits w64 c.args.rise.unit = fitting_sfits c.args.rise.unit c.requires.rise.fits in
    (c.args.rise.times, simp to_z-of_z c.requires.rise)

pub joined_value-requires-clause-count : goal.joined_value-requires-clause-count
joined_value-requires-clause-count c = λ side e.
    let u : SFits w64 c.args.rise.unit = fitting_sfits c.args.rise.unit c.requires.rise.fits in
    let n : SFits w64 c.in_ok-count.count = search rules in
    simp to_z-of_z ((simp to_z-of_z at c.in_ok-count.ensures.ok) ∙ ap₂ (λ (slot : Slot) (d : Side). pos (side_share slot.rel d (share_of slot c.args.rise.unit))) c.slot_at-slot.ensures (c.side_in-side.ensures side e))

pub fitting_cost-requires-clause-rise : goal.fitting_cost-requires-clause-rise
fitting_cost-requires-clause-rise c =
    let u : SFits w64 c.args.rise.unit = fitting_sfits c.args.rise.unit c.requires.rise.fits in
    (c.args.rise.times, simp to_z-of_z c.requires.rise)
