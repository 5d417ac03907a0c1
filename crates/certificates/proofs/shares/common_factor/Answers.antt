use Rattle.std.proofs.Common.{◌≡◌, ◌∙◌, [], ℕ, ℤ, pos, sym, subst, unsigned_abs, to_z, of_z, get_or, All}
use Rattle.std.specs.Int.{w64, ◌∣◌, IsGcd}
use Rattle.std.proofs.lemmas.Int.{to_z-of_z}
use Rattle.std.proofs.lemmas.List.{get_or_default}
use Rattle.problem_core.specs.declared.parts.RowName.TheVariants.{Held}
use Rattle.cert_core.specs.declared.by.By.{By}
use Rattle.certificates.proofs.Factors.{Factored, factor_is, factored_all, factored_more, factored_none}
use Rattle.certificates.proofs.shares.common_factor.Goals as goal
use Rattle.frac_core.proofs.Fitting.{fits-word as fitting_sfits}

abbrev no-by : By
no-by = record { row = Held 0; times = pos 0 }

pub loop-b-init : goal.loop-b-init
loop-b-init c =
    let size = simp (to_z-of_z, c.ranges.scale) at c.unsigned_abs.ensures.value in
    let same : c.from-factor.result ≡ unsigned_abs c.args.scale = c.from-factor.ensures ∙ size in
    simp (to_z-of_z, c.ranges.scale) (subst (λ (n : ℕ). Factored c.args.scale [] n) (sym same) (factored_none c.args.scale c.requires.above))

pub loop-b-preserved : goal.loop-b-preserved
loop-b-preserved c =
    let fits = fitting_sfits (get_or c.args.by.now c.loop-b.b-index no-by).times (c.requires.by c.loop-b.b-index no-by c.loop-b-test.true) in
    let same = to_z-of_z w64 (get_or c.args.by.now c.loop-b.b-index no-by).times fits in
    factored_more (to_z w64 (of_z w64 c.args.scale)) c.args.by.now c.loop-b.b-index (get_or c.args.by.now c.loop-b.b-index no-by) c.loop-b.factor c.shared-factor.result c.loop-b-test.true
    (get_or_default c.args.by.now c.loop-b.b-index no-by (get_or c.args.by.now c.loop-b.b-index no-by) c.loop-b-test.true) c.loop-b.invariant (subst (λ (z : ℤ). IsGcd c.loop-b.factor (unsigned_abs z) c.shared-factor.result) same c.shared-factor.ensures)

pub returns-clause-scale : goal.returns-clause-scale
returns-clause-scale c =
    let f : Factored c.args.scale c.args.by.now c.loop-b.factor = simp (to_z-of_z, c.ranges.scale) at (factored_all (to_z w64 (of_z w64 c.args.scale)) c.args.by.now c.loop-b.b-index c.loop-b.factor c.loop-b-test.false c.loop-b.invariant) in
    subst (λ (z : ℤ). ◌∣◌ (unsigned_abs z) (unsigned_abs c.args.scale)) (sym (factor_is c.args.scale c.args.by.now c.loop-b.factor c.requires.fits f)) f.divides

pub returns-clause-by : goal.returns-clause-by
returns-clause-by c =
    let f : Factored c.args.scale c.args.by.now c.loop-b.factor = simp (to_z-of_z, c.ranges.scale) at (factored_all (to_z w64 (of_z w64 c.args.scale)) c.args.by.now c.loop-b.b-index c.loop-b.factor c.loop-b-test.false c.loop-b.invariant) in
    subst (λ (z : ℤ). All (λ b. ◌∣◌ (unsigned_abs z) (unsigned_abs b.times)) c.args.by.now) (sym (factor_is c.args.scale c.args.by.now c.loop-b.factor c.requires.fits f)) f.by

pub returns-clause-greatest : goal.returns-clause-greatest
returns-clause-greatest c = λ k h each.
    let f : Factored c.args.scale c.args.by.now c.loop-b.factor = simp (to_z-of_z, c.ranges.scale) at (factored_all (to_z w64 (of_z w64 c.args.scale)) c.args.by.now c.loop-b.b-index c.loop-b.factor c.loop-b-test.false c.loop-b.invariant) in
    subst (λ (z : ℤ). ◌∣◌ k (unsigned_abs z)) (sym (factor_is c.args.scale c.args.by.now c.loop-b.factor c.requires.fits f)) (f.greatest k h each)
