use Rattle.std.proofs.Common.{rules, ◌≡◌, ◌∙◌, SFits, ℤ, List, pos, ◌*ℤ◌, sym, ap, subst, unsigned_abs, to_z, of_z, get_or, All}
use Rattle.std.specs.Int.{w64}
use Rattle.std.proofs.lemmas.Int.{to_z-of_z}
use Rattle.std.proofs.lemmas.List.{get_or_default}
use Rattle.std.proofs.lemmas.List.Elements.{All-push}
use Rattle.frac_core.specs.Fraction.{IsFitting}
use Rattle.problem_core.specs.declared.parts.RowName.TheVariants.{Held}
use Rattle.cert_core.specs.declared.by.By.{By}
use Rattle.certificates.specs.OwnLevels.{multiplied}
use Rattle.certificates.proofs.Factors.{share_more}
use Rattle.certificates.proofs.shares.shares.Goals as goal
use Rattle.frac_core.proofs.Fitting.{fits-word as fitting_sfits}
use Rattle.frac_core.proofs.Numbers.{pos-size as by_positive}

abbrev no-by : By
no-by = record { row = Held 0; times = pos 0 }

pub share-requires-clause-divides : goal.share-requires-clause-divides
share-requires-clause-divides c =
    let fits : SFits w64 (get_or c.args.by.now c.loop-b.b-index no-by).times = fitting_sfits (get_or c.args.by.now c.loop-b.b-index no-by).times (c.requires.by c.loop-b.b-index no-by c.loop-b-test.true) in
    simp (to_z-of_z, c.ranges.factor, fits) (c.requires.divides c.loop-b.b-index no-by c.loop-b-test.true)

pub loop-b-preserved : goal.loop-b-preserved
loop-b-preserved c =
    let b : By = get_or c.args.by.now c.loop-b.b-index no-by in
    let fits : SFits w64 (get_or c.args.by.now c.loop-b.b-index no-by).times = fitting_sfits (get_or c.args.by.now c.loop-b.b-index no-by).times (c.requires.by c.loop-b.b-index no-by c.loop-b-test.true) in
    let small : SFits w64 c.share.result = search rules in
    let value : c.args.factor *ℤ c.share.result ≡ (get_or c.args.by.now c.loop-b.b-index no-by).times = (simp (to_z-of_z, c.ranges.factor) at c.share.ensures.value) ∙ to_z-of_z w64 (get_or c.args.by.now c.loop-b.b-index no-by).times fits in
    let items = simp (to_z-of_z, small, fits) at c.in_ok-push.ensures.items in
    let same : pos (unsigned_abs (to_z w64 (of_z w64 c.args.factor))) ≡ c.args.factor = ap (λ (z : ℤ). pos (unsigned_abs z)) (to_z-of_z w64 c.args.factor c.ranges.factor) ∙ by_positive c.args.factor c.requires.above in (
      ap (multiplied (unsigned_abs (to_z w64 (of_z w64 c.args.factor)))) items
          ∙ share_more (unsigned_abs (to_z w64 (of_z w64 c.args.factor))) c.args.by.now c.loop-b.out.items c.loop-b.b-index b c.share.result c.loop-b-test.true
          (get_or_default c.args.by.now c.loop-b.b-index no-by b c.loop-b-test.true) (ap (λ (z : ℤ). z *ℤ c.share.result) same ∙ value) c.loop-b.invariant.0,
      subst (λ (bys : List By). All (λ b. IsFitting b.times) bys) (sym items) (All-push (λ b. IsFitting b.times) c.loop-b.out.items (record { row = b.row; times = c.share.result }) c.loop-b.invariant.1 c.share.ensures.fits),
    )
