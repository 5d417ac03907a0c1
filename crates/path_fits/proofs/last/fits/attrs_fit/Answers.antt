use Rattle.std.proofs.Common.{◌≡◌, ℕ, List, length, get_or, ap, subst, rules, arith, inl, inr, true, false}
use Rattle.std.proofs.lemmas.Bool.{cases_eq}
use Rattle.problem_core.specs.declared.parts.Stay.{Stay}
use Rattle.problem_core.specs.Corners.{attr_column}
use Rattle.problem_core.specs.Unfit.{HasNoWriting}
use Rattle.path_fits.proofs.LastCorner.AttrsAfter.{all_stays_fit}
use Rattle.path_fits.proofs.last.fits.attrs_fit.Goals as goal

pub returns-then-not-stay_fits_at-clause-unfit : goal.returns-then-not-stay_fits_at-clause-unfit
returns-then-not-stay_fits_at-clause-unfit c =
    let down : c.stay_fits_at.result ≡ false = search rules in
    λ same marks there lines. c.stay_fits_at.ensures.unfit down marks there lines

pub loop-i-preserved : goal.loop-i-preserved
loop-i-preserved c =
    let up : c.stay_fits_at.result ≡ true = search rules in
    λ k s less marks there lines none.
    elim (cases_eq k c.loop-i.i) [
      | inl e ↦ c.stay_fits_at.ensures.fits up s marks there lines (subst (λ (j : ℕ). HasNoWriting c.args.p.now marks (λ x. x (attr_column (get_or c.args.p.now.stays j s).attr))) e none)
      | inr ne ↦ c.loop-i.invariant k s (omega (arith, less, ne)) marks there lines none
    ]

pub returns-clause-fits : goal.returns-clause-fits
returns-clause-fits c = λ same marks there lines.
    let long : length c.stays-i-end.result.now ≡ length c.args.p.now.stays = ap (λ (ss : List Stay). length ss) c.stays-i-end.ensures in
    all_stays_fit c.args.p.now marks (λ k s inside none. c.loop-i.invariant k s (omega (arith, inside, long, c.loop-i-test.false)) marks there lines none)
