use Rattle.std.proofs.Common.{Option, sym, subst}
use Rattle.path_lines.specs.declared.table.Inside.{Inside}
use Rattle.path_fits.specs.Attrs.{IsFittingStay, IsUnfitStay}
use Rattle.path_fits.proofs.LastCorner.AttrsAfter.{inside_stay_fits, inside_stay_unfit, outside_stay_fits}
use Rattle.path_fits.proofs.last.fits.stay_fits.Goals as goal

pub returns-in_default-clause-fits : goal.returns-in_default-clause-fits
returns-in_default-clause-fits c = λ same. subst (λ (o : Option Inside). IsFittingStay c.args.target o) (sym c.in_default.is) (outside_stay_fits c.args.target)

pub returns-in_default-mul_add-clause-unfit : goal.returns-in_default-mul_add-clause-unfit
returns-in_default-mul_add-clause-unfit c = λ same. subst (λ (o : Option Inside). IsUnfitStay c.args.target o) (sym c.in-Some.is) (inside_stay_unfit c.args.target c.in-Some.inside c.in_default-mul_add.ensures.unfit)

pub returns-clause-fits : goal.returns-clause-fits
returns-clause-fits c = λ same. subst (λ (o : Option Inside). IsFittingStay c.args.target o) (sym c.in-Some.is)
    (inside_stay_fits c.args.target c.in-Ok.value c.in-Some.inside (record { lowest = c.in-Ok.ensures.lowest; fits = c.in-Ok.ensures.fits }) c.in-Ok.ensures.value)
