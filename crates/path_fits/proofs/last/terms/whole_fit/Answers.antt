use Rattle.std.proofs.Common.{◌≡◌, List, true, false, subst, rules}
use Rattle.frac_core.specs.Fraction.{Fraction, IsUnfitRatio, sum_den, sum_num}
use Rattle.std.proofs.Common.{pos, negsuc}
use Rattle.problem_core.specs.declared.parts.Term.{Term}
use Rattle.path_lines.specs.Exchanges.Pivots.{next_marks}
use Rattle.path_fits.specs.Sums.{IsQuantitySum}
use Rattle.path_fits.specs.TermSums.{IsLessFitting, IsTermsStop, terms_of}
use Rattle.path_fits.proofs.LastCorner.TermsEnd.{last_fits, last_unfit, whole_attr_part, whole_terms_part}
use Rattle.path_fits.proofs.last.terms.whole_fit.Goals as goal
use Rattle.path_levels.proofs.Exchanges.FitFacts.{next_is_there as corner_after}

pub returns-then-less_fits : goal.returns-then-less_fits
returns-then-less_fits c = λ marks turn lines attrs inside none.
    let up : c.less_fits.result ≡ true = search rules in
    let sum : IsQuantitySum c.args.case.p.now (next_marks c.args.case.p.now c.args.case.pivot.now marks) (terms_of c.args.r.now.terms) c.in-Ok.sum =
    subst (λ (ts : List Term). IsQuantitySum c.args.case.p.now (next_marks c.args.case.p.now c.args.case.pivot.now marks) (terms_of ts) c.in-Ok.sum) c.terms.ensures (c.in-Ok.ensures.sum marks turn lines attrs) in
    let less : IsLessFitting c.in-Ok.sum.value c.args.r.now.constant = subst (λ (f : Fraction). IsLessFitting c.in-Ok.sum.value f) c.constant.ensures (c.less_fits.ensures.fits up) in
    last_fits c.args.case.p.now (next_marks c.args.case.p.now c.args.case.pivot.now marks) c.args.r.now c.in-Ok.sum less.0 (corner_after c.args.case.p.now marks c.args.case.pivot.now turn) c.requires.row c.show_row.ensures.constant.lowest.above sum inside less.1 less.2 none

pub returns-in-Ok : goal.returns-in-Ok
returns-in-Ok c = λ marks turn lines attrs inside.
    let down : c.less_fits.result ≡ false = search rules in
    let sum : IsQuantitySum c.args.case.p.now (next_marks c.args.case.p.now c.args.case.pivot.now marks) (terms_of c.args.r.now.terms) c.in-Ok.sum =
    subst (λ (ts : List Term). IsQuantitySum c.args.case.p.now (next_marks c.args.case.p.now c.args.case.pivot.now marks) (terms_of ts) c.in-Ok.sum) c.terms.ensures (c.in-Ok.ensures.sum marks turn lines attrs) in
    let less : IsUnfitRatio (sum_num c.in-Ok.sum.value (negsuc 0) (pos 1) c.args.r.now.constant) (sum_den c.in-Ok.sum.value (pos 1) c.args.r.now.constant) =
    subst (λ (f : Fraction). IsUnfitRatio (sum_num c.in-Ok.sum.value (negsuc 0) (pos 1) f) (sum_den c.in-Ok.sum.value (pos 1) f)) c.constant.ensures (c.less_fits.ensures.unfit down) in
    last_unfit c.args.case.p.now (next_marks c.args.case.p.now c.args.case.pivot.now marks) c.args.r.now c.in-Ok.sum (corner_after c.args.case.p.now marks c.args.case.pivot.now turn) c.requires.row c.show_row.ensures.constant.lowest.above sum inside less

pub returns-in-Err-UnfitAttr : goal.returns-in-Err-UnfitAttr
returns-in-Err-UnfitAttr c = λ marks turn lines attrs inside.
    whole_attr_part c.args.case.p.now (next_marks c.args.case.p.now c.args.case.pivot.now marks) c.args.r.now c.in-Err-UnfitAttr.field-0-0
    (subst (IsTermsStop c.args.case.p.now (next_marks c.args.case.p.now c.args.case.pivot.now marks) c.args.r.now.terms) c.in-Err-UnfitAttr.field-0-is
    (subst (λ (ts : List Term). IsTermsStop c.args.case.p.now (next_marks c.args.case.p.now c.args.case.pivot.now marks) ts c.in-Err-UnfitAttr.field-0) c.terms.ensures (c.in-Err-UnfitAttr.ensures.stop marks turn lines attrs)))

pub returns-in-Err-UnfitTerms : goal.returns-in-Err-UnfitTerms
returns-in-Err-UnfitTerms c = λ marks turn lines attrs inside.
    whole_terms_part c.args.case.p.now (next_marks c.args.case.p.now c.args.case.pivot.now marks) c.args.r.now c.in-Err-UnfitTerms.field-0-0
    (subst (IsTermsStop c.args.case.p.now (next_marks c.args.case.p.now c.args.case.pivot.now marks) c.args.r.now.terms) c.in-Err-UnfitTerms.field-0-is
    (subst (λ (ts : List Term). IsTermsStop c.args.case.p.now (next_marks c.args.case.p.now c.args.case.pivot.now marks) ts c.in-Err-UnfitTerms.field-0) c.terms.ensures (c.in-Err-UnfitTerms.ensures.stop marks turn lines attrs)))
