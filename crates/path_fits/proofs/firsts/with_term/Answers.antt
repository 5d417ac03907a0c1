use Rattle.std.proofs.Common.{SFits, rules, subst, List}
use Rattle.std.specs.Int.{w64}
use Rattle.std.proofs.lemmas.Int.{to_z-of_z}
use Rattle.problem_core.specs.declared.parts.Stay.{Stay}
use Rattle.path_lines.proofs.Exchanges.Leading.{err_then}
use Rattle.path_levels.proofs.Results.{ok_both}
use Rattle.path_fits.specs.FirstSums.{IsTarget}
use Rattle.path_fits.proofs.Beginning.FirstSums.{next_unfit, next_value}
use Rattle.path_fits.proofs.firsts.with_term.Goals as goal

pub returns-clause-next : goal.returns-clause-next
returns-clause-next c =
    let fits : SFits w64 c.args.term.by = search rules in
    ok_both c.mul_add.result (λ next value lowest.
    next_value c.args.p.now c.args.term c.args.value next c.target_of-target.result c.show_whole.ensures c.requires.term
    (subst (λ (ss : List Stay). IsTarget ss c.args.term.attr c.target_of-target.result) c.stays.ensures c.target_of-target.ensures) lowest.above value)
    (simp to_z-of_z at c.mul_add.ensures.value) c.mul_add.ensures.lowest

pub returns-clause-kept : goal.returns-clause-kept
returns-clause-kept c = ok_both c.mul_add.result (λ next lowest fits. record { lowest = lowest; fits = fits }) c.mul_add.ensures.lowest c.mul_add.ensures.fits

pub returns-clause-unfit : goal.returns-clause-unfit
returns-clause-unfit c =
    let fits : SFits w64 c.args.term.by = search rules in
    err_then c.mul_add.result (λ stop unfit.
    next_unfit c.args.p.now c.args.term c.args.value c.target_of-target.result c.show_whole.ensures
    (subst (λ (ss : List Stay). IsTarget ss c.args.term.attr c.target_of-target.result) c.stays.ensures c.target_of-target.ensures) unfit)
    (simp to_z-of_z at c.mul_add.ensures.unfit)
