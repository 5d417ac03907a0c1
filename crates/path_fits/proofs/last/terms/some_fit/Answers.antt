use Rattle.std.proofs.Common.{List, take, subst}
use Rattle.problem_core.specs.declared.parts.Term.{Term}
use Rattle.path_lines.specs.Exchanges.Pivots.{next_marks}
use Rattle.path_fits.specs.Sums.{IsQuantitySum}
use Rattle.path_fits.specs.TermSums.{IsTermsStop, terms_of}
use Rattle.path_fits.proofs.LastCorner.TermsEnd.{attr_part, first_fits, terms_part}
use Rattle.path_fits.proofs.last.terms.some_fit.Goals.{in-Ok, in-Err-UnfitAttr, in-Err-UnfitTerms, in-Err-OutOfMemory}
use Rattle.path_fits.proofs.last.terms.some_fit.Goals as goal
use Rattle.path_levels.proofs.Exchanges.FitFacts.{next_is_there as corner_after}

pub returns : goal.returns
returns c = elim c.match-terms_after.branch [
  | in-Ok w ↦ rw w.result-is (λ marks turn lines attrs none.
      first_fits c.args.case.p.now (next_marks c.args.case.p.now c.args.case.pivot.now marks) c.args.sought.row.now c.args.sought.first _ (corner_after c.args.case.p.now marks c.args.case.pivot.now turn) c.requires.first
      (subst (λ (ts : List Term). IsQuantitySum c.args.case.p.now (next_marks c.args.case.p.now c.args.case.pivot.now marks) (terms_of (take c.args.sought.first ts)) w.in-Ok.field-0) c.terms-terms.ensures (w.in-Ok.ensures.sum marks turn lines attrs))
      w.in-Ok.ensures.kept none)
  | in-Err-UnfitAttr w ↦ rw w.result-is (λ marks turn lines attrs.
      attr_part c.args.case.p.now (next_marks c.args.case.p.now c.args.case.pivot.now marks) c.args.sought.row.now c.args.sought.first w.in-Err-UnfitAttr.field-0-0
      (subst (IsTermsStop c.args.case.p.now (next_marks c.args.case.p.now c.args.case.pivot.now marks) (take c.args.sought.first c.args.sought.row.now.terms)) w.in-Err-UnfitAttr.field-0-is
      (subst (λ (ts : List Term). IsTermsStop c.args.case.p.now (next_marks c.args.case.p.now c.args.case.pivot.now marks) (take c.args.sought.first ts) w.in-Err-UnfitAttr.field-0) c.terms-terms.ensures (w.in-Err-UnfitAttr.ensures.stop marks turn lines attrs))))
  | in-Err-UnfitTerms w ↦ rw w.result-is (λ marks turn lines attrs.
      terms_part c.args.case.p.now (next_marks c.args.case.p.now c.args.case.pivot.now marks) c.args.sought.row.now c.args.sought.first w.in-Err-UnfitTerms.j _ c.requires.first w.stopped_fit.ensures.same w.stopped_fit.ensures.other
      (subst (IsTermsStop c.args.case.p.now (next_marks c.args.case.p.now c.args.case.pivot.now marks) (take c.args.sought.first c.args.sought.row.now.terms)) w.in-Err-UnfitTerms.field-0-is
      (subst (λ (ts : List Term). IsTermsStop c.args.case.p.now (next_marks c.args.case.p.now c.args.case.pivot.now marks) (take c.args.sought.first ts) w.in-Err-UnfitTerms.field-0) c.terms-terms.ensures (w.in-Err-UnfitTerms.ensures.stop marks turn lines attrs))))
  | in-Err-OutOfMemory w ↦ rw w.result-is tt
]
