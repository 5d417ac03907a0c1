use Rattle.path_lines.specs.Exchanges.Pivots.{next_marks}
use Rattle.path_lines.proofs.Stops.{is_refused}
use Rattle.path_fits.proofs.LastCorner.AttrsAfter.{attr_after_fits}
use Rattle.path_fits.proofs.last.fits.attr_fit.Goals.{in-Ok, in-Err-Refused, in-Err-OutOfMemory}
use Rattle.path_fits.proofs.last.fits.attr_fit.Goals as goal
use Rattle.path_levels.proofs.Exchanges.FitFacts.{next_is_there as corner_after}

pub returns : goal.returns
returns c = elim c.match-attr_after.branch [
  | in-Ok w ↦ rw w.result-is (λ marks turn lines attrs unfit.
      attr_after_fits c.args.case.p.now (next_marks c.args.case.p.now c.args.case.pivot.now marks) c.args.attr _ (corner_after c.args.case.p.now marks c.args.case.pivot.now turn) (w.in-Ok.ensures.attr marks turn lines) unfit)
  | in-Err-Refused w ↦ rw w.result-is (λ marks turn lines attrs. w.in-Err-Refused.ensures.unfit (is_refused _ _ w.in-Err-Refused.field-0-is) marks turn lines attrs)
  | in-Err-OutOfMemory w ↦ rw w.result-is tt
]
