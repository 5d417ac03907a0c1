use Rattle.std.proofs.Common.{refl}
use Rattle.path_claims.proofs.LastSteps.{found_after}
use Rattle.path_claims.proofs.check.verdict_after.Goals as goal

pub returns : goal.returns
returns c =
    c.verdict.ensures c.args.case.p.now c.args.case.path.now _
    (found_after c.args.case c.args.walked.now c.args.step c.args.named _ c.in_ok-is_sound.is_sound c.in_ok-fit.fit c.requires.case c.requires.walked c.requires.step c.tableau-tableau.ensures.outline c.tableau-tableau.ensures.lines c.tableau-tableau.ensures.levels refl c.in_ok-is_sound.ensures c.in_ok-fit.ensures)
