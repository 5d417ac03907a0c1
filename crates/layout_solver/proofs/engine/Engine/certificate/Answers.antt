use Rattle.problem_core.specs.Certificates.{IsCertificate}
use Rattle.problem_core.specs.Corners.{Point, StandsAt, assignment_at}
use Rattle.cert_core.specs.Claims.{multipliers_of}
use Rattle.cert_checker.specs.Certifying.{Balances}
use Rattle.certificates.specs.Accepted.{IsCertified}
use Rattle.certificates.specs.OwnLevels.{IsOwnBest}
use Rattle.layout_solver.proofs.Shown.{shown_certified, shown_own}
use Rattle.layout_solver.proofs.engine.Engine.certificate.Goals as goal
use Rattle.frac_core.proofs.Lists.{ok-both as ok_both}
use Rattle.frac_core.proofs.Results.{ok_implies}

pub returns-clause-own : goal.returns-clause-own
returns-clause-own g c =
    ok_implies c.certificate.result (IsOwnBest c.self.inside.corner.problem c.self.inside.corner.marks) (IsOwnBest c.args.self.now.problem c.args.self.now.corner)
    (λ levels h. shown_own c.self.inside.corner c.self.inside.values.0 c.self.inside.earlier c.args.self.now c.self.invariant c.self.view_is levels h) c.certificate.ensures.own

pub returns-clause-certified : goal.returns-clause-certified
returns-clause-certified g c =
    ok_both c.certificate.result (Balances c.self.inside.corner.problem)
    (λ best. (x : Point) → StandsAt c.self.inside.corner.problem c.self.inside.corner.marks x → IsCertificate c.self.inside.corner.problem (assignment_at x) (multipliers_of c.self.inside.corner.problem best))
    (IsCertified c.args.self.now.problem c.args.self.now.values)
    (λ levels b h. shown_certified c.self.inside.corner c.self.inside.values.0 c.self.inside.earlier c.args.self.now c.self.invariant c.self.view_is levels b h) c.certificate.ensures.balanced c.certificate.ensures.certified
