use Rattle.std.proofs.Common.{refl, None}
use Rattle.path_claims.proofs.JourneySteps.{journey_begins}
use Rattle.path_claims.proofs.journey.first_journey.Goals as goal

pub returns-clause-journey : goal.returns-clause-journey
returns-clause-journey c = λ path outline.
    journey_begins c.args.p.now path outline (record { station = record { table = record { lines = c.new-lines.result; levels = c.new-levels.result }; step = None; count = 0 }; sides = c.in_ok-sides.sides }) c.show_whole.ensures refl refl c.in_ok-sides.ensures
