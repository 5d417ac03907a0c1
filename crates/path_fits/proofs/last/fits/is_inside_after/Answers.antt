use Rattle.std.proofs.Common.{◌≡◌, ◌↔◌, IsTrue, Some, subst, rules}
use Rattle.problem_core.specs.Corners.{exchanged}
use Rattle.path_lines.specs.Tables.{name_at, swap_of}
use Rattle.path_lines.proofs.Iffs.{through}
use Rattle.path_fits.specs.Sums.{IsSideAt}
use Rattle.path_fits.proofs.LastCorner.AttrsAfter.{side_same}
use Rattle.path_fits.proofs.LastCorner.SumsAfter.{step_there}
use Rattle.path_fits.proofs.last.fits.is_inside_after.Goals as goal

pub returns-in-Some : goal.returns-in-Some
returns-in-Some c = λ p marks there ex enter leave within line.
    let inside : IsSideAt (exchanged (swap_of p c.args.step) marks) (name_at p c.args.at) (Some c.in-Some.inside) =
    subst (IsSideAt (exchanged (swap_of p c.args.step) marks) (name_at p c.args.at)) c.in-Some.is (c.side_after.ensures p marks there ex enter leave within line) in
    let same : IsTrue c.eq.result ↔ (c.in-Some.inside ≡ c.args.side) = search rules in
    through c.eq.result same (side_same p (exchanged (swap_of p c.args.step) marks) (name_at p c.args.at) c.args.side c.in-Some.inside (step_there p marks c.args.step there ex enter) inside)
