-- Whether a corner of a path comes twice, by its steps.
use Rattle.std.proofs.Common.{List, Option, subst, sym}
use Rattle.problem_core.specs.declared.parts.Side.{Side}
use Rattle.problem_core.specs.Layout.{Problem}
use Rattle.problem_core.specs.Kept.{IsWhole}
use Rattle.problem_core.specs.Changes.Begins.{AreExchanges}
use Rattle.problem_core.specs.Corners.{ArePairwiseDifferent, IsCorner, Swap, corners}
use Rattle.cert_core.specs.Paths.{Path}
use Rattle.path_lines.specs.declared.spots.Step.{Step}
use Rattle.path_claims.specs.PathClauses.{AreApart}
use Rattle.path_lines.specs.Sides.{AreSteps, ComesTwice}
use Rattle.path_lines.specs.Tables.{AreSides}
use Rattle.path_lines.proofs.MarkSides.SidesApart.{apart_by_sides}

pub twice_then : (p : Problem) (path : Path) (sides : List (Option Side)) (steps : List Step) → IsWhole p → IsCorner p path.corner → AreSides p path.corner sides → AreSteps p path.swaps steps → AreExchanges p path.corner path.swaps → ComesTwice sides steps → AreApart path → ⊥
twice_then p path sides steps whole corner are is exchanges twice apart =
    (apart_by_sides p path.corner sides steps whole corner are is.within (subst (AreExchanges p path.corner) (sym is.swaps_are) exchanges)).1 (subst (λ (ss : List Swap). ArePairwiseDifferent (corners path.corner ss)) (sym is.swaps_are) apart) twice

pub once_then : (p : Problem) (path : Path) (sides : List (Option Side)) (steps : List Step) → IsWhole p → IsCorner p path.corner → AreSides p path.corner sides → AreSteps p path.swaps steps → AreExchanges p path.corner path.swaps → (ComesTwice sides steps → ⊥) → AreApart path
once_then p path sides steps whole corner are is exchanges once =
    subst (λ (ss : List Swap). ArePairwiseDifferent (corners path.corner ss)) is.swaps_are ((apart_by_sides p path.corner sides steps whole corner are is.within (subst (AreExchanges p path.corner) (sym is.swaps_are) exchanges)).0 once)
