-- What an engine keeps.
use Rattle.std.proofs.Common.{◌≡◌, ◌∙◌, ℕ, ◌++◌, List, [], ◌∷◌, map, refl, sym, ap, ap₂, subst, arith, pos, All}
use Rattle.std.proofs.Math.Logic.{∥∥₁_elim}
use Rattle.std.proofs.lemmas.List.Elements.{All-from_recursion}
use Rattle.std.specs.Coded.{Coded-set}
use Rattle.frac_core.specs.Fraction.{Fraction}
use Rattle.problem_core.specs.Layout.{Problem, Row}
use Rattle.problem_core.specs.Corners.{IsCorner}
use Rattle.corner_view.specs.Seen.{CornerView, IsKeptCorner, Scene}
use Rattle.corner_view.specs.Changes.{scene_of}
use Rattle.corner_ends.specs.Runs.{IsBestEnd}
use Rattle.layout_solver.specs.Layouts.{IsKeptSolution, Solution, stays_at, zeros}
use Rattle.layout_solver.specs.Engines.{AreItsValues, HaveValues, IsSolved, layout_of, solutions_at}
use Rattle.layout_solver.specs.Starts.{IsMoved}
use Rattle.layout_solver.specs.ValuesUnique.{values_are_one, values_code}
use Rattle.layout_solver.proofs.Earlier.{same_solutions}
use Rattle.layout_solver.proofs.Starts.MovedProblems.{its_values}
use Rattle.layout_solver.proofs.Starts.Rooms.{values_apart}
use Rattle.layout_solver.proofs.Values.{best_there, values_exist, values_fit}

-- the values that a corner is said to have are its values
pub these_values : (c : CornerView) → IsCorner c.problem c.marks → (v : List (ℕ × Fraction)) → ∥ AreItsValues (scene_of c) v ∥₁ → AreItsValues (scene_of c) v
these_values c corner v h =
    let w = values_exist c corner in
    subst (AreItsValues (scene_of c)) (sym (∥∥₁_elim h (Coded-set values_code v w.0) (λ t. values_are_one (scene_of c) v w.0 t w.1))) w.1

-- a best end of which no line is listed
pub solved_end : (c : CornerView) (v : List (ℕ × Fraction)) (past : HaveValues c.before) → IsKeptCorner c.problem c.marks → IsBestEnd c.problem c.marks → AreItsValues (scene_of c) v → All IsKeptSolution (solutions_at c.before past) → c.candidates ≡ []
    → IsSolved c v past
solved_end c v past kept end values earlier listed = record {
  kept = record { best = best_there c v values kept.whole end; fit = values_fit c v values kept; apart = values_apart c.problem v kept.whole values.attributes; corner = kept; values = values.stand; end = end };
  earlier = earlier;
  listed = listed;
}

-- the values of a solved corner
pub solved_values : (c : CornerView) (v : List (ℕ × Fraction)) (past : HaveValues c.before) → IsSolved c v past → AreItsValues (scene_of c) v
solved_values c v past s = record { corner = s.kept.corner.corner; attributes = s.kept.best.attributes; lowest = s.kept.best.lowest; stand = s.kept.values }

-- ---- the corner of nothing

abbrev none-corner : CornerView
none-corner = record { problem = record { rows = []; stays = [] }; marks = []; before = []; candidates = []; order = [] }

none-end : IsBestEnd (record { rows = []; stays = [] }) []
none-end = record {
  values = (record { num = λ v. pos 1; positive = omega arith }, ((λ k d within. absurd (omega (arith, within))), (λ k d within. absurd (omega (arith, within)))), λ k d within. absurd (omega (arith, within)));
  columns = (record { scale = λ k. 1; times = λ k name. pos 0 }, record { scales = λ k. omega arith; cancel = λ k v. refl; inside_zero = λ side k d within. absurd (omega (arith, within)) }, λ side k d within. absurd (omega (arith, within)));
  required = λ h. absurd h.2.lt;
}

no-values : (v : List (ℕ × Fraction)) → map (λ w. w.0) v ≡ [] → v ≡ []
no-values [] e = refl
no-values (w ∷ v) e = cc

none-earlier : (before : List Scene) (past : HaveValues before) → before ≡ [] → solutions_at before past ≡ []
none-earlier before past e = same_solutions before [] past tt e

pub none_before : (c : CornerView) → c ≡ none-corner → HaveValues c.before
none_before c e = subst (λ (d : CornerView). HaveValues d.before) (sym e) tt

-- the corner of nothing has the layout of nothing
module _ (c : CornerView) (v : List (ℕ × Fraction)) (past : HaveValues c.before) (e : c ≡ none-corner) (kept : IsKeptCorner c.problem c.marks) (are : ∥ AreItsValues (scene_of c) v ∥₁) where
  none-values : AreItsValues (scene_of c) v
  none-values = these_values c kept.corner v are

  none-attributes : map (λ w. w.0) v ≡ []
  none-attributes = none-values.attributes ∙ ap (λ (d : CornerView). map (λ s. s.attr) d.problem.stays) e

  none-solutions : solutions_at c.before past ≡ []
  none-solutions = none-earlier c.before past (ap (λ (d : CornerView). d.before) e)

  pub none_layout : layout_of c v past ≡ record { problem = record { rows = []; stays = [] }; values = []; corner = []; earlier = [] }
  none_layout =
      ap (λ (es : List Solution). record { problem = c.problem; values = v; corner = c.marks; earlier = es }) none-solutions
      ∙ ap₂ (λ (d : CornerView) (w : List (ℕ × Fraction)). record { problem = d.problem; values = w; corner = d.marks; earlier = [] }) e (no-values v none-attributes)

  pub none_solved : IsSolved c v past
  none_solved =
      solved_end c v past kept (subst (λ (d : CornerView). IsBestEnd d.problem d.marks) (sym e) none-end) none-values
      (subst (All IsKeptSolution) (sym none-solutions) (All-from_recursion IsKeptSolution [] tt))
      (ap (λ (d : CornerView). d.candidates) e)

-- ---- after a change

-- the moved problem is that of the layout
pub moved_is : (c : CornerView) (v : List (ℕ × Fraction)) (past : HaveValues c.before) (attrs : List ℕ) (rows : List Row) (p : Problem) → IsSolved c v past → IsMoved c attrs rows p → p ≡ record { rows = rows; stays = stays_at (v ++ zeros attrs) }
moved_is c v past attrs rows p s m =
    m.is ∙ ap (λ (vs : List (ℕ × Fraction)). record { rows = rows; stays = stays_at (vs ++ zeros attrs) })
    (values_are_one (scene_of c) m.values v (its_values c attrs rows p s.kept.corner.corner m) (solved_values c v past s))
