-- An engine's corner from its mark to where the stays stand at the values.
use Rattle.std.proofs.Common.{◌≡◌, ◌∙◌, ℕ, List, [], map, pos, ◌≤ℤ◌, sym, ap, subst, arith, All}
use Rattle.std.proofs.lemmas.List.Elements.{All-from_recursion, recursion_from_All}
use Rattle.frac_core.specs.Fraction.{Fraction, IsLowest}
use Rattle.problem_core.specs.declared.parts.Mark.{Mark}
use Rattle.problem_core.specs.declared.parts.RowName.TheVariants.{Held}
use Rattle.problem_core.specs.declared.parts.Side.{Side}
use Rattle.problem_core.specs.declared.parts.Stay.{Stay}
use Rattle.problem_core.specs.Layout.{Assignment, Problem, Satisfies, lines}
use Rattle.problem_core.specs.Kept.{IsWhole}
use Rattle.problem_core.specs.Levels.{CostsAbove}
use Rattle.problem_core.specs.Corners.{NoNegativeColumn, attr_column, column}
use Rattle.problem_core.proofs.Refutations.{refutation-IsInConflict}
use Rattle.problem_core.proofs.Wholes.{whole-IsProblem}
use Rattle.corner_laws.proofs.PathEnds.Refuting.{cost_refutes}
use Rattle.corner_view.specs.Seen.{CornerView, HasValueAt, IsKeptCorner, Scene}
use Rattle.corner_view.specs.Changes.{HasStood, scene_of}
use Rattle.corner_ends.specs.Runs.{IsBestEnd}
use Rattle.layout_solver.specs.Layouts.{AreValuesAt, Layout, stays_at}
use Rattle.layout_solver.specs.Engines.{AreItsValues, HaveValues, IsMarked, IsSolved}
use Rattle.layout_solver.specs.Removals.{stood}
use Rattle.layout_solver.specs.Starts.{IsMoved}
use Rattle.layout_solver.specs.ValuesUnique.{values_are_one}
use Rattle.layout_solver.proofs.BestValues.{attrs-at}
use Rattle.layout_solver.proofs.Changes.{changed_solved, marked_columns, marked_values, shifted_is, there_marks}
use Rattle.layout_solver.proofs.Removals.LeftChanges.{marked_satisfied, stood_satisfied, stood_stands, stood_up}
use Rattle.layout_solver.proofs.Shifts.Alterations.{stood_problem}
use Rattle.layout_solver.proofs.Shifts.ShiftedProblems.{columns_stood}
use Rattle.layout_solver.proofs.Solved.{these_values}
use Rattle.layout_solver.proofs.Starts.Moved.{each-unmap}

-- where no column is negative, required rows that have a solution cost nothing
pub costs_nothing : (p : Problem) (at : List Mark) → IsWhole p → NoNegativeColumn p at → (x : Assignment) × Satisfies p x → CostsAbove p at 0 → ⊥
costs_nothing p at whole (m, are, up) (x, satisfied) costs =
    refutation-IsInConflict p (whole-IsProblem p whole) (λ id. m.times 0 (Held id)) (cost_refutes p at m whole are first costs) x satisfied
  where
    first : (side : Side) → All (λ l. pos 0 ≤ℤ column m side l 0) (lines p)
    first side = λ i d within. up side i d within 0 (λ k below. absurd (omega (arith, below)))

-- a list of values is that of the stays at them
values-at : (p : Problem) (at : List Mark) (values : List (ℕ × Fraction)) → All (λ s. HasValueAt p at (attr_column s.attr) s.target) (stays_at values) → AreValuesAt p at values
values-at p at values h =
    All-from_recursion (λ v. HasValueAt p at (attr_column v.0) v.1) values
    (each-unmap (λ (v : ℕ × Fraction). record { attr = v.0; target = v.1 }) (λ (s : Stay). HasValueAt p at (attr_column s.attr) s.target) values
    (recursion_from_All (λ (s : Stay). HasValueAt p at (attr_column s.attr) s.target) (stays_at values) h))

-- ---- after the mark, with the stays at the values

module _ (c mid : CornerView) (v : List (ℕ × Fraction)) (past : HaveValues c.before) (l : Layout) (m : IsMarked c mid v past l) (end : CornerView) (has : HasStood mid end) (marks : end.marks ≡ mid.marks) (kept : IsKeptCorner end.problem end.marks) where
  before-it : IsKeptCorner mid.problem mid.marks
  before-it = subst (λ (s : Scene). IsKeptCorner s.problem s.marks) (sym m.scene) m.solved.kept.corner

  moved : IsMoved mid [] mid.problem.rows end.problem
  moved = stood_problem mid end [] before-it.corner has kept.whole marks

  pub stood_is : end.problem ≡ stood l
  stood_is = shifted_is c mid v past l m [] end.problem moved

  pub stood_marks : end.marks ≡ l.corner
  stood_marks = marks ∙ there_marks c mid v past l m

  columns : NoNegativeColumn end.problem end.marks
  columns = columns_stood mid end has marks (marked_columns c mid v past l m)

  satisfied : (x : Assignment) × Satisfies end.problem x
  satisfied =
      let x = marked_satisfied c mid v past l m (record { rows = []; attrs = [] }) in
      (x.0, stood_satisfied mid end before-it.corner has kept.whole marks x.0 x.1)

  -- it is an end
  pub stood-end : IsBestEnd end.problem end.marks
  stood-end = record {
    values = stood_up mid end before-it.corner has kept.whole marks before-it (marked_values c mid v past l m);
    columns = columns;
    required = costs_nothing end.problem end.marks kept.whole columns satisfied;
  }

  -- the values are its values
  same-values : AreItsValues (scene_of end) l.values
  same-values = record {
    corner = kept.corner;
    attributes = sym (attrs-at l.values) ∙ ap (λ (q : Problem). map (λ s. s.attr) q.stays) (sym stood_is);
    lowest = subst (λ (k : Layout). All (λ w. IsLowest w.1) k.values) m.view m.solved.kept.best.lowest;
    stand = values-at end.problem end.marks l.values
        (subst (All (λ (s : Stay). HasValueAt end.problem end.marks (attr_column s.attr) s.target)) (ap (λ (q : Problem). q.stays) stood_is)
        (stood_stands mid end before-it.corner has kept.whole marks before-it));
  }

  pub stood_values : (w : List (ℕ × Fraction)) → ∥ AreItsValues (scene_of end) w ∥₁ → w ≡ l.values
  stood_values w h = values_are_one (scene_of end) w l.values (these_values end kept.corner w h) same-values

  pub stood_solved : (before : end.before ≡ mid.before) (w : List (ℕ × Fraction)) (rest : HaveValues end.before) → end.candidates ≡ [] → ∥ AreItsValues (scene_of end) w ∥₁ → IsSolved end w rest
  stood_solved before w rest listed h =
      changed_solved c mid v past l m end before w rest stood-end listed kept h
