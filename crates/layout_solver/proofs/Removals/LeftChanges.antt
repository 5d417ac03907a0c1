-- An engine's corner from its mark to a removal or back.
use Rattle.std.proofs.Common.{◌≡◌, ◌∙◌, ℕ, zero, suc, List, [], ◌∷◌, map, get_or, refl, sym, ap, subst, arith, All, Any, Contains}
use Rattle.std.specs.List.{AllByRecursion as Each}
use Rattle.std.proofs.lemmas.List.Elements.{All-from_recursion}
use Rattle.frac_core.specs.Fraction.{Fraction}
use Rattle.problem_core.specs.declared.parts.Mark.{Mark}
use Rattle.problem_core.specs.declared.parts.Stay.{Stay}
use Rattle.problem_core.specs.Layout.{Assignment, HasStay, Problem, Row, Satisfies, error, line_of_row}
use Rattle.problem_core.specs.Kept.{IsWhole}
use Rattle.problem_core.specs.Corners.{IsCorner, NoNegativeValue, Point, StandsAt, attr_column}
use Rattle.corner_view.specs.Seen.{CornerView, HasValueAt, IsKeptCorner, Scene}
use Rattle.corner_view.specs.Changes.{HasStood, scene_of}
use Rattle.corner_ends.specs.Runs.{IsBestEnd}
use Rattle.marker_remove.specs.Freed.{DoStand}
use Rattle.layout_solver.specs.declared.request.RequestStop.{RequestStop}
use Rattle.layout_solver.specs.Layouts.{Layout}
use Rattle.layout_solver.specs.Engines.{AreItsValues, HaveValues, IsMarked, IsSolved}
use Rattle.layout_solver.specs.Removals.{CanLeave, HasRemoved, IsRemoveStop, Leaving, stood, with_removed, without}
use Rattle.layout_solver.specs.Starts.{IsMoved}
use Rattle.layout_solver.proofs.Shifts.Alterations.{stood_problem}
use Rattle.layout_solver.proofs.Changes.{changed_kept, still_moved, there_marks}
use Rattle.layout_solver.proofs.Starts.Moved.{IsAtTarget, moved_stands}
use Rattle.layout_solver.proofs.Starts.MovedProblems.{its_values, moved_up, one_problem}
use Rattle.layout_solver.proofs.Solved.{solved_end, these_values}
use Rattle.layout_solver.proofs.Values.{numbers_here}

-- ---- the stays have moved

same-stay : (xs ys : List Stay) (a : ℕ) → map (λ (s : Stay). s.attr) xs ≡ map (λ (s : Stay). s.attr) ys → HasStay ys a → HasStay xs a
same-stay xs [] a e (k, s, within, is, q) = absurd (omega (arith, within))
same-stay [] (y ∷ ys) a e h = cc
same-stay (x ∷ xs) (y ∷ ys) a e (zero, s, within, is, q) = let head : x.attr ≡ y.attr = cc in (0, x, omega arith, refl, head ∙ ap (λ (u : Stay). u.attr) is ∙ q)
same-stay (x ∷ xs) (y ∷ ys) a e (suc k, s, within, is, q) =
    let tail : map (λ (s : Stay). s.attr) xs ≡ map (λ (s : Stay). s.attr) ys = cc in
    let h = same-stay xs ys a tail (k, s, omega (arith, within), is, q) in
    (suc h.0, h.1, (let less = h.2 in omega (arith, less)), h.3, h.4)

module _ (from mid : CornerView) (corner : IsCorner from.problem from.marks) (has : HasStood from mid) (whole : IsWhole mid.problem) (marks : mid.marks ≡ from.marks) where
  moved : IsMoved from [] from.problem.rows mid.problem
  moved = stood_problem from mid [] corner has whole marks

  pub stood_leave : (l : Leaving) → CanLeave l from.problem → CanLeave l mid.problem
  stood_leave l h = record {
    held = subst (λ (rs : List Row). All (λ id. Any (λ r. r.id ≡ id) rs) l.rows) (sym has.rows) h.held;
    stays = λ i d within. same-stay mid.problem.stays from.problem.stays (get_or l.attrs i d) has.attrs (h.stays i d within);
    rows_apart = h.rows_apart;
    attrs_apart = h.attrs_apart;
    covered = subst (All (λ r. Any (λ t. Contains l.attrs t.attr) r.terms → Contains l.rows r.id)) (sym has.rows) h.covered;
  }

  pub stood_satisfied : (x : Assignment) → Satisfies from.problem x → Satisfies mid.problem x
  stood_satisfied x h = subst (All (λ r. r.rank ≡ 1000 → error x (line_of_row r) ≡ 0)) (sym has.rows) h

  pub stood_up : IsKeptCorner from.problem from.marks → NoNegativeValue from.problem from.marks → NoNegativeValue mid.problem mid.marks
  stood_up kept up = subst (NoNegativeValue mid.problem) (sym marks) (moved_up from [] mid.problem kept moved whole up)

  pub stood_stands : IsKeptCorner from.problem from.marks → DoStand mid.problem mid.marks
  stood_stands kept =
      let m = moved in
      let h = moved_stands from.problem mid.problem from.marks m.values [] corner.point
      (record { whole = kept.whole; attributes = m.attributes; each = whole.stays; apart = whole.apart; rows = ap (λ (q : Problem). q.rows) m.is; stays = ap (λ (q : Problem). q.stays) m.is })
      (numbers_here from m.values corner.point (its_values from [] from.problem.rows mid.problem corner m) corner.stands) corner.stands in
      subst (DoStand mid.problem) (sym marks)
      (All-from_recursion (λ s. HasValueAt mid.problem from.marks (attr_column s.attr) s.target) mid.problem.stays (targets h.point mid.problem.stays h.stands h.targets))
    where
      targets : (y : Point) (stays : List Stay) → StandsAt mid.problem from.marks y → Each (IsAtTarget y.num) stays → Each (λ s. HasValueAt mid.problem from.marks (attr_column s.attr) s.target) stays
      targets y [] stands t = tt
      targets y (s ∷ stays) stands t = ((y, stands, t.0), targets y stays stands t.1)

  one-stood : (p : Problem) → IsMoved from [] from.problem.rows p → mid.problem ≡ p
  one-stood p m = one_problem from [] from.problem.rows mid.problem p corner moved m

  pub stood_left : (l : Leaving) (q p : Problem) → q ≡ without l mid.problem → IsMoved from [] from.problem.rows p → q ≡ without l p
  stood_left l q p e m = e ∙ ap (without l) (one-stood p m)

  pub stood_removed : (l : Leaving) (budget : ℕ) (last : List Mark) (p : Problem) → HasRemoved mid.problem mid.marks l budget last → IsMoved from [] from.problem.rows p → HasRemoved p from.marks l budget last
  stood_removed l budget last p h m =
      subst (λ (ms : List Mark). HasRemoved p ms l budget last) marks
      (subst (λ (q : Problem). HasRemoved q mid.marks l budget last) (one-stood p m) h)

  pub stood_stop : (l : Leaving) (budget : ℕ) (stop : RequestStop) (p : Problem) → IsRemoveStop mid.problem mid.marks l budget stop → IsMoved from [] from.problem.rows p → IsRemoveStop p from.marks l budget stop
  stood_stop l budget stop p h m =
      subst (λ (ms : List Mark). IsRemoveStop p ms l budget stop) marks
      (subst (λ (q : Problem). IsRemoveStop q mid.marks l budget stop) (one-stood p m) h)

-- ---- after the mark

module _ (c mid : CornerView) (v : List (ℕ × Fraction)) (past : HaveValues c.before) (l : Layout) (m : IsMarked c mid v past l) (what : Leaving) where
  same-problem : mid.problem ≡ l.problem
  same-problem = ap (λ (s : Scene). s.problem) m.scene ∙ ap (λ (k : Layout). k.problem) m.view

  pub marked_leave : CanLeave what l.problem → CanLeave what mid.problem
  marked_leave h = subst (CanLeave what) (sym same-problem) h

  pub marked_satisfied : (x : Assignment) × Satisfies mid.problem x
  marked_satisfied =
      let best = m.solved.kept.best.best in
      (best.0, subst (λ (s : Scene). Satisfies s.problem best.0) (sym m.scene) best.1.0)

  pub removed_is : (q : Problem) → ((p : Problem) → IsMoved mid [] mid.problem.rows p → q ≡ without what p) → q ≡ with_removed l what
  removed_is q h = h (stood l) (still_moved c mid v past l m)

  pub removed_path : (budget : ℕ) (last : List Mark) → ((p : Problem) → IsMoved mid [] mid.problem.rows p → HasRemoved p mid.marks what budget last) → HasRemoved (stood l) l.corner what budget last
  removed_path budget last run =
      subst (λ (ms : List Mark). HasRemoved (stood l) ms what budget last) (there_marks c mid v past l m) (run (stood l) (still_moved c mid v past l m))

  pub removed_stop : (budget : ℕ) (stop : RequestStop) → ((p : Problem) → IsMoved mid [] mid.problem.rows p → IsRemoveStop p mid.marks what budget stop) → IsRemoveStop (stood l) l.corner what budget stop
  removed_stop budget stop h = subst (λ (ms : List Mark). IsRemoveStop (stood l) ms what budget stop) (there_marks c mid v past l m) (h (stood l) (still_moved c mid v past l m))

  pub removed_solved : (end : CornerView) → end.before ≡ mid.before → (w : List (ℕ × Fraction)) (rest : HaveValues end.before) → ((p : Problem) → IsMoved mid [] mid.problem.rows p → end.problem ≡ without what p) → IsBestEnd end.problem end.marks → end.candidates ≡ []
      → IsKeptCorner end.problem end.marks → ∥ AreItsValues (scene_of end) w ∥₁ → IsSolved end w rest
  removed_solved end before w rest _ best listed kept h =
      let values = these_values end kept.corner w h in
      solved_end end w rest kept best values
      (changed_kept c mid v past l m end before rest) listed
