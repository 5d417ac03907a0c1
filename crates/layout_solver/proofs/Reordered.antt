-- A corner whose stays stand at its values and come in another order, and the answers of a run from there.
use Rattle.std.proofs.Common.{◌≡◌, ◌∙◌, ℕ, false, List, [], pos, ◌≤ℤ◌, get_or, refl, sym, ap, subst, All, append-nil}
use Rattle.std.proofs.lemmas.List.Elements.{recursion_from_All}
use Rattle.problem_core.specs.declared.parts.Mark.{Mark}
use Rattle.problem_core.specs.declared.parts.RowName.TheVariants.{Held}
use Rattle.problem_core.specs.Layout.{Assignment, HasStay, Problem, Row, Satisfies, error, line_of_row, lines}
use Rattle.problem_core.specs.Kept.{IsWhole}
use Rattle.problem_core.specs.Corners.{IsIn, NoNegativeValue, Point, SameMarks, StandsAt, marks_of, place}
use Rattle.problem_core.proofs.Refutations.{refutation-IsInConflict}
use Rattle.problem_core.proofs.Wholes.{whole-IsProblem}
use Rattle.cert_core.specs.Claims.{times_of}
use Rattle.cert_core.specs.Stops.{IsStopOf}
use Rattle.cert_core.specs.declared.stops.RunStop.{RunStop}
use Rattle.cert_core.specs.declared.stops.RunStop.TheVariants.{Conflict, Unfit, Spent, OutOfMemory}
use Rattle.corner_laws.proofs.WrittenValues.{contains_each}
use Rattle.stay_orders.specs.Orders.{fronted}
use Rattle.stay_orders.proofs.Corners.{stands}
use Rattle.corner_view.specs.Seen.{CornerView, IsKeptCorner}
use Rattle.corner_view.specs.AddStops.{FromAdded}
use Rattle.corner_view.specs.Changes.{HasStood}
use Rattle.corner_ends.specs.Runs.{FromHere, HasRunBetween}
use Rattle.layout_solver.specs.Keeping.{NoConflict}
use Rattle.layout_solver.specs.Starts.{HasAdded, IsMoved}
use Rattle.layout_solver.proofs.BestValues.{same-stays}
use Rattle.layout_solver.proofs.Removals.LeftChanges.{stood_up}
use Rattle.layout_solver.proofs.Shifts.Alterations.{stood_problem}
use Rattle.layout_solver.proofs.Starts.Beginnings.{run_added, stop_added}
use Rattle.layout_solver.proofs.Starts.MovedProblems.{one_problem}

-- ---- the same marks in another order

module _ (p : Problem) (old new : List Mark) (same : SameMarks new old) (x : Point) where
  inside-too : (c : ℕ) → IsIn c old → IsIn c new
  inside-too c is = contains_each (λ n. IsIn n new) old c (recursion_from_All (λ m. IsIn (place m) new) old same.1) is

  stands_too : StandsAt p old x → StandsAt p new x
  stands_too h = (h.0, λ k d within out. h.1 k d within (λ is. out (inside-too (place (get_or (marks_of (lines p)) k d)) is)))

  up_too : All (λ m. pos 0 ≤ℤ x.num (place m)) old → All (λ m. pos 0 ≤ℤ x.num (place m)) new
  up_too h = λ k d within. contains_each (λ c. pos 0 ≤ℤ x.num c) old (place (get_or new k d)) (recursion_from_All (λ m. pos 0 ≤ℤ x.num (place m)) old h) (same.0 k d within)

-- ---- the stays are of the same attributes

pub stood_held : (from mid : CornerView) (attrs : List ℕ) → HasStood from mid → All (HasStay from.problem.stays) attrs → All (HasStay mid.problem.stays) attrs
stood_held from mid attrs has held = λ k d within. same-stays from.problem.stays mid.problem.stays (get_or attrs k d) (sym has.attrs) (held k d within)

-- ---- required rows that have a solution are in no conflict

pub satisfied_free : (p : Problem) (old : List Row) (Begins : List Row → List Mark → Type 0) (budget : ℕ) (x : Assignment) → IsWhole p → Satisfies p x → (stop : RunStop) → IsStopOf false p old Begins budget stop → NoConflict stop
satisfied_free p old Begins budget x whole satisfied (Conflict by) shown = refutation-IsInConflict p (whole-IsProblem p whole) (λ id. times_of by (Held id)) shown.refutes x satisfied
satisfied_free p old Begins budget x whole satisfied (Unfit at) h = tt
satisfied_free p old Begins budget x whole satisfied (Spent path) h = tt
satisfied_free p old Begins budget x whole satisfied OutOfMemory h = tt

-- ---- from a corner over one whose stays stand at its values to one whose stays come in another order

module _ (from mid here : CornerView) (attrs : List ℕ) (kept : IsKeptCorner from.problem from.marks) (has : HasStood from mid) (whole : IsWhole mid.problem) (marks : mid.marks ≡ from.marks) (problem : here.problem ≡ fronted attrs mid.problem) (same : SameMarks here.marks mid.marks) where
  pub one_order : (p : Problem) → IsMoved from [] from.problem.rows p → here.problem ≡ fronted attrs p
  one_order p m = problem ∙ ap (fronted attrs) (one_problem from [] from.problem.rows mid.problem p kept.corner (stood_problem from mid [] kept.corner has whole marks) m)

  pub order_values : NoNegativeValue from.problem from.marks → NoNegativeValue here.problem here.marks
  order_values up =
      let h : NoNegativeValue mid.problem mid.marks = stood_up from mid kept.corner has whole marks kept up in
      subst (λ (q : Problem). NoNegativeValue q here.marks) (sym problem)
      (h.0, stands_too (fronted attrs mid.problem) mid.marks here.marks same h.0 ((stands attrs mid.problem mid.marks h.0).to h.1), up_too (fronted attrs mid.problem) mid.marks here.marks same h.0 h.2)

  pub order_satisfied : (x : Assignment) → Satisfies from.problem x → Satisfies here.problem x
  order_satisfied x h = subst (All (λ r. r.rank ≡ 1000 → error x (line_of_row r) ≡ 0)) (sym (ap (λ (q : Problem). q.rows) problem ∙ has.rows)) h

  module _ (there : IsKeptCorner here.problem here.marks) where
    from-there : FromAdded here.problem from.marks [] [] here.marks
    from-there = (
      [],
      refl,
      record {
        news = [];
        marks = subst (SameMarks here.marks) (marks ∙ sym (append-nil from.marks)) same;
        point = there.corner.point;
        stands = there.corner.stands;
        each = tt;
      },
      there.ordered,
    )

    pub order_path : (budget : ℕ) (last : List Mark) → HasRunBetween false here.problem here.marks budget last → (p : Problem) → IsMoved from [] from.problem.rows p → HasAdded (fronted attrs p) from.marks [] budget last
    order_path budget last run p m =
        subst (λ (q : Problem). HasAdded q from.marks [] budget last) (one_order p m)
        (run_added here.problem from.marks here.marks last [] budget from-there run)

    pub order_stop : (budget : ℕ) (stop : RunStop) → IsStopOf false here.problem here.problem.rows (FromHere here.marks) budget stop
        → (p : Problem) → IsMoved from [] from.problem.rows p → IsStopOf false (fronted attrs p) from.problem.rows (FromAdded (fronted attrs p) from.marks []) budget stop
    order_stop budget stop h p m =
        subst (λ (q : Problem). IsStopOf false q from.problem.rows (FromAdded q from.marks []) budget stop) (one_order p m)
        (stop_added here.problem from.problem.rows from.marks here.marks [] budget stop from-there h)
