-- An engine's corner from its mark to where some stays come first.
use Rattle.std.proofs.Common.{◌≡◌, ◌∙◌, ℕ, false, List, [], map, sym, ap, subst, All, Contains}
use Rattle.std.proofs.lemmas.List.Elements.{All-contains_itself, All-from_recursion, recursion_from_All}
use Rattle.frac_core.specs.Fraction.{Fraction}
use Rattle.frac_core.proofs.Lists.{each-onto_map}
use Rattle.problem_core.specs.declared.parts.Mark.{Mark}
use Rattle.problem_core.specs.declared.parts.Stay.{Stay}
use Rattle.problem_core.specs.Layout.{HasStay, Problem, Row}
use Rattle.cert_core.specs.Stops.{IsStopOf}
use Rattle.cert_core.specs.declared.stops.RunStop.{RunStop}
use Rattle.stay_orders.specs.Orders.{fronted, with_front}
use Rattle.stay_orders.proofs.Orders.{front_each}
use Rattle.corner_view.specs.Seen.{CornerView, IsKeptCorner, Scene}
use Rattle.corner_view.specs.AddStops.{FromAdded}
use Rattle.corner_view.specs.Changes.{scene_of}
use Rattle.corner_ends.specs.Runs.{IsBestEnd}
use Rattle.layout_solver.specs.Layouts.{Layout, stays_at}
use Rattle.layout_solver.specs.Engines.{AreItsValues, HaveValues, IsMarked, IsSolved}
use Rattle.layout_solver.specs.Keeping.{with_kept}
use Rattle.layout_solver.specs.Removals.{stood}
use Rattle.layout_solver.specs.Starts.{HasAdded, IsMoved}
use Rattle.layout_solver.proofs.AtTargets.{best_at_targets}
use Rattle.layout_solver.proofs.Changes.{changed_kept, still_moved, there_marks}
use Rattle.layout_solver.proofs.Solved.{solved_end, these_values}
use Rattle.layout_solver.proofs.Values.{best_there}

-- stays at values, in another order
pub front_at : (attrs : List ℕ) (values : List (ℕ × Fraction)) → All (λ s. Contains values (s.attr, s.target)) (with_front attrs (stays_at values))
front_at attrs values =
    All-from_recursion (λ (s : Stay). Contains values (s.attr, s.target)) (with_front attrs (stays_at values))
    (front_each (λ (s : Stay). Contains values (s.attr, s.target)) attrs (stays_at values)
    (each-onto_map (λ (s : Stay). Contains values (s.attr, s.target)) (λ (v : ℕ × Fraction). record { attr = v.0; target = v.1 }) values
    (recursion_from_All (Contains values) values (All-contains_itself values))))

module _ (c mid : CornerView) (v : List (ℕ × Fraction)) (past : HaveValues c.before) (l : Layout) (m : IsMarked c mid v past l) (attrs : List ℕ) where
  same-problem : mid.problem ≡ l.problem
  same-problem = ap (λ (s : Scene). s.problem) m.scene ∙ ap (λ (k : Layout). k.problem) m.view

  pub kept_stays : All (HasStay l.problem.stays) attrs → All (HasStay mid.problem.stays) attrs
  kept_stays held = subst (λ (p : Problem). All (HasStay p.stays) attrs) (sym same-problem) held

  pub kept_is : (q : Problem) → ((p : Problem) → IsMoved mid [] mid.problem.rows p → q ≡ fronted attrs p) → q ≡ with_kept l attrs
  kept_is q h = h (stood l) (still_moved c mid v past l m)

  pub kept_path : (budget : ℕ) (last : List Mark) → ((p : Problem) → IsMoved mid [] mid.problem.rows p → HasAdded (fronted attrs p) mid.marks [] budget last) → HasAdded (with_kept l attrs) l.corner [] budget last
  kept_path budget last run =
      subst (λ (ms : List Mark). HasAdded (with_kept l attrs) ms [] budget last) (there_marks c mid v past l m) (run (stood l) (still_moved c mid v past l m))

  pub kept_stop : (budget : ℕ) (stop : RunStop)
      → ((p : Problem) → IsMoved mid [] mid.problem.rows p → IsStopOf false (fronted attrs p) mid.problem.rows (FromAdded (fronted attrs p) mid.marks []) budget stop)
      → IsStopOf false (with_kept l attrs) l.problem.rows (FromAdded (with_kept l attrs) l.corner []) budget stop
  kept_stop budget stop h =
      subst (λ (rs : List Row). IsStopOf false (with_kept l attrs) rs (FromAdded (with_kept l attrs) l.corner []) budget stop) (ap (λ (p : Problem). p.rows) same-problem)
      (subst (λ (ms : List Mark). IsStopOf false (with_kept l attrs) mid.problem.rows (FromAdded (with_kept l attrs) ms []) budget stop) (there_marks c mid v past l m)
      (h (stood l) (still_moved c mid v past l m)))

  -- ---- the new order is kept

  module _ (end : CornerView) (before : end.before ≡ mid.before) (w : List (ℕ × Fraction)) (h : ∥ AreItsValues (scene_of end) w ∥₁) (kept : IsKeptCorner end.problem end.marks) (best : IsBestEnd end.problem end.marks) where
    pub kept_solved : (rest : HaveValues end.before) → end.candidates ≡ [] → IsSolved end w rest
    kept_solved rest listed =
        solved_end end w rest kept best (these_values end kept.corner w h) (changed_kept c mid v past l m end before rest) listed

    -- the values are those at which the stays stand
    pub kept_values : ((p : Problem) → IsMoved mid [] mid.problem.rows p → end.problem ≡ fronted attrs p) → w ≡ map (λ s. (s.attr, s.target)) end.problem.stays
    kept_values moved =
        let is : end.problem ≡ with_kept l attrs = kept_is end.problem moved in
        let rows : c.problem.rows ≡ end.problem.rows = ap (λ (k : Layout). k.problem.rows) m.view ∙ sym (ap (λ (p : Problem). p.rows) is) in
        let values : l.values ≡ v = sym (ap (λ (k : Layout). k.values) m.view) in
        best_at_targets c.problem end.problem v m.solved.kept.corner.whole kept.whole rows m.solved.kept.best
        (subst (λ (vs : List (ℕ × Fraction)). All (λ s. Contains vs (s.attr, s.target)) end.problem.stays) values
        (subst (λ (p : Problem). All (λ s. Contains l.values (s.attr, s.target)) p.stays) (sym is) (front_at attrs l.values)))
        w (best_there end w (these_values end kept.corner w h) kept.whole best)
