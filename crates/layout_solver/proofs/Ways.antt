-- What the way of each request comes to, from a corner that has just been marked.
use Rattle.std.proofs.Common.{◌≡◌, ◌∙◌, ℕ, true, false, List, [], ◌++◌, map, sym, ap, ap₂, subst, IfOk, IfErr, Ok, Err}
use Rattle.std.specs.declared.result.Result.{Result}
use Rattle.std.specs.Global.{Vec}
use Rattle.problem_core.specs.declared.parts.Mark.{Mark}
use Rattle.problem_core.specs.Layout.{Assignment, Problem, Row, Satisfies}
use Rattle.problem_core.specs.Kept.{IsWhole}
use Rattle.problem_core.specs.Corners.{NoNegativeValue}
use Rattle.cert_core.specs.Paths.{Path}
use Rattle.cert_core.specs.Stops.{IsStopOf}
use Rattle.cert_core.specs.declared.stops.RunStop.{RunStop}
use Rattle.stay_orders.specs.Orders.{fronted}
use Rattle.corner_view.specs.Seen.{CornerView, IsKeptCorner}
use Rattle.corner_view.specs.AddStops.{FromAdded}
use Rattle.corner_view.specs.Changes.{HasStood}
use Rattle.corner_ends.specs.Runs.{FromHere, HasEnded, IsBestEnd, IsRun}
use Rattle.layout_solver.specs.declared.engine.Change.{Change}
use Rattle.layout_solver.specs.declared.request.Request.{Request}
use Rattle.layout_solver.specs.declared.request.Request.TheVariants.{Add, Shift, Remove, Keep, Stand}
use Rattle.layout_solver.specs.declared.request.RequestStop.{RequestStop}
use Rattle.layout_solver.specs.Engines.{IsLayoutAt, IsMarkedAs}
use Rattle.layout_solver.specs.Keeping.{NoConflict, with_kept}
use Rattle.layout_solver.specs.Layouts.{Layout, with_added}
use Rattle.layout_solver.specs.Removals.{HasRemoved, IsRemoveStop, Leaving, stood, with_removed, without}
use Rattle.layout_solver.specs.Requests.{CanSolve, IsRequestStop, IsSolvedBy, posed_by, run_of, still_of}
use Rattle.layout_solver.specs.Shifts.{shifted, with_shifts}
use Rattle.layout_solver.specs.Starts.{CanTake, HasAdded, IsMoved, attrs_of}
use Rattle.layout_solver.proofs.Changes.{changed_path, marked_is, marked_room, marked_values, marked_whole, refused_stop, shifted_is, shifted_path, shifted_stop}
use Rattle.layout_solver.proofs.KeptOrders.{kept_is, kept_path, kept_stop, kept_values}
use Rattle.layout_solver.proofs.Removals.LeftChanges.{marked_satisfied, removed_is, removed_path, removed_stop}
use Rattle.layout_solver.proofs.Standing.{stood-end, stood_is, stood_marks, stood_values}

-- ---- a run, ns the end of a request

pub ended_ok : {A : Type 0} (run : Result A RunStop) (end : Result A RequestStop) (P Q : Type 0) → IfOk end (λ u. run ≡ Ok u) → (P → Q) → IfOk run (λ _. P) → IfOk end (λ _. Q)
ended_ok run (Ok u) P Q same turn h = turn (subst (λ r. IfOk r (λ _. P)) same h)
ended_ok run (Err e) P Q same turn h = tt

pub ended_err : {A : Type 0} (run : Result A RunStop) (end : Result A RequestStop) (P : RunStop → Type 0) (Q : RequestStop → Type 0) → IfErr end (λ s. (still_of s ≡ []) × (run ≡ Err (run_of s)))
    → ((s : RequestStop) → still_of s ≡ [] → P (run_of s) → Q s) → IfErr run P → IfErr end Q
ended_err run (Ok u) P Q same turn h = tt
ended_err run (Err s) P Q same turn h = turn s same.0 (subst (λ r. IfErr r P) same.1 h)

pub ok-all : {A E : Type 0} (run : Result A E) (P Q R : Type 0) → IfOk run (λ _. P) → IfOk run (λ _. Q) → IfOk run (λ _. R) → IfOk run (λ _. P × Q × R)
ok-all (Ok u) P Q R p q r = (p, q, r)
ok-all (Err e) P Q R p q r = tt

pub err-both : {A E : Type 0} (run : Result A E) (P Q : E → Type 0) → IfErr run P → IfErr run Q → IfErr run (λ e. P e × Q e)
err-both (Ok u) P Q p q = tt
err-both (Err e) P Q p q = (p, q)

-- ---- where it begins

module _ (mid : CornerView) (l : Layout) (h : IsMarkedAs mid l) where
  pub way_values : NoNegativeValue mid.problem mid.marks
  way_values = marked_values h.from mid h.values h.past l h.is

  pub way_satisfied : (x : Assignment) × Satisfies mid.problem x
  way_satisfied = marked_satisfied h.from mid h.values h.past l h.is (record { rows = []; attrs = [] })

-- ---- attributes and rows join

module _ (mid : CornerView) (r : Request) (attrs : Vec ℕ) (rows : Vec Row) (is : r ≡ Add attrs rows) (ns : List ℕ) (rs : List Row) (at : ns ≡ attrs.items) (are : rs ≡ rows.items) where
  add-is : (l : Layout) → with_added l ns rs ≡ posed_by l r
  add-is l = ap₂ (with_added l) at are ∙ sym (ap (posed_by l) is)

  add-can : (l : Layout) → CanSolve l r → IsWhole (with_added l ns rs)
  add-can l can = subst IsWhole (sym (ap₂ (with_added l) at are)) (subst (CanSolve l) is can)

  pub add_room : (l : Layout) → IsMarkedAs mid l → CanSolve l r → CanTake (attrs_of mid.problem) ns
  add_room l h can = marked_room h.from mid h.values h.past l h.is ns rs (add-can l can)

  pub add_whole : (l : Layout) → IsMarkedAs mid l → CanSolve l r → (p : Problem) → IsMoved mid ns (mid.problem.rows ++ rs) p → IsWhole p
  add_whole l h can = marked_whole h.from mid h.values h.past l h.is ns rs (add-can l can)

  pub add_problem : (q : Problem) → IsMoved mid ns (mid.problem.rows ++ rs) q → (l : Layout) → IsMarkedAs mid l → q ≡ posed_by l r
  add_problem q m l h = marked_is h.from mid h.values h.past l h.is ns rs q m ∙ add-is l

  pub add_solved : (budget : ℕ) (last : List Mark) → ((p : Problem) → IsMoved mid ns (mid.problem.rows ++ rs) p → HasAdded p mid.marks rs budget last)
      → (l new : Layout) → IsMarkedAs mid l → new.corner ≡ last → IsSolvedBy l r budget new
  add_solved budget last run l new h end =
      subst (λ (q : Request). IsSolvedBy l q budget new) (sym is)
      (subst (λ (ms : List Mark). HasAdded (with_added l attrs.items rows.items) l.corner rows.items budget ms) (sym end)
      (subst (λ (ms : List ℕ). HasAdded (with_added l ms rows.items) l.corner rows.items budget last) at
      (subst (λ (qs : List Row). HasAdded (with_added l ns qs) l.corner qs budget last) are
      (changed_path h.from mid h.values h.past l h.is ns rs budget last run))))

  pub add_stop : (budget : ℕ) (stop : RequestStop) → still_of stop ≡ []
      → ((p : Problem) → IsMoved mid ns (mid.problem.rows ++ rs) p → IsStopOf false p mid.problem.rows (FromAdded p mid.marks rs) budget (run_of stop))
      → (l : Layout) → IsMarkedAs mid l → IsRequestStop l r budget stop
  add_stop budget stop still told l h =
      subst (λ (q : Request). IsRequestStop l q budget stop) (sym is) (
        still,
        subst (λ (ms : List ℕ). IsStopOf false (with_added l ms rows.items) l.problem.rows (FromAdded (with_added l ms rows.items) l.corner rows.items) budget (run_of stop)) at
            (subst (λ (qs : List Row). IsStopOf false (with_added l ns qs) l.problem.rows (FromAdded (with_added l ns qs) l.corner qs) budget (run_of stop)) are
            (refused_stop h.from mid h.values h.past l h.is ns rs budget (run_of stop) told)),
      )

-- ---- rows get other constants

module _ (mid : CornerView) (r : Request) (to : Vec Change) (is : r ≡ Shift to) (ts : List Change) (are : ts ≡ to.items) where
  pub shift_problem : (q : Problem) → IsMoved mid [] (shifted ts mid.problem.rows) q → (l : Layout) → IsMarkedAs mid l → q ≡ posed_by l r
  shift_problem q m l h = shifted_is h.from mid h.values h.past l h.is ts q m ∙ ap (with_shifts l) are ∙ sym (ap (posed_by l) is)

  pub shift_solved : (budget : ℕ) (last : List Mark)
      → ((p : Problem) → IsMoved mid [] (shifted ts mid.problem.rows) p → (path : Path) × IsRun true p (FromHere mid.marks []) budget last path)
      → (l new : Layout) → IsMarkedAs mid l → new.corner ≡ last → IsSolvedBy l r budget new
  shift_solved budget last run l new h end =
      subst (λ (q : Request). IsSolvedBy l q budget new) (sym is)
      (subst (λ (ms : List Mark). (path : Path) × IsRun true (with_shifts l to.items) (FromHere l.corner []) budget ms path) (sym end)
      (subst (λ (us : List Change). (path : Path) × IsRun true (with_shifts l us) (FromHere l.corner []) budget last path) are
      (shifted_path h.from mid h.values h.past l h.is ts budget last run)))

  pub shift_stop : (budget : ℕ) (stop : RequestStop) → still_of stop ≡ []
      → ((p : Problem) → IsMoved mid [] (shifted ts mid.problem.rows) p → IsStopOf true p mid.problem.rows (FromHere mid.marks) budget (run_of stop))
      → (l : Layout) → IsMarkedAs mid l → IsRequestStop l r budget stop
  shift_stop budget stop still told l h =
      subst (λ (q : Request). IsRequestStop l q budget stop) (sym is) (
        still,
        subst (λ (us : List Change). IsStopOf true (with_shifts l us) l.problem.rows (FromHere l.corner) budget (run_of stop)) are
            (shifted_stop h.from mid h.values h.past l h.is ts budget (run_of stop) told),
      )

-- ---- rows and attributes leave

abbrev pub leaving : List ℕ → List ℕ → Leaving
leaving rows attrs = record { rows = rows; attrs = attrs }

module _ (mid : CornerView) (r : Request) (rows attrs : Vec ℕ) (is : r ≡ Remove rows attrs) (what : Leaving) (are : what ≡ record { rows = rows.items; attrs = attrs.items }) where
  pub remove_problem : (q : Problem) → ((p : Problem) → IsMoved mid [] mid.problem.rows p → q ≡ without what p) → (l : Layout) → IsMarkedAs mid l → q ≡ posed_by l r
  remove_problem q told l h = removed_is h.from mid h.values h.past l h.is what q told ∙ ap (with_removed l) are ∙ sym (ap (posed_by l) is)

  pub remove_solved : (budget : ℕ) (last : List Mark) → ((p : Problem) → IsMoved mid [] mid.problem.rows p → HasRemoved p mid.marks what budget last)
      → (l new : Layout) → IsMarkedAs mid l → new.corner ≡ last → IsSolvedBy l r budget new
  remove_solved budget last run l new h end =
      subst (λ (q : Request). IsSolvedBy l q budget new) (sym is)
      (subst (λ (ms : List Mark). HasRemoved (stood l) l.corner (record { rows = rows.items; attrs = attrs.items }) budget ms) (sym end)
      (subst (λ (w : Leaving). HasRemoved (stood l) l.corner w budget last) are
      (removed_path h.from mid h.values h.past l h.is what budget last run)))

  pub remove_stop : (budget : ℕ) (stop : RequestStop) → ((p : Problem) → IsMoved mid [] mid.problem.rows p → IsRemoveStop p mid.marks what budget stop)
      → (l : Layout) → IsMarkedAs mid l → IsRequestStop l r budget stop
  remove_stop budget stop told l h =
      subst (λ (q : Request). IsRequestStop l q budget stop) (sym is)
      (subst (λ (w : Leaving). IsRemoveStop (stood l) l.corner w budget stop) are
      (removed_stop h.from mid h.values h.past l h.is what budget stop told))

-- ---- stays come first

module _ (mid : CornerView) (r : Request) (attrs : Vec ℕ) (is : r ≡ Keep attrs) (ns : List ℕ) (are : ns ≡ attrs.items) where
  pub keep_problem : (q : Problem) → ((p : Problem) → IsMoved mid [] mid.problem.rows p → q ≡ fronted ns p) → (l : Layout) → IsMarkedAs mid l → q ≡ posed_by l r
  keep_problem q told l h = kept_is h.from mid h.values h.past l h.is ns q told ∙ ap (with_kept l) are ∙ sym (ap (posed_by l) is)

  pub keep_solved : (budget : ℕ) (end : CornerView) → end.before ≡ mid.before → ((p : Problem) → IsMoved mid [] mid.problem.rows p → end.problem ≡ fronted ns p) → IsBestEnd end.problem end.marks
      → ((p : Problem) → IsMoved mid [] mid.problem.rows p → HasAdded (fronted ns p) mid.marks [] budget end.marks)
      → (l new : Layout) → IsMarkedAs mid l → IsLayoutAt end new → IsSolvedBy l r budget new
  keep_solved budget end before told best run l new h at =
      subst (λ (q : Request). IsSolvedBy l q budget new) (sym is) (
        subst (λ (p : Problem). new.values ≡ map (λ s. (s.attr, s.target)) p.stays) (sym at.problem) (kept_values h.from mid h.values h.past l h.is ns end before new.values at.values at.kept best told),
        subst (λ (ms : List Mark). HasAdded (with_kept l attrs.items) l.corner [] budget ms) (sym at.corner)
            (subst (λ (ms : List ℕ). HasAdded (with_kept l ms) l.corner [] budget end.marks) are
            (kept_path h.from mid h.values h.past l h.is ns budget end.marks run)),
      )

  pub keep_stop : (budget : ℕ) (stop : RequestStop) → still_of stop ≡ [] → NoConflict (run_of stop)
      → ((p : Problem) → IsMoved mid [] mid.problem.rows p → IsStopOf false (fronted ns p) mid.problem.rows (FromAdded (fronted ns p) mid.marks []) budget (run_of stop))
      → (l : Layout) → IsMarkedAs mid l → IsRequestStop l r budget stop
  keep_stop budget stop still free told l h =
      subst (λ (q : Request). IsRequestStop l q budget stop) (sym is) (
        still,
        free,
        subst (λ (ms : List ℕ). IsStopOf false (with_kept l ms) l.problem.rows (FromAdded (with_kept l ms) l.corner []) budget (run_of stop)) are
            (kept_stop h.from mid h.values h.past l h.is ns budget (run_of stop) told),
      )

-- ---- nothing else changes

module _ (mid : CornerView) (r : Request) (is : r ≡ Stand) (end : CornerView) (has : HasStood mid end) (marks : end.marks ≡ mid.marks) (kept : IsKeptCorner end.problem end.marks) where
  pub stand_end : (l : Layout) → IsMarkedAs mid l → end.candidates ≡ mid.candidates → HasEnded end
  stand_end l h same = record { end = stood-end h.from mid h.values h.past l h.is end has marks kept; listed = same ∙ h.listed }

  pub stand_problem : (l : Layout) → IsMarkedAs mid l → end.problem ≡ posed_by l r
  stand_problem l h = stood_is h.from mid h.values h.past l h.is end has marks kept ∙ sym (ap (posed_by l) is)

  pub stand_solved : (budget : ℕ) (l new : Layout) → IsMarkedAs mid l → IsLayoutAt end new → IsSolvedBy l r budget new
  stand_solved budget l new h at =
      subst (λ (q : Request). IsSolvedBy l q budget new) (sym is) (
        stood_values h.from mid h.values h.past l h.is end has marks kept new.values at.values,
        at.corner ∙ stood_marks h.from mid h.values h.past l h.is end has marks kept,
      )
