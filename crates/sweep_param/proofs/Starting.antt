-- The start's stops.
use Rattle.std.proofs.Common.{◌≡◌, ◌∙◌, ℕ, false, List, [], refl, sym, ap₂, subst}
use Rattle.frac_core.specs.Fraction.{Fraction}
use Rattle.problem_core.specs.declared.parts.RowName.TheVariants.{Held}
use Rattle.problem_core.specs.declared.parts.Stay.{Stay}
use Rattle.problem_core.specs.Layout.{Problem, Row}
use Rattle.problem_core.specs.Kept.{IsWhole}
use Rattle.problem_core.proofs.Refutations.{refutation-IsInConflict}
use Rattle.problem_core.proofs.Wholes.{whole-IsProblem}
use Rattle.cert_core.specs.Claims.{times_of}
use Rattle.cert_core.specs.Stops.{IsStopOf}
use Rattle.cert_core.specs.declared.stops.RunStop.{RunStop}
use Rattle.cert_core.specs.declared.stops.RunStop.TheVariants.{Conflict, Unfit, Spent, OutOfMemory}
use Rattle.corner_view.specs.AddStops.{FromAdded}
use Rattle.corner_view.specs.Seen.{CornerView, in_order, IsKeptCorner}
use Rattle.corner_ends.specs.Runs.{HasEnded, IsBestEnd}
use Rattle.corner_ends.specs.Trails.{IsNoConflict}
use Rattle.layout_solver.specs.Starts.{HasAdded, as_problem}
use Rattle.sweep_run.specs.Slides.{run_stop}
use Rattle.sweep_param.specs.Sweeps.{HasSolution, IsStarted, IsStartStop}

pub no_conflict : (p : Problem) (budget : ℕ) (stop : RunStop) → IsWhole p → HasSolution p → IsStopOf false p [] (FromAdded p [] p.rows) budget stop → IsNoConflict stop
no_conflict p budget (Conflict by) whole (x, satisfied) h = absurd (refutation-IsInConflict p (whole-IsProblem p whole) (λ id. times_of by (Held id)) h.refutes x satisfied)
no_conflict p budget (Unfit at) whole solvable h = tt
no_conflict p budget (Spent path) whole solvable h = tt
no_conflict p budget OutOfMemory whole solvable h = tt

pub start_stop : (p : Problem) (present : Fraction) (budget : ℕ) (stop : RunStop) → IsStopOf false p [] (FromAdded p [] p.rows) budget stop → IsStartStop p present budget (run_stop present stop)
start_stop p present budget (Conflict by) h = tt
start_stop p present budget (Unfit at) h = (refl, h)
start_stop p present budget (Spent path) h = (refl, h)
start_stop p present budget OutOfMemory h = tt

-- the parts of the problem are the problem
pub parts_whole : (p : Problem) (rows : List Row) (stays : List Stay) → rows ≡ p.rows → stays ≡ p.stays → IsWhole p → IsWhole (as_problem rows stays)
parts_whole p rows stays e f whole = subst (λ (ss : List Stay). IsWhole (as_problem rows ss)) (sym f) (subst (λ (rs : List Row). IsWhole (as_problem rs p.stays)) (sym e) whole)

pub parts_stop : (p : Problem) (rows : List Row) (stays : List Stay) (budget : ℕ) (stop : RunStop) → rows ≡ p.rows → stays ≡ p.stays → IsStopOf false (as_problem rows stays) [] (FromAdded (as_problem rows stays) [] rows) budget stop → IsStopOf false p [] (FromAdded p [] p.rows) budget stop
parts_stop p rows stays budget stop e f h =
    subst (λ (ss : List Stay). IsStopOf false (as_problem p.rows ss) [] (FromAdded (as_problem p.rows ss) [] p.rows) budget stop) f
    (subst (λ (rs : List Row). IsStopOf false (as_problem rs stays) [] (FromAdded (as_problem rs stays) [] rs) budget stop) e h)

pub parts_started : (p : Problem) (rows : List Row) (stays : List Stay) (budget : ℕ) (c : CornerView) → rows ≡ p.rows → stays ≡ p.stays → c.problem ≡ as_problem rows stays → IsKeptCorner c.problem c.marks → HasEnded c → HasAdded (as_problem rows stays) [] rows budget c.marks → IsStarted p budget c.marks
parts_started p rows stays budget c e f is corner ended h =
    let same : c.problem ≡ p = is ∙ ap₂ as_problem e f in
    let run : HasAdded p [] p.rows budget c.marks =
    subst (λ (ss : List Stay). HasAdded (as_problem p.rows ss) [] p.rows budget c.marks) f
    (subst (λ (rs : List Row). HasAdded (as_problem rs stays) [] rs budget c.marks) e h) in
    record {
      best = subst (λ (q : Problem). IsBestEnd q c.marks) same ended.end;
      ordered = subst (λ (q : Problem). c.marks ≡ in_order q c.marks) same corner.ordered;
      path = run.0;
      run_is = run.1;
    }
