-- What the engine's answer to a request comes to for a scene with its problem.
use Rattle.std.proofs.Common.{Bool, cond, nat_eq, All, ◌≡◌, ◌∙◌, ℕ, List, [], ◌∷◌, map, inl, inr, refl, sym, ap, subst, append-nil, true, false, Contains}
use Rattle.std.proofs.lemmas.List.Elements.{All-head, All-map, All-tail, All-weaker}
use Rattle.frac_core.specs.Fraction.{Fraction, IsKept}
use Rattle.problem_core.specs.Kept.{IsRow, IsWhole}
use Rattle.problem_core.specs.Unfit.{at_constant}
use Rattle.corner_lines.specs.Shifts.{has_constant}
use Rattle.layout_solver.specs.Shifts.{AreKept, shifted}
use Rattle.layout_solver.specs.declared.engine.Change.{Change}
use Rattle.layout_solver.proofs.Posed.Wholes.{kept_whole, removed_whole, shifts_whole}
use Rattle.problem_core.specs.declared.parts.Mark.{Mark}
use Rattle.problem_core.specs.declared.parts.Stay.{Stay}
use Rattle.problem_core.specs.Layout.{HasStay, Problem, Row}
use Rattle.problem_core.specs.Unfit.{without_constant}
use Rattle.cert_core.specs.Paths.{Path}
use Rattle.cert_core.specs.declared.stops.RunStop.{RunStop}
use Rattle.cert_core.specs.declared.stops.RunStop.TheVariants as run
use Rattle.layout_solver.specs.Begins.{IsRunTo, IsStopFrom, Start}
use Rattle.layout_solver.specs.Layouts.{IsKeptLayout, Layout, Solution}
use Rattle.layout_solver.specs.Removals.{CanLeave, HasRemoved, IsRemoveStop, Leaving, stood, without}
use Rattle.layout_solver.specs.Requests.{CanSolve, IsRequestStop, IsSolvedBy, posed_by, run_of, still_of}
use Rattle.layout_solver.specs.declared.request.Request.{Request}
use Rattle.layout_solver.specs.declared.request.Request.TheVariants as request
use Rattle.layout_solver.specs.declared.request.RequestStop.{RequestStop}
use Rattle.layout_solver.specs.declared.request.RequestStop.TheVariants as stop
use Rattle.layout_solver.proofs.Shifts.Constants.{shifted-alike}
use Rattle.scenes.specs.Leaving.{stood_of}
use Rattle.scenes.specs.Scene.{AreDraftRows, Scene, draft_problem, moved}
use Rattle.scenes.specs.Steps.{IsLeaving, IsStart, IsStopped, LeaveStopsAt, RunStopsAt, StopsRunning}
use Rattle.scenes.specs.Stepping.{IsFree, IsRemoval, NeedsRun}
use Rattle.scenes.proofs.Engines.Wholes.{among-stays}
use Rattle.scenes.proofs.Views.Places.{stay-of}

-- ---- earlier layouts are no matter

-- the layout with these earlier ones
abbrev behind : Layout → List Solution → Layout
behind l earlier = record { problem = l.problem; values = l.values; corner = l.corner; earlier = earlier }

pub can-behind : (l : Layout) (earlier : List Solution) (r : Request) → CanSolve (behind l earlier) r → CanSolve l r
can-behind l earlier (request.Add attrs rows) can = can
can-behind l earlier (request.Shift to) can = can
can-behind l earlier (request.Remove rows attrs) can = can
can-behind l earlier (request.Keep attrs) can = can
can-behind l earlier request.Stand can = can

pub posed-behind : (l : Layout) (earlier : List Solution) (r : Request) → posed_by (behind l earlier) r ≡ posed_by l r
posed-behind l earlier (request.Add attrs rows) = refl
posed-behind l earlier (request.Shift to) = refl
posed-behind l earlier (request.Remove rows attrs) = refl
posed-behind l earlier (request.Keep attrs) = refl
posed-behind l earlier request.Stand = refl

stop-behind : (l : Layout) (earlier : List Solution) (r : Request) (budget : ℕ) (s : RequestStop) → IsRequestStop l r budget s → IsRequestStop (behind l earlier) r budget s
stop-behind l earlier (request.Add attrs rows) budget s h = h
stop-behind l earlier (request.Shift to) budget s h = h
stop-behind l earlier (request.Remove rows attrs) budget s h = h
stop-behind l earlier (request.Keep attrs) budget s h = h
stop-behind l earlier request.Stand budget s h = h

pub free-behind : (l : Layout) (earlier : List Solution) (r : Request) → IsFree (behind l earlier) r → IsFree l r
free-behind l earlier r free budget s h = free budget s (stop-behind l earlier r budget s h)

-- ---- the problem that is posed is whole

constant-row : (n : ℕ) (f : Fraction) (r : Row) → IsKept f → IsRow r → IsRow (has_constant n f r)
constant-row n f r fits is = by (nat_eq r.id n)
  where
    by : (b : Bool) → IsRow (cond b (at_constant f r) r)
    by true = record {
      number = is.number;
      rank = is.rank;
      weight = is.weight;
      scale = is.scale;
      constant = fits;
      terms = is.terms;
      rising = is.rising;
      count = is.count;
    }
    by false = is

shifted-rows : (to : List Change) (rows : List Row) → AreKept to → All IsRow rows → All IsRow (shifted to rows)
shifted-rows [] rows fit each = each
shifted-rows (c ∷ to) rows fit each =
    shifted-rows to (map (has_constant c.row c.constant) rows) (All-tail (λ (t : Change). IsKept t.constant) c to fit)
    (All-map IsRow (has_constant c.row c.constant) rows
    (All-weaker IsRow (λ (r : Row). IsRow (has_constant c.row c.constant r)) (λ r is. constant-row c.row c.constant r (All-head (λ (t : Change). IsKept t.constant) c to fit) is) rows each))

pub posed-whole : (l : Layout) (r : Request) → IsKeptLayout l → CanSolve l r → IsWhole (posed_by l r)
posed-whole l (request.Add attrs rows) sound can = can
posed-whole l (request.Shift to) sound can = shifts_whole l sound to.items (shifted-rows to.items l.problem.rows can.kept sound.corner.whole.rows)
posed-whole l (request.Remove rows attrs) sound can = removed_whole l sound (record { rows = rows.items; attrs = attrs.items }) can
posed-whole l (request.Keep attrs) sound can = kept_whole l sound attrs.items
posed-whole l request.Stand sound can = shifts_whole l sound [] sound.corner.whole.rows

pub rows_is : (p q : Problem) → p ≡ q → p.rows ≡ q.rows
rows_is p q e = ap (λ (r : Problem). r.rows) e

pub stays_is : (p q : Problem) → p ≡ q → p.stays ≡ q.stays
stays_is p q e = ap (λ (r : Problem). r.stays) e

-- ---- where a run begins

-- where an engine begins that takes more rows
abbrev pub from_corner : Layout → List Row → Start
from_corner l rows = record { dual = false; before = l.problem.rows; joining = rows; kept = l.corner }

-- where one begins whose rows get other constants
abbrev pub from_shifts : Layout → Start
from_shifts l = record { dual = true; before = l.problem.rows; joining = []; kept = l.corner }

-- where one begins that is asked this
abbrev pub start_of : Layout → Request → Start
start_of l (request.Add attrs rows) = from_corner l rows.items
start_of l (request.Shift to) = from_shifts l
start_of l (request.Remove rows attrs) = from_corner l []
start_of l (request.Keep attrs) = from_corner l []
start_of l request.Stand = from_corner l []

module _ (scene : Scene) (l : Layout) (own_rows : l.problem.rows ≡ scene.rows) (own_corner : l.corner ≡ scene.corner) where
  pub begins : (r : Request) → NeedsRun r → (rows : List Row) → rows ≡ (posed_by l r).rows → IsStart scene rows (start_of l r)
  begins (request.Add attrs more) runs rows e = record { before = own_rows; kept = own_corner; kind = inl (record { primal = refl; parts = e }) }
  begins (request.Shift to) runs rows e = record { before = own_rows; kept = own_corner; kind = inr (record { dual = refl; none = refl; alike = ap (map without_constant) e ∙ shifted-alike to.items l.problem.rows }) }
  begins (request.Remove gone attrs) runs rows e = absurd runs
  begins (request.Keep attrs) runs rows e = record { before = own_rows; kept = own_corner; kind = inl (record { primal = refl; parts = e ∙ sym (append-nil l.problem.rows) }) }
  begins request.Stand runs rows e = absurd runs

-- the path leads from there
pub leads : (l new : Layout) (r : Request) (budget : ℕ) → NeedsRun r → new.problem ≡ posed_by l r → IsSolvedBy l r budget new → (path : Path) × IsRunTo (start_of l r) new.problem budget new.corner path
leads l new (request.Add attrs rows) budget runs done solved = (solved.0, subst (λ (p : Problem). IsRunTo (from_corner l rows.items) p budget new.corner solved.0) (sym done) solved.1)
leads l new (request.Shift to) budget runs done solved = (solved.0, subst (λ (p : Problem). IsRunTo (from_shifts l) p budget new.corner solved.0) (sym done) solved.1)
leads l new (request.Remove rows attrs) budget runs done solved = absurd runs
leads l new (request.Keep attrs) budget runs done solved = (solved.1.0, subst (λ (p : Problem). IsRunTo (from_corner l []) p budget new.corner solved.1.0) (sym done) solved.1.1)
leads l new request.Stand budget runs done solved = absurd runs

-- it stops there
halts : (l : Layout) (r : Request) (budget : ℕ) (s : RequestStop) → NeedsRun r → IsRequestStop l r budget s → (still_of s ≡ []) × IsStopFrom (start_of l r) (posed_by l r) budget (run_of s)
halts l (request.Add attrs rows) budget s runs h = h
halts l (request.Shift to) budget s runs h = h
halts l (request.Remove rows attrs) budget s runs h = absurd runs
halts l (request.Keep attrs) budget s runs (none, free, stops) = (none, stops)
halts l request.Stand budget s runs h = absurd runs

over-stops : (scene draft : Scene) (budget : ℕ) (s : RunStop) → IsStopped scene draft budget s → RunStopsAt scene draft budget s
over-stops scene draft budget (run.Conflict by) h = h
over-stops scene draft budget (run.Unfit at) h = h
over-stops scene draft budget (run.Spent path) h = h
over-stops scene draft budget run.OutOfMemory h = tt

module _ (scene draft : Scene) (l : Layout) (own_rows : l.problem.rows ≡ scene.rows) (own_corner : l.corner ≡ scene.corner)
    (r : Request) (are : AreDraftRows draft (posed_by l r).rows) (stays : (posed_by l r).stays ≡ draft.stays) where
  pub run-halts : (budget : ℕ) (s : RequestStop) → NeedsRun r → IsRequestStop l r budget s → StopsRunning scene draft budget s
  run-halts budget s runs h =
      let stops = halts l r budget s runs h in
      record {
        none = stops.0;
        stops = over-stops scene draft budget (run_of s) (record {
          rows = (posed_by l r).rows;
          are = are;
          start = start_of l r;
          begins = begins scene l own_rows own_corner r runs (posed_by l r).rows refl;
          stops = subst (λ (ss : List Stay). IsStopFrom (start_of l r) (record { rows = (posed_by l r).rows; stays = ss }) budget (run_of s)) stays stops.1;
        });
      }

-- ---- what leaves

-- the stays move, and keep their attributes
pub moved-attrs : (stays : List Stay) (values : List (ℕ × Fraction)) → map (λ s. s.attr) (moved stays values) ≡ map (λ s. s.attr) stays
moved-attrs [] values = refl
moved-attrs (s ∷ stays) values = ap (λ ns. s.attr ∷ ns) (moved-attrs stays values)

-- what leaves the layout's problem
abbrev pub leaving_in : Request → Leaving
leaving_in (request.Add attrs rows) = record { rows = []; attrs = [] }
leaving_in (request.Shift to) = record { rows = []; attrs = [] }
leaving_in (request.Remove rows attrs) = record { rows = rows.items; attrs = attrs.items }
leaving_in (request.Keep attrs) = record { rows = []; attrs = [] }
leaving_in request.Stand = record { rows = []; attrs = [] }

module _ (scene draft : Scene) (l : Layout) (stands : stood l ≡ stood_of scene) (own_rows : l.problem.rows ≡ scene.rows) (own_stays : l.problem.stays ≡ scene.stays) (own_corner : l.corner ≡ scene.corner) where
  can-stood : (leaving : Leaving) → CanLeave leaving l.problem → CanLeave leaving (stood_of scene)
  can-stood leaving can =
      subst (λ (rows : List Row). CanLeave leaving (record { rows = rows; stays = moved scene.stays scene.values })) own_rows
      (record {
        held = can.held;
        stays = All-weaker (HasStay l.problem.stays) (HasStay (moved scene.stays scene.values))
            (λ a has. stay-of (moved scene.stays scene.values) a
            (subst (λ (ns : List ℕ). Contains ns a) (sym (moved-attrs scene.stays scene.values ∙ ap (map (λ (s : Stay). s.attr)) (sym own_stays))) (among-stays l.problem.stays a has))) leaving.attrs can.stays;
        rows_apart = can.rows_apart;
        attrs_apart = can.attrs_apart;
        covered = can.covered;
      })

  pub leaves : (r : Request) → IsRemoval r → CanSolve l r → (rows : List Row) → draft_problem draft rows ≡ posed_by l r → IsLeaving scene draft rows (leaving_in r)
  leaves (request.Add attrs more) removes can rows e = absurd removes
  leaves (request.Shift to) removes can rows e = absurd removes
  leaves (request.Remove gone attrs) removes can rows e = record {
    can = can-stood (leaving_in (request.Remove gone attrs)) can;
    rising = removes;
    left = e ∙ ap (without (leaving_in (request.Remove gone attrs))) stands;
  }
  leaves (request.Keep attrs) removes can rows e = absurd removes
  leaves request.Stand removes can rows e = absurd removes

  pub removed : (r : Request) (new : Layout) (budget : ℕ) → IsRemoval r → IsSolvedBy l r budget new → HasRemoved (stood_of scene) scene.corner (leaving_in r) budget new.corner
  removed (request.Add attrs more) new budget removes solved = absurd removes
  removed (request.Shift to) new budget removes solved = absurd removes
  removed (request.Remove gone attrs) new budget removes solved =
      subst (λ (at : List Mark). HasRemoved (stood_of scene) at (leaving_in (request.Remove gone attrs)) budget new.corner) own_corner
      (subst (λ (p : Problem). HasRemoved p l.corner (leaving_in (request.Remove gone attrs)) budget new.corner) stands solved)
  removed (request.Keep attrs) new budget removes solved = absurd removes
  removed request.Stand new budget removes solved = absurd removes

  over-leaving : (budget : ℕ) (s : RequestStop) (rows : List Row) → AreDraftRows draft rows → (leaving : Leaving) → IsLeaving scene draft rows leaving → IsRemoveStop (stood_of scene) scene.corner leaving budget s → LeaveStopsAt scene draft budget s
  over-leaving budget (stop.Conflict by) rows are leaving leave stops = stops
  over-leaving budget (stop.Unfit still at) rows are leaving leave stops = record { rows = rows; are = are; leaving = leaving; leaves = leave; stops = stops }
  over-leaving budget (stop.Spent path) rows are leaving leave stops = record { rows = rows; are = are; leaving = leaving; leaves = leave; stops = stops }
  over-leaving budget stop.OutOfMemory rows are leaving leave stops = tt

  pub removal-halts : (r : Request) (budget : ℕ) (s : RequestStop) (rows : List Row) → AreDraftRows draft rows → IsRemoval r → CanSolve l r → draft_problem draft rows ≡ posed_by l r → IsRequestStop l r budget s → LeaveStopsAt scene draft budget s
  removal-halts (request.Add attrs more) budget s rows are removes can e h = absurd removes
  removal-halts (request.Shift to) budget s rows are removes can e h = absurd removes
  removal-halts (request.Remove gone attrs) budget s rows are removes can e h =
      over-leaving budget s rows are (leaving_in (request.Remove gone attrs)) (leaves (request.Remove gone attrs) removes can rows e)
      (subst (λ (at : List Mark). IsRemoveStop (stood_of scene) at (leaving_in (request.Remove gone attrs)) budget s) own_corner
      (subst (λ (p : Problem). IsRemoveStop p l.corner (leaving_in (request.Remove gone attrs)) budget s) stands h))
  removal-halts (request.Keep attrs) budget s rows are removes can e h = absurd removes
  removal-halts request.Stand budget s rows are removes can e h = absurd removes
