-- The problem whose stays have moved and whose constants have changed, and the answers of a run there.
use Rattle.std.proofs.Common.{◌≡◌, ◌∙◌, ℕ, true, List, [], map, pos, ◌<ℤ◌, ◌≤ℤ◌, Contains, refl, sym, ap, subst, arith, append-nil}
use Rattle.std.proofs.lemmas.List.Elements.{All-nil, recursion_from_All}
use borrow.Author.Differences.{ints}
use Rattle.problem_core.specs.declared.parts.Mark.{Mark}
use Rattle.problem_core.specs.declared.parts.Stay.{Stay}
use Rattle.problem_core.specs.declared.stops.Quantity.{Quantity}
use Rattle.problem_core.specs.declared.stops.Quantity.TheVariants.{Plain, Terms, Rows, Shifts}
use Rattle.problem_core.specs.Layout.{Problem, Row, lines}
use Rattle.problem_core.specs.Kept.{IsWhole}
use Rattle.problem_core.specs.Corners.{IsCorner, NoNegativeValue, marks_of, place}
use Rattle.cert_core.specs.Paths.{Path}
use Rattle.cert_core.specs.Stops.{IsStopOf, IsUnfitPath}
use Rattle.cert_core.specs.declared.stops.RunStop.{RunStop}
use Rattle.cert_core.specs.declared.stops.RunStop.TheVariants.{Conflict, Unfit, Spent, OutOfMemory}
use Rattle.corner_laws.proofs.PathEnds.Complete.{plain_alone}
use Rattle.corner_laws.proofs.WrittenValues.{contains_each}
use Rattle.corner_view.specs.Seen.{CornerView, IsKeptCorner, IsMarkOf, IsNamed}
use Rattle.corner_view.specs.Changes.{HasStood}
use Rattle.corner_ends.specs.Runs.{FromHere, IsRun}
use Rattle.dual_run.specs.Leaving.{AreLowLines, IsLow}
use Rattle.dual_run.proofs.Lows.{low_everywhere}
use Rattle.layout_solver.specs.declared.engine.Change.{Change}
use Rattle.layout_solver.specs.Shifts.{shifted, with_constants}
use Rattle.layout_solver.specs.Starts.{IsMoved}
use Rattle.layout_solver.proofs.Starts.MovedProblems.{moved_up, one_problem, stood_moved}
use Rattle.frac_core.proofs.Bools.{true-not-false as no-truth}

-- ---- of a run only whole quantities are told

unfit-alone : (p : Problem) (old : List Row) (at : List Mark) (path : Path) (quantity : Quantity) → IsUnfitPath true p p.rows (FromHere at) path quantity → IsUnfitPath true p old (FromHere at) path quantity
unfit-alone p old at path (Plain what) h = h
unfit-alone p old at path (Terms mark j) (primal, none, corner, begins, unfit) = absurd (no-truth primal)
unfit-alone p old at path (Rows level j) (none, begins, lawful, unfit) = absurd (plain_alone p path.corner (Rows level j) unfit)
unfit-alone p old at path (Shifts what j) (dual, none, begins, lawful, unfit) = absurd (plain_alone p path.corner (Shifts what j) unfit)

-- so its stops are those of a change, whichever rows were there before
stop-alone : (p : Problem) (old : List Row) (at : List Mark) (budget : ℕ) (stop : RunStop) → IsStopOf true p p.rows (FromHere at) budget stop → IsStopOf true p old (FromHere at) budget stop
stop-alone p old at budget (Conflict by) h = h
stop-alone p old at budget (Spent path) h = h
stop-alone p old at budget (Unfit at_path) (dual, few, unfit) = (dual, few, unfit-alone p old at at_path.path at_path.quantity unfit)
stop-alone p old at budget OutOfMemory h = tt

-- ---- where no value is negative, no line is listed

pub nothing_low : (p : Problem) (at : List Mark) → IsKeptCorner p at → NoNegativeValue p at → AreLowLines p at []
nothing_low p at kept (x, stands, up) = record { named = All-nil (IsNamed p); low = none }
  where
    none : (m : Mark) → IsLow p at m → Contains [] m.row
    none m low =
        let mark : IsMarkOf p m =
        contains_each (λ c. Contains (map place (marks_of (lines p))) c) at (place m) (recursion_from_All (λ n. Contains (map place (marks_of (lines p))) (place n)) at kept.corner.marks) low.inside in
        let under : x.num (place m) <ℤ pos 0 = low_everywhere p at m x kept mark stands low.value in
        let above : pos 0 ≤ℤ x.num (place m) =
        contains_each (λ c. pos 0 ≤ℤ x.num c) at (place m) (recursion_from_All (λ n. pos 0 ≤ℤ x.num (place n)) at up) low.inside in
        absurd (omega (arith, ints, under, above))

-- ---- the corner from, with its stays moved at mid

module _ (from mid : CornerView) (to : List Change) (corner : IsCorner from.problem from.marks) (stood : HasStood from mid) (whole : IsWhole mid.problem) (marks : mid.marks ≡ from.marks) where
  pub stood_problem : IsMoved from [] from.problem.rows mid.problem
  stood_problem =
      stood_moved from mid [] mid.problem stood whole
      (ap (λ (ss : List Stay). record { rows = mid.problem.rows; stays = ss }) (sym (append-nil mid.problem.stays)))

  pub altered : (q : Problem) → q ≡ with_constants to mid.problem → IsMoved from [] (shifted to from.problem.rows) q
  altered q e = record {
    values = stood_problem.values;
    attributes = stood_problem.attributes;
    lowest = stood_problem.lowest;
    stand = stood_problem.stand;
    is = e ∙ ap (with_constants to) stood_problem.is;
  }

  -- no value is negative there
  pub stood_low : IsKeptCorner from.problem from.marks → IsKeptCorner mid.problem mid.marks → NoNegativeValue from.problem from.marks → AreLowLines mid.problem mid.marks []
  stood_low kept there up =
      nothing_low mid.problem mid.marks there
      (subst (NoNegativeValue mid.problem) (sym marks) (moved_up from [] mid.problem kept stood_problem whole up))

  one-altered : (p : Problem) → IsMoved from [] (shifted to from.problem.rows) p → with_constants to mid.problem ≡ p
  one-altered p m = one_problem from [] (shifted to from.problem.rows) (with_constants to mid.problem) p corner (altered (with_constants to mid.problem) refl) m

  -- a stop while constants change
  pub altered_stop : (budget : ℕ) (stop : RunStop) → ((budget : ℕ) → IsStopOf true (with_constants to mid.problem) mid.problem.rows (FromHere mid.marks) budget stop)
      → (p : Problem) → IsMoved from [] (shifted to from.problem.rows) p → IsStopOf true p from.problem.rows (FromHere from.marks) budget stop
  altered_stop budget stop h p m =
      subst (λ (q : Problem). IsStopOf true q from.problem.rows (FromHere from.marks) budget stop) (one-altered p m)
      (subst (λ (ms : List Mark). IsStopOf true (with_constants to mid.problem) from.problem.rows (FromHere ms) budget stop) marks
      (subst (λ (rs : List Row). IsStopOf true (with_constants to mid.problem) rs (FromHere mid.marks) budget stop) stood.rows (h budget)))

  module _ (here : CornerView) (problem : here.problem ≡ with_constants to mid.problem) (still : here.marks ≡ mid.marks) where
    at-altered : (p : Problem) → IsMoved from [] (shifted to from.problem.rows) p → here.problem ≡ p
    at-altered p m = problem ∙ one-altered p m

    -- the answers of the run
    pub restored_path : (budget : ℕ) (last : List Mark) → (path : Path) × IsRun true here.problem (λ at. at ≡ here.marks) budget last path
        → (p : Problem) → IsMoved from [] (shifted to from.problem.rows) p → (path : Path) × IsRun true p (FromHere from.marks []) budget last path
    restored_path budget last (path, run) p m = (
      path,
      subst (λ (q : Problem). IsRun true q (FromHere from.marks []) budget last path) (at-altered p m)
          (record {
            kind = run.kind;
            begins = (refl, run.begins ∙ still ∙ marks);
            lawful = run.lawful;
            ends = run.ends;
            few = run.few;
          }),
    )

    pub restored_stop : (budget : ℕ) (stop : RunStop) → IsStopOf true here.problem here.problem.rows (FromHere here.marks) budget stop
        → (p : Problem) → IsMoved from [] (shifted to from.problem.rows) p → IsStopOf true p from.problem.rows (FromHere from.marks) budget stop
    restored_stop budget stop h p m =
        subst (λ (q : Problem). IsStopOf true q from.problem.rows (FromHere from.marks) budget stop) (at-altered p m)
        (subst (λ (ms : List Mark). IsStopOf true here.problem from.problem.rows (FromHere ms) budget stop) (still ∙ marks)
        (stop-alone here.problem from.problem.rows here.marks budget stop h))
