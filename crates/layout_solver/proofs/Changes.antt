-- An engine's corner from its mark to the change or back.
use Rattle.std.proofs.Common.{◌≡◌, ◌∙◌, ℕ, ◌-◌, ◌<◌, ◌++◌, true, false, List, [], ◌∷◌, length, take, sym, ap, ap₂, subst, arith, append-nil, All}
use Rattle.std.proofs.lemmas.List.{take_all}
use Rattle.version_lists.specs.declared.versions.TheConstants.{VERSION_LIMIT}
use Rattle.frac_core.specs.Fraction.{Fraction}
use Rattle.problem_core.specs.declared.parts.Mark.{Mark}
use Rattle.problem_core.specs.declared.parts.Stay.{Stay}
use Rattle.problem_core.specs.Layout.{HasStay, Problem, Row}
use Rattle.problem_core.specs.Kept.{IsWhole}
use Rattle.problem_core.specs.Corners.{NoNegativeColumn, NoNegativeValue}
use Rattle.cert_core.specs.Paths.{Path}
use Rattle.cert_core.specs.Stops.{IsStopOf}
use Rattle.cert_core.specs.declared.stops.RunStop.{RunStop}
use Rattle.corner_view.specs.Seen.{CornerView, IsKeptCorner, Scene}
use Rattle.corner_view.specs.AddStops.{FromAdded}
use Rattle.corner_view.specs.Changes.{scene_of}
use Rattle.corner_ends.specs.Runs.{FromHere, IsBestEnd, IsRun}
use Rattle.layout_solver.specs.declared.engine.Change.{Change}
use Rattle.layout_solver.specs.Layouts.{AreValuesAt, IsKeptSolution, Layout, Solution, solution_of, stays_at, with_added, zeros}
use Rattle.layout_solver.specs.Engines.{AreItsValues, HasValues, HaveValues, IsMarked, IsSolved, layout_of, solution_at, solutions_at}
use Rattle.layout_solver.specs.Shifts.{CanShift, IsAtMark, shifted, with_shifts}
use Rattle.layout_solver.specs.Starts.{CanTake, IsMoved, attrs_of}
use Rattle.layout_solver.specs.Trials.{IsTrialStop}
use Rattle.layout_solver.specs.declared.trying.TrialStop.{TrialStop}
use Rattle.layout_solver.specs.ValuesUnique.{values_are_one}
use Rattle.layout_solver.proofs.Earlier.{earlier_length, forgot_kept, kept_cons, same_solutions}
use Rattle.layout_solver.proofs.Starts.Rooms.{added_room}
use Rattle.layout_solver.proofs.Solved.{moved_is, solved_end, solved_values, these_values}
use Rattle.layout_solver.proofs.Values.{values_exist}
use Rattle.layout_solver.proofs.Shifts.ShiftedProblems.{head-of}

pub some_values : (c : CornerView) → IsKeptCorner c.problem c.marks → HasValues (scene_of c)
some_values c kept = let w = values_exist c kept.corner in (w.0, ∣ w.1 ∣₁)

-- ---- earlier corners

-- there is room for one more
marked-before : (s : Scene) (old : List Scene) (n : ℕ) → length old ≡ n → n < VERSION_LIMIT → take VERSION_LIMIT (s ∷ old) ≡ s ∷ old
marked-before s old n e room = take_all VERSION_LIMIT (s ∷ old) (omega (arith, e, room))

tail-of : (s t : Scene) (ss ts : List Scene) → s ∷ ss ≡ t ∷ ts → ss ≡ ts
tail-of s t ss ts e = cc

-- ---- the oldest is forgotten

module _ (c : CornerView) (v : List (ℕ × Fraction)) (past : HaveValues c.before) (l : Layout) (solved : IsSolved c v past) (view : layout_of c v past ≡ l) (new : CornerView) (scene : scene_of new ≡ scene_of c) where
  its-same : AreItsValues (scene_of new) v
  its-same = subst (λ (s : Scene). AreItsValues s v) (sym scene) (solved_values c v past solved)

  pub forgot_values : HasValues (scene_of new)
  forgot_values = (v, ∣ its-same ∣₁)

  one-same : (w : List (ℕ × Fraction)) → ∥ AreItsValues (scene_of new) w ∥₁ → w ≡ v
  one-same w h = values_are_one (scene_of new) w v (these_values new its-same.corner w h) its-same

  one-solution : (w : List (ℕ × Fraction)) → ∥ AreItsValues (scene_of new) w ∥₁ → solution_at (scene_of new) w ≡ solution_at (scene_of c) v
  one-solution w h = ap₂ solution_at scene (one-same w h)

  pub forgot_same : (w : List (ℕ × Fraction)) → ∥ AreItsValues (scene_of new) w ∥₁ → solution_at (scene_of new) w ≡ solution_of l
  forgot_same w h = one-solution w h ∙ ap solution_of view

  pub forgot_solved : new.before ≡ take (length c.before - 1) c.before → new.candidates ≡ c.candidates → (w : List (ℕ × Fraction)) (rest : HaveValues new.before) → ∥ AreItsValues (scene_of new) w ∥₁ → IsSolved new w rest
  forgot_solved before still w rest h = record {
    kept = subst IsKeptSolution (sym (one-solution w h)) solved.kept;
    earlier = forgot_kept c v past l solved view new scene before rest;
    listed = still ∙ solved.listed;
  }

-- ---- after the mark

module _ (c mid : CornerView) (v : List (ℕ × Fraction)) (past : HaveValues c.before) (l : Layout) (m : IsMarked c mid v past l) where
  -- the latest is the corner of now
  latest-before : mid.before ≡ scene_of c ∷ c.before
  latest-before = m.before ∙ marked-before (scene_of c) c.before (length l.earlier) (earlier_length c v past l m.solved m.view) m.room

  latest-have : HaveValues (scene_of c ∷ c.before)
  latest-have = ((v, ∣ solved_values c v past m.solved ∣₁), past)

  same-rows : mid.problem.rows ≡ l.problem.rows
  same-rows = ap (λ (s : Scene). s.problem.rows) m.scene ∙ ap (λ (k : Layout). k.problem.rows) m.view

  same-marks : mid.marks ≡ l.corner
  same-marks = ap (λ (s : Scene). s.marks) m.scene ∙ ap (λ (k : Layout). k.corner) m.view

  pub marked_room : (attrs : List ℕ) (rows : List Row) → IsWhole (with_added l attrs rows) → CanTake (attrs_of mid.problem) attrs
  marked_room attrs rows whole =
      added_room (attrs_of mid.problem) v attrs (c.problem.rows ++ rows) (m.solved.kept.best.attributes ∙ ap (λ (s : Scene). attrs_of s.problem) (sym m.scene))
      (subst (λ (k : Layout). IsWhole (with_added k attrs rows)) (sym m.view) whole)

  pub marked_values : NoNegativeValue mid.problem mid.marks
  marked_values = subst (λ (s : Scene). NoNegativeValue s.problem s.marks) (sym m.scene) m.solved.kept.end.values

  pub marked_stay : (attr : ℕ) → HasStay l.problem.stays attr → HasStay mid.problem.stays attr
  marked_stay attr h = subst (λ (ss : List Stay). HasStay ss attr) (sym (ap (λ (s : Scene). s.problem.stays) m.scene ∙ ap (λ (k : Layout). k.problem.stays) m.view)) h

  with-problem : (attrs : List ℕ) (base : List Row) (p : Problem) → p ≡ record { rows = base; stays = stays_at (l.values ++ zeros attrs) } → IsMoved mid attrs base p
  with-problem attrs base p e = record {
    values = v;
    attributes = m.solved.kept.best.attributes ∙ ap (λ (s : Scene). attrs_of s.problem) (sym m.scene);
    lowest = m.solved.kept.best.lowest;
    stand = subst (λ (s : Scene). AreValuesAt s.problem s.marks v) (sym m.scene) m.solved.kept.values;
    is = e ∙ ap (λ (k : Layout). record { rows = base; stays = stays_at (k.values ++ zeros attrs) }) (sym m.view);
  }

  there : (attrs : List ℕ) (base : List Row) (p : Problem) → IsMoved mid attrs base p → IsMoved c attrs base p
  there attrs base p h = record {
    values = h.values;
    attributes = h.attributes ∙ ap (λ (s : Scene). attrs_of s.problem) m.scene;
    lowest = h.lowest;
    stand = subst (λ (s : Scene). AreValuesAt s.problem s.marks h.values) m.scene h.stand;
    is = h.is;
  }

  stays-are : (attrs : List ℕ) (base : List Row) (p : Problem) → IsMoved mid attrs base p → p ≡ record { rows = base; stays = stays_at (l.values ++ zeros attrs) }
  stays-are attrs base p h = moved_is c v past attrs base p m.solved (there attrs base p h) ∙ ap (λ (k : Layout). record { rows = base; stays = stays_at (k.values ++ zeros attrs) }) m.view

  pub marked_moved : (attrs : List ℕ) (rows : List Row) → IsMoved mid attrs (mid.problem.rows ++ rows) (with_added l attrs rows)
  marked_moved attrs rows =
      with-problem attrs (mid.problem.rows ++ rows) (with_added l attrs rows)
      (ap (λ (rs : List Row). record { rows = rs ++ rows; stays = stays_at (l.values ++ zeros attrs) }) (sym same-rows))

  pub marked_is : (attrs : List ℕ) (rows : List Row) (p : Problem) → IsMoved mid attrs (mid.problem.rows ++ rows) p → p ≡ with_added l attrs rows
  marked_is attrs rows p h =
      stays-are attrs (mid.problem.rows ++ rows) p h ∙ ap (λ (rs : List Row). record { rows = rs ++ rows; stays = stays_at (l.values ++ zeros attrs) }) same-rows

  pub marked_whole : (attrs : List ℕ) (rows : List Row) → IsWhole (with_added l attrs rows) → (p : Problem) → IsMoved mid attrs (mid.problem.rows ++ rows) p → IsWhole p
  marked_whole attrs rows whole p h = subst IsWhole (sym (marked_is attrs rows p h)) whole

  -- ---- where constants change

  pub marked_newest : IsAtMark mid
  marked_newest = (scene_of c, c.before, latest-before, ap (λ (s : Scene). s.marks) m.scene)

  pub marked_columns : NoNegativeColumn mid.problem mid.marks
  marked_columns = subst (λ (s : Scene). NoNegativeColumn s.problem s.marks) (sym m.scene) m.solved.kept.end.columns

  pub marked_near : (to : List Change) → CanShift l.problem to → CanShift mid.problem to
  marked_near to near = subst (λ (p : Problem). CanShift p to) (sym (ap (λ (s : Scene). s.problem) m.scene ∙ ap (λ (k : Layout). k.problem) m.view)) near

  shifted-made : (to : List Change) → with_shifts l to ≡ record { rows = shifted to mid.problem.rows; stays = stays_at (l.values ++ zeros []) }
  shifted-made to =
      ap (λ (rs : List Row). record { rows = shifted to rs; stays = stays_at l.values }) (sym same-rows)
      ∙ ap (λ (vs : List (ℕ × Fraction)). record { rows = shifted to mid.problem.rows; stays = stays_at vs }) (sym (append-nil l.values))

  shifted-moved : (to : List Change) → IsMoved mid [] (shifted to mid.problem.rows) (with_shifts l to)
  shifted-moved to = with-problem [] (shifted to mid.problem.rows) (with_shifts l to) (shifted-made to)

  pub shifted_is : (to : List Change) (p : Problem) → IsMoved mid [] (shifted to mid.problem.rows) p → p ≡ with_shifts l to
  shifted_is to p h = stays-are [] (shifted to mid.problem.rows) p h ∙ sym (shifted-made to)

  pub shifted_path : (to : List Change) (budget : ℕ) (last : List Mark)
      → ((p : Problem) → IsMoved mid [] (shifted to mid.problem.rows) p → (path : Path) × IsRun true p (FromHere mid.marks []) budget last path)
      → (path : Path) × IsRun true (with_shifts l to) (FromHere l.corner []) budget last path
  shifted_path to budget last run =
      subst (λ (ms : List Mark). (path : Path) × IsRun true (with_shifts l to) (FromHere ms []) budget last path) same-marks
      (run (with_shifts l to) (shifted-moved to))

  pub shifted_stop : (to : List Change) (budget : ℕ) (stop : RunStop)
      → ((p : Problem) → IsMoved mid [] (shifted to mid.problem.rows) p → IsStopOf true p mid.problem.rows (FromHere mid.marks) budget stop)
      → IsStopOf true (with_shifts l to) l.problem.rows (FromHere l.corner) budget stop
  shifted_stop to budget stop h =
      subst (λ (rs : List Row). IsStopOf true (with_shifts l to) rs (FromHere l.corner) budget stop) same-rows
      (subst (λ (ms : List Mark). IsStopOf true (with_shifts l to) mid.problem.rows (FromHere ms) budget stop) same-marks
      (h (with_shifts l to) (shifted-moved to)))

  -- ---- where rows leave

  pub there_marks : mid.marks ≡ l.corner
  there_marks = same-marks

  pub still_moved : IsMoved mid [] mid.problem.rows (record { rows = l.problem.rows; stays = stays_at l.values })
  still_moved = shifted-moved []

  -- ---- the change is kept

  module _ (end : CornerView) (before : end.before ≡ mid.before) where
    pub changed_before : HaveValues end.before
    changed_before = subst HaveValues (sym (before ∙ latest-before)) latest-have

    changed-same : (rest : HaveValues end.before) → solutions_at end.before rest ≡ solution_at (scene_of c) v ∷ solutions_at c.before past
    unfolding latest-have
    changed-same rest = same_solutions end.before (scene_of c ∷ c.before) rest latest-have (before ∙ latest-before)

    pub changed_earlier : (rest : HaveValues end.before) → solutions_at end.before rest ≡ solution_of l ∷ l.earlier
    changed_earlier rest = changed-same rest ∙ ap (λ (k : Layout). solution_of k ∷ k.earlier) m.view

    pub changed_kept : (rest : HaveValues end.before) → All IsKeptSolution (solutions_at end.before rest)
    changed_kept rest =
        subst (All IsKeptSolution) (sym (changed-same rest))
        (kept_cons (solution_at (scene_of c) v) (solutions_at c.before past) m.solved.kept m.solved.earlier)

    pub changed_solved : (w : List (ℕ × Fraction)) (rest : HaveValues end.before) → IsBestEnd end.problem end.marks → end.candidates ≡ []
        → IsKeptCorner end.problem end.marks → ∥ AreItsValues (scene_of end) w ∥₁ → IsSolved end w rest
    changed_solved w rest best listed kept h =
        let values = these_values end kept.corner w h in
        solved_end end w rest kept best values
        (changed_kept rest) listed

  pub changed_path : (attrs : List ℕ) (rows : List Row) (budget : ℕ) (last : List Mark)
      → ((p : Problem) → IsMoved mid attrs (mid.problem.rows ++ rows) p → (path : Path) × IsRun false p (FromAdded p mid.marks rows []) budget last path)
      → (path : Path) × IsRun false (with_added l attrs rows) (FromAdded (with_added l attrs rows) l.corner rows []) budget last path
  changed_path attrs rows budget last run =
      subst (λ (ms : List Mark). (path : Path) × IsRun false (with_added l attrs rows) (FromAdded (with_added l attrs rows) ms rows []) budget last path) same-marks
      (run (with_added l attrs rows) (marked_moved attrs rows))

  -- ---- there is no change

  pub refused_stop : (attrs : List ℕ) (rows : List Row) (budget : ℕ) (stop : RunStop)
      → ((p : Problem) → IsMoved mid attrs (mid.problem.rows ++ rows) p → IsStopOf false p mid.problem.rows (FromAdded p mid.marks rows) budget stop)
      → IsStopOf false (with_added l attrs rows) l.problem.rows (FromAdded (with_added l attrs rows) l.corner rows) budget stop
  refused_stop attrs rows budget stop h =
      subst (λ (rs : List Row). IsStopOf false (with_added l attrs rows) rs (FromAdded (with_added l attrs rows) l.corner rows) budget stop) same-rows
      (subst (λ (ms : List Mark). IsStopOf false (with_added l attrs rows) mid.problem.rows (FromAdded (with_added l attrs rows) ms rows) budget stop) same-marks
      (h (with_added l attrs rows) (marked_moved attrs rows)))

  pub refused_trial : (attrs : List ℕ) (rows : List Row) (to : Change) (budget : ℕ) (stop : TrialStop)
      → ((p : Problem) → IsMoved mid attrs (mid.problem.rows ++ rows) p → IsTrialStop p mid.problem.rows mid.marks rows to budget stop)
      → IsTrialStop (with_added l attrs rows) l.problem.rows l.corner rows to budget stop
  refused_trial attrs rows to budget stop h =
      subst (λ (rs : List Row). IsTrialStop (with_added l attrs rows) rs l.corner rows to budget stop) same-rows
      (subst (λ (ms : List Mark). IsTrialStop (with_added l attrs rows) mid.problem.rows ms rows to budget stop) same-marks
      (h (with_added l attrs rows) (marked_moved attrs rows)))

  module _ (end new : CornerView) (before : end.before ≡ mid.before) (back : end.before ≡ scene_of new ∷ new.before) where
    back-latest : scene_of new ∷ new.before ≡ scene_of c ∷ c.before
    back-latest = sym back ∙ before ∙ latest-before

    same-scene : scene_of new ≡ scene_of c
    same-scene = head-of (scene_of new) (scene_of c) new.before c.before back-latest

    same-before : new.before ≡ c.before
    same-before = tail-of (scene_of new) (scene_of c) new.before c.before back-latest

    its-values : AreItsValues (scene_of new) v
    its-values = subst (λ (s : Scene). AreItsValues s v) (sym same-scene) (solved_values c v past m.solved)

    pub refused_values : HasValues (scene_of new)
    refused_values = (v, ∣ its-values ∣₁)

    pub refused_before : HaveValues new.before
    refused_before = subst HaveValues (sym same-before) past

    module _ (w : List (ℕ × Fraction)) (rest : HaveValues new.before) (h : ∥ AreItsValues (scene_of new) w ∥₁) where
      same-values : w ≡ v
      same-values = values_are_one (scene_of new) w v (these_values new its-values.corner w h) its-values

      same-past : solutions_at new.before rest ≡ solutions_at c.before past
      same-past = same_solutions new.before c.before rest past same-before

      pub refused_solved : new.candidates ≡ [] → IsSolved new w rest
      refused_solved listed = record {
        kept = subst (λ (u : List (ℕ × Fraction)). IsKeptSolution (solution_at (scene_of new) u)) (sym same-values)
            (subst (λ (s : Scene). IsKeptSolution (solution_at s v)) (sym same-scene) m.solved.kept);
        earlier = subst (All IsKeptSolution) (sym same-past) m.solved.earlier;
        listed = listed;
      }

      pub refused_same : layout_of new w rest ≡ l
      refused_same =
          ap (λ (es : List Solution). record { problem = new.problem; values = w; corner = new.marks; earlier = es }) same-past
          ∙ ap₂ (λ (s : Scene) (u : List (ℕ × Fraction)). record { problem = s.problem; values = u; corner = s.marks; earlier = solutions_at c.before past }) same-scene same-values
          ∙ m.view
