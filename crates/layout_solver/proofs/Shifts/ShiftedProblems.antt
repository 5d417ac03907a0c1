-- A problem whose constants change, and what does not fit there.
use Rattle.std.proofs.Common.{◌≡◌, ◌≢◌, ◌∙◌, ℕ, ◌+◌, ◌<◌, ◌≤◌, ◌++◌, true, List, [], ◌∷◌, length, map, take, drop, get_or, refl, sym, ap, ap₂, subst, arith, All, AllPairs, Any}
use Rattle.std.specs.List.{AllByRecursion as Each}
use Rattle.std.proofs.lemmas.List.{drop_more}
use Rattle.std.proofs.lemmas.List.Elements.{recursion_from_All}
use Rattle.frac_core.specs.Fraction.{Fraction, IsKept}
use Rattle.problem_core.specs.declared.parts.Mark.{Mark}
use Rattle.problem_core.specs.declared.parts.Side.{Side}
use Rattle.problem_core.specs.declared.parts.Side.TheVariants.{Under, Over}
use Rattle.problem_core.specs.declared.stops.What.{What}
use Rattle.problem_core.specs.declared.stops.Quantity.{Quantity}
use Rattle.problem_core.specs.declared.stops.Quantity.TheVariants.{Plain, Terms, Rows, Shifts}
use Rattle.frac_core.specs.declared.memory.Stop.TheVariants.{Refused}
use Rattle.problem_core.specs.declared.parts.Stay.{Stay}
use Rattle.problem_core.specs.Layout.{Line, Problem, Row, line_of_row, line_of_stay, lines, stay_lines}
use Rattle.problem_core.specs.Kept.{IsWhole}
use Rattle.problem_core.specs.Certificates.{IsLexNonnegative}
use Rattle.problem_core.specs.Corners.{IsCorner, NoNegativeColumn, column}
use Rattle.problem_core.specs.Changes.Paths.{IsPath}
use Rattle.problem_core.specs.Rays.{HasRays}
use Rattle.problem_core.specs.Unfit.{IsUnfit, IsUnfitWhat, changes, first_shifted, with_first_shifts}
use Rattle.cert_core.specs.Stops.{IsStopOf}
use Rattle.cert_core.specs.Paths.{Path}
use Rattle.cert_core.specs.declared.stops.RunStop.{RunStop}
use Rattle.cert_core.specs.declared.stops.RunStop.TheVariants.{Unfit}
use Rattle.corner_laws.proofs.RunSteps.DualRuns.{dual_run_is_path}
use Rattle.corner_lines.specs.Fronts.{constantless}
use Rattle.corner_lines.specs.Shifts.{AreSeenAlike, has_constant, with_constant}
use Rattle.corner_lines.proofs.ProblemChanges.Shifted.{shift_rays}
use Rattle.corner_lines.proofs.ProblemChanges.ShiftedCorner.{shift_corner}
use Rattle.corner_view.specs.Changes.{HasStood, IsNear, IsRewound, scene_of}
use Rattle.corner_view.specs.Stops.{IsUnfitStop}
use Rattle.corner_view.specs.Seen.{CornerView, IsKeptCorner, Scene}
use Rattle.corner_view.proofs.Seen.ShiftedLines.{shift_seen, shift_whole}
use Rattle.corner_view.proofs.Seen.SeenColumns.{multipliers_seen}
use Rattle.corner_view.proofs.Seen.SeenLines.{each_seen, rows_alike}
use Rattle.corner_ends.specs.Runs.{FromHere}
use Rattle.layout_solver.specs.declared.engine.Change.{Change}
use Rattle.layout_solver.specs.Shifts.{CanShift, IsAtMark, shifted, with_constants}
use Rattle.layout_solver.proofs.Shifts.Constants.{changes_few, changes_less, first_changes, next_taken, no_change, one_change, shifted-alike, shifted_on, split_at}
use Rattle.corner_laws.proofs.PathEnds.Complete.{no-changes}

abbrev made : Problem → List Row → Problem
made p rows = record { rows = rows; stays = p.stays }

-- ---- what does not speak of constants

alike : (to : List Change) (p : Problem) → AreSeenAlike p (with_constants to p)
alike [] p = refl
alike (t ∷ more) p = sym (shift_seen p t.row t.constant) ∙ alike more (with_constant t.row t.constant p)

pub columns_seen : (p q : Problem) (at : List Mark) → AreSeenAlike p q → NoNegativeColumn p at → NoNegativeColumn q at
columns_seen p q at same (m, are, up) = (m, multipliers_seen p q at m same are, on_side)
  where
    on_side : (side : Side) → All (λ l. IsLexNonnegative (column m side l)) (lines q)
    on_side Under = each_seen (λ l. IsLexNonnegative (column m Under l)) p q same (up Under)
    on_side Over = each_seen (λ l. IsLexNonnegative (column m Over l)) p q same (up Over)

pub columns_shifted : (p : Problem) (to : List Change) (at : List Mark) → NoNegativeColumn p at → NoNegativeColumn (with_constants to p) at
columns_shifted p to at h = columns_seen p (with_constants to p) at (alike to p) h

stays-alike : (base : ℕ) (xs ys : List Stay) → map (λ (s : Stay). s.attr) xs ≡ map (λ (s : Stay). s.attr) ys → map constantless (stay_lines base xs) ≡ map constantless (stay_lines base ys)
stays-alike base [] [] e = refl
stays-alike base [] (y ∷ ys) e = cc
stays-alike base (x ∷ xs) [] e = cc
stays-alike base (x ∷ xs) (y ∷ ys) e =
    let head : x.attr ≡ y.attr = cc in
    let tail : map (λ (s : Stay). s.attr) xs ≡ map (λ (s : Stay). s.attr) ys = cc in
    ap₂ (λ (a : ℕ) (ls : List Line). constantless (line_of_stay base (record { attr = a; target = x.target })) ∷ ls) head (stays-alike (base + 1) xs ys tail)

stood-alike : (old new : CornerView) → HasStood old new → AreSeenAlike old.problem new.problem
stood-alike old new stood =
    rows_alike old.problem.rows (stay_lines 1001 old.problem.stays) (stay_lines 1001 new.problem.stays) (stays-alike 1001 old.problem.stays new.problem.stays (sym stood.attrs))
    ∙ ap (λ (rs : List Row). map constantless (map line_of_row rs ++ stay_lines 1001 new.problem.stays)) (sym stood.rows)

pub columns_stood : (old new : CornerView) → HasStood old new → new.marks ≡ old.marks → NoNegativeColumn old.problem old.marks → NoNegativeColumn new.problem new.marks
columns_stood old new stood marks h = subst (NoNegativeColumn new.problem) (sym marks) (columns_seen old.problem new.problem old.marks (stood-alike old new stood) h)

pub columns_there : (mid here : CornerView) (to : List Change) → here.problem ≡ with_constants to mid.problem → here.marks ≡ mid.marks → NoNegativeColumn mid.problem mid.marks → NoNegativeColumn here.problem here.marks
columns_there mid here to problem marks h =
    subst (λ (q : Problem). NoNegativeColumn q here.marks) (sym problem)
    (subst (NoNegativeColumn (with_constants to mid.problem)) (sym marks) (columns_shifted mid.problem to mid.marks h))

-- the rows alone say whether constants can change
pub near_rows : (to : List Change) (p q : Problem) → q.rows ≡ p.rows → CanShift p to → CanShift q to
near_rows [] p q e h = tt
near_rows (t ∷ more) p q e h =
    let n : IsNear p t.row t.constant = h.0 in (
      (
        n.0,
        n.1,
        record {
          held = subst (Any (λ (r : Row). r.id ≡ t.row)) (sym e) n.2.held;
          constant = subst (All (λ (r : Row). r.id ≡ t.row → r.constant ≡ n.0)) (sym e) n.2.constant;
          from_positive = n.2.from_positive;
          to_positive = n.2.to_positive;
          more_positive = n.2.more_positive;
          difference = n.2.difference;
        },
        n.3,
      ),
      near_rows more (with_constant t.row t.constant p) (with_constant t.row t.constant q) (ap (map (has_constant t.row t.constant)) e) h.1,
    )

-- ---- the corner with all constants

record IsStanding (p : Problem) (at : List Mark) : Type 0 where
  whole : IsWhole p
  corner : IsCorner p at
  rays : HasRays p at

standing : (to : List Change) (p : Problem) (at : List Mark) → CanShift p to → Each (λ (t : Change). IsKept t.constant) to → IsStanding p at → IsStanding (with_constants to p) at
standing [] p at near kept h = h
standing (t ∷ more) p at near kept h =
    let n : IsNear p t.row t.constant = near.0 in
    standing more (with_constant t.row t.constant p) at near.1 kept.1
    (record {
      whole = shift_whole p t.row t.constant kept.0 h.whole;
      corner = shift_corner p at t.row n.0 t.constant n.1 h.whole h.corner h.rays n.2;
      rays = shift_rays p at t.row n.0 t.constant n.1 n.2 h.rays;
    })

-- the path of no exchange there
pub shifted_path : (p : Problem) (to : List Change) (at : List Mark) → IsKeptCorner p at → NoNegativeColumn p at → CanShift p to → All (λ (t : Change). IsKept t.constant) to → IsPath true (with_constants to p) at []
shifted_path p to at kept columns near fit =
    let s = standing to p at near (recursion_from_All (λ (t : Change). IsKept t.constant) to fit) (record { whole = kept.whole; corner = kept.corner; rays = kept.rays }) in
    dual_run_is_path (with_constants to p) at [] s.whole s.corner s.rays (columns_shifted p to at columns) tt

-- ---- the first constants have changed

-- the problem has the first i of these constants, n of which have changed, and can have the others
pub record HasShifted (p : Problem) (to : List Change) (i n : ℕ) (q : Problem) : Type 0 where
  pub near : CanShift q (drop i to)
  pub problem : q ≡ with_constants (take i to) p
  pub changed : n ≡ changes p.rows q.rows

pub none_shifted : (p : Problem) (to : List Change) → CanShift p to → HasShifted p to 0 0 p
none_shifted p to near = record { near = near; problem = refl; changed = sym (no-changes p.rows) }

pub few_shifted : (p q : Problem) (to : List Change) (i n : ℕ) → IsWhole p → HasShifted p to i n q → n ≤ 4096
few_shifted p q to i n whole h =
    let few = changes_few p.rows q.rows in
    let count = whole.row_count in
    let same = h.changed in
    omega (arith, few, count, same)

module _ (p q : Problem) (to : List Change) (i n : ℕ) (t : Change) (within : i < length to) (is : t ≡ get_or to i t) (h : HasShifted p to i n q) where
  rest-near : CanShift q (t ∷ drop (i + 1) to)
  rest-near = subst (CanShift q) (drop_more to i t within ∙ ap (λ (s : Change). s ∷ drop (i + 1) to) (sym is)) h.near

  pub next_near : IsNear q t.row t.constant
  next_near = rest-near.0

  pub next_held : Any (λ (r : Row). r.id ≡ t.row) q.rows
  next_held = next_near.2.held

  first-problem : with_constant t.row t.constant q ≡ with_constants (take i to ++ (t ∷ [])) p
  first-problem = ap (with_constant t.row t.constant) h.problem ∙ ap (made p) (sym (shifted_on (take i to) (t ∷ []) p.rows))

  next-problem : with_constant t.row t.constant q ≡ with_constants (take (i + 1) to) p
  next-problem = first-problem ∙ ap (λ (ts : List Change). with_constants ts p) (next_taken to i t within is)

  -- the constant is the row's already
  pub next_skipped : (f : Fraction) → All (λ (r : Row). r.id ≡ t.row → r.constant ≡ f) q.rows → f ≡ t.constant → HasShifted p to (i + 1) n q
  next_skipped f own e =
      let same : with_constant t.row t.constant q ≡ q =
      ap (made q) (no_change t.row t.constant q.rows (recursion_from_All (λ (r : Row). r.id ≡ t.row → r.constant ≡ t.constant) q.rows
      (subst (λ (g : Fraction). All (λ (r : Row). r.id ≡ t.row → r.constant ≡ g) q.rows) e own))) in record {
        near = subst (λ (r : Problem). CanShift r (drop (i + 1) to)) same rest-near.1;
        problem = sym same ∙ next-problem;
        changed = h.changed;
      }

  module _ (rising : AllPairs (λ (a b : Change). a.row < b.row) to) (rows : AllPairs (λ (r s : Row). r.id < s.id) p.rows) (f : Fraction) (own : All (λ (r : Row). r.id ≡ t.row → r.constant ≡ f) q.rows) (ne : f ≢ t.constant) where
    held-rows : q.rows ≡ shifted (take i to) p.rows
    held-rows = ap (λ (r : Problem). r.rows) h.problem

    one-more : changes p.rows (map (has_constant t.row t.constant) q.rows) ≡ changes p.rows q.rows + 1
    one-more =
        subst (λ (rs : List Row). changes p.rows (map (has_constant t.row t.constant) rs) ≡ changes p.rows rs + 1) (sym held-rows)
        (one_change to (take i to) t (drop (i + 1) to) (split_at to i t rising within is) p.rows f ne rows (subst (Any (λ (r : Row). r.id ≡ t.row)) held-rows next_held)
        (recursion_from_All (λ (r : Row). r.id ≡ t.row → r.constant ≡ f) (shifted (take i to) p.rows) (subst (All (λ (r : Row). r.id ≡ t.row → r.constant ≡ f)) held-rows own)))

    -- it is one change more
    pub next_shifted : (r : Problem) → r ≡ with_constant t.row t.constant q → HasShifted p to (i + 1) (n + 1) r
    next_shifted r e = record {
      near = subst (λ (s : Problem). CanShift s (drop (i + 1) to)) (sym e) rest-near.1;
      problem = e ∙ next-problem;
      changed = ap (λ (k : ℕ). k + 1) h.changed ∙ sym one-more ∙ ap (λ (s : Problem). changes p.rows s.rows) (sym e);
    }

    count : n + 1 ≡ changes p.rows (shifted (take i to ++ (t ∷ [])) p.rows)
    count = ap (λ (k : ℕ). k + 1) h.changed ∙ sym one-more ∙ ap (λ (s : Problem). changes p.rows s.rows) first-problem

    first-alone : with_constant t.row t.constant q ≡ with_first_shifts p.rows (n + 1) (with_constants to p)
    first-alone =
        first-problem
        ∙ ap (made p) (sym (first_changes to (take i to) t (drop (i + 1) to) (split_at to i t rising within is) p.rows rows))
        ∙ ap (λ (k : ℕ). made p (first_shifted k p.rows (shifted to p.rows))) (sym count)

    -- what does not fit once it has changed
    pub next_unfit : (marks : List Mark) (what : What) → IsUnfitWhat (with_constant t.row t.constant q) marks what → IsUnfit (with_constants to p) p.rows marks (Shifts what (n + 1))
    next_unfit marks what unfit = (
      sym (shifted-alike to p.rows),
      omega arith,
      subst (λ (k : ℕ). k ≤ changes p.rows (shifted to p.rows)) (sym count) (changes_less to (take i to) t (drop (i + 1) to) (split_at to i t rising within is) p.rows),
      subst (λ (r : Problem). IsUnfitWhat r marks what) first-alone unfit,
    )

-- ---- the stop there

same-what : (a b : What) → Plain a ≡ Plain b → a ≡ b
same-what a b e = cc

-- of the path of no exchange
pub path_stop : (p : Problem) (old : List Row) (marks : List Mark) (path : Path) (quantity : Quantity) (what other : What) (n budget : ℕ) → quantity ≡ Plain what → quantity ≡ Plain other → path ≡ record { dual = true; corner = marks; swaps = [] } → IsPath true p marks [] → IsUnfit p old marks (Shifts what n)
    → IsStopOf true p old (FromHere marks) budget (Unfit (record { path = path; quantity = Shifts other n }))
path_stop p old marks path quantity what other n budget is also e lawful unfit =
    subst (λ (w : What). IsStopOf true p old (FromHere marks) budget (Unfit (record { path = path; quantity = Shifts w n }))) (same-what what other (sym is ∙ also))
    (subst (λ (q : Path). IsStopOf true p old (FromHere marks) budget (Unfit (record { path = q; quantity = Shifts what n }))) (sym e)
    (refl, omega arith, (refl, refl, (refl, refl), lawful, unfit)))

pub head-of : (s t : Scene) (ss ts : List Scene) → s ∷ ss ≡ t ∷ ts → s ≡ t
head-of s t ss ts e = cc

pub still_newest : (old new : CornerView) → new.before ≡ old.before → new.marks ≡ old.marks → IsAtMark old → IsAtMark new
still_newest old new same still (newest, rest, before, marks) = (newest, rest, same ∙ before, still ∙ marks)

-- back at the newest mark the marks inside are the same
pub rewound_marks : (first old new : CornerView) → IsAtMark first → old.before ≡ first.before → IsRewound old new → new.marks ≡ first.marks
rewound_marks first old new (newest, rest, before, marks) same back =
    ap (λ (s : Scene). s.marks) (head-of (scene_of new) newest back.scene.0 rest (sym back.scene.1 ∙ same ∙ before)) ∙ sym marks

-- what is said of each way to write a quantity holds of this one
pub unfit_stop : (p q : Problem) (old : List Row) (here marks : List Mark) (quantity : Quantity) (n : ℕ) (stop : RunStop)
    → ((p : Problem) (old : List Row) (what : What) → quantity ≡ Plain what → IsPath true p here [] → IsUnfit p old here (Shifts what n) → (budget : ℕ) → IsStopOf true p old (FromHere here) budget stop)
    → here ≡ marks → IsUnfitStop q marks (Refused quantity) → ((what : What) → IsUnfitWhat q marks what → IsUnfit p old marks (Shifts what n)) → IsPath true p marks []
    → (budget : ℕ) → IsStopOf true p old (FromHere marks) budget stop
unfit_stop p q old here marks (Plain what) n stop says e h unfit path budget =
    subst (λ (ms : List Mark). IsStopOf true p old (FromHere ms) budget stop) e
    (says p old what refl (subst (λ (ms : List Mark). IsPath true p ms []) (sym e) path) (subst (λ (ms : List Mark). IsUnfit p old ms (Shifts what n)) (sym e) (unfit what h)) budget)
unfit_stop p q old here marks (Terms mark j) n stop says e h unfit path budget = absurd h
unfit_stop p q old here marks (Rows level j) n stop says e h unfit path budget = absurd h
unfit_stop p q old here marks (Shifts what j) n stop says e h unfit path budget = absurd h
