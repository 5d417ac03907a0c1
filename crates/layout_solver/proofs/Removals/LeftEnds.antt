-- The way of a removal: its steps, its stops, its end.
use Rattle.std.proofs.Common.{◌≡◌, ◌≢◌, ◌∙◌, ℕ, zero, suc, ◌+◌, ◌<◌, ◌++◌, Bool, true, false, cond, nat_eq, List, [], ◌∷◌, filter, map, take, drop, length, get_or, pos, refl, sym, ap, ap₂, subst, arith, All, AllPairs, Any, Contains, IfSome, IfNone, inl, inr}
use Rattle.std.specs.declared.option.Option.{Option}
use Rattle.std.specs.Prelude.{Some, None}
use Rattle.std.specs.List.{AllByRecursion as Each}
use Rattle.std.proofs.lemmas.Bool.{cases_Bool}
use Rattle.std.proofs.lemmas.List.{take_more}
use Rattle.std.proofs.lemmas.List.Elements.{All-from_recursion, recursion_from_All}
use Rattle.problem_core.specs.declared.parts.Mark.{Mark}
use Rattle.problem_core.specs.declared.parts.RowName.TheVariants.{Held}
use Rattle.problem_core.specs.declared.parts.Side.{Side}
use Rattle.problem_core.specs.declared.parts.Side.TheVariants.{Under, Over}
use Rattle.problem_core.specs.declared.parts.Stay.{Stay}
use Rattle.problem_core.specs.declared.stops.What.{What}
use Rattle.problem_core.specs.declared.stops.Quantity.{Quantity}
use Rattle.problem_core.specs.declared.stops.Quantity.TheVariants.{Plain, Terms, Rows, Shifts}
use Rattle.frac_core.specs.declared.memory.Stop.TheVariants.{Refused}
use Rattle.problem_core.specs.Changes.Begins.{ComesFrom, without_marks}
use Rattle.problem_core.specs.Layout.{Assignment, Line, Problem, Row, Satisfies, line_of_row, line_of_stay, lines, stay_lines, value_at}
use Rattle.problem_core.specs.Kept.{IsWhole}
use Rattle.problem_core.specs.Corners.{IsCorner, IsIn, NoNegativeValue, Swap, equation, marks_of, place, place_of}
use Rattle.problem_core.specs.Changes.Paths.{IsPath}
use Rattle.problem_core.proofs.Refutations.{refutation-IsInConflict}
use Rattle.problem_core.proofs.Wholes.{whole-IsProblem}
use Rattle.cert_core.specs.Paths.{Path}
use Rattle.cert_core.specs.Stops.{IsShownConflict, IsStopOf}
use Rattle.cert_core.specs.declared.by.By.{By}
use Rattle.cert_core.specs.declared.stops.UnfitPath.{UnfitPath}
use Rattle.cert_core.specs.declared.stops.RunStop.TheVariants.{Unfit as UnfitRun, Spent as SpentRun}
use Rattle.corner_view.specs.Seen.{CornerView, in_order, IsKeptCorner}
use Rattle.corner_view.specs.Stops.{IsUnfitStop}
use Rattle.corner_ends.specs.Runs.{FromHere, IsRun}
use Rattle.corner_lines.specs.Removals.{without_attr, without_row}
use Rattle.corner_lines.proofs.ProblemChanges.Dropped.{left_corner}
use Rattle.problem_core.proofs.Forms.{each-both, each-impl}
use Rattle.corner_laws.proofs.Swaps.ColumnsStay.{each_marks}
use Rattle.corner_laws.proofs.WrittenValues.{nothing_outside}
use Rattle.corner_laws.proofs.ZeroColumns.{here-in}
use Rattle.marker_remove.specs.Freed.{DoStand, HasMarkIn, HasSameValues, IsFreeStop, IsFreed}
use Rattle.layout_solver.specs.declared.request.RequestStop.{RequestStop}
use Rattle.layout_solver.specs.declared.request.RequestStop.TheVariants.{Conflict, Unfit, Spent, OutOfMemory}
use Rattle.layout_solver.specs.Removals.{FromRemoved, HasRemoved, HaveGone, IsEndStop, IsHeldPath, IsRemoveStop, IsStillStop, IsUnfitOf, Leaving, without, without_attrs, without_rows}
use Rattle.layout_solver.proofs.Starts.Beginnings.{unfit-added}
use Rattle.layout_solver.proofs.Removals.LeftMarks.{row_there, standing_left, values_left}
use Rattle.layout_solver.proofs.Removals.LeftPaths.{comes_dropped, comes_freed, comes_here, comes_more}
use Rattle.layout_solver.proofs.Removals.LeftRows.{at_place, before_apart, not_before, row_held, rows_last}
use Rattle.layout_solver.proofs.Removals.LeftStops.{order_left}
use Rattle.corner_lines.proofs.ProblemChanges.DroppedAttr.{other_stay}
use Rattle.frac_core.proofs.Lists.{take-drop as all_of}
use Rattle.problem_core.proofs.Marks.{no-swaps as path_here}
use Rattle.problem_core.proofs.Best.Agreed.{each-lines as each-whole}

-- ---- a stop while rows are held

is-path : (path : Path) (at : List Mark) → path.dual ≡ false → path.swaps ≡ [] → path.corner ≡ at → path ≡ record { dual = false; corner = at; swaps = [] }
is-path path at a b e = ap₂ (λ (d : Bool) (s : List Swap). record { dual = d; corner = path.corner; swaps = s }) a b ∙ ap (λ (ms : List Mark). record { dual = false; corner = ms; swaps = [] }) e

held-stop : (p q : Problem) (kept at : List Mark) (leaving gone : List ℕ) (what : What) → ComesFrom p kept leaving gone at → at ≡ in_order q at → IsPath false q at [] → IsUnfitStop q at (Refused (Plain what)) → IsStopOf false q q.rows (FromRemoved p kept leaving gone q) 0 (UnfitRun (record { path = record { dual = false; corner = at; swaps = [] }; quantity = Plain what }))
held-stop p q kept at leaving gone what comes ordered lawful unfit = (refl, omega arith, ((refl, comes, ordered), lawful, unfit))

pub held_path : (p q : Problem) (kept at : List Mark) (leaving gone still : List ℕ) (path : Path) (quantity : Quantity) → gone ++ still ≡ leaving → q ≡ without_rows gone p → path ≡ record { dual = false; corner = at; swaps = [] } → ComesFrom p kept (gone ++ take 1 still) gone at → at ≡ in_order q at → IsPath false q at [] → IsUnfitStop q at (Refused quantity) → IsHeldPath p kept leaving still (record { path = path; quantity = quantity })
held_path p q kept at leaving gone still path (Plain what) all is e comes ordered lawful unfit = record {
  gone = gone;
  in_order = all;
  stop = subst (λ (r : Problem). IsStopOf false r r.rows (FromRemoved p kept (gone ++ take 1 still) gone r) 0 (UnfitRun (record { path = path; quantity = Plain what }))) is
      (subst (λ (h : Path). IsStopOf false q q.rows (FromRemoved p kept (gone ++ take 1 still) gone q) 0 (UnfitRun (record { path = h; quantity = Plain what }))) (sym e)
      (held-stop p q kept at (gone ++ take 1 still) gone what comes ordered lawful unfit));
}
held_path p q kept at leaving gone still path (Terms mark j) all is e comes ordered lawful unfit = absurd unfit
held_path p q kept at leaving gone still path (Rows level j) all is e comes ordered lawful unfit = absurd unfit
held_path p q kept at leaving gone still path (Shifts what j) all is e comes ordered lawful unfit = absurd unfit

-- ---- the next row

-- the first of those that are left
first_left : (rows : List ℕ) (i : ℕ) → i < length rows → take 1 (drop i rows) ≡ get_or rows i 0 ∷ []
first_left [] i within = absurd (omega (arith, within))
first_left (r ∷ rows) zero within = refl
first_left (r ∷ rows) (suc i) within = first_left rows i (omega (arith, within))

module _ (p : Problem) (kept : List Mark) (rows : List ℕ) (i : ℕ) (within : i < length rows) where
  -- a mark of it is in
  pub row_freed : (old new : CornerView) (freed : Option Swap) → IsCorner old.problem old.marks → IsKeptCorner p kept → AllPairs (λ a b. a ≢ b) rows
      → IfSome freed (IsFreed old.problem old.marks (get_or rows i 0) new.marks) → IfSome freed (λ _. HasMarkIn old.marks (get_or rows i 0) → ⊥) → IfNone freed (new ≡ old) → new.problem ≡ old.problem → HasSameValues old.problem old.marks new.marks → NoNegativeValue new.problem new.marks
      → HaveGone p kept (take i rows) (take i rows) old → HaveGone p kept (take (i + 1) rows) (take i rows) new
  row_freed old new freed here k apart some fresh none problem same up h = record {
    problem = problem ∙ h.problem;
    comes = subst (λ (ids : List ℕ). ComesFrom p kept ids (take i rows) new.marks) (sym (take_more rows i 0 within)) (come freed some fresh none);
    values = up;
    standing = subst (λ (q : Problem). DoStand q new.marks) (sym problem) (λ j d less. same _ _ (h.standing j d less));
  }
    where
      come : (o : Option Swap) → IfSome o (IsFreed old.problem old.marks (get_or rows i 0) new.marks) → IfSome o (λ _. HasMarkIn old.marks (get_or rows i 0) → ⊥) → IfNone o (new ≡ old) → ComesFrom p kept (take i rows ++ get_or rows i 0 ∷ []) (take i rows) new.marks
      come (Some s) f out n =
          comes_freed p kept old.marks new.marks (take i rows) (take i rows) (get_or rows i 0) s k.corner k.rays (not_before rows i apart within) (not_before rows i apart within)
          (subst (λ (q : Problem). IsCorner q old.marks) h.problem here) out
          (subst (λ (q : Problem). IsFreed q old.marks (get_or rows i 0) new.marks s) h.problem f) h.comes
      come None f out n = subst (λ (c : CornerView). ComesFrom p kept (take i rows ++ get_or rows i 0 ∷ []) (take i rows) c.marks) (sym n) (comes_more p kept old.marks (take i rows) (get_or rows i 0 ∷ []) (take i rows) h.comes)

  -- or something does not fit there
  pub unfit_freed : (c : CornerView) (at : UnfitPath) (stop : RequestStop) → IsCorner c.problem c.marks → IsKeptCorner p kept → AllPairs (λ a b. a ≢ b) rows → IsFreeStop c.problem c.marks (get_or rows i 0) (UnfitRun at)
      → HaveGone p kept (take i rows) (take i rows) c → IsUnfitOf (drop i rows) at stop → IsStillStop p kept rows stop
  unfit_freed c at (Conflict by) here k apart f h of = absurd of
  unfit_freed c at (Spent path) here k apart f h of = absurd of
  unfit_freed c at OutOfMemory here k apart f h of = tt
  unfit_freed c at (Unfit still other) here k apart f h of =
      let comes : ComesFrom p kept (take i rows ++ get_or rows i 0 ∷ []) (take i rows) at.path.corner =
      comes_freed p kept c.marks at.path.corner (take i rows) (take i rows) (get_or rows i 0) f.0.freed.0 k.corner k.rays (not_before rows i apart within) (not_before rows i apart within)
      (subst (λ (q : Problem). IsCorner q c.marks) h.problem here) f.0.fresh
      (subst (λ (q : Problem). IsFreed q c.marks (get_or rows i 0) at.path.corner f.0.freed.0) h.problem f.0.freed.1) h.comes in
      let next : ComesFrom p kept (take i rows ++ take 1 (drop i rows)) (take i rows) at.path.corner =
      subst (λ (ids : List ℕ). ComesFrom p kept (take i rows ++ ids) (take i rows) at.path.corner) (sym (first_left rows i within)) comes in
      subst (IsHeldPath p kept rows still.items) (sym of.1)
      (subst (λ (ids : List ℕ). IsHeldPath p kept rows ids at) (sym of.0)
      (held_path p c.problem kept at.path.corner rows (take i rows) (drop i rows) at.path at.quantity (all_of rows i) h.problem
      (is-path at.path at.path.corner f.0.kind f.0.none refl) next f.0.ordered f.0.lawful
      (subst (λ (q : Quantity). IsUnfitStop c.problem at.path.corner (Refused q)) (sym f.1.1) f.1.2)))

  -- it has gone
  pub row_dropped : (old new : CornerView) → new.problem ≡ without_row (get_or rows i 0) old.problem → new.marks ≡ without_marks (get_or rows i 0 ∷ []) old.marks
      → HaveGone p kept (take (i + 1) rows) (take i rows) old → HaveGone p kept (take (i + 1) rows) (take (i + 1) rows) new
  row_dropped old new problem marks h = record {
    problem = problem ∙ ap (without_row (get_or rows i 0)) h.problem ∙ sym (rows_last (take i rows) (get_or rows i 0) p) ∙ ap (λ (ids : List ℕ). without_rows ids p) (sym (take_more rows i 0 within));
    comes = subst (λ (ids : List ℕ). ComesFrom p kept (take (i + 1) rows) ids new.marks) (sym (take_more rows i 0 within))
        (subst (ComesFrom p kept (take (i + 1) rows) (take i rows ++ get_or rows i 0 ∷ [])) (sym marks) (comes_dropped p kept old.marks (take (i + 1) rows) (take i rows) (get_or rows i 0) h.comes));
    values = subst (λ (q : Problem). NoNegativeValue q new.marks) (sym problem) (subst (NoNegativeValue (without_row (get_or rows i 0) old.problem)) (sym marks) (values_left old.problem old.marks (get_or rows i 0) h.values));
    standing = subst (λ (q : Problem). DoStand q new.marks) (sym problem) (subst (DoStand (without_row (get_or rows i 0) old.problem)) (sym marks) (standing_left old.problem old.marks (get_or rows i 0) h.standing));
  }

  side-in : (at : List Mark) → HasMarkIn at (get_or rows i 0) → (side : Side) × IsIn (place_of (Held (get_or rows i 0)) side) at
  side-in at (inl u) = (Under, u)
  side-in at (inr o) = (Over, o)

  -- or something does not fit where it has gone
  pub unfit_dropped : (c : CornerView) (path : Path) (quantity : Quantity) (stop : RequestStop) → IsKeptCorner c.problem c.marks → HasMarkIn c.marks (get_or rows i 0) → path ≡ record { dual = false; corner = without_marks (get_or rows i 0 ∷ []) c.marks; swaps = [] }
      → IsUnfitStop (without_row (get_or rows i 0) c.problem) (without_marks (get_or rows i 0 ∷ []) c.marks) (Refused quantity)
      → HaveGone p kept (take (i + 1) rows) (take i rows) c → IsUnfitOf (drop (i + 1) rows) (record { path = path; quantity = quantity }) stop → IsStillStop p kept rows stop
  unfit_dropped c path quantity (Conflict by) k inside e unfit h of = absurd of
  unfit_dropped c path quantity (Spent other) k inside e unfit h of = absurd of
  unfit_dropped c path quantity OutOfMemory k inside e unfit h of = tt
  unfit_dropped c path quantity (Unfit still other) k inside e unfit h of =
      let side = side-in c.marks inside in
      let at : List Mark = without_marks (get_or rows i 0 ∷ []) c.marks in
      let comes : ComesFrom p kept (take (i + 1) rows) (take (i + 1) rows) (without_marks (get_or rows i 0 ∷ []) c.marks) =
      subst (λ (ids : List ℕ). ComesFrom p kept (take (i + 1) rows) ids (without_marks (get_or rows i 0 ∷ []) c.marks)) (sym (take_more rows i 0 within)) (comes_dropped p kept c.marks (take (i + 1) rows) (take i rows) (get_or rows i 0) h.comes) in
      let next : ComesFrom p kept (take (i + 1) rows ++ take 1 (drop (i + 1) rows)) (take (i + 1) rows) (without_marks (get_or rows i 0 ∷ []) c.marks) =
      comes_more p kept (without_marks (get_or rows i 0 ∷ []) c.marks) (take (i + 1) rows) (take 1 (drop (i + 1) rows)) (take (i + 1) rows) comes in
      subst (IsHeldPath p kept rows still.items) (sym of.1)
      (subst (λ (ids : List ℕ). IsHeldPath p kept rows ids (record { path = path; quantity = quantity })) (sym of.0)
      (held_path p (without_row (get_or rows i 0) c.problem) kept (without_marks (get_or rows i 0 ∷ []) c.marks) rows (take (i + 1) rows) (drop (i + 1) rows) path quantity (all_of rows (i + 1))
      (ap (without_row (get_or rows i 0)) h.problem ∙ sym (rows_last (take i rows) (get_or rows i 0) p) ∙ ap (λ (ids : List ℕ). without_rows ids p) (sym (take_more rows i 0 within)))
      e next (order_left c.problem c.marks (get_or rows i 0) k.ordered)
      (path_here (without_row (get_or rows i 0) c.problem) (without_marks (get_or rows i 0 ∷ []) c.marks) (left_corner c.problem c.marks (get_or rows i 0) side.0 k.whole k.corner side.1) (values_left c.problem c.marks (get_or rows i 0) h.values))
      unfit))

-- the next row is still held
pub next_held : (p : Problem) (rows : List ℕ) (i : ℕ) (q : Problem) → q ≡ without_rows (take i rows) p → AllPairs (λ a b. a ≢ b) rows → All (λ id. Any (λ r. r.id ≡ id) p.rows) rows → i < length rows → Any (λ r. r.id ≡ get_or rows i 0) q.rows
next_held p rows i q e apart held within =
    subst (λ (r : Problem). Any (λ s. s.id ≡ get_or rows i 0) r.rows) (sym e)
    (row_held (take i rows) (get_or rows i 0) p (before_apart rows i apart within) (at_place (λ n. Any (λ r. r.id ≡ n) p.rows) rows i held within))

-- ---- the run from where they have left

-- fewer rows have no conflict
pub no_conflict : (p : Problem) (x : Assignment) (by : List By) → IsWhole p → Satisfies p x → IsShownConflict p by → ⊥
no_conflict p x by whole ok shown = refutation-IsInConflict p (whole-IsProblem p whole) _ shown.refutes x ok

pub left_path : (p : Problem) (kept at last : List Mark) (l : Leaving) (q : Problem) (budget : ℕ) → q ≡ without l p → FromRemoved p kept l.rows l.rows q [] at → (path : Path) × IsRun false q (λ ms. ms ≡ at) budget last path → HasRemoved p kept l budget last
left_path p kept at last l q budget is from (path, run) =
    subst (λ (r : Problem). (h : Path) × IsRun false r (FromRemoved p kept l.rows l.rows r []) budget last h) is (
      path,
      record {
        kind = run.kind;
        begins = subst (FromRemoved p kept l.rows l.rows q []) (sym run.begins) from;
        lawful = run.lawful;
        ends = run.ends;
        few = run.few;
      },
    )

module _ (p : Problem) (kept at : List Mark) (l : Leaving) (q : Problem) (budget : ℕ) (is : q ≡ without l p) (from : FromRemoved p kept l.rows l.rows q [] at) where
  left-unfit : (path : UnfitPath) → IsStopOf false q q.rows (FromHere at) budget (UnfitRun path) → IsStopOf false q q.rows (FromRemoved p kept l.rows l.rows q) budget (UnfitRun path)
  left-unfit path (primal, few, unfit) = (primal, few, unfit-added q q.rows (FromRemoved p kept l.rows l.rows q) at path.path path.quantity from unfit)

  left-spent : (path : Path) → IsStopOf false q q.rows (FromHere at) budget (SpentRun path) → IsStopOf false q q.rows (FromRemoved p kept l.rows l.rows q) budget (SpentRun path)
  left-spent path (primal, spent) = (
    primal,
    record {
      begins = subst (FromRemoved p kept l.rows l.rows q []) (sym spent.begins.1) from;
      lawful = spent.lawful;
      count = spent.count;
      no_end = spent.no_end;
    },
  )

  pub end_stop : (stop : RequestStop) → IsEndStop q at budget stop → IsRemoveStop p kept l budget stop
  end_stop (Conflict by) h = absurd h
  end_stop (Unfit still path) h = inr (h.0, subst (λ (r : Problem). IsStopOf false r r.rows (FromRemoved p kept l.rows l.rows r) budget (UnfitRun path)) is (left-unfit path h.1))
  end_stop (Spent path) h = subst (λ (r : Problem). IsStopOf false r r.rows (FromRemoved p kept l.rows l.rows r) budget (SpentRun path)) is (left-spent path h)
  end_stop OutOfMemory h = tt

-- a mark of the row as one of the list
pub has_mark : (at : List Mark) (id : ℕ) → HasMarkIn at id → Any (λ m. m.row ≡ Held id) at
has_mark at id (inl u) = row_there at (record { row = Held id; side = Under }) u
has_mark at id (inr o) = row_there at (record { row = Held id; side = Over }) o

-- none has gone at first
pub gone_first : (c : CornerView) → NoNegativeValue c.problem c.marks → DoStand c.problem c.marks → HaveGone c.problem c.marks [] [] c
gone_first c up standing = record { problem = refl; comes = comes_here c.problem c.marks; values = up; standing = standing }

-- ---- attributes that no row names have gone

each-tail : (P : Line → Type 0) (rows : List Row) (ls : List Line) → Each P (map line_of_row rows ++ ls) → Each (λ r. P (line_of_row r)) rows × Each P ls
each-tail P [] ls h = (tt, h)
each-tail P (r ∷ rows) ls h = let k = each-tail P rows ls h.1 in ((h.0, k.0), k.1)

-- for what does not speak of levels
less-stays : (P : Line → Type 0) (attr n k : ℕ) (stays : List Stay) → ((a b : ℕ) (s : Stay) → P (line_of_stay a s) → P (line_of_stay b s)) → Each P (stay_lines n stays) → Each P (stay_lines k (filter (other_stay attr) stays))
less-stays P attr n k [] move h = tt
less-stays P attr n k (s ∷ stays) move h = elim (cases_Bool (nat_eq s.attr attr)) [
  | inl on ↦ subst (λ (ss : List Stay). Each P (stay_lines k ss)) (sym (ap (λ (b : Bool). cond (cond b false true) (s ∷ filter (other_stay attr) stays) (filter (other_stay attr) stays)) on)) (less-stays P attr (n + 1) k stays move h.1)
  | inr off ↦ subst (λ (ss : List Stay). Each P (stay_lines k ss)) (sym (ap (λ (b : Bool). cond (cond b false true) (s ∷ filter (other_stay attr) stays) (filter (other_stay attr) stays)) off)) (move n k s h.0, less-stays P attr (n + 1) (k + 1) stays move h.1)
]

less-lines : (P : Line → Type 0) (attr : ℕ) (p : Problem) → ((a b : ℕ) (s : Stay) → P (line_of_stay a s) → P (line_of_stay b s)) → Each P (lines p) → Each P (lines (without_attr attr p))
less-lines P attr p move h =
    let k = each-tail P p.rows (stay_lines 1001 p.stays) h in
    each-whole P p.rows (stay_lines 1001 (filter (other_stay attr) p.stays)) k.0 (less-stays P attr 1001 1001 p.stays move k.1)

less-up : (p : Problem) (at : List Mark) (attr : ℕ) → NoNegativeValue p at → NoNegativeValue (without_attr attr p) at
less-up p at attr (x, stands, up) =
    let known = each-both (λ l. Contains (map place (marks_of (lines p))) (place_of l.name Under)) (λ l. Contains (map place (marks_of (lines p))) (place_of l.name Over)) (lines p)
    (each-impl (λ l. Contains (map place (marks_of (lines p))) (place_of l.name Under) × Contains (map place (marks_of (lines p))) (place_of l.name Over)) _ (lines p) (λ l h. h.0) (here-in (lines p)))
    (each-impl (λ l. Contains (map place (marks_of (lines p))) (place_of l.name Under) × Contains (map place (marks_of (lines p))) (place_of l.name Over)) _ (lines p) (λ l h. h.1) (here-in (lines p))) in
    let left = less-lines (λ l. Contains (map place (marks_of (lines p))) (place_of l.name Under) × Contains (map place (marks_of (lines p))) (place_of l.name Over)) attr p (λ a b s h. h) known in (
      x,
      (
        All-from_recursion (λ l. value_at x.num (equation l) ≡ pos 0) (lines (without_attr attr p)) (less-lines (λ l. value_at x.num (equation l) ≡ pos 0) attr p (λ a b s h. h) (recursion_from_All (λ l. value_at x.num (equation l) ≡ pos 0) (lines p) stands.0)),
        All-from_recursion (λ m. (IsIn (place m) at → ⊥) → x.num (place m) ≡ pos 0) (marks_of (lines (without_attr attr p)))
            (each_marks (λ v. (IsIn v at → ⊥) → x.num v ≡ pos 0) (lines (without_attr attr p))
            (each-impl (λ l. Contains (map place (marks_of (lines p))) (place_of l.name Under) × Contains (map place (marks_of (lines p))) (place_of l.name Over)) (λ l. (IsIn (place_of l.name Under) at → ⊥) → x.num (place_of l.name Under) ≡ pos 0) (lines (without_attr attr p)) (λ l h out. nothing_outside p at x (place_of l.name Under) stands h.0 out) left)
            (each-impl (λ l. Contains (map place (marks_of (lines p))) (place_of l.name Under) × Contains (map place (marks_of (lines p))) (place_of l.name Over)) (λ l. (IsIn (place_of l.name Over) at → ⊥) → x.num (place_of l.name Over) ≡ pos 0) (lines (without_attr attr p)) (λ l h out. nothing_outside p at x (place_of l.name Over) stands h.1 out) left)),
      ),
      up,
    )

pub attrs_up : (attrs : List ℕ) (p : Problem) (at : List Mark) → NoNegativeValue p at → NoNegativeValue (without_attrs attrs p) at
attrs_up [] p at h = h
attrs_up (a ∷ attrs) p at h = attrs_up attrs (without_attr a p) at (less-up p at a h)

-- ---- rows have gone, and then attributes

module _ (p : Problem) (kept : List Mark) (rows attrs : List ℕ) (old mid : CornerView) (gone : HaveGone p kept rows rows old) (is : mid.problem ≡ without_attrs attrs old.problem) (marks : mid.marks ≡ old.marks) (ordered : mid.marks ≡ in_order mid.problem mid.marks) where
  what : Leaving
  what = record { rows = rows; attrs = attrs }

  all-gone : mid.problem ≡ without (record { rows = rows; attrs = attrs }) p
  all-gone = is ∙ ap (without_attrs attrs) gone.problem

  from-gone : FromRemoved p kept rows rows mid.problem [] mid.marks
  from-gone = (refl, subst (ComesFrom p kept rows rows) (sym marks) gone.comes, ordered)

  pub gone_path : (budget : ℕ) (last : List Mark) → (path : Path) × IsRun false mid.problem (λ at. at ≡ mid.marks) budget last path → HasRemoved p kept (record { rows = rows; attrs = attrs }) budget last
  gone_path budget last run = left_path p kept mid.marks last (record { rows = rows; attrs = attrs }) mid.problem budget all-gone from-gone run

  pub gone_stop : (budget : ℕ) (stop : RequestStop) → IsEndStop mid.problem mid.marks budget stop → IsRemoveStop p kept (record { rows = rows; attrs = attrs }) budget stop
  gone_stop budget stop h = end_stop p kept mid.marks (record { rows = rows; attrs = attrs }) mid.problem budget all-gone from-gone stop h
