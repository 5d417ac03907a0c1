-- Where all rows have gone, what does not fit beside the leaving attributes does not fit without them.
use Rattle.std.proofs.Common.{◌≡◌, ◌≢◌, ◌∙◌, ℕ, suc, ◌+◌, ◌≤◌, ◌++◌, Bool, false, cond, List, [], ◌∷◌, filter, length, map, refl, sym, ap, subst, arith, inl, inr, ◌⊎◌, All, AllPairs, Contains, append-nil}
use Rattle.std.specs.List.{AllByRecursion as Each}
use Rattle.std.proofs.lemmas.Bool.{cases_Bool, cases_eq}
use Rattle.std.proofs.lemmas.List.Elements.{All-from_recursion, recursion_from_All}
use Rattle.frac_core.proofs.Lists.{pairs-rest}
use Rattle.problem_core.specs.declared.parts.Mark.{Mark}
use Rattle.problem_core.specs.declared.parts.RowName.TheVariants.{Held, Stay as StayOf}
use Rattle.problem_core.specs.declared.parts.Side.{Side}
use Rattle.problem_core.specs.declared.parts.Side.TheVariants.{Under, Over}
use Rattle.problem_core.specs.declared.parts.Stay.{Stay}
use Rattle.problem_core.specs.declared.parts.Term.{Term}
use Rattle.problem_core.specs.declared.stops.What.{What}
use Rattle.problem_core.specs.declared.stops.Quantity.{Quantity}
use Rattle.problem_core.specs.declared.stops.Quantity.TheVariants.{Plain, Terms, Rows, Shifts}
use Rattle.problem_core.specs.Kept.{IsWhole}
use Rattle.problem_core.specs.Layout.{HasStay, Problem, Row, line_of_row, stay_lines}
use Rattle.problem_core.specs.Corners.{IsCorner, IsIn, NoNegativeValue, Swap, marks_of, place, place_of}
use Rattle.problem_core.specs.Changes.Paths.{IsPath, last_marks}
use Rattle.problem_core.specs.Unfit.{IsUnfitWhat}
use Rattle.problem_core.proofs.Forms.{each-impl}
use Rattle.problem_core.proofs.Marks.{no-swaps as path_here}
use Rattle.cert_core.specs.Paths.{Path}
use Rattle.cert_core.specs.Stops.{IsStopOf, IsUnfitPath}
use Rattle.cert_core.specs.declared.stops.UnfitPath.{UnfitPath}
use Rattle.cert_core.specs.declared.stops.RunStop.TheVariants.{Unfit as UnfitRun}
use Rattle.corner_laws.proofs.Counting.{head_pairs}
use Rattle.corner_laws.proofs.PathEnds.Complete.{plain_alone}
use Rattle.corner_view.specs.Seen.{in_order, is_mark}
use Rattle.corner_view.proofs.Facts.{is_in}
use Rattle.corner_lines.specs.Removals.{IsFree, without_attr, without_row}
use Rattle.corner_lines.proofs.ProblemChanges.Dropped.{other_row}
use Rattle.corner_lines.proofs.ProblemChanges.DroppedAttr.{attr_left_corner, filter-off, filter-on, other_stay, stay-out}
use Rattle.corner_lines.proofs.ProblemChanges.LeftUnfits.{left_is_unfit}
use Rattle.corner_lines.proofs.ProblemChanges.LeftWholes.{attr_left_whole, others-held, rows_left_whole}
use Rattle.layout_solver.specs.declared.request.RequestStop.{RequestStop}
use Rattle.layout_solver.specs.declared.request.RequestStop.TheVariants.{Conflict, Unfit, Spent, OutOfMemory}
use Rattle.layout_solver.specs.Removals.{CanLeave, FromRemoved, IsHeldPath, IsLeftStop, IsRemoveStop, IsStillStop, Leaving, without, without_attrs, without_rows}
use Rattle.layout_solver.proofs.Removals.LeftEnds.{attrs_up}
use Rattle.layout_solver.proofs.Removals.LeftRows.{left_free, stays_same}

-- ---- the marks are in order

abbrev was : List Mark → Mark → Bool
was at m = is_mark at (place m)

none-there : (at : List Mark) (c : ℕ) → (IsIn c at → ⊥) → is_mark at c ≡ false
none-there at c out = elim (cases_Bool (is_mark at c)) [
  | inl on ↦ absurd (out (is_in at c on))
  | inr off ↦ off
]

next : (f : Mark → Bool) (m : Mark) (xs ys : List Mark) → filter f xs ≡ filter f ys → filter f (m ∷ xs) ≡ filter f (m ∷ ys)
next f m xs ys e = ap (λ (zs : List Mark). cond (f m) (m ∷ zs) zs) e

past : (f : Mark → Bool) (m : Mark) (xs ys : List Mark) → f m ≡ false → filter f xs ≡ filter f ys → filter f xs ≡ filter f (m ∷ ys)
past f m xs ys off e = e ∙ sym (ap (λ (b : Bool). cond b (m ∷ filter f ys) (filter f ys)) off)

module _ (at : List Mark) (attr : ℕ) (out : (side : Side) → IsIn (place_of (StayOf attr) side) at → ⊥) where
  own-off : (a : ℕ) (side : Side) → a ≡ attr → is_mark at (place_of (StayOf a) side) ≡ false
  own-off a side e = none-there at (place_of (StayOf a) side) (λ i. out side (subst (λ (n : ℕ). IsIn (place_of (StayOf n) side) at) e i))

  order-stays : (n m : ℕ) (stays : List Stay) → filter (was at) (marks_of (stay_lines m (filter (other_stay attr) stays))) ≡ filter (was at) (marks_of (stay_lines n stays))
  order-stays n m [] = refl
  order-stays n m (s ∷ stays) = elim (cases_eq s.attr attr) [
    | inl e ↦
        ap (λ (ss : List Stay). filter (was at) (marks_of (stay_lines m ss))) (filter-on attr s stays e)
        ∙ past (was at) (record { row = StayOf s.attr; side = Under }) (marks_of (stay_lines m (filter (other_stay attr) stays))) (record { row = StayOf s.attr; side = Over } ∷ marks_of (stay_lines (n + 1) stays)) (own-off s.attr Under e)
        (past (was at) (record { row = StayOf s.attr; side = Over }) (marks_of (stay_lines m (filter (other_stay attr) stays))) (marks_of (stay_lines (n + 1) stays)) (own-off s.attr Over e) (order-stays (n + 1) m stays))
    | inr ne ↦
        ap (λ (ss : List Stay). filter (was at) (marks_of (stay_lines m ss))) (filter-off attr s stays ne)
        ∙ next (was at) (record { row = StayOf s.attr; side = Under }) (record { row = StayOf s.attr; side = Over } ∷ marks_of (stay_lines (m + 1) (filter (other_stay attr) stays))) (record { row = StayOf s.attr; side = Over } ∷ marks_of (stay_lines (n + 1) stays))
        (next (was at) (record { row = StayOf s.attr; side = Over }) (marks_of (stay_lines (m + 1) (filter (other_stay attr) stays))) (marks_of (stay_lines (n + 1) stays)) (order-stays (n + 1) (m + 1) stays))
  ]

  order-rows : (rows : List Row) (stays : List Stay) → filter (was at) (marks_of (map line_of_row rows ++ stay_lines 1001 (filter (other_stay attr) stays))) ≡ filter (was at) (marks_of (map line_of_row rows ++ stay_lines 1001 stays))
  order-rows [] stays = order-stays 1001 1001 stays
  order-rows (r ∷ rows) stays =
      next (was at) (record { row = Held r.id; side = Under }) (record { row = Held r.id; side = Over } ∷ marks_of (map line_of_row rows ++ stay_lines 1001 (filter (other_stay attr) stays))) (record { row = Held r.id; side = Over } ∷ marks_of (map line_of_row rows ++ stay_lines 1001 stays))
      (next (was at) (record { row = Held r.id; side = Over }) (marks_of (map line_of_row rows ++ stay_lines 1001 (filter (other_stay attr) stays))) (marks_of (map line_of_row rows ++ stay_lines 1001 stays)) (order-rows rows stays))

-- ---- the attributes that leave are in no row

abbrev AreFree : List ℕ → Problem → Type 0
AreFree [] q = Unit {0}
AreFree (a ∷ attrs) q = IsFree q a × AreFree attrs (without_attr a q)

later-attr : (a n : ℕ) (attrs : List ℕ) → Contains attrs n → Contains (a ∷ attrs) n
later-attr a n attrs (k, within, is) = (suc k, omega (arith, within), is)

are-free : (attrs : List ℕ) (q : Problem) → AllPairs (λ a b. a ≢ b) attrs → Each (HasStay q.stays) attrs → Each (λ r. Each (λ (t : Term). Contains attrs t.attr → ⊥) r.terms) q.rows → AreFree attrs q
are-free [] q apart held free = tt
are-free (a ∷ attrs) q apart held free = (
  record {
    held = held.0;
    free = All-from_recursion (λ r. All (λ t. t.attr ≢ a) r.terms) q.rows
        (each-impl (λ r. Each (λ (t : Term). Contains (a ∷ attrs) t.attr → ⊥) r.terms) (λ r. All (λ t. t.attr ≢ a) r.terms) q.rows
        (λ r h. All-from_recursion (λ t. t.attr ≢ a) r.terms (each-impl (λ (t : Term). Contains (a ∷ attrs) t.attr → ⊥) (λ t. t.attr ≢ a) r.terms (λ t g e. g (0, omega arith, sym e)) h)) free);
  },
  are-free attrs (without_attr a q) (pairs-rest (λ a b. a ≢ b) a attrs apart) (still-held attrs (recursion_from_All (λ b. a ≢ b) attrs (head_pairs (λ a b. a ≢ b) a attrs apart)) held.1)
      (each-impl (λ r. Each (λ (t : Term). Contains (a ∷ attrs) t.attr → ⊥) r.terms) (λ r. Each (λ (t : Term). Contains attrs t.attr → ⊥) r.terms) q.rows
      (λ r h. each-impl (λ (t : Term). Contains (a ∷ attrs) t.attr → ⊥) (λ (t : Term). Contains attrs t.attr → ⊥) r.terms (λ t g i. g (later-attr a t.attr attrs i)) h) free),
)
  where
    still-held : (bs : List ℕ) → Each (λ b. a ≢ b) bs → Each (HasStay q.stays) bs → Each (HasStay (filter (other_stay a) q.stays)) bs
    still-held [] n h = tt
    still-held (b ∷ bs) n h = (others-held a b q.stays (λ e. n.0 (sym e)) h.0, still-held bs n.1 h.1)

-- ---- where all rows have gone

record IsStanding (q : Problem) (at : List Mark) : Type 0 where
  whole : IsWhole q
  corner : IsCorner q at
  values : NoNegativeValue q at
  ordered : at ≡ in_order q at

attr-standing : (q : Problem) (at : List Mark) (a : ℕ) → IsFree q a → IsStanding q at → IsStanding (without_attr a q) at
attr-standing q at a free h = record {
  whole = attr_left_whole q a h.whole free;
  corner = attr_left_corner q at a h.whole h.corner free;
  values = attrs_up (a ∷ []) q at h.values;
  ordered = h.ordered ∙ sym (order-rows at a (λ side i. stay-out q at a side h.whole h.corner free i) q.rows q.stays);
}

attrs-unfit : (attrs : List ℕ) (q : Problem) (at : List Mark) (what : What) → AreFree attrs q → IsStanding q at → IsUnfitWhat q at what → IsStanding (without_attrs attrs q) at × IsUnfitWhat (without_attrs attrs q) at what
attrs-unfit [] q at what free h unfit = (h, unfit)
attrs-unfit (a ∷ attrs) q at what free h unfit = attrs-unfit attrs (without_attr a q) at what free.1 (attr-standing q at a free.0 h) (left_is_unfit q at a what h.whole h.corner free.0 unfit)

rows-whole : (ids : List ℕ) (p : Problem) → IsWhole p → IsWhole (without_rows ids p)
rows-whole [] p whole = whole
rows-whole (id ∷ ids) p whole = rows-whole ids (without_row id p) (rows_left_whole (other_row id) p whole)

attrs-whole : (attrs : List ℕ) (q : Problem) → AreFree attrs q → IsWhole q → IsWhole (without_attrs attrs q)
attrs-whole [] q free whole = whole
attrs-whole (a ∷ attrs) q free whole = attrs-whole attrs (without_attr a q) free.1 (attr_left_whole q a whole free.0)

no-exchange : (swaps : List Swap) → length swaps ≤ 0 → swaps ≡ []
no-exchange [] h = refl
no-exchange (s ∷ swaps) h = absurd (omega (arith, h))

-- a path without exchange
module _ (p : Problem) (kept : List Mark) (l : Leaving) (whole : IsWhole p) (can : CanLeave l p) where
  free : AreFree l.attrs (without_rows l.rows p)
  free =
      are-free l.attrs (without_rows l.rows p) can.attrs_apart (subst (λ (ss : List Stay). Each (HasStay ss) l.attrs) (sym (stays_same l.rows p)) (recursion_from_All (HasStay p.stays) l.attrs can.stays))
      (each-impl (λ r. All (λ t. Contains l.attrs t.attr → ⊥) r.terms) (λ r. Each (λ (t : Term). Contains l.attrs t.attr → ⊥) r.terms) (without_rows l.rows p).rows (λ r h. recursion_from_All (λ t. Contains l.attrs t.attr → ⊥) r.terms h)
      (recursion_from_All (λ r. All (λ t. Contains l.attrs t.attr → ⊥) r.terms) (without_rows l.rows p).rows (left_free l p can)))

  pub left_whole : IsWhole (without l p)
  left_whole = attrs-whole l.attrs (without_rows l.rows p) free (rows-whole l.rows p whole)

  path-left : (path : Path) (quantity : Quantity) → path.swaps ≡ [] → IsUnfitPath false (without_rows l.rows p) (without_rows l.rows p).rows (FromRemoved p kept l.rows l.rows (without_rows l.rows p)) path quantity → IsUnfitPath false (without l p) (without l p).rows (FromRemoved p kept l.rows l.rows (without l p)) path quantity
  path-left path (Plain what) none (begins, lawful, unfit) =
      let here : IsPath false (without_rows l.rows p) path.corner [] = subst (IsPath false (without_rows l.rows p) path.corner) none lawful in
      let bad : IsUnfitWhat (without_rows l.rows p) path.corner what = subst (λ (swaps : List Swap). IsUnfitWhat (without_rows l.rows p) (last_marks path.corner swaps) what) none unfit in
      let left = attrs-unfit l.attrs (without_rows l.rows p) path.corner what free (record { whole = rows-whole l.rows p whole; corner = here.corner; values = here.lawful; ordered = begins.2 }) bad in (
        (refl, begins.1, left.0.ordered),
        subst (IsPath false (without l p) path.corner) (sym none) (path_here (without l p) path.corner left.0.corner left.0.values),
        subst (λ (swaps : List Swap). IsUnfitWhat (without l p) (last_marks path.corner swaps) what) (sym none) left.1,
      )
  path-left path (Terms mark j) none (primal, still, corner, begins, unfit) = absurd (plain_alone (without_rows l.rows p) path.corner (Terms mark j) unfit)
  path-left path (Rows level j) none (still, begins, lawful, unfit) = absurd (plain_alone (without_rows l.rows p) path.corner (Rows level j) unfit)
  path-left path (Shifts what j) none (dual, still, begins, lawful, unfit) = absurd (plain_alone (without_rows l.rows p) path.corner (Shifts what j) unfit)

  -- a stop with no row still held is one of what is left
  pub held_left : (budget : ℕ) (at : UnfitPath) → IsHeldPath p kept l.rows [] at → IsLeftStop p kept l budget (UnfitRun at)
  held_left budget at h =
      let all : h.gone ≡ l.rows = sym (append-nil h.gone) ∙ h.in_order in
      let stop : IsStopOf false (without_rows l.rows p) (without_rows l.rows p).rows (FromRemoved p kept l.rows l.rows (without_rows l.rows p)) 0 (UnfitRun at) =
      subst (λ (ids : List ℕ). IsStopOf false (without_rows l.rows p) (without_rows l.rows p).rows (FromRemoved p kept ids l.rows (without_rows l.rows p)) 0 (UnfitRun at)) (append-nil l.rows)
      (subst (λ (gone : List ℕ). IsStopOf false (without_rows gone p) (without_rows gone p).rows (FromRemoved p kept (gone ++ []) gone (without_rows gone p)) 0 (UnfitRun at)) all h.stop) in (
        stop.0,
        (let few = stop.1 in omega (arith, few)),
        path-left at.path at.quantity (no-exchange at.path.swaps stop.1) stop.2,
      )

-- a stop on the way, with the rows that it tells as still held, or with none
pub still_stop : (p : Problem) (kept : List Mark) (l : Leaving) (budget : ℕ) (stop : RequestStop) → IsWhole p → CanLeave l p → IsStillStop p kept l.rows stop → IsRemoveStop p kept l budget stop
still_stop p kept l budget (Conflict by) whole can h = absurd h
still_stop p kept l budget (Unfit still at) whole can h = told still.items refl
  where
    told : (items : List ℕ) → still.items ≡ items → ((still.items ≢ []) × IsHeldPath p kept l.rows still.items at) ⊎ ((still.items ≡ []) × IsLeftStop p kept l budget (UnfitRun at))
    told [] e = inr (e, held_left p kept l whole can budget at (subst (λ (ids : List ℕ). IsHeldPath p kept l.rows ids at) e h))
    told (n ∷ items) e = inl ((λ none. absurd (let c : 0 ≡ length (n ∷ items) = ap length (sym none ∙ e) in omega (arith, c))), h)
still_stop p kept l budget (Spent path) whole can h = absurd h
still_stop p kept l budget OutOfMemory whole can h = tt
