-- The marks and lines that are left where rows have gone.
use Rattle.std.proofs.Common.{◌≡◌, ◌≢◌, ◌∙◌, ℕ, zero, suc, ◌+◌, ◌++◌, Bool, true, false, cond, List, [], ◌∷◌, filter, map, ℤ, pos, ◌≤ℤ◌, refl, sym, ap, subst, arith, Any, Contains, inl, inr, eq-eqb, ne_eqb, true≢false}
use Rattle.std.specs.List.{AllByRecursion as Each}
use Rattle.std.proofs.lemmas.Bool.{cases_Bool, cases_eq}
use Rattle.std.proofs.lemmas.List.Elements.{All-from_recursion, recursion_from_All}
use Rattle.problem_core.specs.declared.parts.Mark.{Mark}
use Rattle.problem_core.specs.declared.parts.RowName.{RowName}
use Rattle.problem_core.specs.declared.parts.RowName.TheVariants.{Held}
use Rattle.problem_core.specs.declared.parts.Side.{Side}
use Rattle.problem_core.specs.declared.parts.Side.TheVariants.{Under, Over}
use Rattle.problem_core.specs.declared.parts.Stay.{Stay}
use Rattle.problem_core.specs.Changes.Begins.{is_one_of, is_row, without_marks}
use Rattle.problem_core.specs.Layout.{Line, Problem, Row, line_of_row, lines, stay_lines, value_at}
use Rattle.problem_core.specs.Corners.{IsIn, NoNegativeValue, Point, SameMarks, StandsAt, Swap, equation, exchanged, marks_of, place, place_of}
use Rattle.problem_core.specs.Rays.{IsRay}
use Rattle.problem_core.proofs.Forms.{each-both, each-impl}
use Rattle.corner_laws.proofs.Swaps.ColumnsStay.{each_marks}
use Rattle.corner_laws.proofs.Exchanged.{exchanged_in}
use Rattle.corner_laws.proofs.RunSteps.RunPaths.{contains_in}
use Rattle.corner_laws.proofs.WrittenValues.{contains_each, nothing_outside}
use Rattle.corner_laws.proofs.ZeroColumns.{here-in}
use Rattle.corner_lines.specs.Removals.{without_row}
use Rattle.corner_ends.proofs.Marks.{one_mark}
use Rattle.marker_remove.specs.Freed.{DoStand}
use Rattle.layout_solver.specs.Removals.{without_rows}
use Rattle.corner_lines.proofs.ProblemChanges.Dropped.{filter-on, filter-off, other_row, lines-left}
use Rattle.corner_laws.proofs.MarkWritings.Directions.{each-of}
use Rattle.marker_remove.proofs.StayMoves.{HasMarks}
use Rattle.problem_core.proofs.Marks.{kept-rows as all-far, mark-there as mark_there, entered-in as enter_in, kept-in as kept_in, later-in, in-list as in_list}

-- ---- rows by number

pub is_row-own : (a b : ℕ) → a ≡ b → is_row b (Held a) ≡ true
is_row-own a b e = eq-eqb a b e

pub is_row-other : (a b : ℕ) → a ≢ b → is_row b (Held a) ≡ false
is_row-other a b n = ne_eqb a b n

-- one of more
pub far_both : (ids : List ℕ) (id : ℕ) (name : RowName) → is_one_of ids name ≡ false → is_row id name ≡ false → is_one_of (ids ++ id ∷ []) name ≡ false
far_both [] id name a b = ap (λ (t : Bool). cond t true false) b
far_both (i ∷ ids) id name a b = elim (cases_Bool (is_row i name)) [
  | inl on ↦ absurd (true≢false (sym (ap (λ (t : Bool). cond t true (is_one_of ids name)) on) ∙ a))
  | inr off ↦ ap (λ (t : Bool). cond t true (is_one_of (ids ++ id ∷ []) name)) off
      ∙ far_both ids id name (sym (ap (λ (t : Bool). cond t true (is_one_of ids name)) off) ∙ a) b
]

pub far_parts : (ids : List ℕ) (id : ℕ) (name : RowName) → is_one_of (ids ++ id ∷ []) name ≡ false → (is_one_of ids name ≡ false) × (is_row id name ≡ false)
far_parts [] id name e = elim (cases_Bool (is_row id name)) [
  | inl on ↦ absurd (true≢false (sym (ap (λ (t : Bool). cond t true false) on) ∙ e))
  | inr off ↦ (refl, off)
]
far_parts (i ∷ ids) id name e = elim (cases_Bool (is_row i name)) [
  | inl on ↦ absurd (true≢false (sym (ap (λ (t : Bool). cond t true (is_one_of (ids ++ id ∷ []) name)) on) ∙ e))
  | inr off ↦
      let h = far_parts ids id name (sym (ap (λ (t : Bool). cond t true (is_one_of (ids ++ id ∷ []) name)) off) ∙ e) in
      (ap (λ (t : Bool). cond t true (is_one_of ids name)) off ∙ h.0, h.1)
]

pub one_more : (ids more : List ℕ) (name : RowName) → is_one_of ids name ≡ true → is_one_of (ids ++ more) name ≡ true
one_more [] more name e = absurd (true≢false (sym e))
one_more (i ∷ ids) more name e = elim (cases_Bool (is_row i name)) [
  | inl on ↦ ap (λ (t : Bool). cond t true (is_one_of (ids ++ more) name)) on
  | inr off ↦ ap (λ (t : Bool). cond t true (is_one_of (ids ++ more) name)) off ∙ one_more ids more name (sym (ap (λ (t : Bool). cond t true (is_one_of ids name)) off) ∙ e)
]

pub one_last : (ids : List ℕ) (id : ℕ) → is_one_of (ids ++ id ∷ []) (Held id) ≡ true
one_last [] id = ap (λ (t : Bool). cond t true false) (is_row-own id id refl)
one_last (i ∷ ids) id = elim (cases_Bool (is_row i (Held id))) [
  | inl on ↦ ap (λ (t : Bool). cond t true (is_one_of (ids ++ id ∷ []) (Held id))) on
  | inr off ↦ ap (λ (t : Bool). cond t true (is_one_of (ids ++ id ∷ []) (Held id))) off ∙ one_last ids id
]

pub none_of : (ids : List ℕ) (id : ℕ) → Each (λ (i : ℕ). i ≢ id) ids → is_one_of ids (Held id) ≡ false
none_of [] id h = refl
none_of (i ∷ ids) id h = ap (λ (t : Bool). cond t true (is_one_of ids (Held id))) (is_row-other id i (λ e. h.0 (sym e))) ∙ none_of ids id h.1

-- ---- marks

marks-on : (ids : List ℕ) (m : Mark) (ms : List Mark) → is_one_of ids m.row ≡ true → without_marks ids (m ∷ ms) ≡ without_marks ids ms
marks-on ids m ms e = ap (λ (b : Bool). cond (cond b false true) (m ∷ without_marks ids ms) (without_marks ids ms)) e

marks-off : (ids : List ℕ) (m : Mark) (ms : List Mark) → is_one_of ids m.row ≡ false → without_marks ids (m ∷ ms) ≡ m ∷ without_marks ids ms
marks-off ids m ms e = ap (λ (b : Bool). cond (cond b false true) (m ∷ without_marks ids ms) (without_marks ids ms)) e

pub far_in : (ids : List ℕ) (ms : List Mark) (m : Mark) → is_one_of ids m.row ≡ false → IsIn (place m) ms → IsIn (place m) (without_marks ids ms)
far_in ids [] m far (k, within, is) = absurd (omega (arith, within))
far_in ids (n ∷ ms) m far (zero, within, is) =
    subst (IsIn (place m)) (sym (marks-off ids n ms (ap (λ (k : Mark). is_one_of ids k.row) (sym (one_mark m n is)) ∙ far))) (0, omega arith, is)
far_in ids (n ∷ ms) m far (suc k, within, is) = elim (cases_Bool (is_one_of ids n.row)) [
  | inl on ↦ subst (IsIn (place m)) (sym (marks-on ids n ms on)) (far_in ids ms m far (k, omega (arith, within), is))
  | inr off ↦ subst (IsIn (place m)) (sym (marks-off ids n ms off)) (later-in n (without_marks ids ms) (place m) (far_in ids ms m far (k, omega (arith, within), is)))
]

first-or-later : (c : ℕ) (m : Mark) (xs ms : List Mark) → (IsIn c xs → IsIn c ms) → IsIn c (m ∷ xs) → IsIn c (m ∷ ms)
first-or-later c m xs ms to (zero, within, is) = (0, omega arith, is)
first-or-later c m xs ms to (suc k, within, is) = later-in m ms c (to (k, omega (arith, within), is))

pub was_in : (ids : List ℕ) (ms : List Mark) (c : ℕ) → IsIn c (without_marks ids ms) → IsIn c ms
was_in ids [] c i = i
was_in ids (m ∷ ms) c i = elim (cases_Bool (is_one_of ids m.row)) [
  | inl on ↦ later-in m ms c (was_in ids ms c (subst (IsIn c) (marks-on ids m ms on) i))
  | inr off ↦ first-or-later c m (without_marks ids ms) ms (was_in ids ms c) (subst (IsIn c) (marks-off ids m ms off) i)
]

pub is_far : (ids : List ℕ) (ms : List Mark) (m : Mark) → IsIn (place m) (without_marks ids ms) → is_one_of ids m.row ≡ false
is_far ids ms m i =
    let h = mark_there (λ n. is_one_of ids n.row ≡ false) (without_marks ids ms) (place m) (all-far ids ms) i in
    ap (λ (k : Mark). is_one_of ids k.row) (one_mark m h.0 h.1) ∙ h.2

pub same_by : (a b : List Mark) → ((m : Mark) → IsIn (place m) a → IsIn (place m) b) → ((m : Mark) → IsIn (place m) b → IsIn (place m) a) → SameMarks a b
same_by a b to back = (
  All-from_recursion (λ m. IsIn (place m) b) a (each-impl (λ m. IsIn (place m) a) (λ m. IsIn (place m) b) a to (in_list a)),
  All-from_recursion (λ m. IsIn (place m) a) b (each-impl (λ m. IsIn (place m) b) (λ m. IsIn (place m) a) b back (in_list b)),
)

-- after an exchange, for a mark that is none of the rows'
pub after_free : (at full : List Mark) (ids : List ℕ) (s : Swap) → SameMarks at (without_marks ids full) → is_one_of ids s.enter.row ≡ false → IsIn (place s.leave) at → SameMarks (exchanged s at) (without_marks ids (exchanged s full))
after_free at full ids s same far leaves =
    same_by (exchanged s at) (without_marks ids (exchanged s full))
    (λ m i. elim (exchanged_in s at (place m) i) [
      | inl e ↦ subst (λ (c : ℕ). IsIn c (without_marks ids (exchanged s full))) (sym e) (far_in ids (exchanged s full) s.enter far (enter_in s full leaves-full))
      | inr old ↦
          let there : IsIn (place m) (without_marks ids full) = contains_in at (without_marks ids full) (place m) same.0 old.0 in
          far_in ids (exchanged s full) m (is_far ids full m there) (kept_in s full (place m) (was_in ids full (place m) there) old.1)
    ])
    (λ m i. elim (exchanged_in s full (place m) (was_in ids (exchanged s full) (place m) i)) [
      | inl e ↦ subst (λ (c : ℕ). IsIn c (exchanged s at)) (sym e) (enter_in s at leaves)
      | inr old ↦ kept_in s at (place m) (contains_in (without_marks ids full) at (place m) same.1 (far_in ids full m (is_far ids (exchanged s full) m i) old.0)) old.1
    ])
  where
    leaves-full : IsIn (place s.leave) full
    leaves-full = was_in ids full (place s.leave) (contains_in at (without_marks ids full) (place s.leave) same.0 leaves)

-- after one row more has gone
pub after_drop : (at full : List Mark) (ids : List ℕ) (id : ℕ) → SameMarks at (without_marks ids full) → SameMarks (without_marks (id ∷ []) at) (without_marks (ids ++ id ∷ []) full)
after_drop at full ids id same =
    same_by (without_marks (id ∷ []) at) (without_marks (ids ++ id ∷ []) full)
    (λ m i.
    let there : IsIn (place m) (without_marks ids full) = contains_in at (without_marks ids full) (place m) same.0 (was_in (id ∷ []) at (place m) i) in
    far_in (ids ++ id ∷ []) full m (far_both ids id m.row (is_far ids full m there) (far_parts [] id m.row (is_far (id ∷ []) at m i)).1) (was_in ids full (place m) there))
    (λ m i.
    let far = far_parts ids id m.row (is_far (ids ++ id ∷ []) full m i) in
    far_in (id ∷ []) at m (far_both [] id m.row refl far.1)
    (contains_in (without_marks ids full) at (place m) same.1 (far_in ids full m far.0 (was_in (ids ++ id ∷ []) full (place m) i))))

pub none_gone : (ms : List Mark) → SameMarks ms (without_marks [] ms)
none_gone ms = same_by ms (without_marks [] ms) (λ m i. far_in [] ms m refl i) (λ m i. was_in [] ms (place m) i)

-- ---- lines

pub lines_gone : (P : Line → Type 0) (ids : List ℕ) (p : Problem) → Each P (lines p) → Each P (lines (without_rows ids p))
lines_gone P [] p h = h
lines_gone P (id ∷ ids) p h = lines_gone P ids (without_row id p) (lines-left P id p.rows (stay_lines 1001 p.stays) h)

stays-far : (id n : ℕ) (stays : List Stay) → Each (λ l. is_row id l.name ≡ false) (stay_lines n stays)
stays-far id n [] = tt
stays-far id n (s ∷ stays) = (refl, stays-far id (n + 1) stays)

first-far : (id : ℕ) (rows : List Row) (stays : List Stay) → Each (λ l. is_row id l.name ≡ false) (map line_of_row (filter (other_row id) rows) ++ stay_lines 1001 stays)
first-far id [] stays = stays-far id 1001 stays
first-far id (r ∷ rows) stays = elim (cases_eq r.id id) [
  | inl e ↦ subst (λ (rs : List Row). Each (λ l. is_row id l.name ≡ false) (map line_of_row rs ++ stay_lines 1001 stays)) (sym (filter-on id r rows e)) (first-far id rows stays)
  | inr n ↦ subst (λ (rs : List Row). Each (λ l. is_row id l.name ≡ false) (map line_of_row rs ++ stay_lines 1001 stays)) (sym (filter-off id r rows n)) (is_row-other r.id id n, first-far id rows stays)
]

-- no line that is left is one of the rows
pub lines_far : (ids : List ℕ) (p : Problem) → Each (λ l. is_one_of ids l.name ≡ false) (lines (without_rows ids p))
lines_far [] p = each-of (λ l. is_one_of [] l.name ≡ false) (lines p) (λ l. refl)
lines_far (id ∷ ids) p =
    each-impl (λ l. (is_row id l.name ≡ false) × (is_one_of ids l.name ≡ false)) (λ l. is_one_of (id ∷ ids) l.name ≡ false) (lines (without_rows ids (without_row id p)))
    (λ l h. ap (λ (t : Bool). cond t true (is_one_of ids l.name)) h.0 ∙ h.1)
    (each-both (λ l. is_row id l.name ≡ false) (λ l. is_one_of ids l.name ≡ false) (lines (without_rows ids (without_row id p)))
    (lines_gone (λ l. is_row id l.name ≡ false) ids (without_row id p) (first-far id p.rows p.stays)) (lines_far ids (without_row id p)))

-- each mark that is left is the problem's and none of the rows'
pub each_left : (P : ℕ → Type 0) (ids : List ℕ) (p : Problem) → ((name : RowName) (side : Side) → Contains (map place (marks_of (lines p))) (place_of name side) → is_one_of ids name ≡ false → P (place_of name side)) → Each (λ m. P (place m)) (marks_of (lines (without_rows ids p)))
each_left P ids p h =
    let known = each-both (HasMarks p) (λ l. is_one_of ids l.name ≡ false) (lines (without_rows ids p)) (lines_gone (HasMarks p) ids p (here-in (lines p))) (lines_far ids p) in
    each_marks P (lines (without_rows ids p))
    (each-impl (λ l. HasMarks p l × (is_one_of ids l.name ≡ false)) (λ l. P (place_of l.name Under)) (lines (without_rows ids p)) (λ l k. h l.name Under k.0.0 k.1) known)
    (each-impl (λ l. HasMarks p l × (is_one_of ids l.name ≡ false)) (λ l. P (place_of l.name Over)) (lines (without_rows ids p)) (λ l k. h l.name Over k.0.1 k.1) known)

pub mark_was : (ids : List ℕ) (p : Problem) (c : ℕ) → Contains (map place (marks_of (lines (without_rows ids p)))) c → Contains (map place (marks_of (lines p))) c
mark_was ids p c is =
    contains_each (λ v. Contains (map place (marks_of (lines p))) v) (marks_of (lines (without_rows ids p))) c
    (each_left (λ v. Contains (map place (marks_of (lines p))) v) ids p (λ name side k far. k)) is

-- a mark that is left is inside where it was
still-in : (ids : List ℕ) (at full : List Mark) (name : RowName) (side : Side) → SameMarks at (without_marks ids full) → is_one_of ids name ≡ false → IsIn (place_of name side) full → IsIn (place_of name side) at
still-in ids at full name side same far i =
    contains_in (without_marks ids full) at (place_of name side) same.1 (far_in ids full (record { row = name; side = side }) far i)

-- ---- rays and points

pub ray_gone : (ids : List ℕ) (p : Problem) (at full : List Mark) (c : ℕ) (ray : ℕ → ℤ) → SameMarks at (without_marks ids full) → IsRay p full c ray → IsRay (without_rows ids p) at c ray
ray_gone ids p at full c ray same r = record {
  holds = All-from_recursion (λ l. value_at ray (equation l) ≡ pos 0) (lines (without_rows ids p)) (lines_gone (λ l. value_at ray (equation l) ≡ pos 0) ids p (recursion_from_All (λ l. value_at ray (equation l) ≡ pos 0) (lines p) r.holds));
  still = r.still;
  here = r.here;
  other = All-from_recursion (λ m. (IsIn (place m) at → ⊥) → place m ≢ c → ray (place m) ≡ pos 0) (marks_of (lines (without_rows ids p)))
      (each_left (λ v. (IsIn v at → ⊥) → v ≢ c → ray v ≡ pos 0) ids p
      (λ name side is far out ne. contains_each (λ v. (IsIn v full → ⊥) → v ≢ c → ray v ≡ pos 0) (marks_of (lines p)) (place_of name side)
      (recursion_from_All (λ m. (IsIn (place m) full → ⊥) → place m ≢ c → ray (place m) ≡ pos 0) (marks_of (lines p)) r.other) is
      (λ i. out (still-in ids at full name side same far i)) ne));
}

pub stands_gone : (ids : List ℕ) (p : Problem) (at full : List Mark) (x : Point) → SameMarks at (without_marks ids full) → StandsAt p full x → StandsAt (without_rows ids p) at x
stands_gone ids p at full x same stands = (
  All-from_recursion (λ l. value_at x.num (equation l) ≡ pos 0) (lines (without_rows ids p)) (lines_gone (λ l. value_at x.num (equation l) ≡ pos 0) ids p (recursion_from_All (λ l. value_at x.num (equation l) ≡ pos 0) (lines p) stands.0)),
  All-from_recursion (λ m. (IsIn (place m) at → ⊥) → x.num (place m) ≡ pos 0) (marks_of (lines (without_rows ids p)))
      (each_left (λ v. (IsIn v at → ⊥) → x.num v ≡ pos 0) ids p (λ name side is far out. nothing_outside p full x (place_of name side) stands is (λ i. out (still-in ids at full name side same far i)))),
)

-- one row alone
abbrev alone : ℕ → List ℕ
alone id = id ∷ []

self-same : (id : ℕ) (at : List Mark) → SameMarks (without_marks (alone id) at) (without_marks (alone id) at)
self-same id at = same_by (without_marks (alone id) at) (without_marks (alone id) at) (λ m i. i) (λ m i. i)

pub values_left : (p : Problem) (at : List Mark) (id : ℕ) → NoNegativeValue p at → NoNegativeValue (without_row id p) (without_marks (id ∷ []) at)
values_left p at id (x, stands, up) = (
  x,
  stands_gone (alone id) p (without_marks (alone id) at) at x (self-same id at) stands,
  All-from_recursion (λ m. pos 0 ≤ℤ x.num (place m)) (without_marks (alone id) at)
      (each-impl (λ m. IsIn (place m) (without_marks (alone id) at)) (λ m. pos 0 ≤ℤ x.num (place m)) (without_marks (alone id) at)
      (λ m i. contains_each (λ v. pos 0 ≤ℤ x.num v) at (place m) (recursion_from_All (λ m. pos 0 ≤ℤ x.num (place m)) at up) (was_in (alone id) at (place m) i))
      (in_list (without_marks (alone id) at))),
)

pub standing_left : (p : Problem) (at : List Mark) (id : ℕ) → DoStand p at → DoStand (without_row id p) (without_marks (id ∷ []) at)
standing_left p at id h = λ i d within.
    let v = h i d within in
    (v.0, stands_gone (alone id) p (without_marks (alone id) at) at v.0 (self-same id at) v.1, v.2)

-- ---- one mark more

-- the row of a mark that is in is named there
pub row_there : (ms : List Mark) (m : Mark) → IsIn (place m) ms → Any (λ n. n.row ≡ m.row) ms
row_there [] m (k, within, is) = absurd (omega (arith, within))
row_there (n ∷ ms) m (zero, within, is) = (0, n, omega arith, refl, ap (λ (h : Mark). h.row) (sym (one_mark m n is)))
row_there (n ∷ ms) m (suc k, within, is) = let h = row_there ms m (k, omega (arith, within), is) in (suc h.0, h.1, (let less = h.2 in omega (arith, less)), h.3, h.4)
