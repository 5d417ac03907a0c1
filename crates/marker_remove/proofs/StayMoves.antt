-- Where a mark of a row grows, and none of the row is inside, an inside mark of a stay moves.
use Rattle.std.proofs.Common.{◌≡◌, ◌≢◌, ◌∙◌, ◌⊎◌, ℕ, zero, suc, ◌+◌, ◌++◌, List, [], ◌∷◌, map, ℤ, pos, ◌+ℤ◌, ◌-ℤ◌, ◌*ℤ◌, ◌<ℤ◌, refl, sym, ap, subst, arith, All, Any, Contains, slice_get, inl, inr}
use Rattle.std.specs.List.{AllByRecursion as Each}
use Rattle.std.proofs.lemmas.List.Elements.{recursion_from_All}
use borrow.Author.Differences.{ints}
use Rattle.frac_core.proofs.Integers.{mul-zero_ℤ, sign_cases}
use Rattle.problem_core.specs.declared.parts.Mark.{Mark}
use Rattle.problem_core.specs.declared.parts.RowName.TheVariants.{Held, Stay as StayOf}
use Rattle.problem_core.specs.declared.parts.Side.{Side}
use Rattle.problem_core.specs.declared.parts.Side.TheVariants.{Under, Over}
use Rattle.problem_core.specs.declared.parts.Stay.{Stay}
use Rattle.problem_core.specs.declared.parts.Term.{Term}
use Rattle.std.specs.Prelude.{Some}
use Rattle.problem_core.specs.declared.stops.What.{What}
use Rattle.problem_core.specs.declared.stops.What.TheVariants.{Mark as MarkOf}
use Rattle.problem_core.specs.Kept.{IsRow, IsStay, IsWhole}
use Rattle.problem_core.specs.Layout.{HasStay, IsCovered, Line, Problem, Row, line_of_row, line_of_stay, lines, stay_lines, value_at}
use Rattle.problem_core.specs.Corners.{IsIn, attr_column, equation, marks_of, place, place_of}
use Rattle.problem_core.specs.Rays.{IsRay}
use Rattle.problem_core.proofs.Forms.{each-both, each-impl}
use Rattle.corner_laws.proofs.Counting.{sides_apart}
use Rattle.corner_laws.proofs.PathEnds.Ends.{decided, first-rows}
use Rattle.corner_laws.proofs.LevelCosts.Gaps.{no_gap}
use Rattle.corner_laws.proofs.WrittenValues.{contains_each}
use Rattle.corner_laws.proofs.ZeroColumns.{here-in}
use Rattle.corner_lines.proofs.Lines.MarkForms.{same-name}
use Rattle.corner_view.specs.Seen.{AreMovers, CornerView, IsKeptCorner, IsNamed, IsOutside, MovesWith}
use Rattle.corner_ends.proofs.Marks.{contained, got_holds, mark_is}
use Rattle.marker_remove.specs.Freed.{HasMarkIn, IsStayMover}
use Rattle.corner_view.proofs.Facts.{stays_part}
use Rattle.problem_core.proofs.RowNames.{held-not-stay as held-stay}
use Rattle.frac_core.proofs.Numbers.{signed-not-zero as not_zero}

-- ---- the lines of rows and of stays

-- the row with this number
pub row_at : (P : Row → Type 0) (rows : List Row) (id : ℕ) → Each P rows → Any (λ r. r.id ≡ id) rows → (r : Row) × (r.id ≡ id) × P r
row_at P [] id h (k, r, within, is, e) = absurd (omega (arith, within))
row_at P (q ∷ rows) id h (zero, r, within, is, e) = (q, ap (λ (s : Row). s.id) is ∙ e, h.0)
row_at P (q ∷ rows) id h (suc k, r, within, is, e) = row_at P rows id h.1 (k, r, omega (arith, within), is, e)

-- what holds of each stay's attribute holds of each attribute that has a stay
pub stay_at : (P : ℕ → Type 0) (stays : List Stay) (a : ℕ) → Each (λ s. P s.attr) stays → HasStay stays a → P a
stay_at P [] a h (k, s, within, is, e) = absurd (omega (arith, within))
stay_at P (t ∷ stays) a h (zero, s, within, is, e) = subst P (ap (λ (u : Stay). u.attr) is ∙ e) h.0
stay_at P (t ∷ stays) a h (suc k, s, within, is, e) = stay_at P stays a h.1 (k, s, omega (arith, within), is, e)

-- ---- a stay's mark is found, or all of them rest

-- it is inside, a stay's, and moves
pub record IsMoving (at : List Mark) (ray : ℕ → ℤ) (m : Mark) : Type 0 where
  pub attr : ℕ
  pub stay : m.row ≡ StayOf attr
  pub inside : IsIn (place m) at
  pub moves : ray (place m) ≢ pos 0

-- the marks of the stay do not move where they are inside
abbrev DoesRest : List Mark → (ℕ → ℤ) → Stay → Type 0
DoesRest at ray s = (side : Side) → IsIn (place_of (StayOf s.attr) side) at → ray (place_of (StayOf s.attr) side) ≡ pos 0

look-side : (at : List Mark) (ray : ℕ → ℤ) (s : Stay) (side : Side) → ((m : Mark) × IsMoving at ray m) ⊎ (IsIn (place_of (StayOf s.attr) side) at → ray (place_of (StayOf s.attr) side) ≡ pos 0)
look-side at ray s side = elim (decided at (record { row = StayOf s.attr; side = side })) [
  | inl i ↦ elim (sign_cases (ray (place_of (StayOf s.attr) side))) [
    | inl z ↦ inr (λ j. z)
    | inr n ↦ inl (record { row = StayOf s.attr; side = side }, record { attr = s.attr; stay = refl; inside = i; moves = not_zero (ray (place_of (StayOf s.attr) side)) n })
  ]
  | inr o ↦ inr (λ j. absurd (o j))
]

both-rest : (at : List Mark) (ray : ℕ → ℤ) (s : Stay) → (IsIn (place_of (StayOf s.attr) Under) at → ray (place_of (StayOf s.attr) Under) ≡ pos 0) → (IsIn (place_of (StayOf s.attr) Over) at → ray (place_of (StayOf s.attr) Over) ≡ pos 0) → DoesRest at ray s
both-rest at ray s u o Under = u
both-rest at ray s u o Over = o

look : (at : List Mark) (ray : ℕ → ℤ) (stays : List Stay) → ((m : Mark) × IsMoving at ray m) ⊎ Each (DoesRest at ray) stays
look at ray [] = inr tt
look at ray (s ∷ stays) = elim (look-side at ray s Under) [
  | inl m ↦ inl m
  | inr u ↦ elim (look-side at ray s Over) [
    | inl m ↦ inl m
    | inr o ↦ elim (look at ray stays) [
      | inl m ↦ inl m
      | inr rest ↦ inr (both-rest at ray s u o, rest)
    ]
  ]
]

-- ---- where they rest no attribute moves

single-still : (u o a : ℤ) → u ≡ pos 0 → o ≡ pos 0 → (u -ℤ o) +ℤ (pos 1 *ℤ a +ℤ pos 0) ≡ pos 0 → a ≡ pos 0
single-still u o a e f h = omega (arith, ints, e, f, h)

abbrev pub HasMarks : Problem → Line → Type 0
HasMarks p l = Contains (map place (marks_of (lines p))) (place_of l.name Under) × Contains (map place (marks_of (lines p))) (place_of l.name Over)

module _ (p : Problem) (at : List Mark) (id : ℕ) (side : Side) (ray : ℕ → ℤ) (is : IsRay p at (place_of (Held id) side) ray) where
  outside-rests : (c : ℕ) → Contains (map place (marks_of (lines p))) c → (IsIn c at → ⊥) → c ≢ place_of (Held id) side → ray c ≡ pos 0
  outside-rests c mark out ne =
      contains_each (λ v. (IsIn v at → ⊥) → v ≢ place_of (Held id) side → ray v ≡ pos 0) (marks_of (lines p)) c
      (recursion_from_All (λ m. (IsIn (place m) at → ⊥) → place m ≢ place_of (Held id) side → ray (place m) ≡ pos 0) (marks_of (lines p)) is.other) mark out ne

  stay-rests : (s : Stay) (to : Side) → DoesRest at ray s → Contains (map place (marks_of (lines p))) (place_of (StayOf s.attr) to) → ray (place_of (StayOf s.attr) to) ≡ pos 0
  stay-rests s to rest mark = elim (decided at (record { row = StayOf s.attr; side = to })) [
    | inl i ↦ rest to i
    | inr o ↦ outside-rests (place_of (StayOf s.attr) to) mark o (λ e. held-stay id s.attr (sym (same-name (StayOf s.attr) (Held id) to side e)))
  ]

  attr-still : (n : ℕ) (s : Stay) → IsStay s → DoesRest at ray s → value_at ray (equation (line_of_stay n s)) ≡ pos 0 → HasMarks p (line_of_stay n s) → ray (attr_column s.attr) ≡ pos 0
  attr-still n s kept rest holds marks =
      single-still (ray (place_of (StayOf s.attr) Under)) (ray (place_of (StayOf s.attr) Over)) (ray (attr_column s.attr))
      (stay-rests s Under rest marks.0) (stay-rests s Over rest marks.1) (no_gap ray (line_of_stay n s) kept.target.lowest.above is.still holds)

  attrs-still : (n : ℕ) (stays : List Stay) → Each IsStay stays → Each (DoesRest at ray) stays → Each (λ l. (value_at ray (equation l) ≡ pos 0) × HasMarks p l) (stay_lines n stays) → Each (λ s. ray (attr_column s.attr) ≡ pos 0) stays
  attrs-still n [] kept rest h = tt
  attrs-still n (s ∷ stays) kept rest h = (attr-still n s kept.0 rest.0 h.0.0 h.0.1, attrs-still (n + 1) stays kept.1 rest.1 h.1)

  form-still : (form : List Term) → Each (λ t. ray (attr_column t.attr) ≡ pos 0) form → value_at (λ v. ray (attr_column v)) form ≡ pos 0
  form-still [] h = refl
  form-still (t ∷ form) h =
      let first : t.by *ℤ ray (attr_column t.attr) ≡ pos 0 = ap (λ (z : ℤ). t.by *ℤ z) h.0 ∙ mul-zero_ℤ t.by in
      let rest = form-still form h.1 in
      omega (arith, ints, first, rest)

  -- so the row would not move, against its mark
  row-moves : (to : Side) → side ≡ to → (u o f : ℤ) → u ≡ ray (place_of (Held id) Under) → o ≡ ray (place_of (Held id) Over) → f ≡ pos 0 → (u -ℤ o) +ℤ f ≡ pos 0 → Contains (map place (marks_of (lines p))) (place_of (Held id) Under) → Contains (map place (marks_of (lines p))) (place_of (Held id) Over) → (HasMarkIn at id → ⊥) → ⊥
  row-moves Under e u o f eu eo ef gap under over out =
      let rests : ray (place_of (Held id) Over) ≡ pos 0 = outside-rests (place_of (Held id) Over) over (λ i. out (inr i)) (λ q. sides_apart (Held id) (Held id) (q ∙ ap (place_of (Held id)) e)) in
      let here : pos 0 <ℤ ray (place_of (Held id) Under) = subst (λ (t : Side). pos 0 <ℤ ray (place_of (Held id) t)) e is.here in
      omega (arith, ints, eu, eo, ef, gap, rests, here)
  row-moves Over e u o f eu eo ef gap under over out =
      let rests : ray (place_of (Held id) Under) ≡ pos 0 = outside-rests (place_of (Held id) Under) under (λ i. out (inl i)) (λ q. sides_apart (Held id) (Held id) (sym (q ∙ ap (place_of (Held id)) e))) in
      let here : pos 0 <ℤ ray (place_of (Held id) Over) = subst (λ (t : Side). pos 0 <ℤ ray (place_of (Held id) t)) e is.here in
      omega (arith, ints, eu, eo, ef, gap, rests, here)

  pub some_moves : IsWhole p → Any (λ r. r.id ≡ id) p.rows → (HasMarkIn at id → ⊥) → (m : Mark) × IsMoving at ray m
  some_moves whole held out = elim (look at ray p.stays) [
    | inl m ↦ m
    | inr rest ↦
        let both : Each (λ l. (value_at ray (equation l) ≡ pos 0) × HasMarks p l) (lines p) =
        each-both (λ l. value_at ray (equation l) ≡ pos 0) (HasMarks p) (lines p) (recursion_from_All (λ l. value_at ray (equation l) ≡ pos 0) (lines p) is.holds) (here-in (lines p)) in
        let still : Each (λ s. ray (attr_column s.attr) ≡ pos 0) p.stays =
        attrs-still 1001 p.stays (recursion_from_All IsStay p.stays whole.stays) rest (stays_part (λ l. (value_at ray (equation l) ≡ pos 0) × HasMarks p l) p.rows (stay_lines 1001 p.stays) both) in
        let row = row_at (λ r. ((value_at ray (equation (line_of_row r)) ≡ pos 0) × HasMarks p (line_of_row r)) × (IsRow r × IsCovered p.stays r)) p.rows id
        (each-both (λ r. (value_at ray (equation (line_of_row r)) ≡ pos 0) × HasMarks p (line_of_row r)) (λ r. IsRow r × IsCovered p.stays r) p.rows
        (first-rows (λ l. (value_at ray (equation l) ≡ pos 0) × HasMarks p l) p.rows (stay_lines 1001 p.stays) both)
        (each-both IsRow (IsCovered p.stays) p.rows (recursion_from_All IsRow p.rows whole.rows) (recursion_from_All (IsCovered p.stays) p.rows whole.covered))) held in
        let r : Row = row.0 in
        let form : value_at (λ v. ray (attr_column v)) r.terms ≡ pos 0 =
        form-still r.terms (each-impl (λ t. HasStay p.stays t.attr) (λ t. ray (attr_column t.attr) ≡ pos 0) r.terms (λ t h. stay_at (λ a. ray (attr_column a) ≡ pos 0) p.stays t.attr still h) (recursion_from_All (λ t. HasStay p.stays t.attr) r.terms row.2.1.1)) in
        absurd (row-moves side refl (ray (place_of (Held r.id) Under)) (ray (place_of (Held r.id) Over)) (value_at (λ v. ray (attr_column v)) r.terms)
        (ap (λ (n : ℕ). ray (place_of (Held n) Under)) row.1) (ap (λ (n : ℕ). ray (place_of (Held n) Over)) row.1) form
        (no_gap ray (line_of_row r) row.2.1.0.constant.lowest.above is.still row.2.0.0)
        (subst (λ (n : ℕ). Contains (map place (marks_of (lines p))) (place_of (Held n) Under)) row.1 row.2.0.1.0)
        (subst (λ (n : ℕ). Contains (map place (marks_of (lines p))) (place_of (Held n) Over)) row.1 row.2.0.1.1) out)
  ]

-- so it can be exchanged for the row's mark
pub stay_mover : (p : Problem) (at : List Mark) (id : ℕ) (side : Side) → IsKeptCorner p at → Any (λ r. r.id ≡ id) p.rows → (HasMarkIn at id → ⊥) → IsOutside p at (record { row = Held id; side = side }) → (m : Mark) × IsStayMover p at (record { row = Held id; side = side }) m
stay_mover p at id side kept held none out =
    let ray = kept.rays (place_of (Held id) side) out.0 out.1 in
    let m = some_moves p at id side ray.0 ray.1 kept.whole held none in
    (m.0, record { attr = m.1.attr; stay = m.1.stay; moves = (place m.0, (m.1.inside, refl), (ray.0, ray.1, m.1.moves)) })

-- the row has a line
pub row_named : (p : Problem) (id : ℕ) → Any (λ r. r.id ≡ id) p.rows → IsNamed p (Held id)
row_named p id h = rows p.rows h
  where
    rows : (rs : List Row) → Any (λ r. r.id ≡ id) rs → Any (λ l. l.name ≡ Held id) (map line_of_row rs ++ stay_lines 1001 p.stays)
    rows [] (k, r, within, is, e) = absurd (omega (arith, within))
    rows (q ∷ rs) (zero, r, within, is, e) = (0, line_of_row q, omega arith, refl, ap Held (ap (λ (s : Row). s.id) is ∙ e))
    rows (q ∷ rs) (suc k, r, within, is, e) = let h = rows rs (k, r, omega (arith, within), is, e) in (suc h.0, h.1, (let less = h.2 in omega (arith, less)), h.3, h.4)

-- ---- what moves is looked through

-- it is no mark of a stay
abbrev pub IsNoStay : What → Type 0
IsNoStay what = (m : Mark) (attr : ℕ) → what ≡ MarkOf m → m.row ≡ StayOf attr → ⊥

-- a stay's mark that moves comes
pub stays_run_out : (v : CornerView) (enter : Mark) (whats : List What) → AreMovers v enter whats → ((m : Mark) × IsStayMover v.problem v.marks enter m) → All IsNoStay whats → ⊥
stays_run_out v enter whats are (m, h) none = contained IsNoStay whats (MarkOf m) none (are.all (MarkOf m) h.moves) m h.attr refl h.stay

pub stay_found : (v : CornerView) (enter : Mark) (whats : List What) (i : ℕ) (what : What) (m : Mark) (attr : ℕ) → AreMovers v enter whats → slice_get whats i ≡ Some what → what ≡ MarkOf m → m.row ≡ StayOf attr → IsStayMover v.problem v.marks enter m
stay_found v enter whats i what m attr are got is stay =
    record { attr = attr; stay = stay; moves = subst (MovesWith v.problem v.marks enter) is (got_holds (MovesWith v.problem v.marks enter) whats i what are.move got) }

-- where no mark of the row is inside
pub row_outside : (p : Problem) (at : List Mark) (id : ℕ) (m : Mark) → m ≡ record { row = Held id; side = Over } → Any (λ r. r.id ≡ id) p.rows → (HasMarkIn at id → ⊥) → IsOutside p at m
row_outside p at id m e held none = (mark_is p m (Held id) Over e (row_named p id held), λ i. none (inr (subst (λ (k : Mark). IsIn (place k) at) e i)))

pub some_mover : (p : Problem) (at : List Mark) (id : ℕ) (m : Mark) → m ≡ record { row = Held id; side = Over } → IsKeptCorner p at → Any (λ r. r.id ≡ id) p.rows → (HasMarkIn at id → ⊥) → (k : Mark) × IsStayMover p at m k
some_mover p at id m e kept held none =
    subst (λ (h : Mark). (k : Mark) × IsStayMover p at h k) (sym e)
    (stay_mover p at id Over kept held none (row_outside p at id (record { row = Held id; side = Over }) refl held none))
