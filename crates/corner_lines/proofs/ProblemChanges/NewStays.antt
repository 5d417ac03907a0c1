-- A corner is a corner of the problem with one attribute more, whose stay is outside.
use Rattle.std.proofs.Common.{◌≡◌, ◌≢◌, ◌∙◌, ℕ, ◌+◌, ◌<◌, ◌++◌, Bool, cond, nat_eq, List, [], ◌∷◌, map, ℤ, pos, negsuc, ◌+ℤ◌, ◌-ℤ◌, ◌*ℤ◌, ◌<ℤ◌, unsigned_abs, refl, sym, ap, ap₂, subst, arith, All, Contains, eq-eqb, ne_eqb}
use Rattle.std.specs.Int.{◌∣◌}
use Rattle.std.specs.List.{AllByRecursion as Each}
use Rattle.std.proofs.Math.Nat.{eq-one_of_dvd-one}
use Rattle.std.proofs.lemmas.List.Elements.{recursion_from_All, All-from_recursion}
use lib.IntN.{*ℤ_comm}
use borrow.Author.Differences.{ints}
use Rattle.frac_core.proofs.Integers.{mul-zero_ℤ, mul_assoc_ℤ, mul_left_comm_ℤ, mul_positive, zero-mul_ℤ, zero-add_ℤ}
use Rattle.frac_core.specs.Fraction.{Fraction}
use Rattle.problem_core.specs.declared.parts.Mark.{Mark}
use Rattle.problem_core.specs.declared.parts.RowName.{RowName}
use Rattle.problem_core.specs.declared.parts.RowName.TheVariants.{Held, Stay as StayOf}
use Rattle.problem_core.specs.declared.parts.Side.{Side}
use Rattle.problem_core.specs.declared.parts.Side.TheVariants.{Under, Over}
use Rattle.problem_core.specs.declared.parts.Stay.{Stay}
use Rattle.problem_core.specs.declared.parts.Term.{Term}
use Rattle.problem_core.specs.Kept.{IsNumber, IsWhole}
use Rattle.problem_core.specs.Layout.{HasStay, IsCovered, Line, Problem, Row, line_of_row, line_of_stay, lines, stay_lines, sum_of, value_at}
use Rattle.problem_core.specs.Corners.{Agree, IsCorner, IsIn, Point, Solves, StandsAt, attr_column, equation, marks_of, one_column, place, place_of}
use Rattle.problem_core.specs.Rays.{HasRays, IsRay}
use Rattle.problem_core.proofs.Forms.{each-both, each-impl, sum-zero, value-scaled}
use Rattle.problem_core.proofs.Corners.Tableaus.{unit_at}
use Rattle.corner_laws.proofs.Swaps.ColumnsStay.{each_marks}
use Rattle.corner_laws.proofs.Counting.{sides_apart}
use Rattle.corner_laws.proofs.LinePlaces.{IsSmallLine, lines_small}
use Rattle.corner_laws.proofs.WrittenValues.{contains_each, nothing_outside}
use Rattle.corner_laws.proofs.ZeroColumns.{here-in}
use Rattle.corner_lines.specs.LineEquations.{IsLineEquation, IsOutsideLine, deviation, sign_of}
use Rattle.corner_lines.specs.Joins.{new_stay, with_attr}
use Rattle.corner_lines.proofs.Lines.MarkForms.{same-name}
use Rattle.corner_lines.proofs.ProblemChanges.MovedStays.{stay-holds, stay-solves}
use Rattle.problem_core.proofs.Corners.Conflicts.{sum-each}
use Rattle.problem_core.proofs.RowNames.{held-not-stay, stay-same}
use Rattle.problem_core.proofs.Best.WindowRows.{has-rest as has-later}
use Rattle.corner_lines.proofs.Lines.LineMoves.{one-above}
use Rattle.corner_lines.proofs.ProblemChanges.JoinedRows.{both-none}
use Rattle.frac_core.proofs.Bools.{count-other as cond_other, count-same as cond_same}
use Rattle.frac_core.proofs.Lists.{each-joined}

-- ---- the lines with the stay

stays_drop : (P : Line → Type 0) (level : ℕ) (stays : List Stay) (s : Stay) → Each P (stay_lines level (stays ++ (s ∷ []))) → Each P (stay_lines level stays) × ((n : ℕ) × P (line_of_stay n s))
stays_drop P level [] s h = (tt, (level, h.0))
stays_drop P level (t ∷ stays) s h = let r = stays_drop P (level + 1) stays s h.1 in ((h.0, r.0), r.1)

stays_put : (P : Line → Type 0) (level : ℕ) (stays : List Stay) (s : Stay) → Each P (stay_lines level stays) → ((n : ℕ) → P (line_of_stay n s)) → Each P (stay_lines level (stays ++ (s ∷ [])))
stays_put P level [] s h here = (here level, tt)
stays_put P level (t ∷ stays) s h here = (h.0, stays_put P (level + 1) stays s h.1 here)

rows_drop : (P : Line → Type 0) (rows : List Row) (level : ℕ) (stays : List Stay) (s : Stay) → Each P (map line_of_row rows ++ stay_lines level (stays ++ (s ∷ []))) → Each P (map line_of_row rows ++ stay_lines level stays) × ((n : ℕ) × P (line_of_stay n s))
rows_drop P [] level stays s h = stays_drop P level stays s h
rows_drop P (r ∷ rows) level stays s h = let k = rows_drop P rows level stays s h.1 in ((h.0, k.0), k.1)

rows_put : (P : Line → Type 0) (rows : List Row) (level : ℕ) (stays : List Stay) (s : Stay) → Each P (map line_of_row rows ++ stay_lines level stays) → ((n : ℕ) → P (line_of_stay n s)) → Each P (map line_of_row rows ++ stay_lines level (stays ++ (s ∷ [])))
rows_put P [] level stays s h here = stays_put P level stays s h here
rows_put P (r ∷ rows) level stays s h here = (h.0, rows_put P rows level stays s h.1 here)

pub attr_drop : (P : Line → Type 0) (p : Problem) (attr : ℕ) (target : Fraction) → Each P (lines (with_attr attr target p)) → Each P (lines p) × ((n : ℕ) × P (line_of_stay n (new_stay attr target)))
attr_drop P p attr target h = rows_drop P p.rows 1001 p.stays (new_stay attr target) h

pub attr_put : (P : Line → Type 0) (p : Problem) (attr : ℕ) (target : Fraction) → Each P (lines p) → ((n : ℕ) → P (line_of_stay n (new_stay attr target))) → Each P (lines (with_attr attr target p))
attr_put P p attr target h here = rows_put P p.rows 1001 p.stays (new_stay attr target) h here

stays-sum : (F : RowName → ℤ) (level : ℕ) (stays : List Stay) (s : Stay) → sum_of (λ l. F l.name) (stay_lines level (stays ++ (s ∷ []))) ≡ F (StayOf s.attr) +ℤ sum_of (λ l. F l.name) (stay_lines level stays)
stays-sum F level [] s = refl
stays-sum F level (t ∷ stays) s = ap (λ (z : ℤ). F (StayOf t.attr) +ℤ z) (stays-sum F (level + 1) stays s) ∙ swap-first (F (StayOf t.attr)) (F (StayOf s.attr)) (sum_of (λ l. F l.name) (stay_lines (level + 1) stays))
  where
    swap-first : (a b c : ℤ) → a +ℤ (b +ℤ c) ≡ b +ℤ (a +ℤ c)
    swap-first a b c = omega (arith, ints)

rows-sum : (F : RowName → ℤ) (rows : List Row) (level : ℕ) (stays : List Stay) (s : Stay) → sum_of (λ l. F l.name) (map line_of_row rows ++ stay_lines level (stays ++ (s ∷ []))) ≡ F (StayOf s.attr) +ℤ sum_of (λ l. F l.name) (map line_of_row rows ++ stay_lines level stays)
rows-sum F [] level stays s = stays-sum F level stays s
rows-sum F (r ∷ rows) level stays s = ap (λ (z : ℤ). F (Held r.id) +ℤ z) (rows-sum F rows level stays s) ∙ swap-first (F (Held r.id)) (F (StayOf s.attr)) (sum_of (λ l. F l.name) (map line_of_row rows ++ stay_lines level stays))
  where
    swap-first : (a b c : ℤ) → a +ℤ (b +ℤ c) ≡ b +ℤ (a +ℤ c)
    swap-first a b c = omega (arith, ints)

-- ---- the attribute is new

record IsNewAttr (p : Problem) (attr : ℕ) (target : Fraction) : Type 0 where
  whole : IsWhole p
  number : IsNumber attr
  fresh : HasStay p.stays attr → ⊥
  above : 0 < target.den

has-first : (s : Stay) (stays : List Stay) → HasStay (s ∷ stays) s.attr
has-first s stays = (0, s, omega arith, refl, refl)

stays-other : (stays : List Stay) (attr : ℕ) → (HasStay stays attr → ⊥) → Each (λ (s : Stay). s.attr ≢ attr) stays
stays-other [] attr fresh = tt
stays-other (s ∷ stays) attr fresh = ((λ e. fresh (subst (λ (n : ℕ). HasStay (s ∷ stays) n) e (has-first s stays))), stays-other stays attr (λ h. fresh (has-later s stays attr h)))

-- the line is not the stay's, and does not speak of the attribute
record IsOther (attr : ℕ) (l : Line) : Type 0 where
  name : l.name ≢ StayOf attr
  form : Each (λ e. e.attr ≢ attr) l.form
  small : IsSmallLine l

stay-others : (level : ℕ) (stays : List Stay) (attr : ℕ) → Each (λ (s : Stay). s.attr ≢ attr) stays → Each (λ l. (l.name ≢ StayOf attr) × Each (λ e. e.attr ≢ attr) l.form) (stay_lines level stays)
stay-others level [] attr h = tt
stay-others level (s ∷ stays) attr h = (((λ e. h.0 (stay-same s.attr attr e)), (h.0, tt)), stay-others (level + 1) stays attr h.1)

row-others : (rows : List Row) (stays : List Stay) (attr : ℕ) → (HasStay stays attr → ⊥) → Each (IsCovered stays) rows → Each (λ l. (l.name ≢ StayOf attr) × Each (λ e. e.attr ≢ attr) l.form) (map line_of_row rows)
row-others [] stays attr fresh h = tt
row-others (r ∷ rows) stays attr fresh h = (
  (held-not-stay r.id attr, each-impl (λ t. HasStay stays t.attr) (λ t. t.attr ≢ attr) r.terms (λ t has e. fresh (subst (λ (n : ℕ). HasStay stays n) e has)) (recursion_from_All (λ t. HasStay stays t.attr) r.terms h.0)),
  row-others rows stays attr fresh h.1,
)

all-others : (p : Problem) (attr : ℕ) (target : Fraction) → IsNewAttr p attr target → Each (IsOther attr) (lines p)
all-others p attr target new =
    each-impl (λ l. ((l.name ≢ StayOf attr) × Each (λ e. e.attr ≢ attr) l.form) × IsSmallLine l) (IsOther attr) (lines p)
    (λ l h. record { name = h.0.0; form = h.0.1; small = h.1 })
    (each-both _ _ (lines p)
    (each-joined (λ l. (l.name ≢ StayOf attr) × Each (λ e. e.attr ≢ attr) l.form) (map line_of_row p.rows) (stay_lines 1001 p.stays)
    (row-others p.rows p.stays attr new.fresh (recursion_from_All (IsCovered p.stays) p.rows new.whole.covered))
    (stay-others 1001 p.stays attr (stays-other p.stays attr new.fresh)))
    (lines_small p new.whole))

fresh-place : (p : Problem) (attr : ℕ) (target : Fraction) (c : ℕ) (side : Side) → IsNewAttr p attr target → Contains (map place (marks_of (lines p))) c → c ≢ place_of (StayOf attr) side
fresh-place p attr target c side new is =
    contains_each (λ v. v ≢ place_of (StayOf attr) side) (marks_of (lines p)) c
    (each_marks (λ v. v ≢ place_of (StayOf attr) side) (lines p)
    (each-impl (IsOther attr) _ (lines p) (λ l o e. o.name (same-name l.name (StayOf attr) Under side e)) (all-others p attr target new))
    (each-impl (IsOther attr) _ (lines p) (λ l o e. o.name (same-name l.name (StayOf attr) Over side e)) (all-others p attr target new))) is

pub small-mark : (p : Problem) (c : ℕ) → IsWhole p → Contains (map place (marks_of (lines p))) c → c < 17179869184
small-mark p c whole is =
    contains_each (λ v. v < 17179869184) (marks_of (lines p)) c
    (each_marks (λ v. v < 17179869184) (lines p) (each-impl IsSmallLine _ (lines p) (λ l s. s.under) (lines_small p whole)) (each-impl IsSmallLine _ (lines p) (λ l s. s.over) (lines_small p whole))) is

mark-grows : (p : Problem) (attr : ℕ) (target : Fraction) (c : ℕ) → Contains (map place (marks_of (lines p))) c → Contains (map place (marks_of (lines (with_attr attr target p)))) c
mark-grows p attr target c is =
    let here = (attr_drop (λ l. Contains (map place (marks_of (lines (with_attr attr target p)))) (place_of l.name Under) × Contains (map place (marks_of (lines (with_attr attr target p)))) (place_of l.name Over)) p attr target (here-in (lines (with_attr attr target p)))).0 in
    contains_each (λ v. Contains (map place (marks_of (lines (with_attr attr target p)))) v) (marks_of (lines p)) c
    (each_marks (λ v. Contains (map place (marks_of (lines (with_attr attr target p)))) v) (lines p)
    (each-impl (λ l. Contains (map place (marks_of (lines (with_attr attr target p)))) (place_of l.name Under) × Contains (map place (marks_of (lines (with_attr attr target p)))) (place_of l.name Over)) _ (lines p) (λ l h. h.0) here)
    (each-impl (λ l. Contains (map place (marks_of (lines (with_attr attr target p)))) (place_of l.name Under) × Contains (map place (marks_of (lines (with_attr attr target p)))) (place_of l.name Over)) _ (lines p) (λ l h. h.1) here)) is

stay-mark : (p : Problem) (attr : ℕ) (target : Fraction) (side : Side) → Contains (map place (marks_of (lines (with_attr attr target p)))) (place_of (StayOf attr) side)
stay-mark p attr target Under = (attr_drop (λ l. Contains (map place (marks_of (lines (with_attr attr target p)))) (place_of l.name Under) × Contains (map place (marks_of (lines (with_attr attr target p)))) (place_of l.name Over)) p attr target (here-in (lines (with_attr attr target p)))).1.1.0
stay-mark p attr target Over = (attr_drop (λ l. Contains (map place (marks_of (lines (with_attr attr target p)))) (place_of l.name Under) × Contains (map place (marks_of (lines (with_attr attr target p)))) (place_of l.name Over)) p attr target (here-in (lines (with_attr attr target p)))).1.1.1

each-mark : (P : ℕ → Type 0) (p : Problem) (attr : ℕ) (target : Fraction) → ((c : ℕ) → Contains (map place (marks_of (lines p))) c → P c) → P (place_of (StayOf attr) Under) → P (place_of (StayOf attr) Over) → Each (λ m. P (place m)) (marks_of (lines (with_attr attr target p)))
each-mark P p attr target old under over =
    each_marks P (lines (with_attr attr target p))
    (attr_put (λ l. P (place_of l.name Under)) p attr target (each-impl (λ l. Contains (map place (marks_of (lines p))) (place_of l.name Under) × Contains (map place (marks_of (lines p))) (place_of l.name Over)) _ (lines p) (λ l h. old (place_of l.name Under) h.0) (here-in (lines p))) (λ n. under))
    (attr_put (λ l. P (place_of l.name Over)) p attr target (each-impl (λ l. Contains (map place (marks_of (lines p))) (place_of l.name Under) × Contains (map place (marks_of (lines p))) (place_of l.name Over)) _ (lines p) (λ l h. old (place_of l.name Over) h.1) (here-in (lines p))) (λ n. over))

stay-out : (p : Problem) (at : List Mark) (attr : ℕ) (target : Fraction) (side : Side) → IsNewAttr p attr target → IsCorner p at → IsIn (place_of (StayOf attr) side) at → ⊥
stay-out p at attr target side new corner i =
    fresh-place p attr target (place_of (StayOf attr) side) side new (contains_each (λ c. Contains (map place (marks_of (lines p))) c) at (place_of (StayOf attr) side) (recursion_from_All (λ m. Contains (map place (marks_of (lines p))) (place m)) at corner.marks) i) refl

-- ---- what an old line's equation speaks of

old-columns : (P : ℕ → Type 0) (attr : ℕ) (l : Line) → IsNumber attr → IsOther attr l → ((v : ℕ) → v ≢ place_of (StayOf attr) Under → v ≢ place_of (StayOf attr) Over → v ≢ attr_column attr → P v) → Each (λ e. P e.attr) (equation l)
old-columns P attr l number o h = (
  h (place_of l.name Under) (λ e. o.name (same-name l.name (StayOf attr) Under Under e)) (λ e. o.name (same-name l.name (StayOf attr) Under Over e)) (λ e. absurd (omega (arith, o.small.under, e))),
  (
    h (place_of l.name Over) (λ e. o.name (same-name l.name (StayOf attr) Over Under e)) (λ e. o.name (same-name l.name (StayOf attr) Over Over e)) (λ e. absurd (omega (arith, o.small.over, e))),
    (h one_column (λ e. absurd (omega (arith, number.1, e))) (λ e. absurd (omega (arith, number.1, e))) (λ e. absurd (omega (arith, number.1, e))), attrs l.form o.form),
  ),
)
  where
    attrs : (form : List Term) → Each (λ (e : Term). e.attr ≢ attr) form → Each (λ (e : Term). P e.attr) (map (λ (e : Term). record { attr = attr_column e.attr; by = pos l.den *ℤ e.by }) form)
    attrs [] ne = tt
    attrs (e ∷ form) ne = (h (attr_column e.attr) (λ q. absurd (omega (arith, number.1, q))) (λ q. absurd (omega (arith, number.1, q))) (λ q. ne.0 (omega (arith, q))), attrs form ne.1)

-- the stay's own equation, where its marks and its attribute are so far apart
stay-moves : (target : Fraction) (u o one a : ℤ) → a ≡ o -ℤ u → one ≡ pos 0 → pos target.den *ℤ ((u -ℤ o) +ℤ a) ≡ target.num *ℤ one
stay-moves target u o one a e f =
    let none : (u -ℤ o) +ℤ a ≡ pos 0 = omega (arith, ints, e) in
    ap (λ (z : ℤ). pos target.den *ℤ z) none ∙ mul-zero_ℤ (pos target.den) ∙ sym (ap (λ (z : ℤ). target.num *ℤ z) f ∙ mul-zero_ℤ target.num)

-- the attribute is so far from the target as its stay deviates
pub attr-deviation : (p : Problem) (attr : ℕ) (target : Fraction) (n : ℕ → ℤ) → All (λ l. value_at n (equation l) ≡ pos 0) (lines (with_attr attr target p)) → pos target.den *ℤ ((n (place_of (StayOf attr) Under) -ℤ n (place_of (StayOf attr) Over)) +ℤ n (attr_column attr)) ≡ target.num *ℤ n one_column
attr-deviation p attr target n h =
    let last = (attr_drop (λ l. value_at n (equation l) ≡ pos 0) p attr target (recursion_from_All (λ l. value_at n (equation l) ≡ pos 0) (lines (with_attr attr target p)) h)).1 in
    stay-holds last.0 (new_stay attr target) n last.1

-- ---- points and rays with the attribute

-- the attribute is at its stay's target, whose marks are 0
abbrev cleared : ℕ → Fraction → (ℕ → ℤ) → ℕ → ℤ
cleared attr target n v = cond (nat_eq v (place_of (StayOf attr) Under)) (pos 0) (cond (nat_eq v (place_of (StayOf attr) Over)) (pos 0) (cond (nat_eq v (attr_column attr)) (target.num *ℤ n one_column) (pos target.den *ℤ n v)))

cleared-other : (attr : ℕ) (target : Fraction) (n : ℕ → ℤ) (v : ℕ) → v ≢ place_of (StayOf attr) Under → v ≢ place_of (StayOf attr) Over → v ≢ attr_column attr → cleared attr target n v ≡ pos target.den *ℤ n v
cleared-other attr target n v a b c =
    ap (λ (t : Bool). cond t (pos 0) (cond (nat_eq v (place_of (StayOf attr) Over)) (pos 0) (cond (nat_eq v (attr_column attr)) (target.num *ℤ n one_column) (pos target.den *ℤ n v)))) (ne_eqb v (place_of (StayOf attr) Under) a)
    ∙ ap (λ (t : Bool). cond t (pos 0) (cond (nat_eq v (attr_column attr)) (target.num *ℤ n one_column) (pos target.den *ℤ n v))) (ne_eqb v (place_of (StayOf attr) Over) b)
    ∙ ap (λ (t : Bool). cond t (target.num *ℤ n one_column) (pos target.den *ℤ n v)) (ne_eqb v (attr_column attr) c)

cleared-under : (attr : ℕ) (target : Fraction) (n : ℕ → ℤ) → cleared attr target n (place_of (StayOf attr) Under) ≡ pos 0
cleared-under attr target n = ap (λ (t : Bool). cond t (pos 0) (cond (nat_eq (place_of (StayOf attr) Under) (place_of (StayOf attr) Over)) (pos 0) (cond (nat_eq (place_of (StayOf attr) Under) (attr_column attr)) (target.num *ℤ n one_column) (pos target.den *ℤ n (place_of (StayOf attr) Under))))) (eq-eqb (place_of (StayOf attr) Under) (place_of (StayOf attr) Under) refl)

cleared-over : (attr : ℕ) (target : Fraction) (n : ℕ → ℤ) → cleared attr target n (place_of (StayOf attr) Over) ≡ pos 0
cleared-over attr target n =
    ap (λ (t : Bool). cond t (pos 0) (cond (nat_eq (place_of (StayOf attr) Over) (place_of (StayOf attr) Over)) (pos 0) (cond (nat_eq (place_of (StayOf attr) Over) (attr_column attr)) (target.num *ℤ n one_column) (pos target.den *ℤ n (place_of (StayOf attr) Over))))) (ne_eqb (place_of (StayOf attr) Over) (place_of (StayOf attr) Under) (λ e. absurd (omega (arith, e))))
    ∙ ap (λ (t : Bool). cond t (pos 0) (cond (nat_eq (place_of (StayOf attr) Over) (attr_column attr)) (target.num *ℤ n one_column) (pos target.den *ℤ n (place_of (StayOf attr) Over)))) (eq-eqb (place_of (StayOf attr) Over) (place_of (StayOf attr) Over) refl)

cleared-attr : (attr : ℕ) (target : Fraction) (n : ℕ → ℤ) → IsNumber attr → cleared attr target n (attr_column attr) ≡ target.num *ℤ n one_column
cleared-attr attr target n number =
    ap (λ (t : Bool). cond t (pos 0) (cond (nat_eq (attr_column attr) (place_of (StayOf attr) Over)) (pos 0) (cond (nat_eq (attr_column attr) (attr_column attr)) (target.num *ℤ n one_column) (pos target.den *ℤ n (attr_column attr))))) (ne_eqb (attr_column attr) (place_of (StayOf attr) Under) (λ e. absurd (omega (arith, number.1, e))))
    ∙ ap (λ (t : Bool). cond t (pos 0) (cond (nat_eq (attr_column attr) (attr_column attr)) (target.num *ℤ n one_column) (pos target.den *ℤ n (attr_column attr)))) (ne_eqb (attr_column attr) (place_of (StayOf attr) Over) (λ e. absurd (omega (arith, number.1, e))))
    ∙ ap (λ (t : Bool). cond t (target.num *ℤ n one_column) (pos target.den *ℤ n (attr_column attr))) (eq-eqb (attr_column attr) (attr_column attr) refl)

cleared-one : (attr : ℕ) (target : Fraction) (n : ℕ → ℤ) → IsNumber attr → cleared attr target n one_column ≡ pos target.den *ℤ n one_column
cleared-one attr target n number = cleared-other attr target n one_column (λ e. absurd (omega (arith, number.1, e))) (λ e. absurd (omega (arith, number.1, e))) (λ e. absurd (omega (arith, number.1, e)))

cleared-mark : (p : Problem) (attr : ℕ) (target : Fraction) (n : ℕ → ℤ) (c : ℕ) → IsNewAttr p attr target → Contains (map place (marks_of (lines p))) c → cleared attr target n c ≡ pos target.den *ℤ n c
cleared-mark p attr target n c new is =
    let below = small-mark p c new.whole is in
    cleared-other attr target n c (fresh-place p attr target c Under new is) (fresh-place p attr target c Over new is) (λ e. absurd (omega (arith, below, e)))

-- a mark that was 0 is so
cleared-still : (p : Problem) (attr : ℕ) (target : Fraction) (n : ℕ → ℤ) (c : ℕ) → IsNewAttr p attr target → Contains (map place (marks_of (lines p))) c → n c ≡ pos 0 → cleared attr target n c ≡ pos 0
cleared-still p attr target n c new is none = cleared-mark p attr target n c new is ∙ ap (λ (z : ℤ). pos target.den *ℤ z) none ∙ mul-zero_ℤ (pos target.den)

cleared-solves : (p : Problem) (attr : ℕ) (target : Fraction) (n : ℕ → ℤ) → IsNewAttr p attr target → All (λ l. value_at n (equation l) ≡ pos 0) (lines p) → All (λ l. value_at (cleared attr target n) (equation l) ≡ pos 0) (lines (with_attr attr target p))
cleared-solves p attr target n new h =
    All-from_recursion (λ l. value_at (cleared attr target n) (equation l) ≡ pos 0) (lines (with_attr attr target p))
    (attr_put (λ l. value_at (cleared attr target n) (equation l) ≡ pos 0) p attr target
    (each-impl (λ l. (value_at n (equation l) ≡ pos 0) × IsOther attr l) _ (lines p)
    (λ l k.
    sum-each (λ e. e.by *ℤ cleared attr target n e.attr) (λ e. e.by *ℤ (pos target.den *ℤ n e.attr)) (equation l)
    (each-impl (λ e. cleared attr target n e.attr ≡ pos target.den *ℤ n e.attr) _ (equation l) (λ e q. ap (λ (z : ℤ). e.by *ℤ z) q) (old-columns (λ v. cleared attr target n v ≡ pos target.den *ℤ n v) attr l new.number k.1 (λ v a b c. cleared-other attr target n v a b c)))
    ∙ value-scaled (pos target.den) n (equation l) ∙ ap (λ (z : ℤ). pos target.den *ℤ z) k.0 ∙ mul-zero_ℤ (pos target.den))
    (each-both _ _ (lines p) (recursion_from_All (λ l. value_at n (equation l) ≡ pos 0) (lines p) h) (all-others p attr target new)))
    (λ level. stay-solves level (new_stay attr target) (cleared attr target n)
    (at-target target.den target.num (n one_column) (cleared attr target n (place_of (StayOf attr) Under)) (cleared attr target n (place_of (StayOf attr) Over)) (cleared attr target n (attr_column attr)) (cleared attr target n one_column)
    (cleared-under attr target n) (cleared-over attr target n) (cleared-attr attr target n new.number) (cleared-one attr target n new.number))))
  where
    at-target : (d : ℕ) (k y1 u o a w : ℤ) → u ≡ pos 0 → o ≡ pos 0 → a ≡ k *ℤ y1 → w ≡ pos d *ℤ y1 → pos d *ℤ ((u -ℤ o) +ℤ a) ≡ k *ℤ w
    at-target d k y1 u o a w e f g h = ap (λ (z : ℤ). pos d *ℤ z) (let i : (u -ℤ o) +ℤ a ≡ k *ℤ y1 = omega (arith, ints, e, f, g) in i) ∙ mul_left_comm_ℤ (pos d) k y1 ∙ ap (λ (z : ℤ). k *ℤ z) (sym h)

without-attr : (p : Problem) (attr : ℕ) (target : Fraction) (x : Point) → Solves (with_attr attr target p) x → Solves p x
without-attr p attr target x h = All-from_recursion (λ l. value_at x.num (equation l) ≡ pos 0) (lines p) ((attr_drop (λ l. value_at x.num (equation l) ≡ pos 0) p attr target (recursion_from_All (λ l. value_at x.num (equation l) ≡ pos 0) (lines (with_attr attr target p)) h)).0)

old-ray : (p : Problem) (at : List Mark) (attr : ℕ) (target : Fraction) (c : ℕ) (n : ℕ → ℤ) → IsNewAttr p attr target → Contains (map place (marks_of (lines p))) c → IsRay p at c n → IsRay (with_attr attr target p) at c (cleared attr target n)
old-ray p at attr target c n new is ray = record {
  holds = cleared-solves p attr target n new ray.holds;
  still = cleared-one attr target n new.number ∙ ap (λ (z : ℤ). pos target.den *ℤ z) ray.still ∙ mul-zero_ℤ (pos target.den);
  here = subst (λ (z : ℤ). pos 0 <ℤ z) (sym (cleared-mark p attr target n c new is)) (mul_positive target.den (n c) new.above ray.here);
  other = All-from_recursion (λ m. (IsIn (place m) at → ⊥) → place m ≢ c → cleared attr target n (place m) ≡ pos 0) (marks_of (lines (with_attr attr target p)))
      (each-mark (λ v. (IsIn v at → ⊥) → v ≢ c → cleared attr target n v ≡ pos 0) p attr target
      (λ v mark out ne. cleared-still p attr target n v new mark (contains_each (λ u. (IsIn u at → ⊥) → u ≢ c → n u ≡ pos 0) (marks_of (lines p)) v (recursion_from_All (λ m. (IsIn (place m) at → ⊥) → place m ≢ c → n (place m) ≡ pos 0) (marks_of (lines p)) ray.other) mark out ne))
      (λ out ne. cleared-under attr target n)
      (λ out ne. cleared-over attr target n));
}

-- the stay's mark grows, and its attribute with it
abbrev pub attr_grows : ℕ → Side → ℕ → ℤ
attr_grows attr side v = unit_at (place_of (StayOf attr) side) v +ℤ sign_of side *ℤ unit_at (attr_column attr) v

grows-parts : (s a b : ℤ) → a ≡ pos 0 → b ≡ pos 0 → a +ℤ s *ℤ b ≡ pos 0
grows-parts s a b e f = ap₂ ◌+ℤ◌ e (ap (λ (z : ℤ). s *ℤ z) f ∙ mul-zero_ℤ s)

grows-mark : (s a b : ℤ) → a ≡ pos 1 → b ≡ pos 0 → a +ℤ s *ℤ b ≡ pos 1
grows-mark s a b e f = ap₂ ◌+ℤ◌ e (ap (λ (z : ℤ). s *ℤ z) f ∙ mul-zero_ℤ s)

grows-attr : (side : Side) (a b : ℤ) → a ≡ pos 0 → b ≡ pos 1 → a +ℤ sign_of side *ℤ b ≡ sign_of side
grows-attr Under a b e f = ap₂ (λ (y z : ℤ). y +ℤ negsuc 0 *ℤ z) e f
grows-attr Over a b e f = ap₂ (λ (y z : ℤ). y +ℤ pos 1 *ℤ z) e f

pub grows-none : (attr : ℕ) (side : Side) (v : ℕ) → v ≢ place_of (StayOf attr) side → v ≢ attr_column attr → attr_grows attr side v ≡ pos 0
grows-none attr side v a b = grows-parts (sign_of side) (unit_at (place_of (StayOf attr) side) v) (unit_at (attr_column attr) v) (cond_other v (place_of (StayOf attr) side) (pos 1) a) (cond_other v (attr_column attr) (pos 1) b)

pub grows-here : (attr : ℕ) (side : Side) → IsNumber attr → attr_grows attr side (place_of (StayOf attr) side) ≡ pos 1
grows-here attr side number = grows-mark (sign_of side) (unit_at (place_of (StayOf attr) side) (place_of (StayOf attr) side)) (unit_at (attr_column attr) (place_of (StayOf attr) side)) (cond_same (place_of (StayOf attr) side) (place_of (StayOf attr) side) (pos 1) refl) (cond_other (place_of (StayOf attr) side) (attr_column attr) (pos 1) (below attr side number))
  where
    below : (attr : ℕ) (side : Side) → IsNumber attr → place_of (StayOf attr) side ≢ attr_column attr
    below attr Under number e = absurd (omega (arith, number.1, e))
    below attr Over number e = absurd (omega (arith, number.1, e))

pub grows-stay : (attr : ℕ) (side : Side) → IsNumber attr → attr_grows attr side (attr_column attr) ≡ attr_grows attr side (place_of (StayOf attr) Over) -ℤ attr_grows attr side (place_of (StayOf attr) Under)
grows-stay attr Under number =
    let a : attr_grows attr Under (attr_column attr) ≡ negsuc 0 = grows-attr Under (unit_at (place_of (StayOf attr) Under) (attr_column attr)) (unit_at (attr_column attr) (attr_column attr)) (cond_other (attr_column attr) (place_of (StayOf attr) Under) (pos 1) (λ e. absurd (omega (arith, number.1, e)))) (cond_same (attr_column attr) (attr_column attr) (pos 1) refl) in
    let o = grows-none attr Under (place_of (StayOf attr) Over) (sides_apart (StayOf attr) (StayOf attr)) (λ e. absurd (omega (arith, number.1, e))) in
    a ∙ sym (ap₂ ◌-ℤ◌ o (grows-here attr Under number))
grows-stay attr Over number =
    let a : attr_grows attr Over (attr_column attr) ≡ pos 1 = grows-attr Over (unit_at (place_of (StayOf attr) Over) (attr_column attr)) (unit_at (attr_column attr) (attr_column attr)) (cond_other (attr_column attr) (place_of (StayOf attr) Over) (pos 1) (λ e. absurd (omega (arith, number.1, e)))) (cond_same (attr_column attr) (attr_column attr) (pos 1) refl) in
    let u = grows-none attr Over (place_of (StayOf attr) Under) (λ e. sides_apart (StayOf attr) (StayOf attr) (sym e)) (λ e. absurd (omega (arith, number.1, e))) in
    a ∙ sym (ap₂ ◌-ℤ◌ (grows-here attr Over number) u)

one-still : (attr : ℕ) (side : Side) → IsNumber attr → attr_grows attr side one_column ≡ pos 0
one-still attr side number = grows-none attr side one_column (far side) (λ e. absurd (let n = number.1 in omega (arith, n, e)))
  where
    far : (side : Side) → one_column ≢ place_of (StayOf attr) side
    far Under e = absurd (let n = number.1 in omega (arith, n, e))
    far Over e = absurd (let n = number.1 in omega (arith, n, e))

new-ray : (p : Problem) (at : List Mark) (attr : ℕ) (target : Fraction) (side : Side) → IsNewAttr p attr target → IsRay (with_attr attr target p) at (place_of (StayOf attr) side) (attr_grows attr side)
new-ray p at attr target side new = record {
  holds = All-from_recursion (λ l. value_at (attr_grows attr side) (equation l) ≡ pos 0) (lines (with_attr attr target p))
      (attr_put (λ l. value_at (attr_grows attr side) (equation l) ≡ pos 0) p attr target
      (each-impl (IsOther attr) _ (lines p)
      (λ l o. sum-zero (λ e. e.by *ℤ attr_grows attr side e.attr) (equation l)
      (each-impl (λ e. attr_grows attr side e.attr ≡ pos 0) _ (equation l) (λ e q. ap (λ (z : ℤ). e.by *ℤ z) q ∙ mul-zero_ℤ e.by)
      (old-columns (λ v. attr_grows attr side v ≡ pos 0) attr l new.number o (λ v a b c. grows-none attr side v (far side v a b) c))))
      (all-others p attr target new))
      (λ level. stay-solves level (new_stay attr target) (attr_grows attr side)
      (stay-moves target (attr_grows attr side (place_of (StayOf attr) Under)) (attr_grows attr side (place_of (StayOf attr) Over)) (attr_grows attr side one_column) (attr_grows attr side (attr_column attr)) (grows-stay attr side new.number) (one-still attr side new.number))));
  still = one-still attr side new.number;
  here = one-above (attr_grows attr side (place_of (StayOf attr) side)) (grows-here attr side new.number);
  other = All-from_recursion (λ m. (IsIn (place m) at → ⊥) → place m ≢ place_of (StayOf attr) side → attr_grows attr side (place m) ≡ pos 0) (marks_of (lines (with_attr attr target p)))
      (each-mark (λ v. (IsIn v at → ⊥) → v ≢ place_of (StayOf attr) side → attr_grows attr side v ≡ pos 0) p attr target
      (λ v is out ne. grows-none attr side v ne (λ e. absurd (let b = small-mark p v new.whole is in omega (arith, b, e))))
      (λ out ne. grows-none attr side (place_of (StayOf attr) Under) ne (λ e. absurd (let n = new.number.1 in omega (arith, n, e))))
      (λ out ne. grows-none attr side (place_of (StayOf attr) Over) ne (λ e. absurd (let n = new.number.1 in omega (arith, n, e)))));
}
  where
    far : (side : Side) (v : ℕ) → v ≢ place_of (StayOf attr) Under → v ≢ place_of (StayOf attr) Over → v ≢ place_of (StayOf attr) side
    far Under v a b = a
    far Over v a b = b

pub attr_rays : (p : Problem) (at : List Mark) (attr : ℕ) (target : Fraction) → IsWhole p → IsNumber attr → (HasStay p.stays attr → ⊥) → 0 < target.den → HasRays p at → HasRays (with_attr attr target p) at
attr_rays p at attr target whole number fresh above rays c is =
    let new : IsNewAttr p attr target = record { whole = whole; number = number; fresh = fresh; above = above } in
    contains_each (λ v. (IsIn v at → ⊥) → (ray : ℕ → ℤ) × IsRay (with_attr attr target p) at v ray) (marks_of (lines (with_attr attr target p))) c
    (each-mark (λ v. (IsIn v at → ⊥) → (ray : ℕ → ℤ) × IsRay (with_attr attr target p) at v ray) p attr target
    (λ v mark out. let n = rays v mark out in (cleared attr target n.0, old-ray p at attr target v n.0 new mark n.1))
    (λ out. (attr_grows attr Under, new-ray p at attr target Under new))
    (λ out. (attr_grows attr Over, new-ray p at attr target Over new))) is

-- ---- the corner

same-agree : (d : ℕ) (u x w a y b : ℤ) → u ≡ pos d *ℤ x → w ≡ pos d *ℤ a → x *ℤ b ≡ y *ℤ a → u *ℤ b ≡ y *ℤ w
same-agree d u x w a y b e f h =
    ap (λ (z : ℤ). z *ℤ b) e ∙ mul_assoc_ℤ (pos d) x b ∙ ap (λ (z : ℤ). pos d *ℤ z) h ∙ mul_left_comm_ℤ (pos d) y a ∙ ap (λ (z : ℤ). y *ℤ z) (sym f)

-- the attribute is at the target where its stay stands
target-agree : (d : ℕ) (k x1 y1 a c w u o : ℤ) → c ≡ k *ℤ x1 → w ≡ pos d *ℤ x1 → u ≡ pos 0 → o ≡ pos 0 → pos d *ℤ ((u -ℤ o) +ℤ a) ≡ k *ℤ y1 → c *ℤ y1 ≡ a *ℤ w
target-agree d k x1 y1 a c w u o e f g h q =
    let i : a ≡ (u -ℤ o) +ℤ a = omega (arith, ints, g, h) in
    let da : pos d *ℤ a ≡ k *ℤ y1 = ap (λ (z : ℤ). pos d *ℤ z) i ∙ q in
    ap (λ (z : ℤ). z *ℤ y1) (e ∙ *ℤ_comm k x1) ∙ mul_assoc_ℤ x1 k y1 ∙ ap (λ (z : ℤ). x1 *ℤ z) (sym da ∙ *ℤ_comm (pos d) a) ∙ mul_left_comm_ℤ x1 a (pos d) ∙ ap (λ (z : ℤ). a *ℤ z) (*ℤ_comm x1 (pos d) ∙ sym f)

pub stands-before : (p : Problem) (at : List Mark) (attr : ℕ) (target : Fraction) (y : Point) → StandsAt (with_attr attr target p) at y → StandsAt p at y
stands-before p at attr target y stands = (
  without-attr p attr target y stands.0,
  All-from_recursion (λ m. (IsIn (place m) at → ⊥) → y.num (place m) ≡ pos 0) (marks_of (lines p))
      (each_marks (λ c. (IsIn c at → ⊥) → y.num c ≡ pos 0) (lines p)
      (each-impl (λ l. Contains (map place (marks_of (lines p))) (place_of l.name Under) × Contains (map place (marks_of (lines p))) (place_of l.name Over)) _ (lines p) (λ l h out. nothing_outside (with_attr attr target p) at y (place_of l.name Under) stands (mark-grows p attr target (place_of l.name Under) h.0) out) (here-in (lines p)))
      (each-impl (λ l. Contains (map place (marks_of (lines p))) (place_of l.name Under) × Contains (map place (marks_of (lines p))) (place_of l.name Over)) _ (lines p) (λ l h out. nothing_outside (with_attr attr target p) at y (place_of l.name Over) stands (mark-grows p attr target (place_of l.name Over) h.1) out) (here-in (lines p)))),
)

unfoldable cleared-point : (attr : ℕ) (target : Fraction) → IsNumber attr → 0 < target.den → Point → Point
cleared-point attr target number above x = record { num = cleared attr target x.num; positive = subst (λ (z : ℤ). pos 0 <ℤ z) (sym (cleared-one attr target x.num number)) (mul_positive target.den (x.num one_column) above x.positive) }

each-stay : (P : ℕ → Type 0) (stays : List Stay) (attr : ℕ) (target : Fraction) → Each (λ (s : Stay). P (attr_column s.attr)) stays → P (attr_column attr) → Each (λ (s : Stay). P (attr_column s.attr)) (stays ++ (new_stay attr target ∷ []))
each-stay P [] attr target h here = (here, tt)
each-stay P (s ∷ stays) attr target h here = (h.0, each-stay P stays attr target h.1 here)

pub attr_corner : (p : Problem) (at : List Mark) (attr : ℕ) (target : Fraction) → IsWhole p → IsNumber attr → (HasStay p.stays attr → ⊥) → 0 < target.den → IsCorner p at → IsCorner (with_attr attr target p) at
unfolding cleared-point
attr_corner p at attr target whole number fresh above corner =
    let new : IsNewAttr p attr target = record { whole = whole; number = number; fresh = fresh; above = above } in
    let x : ℕ → ℤ = corner.point.num in
    let gone : (y : Point) → StandsAt (with_attr attr target p) at y → (side : Side) → y.num (place_of (StayOf attr) side) ≡ pos 0 = λ y stands side.
    nothing_outside (with_attr attr target p) at y (place_of (StayOf attr) side) stands (stay-mark p attr target side) (stay-out p at attr target side new corner) in
    record {
      count = corner.count;
      marks = All-from_recursion (λ m. Contains (map place (marks_of (lines (with_attr attr target p)))) (place m)) at
          (each-impl (λ m. Contains (map place (marks_of (lines p))) (place m)) _ at (λ m is. mark-grows p attr target (place m) is) (recursion_from_All (λ m. Contains (map place (marks_of (lines p))) (place m)) at corner.marks));
      apart = corner.apart;
      point = cleared-point attr target number above corner.point;
      stands = (
        cleared-solves p attr target corner.point.num new corner.stands.0,
        All-from_recursion (λ m. (IsIn (place m) at → ⊥) → cleared attr target corner.point.num (place m) ≡ pos 0) (marks_of (lines (with_attr attr target p)))
            (each-mark (λ c. (IsIn c at → ⊥) → cleared attr target corner.point.num c ≡ pos 0) p attr target
            (λ c is out. cleared-still p attr target corner.point.num c new is (nothing_outside p at corner.point c corner.stands is out))
            (λ out. cleared-under attr target corner.point.num)
            (λ out. cleared-over attr target corner.point.num)),
      );
      marks_fixed = λ y stands.
          All-from_recursion (λ m. Agree (place m) (cleared-point attr target number above corner.point) y) (marks_of (lines (with_attr attr target p)))
          (each-mark (λ c. Agree c (cleared-point attr target number above corner.point) y) p attr target
          (λ c is. same-agree target.den (cleared attr target x c) (x c) (cleared attr target x one_column) (x one_column) (y.num c) (y.num one_column) (cleared-mark p attr target x c new is) (cleared-one attr target x number)
          (contains_each (λ v. Agree v corner.point y) (marks_of (lines p)) c (recursion_from_All (λ m. Agree (place m) corner.point y) (marks_of (lines p)) (corner.marks_fixed y (stands-before p at attr target y stands))) is))
          (both-none (cleared attr target x (place_of (StayOf attr) Under)) (y.num (place_of (StayOf attr) Under)) (y.num one_column) (cleared attr target x one_column) (cleared-under attr target x) (gone y stands Under))
          (both-none (cleared attr target x (place_of (StayOf attr) Over)) (y.num (place_of (StayOf attr) Over)) (y.num one_column) (cleared attr target x one_column) (cleared-over attr target x) (gone y stands Over)));
      attrs_fixed = λ y stands.
          All-from_recursion (λ s. Agree (attr_column s.attr) (cleared-point attr target number above corner.point) y) (p.stays ++ (new_stay attr target ∷ []))
          (each-stay (λ c. Agree c (cleared-point attr target number above corner.point) y) p.stays attr target
          (each-impl (λ s. (s.attr ≢ attr) × Agree (attr_column s.attr) corner.point y) _ p.stays
          (λ s h. same-agree target.den (cleared attr target x (attr_column s.attr)) (x (attr_column s.attr)) (cleared attr target x one_column) (x one_column) (y.num (attr_column s.attr)) (y.num one_column)
          (cleared-other attr target x (attr_column s.attr) (λ e. absurd (omega (arith, number.1, e))) (λ e. absurd (omega (arith, number.1, e))) (λ e. h.0 (omega (arith, e)))) (cleared-one attr target x number) h.1)
          (each-both _ _ p.stays (stays-other p.stays attr fresh) (recursion_from_All (λ s. Agree (attr_column s.attr) corner.point y) p.stays (corner.attrs_fixed y (stands-before p at attr target y stands)))))
          (target-agree target.den target.num (x one_column) (y.num one_column) (y.num (attr_column attr)) (cleared attr target x (attr_column attr)) (cleared attr target x one_column) (y.num (place_of (StayOf attr) Under)) (y.num (place_of (StayOf attr) Over))
          (cleared-attr attr target x number) (cleared-one attr target x number) (gone y stands Under) (gone y stands Over) (attr-deviation p attr target y.num stands.0)));
    }

-- ---- equations

-- what was written without the attribute is so with it
pub old_line : (p : Problem) (at : List Mark) (attr : ℕ) (target : Fraction) (quantity : (ℕ → ℤ) → ℤ) (own : ℕ) (by : RowName → ℤ) (num : ℤ) (den : ℕ) → IsLineEquation p at quantity own by num den → by (StayOf attr) ≡ pos 0 → IsLineEquation (with_attr attr target p) at quantity own by num den
old_line p at attr target quantity own by num den e none = record {
  own_positive = e.own_positive;
  den_positive = e.den_positive;
  outside = All-from_recursion (λ l. by l.name ≢ pos 0 → IsOutsideLine at l.name) (lines (with_attr attr target p))
      (attr_put (λ l. by l.name ≢ pos 0 → IsOutsideLine at l.name) p attr target (recursion_from_All (λ l. by l.name ≢ pos 0 → IsOutsideLine at l.name) (lines p) e.outside) (λ n some. absurd (some none)));
  holds = λ x solves.
      ap (λ (z : ℤ). pos den *ℤ (pos own *ℤ quantity x.num -ℤ z))
      (rows-sum (λ n. by n *ℤ deviation n x.num) p.rows 1001 p.stays (new_stay attr target)
      ∙ ap (λ (z : ℤ). z +ℤ sum_of (λ l. by l.name *ℤ deviation l.name x.num) (lines p)) (ap (λ (z : ℤ). z *ℤ deviation (StayOf attr) x.num) none ∙ zero-mul_ℤ (deviation (StayOf attr) x.num))
      ∙ zero-add_ℤ (sum_of (λ l. by l.name *ℤ deviation l.name x.num) (lines p)))
      ∙ e.holds x (without-attr p attr target x solves);
  lowest = λ k d all. e.lowest k d (All-from_recursion (λ l. k ∣ unsigned_abs (by l.name)) (lines p) ((attr_drop (λ l. k ∣ unsigned_abs (by l.name)) p attr target (recursion_from_All (λ l. k ∣ unsigned_abs (by l.name)) (lines (with_attr attr target p)) all)).0));
}

own-parts : (d : ℕ) (k a u o s one : ℤ) → pos d *ℤ ((u -ℤ o) +ℤ a) ≡ k *ℤ one → s ≡ pos 1 *ℤ (o -ℤ u) → pos d *ℤ (pos 1 *ℤ a -ℤ s) ≡ pos 1 *ℤ (k *ℤ one)
own-parts d k a u o s one e f =
    let g : pos 1 *ℤ a -ℤ s ≡ (u -ℤ o) +ℤ a = omega (arith, ints, f) in
    let h : k *ℤ one ≡ pos 1 *ℤ (k *ℤ one) = omega (arith, ints) in
    ap (λ (z : ℤ). pos d *ℤ z) g ∙ e ∙ h

-- the attribute is its stay's target and deviation
pub attr_line : (p : Problem) (at : List Mark) (attr : ℕ) (target : Fraction) (by : RowName → ℤ) → IsWhole p → IsNumber attr → (HasStay p.stays attr → ⊥) → 0 < target.den → IsCorner p at → by (StayOf attr) ≡ pos 1 → All (λ l. by l.name ≡ pos 0) (lines p) → IsLineEquation (with_attr attr target p) at (λ x. x (attr_column attr)) 1 by target.num target.den
attr_line p at attr target by whole number fresh above corner one none =
    let new : IsNewAttr p attr target = record { whole = whole; number = number; fresh = fresh; above = above } in
    let each = recursion_from_All (λ l. by l.name ≡ pos 0) (lines p) none in
    record {
      own_positive = omega arith;
      den_positive = above;
      outside = All-from_recursion (λ l. by l.name ≢ pos 0 → IsOutsideLine at l.name) (lines (with_attr attr target p))
          (attr_put (λ l. by l.name ≢ pos 0 → IsOutsideLine at l.name) p attr target (each-impl (λ l. by l.name ≡ pos 0) (λ l. by l.name ≢ pos 0 → IsOutsideLine at l.name) (lines p) (λ l e some. absurd (some e)) each)
          (λ n some. record { under = stay-out p at attr target Under new corner; over = stay-out p at attr target Over new corner }));
      holds = λ x solves.
          own-parts target.den target.num (x.num (attr_column attr)) (x.num (place_of (StayOf attr) Under)) (x.num (place_of (StayOf attr) Over)) (sum_of (λ l. by l.name *ℤ deviation l.name x.num) (lines (with_attr attr target p))) (x.num one_column) (attr-deviation p attr target x.num solves)
          (rows-sum (λ n. by n *ℤ deviation n x.num) p.rows 1001 p.stays (new_stay attr target)
          ∙ ap₂ ◌+ℤ◌ (ap (λ (z : ℤ). z *ℤ deviation (StayOf attr) x.num) one)
          (sum-zero (λ l. by l.name *ℤ deviation l.name x.num) (lines p) (each-impl (λ l. by l.name ≡ pos 0) _ (lines p) (λ l e. ap (λ (z : ℤ). z *ℤ deviation l.name x.num) e ∙ zero-mul_ℤ (deviation l.name x.num)) each))
          ∙ (let o : pos 1 *ℤ deviation (StayOf attr) x.num +ℤ pos 0 ≡ pos 1 *ℤ deviation (StayOf attr) x.num = omega (arith, ints) in o));
      lowest = λ k d all. eq-one_of_dvd-one d;
    }
