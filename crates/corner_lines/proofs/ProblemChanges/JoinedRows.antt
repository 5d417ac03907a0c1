-- A corner with a new row's over mark is a corner of the problem with the row.
use Rattle.std.proofs.Common.{◌≡◌, ◌≢◌, ◌∙◌, ℕ, zero, suc, ◌+◌, ◌<◌, ◌++◌, Bool, cond, nat_eq, List, [], ◌∷◌, map, ℤ, pos, ◌+ℤ◌, ◌-ℤ◌, ◌*ℤ◌, neg_ℤ, ◌<ℤ◌, refl, sym, ap, subst, arith, All, AllPairs, Contains, inl, inr, ◌⊎◌, eq-eqb, ne_eqb, length-append}
use Rattle.std.specs.List.{AllByRecursion as Each}
use Rattle.std.proofs.lemmas.List.Elements.{recursion_from_All, All-from_recursion}
use Rattle.std.proofs.lemmas.List.Kept.{AllPairs-cons}
use lib.IntN.{*ℤ_comm}
use borrow.Author.Differences.{ints}
use Rattle.frac_core.proofs.Integers.{add-mul_right, mul-sub_left, mul-zero_ℤ, mul_assoc_ℤ, mul_left_comm_ℤ, mul_positive, zero-mul_ℤ}
use Rattle.problem_core.specs.declared.parts.Mark.{Mark}
use Rattle.problem_core.specs.declared.parts.RowName.{RowName}
use Rattle.problem_core.specs.declared.parts.RowName.TheVariants.{Held}
use Rattle.problem_core.specs.declared.parts.Side.{Side}
use Rattle.problem_core.specs.declared.parts.Side.TheVariants.{Under, Over}
use Rattle.problem_core.specs.declared.parts.Stay.{Stay}
use Rattle.problem_core.specs.declared.parts.Term.{Term}
use Rattle.problem_core.specs.Kept.{IsWhole, IsRow}
use Rattle.problem_core.specs.Layout.{HasStay, IsCovered, Line, Problem, Row, line_of_row, lines, stay_lines, value_at}
use Rattle.problem_core.specs.Corners.{Agree, IsCorner, IsIn, Point, Solves, StandsAt, attr_column, equation, marks_of, one_column, place, place_of}
use Rattle.problem_core.specs.Rays.{HasRays, IsRay}
use Rattle.problem_core.specs.Unfit.{over_mark}
use Rattle.problem_core.proofs.Forms.{each-both, each-impl, value-scaled}
use Rattle.corner_laws.specs.Lifts.{with_rows}
use Rattle.corner_laws.proofs.Counting.{IsSmall, bump, head_pairs}
use Rattle.corner_laws.proofs.Swaps.ColumnsStay.{each_marks}
use Rattle.corner_laws.proofs.LevelCosts.Gaps.{deviation, form_value, line_gap}
use Rattle.corner_laws.proofs.MarkWritings.Lifts.{each_drop, each_put}
use Rattle.corner_laws.proofs.LinePlaces.{AllApart, AreApart, IsSmallLine, lines_apart, lines_small}
use Rattle.corner_laws.proofs.WrittenValues.{contains_each, nothing_outside}
use Rattle.corner_laws.proofs.ZeroColumns.{here-in}
use Rattle.corner_lines.proofs.Lines.LineMoves.{turn-ray}
use Rattle.corner_lines.proofs.Lines.MarkForms.{same-name}
use Rattle.problem_core.proofs.Corners.Ends.{value-columns}
use Rattle.problem_core.proofs.Corners.Conflicts.{sum-each}
use Rattle.corner_laws.proofs.PathEnds.BeginsUnique.{agree-form, gap-same}
use Rattle.frac_core.proofs.Lists.{pairs-rest as tail_pairs, each-joined}

-- ---- the lines with the row

pub apart-put : (rows : List Row) (r : Row) (ls : List Line) → AllApart (map line_of_row (rows ++ (r ∷ [])) ++ ls) → Each (λ l. l.name ≢ Held r.id) (map line_of_row rows ++ ls)
apart-put [] r ls apart = each-impl (AreApart (line_of_row r)) (λ l. l.name ≢ Held r.id) ls (λ l a e. a.under_under (ap (λ (n : RowName). place_of n Under) (sym e))) apart.0
apart-put (s ∷ rows) r ls apart = (
  (let a = (each_drop (AreApart (line_of_row s)) rows r ls apart.0).1 in λ e. a.under_under (ap (λ (n : RowName). place_of n Under) e)),
  apart-put rows r ls apart.1,
)

-- the row's name is new
pub fresh-names : (p : Problem) (r : Row) → IsWhole (with_rows (r ∷ []) p) → Each (λ l. l.name ≢ Held r.id) (lines p)
fresh-names p r whole = apart-put p.rows r (stay_lines 1001 p.stays) (lines_apart (with_rows (r ∷ []) p) whole)

pub fresh-mark : (p : Problem) (r : Row) (c : ℕ) (side : Side) → IsWhole (with_rows (r ∷ []) p) → Contains (map place (marks_of (lines p))) c → c ≢ place_of (Held r.id) side
fresh-mark p r c side whole is =
    contains_each (λ v. v ≢ place_of (Held r.id) side) (marks_of (lines p)) c
    (each_marks (λ v. v ≢ place_of (Held r.id) side) (lines p)
    (each-impl (λ l. l.name ≢ Held r.id) _ (lines p) (λ l ne e. ne (same-name l.name (Held r.id) Under side e)) (fresh-names p r whole))
    (each-impl (λ l. l.name ≢ Held r.id) _ (lines p) (λ l ne e. ne (same-name l.name (Held r.id) Over side e)) (fresh-names p r whole))) is

pub mark-grows : (p : Problem) (r : Row) (c : ℕ) → Contains (map place (marks_of (lines p))) c → Contains (map place (marks_of (lines (with_rows (r ∷ []) p)))) c
mark-grows p r c is =
    let here = (each_drop (λ l. Contains (map place (marks_of (lines (with_rows (r ∷ []) p)))) (place_of l.name Under) × Contains (map place (marks_of (lines (with_rows (r ∷ []) p)))) (place_of l.name Over)) p.rows r (stay_lines 1001 p.stays) (here-in (lines (with_rows (r ∷ []) p)))).0 in
    contains_each (λ v. Contains (map place (marks_of (lines (with_rows (r ∷ []) p)))) v) (marks_of (lines p)) c
    (each_marks (λ v. Contains (map place (marks_of (lines (with_rows (r ∷ []) p)))) v) (lines p)
    (each-impl (λ l. Contains (map place (marks_of (lines (with_rows (r ∷ []) p)))) (place_of l.name Under) × Contains (map place (marks_of (lines (with_rows (r ∷ []) p)))) (place_of l.name Over)) _ (lines p) (λ l h. h.0) here)
    (each-impl (λ l. Contains (map place (marks_of (lines (with_rows (r ∷ []) p)))) (place_of l.name Under) × Contains (map place (marks_of (lines (with_rows (r ∷ []) p)))) (place_of l.name Over)) _ (lines p) (λ l h. h.1) here)) is

-- the row's own marks
pub own-mark : (p : Problem) (r : Row) (side : Side) → Contains (map place (marks_of (lines (with_rows (r ∷ []) p)))) (place_of (Held r.id) side)
own-mark p r Under = (each_drop (λ l. Contains (map place (marks_of (lines (with_rows (r ∷ []) p)))) (place_of l.name Under)) p.rows r (stay_lines 1001 p.stays) (each-impl (λ l. Contains (map place (marks_of (lines (with_rows (r ∷ []) p)))) (place_of l.name Under) × Contains (map place (marks_of (lines (with_rows (r ∷ []) p)))) (place_of l.name Over)) _ (lines (with_rows (r ∷ []) p)) (λ l h. h.0) (here-in (lines (with_rows (r ∷ []) p))))).1
own-mark p r Over = (each_drop (λ l. Contains (map place (marks_of (lines (with_rows (r ∷ []) p)))) (place_of l.name Over)) p.rows r (stay_lines 1001 p.stays) (each-impl (λ l. Contains (map place (marks_of (lines (with_rows (r ∷ []) p)))) (place_of l.name Under) × Contains (map place (marks_of (lines (with_rows (r ∷ []) p)))) (place_of l.name Over)) _ (lines (with_rows (r ∷ []) p)) (λ l h. h.1) (here-in (lines (with_rows (r ∷ []) p))))).1

-- the marks of the problem with the row are the old ones and its own two
pub each-mark : (P : ℕ → Type 0) (p : Problem) (r : Row) → ((c : ℕ) → Contains (map place (marks_of (lines p))) c → P c) → P (place_of (Held r.id) Under) → P (place_of (Held r.id) Over) → Each (λ m. P (place m)) (marks_of (lines (with_rows (r ∷ []) p)))
each-mark P p r old under over =
    each_marks P (lines (with_rows (r ∷ []) p))
    (each_put (λ l. P (place_of l.name Under)) p.rows r (stay_lines 1001 p.stays) (each-impl (λ l. Contains (map place (marks_of (lines p))) (place_of l.name Under) × Contains (map place (marks_of (lines p))) (place_of l.name Over)) _ (lines p) (λ l h. old (place_of l.name Under) h.0) (here-in (lines p))) under)
    (each_put (λ l. P (place_of l.name Over)) p.rows r (stay_lines 1001 p.stays) (each-impl (λ l. Contains (map place (marks_of (lines p))) (place_of l.name Under) × Contains (map place (marks_of (lines p))) (place_of l.name Over)) _ (lines p) (λ l h. old (place_of l.name Over) h.1) (here-in (lines p))) over)

pub row-small : (p : Problem) (r : Row) → IsWhole (with_rows (r ∷ []) p) → IsSmallLine (line_of_row r)
row-small p r whole = (each_drop IsSmallLine p.rows r (stay_lines 1001 p.stays) (lines_small (with_rows (r ∷ []) p) whole)).1

-- ---- marks inside

pub old-in : (at : List Mark) (m : Mark) (c : ℕ) → IsIn c at → IsIn c (at ++ (m ∷ []))
old-in [] m c (k, within, is) = absurd (omega (arith, within))
old-in (x ∷ at) m c (zero, within, is) = (0, omega arith, is)
old-in (x ∷ at) m c (suc k, within, is) = let i = old-in at m c (k, omega (arith, within), is) in (suc i.0, omega (arith, i.1), i.2)

pub new-in : (at : List Mark) (m : Mark) → IsIn (place m) (at ++ (m ∷ []))
new-in [] m = (0, omega arith, refl)
new-in (x ∷ at) m = let i = new-in at m in (suc i.0, omega (arith, i.1), i.2)

pub in-parts : (at : List Mark) (m : Mark) (c : ℕ) → IsIn c (at ++ (m ∷ [])) → IsIn c at ⊎ (c ≡ place m)
in-parts [] m c (zero, within, is) = inr (sym is)
in-parts [] m c (suc k, within, is) = absurd (omega (arith, within))
in-parts (x ∷ at) m c (zero, within, is) = inl (0, omega arith, is)
in-parts (x ∷ at) m c (suc k, within, is) = elim (in-parts at m c (k, omega (arith, within), is)) [
  | inl i ↦ inl (suc i.0, omega (arith, i.1), i.2)
  | inr e ↦ inr e
]

pub apart-with : (R : Mark → Mark → Type 0) (xs : List Mark) (m : Mark) → AllPairs R xs → Each (λ x. R x m) xs → AllPairs R (xs ++ (m ∷ []))
apart-with R [] m apart far = λ i j d before within. absurd (omega (arith, before, within))
apart-with R (x ∷ xs) m apart far =
    AllPairs-cons R x (xs ++ (m ∷ []))
    (All-from_recursion (R x) (xs ++ (m ∷ [])) (each-joined (R x) xs (m ∷ []) (recursion_from_All (R x) xs (head_pairs R x xs apart)) (far.0, tt)))
    (apart-with R xs m (tail_pairs R x xs apart) far.1)

-- ---- points and rays with the row

-- the constant's denominator times the numbers; the row's gap at its over mark, and 0 at its under mark
abbrev pub extended : Row → (ℕ → ℤ) → ℕ → ℤ
extended r n v = cond (nat_eq v (place_of (Held r.id) Over)) (pos r.constant.den *ℤ value_at (λ a. n (attr_column a)) r.terms -ℤ r.constant.num *ℤ n one_column)
    (cond (nat_eq v (place_of (Held r.id) Under)) (pos 0) (pos r.constant.den *ℤ n v))

pub extended-other : (r : Row) (n : ℕ → ℤ) (v : ℕ) → v ≢ place_of (Held r.id) Over → v ≢ place_of (Held r.id) Under → extended r n v ≡ pos r.constant.den *ℤ n v
extended-other r n v o u =
    ap (λ (b : Bool). cond b (pos r.constant.den *ℤ value_at (λ a. n (attr_column a)) r.terms -ℤ r.constant.num *ℤ n one_column) (cond (nat_eq v (place_of (Held r.id) Under)) (pos 0) (pos r.constant.den *ℤ n v))) (ne_eqb v (place_of (Held r.id) Over) o)
    ∙ ap (λ (b : Bool). cond b (pos 0) (pos r.constant.den *ℤ n v)) (ne_eqb v (place_of (Held r.id) Under) u)

pub extended-over : (r : Row) (n : ℕ → ℤ) → extended r n (place_of (Held r.id) Over) ≡ pos r.constant.den *ℤ value_at (λ a. n (attr_column a)) r.terms -ℤ r.constant.num *ℤ n one_column
extended-over r n = ap (λ (b : Bool). cond b (pos r.constant.den *ℤ value_at (λ a. n (attr_column a)) r.terms -ℤ r.constant.num *ℤ n one_column) (cond (nat_eq (place_of (Held r.id) Over) (place_of (Held r.id) Under)) (pos 0) (pos r.constant.den *ℤ n (place_of (Held r.id) Over)))) (eq-eqb (place_of (Held r.id) Over) (place_of (Held r.id) Over) refl)

pub extended-under : (r : Row) (n : ℕ → ℤ) → place_of (Held r.id) Under ≢ place_of (Held r.id) Over → extended r n (place_of (Held r.id) Under) ≡ pos 0
extended-under r n ne =
    ap (λ (b : Bool). cond b (pos r.constant.den *ℤ value_at (λ a. n (attr_column a)) r.terms -ℤ r.constant.num *ℤ n one_column) (cond (nat_eq (place_of (Held r.id) Under) (place_of (Held r.id) Under)) (pos 0) (pos r.constant.den *ℤ n (place_of (Held r.id) Under)))) (ne_eqb (place_of (Held r.id) Under) (place_of (Held r.id) Over) ne)
    ∙ ap (λ (b : Bool). cond b (pos 0) (pos r.constant.den *ℤ n (place_of (Held r.id) Under))) (eq-eqb (place_of (Held r.id) Under) (place_of (Held r.id) Under) refl)

pub extended-attr : (r : Row) (n : ℕ → ℤ) (a : ℕ) → IsSmallLine (line_of_row r) → extended r n (attr_column a) ≡ pos r.constant.den *ℤ n (attr_column a)
extended-attr r n a small = extended-other r n (attr_column a) (λ e. absurd (omega (arith, small.over, e))) (λ e. absurd (omega (arith, small.under, e)))

pub extended-one : (r : Row) (n : ℕ → ℤ) → IsSmallLine (line_of_row r) → extended r n one_column ≡ pos r.constant.den *ℤ n one_column
extended-one r n small = extended-other r n one_column (λ e. absurd (omega (arith, small.over, e))) (λ e. absurd (omega (arith, small.under, e)))

-- the columns of an equation
pub each-column : (P : ℕ → Type 0) (l : Line) → P (place_of l.name Under) → P (place_of l.name Over) → P one_column → ((a : ℕ) → P (attr_column a)) → Each (λ e. P e.attr) (equation l)
each-column P l u o one attr = (u, (o, (one, attrs l.form)))
  where
    attrs : (form : List Term) → Each (λ (e : Term). P e.attr) (map (λ (e : Term). record { attr = attr_column e.attr; by = pos l.den *ℤ e.by }) form)
    attrs [] = tt
    attrs (e ∷ form) = (attr e.attr, attrs form)

pub extended-old : (r : Row) (n : ℕ → ℤ) (l : Line) → IsSmallLine (line_of_row r) → l.name ≢ Held r.id → value_at (extended r n) (equation l) ≡ pos r.constant.den *ℤ value_at n (equation l)
extended-old r n l small ne =
    sum-each (λ e. e.by *ℤ extended r n e.attr) (λ e. e.by *ℤ (pos r.constant.den *ℤ n e.attr)) (equation l)
    (each-impl (λ e. extended r n e.attr ≡ pos r.constant.den *ℤ n e.attr) _ (equation l) (λ e h. ap (λ (z : ℤ). e.by *ℤ z) h)
    (each-column (λ c. extended r n c ≡ pos r.constant.den *ℤ n c) l
    (extended-other r n (place_of l.name Under) (λ e. ne (same-name l.name (Held r.id) Under Over e)) (λ e. ne (same-name l.name (Held r.id) Under Under e)))
    (extended-other r n (place_of l.name Over) (λ e. ne (same-name l.name (Held r.id) Over Over e)) (λ e. ne (same-name l.name (Held r.id) Over Under e)))
    (extended-one r n small) (λ a. extended-attr r n a small)))
    ∙ value-scaled (pos r.constant.den) n (equation l)

own-parts : (d : ℕ) (k f one u o w v : ℤ) → u ≡ pos 0 → o ≡ pos d *ℤ f -ℤ k *ℤ one → w ≡ pos d *ℤ one → v ≡ pos d *ℤ (pos d *ℤ f) → pos d *ℤ u +ℤ (neg_ℤ (pos d) *ℤ o +ℤ (neg_ℤ k *ℤ w +ℤ v)) ≡ pos 0
own-parts d k f one u o w v a b c e =
    let g : pos d *ℤ u ≡ pos 0 = ap (λ (z : ℤ). pos d *ℤ z) a ∙ mul-zero_ℤ (pos d) in
    let h : neg_ℤ (pos d) *ℤ o ≡ neg_ℤ (pos d *ℤ (pos d *ℤ f) -ℤ pos d *ℤ (k *ℤ one)) = neg-first (pos d) o ∙ ap neg_ℤ (ap (λ (z : ℤ). pos d *ℤ z) b ∙ mul-sub_left (pos d) (pos d *ℤ f) (k *ℤ one)) in
    let i : neg_ℤ k *ℤ w ≡ neg_ℤ (pos d *ℤ (k *ℤ one)) = neg-first k w ∙ ap neg_ℤ (ap (λ (z : ℤ). k *ℤ z) c ∙ mul_left_comm_ℤ k (pos d) one) in
    omega (arith, ints, g, h, i, e)
  where
    neg-first : (t z : ℤ) → neg_ℤ t *ℤ z ≡ neg_ℤ (t *ℤ z)
    neg-first t z =
        let a : (t +ℤ neg_ℤ t) *ℤ z ≡ t *ℤ z +ℤ neg_ℤ t *ℤ z = add-mul_right t (neg_ℤ t) z in
        let o : t +ℤ neg_ℤ t ≡ pos 0 = omega (arith, ints) in
        let n : (t +ℤ neg_ℤ t) *ℤ z ≡ pos 0 = ap (λ (k : ℤ). k *ℤ z) o ∙ zero-mul_ℤ z in
        omega (arith, ints, a, n)

attr-values : (r : Row) (n : ℕ → ℤ) (form : List Term) → IsSmallLine (line_of_row r) → value_at (λ a. extended r n (attr_column a)) form ≡ pos r.constant.den *ℤ value_at (λ a. n (attr_column a)) form
attr-values r n form small =
    sum-each (λ (e : Term). e.by *ℤ extended r n (attr_column e.attr)) (λ e. e.by *ℤ (pos r.constant.den *ℤ n (attr_column e.attr))) form (each form)
    ∙ value-scaled (pos r.constant.den) (λ a. n (attr_column a)) form
  where
    each : (form : List Term) → Each (λ (e : Term). e.by *ℤ extended r n (attr_column e.attr) ≡ e.by *ℤ (pos r.constant.den *ℤ n (attr_column e.attr))) form
    each [] = tt
    each (e ∷ form) = (ap (λ (z : ℤ). e.by *ℤ z) (extended-attr r n e.attr small), each form)

pub extended-own : (r : Row) (n : ℕ → ℤ) → IsSmallLine (line_of_row r) → value_at (extended r n) (equation (line_of_row r)) ≡ pos 0
extended-own r n small =
    own-parts r.constant.den r.constant.num (value_at (λ a. n (attr_column a)) r.terms) (n one_column) (extended r n (place_of (Held r.id) Under)) (extended r n (place_of (Held r.id) Over)) (extended r n one_column) (value_at (extended r n) (map (λ e. record { attr = attr_column e.attr; by = pos r.constant.den *ℤ e.by }) r.terms))
    (extended-under r n small.sides) (extended-over r n) (extended-one r n small)
    (value-columns (extended r n) (pos r.constant.den) r.terms ∙ ap (λ (z : ℤ). pos r.constant.den *ℤ z) (attr-values r n r.terms small))

-- what solves the lines does so with the row
pub extended-solves : (p : Problem) (r : Row) (n : ℕ → ℤ) → IsWhole (with_rows (r ∷ []) p) → All (λ l. value_at n (equation l) ≡ pos 0) (lines p) → All (λ l. value_at (extended r n) (equation l) ≡ pos 0) (lines (with_rows (r ∷ []) p))
extended-solves p r n whole h =
    let small = row-small p r whole in
    All-from_recursion (λ l. value_at (extended r n) (equation l) ≡ pos 0) (lines (with_rows (r ∷ []) p))
    (each_put (λ l. value_at (extended r n) (equation l) ≡ pos 0) p.rows r (stay_lines 1001 p.stays)
    (each-impl (λ l. (value_at n (equation l) ≡ pos 0) × (l.name ≢ Held r.id)) _ (lines p)
    (λ l k. extended-old r n l small k.1 ∙ ap (λ (z : ℤ). pos r.constant.den *ℤ z) k.0 ∙ mul-zero_ℤ (pos r.constant.den))
    (each-both _ _ (lines p) (recursion_from_All _ (lines p) h) (fresh-names p r whole)))
    (extended-own r n small))

pub without-row : (p : Problem) (r : Row) (x : Point) → Solves (with_rows (r ∷ []) p) x → Solves p x
without-row p r x h = All-from_recursion (λ l. value_at x.num (equation l) ≡ pos 0) (lines p) ((each_drop (λ l. value_at x.num (equation l) ≡ pos 0) p.rows r (stay_lines 1001 p.stays) (recursion_from_All _ (lines (with_rows (r ∷ []) p)) h)).0)

pub den-positive : (p : Problem) (r : Row) → IsWhole (with_rows (r ∷ []) p) → 0 < r.constant.den
den-positive p r whole = (row-there p.rows (recursion_from_All IsRow (p.rows ++ (r ∷ [])) whole.rows)).constant.lowest.above
  where
    row-there : (rows : List Row) → Each IsRow (rows ++ (r ∷ [])) → IsRow r
    row-there [] h = h.0
    row-there (s ∷ rows) h = row-there rows h.1

unfoldable extended-point : (p : Problem) (r : Row) → IsWhole (with_rows (r ∷ []) p) → Point → Point
extended-point p r whole x = record {
  num = extended r x.num;
  positive = subst (λ (z : ℤ). pos 0 <ℤ z) (sym (extended-one r x.num (row-small p r whole))) (mul_positive r.constant.den (x.num one_column) (den-positive p r whole) x.positive);
}

-- ---- rays

old-out : (at : List Mark) (r : Row) (c : ℕ) → (IsIn c (at ++ (over_mark r.id ∷ [])) → ⊥) → IsIn c at → ⊥
old-out at r c out i = out (old-in at (over_mark r.id) c i)

-- an old mark that is outside is so with the row's over mark
still-out : (p : Problem) (at : List Mark) (r : Row) (c : ℕ) → IsWhole (with_rows (r ∷ []) p) → Contains (map place (marks_of (lines p))) c → (IsIn c at → ⊥) → IsIn c (at ++ (over_mark r.id ∷ [])) → ⊥
still-out p at r c whole is out i = elim (in-parts at (over_mark r.id) c i) [
  | inl j ↦ out j
  | inr e ↦ fresh-mark p r c Over whole is e
]

scaled-none : (d : ℕ) (z y : ℤ) → y ≡ pos d *ℤ z → z ≡ pos 0 → y ≡ pos 0
scaled-none d z y e none = e ∙ ap (λ (t : ℤ). pos d *ℤ t) none ∙ mul-zero_ℤ (pos d)

old-extended : (p : Problem) (r : Row) (n : ℕ → ℤ) (c : ℕ) → IsWhole (with_rows (r ∷ []) p) → Contains (map place (marks_of (lines p))) c → extended r n c ≡ pos r.constant.den *ℤ n c
old-extended p r n c whole is = extended-other r n c (fresh-mark p r c Over whole is) (fresh-mark p r c Under whole is)

old-ray : (p : Problem) (at : List Mark) (r : Row) (c : ℕ) (n : ℕ → ℤ) → IsWhole (with_rows (r ∷ []) p) → Contains (map place (marks_of (lines p))) c → IsRay p at c n → IsRay (with_rows (r ∷ []) p) (at ++ (over_mark r.id ∷ [])) c (extended r n)
old-ray p at r c n whole is ray =
    let small = row-small p r whole in
    let here : pos 0 <ℤ extended r n c = subst (λ (z : ℤ). pos 0 <ℤ z) (sym (old-extended p r n c whole is)) (mul_positive r.constant.den (n c) (den-positive p r whole) ray.here) in
    record {
      holds = extended-solves p r n whole ray.holds;
      still = scaled-none r.constant.den (n one_column) (extended r n one_column) (extended-one r n small) ray.still;
      here = here;
      other = All-from_recursion (λ m. (IsIn (place m) (at ++ (over_mark r.id ∷ [])) → ⊥) → place m ≢ c → extended r n (place m) ≡ pos 0) (marks_of (lines (with_rows (r ∷ []) p)))
          (each-mark (λ v. (IsIn v (at ++ (over_mark r.id ∷ [])) → ⊥) → v ≢ c → extended r n v ≡ pos 0) p r
          (λ v mark out ne. scaled-none r.constant.den (n v) (extended r n v) (old-extended p r n v whole mark)
          (contains_each (λ u. (IsIn u at → ⊥) → u ≢ c → n u ≡ pos 0) (marks_of (lines p)) v (recursion_from_All (λ m. (IsIn (place m) at → ⊥) → place m ≢ c → n (place m) ≡ pos 0) (marks_of (lines p)) ray.other) mark (old-out at r v out) ne))
          (λ out ne. extended-under r n small.sides)
          (λ out ne. absurd (out (new-in at (over_mark r.id)))));
    }

-- each outside mark can grow alone with the row
pub joined_rays : (p : Problem) (at : List Mark) (r : Row) → IsWhole (with_rows (r ∷ []) p) → HasRays p at → HasRays (with_rows (r ∷ []) p) (at ++ (over_mark r.id ∷ []))
joined_rays p at r whole rays c is =
    contains_each (λ v. (IsIn v (at ++ (over_mark r.id ∷ [])) → ⊥) → (ray : ℕ → ℤ) × IsRay (with_rows (r ∷ []) p) (at ++ (over_mark r.id ∷ [])) v ray) (marks_of (lines (with_rows (r ∷ []) p))) c
    (each-mark (λ v. (IsIn v (at ++ (over_mark r.id ∷ [])) → ⊥) → (ray : ℕ → ℤ) × IsRay (with_rows (r ∷ []) p) (at ++ (over_mark r.id ∷ [])) v ray) p r
    (λ v mark out. let n = rays v mark (old-out at r v out) in (extended r n.0, old-ray p at r v n.0 whole mark n.1))
    (λ out. (words-bump, turn-ray (with_rows (r ∷ []) p) (at ++ (over_mark r.id ∷ [])) (Held r.id) Over small (new-in at (over_mark r.id))))
    (λ out. absurd (out (new-in at (over_mark r.id))))) is
  where
    small : IsSmall (Held r.id)
    small = let s = row-small p r whole in let o = s.over in omega (arith, o)

    words-bump : ℕ → ℤ
    words-bump = bump (Held r.id)

-- ---- the corner

over-same : (u o v q a b : ℤ) → u ≡ pos 0 → v ≡ pos 0 → (u -ℤ o) *ℤ b ≡ (v -ℤ q) *ℤ a → o *ℤ b ≡ q *ℤ a
over-same u o v q a b e f h =
    let left : (u -ℤ o) *ℤ b ≡ neg_ℤ (o *ℤ b) = *ℤ_comm (u -ℤ o) b ∙ mul-sub_left b u o ∙ (let z : b *ℤ u ≡ pos 0 = ap (λ (t : ℤ). b *ℤ t) e ∙ mul-zero_ℤ b in omega (arith, ints, z, *ℤ_comm b o)) in
    let right : (v -ℤ q) *ℤ a ≡ neg_ℤ (q *ℤ a) = *ℤ_comm (v -ℤ q) a ∙ mul-sub_left a v q ∙ (let z : a *ℤ v ≡ pos 0 = ap (λ (t : ℤ). a *ℤ t) f ∙ mul-zero_ℤ a in omega (arith, ints, z, *ℤ_comm a q)) in
    omega (arith, ints, left, right, h)

pub both-none : (x y a b : ℤ) → x ≡ pos 0 → y ≡ pos 0 → x *ℤ a ≡ y *ℤ b
both-none x y a b e f = ap (λ (z : ℤ). z *ℤ a) e ∙ zero-mul_ℤ a ∙ sym (ap (λ (z : ℤ). z *ℤ b) f ∙ zero-mul_ℤ b)

-- x*b = y*a: d*x and d*a in their place
scaled-agree : (d : ℕ) (x y a b u w : ℤ) → u ≡ pos d *ℤ x → w ≡ pos d *ℤ a → x *ℤ b ≡ y *ℤ a → u *ℤ b ≡ y *ℤ w
scaled-agree d x y a b u w e f h = ap (λ (z : ℤ). z *ℤ b) e ∙ mul_assoc_ℤ (pos d) x b ∙ ap (λ (z : ℤ). pos d *ℤ z) h ∙ mul_left_comm_ℤ (pos d) y a ∙ ap (λ (z : ℤ). y *ℤ z) (sym f)

stands-before : (p : Problem) (at : List Mark) (r : Row) (y : Point) → IsWhole (with_rows (r ∷ []) p) → StandsAt (with_rows (r ∷ []) p) (at ++ (over_mark r.id ∷ [])) y → StandsAt p at y
stands-before p at r y whole stands = (
  without-row p r y stands.0,
  All-from_recursion (λ m. (IsIn (place m) at → ⊥) → y.num (place m) ≡ pos 0) (marks_of (lines p))
      (each_marks (λ c. (IsIn c at → ⊥) → y.num c ≡ pos 0) (lines p)
      (each-impl (λ l. Contains (map place (marks_of (lines p))) (place_of l.name Under) × Contains (map place (marks_of (lines p))) (place_of l.name Over)) _ (lines p) (λ l h out. there (place_of l.name Under) h.0 out) (here-in (lines p)))
      (each-impl (λ l. Contains (map place (marks_of (lines p))) (place_of l.name Under) × Contains (map place (marks_of (lines p))) (place_of l.name Over)) _ (lines p) (λ l h out. there (place_of l.name Over) h.1 out) (here-in (lines p)))),
)
  where
    there : (c : ℕ) → Contains (map place (marks_of (lines p))) c → (IsIn c at → ⊥) → y.num c ≡ pos 0
    there c is out = nothing_outside (with_rows (r ∷ []) p) (at ++ (over_mark r.id ∷ [])) y c stands (mark-grows p r c is) (still-out p at r c whole is out)

under-out : (p : Problem) (at : List Mark) (r : Row) → IsWhole (with_rows (r ∷ []) p) → IsCorner p at → IsIn (place_of (Held r.id) Under) (at ++ (over_mark r.id ∷ [])) → ⊥
under-out p at r whole corner i = elim (in-parts at (over_mark r.id) (place_of (Held r.id) Under) i) [
  | inl j ↦ fresh-mark p r (place_of (Held r.id) Under) Under whole (contains_each (λ c. Contains (map place (marks_of (lines p))) c) at (place_of (Held r.id) Under) (recursion_from_All (λ m. Contains (map place (marks_of (lines p))) (place m)) at corner.marks) j) refl
  | inr e ↦ (row-small p r whole).sides e
]

extended-stands : (p : Problem) (at : List Mark) (r : Row) (x : Point) (whole : IsWhole (with_rows (r ∷ []) p)) → StandsAt p at x → StandsAt (with_rows (r ∷ []) p) (at ++ (over_mark r.id ∷ [])) (extended-point p r whole x)
unfolding extended-point
extended-stands p at r x whole stands = (
  extended-solves p r x.num whole stands.0,
  All-from_recursion (λ m. (IsIn (place m) (at ++ (over_mark r.id ∷ [])) → ⊥) → extended r x.num (place m) ≡ pos 0) (marks_of (lines (with_rows (r ∷ []) p)))
      (each-mark (λ c. (IsIn c (at ++ (over_mark r.id ∷ [])) → ⊥) → extended r x.num c ≡ pos 0) p r
      (λ c is out. scaled-none r.constant.den (x.num c) (extended r x.num c) (old-extended p r x.num c whole is) (nothing_outside p at x c stands is (old-out at r c out)))
      (λ out. extended-under r x.num (row-small p r whole).sides)
      (λ out. absurd (out (new-in at (over_mark r.id))))),
)

-- the row's attributes
row-covered : (p : Problem) (r : Row) → IsWhole (with_rows (r ∷ []) p) → Each (λ t. HasStay p.stays t.attr) r.terms
row-covered p r whole = recursion_from_All (λ t. HasStay p.stays t.attr) r.terms (there p.rows (recursion_from_All (IsCovered p.stays) (p.rows ++ (r ∷ [])) whole.covered))
  where
    there : (rows : List Row) → Each (IsCovered p.stays) (rows ++ (r ∷ [])) → IsCovered p.stays r
    there [] h = h.0
    there (s ∷ rows) h = there rows h.1

attr-agrees : (p : Problem) (at : List Mark) (corner : IsCorner p at) (y : Point) → StandsAt p at y → (attr : ℕ) → HasStay p.stays attr → Agree (attr_column attr) corner.point y
attr-agrees p at corner y stands attr (k, s, within, is, e) =
    subst (λ (n : ℕ). Agree (attr_column n) corner.point y) e (subst (λ (t : Stay). Agree (attr_column t.attr) corner.point y) is (corner.attrs_fixed y stands k s within))

over-agrees : (p : Problem) (at : List Mark) (r : Row) (whole : IsWhole (with_rows (r ∷ []) p)) (corner : IsCorner p at) (y : Point) → StandsAt (with_rows (r ∷ []) p) (at ++ (over_mark r.id ∷ [])) y → Agree (place_of (Held r.id) Over) (extended-point p r whole corner.point) y
unfolding extended-point
over-agrees p at r whole corner y stands =
    let x : ℕ → ℤ = extended r corner.point.num in
    let small = row-small p r whole in
    let line : Line = line_of_row r in
    let mine : pos r.constant.den *ℤ (deviation x line +ℤ form_value x line) ≡ r.constant.num *ℤ x one_column = line_gap x line (extended-own r corner.point.num small) in
    let other : pos r.constant.den *ℤ (deviation y.num line +ℤ form_value y.num line) ≡ r.constant.num *ℤ y.num one_column = line_gap y.num line ((each_drop (λ l. value_at y.num (equation l) ≡ pos 0) p.rows r (stay_lines 1001 p.stays) (recursion_from_All _ (lines (with_rows (r ∷ []) p)) stands.0)).1) in
    let before = stands-before p at r y whole stands in
    let forms : form_value x line *ℤ y.num one_column ≡ form_value y.num line *ℤ x one_column =
    agree-form (λ a. x (attr_column a)) (λ a. y.num (attr_column a)) (x one_column) (y.num one_column) r.terms
    (each-impl (λ t. HasStay p.stays t.attr) _ r.terms
    (λ t has. scaled-agree r.constant.den (corner.point.num (attr_column t.attr)) (y.num (attr_column t.attr)) (corner.point.num one_column) (y.num one_column) (x (attr_column t.attr)) (x one_column) (extended-attr r corner.point.num t.attr small) (extended-one r corner.point.num small) (attr-agrees p at corner y before t.attr has))
    (row-covered p r whole)) in
    over-same (x (place_of (Held r.id) Under)) (x (place_of (Held r.id) Over)) (y.num (place_of (Held r.id) Under)) (y.num (place_of (Held r.id) Over)) (x one_column) (y.num one_column)
    (extended-under r corner.point.num small.sides)
    (nothing_outside (with_rows (r ∷ []) p) (at ++ (over_mark r.id ∷ [])) y (place_of (Held r.id) Under) stands (own-mark p r Under) (under-out p at r whole corner))
    (gap-same r.constant.den r.constant.num (deviation x line) (deviation y.num line) (form_value x line) (form_value y.num line) (x one_column) (y.num one_column) (den-positive p r whole) mine other forms)

each-far : (p : Problem) (at : List Mark) (r : Row) → IsWhole (with_rows (r ∷ []) p) → Each (λ m. Contains (map place (marks_of (lines p))) (place m)) at → Each (λ m. place m ≢ place (over_mark r.id)) at
each-far p at r whole h = each-impl (λ m. Contains (map place (marks_of (lines p))) (place m)) _ at (λ m is. fresh-mark p r (place m) Over whole is) h

-- with a new row's over mark a corner is one of the problem with the row
pub joined_corner : (p : Problem) (at : List Mark) (r : Row) → IsWhole (with_rows (r ∷ []) p) → IsCorner p at → IsCorner (with_rows (r ∷ []) p) (at ++ (over_mark r.id ∷ []))
unfolding extended-point
joined_corner p at r whole corner =
    let small = row-small p r whole in
    let marks = recursion_from_All (λ m. Contains (map place (marks_of (lines p))) (place m)) at corner.marks in
    record {
      count = length-append at (over_mark r.id ∷ []) ∙ ap (λ (n : ℕ). n + 1) corner.count ∙ sym (length-append p.rows (r ∷ []));
      marks = All-from_recursion (λ m. Contains (map place (marks_of (lines (with_rows (r ∷ []) p)))) (place m)) (at ++ (over_mark r.id ∷ []))
          (each-joined (λ m. Contains (map place (marks_of (lines (with_rows (r ∷ []) p)))) (place m)) at (over_mark r.id ∷ [])
          (each-impl (λ m. Contains (map place (marks_of (lines p))) (place m)) _ at (λ m is. mark-grows p r (place m) is) marks) (own-mark p r Over, tt));
      apart = apart-with (λ m n. place m ≢ place n) at (over_mark r.id) corner.apart (each-far p at r whole marks);
      point = extended-point p r whole corner.point;
      stands = extended-stands p at r corner.point whole corner.stands;
      marks_fixed = λ y stands.
          All-from_recursion (λ m. Agree (place m) (extended-point p r whole corner.point) y) (marks_of (lines (with_rows (r ∷ []) p)))
          (each-mark (λ c. Agree c (extended-point p r whole corner.point) y) p r
          (λ c is. scaled-agree r.constant.den (corner.point.num c) (y.num c) (corner.point.num one_column) (y.num one_column) (extended r corner.point.num c) (extended r corner.point.num one_column) (old-extended p r corner.point.num c whole is) (extended-one r corner.point.num small)
          (contains_each (λ v. Agree v corner.point y) (marks_of (lines p)) c (recursion_from_All (λ m. Agree (place m) corner.point y) (marks_of (lines p)) (corner.marks_fixed y (stands-before p at r y whole stands))) is))
          (both-none (extended r corner.point.num (place_of (Held r.id) Under)) (y.num (place_of (Held r.id) Under)) (y.num one_column) (extended r corner.point.num one_column) (extended-under r corner.point.num small.sides)
          (nothing_outside (with_rows (r ∷ []) p) (at ++ (over_mark r.id ∷ [])) y (place_of (Held r.id) Under) stands (own-mark p r Under) (under-out p at r whole corner)))
          (over-agrees p at r whole corner y stands));
      attrs_fixed = λ y stands.
          All-from_recursion (λ s. Agree (attr_column s.attr) (extended-point p r whole corner.point) y) p.stays
          (each-impl (λ s. Agree (attr_column s.attr) corner.point y) _ p.stays
          (λ s h. scaled-agree r.constant.den (corner.point.num (attr_column s.attr)) (y.num (attr_column s.attr)) (corner.point.num one_column) (y.num one_column) (extended r corner.point.num (attr_column s.attr)) (extended r corner.point.num one_column) (extended-attr r corner.point.num s.attr small) (extended-one r corner.point.num small) h)
          (recursion_from_All (λ s. Agree (attr_column s.attr) corner.point y) p.stays (corner.attrs_fixed y (stands-before p at r y whole stands))));
    }
