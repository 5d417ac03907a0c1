-- The sums of rows at the corner where the route begins.
use Rattle.std.proofs.Common.{◌≡◌, ◌≢◌, ◌∙◌, ℕ, zero, suc, ◌+◌, ◌*◌, ◌<◌, ◌≤◌, ◌^◌, ◌++◌, Bool, cond, nat_eq, List, [], ◌∷◌, length, map, set, get_or, take, true, false, ℤ, pos, negsuc, ◌+ℤ◌, ◌-ℤ◌, ◌*ℤ◌, ◌<ℤ◌, unsigned_abs, refl, sym, ap, ap₂, subst, subst₂, Option, None, Some, arith, All, inl, inr, length-set, get_or-set_same, get_or-set_other, length-append, mul-pos}
use Rattle.std.specs.List.{AllByRecursion as Each}
use Rattle.std.proofs.lemmas.Bool.{cases_eq}
use Rattle.std.proofs.lemmas.List.{get_or-append-add, get_or_append_left, get_or_default, get_or_push, length-map}
use Rattle.std.proofs.lemmas.List.Elements.{recursion_from_All, All-from_recursion}
use Rattle.std.proofs.Math.Nat.{eq-one_of_dvd-one}
use borrow.Author.Differences.{ints}
use Rattle.frac_core.specs.Fraction.{Fraction, IsFitting, IsLowest, IsRatio, IsUnfitRatio, sum_den, sum_num}
use Rattle.frac_core.proofs.Integers.{zero-mul_ℤ}
use Rattle.problem_core.specs.declared.parts.Mark.{Mark}
use Rattle.problem_core.specs.declared.parts.RowName.{RowName}
use Rattle.problem_core.specs.declared.parts.RowName.TheVariants.{Held, Stay as StayOf}
use Rattle.problem_core.specs.declared.parts.Side.{Side}
use Rattle.problem_core.specs.declared.parts.Side.TheVariants.{Under, Over}
use Rattle.problem_core.specs.declared.parts.Stay.{Stay}
use Rattle.problem_core.specs.declared.parts.Term.{Term}
use Rattle.problem_core.specs.Kept.{IsWhole, IsRow, IsTerm}
use Rattle.problem_core.specs.Layout.{HasStay, IsCovered, Line, Problem, Row, line_of_row, line_of_stay, lines, stay_lines, sum_of, value_at}
use Rattle.problem_core.specs.Corners.{IsIn, attr_column, equation, one_column, place, place_of}
use Rattle.problem_core.specs.Unfit.{AreOverFrom, HasNoWriting, IsUnfitTerms, first_terms, over_mark}
use Rattle.problem_core.proofs.Forms.{sum-zero}
use Rattle.corner_laws.proofs.LevelCosts.Gaps.{line_gap}
use Rattle.corner_laws.proofs.LinePlaces.{lines_apart, sum-single}
use Rattle.corner_laws.proofs.LevelCosts.Unique.{same-name}
use Rattle.corner_lines.specs.LineEquations.{IsLineEquation, IsLineSum, IsOutsideLine, deviation}
use Rattle.corner_lines.specs.Joins.{AreAdded}
use Rattle.corner_lines.proofs.ProblemChanges.JoinedLines.{added, goes_on, no_terms, past-terms, plain-terms, same-sum, same-writing}
use Rattle.corner_lines.proofs.Lines.LineUnfits.{line_sum, line_unfit, mark_unfit}
use Rattle.path_lines.specs.Walking.FirstLines.{AreFirstLines, HasUnfitTerms, IsRowOf, IsTermsSum}
use Rattle.path_lines.specs.Numbers.{number_at}
use Rattle.path_lines.specs.Route.{over_marks}
use Rattle.path_lines.specs.Tables.{AreLines, AreSized, IsLineAt, IsSized, IsSizedLine, IsSumOf, IsThere, line_count, name_at, numbers_of}
use Rattle.path_lines.specs.declared.table.Sum.{Sum}
use Rattle.path_lines.specs.declared.table.Inside.{Inside}
use Rattle.path_lines.proofs.Exchanges.EnteringLine.{at_place}
use Rattle.path_lines.proofs.Walking.FirstCorner.{begins_there}
use Rattle.path_lines.proofs.Places.{any_line, name_there, names_differ}
use Rattle.frac_core.proofs.Numbers.{one-times as one_times}
use Rattle.problem_core.proofs.Lines.{length-stays as stays_length}
use Rattle.frac_core.proofs.Bools.{count-other as cond_other, count-same as cond_same}

-- ---- lines by place

row_line : (rows : List Row) (ls : List Line) (k : ℕ) (d : Line) (r : Row) → k < length rows → get_or (map line_of_row rows ++ ls) k d ≡ line_of_row (get_or rows k r)
row_line [] ls k d r within = absurd (omega (arith, within))
row_line (x ∷ rows) ls zero d r within = refl
row_line (x ∷ rows) ls (suc k) d r within = row_line rows ls k d r (omega (arith, within))

pub later_line : (rows : List Row) (ls : List Line) (i : ℕ) (d : Line) → get_or (map line_of_row rows ++ ls) (length rows + i) d ≡ get_or ls i d
later_line rows ls i d = ap (λ (n : ℕ). get_or (map line_of_row rows ++ ls) (n + i) d) (sym (length-map rows line_of_row)) ∙ get_or-append-add (map line_of_row rows) ls i d

stay_line : (level : ℕ) (stays : List Stay) (i : ℕ) (d : Line) (s : Stay) → i < length stays → (k : ℕ) × (get_or (stay_lines level stays) i d ≡ line_of_stay k (get_or stays i s))
stay_line level [] i d s within = absurd (omega (arith, within))
stay_line level (x ∷ stays) zero d s within = (level, refl)
stay_line level (x ∷ stays) (suc i) d s within = stay_line (level + 1) stays i d s (omega (arith, within))

pub count_lines : (p : Problem) → line_count p ≡ length p.rows + length p.stays
count_lines p = length-append (map line_of_row p.rows) (stay_lines 1001 p.stays) ∙ ap₂ ◌+◌ (length-map p.rows line_of_row) (stays_length 1001 p.stays)

pub row_at : (p : Problem) (k : ℕ) (d : Line) (r : Row) → k < length p.rows → get_or (lines p) k d ≡ line_of_row (get_or p.rows k r)
row_at p k d r within = row_line p.rows (stay_lines 1001 p.stays) k d r within

pub row_name : (p : Problem) (k : ℕ) (r : Row) → k < length p.rows → name_at p k ≡ Held (get_or p.rows k r).id
row_name p k r within = sym (name_there p k any_line (omega (arith, within, count_lines p))) ∙ ap (λ (l : Line). l.name) (row_at p k any_line r within)

pub stay_at : (p : Problem) (i : ℕ) (d : Line) (s : Stay) → i < length p.stays → (k : ℕ) × (get_or (lines p) (length p.rows + i) d ≡ line_of_stay k (get_or p.stays i s))
stay_at p i d s within =
    let h = stay_line 1001 p.stays i d s within in
    (h.0, later_line p.rows (stay_lines 1001 p.stays) i d ∙ h.1)

pub stay_name : (p : Problem) (i : ℕ) (s : Stay) → i < length p.stays → name_at p (length p.rows + i) ≡ StayOf (get_or p.stays i s).attr
stay_name p i s within = sym (name_there p (length p.rows + i) any_line (omega (arith, within, count_lines p))) ∙ ap (λ (l : Line). l.name) (stay_at p i any_line s within).1

-- ---- the over marks

over_in_rows : (rows : List Row) (k : ℕ) (r : Row) → k < length rows → IsIn (place (over_mark (get_or rows k r).id)) (map (λ (r : Row). over_mark r.id) rows)
over_in_rows [] k r within = absurd (omega (arith, within))
over_in_rows (x ∷ rows) zero r within = (0, omega arith, refl)
over_in_rows (x ∷ rows) (suc k) r within = let i = over_in_rows rows k r (omega (arith, within)) in (suc i.0, omega (arith, i.1), i.2)

pub over_in : (p : Problem) (k : ℕ) (r : Row) → k < length p.rows → IsIn (place (over_mark (get_or p.rows k r).id)) (over_marks p)
over_in p k r within = over_in_rows p.rows k r within

apart_stay : (id attr : ℕ) (side : Side) → place (over_mark id) ≢ place_of (StayOf attr) side
apart_stay id attr Under e = absurd (omega (arith, e))
apart_stay id attr Over e = absurd (omega (arith, e))

stay_not_in : (rows : List Row) (attr : ℕ) (side : Side) → IsIn (place_of (StayOf attr) side) (map (λ (r : Row). over_mark r.id) rows) → ⊥
stay_not_in [] attr side (k, within, is) = absurd (omega (arith, within))
stay_not_in (x ∷ rows) attr side (zero, within, is) = apart_stay x.id attr side is
stay_not_in (x ∷ rows) attr side (suc k, within, is) = stay_not_in rows attr side (k, omega (arith, within), is)

pub stay_outside : (p : Problem) (attr : ℕ) → IsOutsideLine (over_marks p) (StayOf attr)
stay_outside p attr = record { under = stay_not_in p.rows attr Under; over = stay_not_in p.rows attr Over }

pub all_over : (p : Problem) (id : ℕ) → AreOverFrom p (over_marks p) id
all_over p id k d within le = over_in p k d within

-- ---- one line alone

abbrev pub units : Problem → ℕ → RowName → ℤ
units p k name = cond (nat_eq (place_of name Under) (place_of (name_at p k) Under)) (pos 1) (pos 0)

abbrev pub unit_times : (ℕ → ℤ) → RowName → Line → ℤ
unit_times x name l = cond (nat_eq (place_of l.name Under) (place_of name Under)) (pos 1) (pos 0) *ℤ deviation l.name x

pub sum_of_unit : (p : Problem) (k : ℕ) (x : ℕ → ℤ) → IsWhole p → k < line_count p → sum_of (λ l. units p k l.name *ℤ deviation l.name x) (lines p) ≡ deviation (name_at p k) x
sum_of_unit p k x whole within =
    let each = sum-single (λ (m l : Line). unit_times x m.name l) (λ m l apart. ap (λ (z : ℤ). z *ℤ deviation l.name x) (cond_other (place_of l.name Under) (place_of m.name Under) (pos 1) (λ e. apart.under_under (sym e))) ∙ zero-mul_ℤ (deviation l.name x)) (lines p) (lines_apart p whole) in
    let here : sum_of (unit_times x (get_or (lines p) k any_line).name) (lines p) ≡ unit_times x (get_or (lines p) k any_line).name (get_or (lines p) k any_line) =
    All-from_recursion (λ (m : Line). sum_of (unit_times x m.name) (lines p) ≡ unit_times x m.name m) (lines p) each k any_line within in
    let name : (get_or (lines p) k any_line).name ≡ name_at p k = name_there p k any_line within in
    ap (λ (n : RowName). sum_of (unit_times x n) (lines p)) (sym name) ∙ here
    ∙ ap (λ (z : ℤ). z *ℤ deviation (get_or (lines p) k any_line).name x) (cond_same (place_of (get_or (lines p) k any_line).name Under) (place_of (get_or (lines p) k any_line).name Under) (pos 1) refl)
    ∙ one_times (deviation (get_or (lines p) k any_line).name x)
    ∙ ap (λ (n : RowName). deviation n x) name

pub units_here : (p : Problem) (k : ℕ) (name : RowName) → name ≡ name_at p k → units p k name ≡ pos 1
units_here p k name e = cond_same (place_of name Under) (place_of (name_at p k) Under) (pos 1) (ap (λ (n : RowName). place_of n Under) e)

pub units_other : (p : Problem) (k : ℕ) (name : RowName) → name ≢ name_at p k → units p k name ≡ pos 0
units_other p k name ne = cond_other (place_of name Under) (place_of (name_at p k) Under) (pos 1) (λ e. ne (same-name name (name_at p k) e))

pub units_outside : (p : Problem) (at : List Mark) (k : ℕ) (name : RowName) → IsOutsideLine at (name_at p k) → units p k name ≢ pos 0 → IsOutsideLine at name
units_outside p at k name out some =
    elim (cases_eq (place_of name Under) (place_of (name_at p k) Under)) [
      | inl e ↦ subst (IsOutsideLine at) (sym (same-name name (name_at p k) e)) out
      | inr ne ↦ absurd (some (cond_other (place_of name Under) (place_of (name_at p k) Under) (pos 1) ne))
    ]

-- ---- an attribute is its stay's target and deviation

stay_parts : (d : ℕ) (k a u o s one : ℤ) → pos d *ℤ ((u -ℤ o) +ℤ (pos 1 *ℤ a +ℤ pos 0)) ≡ k *ℤ one → s ≡ o -ℤ u → pos d *ℤ (pos 1 *ℤ a -ℤ s) ≡ pos 1 *ℤ (k *ℤ one)
stay_parts d k a u o s one e f =
    let g : pos 1 *ℤ a -ℤ s ≡ (u -ℤ o) +ℤ (pos 1 *ℤ a +ℤ pos 0) = omega (arith, ints, f) in
    ap (λ (z : ℤ). pos d *ℤ z) g ∙ e ∙ sym (one_times (k *ℤ one))

pub attr_sum : (p : Problem) (i : ℕ) (s : Stay) → IsWhole p → i < length p.stays
    → IsLineSum p (over_marks p) (λ x. x (attr_column (get_or p.stays i s).attr)) 1 (units p (length p.rows + i)) (get_or p.stays i s).target.num (get_or p.stays i s).target.den
attr_sum p i s whole within =
    let k : ℕ = length p.rows + i in
    let there : k < line_count p = omega (arith, within, count_lines p) in
    let name : name_at p k ≡ StayOf (get_or p.stays i s).attr = stay_name p i s within in
    record {
      own_positive = omega arith;
      den_positive = (whole.stays i s within).target.lowest.above;
      outside = λ q d here some. units_outside p (over_marks p) k (get_or (lines p) q d).name (subst (IsOutsideLine (over_marks p)) (sym name) (stay_outside p (get_or p.stays i s).attr)) some;
      holds = λ x solves.
          let line = stay_at p i any_line s within in
          let gap = line_gap x.num (line_of_stay line.0 (get_or p.stays i s)) (subst (λ (l : Line). value_at x.num (equation l) ≡ pos 0) line.1 (solves k any_line there)) in
          stay_parts (get_or p.stays i s).target.den (get_or p.stays i s).target.num (x.num (attr_column (get_or p.stays i s).attr)) (x.num (place_of (StayOf (get_or p.stays i s).attr) Under)) (x.num (place_of (StayOf (get_or p.stays i s).attr) Over))
          (sum_of (λ l. units p k l.name *ℤ deviation l.name x.num) (lines p)) (x.num one_column) gap
          (sum_of_unit p k x.num whole there ∙ ap (λ (n : RowName). deviation n x.num) name);
    }

-- ---- one term more

pub abs_sum : (x y : ℤ) (m n : ℕ) → unsigned_abs x ≤ m → unsigned_abs y ≤ n → unsigned_abs (x +ℤ y) ≤ m + n
abs_sum (pos x) (pos y) m n h k = omega (arith, ints, h, k)
abs_sum (pos x) (negsuc y) m n h k = omega (arith, ints, h, k)
abs_sum (negsuc x) (pos y) m n h k = omega (arith, ints, h, k)
abs_sum (negsuc x) (negsuc y) m n h k = omega (arith, ints, h, k)

added_here : (old k u new : ℤ) → new ≡ old +ℤ k → u ≡ pos 1 → new ≡ pos 1 *ℤ old +ℤ (pos 1 *ℤ k) *ℤ u
added_here old k u new e f = e ∙ parts old k ∙ ap (λ (z : ℤ). pos 1 *ℤ old +ℤ (pos 1 *ℤ k) *ℤ z) (sym f)
  where
    parts : (old k : ℤ) → old +ℤ k ≡ pos 1 *ℤ old +ℤ (pos 1 *ℤ k) *ℤ pos 1
    parts old k = omega (arith, ints)

added_other : (old k u new : ℤ) → new ≡ old → u ≡ pos 0 → new ≡ pos 1 *ℤ old +ℤ (pos 1 *ℤ k) *ℤ u
added_other old k u new e f = e ∙ parts old k ∙ ap (λ (z : ℤ). pos 1 *ℤ old +ℤ (pos 1 *ℤ k) *ℤ z) (sym f)
  where
    parts : (old k : ℤ) → old ≡ pos 1 *ℤ old +ℤ (pos 1 *ℤ k) *ℤ pos 0
    parts old k = omega (arith, ints)

abbrev pub raised_list : List ℤ → ℕ → ℤ → List ℤ
raised_list by k number = set by k (number_at by k +ℤ number)

raised_added : (p : Problem) (k : ℕ) (by : List ℤ) (number : ℤ) → IsWhole p → length by ≡ line_count p → k < line_count p
    → AreAdded (lines p) 1 (numbers_of (lines p) by) number 1 (units p k) (numbers_of (lines p) (raised_list by k number))
raised_added p k by number whole count within q d here =
    let name : (get_or (lines p) q d).name ≡ name_at p q = name_there p q d here in
    let old : numbers_of (lines p) by (get_or (lines p) q d).name ≡ number_at by q = at_place (lines p) by q d (lines_apart p whole) count here in
    let new : numbers_of (lines p) (raised_list by k number) (get_or (lines p) q d).name ≡ number_at (raised_list by k number) q =
    at_place (lines p) (raised_list by k number) q d (lines_apart p whole) (length-set by k (number_at by k +ℤ number) ∙ count) here in
    elim (cases_eq q k) [
      | inl e ↦
          added_here (numbers_of (lines p) by (get_or (lines p) q d).name) number (units p k (get_or (lines p) q d).name) (numbers_of (lines p) (raised_list by k number) (get_or (lines p) q d).name)
          (new ∙ ap (number_at (raised_list by k number)) e ∙ get_or-set_same by k (number_at by k +ℤ number) (pos 0) (omega (arith, within, count)) ∙ ap (λ (z : ℤ). z +ℤ number) (sym (old ∙ ap (number_at by) e)))
          (units_here p k (get_or (lines p) q d).name (name ∙ ap (name_at p) e))
      | inr ne ↦
          added_other (numbers_of (lines p) by (get_or (lines p) q d).name) number (units p k (get_or (lines p) q d).name) (numbers_of (lines p) (raised_list by k number) (get_or (lines p) q d).name)
          (new ∙ get_or-set_other by k q (number_at by k +ℤ number) (pos 0) ne ∙ sym old)
          (units_other p k (get_or (lines p) q d).name (λ same. names_differ p q k whole here within ne (sym name ∙ same)))
    ]

raised_small : (by : List ℤ) (k j : ℕ) (number : ℤ) → k < length by → All (λ z. unsigned_abs z ≤ j * 2 ^ 30) by → unsigned_abs number ≤ 2 ^ 30 → All (λ z. unsigned_abs z ≤ (j + 1) * 2 ^ 30) (raised_list by k number)
raised_small by k j number within small bound q d here =
    elim (cases_eq q k) [
      | inl e ↦
          subst (λ (z : ℤ). unsigned_abs z ≤ (j + 1) * 2 ^ 30) (sym (ap (λ (i : ℕ). get_or (raised_list by k number) i d) e ∙ get_or-set_same by k (number_at by k +ℤ number) d within))
          (let s = abs_sum (number_at by k) number (j * 2 ^ 30) (2 ^ 30) (small k (pos 0) within) bound in omega (arith, s))
      | inr ne ↦
          subst (λ (z : ℤ). unsigned_abs z ≤ (j + 1) * 2 ^ 30) (sym (get_or-set_other by k q (number_at by k +ℤ number) d ne))
          (let s = small q d (omega (arith, here, length-set by k (number_at by k +ℤ number))) in omega (arith, s))
    ]

-- the stay of the term's attribute
abbrev pub stay_there : Problem → ℕ → Stay → Stay
stay_there p i s = get_or p.stays i s

more_sum : (p : Problem) (r : Row) (j i : ℕ) (d : Term) (s : Stay) (by : List ℤ) (value : Fraction) (num : ℤ) (den : ℕ) → IsWhole p → j < length r.terms → i < length p.stays
    → (stay_there p i s).attr ≡ (get_or r.terms j d).attr → IsTermsSum p r j by value → 0 < den
    → num *ℤ sum_den value (pos 1) (stay_there p i s).target ≡ sum_num value (get_or r.terms j d).by (pos 1) (stay_there p i s).target *ℤ pos den
    → IsLineSum p (over_marks p) (first_terms r (j + 1)) 1 (numbers_of (lines p) (raised_list by (length p.rows + i) (get_or r.terms j d).by)) num den
more_sum p r j i d s by value num den whole less within attr is above ratio =
    goes_on p (over_marks p) r j d 1 (numbers_of (lines p) by) value 1 (units p (length p.rows + i)) (stay_there p i s).target
    (numbers_of (lines p) (raised_list by (length p.rows + i) (get_or r.terms j d).by)) num den less is.sum
    (subst (λ (a : ℕ). IsLineSum p (over_marks p) (λ x. x (attr_column a)) 1 (units p (length p.rows + i)) (stay_there p i s).target.num (stay_there p i s).target.den) attr (attr_sum p i s whole within))
    (raised_added p (length p.rows + i) by (get_or r.terms j d).by whole is.count (omega (arith, within, count_lines p))) above ratio

pub one_term_more : (p : Problem) (r : Row) (j i : ℕ) (d : Term) (s : Stay) (by : List ℤ) (value next : Fraction) → IsWhole p → j < length r.terms → i < length p.stays → IsTerm (get_or r.terms j d)
    → (stay_there p i s).attr ≡ (get_or r.terms j d).attr → IsTermsSum p r j by value → 0 < next.den
    → IsRatio next (sum_num value (get_or r.terms j d).by (pos 1) (stay_there p i s).target) (sum_den value (pos 1) (stay_there p i s).target)
    → IsTermsSum p r (j + 1) (raised_list by (length p.rows + i) (get_or r.terms j d).by) next
one_term_more p r j i d s by value next whole less within term attr is above ratio = record {
  count = length-set by (length p.rows + i) (number_at by (length p.rows + i) +ℤ (get_or r.terms j d).by) ∙ is.count;
  small = raised_small by (length p.rows + i) j (get_or r.terms j d).by (omega (arith, within, count_lines p, is.count)) is.small term.small;
  sum = more_sum p r j i d s by value next.num next.den whole less within attr is above ratio;
}

-- ---- a sum that does not fit

unfit_terms : (p : Problem) (r : Row) (j : ℕ) → IsRowOf p r → 1 ≤ j → j ≤ length r.terms + 1 → HasNoWriting p (over_marks p) (first_terms r j) → IsUnfitTerms p (over_marks p) (over_mark r.id) j
unfit_terms p r j (k, s, within, is, same) low high none =
    (k, s, within, is, subst (λ (t : Row). (over_mark r.id ≡ over_mark t.id) × AreOverFrom p (over_marks p) t.id × (1 ≤ j) × (j ≤ length t.terms + 1) × HasNoWriting p (over_marks p) (first_terms t j)) (sym same) (refl, all_over p r.id, low, high, none))

sum_unfit : (p : Problem) (q : (ℕ → ℤ) → ℤ) (by : RowName → ℤ) (num : ℤ) (den : ℕ) → IsThere p (over_marks p) → IsLineSum p (over_marks p) q 1 by num den → IsUnfitRatio num (pos den) → HasNoWriting p (over_marks p) q
sum_unfit p q by num den there sum unfit =
    line_unfit p (over_marks p) q 1 by num den there.whole there.corner there.rays sum
    (λ low part value reduced ratio low_fits part_fit kept. unfit value kept.lowest ratio kept.fits)

pub den_above : (a b : ℕ) → 0 < a → 0 < b → 0 < a * (1 * b)
den_above a b h k = mul-pos h (let o : 0 < 1 * b = omega (arith, k) in o)

pub one_term_unfit : (p : Problem) (r : Row) (j i : ℕ) (d : Term) (s : Stay) (by : List ℤ) (value : Fraction) → IsWhole p → IsRowOf p r → j < length r.terms → i < length p.stays
    → (stay_there p i s).attr ≡ (get_or r.terms j d).attr → IsTermsSum p r j by value
    → IsUnfitRatio (sum_num value (get_or r.terms j d).by (pos 1) (stay_there p i s).target) (sum_den value (pos 1) (stay_there p i s).target)
    → HasUnfitTerms p r
one_term_unfit p r j i d s by value whole held less within attr is unfit =
    let num : ℤ = sum_num value (get_or r.terms j d).by (pos 1) (stay_there p i s).target in
    let den : ℕ = value.den * (1 * (stay_there p i s).target.den) in (
      j + 1,
      unfit_terms p r (j + 1) held (omega arith) (omega (arith, less))
          (sum_unfit p (first_terms r (j + 1)) (numbers_of (lines p) (raised_list by (length p.rows + i) (get_or r.terms j d).by)) num den (begins_there p whole)
          (more_sum p r j i d s by value num den whole less within attr is (den_above value.den (stay_there p i s).target.den is.sum.den_positive (whole.stays i s within).target.lowest.above) refl) unfit),
    )

-- ---- no terms

pub numbers_zero : (ls : List Line) (by : List ℤ) (name : RowName) → Each (λ z. z ≡ pos 0) by → numbers_of ls by name ≡ pos 0
numbers_zero [] by name all = refl
numbers_zero (l ∷ ls) [] name all = refl
numbers_zero (l ∷ ls) (z ∷ by) name all = either (nat_eq (place_of l.name Under) (place_of name Under)) z (numbers_of ls by name) all.0 (numbers_zero ls by name all.1)
  where
    either : (b : Bool) (x y : ℤ) → x ≡ pos 0 → y ≡ pos 0 → cond b x y ≡ pos 0
    either true x y e f = e
    either false x y e f = f

pub no_terms_yet : (p : Problem) (r : Row) (by : List ℤ) → length by ≡ line_count p → All (λ z. z ≡ pos 0) by → IsTermsSum p r 0 by (record { num = pos 0; den = 1 })
no_terms_yet p r by count zeros = record {
  count = count;
  small = λ k d within. subst (λ (z : ℤ). unsigned_abs z ≤ 0 * 2 ^ 30) (sym (zeros k d within)) (omega arith);
  sum = line_sum p (over_marks p) (first_terms r 0) 1 (numbers_of (lines p) by) (pos 0) 1
      (no_terms p (over_marks p) r (numbers_of (lines p) by) (λ k d within. numbers_zero (lines p) by (get_or (lines p) k d).name (recursion_from_All (λ z. z ≡ pos 0) by zeros)));
}

-- ---- the constant

pub nothing_moves : (p : Problem) (x : ℕ → ℤ) → sum_of (λ l. pos 0 *ℤ deviation l.name x) (lines p) ≡ pos 0
nothing_moves p x = sum-zero (λ l. pos 0 *ℤ deviation l.name x) (lines p) (all_zero (lines p))
  where
    all_zero : (ls : List Line) → Each (λ l. pos 0 *ℤ deviation l.name x ≡ pos 0) ls
    all_zero [] = tt
    all_zero (l ∷ ls) = (zero-mul_ℤ (deviation l.name x), all_zero ls)

pub take_all : (ts : List Term) → take (length ts) ts ≡ ts
take_all [] = refl
take_all (t ∷ ts) = ap (λ (us : List Term). t ∷ us) (take_all ts)

abbrev less_deviation : Row → (ℕ → ℤ) → ℤ
less_deviation r x = first_terms r (length r.terms) x -ℤ deviation (Held r.id) x

constant_parts : (d : ℕ) (k u o s f one z : ℤ) → pos d *ℤ ((u -ℤ o) +ℤ f) ≡ k *ℤ one → s ≡ f → z ≡ pos 0 → pos d *ℤ (pos 1 *ℤ (s -ℤ (o -ℤ u)) -ℤ z) ≡ pos 1 *ℤ (k *ℤ one)
constant_parts d k u o s f one z e same none =
    let g : pos 1 *ℤ (s -ℤ (o -ℤ u)) -ℤ z ≡ (u -ℤ o) +ℤ f = omega (arith, ints, same, none) in
    ap (λ (y : ℤ). pos d *ℤ y) g ∙ e ∙ sym (one_times (k *ℤ one))

constant_sum : (p : Problem) (k : ℕ) (r : Row) → IsWhole p → k < length p.rows → IsLineSum p (over_marks p) (less_deviation (get_or p.rows k r)) 1 (λ n. pos 0) (get_or p.rows k r).constant.num (get_or p.rows k r).constant.den
constant_sum p k r whole within = record {
  own_positive = omega arith;
  den_positive = (whole.rows k r within).constant.lowest.above;
  outside = λ q d here some. absurd (some refl);
  holds = λ x solves.
      let t : Row = get_or p.rows k r in
      let gap = line_gap x.num (line_of_row t) (subst (λ (l : Line). value_at x.num (equation l) ≡ pos 0) (row_at p k any_line r within) (solves k any_line (omega (arith, within, count_lines p)))) in
      constant_parts t.constant.den t.constant.num (x.num (place_of (Held t.id) Under)) (x.num (place_of (Held t.id) Over)) (first_terms t (length t.terms) x.num) (value_at (λ v. x.num (attr_column v)) t.terms) (x.num one_column)
      (sum_of (λ l. pos 0 *ℤ deviation l.name x.num) (lines p)) gap
      (plain-terms t (length t.terms) x.num (omega arith) ∙ ap (λ (ts : List Term). sum_of (λ e. e.by *ℤ x.num (attr_column e.attr)) ts) (take_all t.terms))
      (nothing_moves p x.num);
}

back : (q dev : ℤ) → q +ℤ negsuc 0 *ℤ (q -ℤ dev) ≡ dev
back q dev = omega (arith, ints)

same_added : (b : ℤ) → b ≡ pos 1 *ℤ b +ℤ (pos 1 *ℤ negsuc 0) *ℤ pos 0
same_added b = omega (arith, ints)

deviation_sum : (p : Problem) (k : ℕ) (r : Row) (by : List ℤ) (value : Fraction) (num : ℤ) (den : ℕ) → IsWhole p → k < length p.rows → IsTermsSum p (get_or p.rows k r) (length (get_or p.rows k r).terms) by value → 0 < den
    → num *ℤ sum_den value (pos 1) (get_or p.rows k r).constant ≡ sum_num value (negsuc 0) (pos 1) (get_or p.rows k r).constant *ℤ pos den
    → IsLineSum p (over_marks p) (deviation (Held (get_or p.rows k r).id)) 1 (numbers_of (lines p) by) num den
deviation_sum p k r by value num den whole within is above ratio =
    let t : Row = get_or p.rows k r in
    same-sum p (over_marks p) (λ x. first_terms t (length t.terms) x +ℤ negsuc 0 *ℤ less_deviation t x) (deviation (Held t.id)) 1 (numbers_of (lines p) by) num den
    (λ x. back (first_terms t (length t.terms) x) (deviation (Held t.id) x))
    (added p (over_marks p) (first_terms t (length t.terms)) (less_deviation t) (negsuc 0) 1 (numbers_of (lines p) by) value 1 (λ n. pos 0) t.constant (numbers_of (lines p) by) num den is.sum (constant_sum p k r whole within)
    (λ q d here. same_added (numbers_of (lines p) by (get_or (lines p) q d).name)) above ratio)

fits_from_small : (by : List ℤ) (n : ℕ) → n ≤ 32 → All (λ z. unsigned_abs z ≤ n * 2 ^ 30) by → All IsFitting by
fits_from_small by n less small k d within = let s = small k d within in omega (arith, s, less)

at_row : (p : Problem) (r : Row) (P : Row → Type 0) → ((k : ℕ) → k < length p.rows → P (get_or p.rows k r)) → IsRowOf p r → P r
at_row p r P each (k, s, within, is, same) = subst P (get_or_default p.rows k r s within ∙ is ∙ same) (each k within)

last_sum : (p : Problem) (r : Row) (by : List ℤ) (value : Fraction) (num : ℤ) (den : ℕ) → IsWhole p → IsRowOf p r → IsTermsSum p r (length r.terms) by value → 0 < den
    → num *ℤ sum_den value (pos 1) r.constant ≡ sum_num value (negsuc 0) (pos 1) r.constant *ℤ pos den → IsLineSum p (over_marks p) (deviation (Held r.id)) 1 (numbers_of (lines p) by) num den
last_sum p r by value num den whole held =
    at_row p r (λ (t : Row). IsTermsSum p t (length t.terms) by value → 0 < den → num *ℤ sum_den value (pos 1) t.constant ≡ sum_num value (negsuc 0) (pos 1) t.constant *ℤ pos den → IsLineSum p (over_marks p) (deviation (Held t.id)) 1 (numbers_of (lines p) by) num den)
    (λ k within. deviation_sum p k r by value num den whole within) held

pub row_sum : (p : Problem) (r : Row) (by : List ℤ) (value : Fraction) (sum : Sum) → IsWhole p → IsRowOf p r → IsRow r → IsTermsSum p r (length r.terms) by value
    → sum.own ≡ pos 1 → sum.by.items ≡ by → IsLowest sum.value → IsRatio sum.value (sum_num value (negsuc 0) (pos 1) r.constant) (sum_den value (pos 1) r.constant) → IsSumOf p (over_marks p) (Held r.id) sum
row_sum p r by value sum whole held row is own_is by_is lowest ratio =
    let line : IsLineSum p (over_marks p) (deviation (Held r.id)) 1 (numbers_of (lines p) sum.by.items) sum.value.num sum.value.den =
    subst (λ (zs : List ℤ). IsLineSum p (over_marks p) (deviation (Held r.id)) 1 (numbers_of (lines p) zs) sum.value.num sum.value.den) (sym by_is) (last_sum p r by value sum.value.num sum.value.den whole held is lowest.above ratio) in
    record {
      sized = record {
        count_is = ap (λ (zs : List ℤ). length zs) by_is ∙ is.count;
        above = subst (λ (z : ℤ). pos 0 <ℤ z) (sym own_is) (omega (arith, ints));
        fits = (subst IsFitting (sym own_is) (omega arith), subst (λ (zs : List ℤ). All IsFitting zs) (sym by_is) (fits_from_small by (length r.terms) row.count is.small));
      };
      equation = subst (λ (z : ℤ). IsLineEquation p (over_marks p) (deviation (Held r.id)) (unsigned_abs z) (numbers_of (lines p) sum.by.items) sum.value.num sum.value.den) (sym own_is) (record {
        own_positive = line.own_positive;
        den_positive = line.den_positive;
        outside = line.outside;
        holds = line.holds;
        lowest = λ k d all. eq-one_of_dvd-one d;
      });
    }

over_here : (p : Problem) (r : Row) → IsRowOf p r → IsIn (place (over_mark r.id)) (over_marks p)
over_here p r held = at_row p r (λ (t : Row). IsIn (place (over_mark t.id)) (over_marks p)) (λ k within. over_in p k r within) held

pub row_unfit : (p : Problem) (r : Row) (by : List ℤ) (value : Fraction) → IsWhole p → IsRowOf p r → IsRow r → IsTermsSum p r (length r.terms) by value
    → IsUnfitRatio (sum_num value (negsuc 0) (pos 1) r.constant) (sum_den value (pos 1) r.constant) → HasUnfitTerms p r
row_unfit p r by value whole held row is unfit =
    let num : ℤ = sum_num value (negsuc 0) (pos 1) r.constant in
    let den : ℕ = value.den * (1 * r.constant.den) in
    let there : IsThere p (over_marks p) = begins_there p whole in
    let line : IsLineSum p (over_marks p) (deviation (Held r.id)) 1 (numbers_of (lines p) by) num den =
    last_sum p r by value num den whole held is (den_above value.den r.constant.den is.sum.den_positive row.constant.lowest.above) refl in (
      length r.terms + 1,
      unfit_terms p r (length r.terms + 1) held (omega arith) (omega arith)
          (same-writing p (over_marks p) (λ x. x (place (over_mark r.id))) (first_terms r (length r.terms + 1)) (λ x. sym (past-terms r x))
          (mark_unfit p (over_marks p) (Held r.id) Over 1 (numbers_of (lines p) by) num den whole there.corner there.rays (over_here p r held) line
          (λ low part value reduced ratio low_fits part_fit kept. unfit value kept.lowest ratio kept.fits))),
    )

-- ---- as the code goes

pub no_stay : (p : Problem) (r : Row) (j : ℕ) (d term : Term) → IsWhole p → IsRowOf p r → j < length r.terms → get_or r.terms j d ≡ term → All (λ (s : Stay). s.attr ≢ term.attr) p.stays → ⊥
no_stay p r j d term whole held less is none =
    let covered : All (λ (t : Term). HasStay p.stays t.attr) r.terms = at_row p r (λ (t : Row). IsCovered p.stays t) (λ k within. whole.covered k r within) held in
    let stay : HasStay p.stays (get_or r.terms j d).attr = covered j d less in
    none stay.0 stay.1 stay.2 (ap (λ (s : Stay). s.attr) stay.3 ∙ stay.4 ∙ ap (λ (t : Term). t.attr) is)

pub with_next : (p : Problem) (term : Term) (by out : List ℤ) (value next : Fraction) (i : ℕ) (s : Stay) (rows : List Row) → IsWhole p → rows ≡ p.rows → i < length p.stays → s ≡ get_or p.stays i s → s.attr ≡ term.attr → IsTerm term
    → 0 < next.den → IsRatio next (sum_num value term.by (pos 1) s.target) (sum_den value (pos 1) s.target) → out ≡ raised_list by (length rows + i) term.by
    → (r : Row) (j : ℕ) (d : Term) → j < length r.terms → get_or r.terms j d ≡ term → IsTermsSum p r j by value → IsTermsSum p r (j + 1) out next
with_next p term by out value next i s rows whole same within is attr proper above ratio out_is r j d less here sum =
    subst (λ (zs : List ℤ). IsTermsSum p r (j + 1) zs next) (ap (λ (t : Term). raised_list by (length p.rows + i) t.by) here ∙ ap (λ (rs : List Row). raised_list by (length rs + i) term.by) (sym same) ∙ sym out_is)
    (one_term_more p r j i d s by value next whole less within (subst IsTerm (sym here) proper)
    (ap (λ (x : Stay). x.attr) (sym is) ∙ attr ∙ ap (λ (t : Term). t.attr) (sym here)) sum above
    (subst (λ (x : Stay). IsRatio next (sum_num value (get_or r.terms j d).by (pos 1) x.target) (sum_den value (pos 1) x.target)) is
    (subst (λ (t : Term). IsRatio next (sum_num value t.by (pos 1) s.target) (sum_den value (pos 1) s.target)) (sym here) ratio)))

pub with_unfit : (p : Problem) (term : Term) (by : List ℤ) (value : Fraction) (i : ℕ) (s : Stay) → IsWhole p → i < length p.stays → s ≡ get_or p.stays i s → s.attr ≡ term.attr
    → IsUnfitRatio (sum_num value term.by (pos 1) s.target) (sum_den value (pos 1) s.target)
    → (r : Row) (j : ℕ) (d : Term) → IsRowOf p r → j < length r.terms → get_or r.terms j d ≡ term → IsTermsSum p r j by value → HasUnfitTerms p r
with_unfit p term by value i s whole within is attr unfit r j d held less here sum =
    one_term_unfit p r j i d s by value whole held less within (ap (λ (x : Stay). x.attr) (sym is) ∙ attr ∙ ap (λ (t : Term). t.attr) (sym here)) sum
    (subst (λ (x : Stay). IsUnfitRatio (sum_num value (get_or r.terms j d).by (pos 1) x.target) (sum_den value (pos 1) x.target)) is
    (subst (λ (t : Term). IsUnfitRatio (sum_num value t.by (pos 1) s.target) (sum_den value (pos 1) s.target)) (sym here) unfit))

pub zero_is : (f : Fraction) → f.num ≡ pos 0 → f.den ≡ 1 → record { num = pos 0; den = 1 } ≡ f
zero_is f num den = sym (ap₂ (λ (n : ℤ) (d : ℕ). record { num = n; den = d }) num den)

-- ---- line by line

pub one_line_more : (p : Problem) (n : ℕ) (kept : List (Option Inside)) (line : Option Inside) → AreFirstLines p n kept → IsLineAt p (over_marks p) (name_at p n) line → AreFirstLines p (n + 1) (kept ++ line ∷ [])
one_line_more p n kept line is here = record {
  count = let l = length-append kept (line ∷ []) in omega (arith, l, is.count);
  each = λ k d less.
      elim (cases_eq k n) [
        | inl e ↦ subst₂ (λ (m : ℕ) (o : Option Inside). IsLineAt p (over_marks p) (name_at p m) o) (sym e) (sym (get_or_push kept line d k (is.count ∙ sym e))) here
        | inr ne ↦ subst (IsLineAt p (over_marks p) (name_at p k)) (sym (get_or_append_left kept (line ∷ []) d k (omega (arith, less, ne, is.count)))) (is.each k d (omega (arith, less, ne)))
      ];
}

pub held_line : (p : Problem) (k : ℕ) (r : Row) (sum : Sum) → k < length p.rows → get_or p.rows k r ≡ r → IsSumOf p (over_marks p) (Held r.id) sum → IsLineAt p (over_marks p) (name_at p k) (Some (record { side = Over; sum = sum }))
held_line p k r sum within is here =
    let name : name_at p k ≡ Held r.id = row_name p k r within ∙ ap (λ (t : Row). Held t.id) is in (
      subst (λ (n : RowName). IsIn (place_of n Over) (over_marks p)) (sym name) (subst (λ (t : Row). IsIn (place (over_mark t.id)) (over_marks p)) is (over_in p k r within)),
      subst (λ (n : RowName). IsSumOf p (over_marks p) n sum) (sym name) here,
    )

pub outside_line : (p : Problem) (k i : ℕ) → k ≡ length p.rows + i → i < length p.stays → IsLineAt p (over_marks p) (name_at p k) None
outside_line p k i is within =
    subst (λ (m : ℕ). IsLineAt p (over_marks p) (name_at p m) None) (sym is)
    (subst (IsOutsideLine (over_marks p)) (sym (stay_name p i any_stay within)) (stay_outside p (get_or p.stays i any_stay).attr))
  where
    any_stay : Stay
    any_stay = record { attr = 0; target = record { num = pos 0; den = 1 } }

pub first_are_lines : (p : Problem) (kept : List (Option Inside)) → AreFirstLines p (line_count p) kept → AreLines p (over_marks p) kept
first_are_lines p kept is = record { count = is.count; each = is.each }

pub lines_sized : (p : Problem) (at : List Mark) (kept : List (Option Inside)) → AreLines p at kept → AreSized kept
lines_sized p at kept lines k d within =
    sized_line (name_at p k) (get_or kept k d) (lines.each k d (omega (arith, within, lines.count)))
  where
    sized_line : (name : RowName) (o : Option Inside) → IsLineAt p at name o → IsSizedLine (length kept) o
    sized_line name None h = tt
    sized_line name (Some inside) h = subst (λ (n : ℕ). IsSized n inside.sum) (sym lines.count) h.1.sized
