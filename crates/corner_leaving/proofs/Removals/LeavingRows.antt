-- The row of a level that a row leaves.
use Rattle.std.proofs.Common.{◌≡◌, ◌≢◌, ◌∙◌, ◌⊎◌, ℕ, zero, suc, ◌+◌, ◌-◌, ◌*◌, ◌/◌, ◌<◌, Bool, cond, nat_eq, List, refl, sym, ap, ap₂, subst, arith, inl, inr, ℤ, pos, negsuc, neg_ℤ, ◌+ℤ◌, ◌*ℤ◌, ◌<ℤ◌, unsigned_abs, All, Any, Some, None, eq-eqb, ne_eqb, get_or, mul-pos}
use Rattle.std.specs.List.{AllByRecursion as Each}
use Rattle.std.specs.declared.option.Option.{Option}
use Rattle.std.specs.Int.{◌∣◌}
use Rattle.std.proofs.lemmas.Bool.{cases_eq}
use Rattle.std.proofs.lemmas.List.Elements.{All-from_recursion, recursion_from_All}
use Rattle.std.proofs.lemmas.Nat.Gcd.{dvd-zero}
use borrow.Author.Differences.{ints}
use Rattle.frac_core.specs.Fraction.{IsFitting}
use Rattle.frac_core.specs.declared.frac.TheConstants.{PART_BOUND}
use Rattle.frac_core.proofs.Integers.{mul-zero_ℤ, sign_cases, zero_from_mul}
use Rattle.row_core.specs.Rows.{Term, coefficient, IsLowestRow, IsReduced, IsUnfit}
use Rattle.problem_core.specs.declared.parts.Rel.{Rel}
use Rattle.problem_core.specs.declared.parts.Side.{Side}
use Rattle.problem_core.specs.declared.parts.Side.TheVariants.{Under, Over}
use Rattle.problem_core.specs.declared.parts.RowName.{RowName}
use Rattle.problem_core.specs.declared.parts.RowName.TheVariants.{Held}
use Rattle.problem_core.specs.Layout as layout
use Rattle.problem_core.specs.Layout.{Line, Problem, Row, line_of_row, lines, stay_lines}
use Rattle.problem_core.specs.Corners.{IsCorner, IsIn, place_of}
use Rattle.problem_core.specs.Certificates.{over_weight, under_weight}
use Rattle.problem_core.specs.Rays.{HasRays}
use Rattle.problem_core.specs.Levels.{HasNoLevelWriting}
use Rattle.problem_core.specs.Window.{zero_fraction}
use Rattle.problem_core.proofs.Forms.{each-both, each-impl}
use Rattle.corner_laws.specs.Units.{IsLevelUnit, over_share, under_share}
use Rattle.corner_lines.specs.LineEquations.{AreReduced, IsOutsideLine, deviation, sign_of}
use Rattle.corner_lines.specs.Levels.LevelCosts.{HasDeviation, IsSound}
use Rattle.corner_lines.specs.Levels.LevelJoins.{IsLeavingCount, IsLevelLeave, level_count}
use Rattle.corner_lines.specs.Levels.LevelRows.{HasLevelRow, IsDividedRow, IsLevelMultiple, IsPivot, inside_number, line_numbers, sum_by}
use Rattle.corner_lines.proofs.ProblemChanges.Dropped.{left_corner, left_rays, left-far as left_far, left-outside as outside_left}
use Rattle.corner_lines.proofs.LevelRows.LevelDivided.{divided-same, divided_row_is_row}
use Rattle.corner_lines.proofs.LevelRows.LevelJoins.{sum-before, each-after, not-weight-back}
use Rattle.corner_lines.proofs.LevelRows.LevelLeaves.{left_row_is_multiple}
use Rattle.corner_lines.proofs.LevelRows.LevelSound.{whole_is_sound}
use Rattle.corner_lines.proofs.Lines.LinePivots.{equation_is_pivot}
use Rattle.corner_lines.proofs.Lines.LineWritings.{line_value}
use Rattle.corner_leaving.specs.declared.leaving.Leaver.{Leaver}
use Rattle.corner_table.specs.declared.table.TheConstants.{LEVELS}
use Rattle.corner_table.specs.Tables.{Lists, entry, line_slot, marks_at, number, priority_at, problem_of, slot_at, standing_at}
use Rattle.corner_table.specs.Kept.{IsEquationAt, IsKept, IsLevelKept, IsLineRow, IsLineSlot, IsSlot}
use Rattle.corner_view.specs.Seen.{IsNamed}
use Rattle.corner_table.specs.Kept.{IsOutsideSlot}
use Rattle.corner_writings.specs.Rows.{row_number}
use Rattle.corner_table.specs.Reads.LevelNumbers.{share_of, side_share, unit_at}
use Rattle.corner_leaving.specs.Leaving.{IsLeaver, IsLeftRow, IsLeftShare, left_count, left_whole, marks_left, problem_left}
use Rattle.corner_table.proofs.Readings.SlotFacts.{any_impl, any_is, named_slot}
use Rattle.corner_table.proofs.Readings.MarkFacts.{inside_stands, stands_inside}
use Rattle.corner_table.proofs.Readings.ReadFacts.{is_some}
use Rattle.corner_exchange.proofs.Pivots.PairFacts.{named_mark, side-stands}
use Rattle.corner_exchange.proofs.Basics.RowEquations.{AreTermsOf, reduced_terms, unfit_terms, some-whole as some_whole}
use Rattle.corner_table.proofs.Basics.OwnerFacts.{line-owned}
use Rattle.corner_table.proofs.Readings.WritingFacts.{lines_apart, number_is}
use Rattle.corner_table.proofs.Basics.SmallFacts.{own_name}
use Rattle.corner_writings.proofs.LevelFacts.LevelRowFacts.{out_line, unit-below as below-unit}
use Rattle.corner_joins.proofs.Costs.CostJoins.{row_unfit}
use Rattle.corner_joins.proofs.Costs.CostTerms.{by_slot, lowest_terms, negated-sum}
use Rattle.corner_leaving.proofs.Removals.LeftLists.{all_left, each_lighter, left_before, left_count_is, left_whole_problem, names_back, outside_back, with_lighter}
use Rattle.corner_leaving.proofs.Removals.LeftLevels.{left_number, multiple_left}
use Rattle.corner_lines.proofs.LevelRows.OtherNumbers.{other-number}
use Rattle.corner_joins.proofs.Costs.CostLines.{as_line as line-among, only_named as only-named, some-side}
use Rattle.frac_core.proofs.Numbers.{mul-neg}
use Rattle.problem_core.proofs.Sides.{zero-kept as zero_kept}
use Rattle.corner_lines.proofs.LevelRows.LevelExchanges.{at-side as at_side}
use Rattle.corner_joins.proofs.Basics.SmallFacts.{weight-there}

-- a row that leaves lists that are kept
pub record IsLeavingRow (t : Lists) (r : Row) (x : Leaver) : Type 0 where
  pub kept : IsKept t
  pub is : IsLeaver t r x

-- ---- the row among the lines

pub its_line : (t : Lists) (r : Row) (x : Leaver) → IsLeaver t r x → Any (λ l. l ≡ line_of_row r) (lines (problem_of t))
its_line t r x is = line-among r t.rows (stay_lines 1001 t.stays) is.held

pub its_name : (t : Lists) (r : Row) (x : Leaver) → IsLeaver t r x → IsNamed (problem_of t) (Held r.id)
its_name t r x is = any_impl (λ l. l ≡ line_of_row r) (λ l. l.name ≡ Held r.id) (lines (problem_of t)) (λ l e. ap (λ (k : Line). k.name) e) (its_line t r x is)

pub its_slot : (t : Lists) (r : Row) (x : Leaver) → IsLeavingRow t r x → IsLineSlot t (line_of_row r)
its_slot t r x h = any_is (IsLineSlot t) (λ l. l ≡ line_of_row r) (lines (problem_of t)) h.kept.slots.lines (its_line t r x h.is) (λ l k e. subst (IsLineSlot t) e k)

pub its_level : (t : Lists) (r : Row) (x : Leaver) → IsLeavingRow t r x → x.level < LEVELS
its_level t r x h = let e = h.is.level_is in let n : ℕ = r.rank in omega (arith, e)

-- it is past those of the levels
pub its_place : (t : Lists) (r : Row) (x : Leaver) → IsLeavingRow t r x → IsSlot t x.line
its_place t r x h = subst (IsSlot t) h.is.line_is (its_slot t r x h).slot

pub its_home : (t : Lists) (r : Row) (x : Leaver) → IsLeavingRow t r x → (slot_at t x.line).home ≡ x.level
its_home t r x h = ap (λ (w : ℕ). (slot_at t w).home) (sym h.is.line_is) ∙ (its_slot t r x h).home ∙ sym h.is.level_is

pub level_apart : (t : Lists) (r : Row) (x : Leaver) → IsLeavingRow t r x → x.level ≢ x.line
level_apart t r x h e = let a = its_level t r x h in let b = (its_place t r x h).0 in omega (arith, a, b, e)

pub its_mark : (t : Lists) (r : Row) (x : Leaver) → IsLeaver t r x → IsIn (place_of (Held r.id) x.side) (marks_at t)
its_mark t r x is =
    stands_inside t (record { row = Held r.id; side = x.side }) (named_mark t (record { row = Held r.id; side = x.side }) (its_name t r x is))
    (side-stands t (record { row = Held r.id; side = x.side }) (ap (λ (w : ℕ). (standing_at t w).side) is.line_is ∙ is.side_is))

abbrev is_that : Option Side → Option Side → Type 0
is_that None o = Unit {0}
is_that (Some s) None = Unit {0}
is_that (Some s) (Some r) = r ≡ s

pub one_mark : (t : Lists) (r : Row) (x : Leaver) (other : Side) → IsLeaver t r x → IsIn (place_of (Held r.id) other) (marks_at t) → other ≡ x.side
one_mark t r x other is i =
    some-side x.side other (standing_at t x.line).side is.side_is
    (ap (λ (w : ℕ). (standing_at t w).side) (sym is.line_is) ∙ is_some (standing_at t (line_slot t (Held r.id))).side other (inside_stands t (record { row = Held r.id; side = other }) i))

pub its_equation : (t : Lists) (r : Row) (x : Leaver) → IsLeavingRow t r x → IsEquationAt t (deviation (Held r.id)) x.line (sign_of x.side *ℤ (standing_at t x.line).value.num) (standing_at t x.line).value.den
its_equation t r x h =
    let row : IsLineRow t (Held r.id) (standing_at t (line_slot t (Held r.id))).side =
    any_is (λ l. IsLineRow t l.name (standing_at t (line_slot t l.name)).side) (λ l. l ≡ line_of_row r) (lines (problem_of t)) h.kept.lines (its_line t r x h.is)
    (λ l k e. subst (λ (name : RowName). IsLineRow t name (standing_at t (line_slot t name)).side) (ap (λ (m : Line). m.name) e) k) in
    let here : IsLineRow t (Held r.id) (Some x.side) = subst (λ (o : Option Side). IsLineRow t (Held r.id) o) (ap (λ (w : ℕ). (standing_at t w).side) h.is.line_is ∙ h.is.side_is) row in
    subst (λ (w : ℕ). IsEquationAt t (deviation (Held r.id)) w (sign_of x.side *ℤ (standing_at t w).value.num) (standing_at t w).value.den) h.is.line_is here

-- the own number of its row
abbrev pub its_size : (t : Lists) (r : Row) (x : Leaver) → IsLeavingRow t r x → ℕ
its_size t r x h = (its_equation t r x h).0

pub its_size_is : (t : Lists) (r : Row) (x : Leaver) → (h : IsLeavingRow t r x) → entry t x.line x.line ≡ pos (its_size t r x h)
its_size_is t r x h = (its_equation t r x h).1

pub its_size_above : (t : Lists) (r : Row) (x : Leaver) → (h : IsLeavingRow t r x) → 0 < its_size t r x h
its_size_above t r x h = (its_equation t r x h).2.own_positive

-- the numbers of its row
abbrev pub its_numbers : (t : Lists) (r : Row) (x : Leaver) → IsLeavingRow t r x → RowName → ℤ
its_numbers t r x h = line_numbers (Held r.id) (its_size t r x h) (number t x.line)

-- where it has no weight
its-pivot : (t : Lists) (r : Row) (x : Leaver) → (h : IsLeavingRow t r x) → IsPivot (with_lighter r.id (problem_of t)) (marks_at t) (Held r.id) (Held r.id) (its_size t r x h) (its_numbers t r x h)
its-pivot t r x h =
    let p : Problem = problem_of t in
    let e = its_equation t r x h in
    let is : IsPivot (problem_of t) (marks_at t) (Held r.id) (Held r.id) (its_size t r x h) (its_numbers t r x h) =
    equation_is_pivot (problem_of t) (marks_at t) (record { row = Held r.id; side = x.side }) e.0 (number t x.line) (sign_of x.side *ℤ (standing_at t x.line).value.num) (standing_at t x.line).value.den h.kept.whole h.kept.corner (its_mark t r x h.is) e.2 in
    record {
      size_positive = is.size_positive;
      cancel = λ v.
          sum-before (Held r.id) (λ l. its_numbers t r x h l.name *ℤ layout.coefficient v l.form) (λ l. its_numbers t r x h l.name *ℤ layout.coefficient v l.form) (lines (with_lighter r.id (problem_of t))) (lines (problem_of t))
          (λ l m b. elim b [ inl e ↦ ap (λ (k : Line). its_numbers t r x h k.name *ℤ layout.coefficient v k.form) e.0 | inr e ↦ ap (λ (k : Line). its_numbers t r x h k.name *ℤ layout.coefficient v k.form) e.0 ]) (left_before r.id (problem_of t))
          ∙ is.cancel v;
      enter_is = is.enter_is;
      inside_zero = λ side.
          All-from_recursion (λ l. IsIn (place_of l.name side) (marks_at t) → l.name ≢ Held r.id → its_numbers t r x h l.name ≡ pos 0) (lines (with_lighter r.id (problem_of t)))
          (each-after (Held r.id) (λ l. IsIn (place_of l.name side) (marks_at t) → l.name ≢ Held r.id → its_numbers t r x h l.name ≡ pos 0) (λ l. IsIn (place_of l.name side) (marks_at t) → l.name ≢ Held r.id → its_numbers t r x h l.name ≡ pos 0) (lines (with_lighter r.id (problem_of t))) (lines (problem_of t))
          (λ l m b k. not-weight-back (Held r.id) (λ l. IsIn (place_of l.name side) (marks_at t) → l.name ≢ Held r.id → its_numbers t r x h l.name ≡ pos 0) l m (λ z. z) b k) (left_before r.id (problem_of t))
          (recursion_from_All _ (lines (problem_of t)) (is.inside_zero side)));
    }

pub its_deviation : (t : Lists) (r : Row) (x : Leaver) → IsLeavingRow t r x → HasDeviation (problem_of t) (marks_at t) (Held r.id) (record { num = sign_of x.side *ℤ (standing_at t x.line).value.num; den = (standing_at t x.line).value.den })
its_deviation t r x h =
    let e = its_equation t r x h in
    line_value (problem_of t) (marks_at t) (deviation (Held r.id)) e.0 (number t x.line) (sign_of x.side *ℤ (standing_at t x.line).value.num) (standing_at t x.line).value.den h.kept.whole h.kept.corner e.2

-- ---- its level

pub level_kept : (t : Lists) (r : Row) (x : Leaver) → IsLeavingRow t r x → IsLevelKept t x.level
level_kept t r x h = h.kept.levels x.level (its_level t r x h)

pub rows_left_is : (t : Lists) (r : Row) (x : Leaver) → IsLeavingRow t r x → (priority_at t x.level).rows ≡ level_count x.level (problem_left t x).rows + 1
rows_left_is t r x h = (level_kept t r x h).rows ∙ left_count_is x.level x.id r t.rows (sym h.is.id_is) h.is.level_is h.kept.whole.rising h.is.held

some-rows : (n m : ℕ) → n ≡ m + 1 → n ≢ 0
some-rows n m e f = omega (arith, e, f)

-- its own number
pub level_own_is : (t : Lists) (r : Row) (x : Leaver) → (h : IsLeavingRow t r x) → entry t x.level x.level ≡ pos (level_kept t r x h).own
level_own_is t r x h =
    sym (ap (λ (b : Bool). cond b (pos 1) (entry t x.level x.level)) (ne_eqb (priority_at t x.level).rows 0 (some-rows (priority_at t x.level).rows (level_count x.level (problem_left t x).rows) (rows_left_is t r x h))))
    ∙ (level_kept t r x h).own_is

-- the law's start
pub its_leave : (t : Lists) (r : Row) (x : Leaver) → (h : IsLeavingRow t r x)
    → IsLevelLeave (problem_of t) (with_lighter r.id (problem_of t)) (marks_at t) x.level (level_kept t r x h).unit (level_kept t r x h).own (number t x.level) (Held r.id) x.side (its_size t r x h) (its_numbers t r x h)
its_leave t r x h =
    let lev = level_kept t r x h in
    record {
      before = left_before r.id (problem_of t);
      row = record { by = lev.numbers.by; row = lev.numbers.row; outside = lev.numbers.outside };
      inside = its_mark t r x h.is;
      no_other = λ other i. one_mark t r x other h.is i;
      line_is = its-pivot t r x h;
    }

-- what holds of its line holds of each line of its name
pub its_each : (P : Line → Type 0) (t : Lists) (r : Row) (x : Leaver) → IsLeavingRow t r x → P (line_of_row r) → All (λ l. l.name ≡ Held r.id → P l) (lines (problem_of t))
its_each P t r x h own =
    All-from_recursion (λ l. l.name ≡ Held r.id → P l) (lines (problem_of t))
    (each-impl (λ l. l.name ≡ Held r.id → l ≡ line_of_row r) _ (lines (problem_of t)) (λ l same name. subst P (sym (same name)) own)
    (only-named (line_of_row r) (lines (problem_of t)) (whole_is_sound (problem_of t) h.kept.whole).names (its_line t r x h.is)))

pub its_count : (t : Lists) (r : Row) (x : Leaver) (level unit own : ℕ) → IsLeavingRow t r x → IsLeavingCount (problem_of t) (Held r.id) x.side level unit own (inside_number x.side level unit own (line_of_row r))
its_count t r x level unit own h = its_each (λ l. inside_number x.side level unit own (line_of_row r) ≡ inside_number x.side level unit own l) t r x h refl

-- ---- what it counts

inside-count : (side : Side) (rel : Rel) (l unit m : ℕ) (r : Row) → rel ≡ r.rel → l ≡ 1000 - r.rank → m ≡ unit * r.weight / r.scale → neg_ℤ (pos (side_share rel side m) *ℤ sign_of side) ≡ inside_number side l unit 1 (line_of_row r)
inside-count Under rel l unit m r e f g =
    ap₂ (λ (q : Rel) (n : ℕ). neg_ℤ (pos (under_weight q n) *ℤ negsuc 0)) e (g ∙ ap (λ (w : ℕ). unit * w / r.scale) (sym (weight-there r l f)))
    ∙ opposite (under_share unit l (line_of_row r))
  where
    opposite : (x : ℕ) → neg_ℤ (pos x *ℤ negsuc 0) ≡ pos (1 * x)
    opposite x = omega (arith, ints)
inside-count Over rel l unit m r e f g =
    ap₂ (λ (q : Rel) (n : ℕ). neg_ℤ (pos (over_weight q n) *ℤ pos 1)) e (g ∙ ap (λ (w : ℕ). unit * w / r.scale) (sym (weight-there r l f)))
    ∙ twice (over_share unit l (line_of_row r))
  where
    twice : (x : ℕ) → neg_ℤ (pos x *ℤ pos 1) ≡ neg_ℤ (pos (1 * x))
    twice x = omega (arith, ints)

share-is : (t : Lists) (r : Row) (x : Leaver) → (h : IsLeavingRow t r x) → share_of (slot_at t x.line) (unit_at t (slot_at t x.line).home) ≡ (level_kept t r x h).unit * r.weight / r.scale
share-is t r x h =
    let s = its_slot t r x h in
    ap (λ (z : ℤ). share_of (slot_at t x.line) z) (ap (λ (l : ℕ). unit_at t l) (its_home t r x h) ∙ below-unit t x.level (its_level t r x h) ∙ (level_kept t r x h).unit_is)
    ∙ ap (λ (w : ℕ). (level_kept t r x h).unit * unsigned_abs (slot_at t w).weight / unsigned_abs (slot_at t w).scale) (sym h.is.line_is)
    ∙ ap₂ (λ (y z : ℤ). (level_kept t r x h).unit * unsigned_abs y / unsigned_abs z) s.weight s.scale

-- with the other sign
pub count_is : (t : Lists) (r : Row) (x : Leaver) → (h : IsLeavingRow t r x) → neg_ℤ (pos (left_count t x) *ℤ sign_of x.side) ≡ inside_number x.side x.level (level_kept t r x h).unit 1 (line_of_row r)
count_is t r x h =
    inside-count x.side (slot_at t x.line).rel x.level (level_kept t r x h).unit (share_of (slot_at t x.line) (unit_at t (slot_at t x.line).home)) r
    (ap (λ (w : ℕ). (slot_at t w).rel) (sym h.is.line_is) ∙ (its_slot t r x h).rel) h.is.level_is (share-is t r x h)

pub times-count : (side : Side) (level unit own : ℕ) (k : Line) → inside_number side level unit own k ≡ pos own *ℤ inside_number side level unit 1 k
times-count Under level unit own k =
    let s : ℕ = under_share unit level k in
    ap pos (let e : own * under_share unit level k ≡ own * (1 * under_share unit level k) = omega arith in e)
times-count Over level unit own k =
    ap (λ (n : ℕ). neg_ℤ (pos n)) (let e : own * over_share unit level k ≡ own * (1 * over_share unit level k) = omega arith in e) ∙ sym (mul-neg (pos own) (pos (1 * over_share unit level k)))

-- ---- the problem that is left

pub left_sound : (t : Lists) (r : Row) (x : Leaver) → IsLeavingRow t r x → IsSound (problem_left t x) × IsCorner (problem_left t x) (marks_left t x) × HasRays (problem_left t x) (marks_left t x)
left_sound t r x h =
    let i : IsIn (place_of (Held x.id) x.side) (marks_at t) = subst (λ (n : ℕ). IsIn (place_of (Held n) x.side) (marks_at t)) (sym h.is.id_is) (its_mark t r x h.is) in (
      whole_is_sound (problem_left t x) (left_whole_problem (problem_of t) x.id h.kept.whole),
      left_corner (problem_of t) (marks_at t) x.id x.side h.kept.whole h.kept.corner i,
      left_rays (problem_of t) (marks_at t) x.id h.kept.rays,
    )

-- the sum of the level's row and its own
abbrev pub left_numbers : (t : Lists) (r : Row) (x : Leaver) → IsLeavingRow t r x → ℕ → ℤ → RowName → ℤ
left_numbers t r x h k n = sum_by k (number t x.level) n (its_numbers t r x h)

-- as a row of the level that may have a common factor
pub its_multiple : (t : Lists) (r : Row) (x : Leaver) (unit times k : ℕ) (n : ℤ) → (h : IsLeavingRow t r x) → IsLevelUnit (problem_left t x) x.level unit → 0 < times → (level_kept t r x h).unit ≡ times * unit → IsLeftShare t x k n
    → (by : RowName → ℤ) × IsLevelMultiple (problem_left t x) (marks_left t x) x.level unit (k * (level_kept t r x h).own * times) by
    × All (λ l. IsOutsideLine (marks_left t x) l.name → by l.name ≡ left_numbers t r x h k n l.name) (lines (problem_left t x))
its_multiple t r x unit times k n h least above same share =
    let p : Problem = problem_of t in
    let lev = level_kept t r x h in
    let size : ℕ = its_size t r x h in
    let is = left_row_is_multiple (problem_of t) (with_lighter r.id (problem_of t)) (marks_at t) x.level lev.unit lev.own (number t x.level) (Held r.id) x.side (its_size t r x h) k (its_numbers t r x h) (inside_number x.side x.level lev.unit lev.own (line_of_row r)) n
    (its_leave t r x h) (its_count t r x x.level lev.unit lev.own h)
    (record {
      above = share.above;
      same = ap (λ (z : ℤ). n *ℤ z) (sym (its_size_is t r x h)) ∙ share.same
          ∙ ap (λ (z : ℤ). z *ℤ pos k) (ap₂ ◌*ℤ◌ (level_own_is t r x h) (count_is t r x h) ∙ sym (times-count x.side x.level lev.unit lev.own (line_of_row r)));
    }) in
    let there : IsLevelMultiple (with_lighter r.id (problem_of t)) (marks_at t) x.level (times * unit) (k * lev.own) is.0 = subst (λ (u : ℕ). IsLevelMultiple (with_lighter r.id (problem_of t)) (marks_at t) x.level u (k * lev.own) is.0) same is.1 in
    let none : is.0 (Held r.id) ≡ pos 0 = left_number (problem_of t) (marks_at t) r x.side x.level (times * unit) (k * lev.own) is.0 h.is.held (its_mark t r x h.is) there in (
      is.0,
      multiple_left (problem_of t) (marks_at t) x.id x.level unit times (k * lev.own) is.0 (left_sound t r x h).0.problem least above (ap (λ (n : ℕ). is.0 (Held n)) h.is.id_is ∙ none)
          (subst (λ (n : ℕ). IsLevelMultiple (with_lighter n (problem_of t)) (marks_at t) x.level (times * unit) (k * lev.own) is.0) (sym h.is.id_is) there),
      All-from_recursion (λ l. IsOutsideLine (marks_left t x) l.name → is.0 l.name ≡ left_numbers t r x h k n l.name) (lines (problem_left t x))
          (each-impl (λ l. (l.name ≢ Held x.id) × (IsOutsideLine (marks_at t) l.name → is.0 l.name ≡ left_numbers t r x h k n l.name)) _ (lines (problem_left t x)) (λ l e out. e.1 (outside_back (marks_at t) x.id l.name e.0 out))
          (each-both _ _ (lines (problem_left t x)) (left_far (problem_of t) x.id)
          (each_lighter (λ l. IsOutsideLine (marks_at t) l.name → is.0 l.name ≡ left_numbers t r x h k n l.name) x.id (problem_of t)
          (subst (λ (m : ℕ). Each (λ l. IsOutsideLine (marks_at t) l.name → is.0 l.name ≡ left_numbers t r x h k n l.name) (lines (with_lighter m (problem_of t)))) (sym h.is.id_is) (recursion_from_All _ (lines (with_lighter r.id (problem_of t))) is.2))))),
    )

-- ---- the whole by slots

whole-line : (t : Lists) (x : Leaver) (times k : ℕ) (n : ℤ) (c : ℕ) → c ≡ x.line → left_whole t x times k n c ≡ pos 0
whole-line t x times k n c e = ap (λ (b : Bool). cond b (pos 0) (cond (nat_eq c x.level) (pos (k * times) *ℤ entry t x.level x.level) (pos k *ℤ entry t x.level c +ℤ n *ℤ entry t x.line c))) (eq-eqb c x.line e)

whole-level : (t : Lists) (x : Leaver) (times k : ℕ) (n : ℤ) → x.level ≢ x.line → left_whole t x times k n x.level ≡ pos (k * times) *ℤ entry t x.level x.level
whole-level t x times k n ne =
    ap₂ (λ (a b : Bool). cond a (pos 0) (cond b (pos (k * times) *ℤ entry t x.level x.level) (pos k *ℤ entry t x.level x.level +ℤ n *ℤ entry t x.line x.level))) (ne_eqb x.level x.line ne) (eq-eqb x.level x.level refl)

whole-off : (t : Lists) (x : Leaver) (times k : ℕ) (n : ℤ) (c : ℕ) → c ≢ x.line → c ≢ x.level → left_whole t x times k n c ≡ pos k *ℤ entry t x.level c +ℤ n *ℤ entry t x.line c
whole-off t x times k n c ne off =
    ap₂ (λ (a b : Bool). cond a (pos 0) (cond b (pos (k * times) *ℤ entry t x.level x.level) (pos k *ℤ entry t x.level c +ℤ n *ℤ entry t x.line c))) (ne_eqb c x.line ne) (ne_eqb c x.level off)

pub left_columns : (t : Lists) (r : Row) (x : Leaver) (times k : ℕ) (n : ℤ) → IsLeavingRow t r x → (c : ℕ) → left_whole t x times k n c ≢ pos 0 → c ≢ x.level → IsOutsideSlot t c
left_columns t r x times k n h c some ne =
    elim (cases_eq c x.line) [
      | inl e ↦ absurd (some (whole-line t x times k n c e))
      | inr off ↦ elim (sign_cases (entry t x.level c)) [
        | inr signed ↦ h.kept.outside x.level c (nonzero (entry t x.level c) signed) ne
        | inl none ↦ elim (sign_cases (entry t x.line c)) [
          | inr signed ↦ h.kept.outside x.line c (nonzero (entry t x.line c) signed) off
          | inl nothing ↦ absurd (some (whole-off t x times k n c off ne ∙ both (pos k) n (entry t x.level c) (entry t x.line c) none nothing))
        ]
      ]
    ]
  where
    nonzero : (z : ℤ) → (pos 0 <ℤ z) ⊎ (pos 0 <ℤ neg_ℤ z) → z ≢ pos 0
    nonzero z (inl up) e = omega (arith, ints, up, e)
    nonzero z (inr down) e = omega (arith, ints, down, e)

    both : (a n x y : ℤ) → x ≡ pos 0 → y ≡ pos 0 → a *ℤ x +ℤ n *ℤ y ≡ pos 0
    both a n x y e f = ap₂ (λ (u v : ℤ). a *ℤ u +ℤ n *ℤ v) e f ∙ ap₂ (λ (u v : ℤ). u +ℤ v) (mul-zero_ℤ a) (mul-zero_ℤ n)

-- the level's own number in it
pub left_own : (t : Lists) (r : Row) (x : Leaver) (times k : ℕ) (n : ℤ) → (h : IsLeavingRow t r x) → left_whole t x times k n x.level ≡ pos (k * (level_kept t r x h).own * times)
left_own t r x times k n h =
    whole-level t x times k n (level_apart t r x h) ∙ ap (λ (z : ℤ). pos (k * times) *ℤ z) (level_own_is t r x h)
    ∙ ap pos (let own : ℕ = (level_kept t r x h).own in let e : k * times * own ≡ k * own * times = omega arith in e)

slot-off : (t : Lists) (r : Row) (x : Leaver) (name : RowName) → IsLeavingRow t r x → IsNamed (problem_of t) name → line_slot t name ≢ x.level
slot-off t r x name h named e = let a = (named_slot t name h.kept.slots named).0 in let b = its_level t r x h in omega (arith, a, b, e)

by-off : (t : Lists) (l : ℕ) (whole : ℕ → ℤ) (name : RowName) → line_slot t name ≢ l → by_slot t l whole name ≡ neg_ℤ (whole (line_slot t name))
by-off t l whole name ne = ap (λ (b : Bool). cond b (pos 0) (neg_ℤ (whole (line_slot t name)))) (ne_eqb (line_slot t name) l ne)

-- the other lines' numbers
left-number : (t : Lists) (r : Row) (x : Leaver) (times k : ℕ) (n : ℤ) (name : RowName) → (h : IsLeavingRow t r x) → IsNamed (problem_of t) name → name ≢ Held r.id → by_slot t x.level (left_whole t x times k n) name ≡ left_numbers t r x h k n name
left-number t r x times k n name h named other =
    let off = slot-off t r x name h named in
    let apart : line_slot t name ≢ x.line = λ e. other (sym (lines_apart t (Held r.id) name h.kept.slots (its_name t r x h.is) named (e ∙ sym h.is.line_is))) in
    by-off t x.level (left_whole t x times k n) name off
    ∙ ap neg_ℤ (whole-off t x times k n (line_slot t name) apart off)
    ∙ negated-sum (pos k) n (entry t x.level (line_slot t name)) (entry t x.line (line_slot t name))
    ∙ ap₂ (λ (u v : ℤ). pos k *ℤ u +ℤ n *ℤ v) (sym (number_is t x.level name off))
    (sym (number_is t x.line name apart) ∙ sym (other-number (Held r.id) (its_size t r x h) (number t x.line) name other))

pub left_terms : (t : Lists) (r : Row) (x : Leaver) (times k : ℕ) (n : ℤ) → (h : IsLeavingRow t r x) → AreTermsOf t x.level (left_whole t x times k n) (k * (level_kept t r x h).own * times) (by_slot t x.level (left_whole t x times k n))
left_terms t r x times k n h = record {
  own_is = left_own t r x times k n h;
  by_is = λ i d lt. refl;
  columns = λ c some ne.
      let o = left_columns t r x times k n h c some ne in
      let owned = line-owned t c o.2.0 h.kept.slots o.2.1 in
      named-at c o.2.0 owned.0 owned.1;
}
  where
    named-at : (c : ℕ) (name : RowName) → Any (λ m. m.name ≡ name) (lines (problem_of t)) → line_slot t name ≡ c → Any (λ m. line_slot t m.name ≡ c) (lines (problem_of t))
    named-at c name h e = (h.0, h.1, h.2, h.3, ap (line_slot t) h.4 ∙ e)

-- outside lines alone have numbers
left-names : (t : Lists) (r : Row) (x : Leaver) (times k : ℕ) (n : ℤ) → IsLeavingRow t r x → All (λ m. by_slot t x.level (left_whole t x times k n) m.name ≢ pos 0 → IsOutsideLine (marks_at t) m.name) (lines (problem_of t))
left-names t r x times k n h i d lt some =
    let off = slot-off t r x (get_or (lines (problem_of t)) i d).name h (own_name (lines (problem_of t)) i d lt) in
    out_line t (get_or (lines (problem_of t)) i d).name
    (left_columns t r x times k n h (line_slot t (get_or (lines (problem_of t)) i d).name)
    (λ none. some (by-off t x.level (left_whole t x times k n) (get_or (lines (problem_of t)) i d).name off ∙ ap neg_ℤ none)) off).1

-- ---- in lowest terms

divides-part : (k f : ℕ) (z y : ℤ) → 0 < f → pos f *ℤ z ≡ y → (y ≢ pos 0 → k ∣ unsigned_abs z) → k ∣ unsigned_abs z
divides-part k f z y up e h =
    elim (sign_cases y) [
      | inl none ↦ elim (sign_cases z) [
        | inl null ↦ subst (λ (x : ℤ). k ∣ unsigned_abs x) (sym null) (dvd-zero k)
        | inr signed ↦ absurd (nonzero z signed (zero_from_mul f z up (e ∙ none)))
      ]
      | inr signed ↦ h (nonzero y signed)
    ]
  where
    nonzero : (z : ℤ) → (pos 0 <ℤ z) ⊎ (pos 0 <ℤ neg_ℤ z) → z ≢ pos 0
    nonzero z (inl up) e = omega (arith, ints, up, e)
    nonzero z (inr down) e = omega (arith, ints, down, e)

left-divided : (t : Lists) (r : Row) (x : Leaver) (times k low : ℕ) (n : ℤ) (part : RowName → ℤ) → (h : IsLeavingRow t r x)
    → AreReduced (lines (problem_of t)) (k * (level_kept t r x h).own * times) (by_slot t x.level (left_whole t x times k n)) low part
    → IsDividedRow (problem_left t x) (marks_left t x) (k * (level_kept t r x h).own * times) (left_numbers t r x h k n) low part
left-divided t r x times k low n part h red =
    let by : RowName → ℤ = by_slot t x.level (left_whole t x times k n) in
    record {
      factor = red.factor;
      above = red.factor_positive;
      own_is = red.own_same;
      same = All-from_recursion (λ l. IsOutsideLine (marks_left t x) l.name → pos red.factor *ℤ part l.name ≡ left_numbers t r x h k n l.name) (lines (problem_left t x))
          (each-impl (λ l. (l.name ≢ Held x.id) × (pos red.factor *ℤ part l.name ≡ left_numbers t r x h k n l.name)) _ (lines (problem_left t x)) (λ l e out. e.1)
          (each-both _ _ (lines (problem_left t x)) (left_far (problem_of t) x.id)
          (each-impl (λ l. (l.name ≢ Held x.id) × (l.name ≢ Held x.id → pos red.factor *ℤ part l.name ≡ left_numbers t r x h k n l.name)) _ (lines (problem_left t x)) (λ l e. e.1 e.0)
          (each-both _ _ (lines (problem_left t x)) (left_far (problem_of t) x.id)
          (recursion_from_All _ (lines (problem_left t x))
          (all_left (λ l. l.name ≢ Held x.id → pos red.factor *ℤ part l.name ≡ left_numbers t r x h k n l.name) x.id (problem_of t)
          (λ i d lt far. red.same i d lt ∙ left-number t r x times k n (get_or (lines (problem_of t)) i d).name h (own_name (lines (problem_of t)) i d lt) (λ e. far (e ∙ ap Held (sym h.is.id_is))))))))));
      lowest = λ m dm each.
          let named : Each (λ l. (IsOutsideLine (marks_at t) l.name → m ∣ unsigned_abs (part l.name))) (lines (problem_of t)) =
          names_back (λ name. IsOutsideLine (marks_at t) name → m ∣ unsigned_abs (part name)) x.id (problem_of t)
          (λ out. absurd (at_side x.side (marks_at t) (Held x.id) out (subst (λ (i : ℕ). IsIn (place_of (Held i) x.side) (marks_at t)) (sym h.is.id_is) (its_mark t r x h.is))))
          (each-impl (λ l. IsOutsideLine (marks_left t x) l.name → m ∣ unsigned_abs (part l.name)) _ (lines (problem_left t x)) (λ l e out. e (outside_left (marks_at t) x.id l.name out)) (recursion_from_All _ (lines (problem_left t x)) each)) in
          let all = All-from_recursion (λ l. IsOutsideLine (marks_at t) l.name → m ∣ unsigned_abs (part l.name)) (lines (problem_of t)) named in
          red.lowest m dm (λ i d lt. divides-part m red.factor (part (get_or (lines (problem_of t)) i d).name) (by (get_or (lines (problem_of t)) i d).name) red.factor_positive (red.same i d lt)
          (λ some. all i d lt (left-names t r x times k n h i d lt some)));
    }

-- it is the level's row
left-has : (t : Lists) (r : Row) (x : Leaver) (unit times k low : ℕ) (n : ℤ) (part : RowName → ℤ) → (h : IsLeavingRow t r x) → IsLevelUnit (problem_left t x) x.level unit → 0 < times → (level_kept t r x h).unit ≡ times * unit → IsLeftShare t x k n
    → AreReduced (lines (problem_of t)) (k * (level_kept t r x h).own * times) (by_slot t x.level (left_whole t x times k n)) low part
    → HasLevelRow (problem_left t x) (marks_left t x) x.level unit low part
left-has t r x unit times k low n part h least above same share red =
    let m = its_multiple t r x unit times k n h least above same share in
    divided_row_is_row (problem_left t x) (marks_left t x) x.level unit (k * (level_kept t r x h).own * times) low m.0 part m.1
    (divided-same (problem_left t x) (marks_left t x) (k * (level_kept t r x h).own * times) low (left_numbers t r x h k n) m.0 part m.2 (left-divided t r x times k low n part h red))

own-above : (t : Lists) (r : Row) (x : Leaver) (times k : ℕ) → (h : IsLeavingRow t r x) → 0 < times → 0 < k → 0 < k * (level_kept t r x h).own * times
own-above t r x times k h above up = mul-pos (mul-pos up (level_kept t r x h).numbers.row.own_positive) above

pub left_row_is : (t : Lists) (r : Row) (x : Leaver) (unit times k : ℕ) (n : ℤ) (row : List Term) → IsLeavingRow t r x → IsLevelUnit (problem_left t x) x.level unit → 0 < times → (priority_at t x.level).unit ≡ pos (times * unit) → IsLeftShare t x k n
    → IsReduced row (left_whole t x times k n) → IsLowestRow row → IsLeftRow t x unit row
left_row_is t r x unit times k n row h least above whole share made lowest =
    let same : (level_kept t r x h).unit ≡ times * unit = ap unsigned_abs (sym (level_kept t r x h).unit_is ∙ whole) in
    let red = reduced_terms t x.level (left_whole t x times k n) (k * (level_kept t r x h).own * times) (by_slot t x.level (left_whole t x times k n)) row (own-above t r x times k h above share.above) (left_terms t r x times k n h) lowest made in
    record {
      own = red.0;
      own_is = red.1;
      level_row = left-has t r x unit times k red.0 n (row_number t x.level row) h least above same share red.2;
      columns = λ c some ne. left_columns t r x times k n h c (some_whole made.factor (coefficient c row) (left_whole t x times k n c) made.above (made.same c) some) ne;
    }

-- ---- where it does not fit

part-of-none : (g : ℕ) (z y : ℤ) → 0 < g → pos g *ℤ z ≡ y → y ≡ pos 0 → IsFitting z
part-of-none g z y up e none = subst IsFitting (sym (zero_from_mul g z up (e ∙ none))) (omega arith)

fitting-parts : (g : ℕ) (z y : ℤ) → 0 < g → pos g *ℤ z ≡ y → (y ≢ pos 0 → IsFitting z) → IsFitting z
fitting-parts g z y up e h =
    elim (sign_cases y) [
      | inl none ↦ part-of-none g z y up e none
      | inr (inl more) ↦ h (λ q. omega (arith, ints, more, q))
      | inr (inr less) ↦ h (λ q. omega (arith, ints, less, q))
    ]

scale-part : (low unit : ℕ) → 0 < unit → low * unit < PART_BOUND → low < PART_BOUND
scale-part low zero up h = absurd (omega (arith, up))
scale-part low (suc u) up h = let n : ℕ = low * u in let e : low * suc u ≡ low * u + low = omega arith in omega (arith, e, h)

pub left_unfit : (t : Lists) (r : Row) (x : Leaver) (unit times k : ℕ) (n : ℤ) → IsLeavingRow t r x → IsLevelUnit (problem_left t x) x.level unit → 0 < times → (priority_at t x.level).unit ≡ pos (times * unit) → IsLeftShare t x k n
    → IsUnfit (left_whole t x times k n) → HasNoLevelWriting (problem_left t x) (marks_left t x) x.level
left_unfit t r x unit times k n h least above whole share unfit =
    let same : (level_kept t r x h).unit ≡ times * unit = ap unsigned_abs (sym (level_kept t r x h).unit_is ∙ whole) in
    let own : ℕ = k * (level_kept t r x h).own * times in
    let by : RowName → ℤ = by_slot t x.level (left_whole t x times k n) in
    let up = own-above t r x times k h above share.above in
    let low = lowest_terms (problem_of t) (k * (level_kept t r x h).own * times) (by_slot t x.level (left_whole t x times k n)) up in
    let sound = left_sound t r x h in
    row_unfit (problem_left t x) (marks_left t x) x.level unit low.0 low.1 sound.0 sound.1 sound.2 least (left-has t r x unit times k low.0 n low.1 h least above same share low.2)
    (λ fit.
    let named : Each (λ l. IsOutsideLine (marks_at t) l.name → IsFitting (low.1 l.name)) (lines (problem_of t)) =
    names_back (λ name. IsOutsideLine (marks_at t) name → IsFitting (low.1 name)) x.id (problem_of t)
    (λ out. absurd (at_side x.side (marks_at t) (Held x.id) out (subst (λ (i : ℕ). IsIn (place_of (Held i) x.side) (marks_at t)) (sym h.is.id_is) (its_mark t r x h.is))))
    (each-impl (λ l. IsOutsideLine (marks_left t x) l.name → IsFitting (low.1 l.name)) _ (lines (problem_left t x)) (λ l e out. e (outside_left (marks_at t) x.id l.name out)) (recursion_from_All _ (lines (problem_left t x)) fit.outside_fit)) in
    let all = All-from_recursion (λ l. IsOutsideLine (marks_at t) l.name → IsFitting (low.1 l.name)) (lines (problem_of t)) named in
    unfit_terms t x.level (left_whole t x times k n) (k * (level_kept t r x h).own * times) (by_slot t x.level (left_whole t x times k n)) (pos 0) 1 h.kept.slots (left_terms t r x times k n h) unfit low.0 low.1 zero_fraction low.2 refl
    (scale-part low.0 unit least.above fit.scale_fits)
    (λ i d lt. fitting-parts low.2.factor (low.1 (get_or (lines (problem_of t)) i d).name) (by (get_or (lines (problem_of t)) i d).name) low.2.factor_positive (low.2.same i d lt) (λ some. all i d lt (left-names t r x times k n h i d lt some)))
    zero_kept)
