-- Where the route begins and all sums fit, each quantity does.
use Rattle.std.proofs.Common.{◌≡◌, ◌∙◌, ℕ, zero, suc, ◌+◌, ◌-◌, ◌*◌, ◌/◌, ◌<◌, ◌≤◌, ◌++◌, Bool, true, false, cond, nat_eq, List, [], ◌∷◌, length, map, filter, get_or, ℤ, pos, ◌+ℤ◌, ◌-ℤ◌, ◌*ℤ◌, refl, sym, ap, ap₂, subst, arith, inl, inr, eq-eqb, ne_eqb}
use Rattle.std.specs.List.{AllByRecursion as Each}
use Rattle.std.proofs.lemmas.Bool.{cases_eq}
use Rattle.std.proofs.lemmas.List.{get_or_default}
use Rattle.std.proofs.lemmas.List.Elements.{All-from_recursion}
use Rattle.std.proofs.Math.Nat.{eq-one_of_dvd-one}
use borrow.Author.Differences.{ints}
use Rattle.frac_core.specs.Fraction.{IsFitting}
use Rattle.frac_core.proofs.Integers.{mul-zero_ℤ, zero-mul_ℤ}
use Rattle.problem_core.specs.declared.parts.Level.{Level}
use Rattle.problem_core.specs.declared.parts.Mark.{Mark}
use Rattle.problem_core.specs.declared.parts.RowName.{RowName}
use Rattle.problem_core.specs.declared.parts.Side.{Side}
use Rattle.problem_core.specs.declared.parts.Side.TheVariants.{Under, Over}
use Rattle.problem_core.specs.declared.parts.Stay.{Stay}
use Rattle.problem_core.specs.declared.stops.Quantity.{Quantity}
use Rattle.problem_core.specs.declared.stops.Quantity.TheVariants.{Plain, Terms, Rows, Shifts}
use Rattle.problem_core.specs.declared.stops.What.{What}
use Rattle.problem_core.specs.declared.stops.What.TheVariants.{Attr, Mark as MarkOf, Level as LevelOf}
use Rattle.problem_core.specs.Kept.{IsWhole}
use Rattle.problem_core.specs.Layout.{HasStay, Line, Problem, Row, coefficient, line_of_row, lines, stay_lines}
use Rattle.problem_core.specs.Certificates.{over_weight, under_weight, weight_at}
use Rattle.problem_core.specs.Corners.{IsCorner, IsIn, attr_column, column, one_column, place, place_of}
use Rattle.problem_core.specs.Levels.{HasNoLevelWriting, IsLevelAt, alone, cost_at, line_cost, scales}
use Rattle.problem_core.specs.Unfit.{HasNoWriting, IsUnfitAt, IsUnfitWhat, first_terms, lightened, over_mark, with_first_rows, without_weight}
use Rattle.problem_core.specs.Window.{zero_fraction}
use Rattle.problem_core.proofs.Forms.{each-impl, sum-zero}
use Rattle.corner_laws.proofs.MarkWritings.Directions.{each-of}
use Rattle.corner_lines.specs.LineEquations.{IsLineEquation, IsLineSum, mark_form}
use Rattle.corner_lines.proofs.ProblemChanges.JoinedLines.{past-terms, same-writing}
use Rattle.corner_lines.proofs.Lines.LineWritings.{line_writing}
use Rattle.path_lines.specs.Walking.FirstLines.{IsRowOf}
use Rattle.cert_core.specs.Stops.{IsPartial}
use Rattle.path_lines.specs.Route.{over_marks}
use Rattle.path_lines.specs.Tables.{name_at}
use Rattle.path_lines.proofs.Walking.FirstCorner.{begins_there}
use Rattle.path_lines.proofs.Walking.FirstLines.{attr_sum, units}
use Rattle.path_fits.specs.FirstSums.{IsUnfitSum}
use Rattle.path_claims.proofs.Beginning.SumOrders.{any_row}
use Rattle.path_claims.proofs.Beginning.BegunParts.{told_unfit}
use Rattle.path_fits.proofs.Beginning.FirstSums.{coefficients_fit}
use Rattle.problem_core.proofs.Sides.{zero-kept as zero_kept}
use Rattle.problem_core.proofs.Lines.{under-none, over-none, weight-none as no_weight}

-- no partial sum of the problem's does not fit there
abbrev pub AllPartialFit : Problem → Type 0
AllPartialFit p = (sum : Quantity) → IsPartial sum → IsUnfitAt p (over_marks p) sum → ⊥

-- ---- attributes

unit_fits : (p : Problem) (k : ℕ) (name : RowName) → IsFitting (units p k name)
unit_fits p k name = either (nat_eq (place_of name Under) (place_of (name_at p k) Under))
  where
    either : (b : Bool) → IsFitting (cond b (pos 1) (pos 0))
    either true = omega arith
    either false = omega arith

attr_fits : (p : Problem) (attr : ℕ) → IsWhole p → HasStay p.stays attr → HasNoWriting p (over_marks p) (λ x. x (attr_column attr)) → ⊥
attr_fits p attr whole (i, s, within, is, attr_is) none =
    let t : Stay = get_or p.stays i s in
    let sum : IsLineSum p (over_marks p) (λ x. x (attr_column t.attr)) 1 (units p (length p.rows + i)) t.target.num t.target.den = attr_sum p i s whole within in
    let equation : IsLineEquation p (over_marks p) (λ x. x (attr_column t.attr)) 1 (units p (length p.rows + i)) t.target.num t.target.den = record {
      own_positive = sum.own_positive;
      den_positive = sum.den_positive;
      outside = sum.outside;
      holds = sum.holds;
      lowest = λ k d all. eq-one_of_dvd-one d;
    } in
    subst (λ (a : ℕ). HasNoWriting p (over_marks p) (λ x. x (attr_column a))) (sym (ap (λ (s : Stay). s.attr) is ∙ attr_is)) none
    1 (mark_form (units p (length p.rows + i)) (lines p)) t.target (line_writing p (over_marks p) (λ x. x (attr_column t.attr)) 1 (units p (length p.rows + i)) t.target.num t.target.den whole equation) (omega arith)
    (coefficients_fit p (units p (length p.rows + i)) whole (λ name. unit_fits p (length p.rows + i) name)) (whole.stays i s within).target

-- ---- marks

mark_row : (rows : List Row) (c : ℕ) → IsIn c (map (λ (r : Row). over_mark r.id) rows) → (k : ℕ) × (k < length rows) × ((d : Row) → place (over_mark (get_or rows k d).id) ≡ c)
mark_row [] c (k, within, is) = absurd (omega (arith, within))
mark_row (r ∷ rows) c (zero, within, is) = (0, omega arith, λ d. is)
mark_row (r ∷ rows) c (suc k, within, is) = let h = mark_row rows c (k, omega (arith, within), is) in (suc h.0, omega (arith, h.1), h.2)

mark_fits : (p : Problem) (m : Mark) → AllPartialFit p → IsIn (place m) (over_marks p) → HasNoWriting p (over_marks p) (λ x. x (place m)) → ⊥
mark_fits p m fits inside none =
    let k = mark_row p.rows (place m) inside in
    let r : Row = get_or p.rows k.0 any_row in
    let held : IsRowOf p r = (k.0, r, k.1, get_or_default p.rows k.0 r any_row k.1, refl) in
    let unfit : IsUnfitSum p r (length r.terms + 1) =
    same-writing p (over_marks p) (λ x. x (place m)) (first_terms r (length r.terms + 1)) (λ x. ap x (sym (k.2 any_row)) ∙ sym (past-terms r x)) none in
    fits (Terms (over_mark r.id) (length r.terms + 1)) tt (told_unfit p r (length r.terms + 1) held (omega arith) (omega arith) unfit)

-- ---- levels with lines

light_step : (b : Bool) (j : ℕ) (r : Row) (rows fewer same : List Row) (l : Line) (ls : List Line) → length (cond b (l ∷ ls) ls) ≤ j → (length ls ≤ j - 1 → fewer ≡ rows) → (length ls ≤ j → same ≡ rows)
    → cond b (cond (nat_eq j 0) (without_weight r) r ∷ fewer) (r ∷ same) ≡ r ∷ rows
light_step true j r rows fewer same l ls h next rest =
    ap₂ (λ (x : Row) (xs : List Row). x ∷ xs) (ap (λ (c : Bool). cond c (without_weight r) r) (ne_eqb j 0 (λ e. absurd (omega (arith, h, e))))) (next (omega (arith, h)))
light_step false j r rows fewer same l ls h next rest = ap (λ (xs : List Row). r ∷ xs) (rest h)

light_same : (level j : ℕ) (rows : List Row) (ls : List Line) → length (filter (λ l. nat_eq l.level level) (map line_of_row rows ++ ls)) ≤ j → lightened level j rows ≡ rows
light_same level j [] ls few = refl
light_same level j (r ∷ rows) ls few =
    light_step (nat_eq (1000 - r.rank) level) j r rows (lightened level (j - 1) rows) (lightened level j rows) (line_of_row r) (filter (λ l. nat_eq l.level level) (map line_of_row rows ++ ls)) few
    (λ h. light_same level (j - 1) rows ls h) (λ h. light_same level j rows ls h)

full_level : (p : Problem) (k : ℕ) → with_first_rows k (length (filter (λ l. nat_eq l.level k) (lines p))) p ≡ p
full_level p k = ap (λ (rows : List Row). record { rows = rows; stays = p.stays }) (light_same k (length (filter (λ l. nat_eq l.level k) (lines p))) p.rows (stay_lines 1001 p.stays) (omega arith))

-- ---- levels without lines

none_at : (ls : List Line) (level : ℕ) → length (filter (λ l. nat_eq l.level level) ls) ≡ 0 → Each (λ l. weight_at l level ≡ 0) ls
none_at [] level none = tt
none_at (l ∷ ls) level none =
    elim (cases_eq l.level level) [
      | inl e ↦ (let h : length (filter (λ l. nat_eq l.level level) (l ∷ ls)) ≡ suc (length (filter (λ l. nat_eq l.level level) ls)) =
          ap (λ (b : Bool). length (cond b (l ∷ filter (λ l. nat_eq l.level level) ls) (filter (λ l. nat_eq l.level level) ls))) (eq-eqb l.level level e) in absurd (omega (arith, h, none)))
      | inr ne ↦ (no_weight l level ne, none_at ls level (sym (ap (λ (b : Bool). length (cond b (l ∷ filter (λ l. nat_eq l.level level) ls) (filter (λ l. nat_eq l.level level) ls))) (ne_eqb l.level level ne)) ∙ none))
    ]

under_none : (l : Line) (level : ℕ) → weight_at l level ≡ 0 → under_weight l.rel (weight_at l level) ≡ 0
under_none l level e = ap (under_weight l.rel) e ∙ under-none l.rel

over_none : (l : Line) (level : ℕ) → weight_at l level ≡ 0 → over_weight l.rel (weight_at l level) ≡ 0
over_none l level e = ap (over_weight l.rel) e ∙ over-none l.rel

zero_column : (s : ℤ) (w : ℕ) → w ≡ 0 → s *ℤ pos 0 ≡ pos (1 * w) -ℤ s *ℤ pos 0
zero_column s w e = let z : s *ℤ pos 0 ≡ pos 0 = mul-zero_ℤ s in omega (arith, ints, z, e)

zero_column_over : (s : ℤ) (w : ℕ) → w ≡ 0 → s *ℤ pos 0 ≡ pos (1 * w) +ℤ s *ℤ pos 0
zero_column_over s w e = let z : s *ℤ pos 0 ≡ pos 0 = mul-zero_ℤ s in omega (arith, ints, z, e)

zero_columns : (side : Side) (l : Line) (level : ℕ) → weight_at l level ≡ 0 → pos l.scale *ℤ pos 0 ≡ column (alone 1 (λ n. pos 0)) side l level
zero_columns Under l level e = zero_column (pos l.scale) (under_weight l.rel (weight_at l level)) (under_none l level e)
zero_columns Over l level e = zero_column_over (pos l.scale) (over_weight l.rel (weight_at l level)) (over_none l level e)

zero_sum : (a b c : ℤ) (u o : ℕ) → u ≡ 0 → o ≡ 0 → c *ℤ (pos u *ℤ a +ℤ pos o *ℤ b) ≡ pos 0
zero_sum a b c u o e f =
    ap₂ (λ (m n : ℕ). c *ℤ (pos m *ℤ a +ℤ pos n *ℤ b)) e f
    ∙ ap (λ (z : ℤ). c *ℤ z) (ap₂ ◌+ℤ◌ (zero-mul_ℤ a) (zero-mul_ℤ b)) ∙ mul-zero_ℤ c

empty_fits : (p : Problem) (at : List Mark) (level : ℕ) → IsCorner p at → length (filter (λ l. nat_eq l.level level) (lines p)) ≡ 0 → HasNoLevelWriting p at level → ⊥
empty_fits p at level corner empty none =
    let weights : Each (λ l. weight_at l level ≡ 0) (lines p) = none_at (lines p) level empty in
    let cost : cost_at p level corner.point.num ≡ pos 0 =
    sum-zero (λ l. pos (scales p / l.scale) *ℤ line_cost level corner.point.num l) (lines p)
    (each-impl (λ l. weight_at l level ≡ 0) (λ l. pos (scales p / l.scale) *ℤ line_cost level corner.point.num l ≡ pos 0) (lines p)
    (λ l e. zero_sum (corner.point.num (place_of l.name Under)) (corner.point.num (place_of l.name Over)) (pos (scales p / l.scale)) (under_weight l.rel (weight_at l level)) (over_weight l.rel (weight_at l level)) (under_none l level e) (over_none l level e)) weights) in
    none 1 (λ n. pos 0) (λ c. pos 0) zero_fraction
    (record {
      scale_positive = omega arith;
      cancel = λ v. sum-zero (λ l. pos 0 *ℤ coefficient v l.form) (lines p) (each-of (λ l. pos 0 *ℤ coefficient v l.form ≡ pos 0) (lines p) (λ l. zero-mul_ℤ (coefficient v l.form)));
      columns = λ side. All-from_recursion (λ l. pos l.scale *ℤ pos 0 ≡ column (alone 1 (λ n. pos 0)) side l level) (lines p)
          (each-impl (λ l. weight_at l level ≡ 0) (λ l. pos l.scale *ℤ pos 0 ≡ column (alone 1 (λ n. pos 0)) side l level) (lines p) (λ l e. zero_columns side l level e) weights);
      inside_zero = λ side k d within inside. refl;
      lowest = λ k d rest. eq-one_of_dvd-one d;
    })
    (corner.point, corner.stands, ap (λ (z : ℤ). z *ℤ pos 1) cost ∙ no_value (pos (scales p) *ℤ corner.point.num one_column))
    (record { scale_fits = omega arith; times_fit = λ k d within. omega arith; reduced_fit = λ side k d within. omega arith }) zero_kept
  where
    no_value : (z : ℤ) → pos 0 *ℤ pos 1 ≡ pos 0 *ℤ z
    no_value z = zero-mul_ℤ (pos 1) ∙ sym (zero-mul_ℤ z)

level_fits : (p : Problem) (level : Level) (k : ℕ) → IsWhole p → AllPartialFit p → IsLevelAt p level k → HasNoLevelWriting p (over_marks p) k → ⊥
level_fits p level k whole fits at none =
    elim (cases_eq (length (filter (λ l. nat_eq l.level k) (lines p))) 0) [
      | inl empty ↦ empty_fits p (over_marks p) k (begins_there p whole).corner empty none
      | inr some ↦
          fits (Rows level (length (filter (λ l. nat_eq l.level k) (lines p)))) tt
          (k, at, omega (arith, some), omega arith, subst (λ (q : Problem). HasNoLevelWriting q (over_marks p) k) (sym (full_level p k)) none)
    ]

-- ---- all of them

what_fits : (p : Problem) (what : What) → IsWhole p → AllPartialFit p → IsUnfitWhat p (over_marks p) what → ⊥
what_fits p (Attr attr) whole fits unfit = attr_fits p attr whole unfit.0 unfit.1
what_fits p (MarkOf m) whole fits unfit = mark_fits p m fits unfit.0 unfit.1
what_fits p (LevelOf level) whole fits unfit = level_fits p level unfit.0 whole fits unfit.1 unfit.2

pub all_fit : (p : Problem) (q : Quantity) → IsWhole p → AllPartialFit p → IsUnfitAt p (over_marks p) q → ⊥
all_fit p (Plain what) whole fits unfit = what_fits p what whole fits unfit
all_fit p (Terms mark j) whole fits unfit = fits (Terms mark j) tt unfit
all_fit p (Rows level j) whole fits unfit = fits (Rows level j) tt unfit
all_fit p (Shifts what j) whole fits unfit = what_fits p what whole fits unfit
