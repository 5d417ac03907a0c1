-- A level at which a row counts nothing, where the row is taken out and had a mark inside.
use Rattle.std.proofs.Common.{◌≡◌, ◌∙◌, ℕ, zero, suc, ◌*◌, ◌/◌, ◌<◌, ◌++◌, Bool, true, false, cond, nat_eq, List, [], ◌∷◌, filter, map, ℤ, pos, ◌+ℤ◌, ◌*ℤ◌, neg_ℤ, unsigned_abs, ne_eqb, eq-eqb, refl, sym, ap, ap₂, subst, arith, inl, inr, All, Any}
use Rattle.std.specs.Int.{◌∣◌}
use Rattle.std.specs.List.{AllByRecursion as Each}
use Rattle.std.proofs.lemmas.Bool.{cases_eq}
use Rattle.std.proofs.lemmas.Nat.Gcd.{dvd-zero}
use Rattle.std.proofs.lemmas.List.Elements.{recursion_from_All, All-from_recursion}
use Rattle.frac_core.specs.Fraction.{Fraction}
use Rattle.frac_core.proofs.Integers.{cancel_mul, mul_assoc_ℤ, mul_left_comm_ℤ, zero-mul_ℤ, zero-add_ℤ}
use Rattle.problem_core.specs.declared.parts.Mark.{Mark}
use Rattle.problem_core.specs.declared.parts.RowName.{RowName}
use Rattle.problem_core.specs.declared.parts.RowName.TheVariants.{Held}
use Rattle.problem_core.specs.declared.parts.Side.{Side}
use Rattle.problem_core.specs.declared.parts.Side.TheVariants.{Under, Over}
use Rattle.problem_core.specs.Changes.Begins.{without_marks}
use Rattle.problem_core.specs.Certificates.{weight_at}
use Rattle.problem_core.specs.Kept.{IsWhole}
use Rattle.problem_core.specs.Layout.{IsProblem, Line, Problem, Row, coefficient, line_of_row, lines, product_of, stay_lines, sum_of}
use Rattle.problem_core.specs.Corners.{IsCorner, IsIn, one_column, place_of}
use Rattle.problem_core.specs.Levels.{IsCostAt, cost_at, line_cost, scales}
use Rattle.problem_core.proofs.Forms.{each-both, each-impl, mul-sum}
use Rattle.problem_core.proofs.Wholes.{whole-IsProblem}
use Rattle.corner_laws.specs.Units.{IsLevelRow, IsLevelUnit, over_share, under_share}
use Rattle.corner_laws.proofs.LevelCosts.Gaps.{shares}
use Rattle.corner_lines.specs.Levels.LevelRows.{inside_number}
use Rattle.corner_lines.specs.Removals.{without_row}
use Rattle.corner_lines.proofs.LevelRows.LevelJoins.{free-number}
use Rattle.corner_lines.proofs.Costs.LevelPlaces.{cost_everywhere}
use Rattle.corner_leaving.proofs.Removals.LeftLists.{all_left}
use Rattle.problem_core.proofs.Corners.Conflicts.{sum-each}
use Rattle.corner_lines.proofs.ProblemChanges.Dropped.{filter-on, filter-off, other_row, still-stands, in-before as in_before}
use Rattle.frac_core.proofs.Numbers.{no-product as no-weight, quotient-times as quotient}
use Rattle.problem_core.proofs.Lines.{free-cost}

-- the row counts nothing at the level
abbrev pub CountsNothing : ℕ → ℕ → List Row → Type 0
CountsNothing id k rows = Each (λ (r : Row). r.id ≡ id → weight_at (line_of_row r) k ≡ 0) rows

-- what holds of the lines that are left, and of the row's, holds of all
pub lines_back : (P : Line → Type 0) (id : ℕ) (rows : List Row) (ls : List Line) → Each (λ (r : Row). r.id ≡ id → P (line_of_row r)) rows → Each P (map line_of_row (filter (other_row id) rows) ++ ls) → Each P (map line_of_row rows ++ ls)
lines_back P id [] ls own h = h
lines_back P id (r ∷ rows) ls own h = elim (cases_eq r.id id) [
  | inl e ↦ (own.0 e, lines_back P id rows ls own.1 (subst (λ (rs : List Row). Each P (map line_of_row rs ++ ls)) (filter-on id r rows e) h))
  | inr n ↦ (let k : Each P (map line_of_row (r ∷ filter (other_row id) rows) ++ ls) = subst (λ (rs : List Row). Each P (map line_of_row rs ++ ls)) (filter-off id r rows n) h in (k.0, lines_back P id rows ls own.1 k.1))
]

pub sum_without : (f : Line → ℤ) (id : ℕ) (rows : List Row) (ls : List Line) → Each (λ (r : Row). r.id ≡ id → f (line_of_row r) ≡ pos 0) rows → sum_of f (map line_of_row rows ++ ls) ≡ sum_of f (map line_of_row (filter (other_row id) rows) ++ ls)
sum_without f id [] ls none = refl
sum_without f id (r ∷ rows) ls none = elim (cases_eq r.id id) [
  | inl e ↦ ap₂ ◌+ℤ◌ (none.0 e) (sum_without f id rows ls none.1) ∙ zero-add_ℤ _ ∙ ap (λ (rs : List Row). sum_of f (map line_of_row rs ++ ls)) (sym (filter-on id r rows e))
  | inr n ↦ ap (λ (z : ℤ). f (line_of_row r) +ℤ z) (sum_without f id rows ls none.1) ∙ ap (λ (rs : List Row). sum_of f (map line_of_row rs ++ ls)) (sym (filter-off id r rows n))
]

-- ---- the unit

pub other_unit : (p : Problem) (id k unit : ℕ) → CountsNothing id k p.rows → IsLevelUnit p k unit → IsLevelUnit (without_row id p) k unit
other_unit p id k unit none is = record {
  above = is.above;
  whole = all_left (λ l. l.scale ∣ unit * weight_at l k) id p is.whole;
  least = λ n h. is.least n (All-from_recursion (λ l. l.scale ∣ n * weight_at l k) (lines p)
      (lines_back (λ l. l.scale ∣ n * weight_at l k) id p.rows (stay_lines 1001 p.stays)
      (each-impl (λ (r : Row). r.id ≡ id → weight_at (line_of_row r) k ≡ 0) (λ (r : Row). r.id ≡ id → r.scale ∣ n * weight_at (line_of_row r) k) p.rows
      (λ r z e. subst (λ (m : ℕ). r.scale ∣ m) (sym (no-weight n (weight_at (line_of_row r) k) (z e))) (dvd-zero r.scale)) none)
      (recursion_from_All (λ l. l.scale ∣ n * weight_at l k) (lines (without_row id p)) h)));
}

-- ---- the row

-- the row's own number is 0
none-at : (at : List Mark) (id k unit own : ℕ) (by : RowName → ℤ) (side : Side) (rows : List Row) (ls : List Line)
    → Each (λ l. IsIn (place_of l.name side) at → by l.name ≡ inside_number side k unit own l) (map line_of_row rows ++ ls) → CountsNothing id k rows → Any (λ (r : Row). r.id ≡ id) rows
    → IsIn (place_of (Held id) side) at → by (Held id) ≡ pos 0
none-at at id k unit own by side [] ls h none (i, r, lt, e, is) inside = absurd (omega (arith, lt))
none-at at id k unit own by side (r ∷ rows) ls h none (zero, s, lt, e, is) inside =
    let same : r.id ≡ id = ap (λ (x : Row). x.id) e ∙ is in
    subst (λ (n : ℕ). by (Held n) ≡ pos 0) same
    (h.0 (subst (λ (n : ℕ). IsIn (place_of (Held n) side) at) (sym same) inside) ∙ free-number side k unit own (line_of_row r) (none.0 same))
none-at at id k unit own by side (r ∷ rows) ls h none (suc i, s, lt, e, is) inside = none-at at id k unit own by side rows ls h.1 none.1 (i, s, omega (arith, lt), e, is) inside

pub other_none : (p : Problem) (at : List Mark) (id k unit own : ℕ) (by : RowName → ℤ) (side : Side) → CountsNothing id k p.rows → Any (λ (r : Row). r.id ≡ id) p.rows → IsIn (place_of (Held id) side) at → IsLevelRow p at k unit own by → by (Held id) ≡ pos 0
other_none p at id k unit own by Under none held inside is = none-at at id k unit own by Under p.rows (stay_lines 1001 p.stays) (recursion_from_All _ (lines p) is.under) none held inside
other_none p at id k unit own by Over none held inside is = none-at at id k unit own by Over p.rows (stay_lines 1001 p.stays) (recursion_from_All _ (lines p) is.over) none held inside

inside-out : (at : List Mark) (id : ℕ) (side : Side) (P : Type 0) → IsIn (place_of (Held id) side) at → (IsIn (place_of (Held id) Under) at → ⊥) → (IsIn (place_of (Held id) Over) at → ⊥) → P
inside-out at id Under P inside u o = absurd (u inside)
inside-out at id Over P inside u o = absurd (o inside)

pub other_row_is : (p : Problem) (at : List Mark) (id k unit own : ℕ) (by : RowName → ℤ) (side : Side) → CountsNothing id k p.rows → Any (λ (r : Row). r.id ≡ id) p.rows → IsIn (place_of (Held id) side) at
    → IsLevelRow p at k unit own by → IsLevelRow (without_row id p) (without_marks (id ∷ []) at) k unit own by
other_row_is p at id k unit own by side none held inside is =
    let zero_there : by (Held id) ≡ pos 0 = other_none p at id k unit own by side none held inside is in
    record {
      own_positive = is.own_positive;
      cancel = λ v.
          sym (sum_without (λ l. by l.name *ℤ coefficient v l.form) id p.rows (stay_lines 1001 p.stays)
          (each-impl (λ (r : Row). r.id ≡ id → weight_at (line_of_row r) k ≡ 0) (λ (r : Row). r.id ≡ id → by (Held r.id) *ℤ coefficient v r.terms ≡ pos 0) p.rows
          (λ r z e. ap (λ (n : ℕ). by (Held n) *ℤ coefficient v r.terms) e ∙ ap (λ (x : ℤ). x *ℤ coefficient v r.terms) zero_there ∙ zero-mul_ℤ (coefficient v r.terms)) none))
          ∙ is.cancel v;
      under = left-side Under (λ l. by l.name ≡ pos (own * under_share unit k l)) is.under;
      over = left-side Over (λ l. by l.name ≡ neg_ℤ (pos (own * over_share unit k l))) is.over;
      lowest = λ n divides all. is.lowest n divides
          (All-from_recursion _ (lines p)
          (lines_back (λ l. (IsIn (place_of l.name Under) at → ⊥) → (IsIn (place_of l.name Over) at → ⊥) → n ∣ unsigned_abs (by l.name)) id p.rows (stay_lines 1001 p.stays)
          (each-impl (λ (r : Row). r.id ≡ id → weight_at (line_of_row r) k ≡ 0) _ p.rows
          (λ r z e u o. inside-out at id side (n ∣ unsigned_abs (by (Held r.id))) inside (λ i. u (subst (λ (m : ℕ). IsIn (place_of (Held m) Under) at) (sym e) i)) (λ i. o (subst (λ (m : ℕ). IsIn (place_of (Held m) Over) at) (sym e) i))) none)
          (each-impl (λ l. (IsIn (place_of l.name Under) (without_marks (id ∷ []) at) → ⊥) → (IsIn (place_of l.name Over) (without_marks (id ∷ []) at) → ⊥) → n ∣ unsigned_abs (by l.name)) _ (lines (without_row id p))
          (λ l h u o. h (λ i. u (in_before id (place_of l.name Under) at i)) (λ i. o (in_before id (place_of l.name Over) at i)))
          (recursion_from_All _ (lines (without_row id p)) all))));
    }
  where
    left-side : (to : Side) (P : Line → Type 0) → All (λ l. IsIn (place_of l.name to) at → P l) (lines p) → All (λ l. IsIn (place_of l.name to) (without_marks (id ∷ []) at) → P l) (lines (without_row id p))
    left-side to P h =
        All-from_recursion (λ l. IsIn (place_of l.name to) (without_marks (id ∷ []) at) → P l) (lines (without_row id p))
        (each-impl (λ l. IsIn (place_of l.name to) at → P l) _ (lines (without_row id p)) (λ l g i. g (in_before id (place_of l.name to) at i))
        (recursion_from_All _ (lines (without_row id p)) (all_left (λ l. IsIn (place_of l.name to) at → P l) id p h)))

-- ---- the cost

-- the scales of the rows that are gone
abbrev gone : ℕ → List Row → ℕ
gone id [] = 1
gone id (r ∷ rows) = cond (nat_eq r.id id) r.scale 1 * gone id rows

gone-above : (id : ℕ) (rows : List Row) (ls : List Line) → Each (λ l. (0 < l.scale) × (0 < l.den)) (map line_of_row rows ++ ls) → 0 < gone id rows
gone-above id [] ls h = omega arith
gone-above id (r ∷ rows) ls h = product (cond (nat_eq r.id id) r.scale 1) (gone id rows) (one (nat_eq r.id id)) (gone-above id rows ls h.1)
  where
    product : (a b : ℕ) → 0 < a → 0 < b → 0 < a * b
    product (suc a) (suc b) x y = omega arith
    product zero b x y = absurd (omega (arith, x))
    product (suc a) zero x y = absurd (omega (arith, y))

    one : (b : Bool) → 0 < cond b r.scale 1
    one true = h.0.0
    one false = omega arith

scales-gone : (id : ℕ) (rows : List Row) (ls : List Line) → product_of (λ l. l.scale) (map line_of_row rows ++ ls) ≡ gone id rows * product_of (λ l. l.scale) (map line_of_row (filter (other_row id) rows) ++ ls)
scales-gone id [] ls = omega arith
scales-gone id (r ∷ rows) ls = elim (cases_eq r.id id) [
  | inl e ↦
      let k : ℕ = gone id rows in
      let n : ℕ = product_of (λ l. l.scale) (map line_of_row (filter (other_row id) rows) ++ ls) in
      ap (λ (m : ℕ). r.scale * m) (scales-gone id rows ls) ∙ (let g : r.scale * (k * n) ≡ r.scale * k * n = omega arith in g)
      ∙ ap₂ (λ (b : Bool) (rs : List Row). cond b r.scale 1 * gone id rows * product_of (λ l. l.scale) (map line_of_row rs ++ ls)) (sym (eq-eqb r.id id e)) (sym (filter-on id r rows e))
  | inr n ↦
      let k : ℕ = gone id rows in
      let m : ℕ = product_of (λ l. l.scale) (map line_of_row (filter (other_row id) rows) ++ ls) in
      ap (λ (m : ℕ). r.scale * m) (scales-gone id rows ls) ∙ (let g : r.scale * (k * m) ≡ 1 * k * (r.scale * m) = omega arith in g)
      ∙ ap₂ (λ (b : Bool) (rs : List Row). cond b r.scale 1 * gone id rows * product_of (λ l. l.scale) (map line_of_row rs ++ ls)) (sym (ne_eqb r.id id n)) (sym (filter-off id r rows n))
]

cost-left : (p : Problem) (id level : ℕ) (x : ℕ → ℤ) → IsProblem p → CountsNothing id level p.rows → cost_at p level x ≡ pos (gone id p.rows) *ℤ cost_at (without_row id p) level x
cost-left p id level x problem none =
    let q : Problem = without_row id p in
    let there : IsProblem q = all_left (λ l. (0 < l.scale) × (0 < l.den)) id p problem in
    sum_without (λ l. pos (scales p / l.scale) *ℤ line_cost level x l) id p.rows (stay_lines 1001 p.stays)
    (each-impl (λ (r : Row). r.id ≡ id → weight_at (line_of_row r) level ≡ 0) _ p.rows (λ r z e. free-cost (scales p / r.scale) level x (line_of_row r) (z e)) none)
    ∙ sum-each (λ l. pos (scales p / l.scale) *ℤ line_cost level x l) (λ l. pos (gone id p.rows) *ℤ (pos (scales q / l.scale) *ℤ line_cost level x l)) (lines q)
    (each-impl (λ l. ((0 < l.scale) × (0 < l.den)) × (scales q / l.scale * l.scale ≡ scales q)) _ (lines q)
    (λ l h. ap (λ (n : ℕ). pos n *ℤ line_cost level x l) (quotient (scales q) (scales p) (gone id p.rows) l.scale h.0.0 h.1 (scales-gone id p.rows (stay_lines 1001 p.stays))) ∙ mul_assoc_ℤ (pos (gone id p.rows)) (pos (scales q / l.scale)) (line_cost level x l))
    (each-both _ _ (lines q) (recursion_from_All _ (lines q) there) (shares q there)))
    ∙ mul-sum (pos (gone id p.rows)) (λ l. pos (scales q / l.scale) *ℤ line_cost level x l) (lines q)

without-factor : (k s : ℕ) (c d n o : ℤ) → 0 < k → (pos k *ℤ c) *ℤ d ≡ n *ℤ (pos (k * s) *ℤ o) → c *ℤ d ≡ n *ℤ (pos s *ℤ o)
without-factor k s c d n o above h =
    cancel_mul k (c *ℤ d) (n *ℤ (pos s *ℤ o)) above
    (sym (mul_assoc_ℤ (pos k) c d) ∙ h ∙ ap (λ (z : ℤ). n *ℤ z) (mul_assoc_ℤ (pos k) (pos s) o) ∙ mul_left_comm_ℤ n (pos k) (pos s *ℤ o))

pub other_cost : (p : Problem) (at : List Mark) (id k : ℕ) (side : Side) (f : Fraction) → IsWhole p → IsCorner p at → IsIn (place_of (Held id) side) at → CountsNothing id k p.rows → IsCostAt p at k f
    → IsCostAt (without_row id p) (without_marks (id ∷ []) at) k f
other_cost p at id k side f whole corner inside none cost =
    let q : Problem = without_row id p in (
      corner.point,
      still-stands p at id corner.point corner.stands,
      (let x = corner.point in
          let e : cost_at p k x.num *ℤ pos f.den ≡ f.num *ℤ (pos (scales p) *ℤ x.num one_column) = cost_everywhere p at k f x corner cost corner.stands in
          without-factor (gone id p.rows) (scales q) (cost_at q k x.num) (pos f.den) f.num (x.num one_column) (gone-above id p.rows (stay_lines 1001 p.stays) (recursion_from_All _ (lines p) (whole-IsProblem p whole)))
          (sym (ap (λ (z : ℤ). z *ℤ pos f.den) (cost-left p id k x.num (whole-IsProblem p whole) none)) ∙ e ∙ ap (λ (n : ℕ). f.num *ℤ (pos n *ℤ x.num one_column)) (scales-gone id p.rows (stay_lines 1001 p.stays)))),
    )
