-- What a level is where a row is taken out that has no weight there.
use Rattle.std.proofs.Common.{◌≡◌, ◌≢◌, ◌∙◌, ℕ, zero, suc, ◌*◌, ◌/◌, ◌<◌, ◌++◌, Bool, true, false, cond, nat_eq, List, [], ◌∷◌, map, ℤ, pos, ◌*ℤ◌, ◌<ℤ◌, neg_ℤ, refl, sym, ap, subst, arith, All, Any, eq-eqb, mul-pos}
use Rattle.std.specs.List.{AllByRecursion as Each}
use Rattle.std.specs.Int.{◌∣◌}
use Rattle.std.proofs.Math.IntN.{*ℤ_comm}
use Rattle.std.proofs.lemmas.List.Elements.{recursion_from_All, All-from_recursion}
use Rattle.frac_core.specs.Fraction.{Fraction, IsRatio}
use Rattle.frac_core.proofs.Integers.{mul_assoc_ℤ, mul_left_comm_ℤ, mul_positive, zero-mul_ℤ}
use Rattle.problem_core.specs.declared.parts.Mark.{Mark}
use Rattle.problem_core.specs.declared.parts.RowName.{RowName}
use Rattle.problem_core.specs.declared.parts.RowName.TheVariants.{Held}
use Rattle.problem_core.specs.declared.parts.Side.{Side}
use Rattle.problem_core.specs.declared.parts.Side.TheVariants.{Under, Over}
use Rattle.problem_core.specs.Layout.{IsProblem, Line, Problem, Row, coefficient, line_of_row, lines, stay_lines, sum_of, value_at}
use Rattle.problem_core.specs.Certificates.{weight_at}
use Rattle.problem_core.specs.Corners.{IsCorner, IsIn, Point, StandsAt, equation, marks_of, one_column, place, place_of}
use Rattle.problem_core.specs.Levels.{IsCostAt, cost_at, line_cost, scales}
use Rattle.problem_core.specs.Unfit.{without_weight}
use Rattle.problem_core.specs.Changes.Begins.{without_marks}
use Rattle.problem_core.proofs.Forms.{each-both, each-impl, mul-sum}
use Rattle.corner_laws.specs.Units.{IsLevelUnit, over_share, under_share}
use Rattle.corner_laws.proofs.Swaps.ColumnsStay.{each_marks}
use Rattle.corner_laws.proofs.LevelCosts.Gaps.{shares}
use Rattle.corner_laws.proofs.Rays.{cancel-right}
use Rattle.corner_laws.proofs.ZeroColumns.{scales-above}
use Rattle.corner_lines.specs.Levels.LevelRows.{IsLevelMultiple}
use Rattle.corner_lines.specs.Removals.{without_row}
use Rattle.corner_lines.proofs.LevelRows.LevelJoins.{free-number, grown-over, grown-under, weightless-none}
use Rattle.corner_lines.proofs.Costs.LevelPlaces.{cost_everywhere}
use Rattle.corner_leaving.proofs.Removals.LeftLists.{all_left, each_lighter, gone, in_left, left_product, left_sum, lighter, with_lighter}
use Rattle.problem_core.proofs.Corners.Conflicts.{sum-each}
use Rattle.corner_laws.proofs.PathEnds.Ends.{both_marks, first-rows}
use Rattle.corner_lines.proofs.LevelRows.LevelLeaves.{moved-factor}
use Rattle.frac_core.proofs.Products.{above_zero as above-product}
use Rattle.frac_core.proofs.Numbers.{quotient-times as quotient}
use Rattle.problem_core.proofs.Lines.{free-cost}
use Rattle.corner_lines.proofs.ProblemChanges.Dropped.{in-before as in_before, left-far as left_far}

-- ---- its number

-- where it is among the rows, its line without a weight is among the lines
lighter-any : (id : ℕ) (r : Row) (rows : List Row) (ls : List Line) → r.id ≡ id → Any (λ s. s ≡ r) rows → Any (λ l. l ≡ line_of_row (without_weight r)) (map line_of_row (lighter id rows) ++ ls)
lighter-any id r [] ls own is = absurd (omega (arith, is.2))
lighter-any id r (s ∷ rows) ls own (zero, d, lt, f, g) =
    let same : s ≡ r = f ∙ g in
    let e : nat_eq s.id id ≡ true = eq-eqb s.id id (ap (λ (x : Row). x.id) same ∙ own) in
    (0, line_of_row (cond (nat_eq s.id id) (without_weight s) s), omega arith, refl, ap (λ (b : Bool). line_of_row (cond b (without_weight s) s)) e ∙ ap (λ (x : Row). line_of_row (without_weight x)) same)
lighter-any id r (s ∷ rows) ls own (suc k, d, lt, f, g) =
    let i = lighter-any id r rows ls own (k, d, omega (arith, lt), f, g) in
    (suc i.0, i.1, omega (arith, i.2), i.3, i.4)

any-of : {Y : Type 0} (P Q : Line → Type 0) (xs : List Line) → All P xs → Any Q xs → ((x : Line) → P x → Q x → Y) → Y
any-of P Q xs h (i, d, lt, e, q) f = f d (subst P e (h i d lt)) q

-- it has the number 0 in each row of the level
pub left_number : (p : Problem) (at : List Mark) (r : Row) (side : Side) (level unit own : ℕ) (by : RowName → ℤ) → Any (λ s. s ≡ r) p.rows → IsIn (place_of (Held r.id) side) at → IsLevelMultiple (with_lighter r.id p) at level unit own by → by (Held r.id) ≡ pos 0
left_number p at r Under level unit own by is i h =
    any-of (λ l. IsIn (place_of l.name Under) at → by l.name ≡ pos (own * under_share unit level l)) (λ l. l ≡ line_of_row (without_weight r)) (lines (with_lighter r.id p)) h.under (lighter-any r.id r p.rows (stay_lines 1001 p.stays) refl is)
    (λ l k e. subst (λ (m : Line). IsIn (place_of m.name Under) at → by m.name ≡ pos (own * under_share unit level m)) e k i ∙ free-number Under level unit own (line_of_row (without_weight r)) (weightless-none level (line_of_row r)))
left_number p at r Over level unit own by is i h =
    any-of (λ l. IsIn (place_of l.name Over) at → by l.name ≡ neg_ℤ (pos (own * over_share unit level l))) (λ l. l ≡ line_of_row (without_weight r)) (lines (with_lighter r.id p)) h.over (lighter-any r.id r p.rows (stay_lines 1001 p.stays) refl is)
    (λ l k e. subst (λ (m : Line). IsIn (place_of m.name Over) at → by m.name ≡ neg_ℤ (pos (own * over_share unit level m))) e k i ∙ free-number Over level unit own (line_of_row (without_weight r)) (weightless-none level (line_of_row r)))

-- ---- the row

-- in a unit that is so many times less
pub multiple_left : (p : Problem) (at : List Mark) (id level unit f own : ℕ) (by : RowName → ℤ) → IsProblem (without_row id p) → IsLevelUnit (without_row id p) level unit → 0 < f → by (Held id) ≡ pos 0
    → IsLevelMultiple (with_lighter id p) at level (f * unit) own by → IsLevelMultiple (without_row id p) (without_marks (id ∷ []) at) level unit (own * f) by
multiple_left p at id level unit f own by problem is above none h =
    let w : Problem = without_row id p in
    let q : Problem = with_lighter id p in
    let known : Each (λ l. ((0 < l.scale) × (0 < l.den)) × (l.scale ∣ unit * weight_at l level)) (lines (without_row id p)) = each-both _ _ (lines (without_row id p)) (recursion_from_All _ (lines (without_row id p)) problem) (recursion_from_All _ (lines (without_row id p)) is.whole) in
    record {
      own_positive = mul-pos h.own_positive above;
      cancel = λ v.
          sym (left_sum (λ l. by l.name *ℤ coefficient v l.form) id p.rows (stay_lines 1001 p.stays)
          (λ r e. ap (λ (z : ℤ). z *ℤ coefficient v r.terms) (ap (λ (n : ℕ). by (Held n)) e ∙ none) ∙ zero-mul_ℤ (coefficient v r.terms)))
          ∙ h.cancel v;
      under = All-from_recursion (λ l. IsIn (place_of l.name Under) (without_marks (id ∷ []) at) → by l.name ≡ pos (own * f * under_share unit level l)) (lines (without_row id p))
          (each-impl (λ l. (((0 < l.scale) × (0 < l.den)) × (l.scale ∣ unit * weight_at l level)) × (IsIn (place_of l.name Under) at → by l.name ≡ pos (own * under_share (f * unit) level l))) _ (lines (without_row id p))
          (λ l k i. k.1 (in_before id (place_of l.name Under) at i) ∙ ap pos (moved-factor own f (under_share unit level l) (under_share (f * unit) level l) (grown-under f unit level l k.0.0.0 k.0.1)))
          (each-both _ _ (lines (without_row id p)) known (each_lighter (λ l. IsIn (place_of l.name Under) at → by l.name ≡ pos (own * under_share (f * unit) level l)) id p (recursion_from_All _ (lines (with_lighter id p)) h.under))));
      over = All-from_recursion (λ l. IsIn (place_of l.name Over) (without_marks (id ∷ []) at) → by l.name ≡ neg_ℤ (pos (own * f * over_share unit level l))) (lines (without_row id p))
          (each-impl (λ l. (((0 < l.scale) × (0 < l.den)) × (l.scale ∣ unit * weight_at l level)) × (IsIn (place_of l.name Over) at → by l.name ≡ neg_ℤ (pos (own * over_share (f * unit) level l)))) _ (lines (without_row id p))
          (λ l k i. k.1 (in_before id (place_of l.name Over) at i) ∙ ap (λ (n : ℕ). neg_ℤ (pos n)) (moved-factor own f (over_share unit level l) (over_share (f * unit) level l) (grown-over f unit level l k.0.0.0 k.0.1)))
          (each-both _ _ (lines (without_row id p)) known (each_lighter (λ l. IsIn (place_of l.name Over) at → by l.name ≡ neg_ℤ (pos (own * over_share (f * unit) level l))) id p (recursion_from_All _ (lines (with_lighter id p)) h.over))));
    }

-- ---- the cost

gone-above : (id : ℕ) (rows : List Row) → Each (λ (r : Row). 0 < r.scale) rows → 0 < gone id rows
gone-above id [] h = omega arith
gone-above id (r ∷ rows) h = either (nat_eq r.id id) (mul-pos h.0 (gone-above id rows h.1)) (gone-above id rows h.1)
  where
    either : (b : Bool) → 0 < r.scale * gone id rows → 0 < gone id rows → 0 < cond b (r.scale * gone id rows) (gone id rows)
    either true h k = h
    either false h k = k

pub left_stands : (p : Problem) (at : List Mark) (id : ℕ) (x : Point) → StandsAt (with_lighter id p) at x → StandsAt (without_row id p) (without_marks (id ∷ []) at) x
left_stands p at id x h = (
  All-from_recursion (λ l. value_at x.num (equation l) ≡ pos 0) (lines (without_row id p)) (each_lighter (λ l. value_at x.num (equation l) ≡ pos 0) id p (recursion_from_All _ (lines (with_lighter id p)) h.0)),
  All-from_recursion (λ m. (IsIn (place m) (without_marks (id ∷ []) at) → ⊥) → x.num (place m) ≡ pos 0) (marks_of (lines (without_row id p)))
      (each_marks (λ c. (IsIn c (without_marks (id ∷ []) at) → ⊥) → x.num c ≡ pos 0) (lines (without_row id p))
      (each-impl _ (λ l. (IsIn (place_of l.name Under) (without_marks (id ∷ []) at) → ⊥) → x.num (place_of l.name Under) ≡ pos 0) (lines (without_row id p)) (λ l k out. k.1.0 (λ i. out (in_left id l.name Under at k.0 i))) known)
      (each-impl _ (λ l. (IsIn (place_of l.name Over) (without_marks (id ∷ []) at) → ⊥) → x.num (place_of l.name Over) ≡ pos 0) (lines (without_row id p)) (λ l k out. k.1.1 (λ i. out (in_left id l.name Over at k.0 i))) known)),
)
  where
    known : Each (λ l. (l.name ≢ Held id) × (((IsIn (place_of l.name Under) at → ⊥) → x.num (place_of l.name Under) ≡ pos 0) × ((IsIn (place_of l.name Over) at → ⊥) → x.num (place_of l.name Over) ≡ pos 0))) (lines (without_row id p))
    known =
        each-both _ _ (lines (without_row id p)) (left_far p id)
        (each_lighter (λ l. ((IsIn (place_of l.name Under) at → ⊥) → x.num (place_of l.name Under) ≡ pos 0) × ((IsIn (place_of l.name Over) at → ⊥) → x.num (place_of l.name Over) ≡ pos 0)) id p
        (both_marks (λ c. (IsIn c at → ⊥) → x.num c ≡ pos 0) (lines (with_lighter id p)) (recursion_from_All _ (marks_of (lines (with_lighter id p))) h.1)))

-- with the scales of the rows that are gone
left-cost : (p : Problem) (id level : ℕ) (x : ℕ → ℤ) → IsProblem (without_row id p) → cost_at (with_lighter id p) level x ≡ pos (gone id p.rows) *ℤ cost_at (without_row id p) level x
left-cost p id level x problem =
    let q : Problem = with_lighter id p in
    let w : Problem = without_row id p in
    left_sum (λ l. pos (scales (with_lighter id p) / l.scale) *ℤ line_cost level x l) id p.rows (stay_lines 1001 p.stays)
    (λ r e. free-cost (scales (with_lighter id p) / r.scale) level x (line_of_row (without_weight r)) (weightless-none level (line_of_row r)))
    ∙ sum-each (λ l. pos (scales (with_lighter id p) / l.scale) *ℤ line_cost level x l) (λ l. pos (gone id p.rows) *ℤ (pos (scales (without_row id p) / l.scale) *ℤ line_cost level x l)) (lines (without_row id p))
    (each-impl (λ l. ((0 < l.scale) × (0 < l.den)) × (scales (without_row id p) / l.scale * l.scale ≡ scales (without_row id p))) _ (lines (without_row id p))
    (λ l h. ap (λ (n : ℕ). pos n *ℤ line_cost level x l) (quotient (scales (without_row id p)) (scales (with_lighter id p)) (gone id p.rows) l.scale h.0.0 h.1 (left_product id p.rows (stay_lines 1001 p.stays)))
    ∙ mul_assoc_ℤ (pos (gone id p.rows)) (pos (scales (without_row id p) / l.scale)) (line_cost level x l))
    (each-both _ _ (lines (without_row id p)) (recursion_from_All _ (lines (without_row id p)) problem) (shares (without_row id p) problem)))
    ∙ mul-sum (pos (gone id p.rows)) (λ l. pos (scales (without_row id p) / l.scale) *ℤ line_cost level x l) (lines (without_row id p))

less-factor : (k s d : ℕ) (c n o : ℤ) → 0 < k → (pos k *ℤ c) *ℤ pos d ≡ n *ℤ (pos (k * s) *ℤ o) → c *ℤ pos d ≡ n *ℤ (pos s *ℤ o)
less-factor k s d c n o up h =
    cancel-right (c *ℤ pos d) (n *ℤ (pos s *ℤ o)) (pos k) (above-product k up)
    (*ℤ_comm (c *ℤ pos d) (pos k) ∙ sym (mul_assoc_ℤ (pos k) c (pos d)) ∙ h
    ∙ ap (λ (z : ℤ). n *ℤ z) (mul_assoc_ℤ (pos k) (pos s) o) ∙ mul_left_comm_ℤ n (pos k) (pos s *ℤ o) ∙ *ℤ_comm (pos k) (n *ℤ (pos s *ℤ o)))

pub cost_left : (p : Problem) (at : List Mark) (id level : ℕ) (cost : Fraction) → IsProblem p → IsCostAt (with_lighter id p) at level cost → IsCostAt (without_row id p) (without_marks (id ∷ []) at) level cost
cost_left p at id level cost problem (x, there, e) =
    let few : IsProblem (without_row id p) = all_left (λ l. (0 < l.scale) × (0 < l.den)) id p problem in
    let up : 0 < gone id p.rows = gone-above id p.rows (each-impl (λ (r : Row). (0 < r.scale) × (0 < r.constant.den)) (λ (r : Row). 0 < r.scale) p.rows (λ r h. h.0) (first-rows (λ l. (0 < l.scale) × (0 < l.den)) p.rows (stay_lines 1001 p.stays) (recursion_from_All _ (lines p) problem))) in (
      x,
      left_stands p at id x there,
      less-factor (gone id p.rows) (scales (without_row id p)) cost.den (cost_at (without_row id p) level x.num) cost.num (x.num one_column) up
          (ap (λ (z : ℤ). z *ℤ pos cost.den) (sym (left-cost p id level x.num few)) ∙ e ∙ ap (λ (n : ℕ). cost.num *ℤ (pos n *ℤ x.num one_column)) (left_product id p.rows (stay_lines 1001 p.stays))),
    )

-- ---- one cost has one value

cross-cost : (c s a b : ℤ) (x y : ℕ) → pos 0 <ℤ s → c *ℤ pos x ≡ a *ℤ s → c *ℤ pos y ≡ b *ℤ s → a *ℤ pos y ≡ b *ℤ pos x
cross-cost c s a b x y up e f =
    cancel-right (a *ℤ pos y) (b *ℤ pos x) s up
    (swapped a (pos y) s ∙ ap (λ (z : ℤ). z *ℤ pos y) (sym e) ∙ swapped c (pos x) (pos y) ∙ ap (λ (z : ℤ). z *ℤ pos x) f ∙ swapped b s (pos x))
  where
    swapped : (x y z : ℤ) → (x *ℤ y) *ℤ z ≡ (x *ℤ z) *ℤ y
    swapped x y z = mul_assoc_ℤ x y z ∙ ap (λ (t : ℤ). x *ℤ t) (*ℤ_comm y z) ∙ sym (mul_assoc_ℤ x z y)

pub cost_ratio : (p : Problem) (at : List Mark) (level : ℕ) (f g : Fraction) → IsProblem p → IsCorner p at → IsCostAt p at level f → IsCostAt p at level g → IsRatio f g.num (pos g.den)
cost_ratio p at level f g problem corner (x, there, e) other =
    cross-cost (cost_at p level x.num) (pos (scales p) *ℤ x.num one_column) f.num g.num f.den g.den (mul_positive (scales p) (x.num one_column) (scales-above p problem) x.positive) e
    (cost_everywhere p at level g x corner other there)

-- ---- a level without a row

pub no_cost : (p : Problem) (at : List Mark) (level : ℕ) → IsCorner p at → All (λ l. weight_at l level ≡ 0) (lines p) → IsCostAt p at level (record { num = pos 0; den = 1 })
no_cost p at level corner none =
    let x : Point = corner.point in (
      corner.point,
      corner.stands,
      ap (λ (z : ℤ). z *ℤ pos 1)
          (sum-each (λ l. pos (scales p / l.scale) *ℤ line_cost level corner.point.num l) (λ l. pos 0 *ℤ pos 0) (lines p)
          (each-impl (λ l. weight_at l level ≡ 0) _ (lines p) (λ l e. free-cost (scales p / l.scale) level corner.point.num l e) (recursion_from_All _ (lines p) none))
          ∙ mul-sum (pos 0) (λ (l : Line). pos 0) (lines p) ∙ zero-mul_ℤ (sum_of (λ (l : Line). pos 0) (lines p)))
          ∙ sym (zero-mul_ℤ (pos (scales p) *ℤ corner.point.num one_column)),
    )
