-- The costs of levels, as the lists have them.
use Rattle.std.proofs.Common.{◌≡◌, ◌∙◌, ℕ, ◌+◌, refl, sym, ap, subst, arith, ℤ, pos, ◌*ℤ◌, Some, None}
use Rattle.std.specs.declared.option.Option.{Option}
use borrow.Author.Differences.{ints}
use Rattle.frac_core.specs.Fraction.{Fraction}
use Rattle.problem_core.specs.declared.parts.Level.{Level}
use Rattle.problem_core.specs.declared.parts.Level.TheVariants.{Priority, Stay as StayLevel}
use Rattle.problem_core.specs.declared.parts.Side.{Side}
use Rattle.problem_core.specs.declared.parts.Side.TheVariants.{Under, Over}
use Rattle.problem_core.specs.declared.parts.RowName.{RowName}
use Rattle.problem_core.specs.declared.parts.RowName.TheVariants.{Stay as StayOf}
use Rattle.problem_core.specs.Layout.{lines}
use Rattle.problem_core.specs.Corners.{IsIn, one_column, place_of}
use Rattle.problem_core.specs.Levels.{IsCostAt, IsLevelAt, cost_at, scales}
use Rattle.corner_lines.specs.LineEquations.{deviation, sign_of}
use Rattle.corner_lines.specs.Levels.LevelCosts.{HasDeviation}
use Rattle.corner_lines.specs.Levels.StayLevels.{turned}
use Rattle.corner_lines.proofs.Lines.LineWritings.{line_value}
use Rattle.corner_lines.proofs.Costs.StayFits.{inside_stay_costs, no-cost}
use Rattle.corner_lines.proofs.LevelRows.StayRows.{stay_stands_alone}
use Rattle.corner_table.specs.Tables.{Lists, attr_slot, level_slot, line_slot, marks_at, number, problem_of, standing_at}
use Rattle.corner_table.specs.Kept.{IsKept, IsLineRow}
use Rattle.corner_view.specs.Seen.{IsNamed}
use Rattle.corner_table.specs.Reads.LevelNumbers.{IsSlotOfLevel}
use Rattle.corner_table.proofs.Readings.SlotFacts.{any_impl, any_is}
use Rattle.corner_writings.proofs.LevelFacts.LevelNumberFacts.{named_line}
use Rattle.corner_writings.proofs.LevelFacts.LevelRowFacts.{in_line, inside_stay, out_line}

pub line_row : (t : Lists) (name : RowName) → IsKept t → IsNamed (problem_of t) name → IsLineRow t name (standing_at t (line_slot t name)).side
line_row t name kept named = any_is (λ l. IsLineRow t l.name (standing_at t (line_slot t l.name)).side) (λ l. l.name ≡ name) (lines (problem_of t)) kept.lines named (λ l row e. subst (λ (n : RowName). IsLineRow t n (standing_at t (line_slot t n)).side) e row)

turned-twice : (side : Side) (z : ℤ) → turned side (sign_of side *ℤ z) ≡ z
turned-twice Under z = omega (arith, ints)
turned-twice Over z = omega (arith, ints)

stay-cost : (t : Lists) (attr k : ℕ) (o : Option Side) → IsKept t → IsLevelAt (problem_of t) (StayLevel attr) k → (standing_at t (attr_slot t attr + 1)).side ≡ o → IsLineRow t (StayOf attr) o → IsCostAt (problem_of t) (marks_at t) k (standing_at t (attr_slot t attr + 1)).value
stay-cost t attr k None kept is side row =
    subst (IsCostAt (problem_of t) (marks_at t) k) (sym row.1) (no-cost (problem_of t) (marks_at t) k attr kept.whole kept.corner (stay_stands_alone (problem_of t) attr k kept.whole is) (out_line t (StayOf attr) side))
stay-cost t attr k (Some s) kept is side e =
    let w : ℕ = attr_slot t attr + 1 in
    let value : Fraction = (standing_at t w).value in
    let named : IsNamed (problem_of t) (StayOf attr) = any_impl (λ l. (l.name ≡ StayOf attr) × (l.level ≡ k)) (λ l. l.name ≡ StayOf attr) (lines (problem_of t)) (λ l h. h.0) is in
    let inside : IsIn (place_of (StayOf attr) s) (marks_at t) =
    named_line t (StayOf attr) kept named (λ l known q. subst (λ (n : RowName). IsIn (place_of n s) (marks_at t)) q (in_line t l s known (ap (λ (n : RowName). (standing_at t (line_slot t n)).side) q ∙ side))) in
    let moves : HasDeviation (problem_of t) (marks_at t) (StayOf attr) (record { num = sign_of s *ℤ value.num; den = value.den }) =
    line_value (problem_of t) (marks_at t) (deviation (StayOf attr)) e.0 (number t w) (sign_of s *ℤ value.num) value.den kept.whole kept.corner e.2 in
    let cost = inside_stay_costs (problem_of t) (marks_at t) k attr s e.0 _ (record { num = sign_of s *ℤ value.num; den = value.den }) (inside_stay t attr k s kept is inside e) moves in
    (cost.0, cost.1, subst (λ (z : ℤ). cost_at (problem_of t) k cost.0.num *ℤ pos value.den ≡ z *ℤ (pos (scales (problem_of t)) *ℤ cost.0.num one_column)) (turned-twice s value.num) cost.2)

cost-by : (t : Lists) (w k : ℕ) (level : Level) → IsKept t → IsLevelAt (problem_of t) level k → level_slot t level ≡ w → IsCostAt (problem_of t) (marks_at t) k (standing_at t w).value
cost-by t w k (Priority rank) kept is e =
    let same : w ≡ k = omega (arith, is, e) in
    subst (λ (n : ℕ). IsCostAt (problem_of t) (marks_at t) n (standing_at t w).value) same (kept.levels w (omega (arith, is, e))).cost
cost-by t w k (StayLevel attr) kept is e =
    let named : IsNamed (problem_of t) (StayOf attr) = any_impl (λ l. (l.name ≡ StayOf attr) × (l.level ≡ k)) (λ l. l.name ≡ StayOf attr) (lines (problem_of t)) (λ l h. h.0) is in
    subst (λ (n : ℕ). IsCostAt (problem_of t) (marks_at t) k (standing_at t n).value) e (stay-cost t attr k (standing_at t (attr_slot t attr + 1)).side kept is refl (line_row t (StayOf attr) kept named))

pub level_cost : (t : Lists) (w k : ℕ) → IsKept t → IsSlotOfLevel t w k → IsCostAt (problem_of t) (marks_at t) k (standing_at t w).value
level_cost t w k kept is = cost-by t w k is.0 kept is.1 is.2
