-- What a level costs where its next row joins it.
use Rattle.std.proofs.Common.{◌≡◌, ◌∙◌, ℕ, ◌+◌, ◌*◌, ◌/◌, ◌<◌, refl, sym, ap, ap₂, subst, arith, ℤ, pos, neg_ℤ, ◌+ℤ◌, ◌*ℤ◌, Any}
use Rattle.frac_core.specs.Fraction.{Fraction, IsKept, IsRatio, IsUnfitRatio, sum_den, sum_num}
use Rattle.frac_core.proofs.Gauss.{scaled}
use Rattle.problem_core.specs.declared.parts.Side.{Side}
use Rattle.problem_core.specs.declared.parts.RowName.TheVariants.{Held}
use Rattle.problem_core.specs.Layout.{Line, line_of_row, lines}
use Rattle.problem_core.specs.Levels.{HasNoLevelWriting, IsCostAt}
use Rattle.corner_lines.specs.LineEquations.{sign_of}
use Rattle.corner_lines.specs.Levels.LevelJoins.{IsJoiningNumber}
use Rattle.corner_lines.specs.Levels.LevelRows.{inside_number, line_numbers}
use Rattle.corner_lines.specs.Levels.StayLevels.{turned}
use Rattle.corner_lines.proofs.Costs.LevelJoinCosts.{joined_cost_is_cost, unfit_joined_cost}
use Rattle.corner_joins.specs.declared.joining.Rise.{Rise}
use Rattle.corner_table.specs.declared.table.TheConstants.{LEVELS}
use Rattle.corner_table.specs.Tables.{Lists, marks_at, number, priority_at, standing_at}
use Rattle.corner_joins.specs.Additions.Parts.{IsPartlyKept, joined_at}
use Rattle.corner_joins.specs.Additions.CostJoins.{IsCountOf, home_at, with_next}
use Rattle.corner_table.proofs.Readings.SlotFacts.{any_impl}
use Rattle.corner_exchange.proofs.Pivots.PairFacts.{sign-times, times-sign, turned-right, turned-twice}
use Rattle.corner_joins.proofs.Costs.CostLines.{next_deviation, next_each, next_equation, next_line, next_sound}
use Rattle.corner_joins.proofs.Costs.CostJoins.{join_start, joined_unit, part_of, size_of}
use Rattle.corner_joins.proofs.Costs.CostSteps.{count_is}
use Rattle.corner_joins.proofs.Costs.CostFound.{IsFound, found_below}
use Rattle.corner_lines.proofs.Costs.StayFits.{turned-mul as turned-left}

-- the deviation with the count's sign is the mark with the count
same-product : (side : Side) (n m v z : ℤ) → n *ℤ sign_of side ≡ m → m *ℤ ((sign_of side *ℤ v) *ℤ z) ≡ n *ℤ (v *ℤ z)
same-product side n m v z e =
    ap₂ (λ (x y : ℤ). x *ℤ (y *ℤ z)) (sym e ∙ times-sign side n) (sign-times side v)
    ∙ ap (λ (x : ℤ). turned side n *ℤ x) (turned-left side v z)
    ∙ turned-left side n (turned side (v *ℤ z)) ∙ ap (turned side) (turned-right side n (v *ℤ z)) ∙ turned-twice side (n *ℤ (v *ℤ z))

pub ratio-same : (side : Side) (cost value f : Fraction) (n m unit : ℤ) (u : ℕ) → n *ℤ sign_of side ≡ m → unit ≡ pos u → IsRatio f (sum_num cost n unit value) (sum_den cost unit value)
    → IsRatio f (sum_num cost m (pos u) (record { num = sign_of side *ℤ value.num; den = value.den })) (sum_den cost (pos u) (record { num = sign_of side *ℤ value.num; den = value.den }))
ratio-same side cost value f n m unit u e d h =
    subst (λ (x : ℤ). f.num *ℤ sum_den cost (pos u) value ≡ (cost.num *ℤ (pos u *ℤ pos value.den) +ℤ x) *ℤ pos f.den) (sym (same-product side n m value.num (pos cost.den) e))
    (subst (λ (x : ℤ). f.num *ℤ sum_den cost x value ≡ sum_num cost n x value *ℤ pos f.den) d h)

pub ratio-back : (side : Side) (cost value f : Fraction) (n m unit : ℤ) (u : ℕ) → n *ℤ sign_of side ≡ m → unit ≡ pos u
    → IsRatio f (sum_num cost m (pos u) (record { num = sign_of side *ℤ value.num; den = value.den })) (sum_den cost (pos u) (record { num = sign_of side *ℤ value.num; den = value.den })) → IsRatio f (sum_num cost n unit value) (sum_den cost unit value)
ratio-back side cost value f n m unit u e d h =
    subst (λ (x : ℤ). f.num *ℤ sum_den cost x value ≡ sum_num cost n x value *ℤ pos f.den) (sym d)
    (subst (λ (x : ℤ). f.num *ℤ sum_den cost (pos u) value ≡ (cost.num *ℤ (pos u *ℤ pos value.den) +ℤ x) *ℤ pos f.den) (same-product side n m value.num (pos cost.den) e) h)

level-kept : (t : Lists) (l : ℕ) → IsPartlyKept t → l < LEVELS → IsKept (standing_at t l).value
level-kept t l kept lt = kept.values l (record { side = _; value = _ }) (let s = kept.slots.standings in let n = kept.slots.levels in omega (arith, s, n, lt))

pub found_signed : (t : Lists) (line : ℕ) (rise : Rise) (count : ℤ) → (f : IsFound t line rise) → IsCountOf t line rise.unit count
    → count *ℤ sign_of f.side ≡ neg_ℤ (inside_number f.side (home_at t line) (f.times * (part_of t f.row line f.side (home_at t line) f.times f.join).unit) 1 (line_of_row f.row))
found_signed t line rise count f counts = ap (λ (z : ℤ). z *ℤ sign_of f.side) (counts f.side f.join.next.side_is) ∙ count_is t f.row line f.side (home_at t line) f.times rise.unit f.join f.unit_is

joins-number : (t : Lists) (line : ℕ) (rise : Rise) → (f : IsFound t line rise)
    → IsJoiningNumber (with_next t (home_at t line)) (Held f.row.id) f.side (home_at t line) (f.times * (part_of t f.row line f.side (home_at t line) f.times f.join).unit) 1
    (neg_ℤ (inside_number f.side (home_at t line) (f.times * (part_of t f.row line f.side (home_at t line) f.times f.join).unit) 1 (line_of_row f.row)))
joins-number t line rise f =
    let u : ℕ = f.times * (part_of t f.row line f.side (home_at t line) f.times f.join).unit in
    next_each (λ k. neg_ℤ (inside_number f.side (home_at t line) (f.times * (part_of t f.row line f.side (home_at t line) f.times f.join).unit) 1 (line_of_row f.row)) ≡ neg_ℤ (inside_number f.side (home_at t line) (f.times * (part_of t f.row line f.side (home_at t line) f.times f.join).unit) 1 k))
    t f.row (home_at t line) f.join.next.kept f.join.next.next f.join.level refl

named-there : (t : Lists) (line : ℕ) (rise : Rise) → (f : IsFound t line rise) → Any (λ k. k.name ≡ Held f.row.id) (lines (with_next t (home_at t line)))
named-there t line rise f = any_impl (λ k. k ≡ line_of_row f.row) (λ k. k.name ≡ Held f.row.id) (lines (with_next t (home_at t line))) (λ k e. ap (λ (m : Line). m.name) e) (next_line t f.row (home_at t line) f.join.next.next f.join.level)

pub found_cost : (t : Lists) (line : ℕ) (rise : Rise) (count : ℤ) (v : Fraction) → (f : IsFound t line rise) → IsCountOf t line rise.unit count
    → IsRatio v (sum_num (standing_at t (home_at t line)).value count rise.unit (standing_at t line).value) (sum_den (standing_at t (home_at t line)).value rise.unit (standing_at t line).value)
    → IsCostAt (with_next t (home_at t line)) (marks_at t) (home_at t line) v
found_cost t line rise count v f counts ratio =
    let l : ℕ = home_at t line in
    let part = part_of t f.row line f.side (home_at t line) f.times f.join in
    let sound = next_sound t (home_at t line) ((priority_at t (home_at t line)).rows + 1) f.join.next.kept in
    let d = scaled part.own f.times part.own (omega arith) in
    joined_cost_is_cost (joined_at t (home_at t line)) (with_next t (home_at t line)) (marks_at t) (home_at t line) (f.times * part.unit) (part.own / d.0) (λ name. pos (f.times / d.0) *ℤ number t (home_at t line) name) (Held f.row.id) f.side
    (size_of t f.row line f.side f.join.next) (line_numbers (Held f.row.id) (size_of t f.row line f.side f.join.next) (number t line))
    (neg_ℤ (inside_number f.side (home_at t line) (f.times * part.unit) 1 (line_of_row f.row))) (standing_at t (home_at t line)).value (record { num = sign_of f.side *ℤ (standing_at t line).value.num; den = (standing_at t line).value.den }) v
    sound.0 (next_sound t (home_at t line) (priority_at t (home_at t line)).rows f.join.next.kept).1 (join_start t f.row line f.side (home_at t line) f.times d.0 f.join d.1) (named-there t line rise f)
    (joined_unit t f.row line f.side (home_at t line) f.times f.join) (joins-number t line rise f) part.cost (next_deviation t f.row line f.side (home_at t line) ((priority_at t (home_at t line)).rows + 1) f.join.next)
    (record {
      cost_den = (level-kept t (home_at t line) f.join.next.kept (found_below t line rise f)).lowest.above;
      value_den = (next_equation t f.row line f.side f.join.next).2.den_positive;
      ratio = ratio-same f.side (standing_at t (home_at t line)).value (standing_at t line).value v count (neg_ℤ (inside_number f.side (home_at t line) (f.times * part.unit) 1 (line_of_row f.row))) rise.unit (f.times * part.unit) (found_signed t line rise count f counts) f.unit_is ratio;
    })

pub found_unfit : (t : Lists) (line : ℕ) (rise : Rise) (count : ℤ) → (f : IsFound t line rise) → IsCountOf t line rise.unit count
    → IsUnfitRatio (sum_num (standing_at t (home_at t line)).value count rise.unit (standing_at t line).value) (sum_den (standing_at t (home_at t line)).value rise.unit (standing_at t line).value)
    → HasNoLevelWriting (with_next t (home_at t line)) (marks_at t) (home_at t line)
found_unfit t line rise count f counts unfit =
    let l : ℕ = home_at t line in
    let part = part_of t f.row line f.side (home_at t line) f.times f.join in
    let sound = next_sound t (home_at t line) ((priority_at t (home_at t line)).rows + 1) f.join.next.kept in
    let d = scaled part.own f.times part.own (omega arith) in
    unfit_joined_cost (joined_at t (home_at t line)) (with_next t (home_at t line)) (marks_at t) (home_at t line) (f.times * part.unit) (part.own / d.0) (λ name. pos (f.times / d.0) *ℤ number t (home_at t line) name) (Held f.row.id) f.side
    (size_of t f.row line f.side f.join.next) (line_numbers (Held f.row.id) (size_of t f.row line f.side f.join.next) (number t line))
    (neg_ℤ (inside_number f.side (home_at t line) (f.times * part.unit) 1 (line_of_row f.row))) (standing_at t (home_at t line)).value (record { num = sign_of f.side *ℤ (standing_at t line).value.num; den = (standing_at t line).value.den })
    sound.0 (next_sound t (home_at t line) (priority_at t (home_at t line)).rows f.join.next.kept).1 sound.1 (join_start t f.row line f.side (home_at t line) f.times d.0 f.join d.1) (named-there t line rise f)
    (joined_unit t f.row line f.side (home_at t line) f.times f.join) (joins-number t line rise f) part.cost (next_deviation t f.row line f.side (home_at t line) ((priority_at t (home_at t line)).rows + 1) f.join.next)
    (λ next low ratio fits. unfit next low (ratio-back f.side (standing_at t (home_at t line)).value (standing_at t line).value next count (neg_ℤ (inside_number f.side (home_at t line) (f.times * part.unit) 1 (line_of_row f.row))) rise.unit (f.times * part.unit) (found_signed t line rise count f counts) f.unit_is ratio) fits)
