-- The cost of a level that a line has joined.
use Rattle.std.proofs.Common.{◌≡◌, ◌∙◌, ℕ, ◌*◌, ◌/◌, ◌<◌, List, inl, inr, get_or, ℤ, pos, ◌+ℤ◌, ◌*ℤ◌, neg_ℤ, unsigned_abs, sym, ap, ap₂, subst, arith, Some, None}
use Rattle.std.specs.declared.option.Option.{Option}
use Rattle.std.specs.Int.{◌∣◌}
use Rattle.std.proofs.Math.IntN.{*ℤ_comm}
use Rattle.std.proofs.Math.Nat.{mul-div_cancel'}
use Rattle.std.proofs.lemmas.Nat.Gcd.{dvd-zero}
use Rattle.frac_core.specs.Fraction.{Fraction, IsLowest, IsRatio, sum_den, sum_num}
use Rattle.frac_core.proofs.Integers.{cancel_mul, mul-zero_ℤ, mul-add_left, mul_assoc_ℤ, mul_left_comm_ℤ}
use Rattle.problem_core.specs.declared.parts.Mark.{Mark}
use Rattle.problem_core.specs.declared.parts.Side.{Side}
use Rattle.problem_core.specs.declared.parts.Side.TheVariants.{Under, Over}
use Rattle.problem_core.specs.declared.parts.Rel.{Rel}
use Rattle.problem_core.specs.declared.parts.Rel.TheVariants.{Eq, Le, Ge}
use Rattle.problem_core.specs.declared.parts.RowName.{RowName}
use Rattle.problem_core.specs.Layout.{Line, Problem, lines, sum_of}
use Rattle.problem_core.specs.Corners.{one_column, place_of}
use Rattle.problem_core.specs.Certificates.{over_weight, under_weight, weight_at}
use Rattle.problem_core.specs.Levels.{HasNoLevelWriting, IsCostAt, cost_at, line_cost, scales}
use Rattle.corner_lines.specs.Levels.LevelJoins.{AreLinesBefore, IsLineBefore, weightless}
use Rattle.corner_lines.specs.Levels.LevelRows.{line_numbers}
use Rattle.corner_lines.proofs.LevelRows.LevelJoins.{sum-before}
use Rattle.corner_lines.proofs.Costs.LevelJoinCosts.{joined_cost_is_cost, unfit_joined_cost, product-before as scales-before}
use Rattle.path_lines.specs.declared.table.Inside.{Inside}
use Rattle.path_lines.specs.Tables.{numbers_of}
use Rattle.path_levels.specs.declared.outline.LineFacts.{LineFacts}
use Rattle.path_levels.specs.declared.sums.LevelSum.{LevelSum}
use Rattle.path_levels.specs.Joins.{IsJoinedCost, IsUnfitJoinedCost, cost_number, counted_number}
use Rattle.path_levels.proofs.Joining.LineJoins.{IsCostOf, IsLineJoin}
use Rattle.path_levels.proofs.Joining.JoinRows.{IsStart, counted_there, inside_join}
use Rattle.frac_core.proofs.Numbers.{mul-neg as mul-opp}
use Rattle.problem_core.proofs.Lines.{own-weight as own_weight}

-- ---- the same ratio by another fraction

left-same : (x : ℤ) (a b c d : ℕ) → pos b *ℤ (x *ℤ pos (c * (a * d))) ≡ pos a *ℤ (x *ℤ pos (c * (b * d)))
left-same x a b c d =
    mul_left_comm_ℤ (pos b) x (pos (c * (a * d))) ∙ ap (λ (n : ℕ). x *ℤ pos n) (regroup a b c d) ∙ sym (mul_left_comm_ℤ (pos a) x (pos (c * (b * d))))
  where
    regroup : (a b c d : ℕ) → b * (c * (a * d)) ≡ a * (c * (b * d))
    regroup a b c d = omega arith

right-same : (y m n z w : ℤ) (a b d : ℕ) → m *ℤ pos b ≡ n *ℤ pos a → pos a *ℤ ((y *ℤ pos (b * d) +ℤ n *ℤ z) *ℤ w) ≡ pos b *ℤ ((y *ℤ pos (a * d) +ℤ m *ℤ z) *ℤ w)
right-same y m n z w a b d e =
    sym (mul_assoc_ℤ (pos a) (y *ℤ pos (b * d) +ℤ n *ℤ z) w)
    ∙ ap (λ (t : ℤ). t *ℤ w)
    (mul-add_left (pos a) (y *ℤ pos (b * d)) (n *ℤ z)
    ∙ ap₂ ◌+ℤ◌
    (mul_left_comm_ℤ (pos a) y (pos (b * d)) ∙ ap (λ (k : ℕ). y *ℤ pos k) (regroup a b d) ∙ sym (mul_left_comm_ℤ (pos b) y (pos (a * d))))
    (sym (mul_assoc_ℤ (pos a) n z) ∙ ap (λ (t : ℤ). t *ℤ z) (*ℤ_comm (pos a) n ∙ sym e ∙ *ℤ_comm m (pos b)) ∙ mul_assoc_ℤ (pos b) m z)
    ∙ sym (mul-add_left (pos b) (y *ℤ pos (a * d)) (m *ℤ z)))
    ∙ mul_assoc_ℤ (pos b) (y *ℤ pos (a * d) +ℤ m *ℤ z) w
  where
    regroup : (a b d : ℕ) → a * (b * d) ≡ b * (a * d)
    regroup a b d = omega arith

-- m/a and n/b are the same
pub ratio_same : (f cost value : Fraction) (m n : ℤ) (a b : ℕ) → 0 < b → m *ℤ pos b ≡ n *ℤ pos a → IsRatio f (sum_num cost n (pos b) value) (sum_den cost (pos b) value) → IsRatio f (sum_num cost m (pos a) value) (sum_den cost (pos a) value)
ratio_same f cost value m n a b above e h =
    cancel_mul b (f.num *ℤ sum_den cost (pos a) value) (sum_num cost m (pos a) value *ℤ pos f.den) above
    (left-same f.num a b cost.den value.den ∙ ap (λ (z : ℤ). pos a *ℤ z) h ∙ right-same cost.num m n (value.num *ℤ pos cost.den) (pos f.den) a b value.den e)

-- ---- what the line costs

whole-again : (q s : ℕ) → s ∣ q → q / s * s ≡ q
whole-again q s d = let e : s * (q / s) ≡ q = mul-div_cancel' s d in flipped (q / s) s ∙ e
  where
    flipped : (a b : ℕ) → a * b ≡ b * a
    flipped a b = omega arith

under-whole : (rel : Rel) (unit w s : ℕ) → s ∣ unit * w → s ∣ unit * under_weight rel w
under-whole Ge unit w s d = d
under-whole Eq unit w s d = d
under-whole Le unit w s d = subst (λ (n : ℕ). s ∣ n) (let e : 0 ≡ unit * 0 = omega arith in e) (dvd-zero s)

over-whole : (rel : Rel) (unit w s : ℕ) → s ∣ unit * w → s ∣ unit * over_weight rel w
over-whole Ge unit w s d = subst (λ (n : ℕ). s ∣ n) (let e : 0 ≡ unit * 0 = omega arith in e) (dvd-zero s)
over-whole Eq unit w s d = d
over-whole Le unit w s d = d

one-share : (unit c s : ℕ) → s ∣ unit * c → pos (1 * (unit * c / s)) *ℤ pos s ≡ pos c *ℤ pos unit
one-share unit c s d = ap pos (single (unit * c / s) s ∙ whole-again (unit * c) s d ∙ flipped unit c)
  where
    single : (q s : ℕ) → 1 * q * s ≡ q * s
    single q s = omega arith

    flipped : (a b : ℕ) → a * b ≡ b * a
    flipped a b = omega arith

opposite-share : (x y z w : ℤ) → x *ℤ y ≡ z *ℤ w → neg_ℤ x *ℤ y ≡ neg_ℤ z *ℤ w
opposite-share x y z w e = *ℤ_comm (neg_ℤ x) y ∙ mul-opp y x ∙ ap neg_ℤ (*ℤ_comm y x ∙ e ∙ *ℤ_comm z w) ∙ sym (mul-opp w z) ∙ *ℤ_comm w (neg_ℤ z)

pub cost_share : (side : Side) (l : Line) (f : LineFacts) (level unit : ℕ) → l.level ≡ level → IsCostOf l f → l.scale ∣ unit * weight_at l level → counted_number side f unit 1 *ℤ pos l.scale ≡ cost_number side f *ℤ pos unit
cost_share Under l f level unit here is d =
    let whole = under-whole l.rel unit l.weight l.scale (subst (λ (w : ℕ). l.scale ∣ unit * w) (own_weight l level here) d) in
    ap (λ (n : ℤ). neg_ℤ n *ℤ pos l.scale) (ap₂ (λ (u s : ℕ). pos (1 * (unit * u / s))) (ap unsigned_abs is.under) (ap unsigned_abs is.scale))
    ∙ opposite-share (pos (1 * (unit * under_weight l.rel l.weight / l.scale))) (pos l.scale) (pos (under_weight l.rel l.weight)) (pos unit) (one-share unit (under_weight l.rel l.weight) l.scale whole)
    ∙ ap (λ (z : ℤ). neg_ℤ z *ℤ pos unit) (sym is.under)
cost_share Over l f level unit here is d =
    let whole = over-whole l.rel unit l.weight l.scale (subst (λ (w : ℕ). l.scale ∣ unit * w) (own_weight l level here) d) in
    ap (λ (n : ℤ). n *ℤ pos l.scale) (ap₂ (λ (u s : ℕ). pos (1 * (unit * u / s))) (ap unsigned_abs is.over) (ap unsigned_abs is.scale))
    ∙ one-share unit (over_weight l.rel l.weight) l.scale whole
    ∙ ap (λ (z : ℤ). z *ℤ pos unit) (sym is.over)

-- ---- the cost

record IsShared (p q : Problem) (at : List Mark) (level : ℕ) (name : RowName) (old : LevelSum) (f : LineFacts) (side : Side) (unit : ℕ) : Type 0 where
  scale : ℕ
  above : 0 < scale
  scale_is : f.scale ≡ pos scale
  same : counted_number side f unit 1 *ℤ pos scale ≡ cost_number side f *ℤ pos unit

shared-of : (p q : Problem) (at : List Mark) (level : ℕ) (name : RowName) (old : LevelSum) (f : LineFacts) (inside : Inside) (times : ℕ) → (j : IsLineJoin p q at level name old f (Some inside)) → (s : IsStart p q at level name old f times)
    → IsShared p q at level name old f inside.side (times * s.unit)
shared-of p q at level name old f inside times j s =
    let l : Line = get_or (lines q) j.named.0 j.named.1 in
    let facts = j.facts_are j.named.0 j.named.1 j.named.2 (ap (λ (m : Line). m.name) j.named.3 ∙ j.named.4) in
    record {
      scale = (get_or (lines q) j.named.0 j.named.1).scale;
      above = (j.sound.problem j.named.0 j.named.1 j.named.2).0;
      scale_is = facts.1.scale;
      same = cost_share inside.side (get_or (lines q) j.named.0 j.named.1) f level (times * s.unit) facts.0 facts.1 (s.next_unit.whole j.named.0 j.named.1 j.named.2);
    }

pub joined_cost : (p q : Problem) (at : List Mark) (level : ℕ) (name : RowName) (old : LevelSum) (f : LineFacts) (inside : Inside) (times : ℕ) (next : Fraction) → (j : IsLineJoin p q at level name old f (Some inside)) → (s : IsStart p q at level name old f times)
    → IsJoinedCost old.cost f (Some inside) next → IsCostAt q at level next
joined_cost p q at level name old f inside times next j s cost =
    let shared = shared-of p q at level name old f inside times j s in
    joined_cost_is_cost p q at level (times * s.unit) (s.own / s.g) (λ n. pos (times / s.g) *ℤ numbers_of (lines p) old.by.items n) name inside.side (unsigned_abs inside.sum.own)
    (line_numbers name (unsigned_abs inside.sum.own) (numbers_of (lines q) inside.sum.by.items)) (counted_number inside.side f (times * s.unit) 1) old.cost inside.sum.value next j.sound j.corner_before (inside_join p q at level name old f inside times j s) j.named s.next_unit
    (λ i e within same. let k = j.facts_are i e within same in counted_there inside.side (get_or (lines q) i e) f level (times * s.unit) 1 k.0 k.1)
    j.old_is.there.cost_is j.line_is.deviation_is
    (record {
      cost_den = j.old_is.there.lowest.above;
      value_den = j.line_is.value_den;
      ratio = ratio_same next old.cost inside.sum.value (counted_number inside.side f (times * s.unit) 1) (cost_number inside.side f) (times * s.unit) shared.scale shared.above shared.same
          (subst (λ (z : ℤ). IsRatio next (sum_num old.cost (cost_number inside.side f) z inside.sum.value) (sum_den old.cost z inside.sum.value)) shared.scale_is cost.2);
    })

pub unfit_cost : (p q : Problem) (at : List Mark) (level : ℕ) (name : RowName) (old : LevelSum) (f : LineFacts) (kept : Option Inside) (times : ℕ) → (j : IsLineJoin p q at level name old f kept) → (s : IsStart p q at level name old f times)
    → IsUnfitJoinedCost old.cost f kept → HasNoLevelWriting q at level
unfit_cost p q at level name old f None times j s unfit = absurd unfit
unfit_cost p q at level name old f (Some inside) times j s unfit =
    let shared = shared-of p q at level name old f inside times j s in
    unfit_joined_cost p q at level (times * s.unit) (s.own / s.g) (λ n. pos (times / s.g) *ℤ numbers_of (lines p) old.by.items n) name inside.side (unsigned_abs inside.sum.own)
    (line_numbers name (unsigned_abs inside.sum.own) (numbers_of (lines q) inside.sum.by.items)) (counted_number inside.side f (times * s.unit) 1) old.cost inside.sum.value j.sound j.corner_before j.corner (inside_join p q at level name old f inside times j s) j.named s.next_unit
    (λ i e within same. let k = j.facts_are i e within same in counted_there inside.side (get_or (lines q) i e) f level (times * s.unit) 1 k.0 k.1)
    j.old_is.there.cost_is j.line_is.deviation_is
    (λ next low ratio fits.
    unfit next low
    (subst (λ (z : ℤ). IsRatio next (sum_num old.cost (cost_number inside.side f) z inside.sum.value) (sum_den old.cost z inside.sum.value)) (sym shared.scale_is)
    (ratio_same next old.cost inside.sum.value (cost_number inside.side f) (counted_number inside.side f (times * s.unit) 1) shared.scale (times * s.unit) s.next_unit.above (sym shared.same) ratio))
    fits)

-- ---- an outside line costs nothing

zero-cost : (level : ℕ) (x : ℕ → ℤ) (l : Line) → x (place_of l.name Under) ≡ pos 0 → x (place_of l.name Over) ≡ pos 0 → line_cost level x l ≡ pos 0
zero-cost level x l u o = ap₂ (λ (a b : ℤ). pos (under_weight l.rel (weight_at l level)) *ℤ a +ℤ pos (over_weight l.rel (weight_at l level)) *ℤ b) u o ∙ ap₂ ◌+ℤ◌ (mul-zero_ℤ (pos (under_weight l.rel (weight_at l level)))) (mul-zero_ℤ (pos (over_weight l.rel (weight_at l level))))

cost-before : (name : RowName) (level n : ℕ) (x : ℕ → ℤ) (ls ms : List Line) → AreLinesBefore name ls ms → x (place_of name Under) ≡ pos 0 → x (place_of name Over) ≡ pos 0
    → sum_of (λ l. pos (n / l.scale) *ℤ line_cost level x l) ls ≡ sum_of (λ l. pos (n / l.scale) *ℤ line_cost level x l) ms
cost-before name level n x ls ms are u o = sum-before name (λ l. pos (n / l.scale) *ℤ line_cost level x l) (λ l. pos (n / l.scale) *ℤ line_cost level x l) ls ms same are
  where
    same : (l m : Line) → IsLineBefore name l m → pos (n / l.scale) *ℤ line_cost level x l ≡ pos (n / m.scale) *ℤ line_cost level x m
    same l m (inl e) = ap (λ (k : Line). pos (n / k.scale) *ℤ line_cost level x k) e.0
    same l m (inr e) =
        let mu : x (place_of m.name Under) ≡ pos 0 = ap (λ (t : RowName). x (place_of t Under)) e.1 ∙ u in
        let mo : x (place_of m.name Over) ≡ pos 0 = ap (λ (t : RowName). x (place_of t Over)) e.1 ∙ o in
        ap (λ (k : Line). pos (n / k.scale) *ℤ line_cost level x k) e.0
        ∙ ap (λ (z : ℤ). pos (n / m.scale) *ℤ z) (zero-cost level x (weightless m) mu mo ∙ sym (zero-cost level x m mu mo))

pub outside_cost : (p q : Problem) (at : List Mark) (level : ℕ) (name : RowName) (old : LevelSum) (f : LineFacts) → IsLineJoin p q at level name old f None → IsCostAt q at level old.cost
outside_cost p q at level name old f j =
    let c = j.old_is.there.cost_is in
    let z = j.zero_outside c.0 c.1 j.line_is in
    let n : scales p ≡ scales q = scales-before name (lines p) (lines q) j.before in
    let cost : cost_at p level c.0.num ≡ cost_at q level c.0.num =
    cost-before name level (scales p) c.0.num (lines p) (lines q) j.before z.0 z.1 ∙ ap (λ (k : ℕ). sum_of (λ l. pos (k / l.scale) *ℤ line_cost level c.0.num l) (lines q)) n in (
      c.0,
      j.same_stands c.0 c.1,
      ap (λ (t : ℤ). t *ℤ pos old.cost.den) (sym cost) ∙ c.2 ∙ ap (λ (k : ℕ). old.cost.num *ℤ (pos k *ℤ c.0.num one_column)) n,
    )

pub cost_there : (p q : Problem) (at : List Mark) (level : ℕ) (name : RowName) (old : LevelSum) (f : LineFacts) (kept : Option Inside) (times : ℕ) (next : Fraction) → (j : IsLineJoin p q at level name old f kept) → (s : IsStart p q at level name old f times)
    → IsJoinedCost old.cost f kept next → IsCostAt q at level next × IsLowest next
cost_there p q at level name old f None times next j s cost = (subst (λ (c : Fraction). IsCostAt q at level c) (sym cost) (outside_cost p q at level name old f j), subst IsLowest (sym cost) j.old_is.there.lowest)
cost_there p q at level name old f (Some inside) times next j s cost = (joined_cost p q at level name old f inside times next j s cost, cost.0)
