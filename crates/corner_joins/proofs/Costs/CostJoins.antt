-- The row of a level where its next row joins its cost.
use Rattle.std.proofs.Common.{◌≡◌, ◌∙◌, ℕ, ◌+◌, ◌-◌, ◌*◌, ◌/◌, ◌<◌, List, [], ◌∷◌, refl, sym, ap, subst, arith, ℤ, pos, neg_ℤ, ◌+ℤ◌, ◌*ℤ◌, unsigned_abs}
use Rattle.std.specs.List.{AllByRecursion as Each}
use Rattle.std.specs.Int.{IsGcd}
use Rattle.std.proofs.lemmas.List.Elements.{All-from_recursion, recursion_from_All}
use Rattle.frac_core.specs.Fraction.{IsFitting}
use Rattle.frac_core.proofs.Gauss.{Reduces, reduces, scaled}
use Rattle.frac_core.proofs.Integers.{mul_assoc_ℤ, mul_left_comm_ℤ, neg-neg}
use Rattle.problem_core.specs.declared.parts.Mark.{Mark}
use Rattle.problem_core.specs.declared.parts.Side.{Side}
use Rattle.problem_core.specs.declared.parts.Side.TheVariants.{Under, Over}
use Rattle.problem_core.specs.declared.parts.RowName.{RowName}
use Rattle.problem_core.specs.declared.parts.RowName.TheVariants.{Held}
use Rattle.problem_core.specs.Layout.{Line, Problem, Row, line_of_row, lines}
use Rattle.problem_core.specs.Corners.{IsCorner, IsIn, place_of}
use Rattle.problem_core.specs.Levels.{AreFitting, HasNoLevelWriting}
use Rattle.problem_core.specs.Rays.{HasRays}
use Rattle.problem_core.proofs.Forms.{each-both, each-impl}
use Rattle.corner_laws.specs.Units.{IsLevelUnit, over_share, under_share}
use Rattle.corner_laws.proofs.LevelCosts.LevelSizes.{level_fits}
use Rattle.corner_lines.specs.LineEquations.{IsOutsideLine}
use Rattle.corner_lines.specs.Levels.LevelCosts.{IsSound}
use Rattle.corner_lines.specs.Levels.LevelFits.{IsFittingRow}
use Rattle.corner_lines.specs.Levels.LevelJoins.{IsLeastMultiple, IsLevelJoin}
use Rattle.corner_lines.specs.Levels.LevelRows.{HasLevelRow, IsDividedRow, inside_number, line_numbers, reduced_number}
use Rattle.corner_lines.proofs.LevelRows.LevelDivided.{divided-same}
use Rattle.corner_lines.proofs.LevelRows.LevelExchanges.{inside-numbers}
use Rattle.corner_lines.proofs.Costs.LevelFits.{divided, reduced-by, reduced-is, reduced_by, unfit_row_has_no_writing, Fitting as Known, reduced-fits}
use Rattle.corner_lines.proofs.LevelRows.LevelJoins.{grown_row_is_row, joined_row_is_row, joined_unit_is_unit}
use Rattle.corner_table.specs.declared.table.TheConstants.{LEVELS}
use Rattle.corner_table.specs.Tables.{Lists, marks_at, number, priority_at, slot_at}
use Rattle.corner_joins.specs.Additions.Parts.{IsLevelPart, joined_at}
use Rattle.corner_joins.specs.Additions.CostJoins.{IsLeastUnit, with_next}
use Rattle.corner_table.proofs.Readings.SlotFacts.{any_impl}
use Rattle.corner_joins.proofs.Costs.CostLines.{IsNextAt, lines_before, next_each, next_equation, next_in, next_line, next_pivot, next_slot, next_sound, no_other_side}
use Rattle.corner_lines.proofs.LevelRows.OtherNumbers.{same-parts}
use Rattle.frac_core.proofs.Numbers.{product-above as above-product, mul-neg as mul-opp}

-- ---- a level's row that fits, and one that does not

pub row_fits : (p : Problem) (at : List Mark) (level unit own : ℕ) (number : RowName → ℤ) → IsSound p → (h : HasLevelRow p at level unit own number) → IsFittingRow p at level unit own number → AreFitting p (own * unit) h.by (reduced_by p level unit own h.by)
row_fits p at level unit own number sound h fit =
    let by : RowName → ℤ = h.by in
    let known : Each (Known p at level unit own by number) (lines p) =
    each-impl (λ l. (((reduced_by p level unit own by (place_of l.name Under) ≡ reduced_number Under level unit own (by l.name) l) × (reduced_by p level unit own by (place_of l.name Over) ≡ reduced_number Over level unit own (by l.name) l)) × (((side : Side) → IsIn (place_of l.name side) at → by l.name ≡ inside_number side level unit own l) × (IsOutsideLine at l.name → by l.name ≡ number l.name)))
    × ((l.level ≡ level → IsOutsideLine at l.name → (side : Side) → IsFitting (reduced_number side level unit own (number l.name) l)) × (l.level ≡ level → (side inside : Side) → IsIn (place_of l.name inside) at → IsFitting (reduced_number side level unit own (inside_number inside level unit own l) l)))) _ (lines p)
    (λ l h. record { under_is = h.0.0.0; over_is = h.0.0.1; inside = h.0.1.0; outside = h.0.1.1; own_fit = h.1.0; inside_fit = h.1.1 })
    (each-both _ _ (lines p) (each-both _ _ (lines p) (reduced-is p level unit own by sound) (each-both _ _ (lines p) (inside-numbers p at level unit own by h.row) (recursion_from_All _ (lines p) h.outside)))
    (each-both _ _ (lines p) (recursion_from_All _ (lines p) fit.own_fit) (recursion_from_All _ (lines p) fit.inside_fit))) in
    level_fits p at level unit own by (reduced_by p level unit own by) h.row (reduced-by p level unit own by sound)
    (record {
      scale_fits = fit.scale_fits;
      outside_fit = All-from_recursion (λ l. (IsIn (place_of l.name Under) at → ⊥) → (IsIn (place_of l.name Over) at → ⊥) → IsFitting (by l.name)) (lines p)
          (each-impl (λ l. Known p at level unit own by number l × (IsOutsideLine at l.name → IsFitting (number l.name))) _ (lines p)
          (λ l h u o. subst IsFitting (sym (h.0.outside (record { under = u; over = o }))) (h.1 (record { under = u; over = o })))
          (each-both _ _ (lines p) known (recursion_from_All _ (lines p) fit.outside_fit)));
      own_fit = All-from_recursion (λ l. l.level ≡ level → IsFitting (reduced_by p level unit own by (place_of l.name Under)) × IsFitting (reduced_by p level unit own by (place_of l.name Over))) (lines p)
          (each-impl (Known p at level unit own by number) _ (lines p)
          (λ l f e. (subst IsFitting (sym f.under_is) (reduced-fits p at level unit own by number l f e Under), subst IsFitting (sym f.over_is) (reduced-fits p at level unit own by number l f e Over))) known);
    })

pub row_unfit : (p : Problem) (at : List Mark) (level unit own : ℕ) (number : RowName → ℤ) → IsSound p → IsCorner p at → HasRays p at → IsLevelUnit p level unit → HasLevelRow p at level unit own number
    → (IsFittingRow p at level unit own number → ⊥) → HasNoLevelWriting p at level
row_unfit p at level unit own number sound corner rays is h unfit = λ scale times reduced value w costs fit kept.
    unfit_row_has_no_writing p at level unit own number value (record { sound = sound; corner = corner; rays = rays; unit_is = is; row = h; cost_is = costs; lowest = kept.lowest }) (λ f c. unfit f) scale times reduced value w costs fit kept

-- ---- what a join has

-- the next row of a level, with how many times the unit rises
pub record IsCostJoin (t : Lists) (r : Row) (line : ℕ) (side : Side) (l times : ℕ) : Type 0 where
  pub next : IsNextAt t r line side
  pub level : l ≡ 1000 - r.rank
  pub above : 0 < times
  pub least : IsLeastUnit (slot_at t line) (priority_at t l).unit (times * unsigned_abs (priority_at t l).unit)

pub below_levels : (l : ℕ) (r : Row) → l ≡ 1000 - r.rank → l < LEVELS
below_levels l r e = let n : ℕ = r.rank in omega (arith, e)

-- what is kept of its level
pub part_of : (t : Lists) (r : Row) (line : ℕ) (side : Side) (l times : ℕ) → IsCostJoin t r line side l times → IsLevelPart t l
part_of t r line side l times j = j.next.kept.levels l (below_levels l r j.level)

unit-size : (t : Lists) (r : Row) (line : ℕ) (side : Side) (l times : ℕ) → (j : IsCostJoin t r line side l times) → unsigned_abs (priority_at t l).unit ≡ (part_of t r line side l times j).unit
unit-size t r line side l times j = ap unsigned_abs (part_of t r line side l times j).unit_is

slot-of-row : (t : Lists) (r : Row) (line : ℕ) (side : Side) → IsNextAt t r line side → (unsigned_abs (slot_at t line).scale ≡ r.scale) × (unsigned_abs (slot_at t line).weight ≡ r.weight)
slot-of-row t r line side n =
    let s = next_slot t r line side n in
    (ap (λ (w : ℕ). unsigned_abs (slot_at t w).scale) (sym n.slot_is) ∙ ap unsigned_abs s.scale, ap (λ (w : ℕ). unsigned_abs (slot_at t w).weight) (sym n.slot_is) ∙ ap unsigned_abs s.weight)

pub joined_unit : (t : Lists) (r : Row) (line : ℕ) (side : Side) (l times : ℕ) → (j : IsCostJoin t r line side l times) → IsLevelUnit (with_next t l) l (times * (part_of t r line side l times j).unit)
joined_unit t r line side l times j =
    let part = part_of t r line side l times j in
    let s = slot-of-row t r line side j.next in
    let d : ℕ = j.least.divisor in
    let gcd : IsGcd r.scale r.weight j.least.divisor = subst (λ (n : ℕ). IsGcd n r.weight j.least.divisor) s.0 (subst (λ (n : ℕ). IsGcd (unsigned_abs (slot_at t line).scale) n j.least.divisor) s.1 j.least.divides) in
    let least : IsLeastMultiple part.unit (r.scale / j.least.divisor) (times * part.unit) =
    subst (λ (n : ℕ). IsLeastMultiple n (r.scale / j.least.divisor) (times * n)) (unit-size t r line side l times j)
    (subst (λ (n : ℕ). IsLeastMultiple (unsigned_abs (priority_at t l).unit) (n / j.least.divisor) (times * unsigned_abs (priority_at t l).unit)) s.0 j.least.least) in
    joined_unit_is_unit (joined_at t l) (with_next t l) l part.unit j.least.divisor (r.scale / j.least.divisor) (times * part.unit) (Held r.id)
    (next_sound t l ((priority_at t l).rows + 1) j.next.kept).0.problem (lines_before t r l j.next.kept j.next.next j.level)
    (any_impl (λ k. k ≡ line_of_row r) (λ k. k.name ≡ Held r.id) (lines (with_next t l)) (λ k e. ap (λ (m : Line). m.name) e) (next_line t r l j.next.next j.level))
    part.least
    (next_each (λ k. (k.level ≡ l) × IsGcd k.scale k.weight j.least.divisor × (k.scale / j.least.divisor ≡ r.scale / j.least.divisor)) t r l j.next.kept j.next.next j.level (sym j.level, gcd, refl))
    least

-- the own number of the line's row
abbrev pub size_of : (t : Lists) (r : Row) (line : ℕ) (side : Side) → IsNextAt t r line side → ℕ
size_of t r line side n = (next_equation t r line side n).0

-- the level's own number and `times` without what they have in common
common-of : (own times : ℕ) → (g : ℕ) × IsGcd times own g
common-of own times = let d = scaled own times own (omega arith) in (d.0, d.1)

pub join_start : (t : Lists) (r : Row) (line : ℕ) (side : Side) (l times g : ℕ) → (j : IsCostJoin t r line side l times) → IsGcd times (part_of t r line side l times j).own g
    → IsLevelJoin (joined_at t l) (with_next t l) (marks_at t) l (times * (part_of t r line side l times j).unit) ((part_of t r line side l times j).own / g) (λ name. pos (times / g) *ℤ number t l name)
    (Held r.id) side (size_of t r line side j.next) (line_numbers (Held r.id) (size_of t r line side j.next) (number t line))
join_start t r line side l times g j is =
    let part = part_of t r line side l times j in
    record {
      before = lines_before t r l j.next.kept j.next.next j.level;
      row = grown_row_is_row (joined_at t l) (marks_at t) l part.unit part.own times g (number t l) (next_sound t l (priority_at t l).rows j.next.kept).0.problem part.least j.above is
          (record { by = part.numbers.by; row = part.numbers.row; outside = part.numbers.outside });
      inside = next_in t r line side j.next;
      no_other = λ other i. no_other_side t r line side other j.next i;
      line_is = next_pivot t r line side l ((priority_at t l).rows + 1) j.next;
    }

-- ---- what the line counts

pub counted_by : (side : Side) (level unit own : ℕ) (k : Line) → neg_ℤ (inside_number side level unit own k) ≡ pos own *ℤ neg_ℤ (inside_number side level unit 1 k)
counted_by Under level unit own k =
    let s : ℕ = under_share unit level k in
    ap (λ (n : ℕ). neg_ℤ (pos n)) (let e : own * under_share unit level k ≡ own * (1 * under_share unit level k) = omega arith in e) ∙ sym (mul-opp (pos own) (pos (1 * under_share unit level k)))
counted_by Over level unit own k =
    neg-neg (pos (own * over_share unit level k))
    ∙ ap pos (let e : own * over_share unit level k ≡ own * (1 * over_share unit level k) = omega arith in e)
    ∙ ap (λ (z : ℤ). pos own *ℤ z) (sym (neg-neg (pos (1 * over_share unit level k))))

-- ---- the row

-- the level's numbers and the line's, as often as they are taken
abbrev pub joined_sum : Lists → Row → ℕ → ℕ → (size times k : ℕ) → ℤ → RowName → ℤ
joined_sum t r line l size times k n name = pos (k * times) *ℤ number t l name +ℤ n *ℤ line_numbers (Held r.id) size (number t line) name

crossed-factors : (own k g : ℕ) (n c : ℤ) (size : ℕ) → own / g * g ≡ own → n *ℤ pos size ≡ (pos own *ℤ c) *ℤ pos k → n *ℤ pos size ≡ (pos (own / g) *ℤ c) *ℤ pos (k * g)
crossed-factors own k g n c size e h =
    h ∙ ap (λ (m : ℕ). (pos m *ℤ c) *ℤ pos k) (sym e)
    ∙ mul_assoc_ℤ (pos (own / g * g)) c (pos k)
    ∙ mul_assoc_ℤ (pos (own / g)) (pos g) (c *ℤ pos k)
    ∙ ap (λ (z : ℤ). pos (own / g) *ℤ z) (mul_left_comm_ℤ (pos g) c (pos k) ∙ ap (λ (m : ℕ). c *ℤ pos m) (let f : g * k ≡ k * g = omega arith in f))
    ∙ sym (mul_assoc_ℤ (pos (own / g)) c (pos (k * g)))

pub joined_row : (t : Lists) (r : Row) (line : ℕ) (side : Side) (l times k low : ℕ) (n c : ℤ) (next : RowName → ℤ) → (j : IsCostJoin t r line side l times) → 0 < k
    → c ≡ neg_ℤ (inside_number side l (times * (part_of t r line side l times j).unit) 1 (line_of_row r))
    → n *ℤ pos (size_of t r line side j.next) ≡ (pos (part_of t r line side l times j).own *ℤ c) *ℤ pos k
    → IsDividedRow (with_next t l) (marks_at t) (k * (part_of t r line side l times j).own) (joined_sum t r line l (size_of t r line side j.next) times k n) low next
    → HasLevelRow (with_next t l) (marks_at t) l (times * (part_of t r line side l times j).unit) low next
joined_row t r line side l times k low n c next j up counts same divided =
    let part = part_of t r line side l times j in
    let size : ℕ = size_of t r line side j.next in
    let d = common-of part.own times in
    let red : Reduces times part.own d.0 = reduces times part.own d.0 part.numbers.row.own_positive d.1 in
    let unit : ℕ = times * part.unit in
    let nums : RowName → ℤ = line_numbers (Held r.id) (size_of t r line side j.next) (number t line) in
    let n0 : ℤ = neg_ℤ (inside_number side l (times * part.unit) (part.own / d.0) (line_of_row r)) in
    joined_row_is_row (joined_at t l) (with_next t l) (marks_at t) l (times * part.unit) (part.own / d.0) (λ name. pos (times / d.0) *ℤ number t l name) (Held r.id) side (size_of t r line side j.next) (k * d.0) low
    (line_numbers (Held r.id) (size_of t r line side j.next) (number t line)) next (neg_ℤ (inside_number side l (times * part.unit) (part.own / d.0) (line_of_row r))) n
    (join_start t r line side l times d.0 j d.1)
    (next_each (λ m. neg_ℤ (inside_number side l (times * part.unit) (part.own / d.0) (line_of_row r)) ≡ neg_ℤ (inside_number side l (times * part.unit) (part.own / d.0) m)) t r l j.next.kept j.next.next j.level refl)
    (record {
      above = above-product k d.0 up red.g_above;
      same = crossed-factors part.own k d.0 n c (size_of t r line side j.next) red.den_is same
          ∙ ap (λ (z : ℤ). z *ℤ pos (k * d.0)) (ap (λ (z : ℤ). pos (part.own / d.0) *ℤ z) counts ∙ sym (counted_by side l (times * part.unit) (part.own / d.0) (line_of_row r)));
    })
    (divided-same (with_next t l) (marks_at t) (k * d.0 * (part.own / d.0)) low (joined_sum t r line l (size_of t r line side j.next) times k n)
    (λ name. pos (k * d.0) *ℤ (pos (times / d.0) *ℤ number t l name) +ℤ n *ℤ line_numbers (Held r.id) (size_of t r line side j.next) (number t line) name) next
    (All-from_recursion (λ m. IsOutsideLine (marks_at t) m.name → pos (k * d.0) *ℤ (pos (times / d.0) *ℤ number t l m.name) +ℤ n *ℤ line_numbers (Held r.id) (size_of t r line side j.next) (number t line) m.name ≡ joined_sum t r line l (size_of t r line side j.next) times k n m.name) (lines (with_next t l))
    (each-true (λ m. IsOutsideLine (marks_at t) m.name → pos (k * d.0) *ℤ (pos (times / d.0) *ℤ number t l m.name) +ℤ n *ℤ line_numbers (Held r.id) (size_of t r line side j.next) (number t line) m.name ≡ joined_sum t r line l (size_of t r line side j.next) times k n m.name) (lines (with_next t l)) (λ m out. ap (λ (z : ℤ). z +ℤ n *ℤ line_numbers (Held r.id) (size_of t r line side j.next) (number t line) m.name) (same-parts k times d.0 (number t l m.name) red.num_is))))
    (subst (λ (o : ℕ). IsDividedRow (with_next t l) (marks_at t) o (joined_sum t r line l (size_of t r line side j.next) times k n) low next)
    (sym (let q : ℕ = part.own / d.0 in let f : k * d.0 * (part.own / d.0) ≡ k * (part.own / d.0 * d.0) = omega arith in f ∙ ap (λ (m : ℕ). k * m) red.den_is)) divided))
  where
    each-true : (P : Line → Type 0) (ls : List Line) → ((m : Line) → P m) → Each P ls
    each-true P [] f = tt
    each-true P (m ∷ ls) f = (f m, each-true P ls f)
