-- What the code finds where a row leaves its level, as the contracts say it.
use Rattle.std.proofs.Common.{◌≡◌, ◌≢◌, ◌∙◌, ℕ, zero, suc, ◌+◌, ◌-◌, ◌*◌, ◌/◌, ◌<◌, ◌≤◌, ◌^◌, Bool, cond, nat_eq, List, length, refl, sym, ap, ap₂, subst, arith, inl, inr, ℤ, pos, negsuc, neg_ℤ, ◌+ℤ◌, ◌-ℤ◌, ◌*ℤ◌, ◌<ℤ◌, unsigned_abs, Any, Some, eq-eqb, ne_eqb, get_or, SFits}
use Rattle.std.specs.Int.{◌∣◌, IsGcd, w128}
use Rattle.std.specs.Prelude.{FitsSigned}
use Rattle.std.proofs.lemmas.Int.{fits_signed_from_abs}
use Rattle.std.proofs.lemmas.Int.{unsigned_abs-mul}
use Rattle.std.proofs.Math.Nat.{mul-div_cancel', mul-le-mul}
use borrow.Author.Differences.{ints}
use Rattle.frac_core.specs.Fraction.{IsFitting}
use Rattle.frac_core.specs.declared.frac.TheConstants.{PART_BOUND}
use Rattle.row_core.specs.Rows.{Term, combination, IsLowestRow, IsReduced, IsUnfit}
use Rattle.problem_core.specs.Levels.{HasNoLevelWriting}
use Rattle.row_core.specs.Combinations.{IsFactor, combination_but}
use Rattle.row_core.specs.declared.entry.Factors.{Factors}
use Rattle.row_core.specs.declared.entry.Patch.{Patch}
use Rattle.row_core.proofs.Lowest.{reduced_same, unfit_same}
use Rattle.frac_core.proofs.Integers.{mul-zero_ℤ, add-zero_ℤ}
use Rattle.problem_core.specs.declared.parts.Side.{Side}
use Rattle.problem_core.specs.declared.parts.Side.TheVariants.{Under, Over}
use Rattle.problem_core.specs.declared.parts.RowName.TheVariants.{Held}
use Rattle.problem_core.specs.Layout.{Line, Row, line_of_row, lines}
use Rattle.problem_core.specs.Corners.{IsIn, place_of}
use Rattle.problem_core.specs.Certificates.{weight_at}
use Rattle.std.proofs.lemmas.Bool.{cases_eq}
use Rattle.corner_leaving.proofs.Removals.LeftLists.{all_left}
use Rattle.corner_lines.specs.LineEquations.{sign_of}
use Rattle.corner_lines.specs.Levels.LevelRows.{inside_number}
use Rattle.corner_lines.proofs.LevelRows.LevelExchanges.{inside-numbers}
use Rattle.std.proofs.lemmas.List.Elements.{All-from_recursion}
use Rattle.corner_leaving.specs.declared.leaving.Leaver.{Leaver}
use Rattle.corner_table.specs.declared.table.TheConstants.{LEVELS}
use Rattle.corner_table.specs.declared.table.Slot.{Slot}
use Rattle.corner_table.specs.Tables.{Lists, entry, line_slot, marks_at, priority_at, problem_of, row_at, slot_at, standing_at}
use Rattle.corner_table.specs.Kept.{AreSlots, IsKept, IsLineSlot}
use Rattle.corner_view.specs.Seen.{IsNamed}
use Rattle.corner_table.specs.Reads.LevelNumbers.{IsCounted, unit_at}
use Rattle.corner_joins.specs.Additions.CostJoins.{AreShareFactors, IsLeastUnit, IsUnfitRise}
use Rattle.corner_leaving.specs.Leaving.{HasMultiple, IsLeaver, IsLeftRow, IsLeftShare, IsLeftUnit, IsTimes, left_count, left_whole, marks_left, problem_left}
use Rattle.corner_table.proofs.Readings.SlotFacts.{any_impl, any_is}
use Rattle.corner_writings.proofs.LevelFacts.FittingLoops.{counted_named}
use Rattle.corner_laws.specs.Lifts.{HasOneIn}
use Rattle.problem_core.specs.Kept.{IsRow}
use Rattle.corner_writings.proofs.Basics.SmallFacts.{zero_unless}
use Rattle.corner_joins.proofs.Costs.CostUnits.{scale_above}
use Rattle.corner_leaving.proofs.Removals.LeavingRows.{IsLeavingRow, count_is, its_home, its_level, its_line, its_mark, its_size, its_size_above, its_size_is, its_slot, level_apart, left_row_is, left_unfit, level_kept, level_own_is, times-count}
use Rattle.corner_leaving.proofs.Removals.LeavingUnits.{IsUnitTo, never_unfit, one_row_more}
use Rattle.frac_core.proofs.Numbers.{times-one, above-right as quotient-above, rest-less as own-part}
use Rattle.corner_joins.proofs.Costs.CostLines.{one-side}
use Rattle.frac_core.proofs.Products.{above_zero as positive-pos}
use Rattle.corner_writings.proofs.LevelFacts.LevelRowFacts.{unit-below as below-unit}
use Rattle.corner_joins.proofs.Costs.CostEnds.{row_line}

-- ---- a row of the lists

pub row_name : (t : Lists) (s : Row) → Any (λ o. o ≡ s) t.rows → IsNamed (problem_of t) (Held s.id)
row_name t s is = any_impl (λ l. l ≡ line_of_row s) (λ l. l.name ≡ Held s.id) (lines (problem_of t)) (λ l e. ap (λ (k : Line). k.name) e) (row_line t s is)

pub row_slot : (t : Lists) (s : Row) → IsKept t → Any (λ o. o ≡ s) t.rows → IsLineSlot t (line_of_row s)
row_slot t s kept is = any_is (IsLineSlot t) (λ l. l ≡ line_of_row s) (lines (problem_of t)) kept.slots.lines (row_line t s is) (λ l k e. subst (IsLineSlot t) e k)

pub row_counted : (t : Lists) (s : Row) (unit : ℤ) → IsKept t → Any (λ o. o ≡ s) t.rows → pos 0 <ℤ unit → IsFitting unit → IsCounted (slot_at t (line_slot t (Held s.id))) unit
row_counted t s unit kept is above fits = counted_named t (Held s.id) unit kept.slots kept.whole above fits (row_name t s is)

-- ---- sizes

divisor-small : (n m q b : ℕ) → 0 < m → n * q ≡ m → m < b → n < b
divisor-small n m zero b up e h = absurd (omega (arith, up, e))
divisor-small n m (suc q) b up e h = let p : ℕ = n * q in let f : n * suc q ≡ n * q + n = omega arith in omega (arith, f, e, h)

pub room_fits : (r : Row) (unit : ℤ) → HasMultiple r unit → IsFitting unit
room_fits r unit h = subst (λ (z : ℤ). IsFitting z) (sym h.unit_is) (divisor-small h.size h.most (h.most / h.size) PART_BOUND h.above (mul-div_cancel' h.size h.whole) h.fits)

-- the unit of the level
pub unit_fits : (t : Lists) (r : Row) (x : Leaver) → IsLeavingRow t r x → IsFitting (priority_at t x.level).unit
unit_fits t r x h =
    let lev = level_kept t r x h in
    subst (λ (z : ℤ). IsFitting z) (sym lev.unit_is) (own-part lev.own lev.unit PART_BOUND lev.numbers.row.own_positive lev.numbers.fits.scale_fits)

pub unit_up : (t : Lists) (r : Row) (x : Leaver) → IsLeavingRow t r x → pos 0 <ℤ (priority_at t x.level).unit
unit_up t r x h = let lev = level_kept t r x h in subst (λ (z : ℤ). pos 0 <ℤ z) (sym lev.unit_is) (positive-pos lev.unit lev.least.above)

pub its_unit : (t : Lists) (r : Row) (x : Leaver) → IsLeavingRow t r x → unit_at t (slot_at t x.line).home ≡ (priority_at t x.level).unit
its_unit t r x h = ap (λ (l : ℕ). unit_at t l) (its_home t r x h) ∙ below-unit t x.level (its_level t r x h)

pub its_counted : (t : Lists) (r : Row) (x : Leaver) → IsLeavingRow t r x → IsCounted (slot_at t x.line) (unit_at t (slot_at t x.line).home)
its_counted t r x h =
    subst (λ (w : ℕ). IsCounted (slot_at t w) (unit_at t (slot_at t x.line).home)) h.is.line_is
    (subst (λ (z : ℤ). IsCounted (slot_at t (line_slot t (Held r.id))) z) (sym (its_unit t r x h)) (row_counted t r (priority_at t x.level).unit h.kept h.is.held (unit_up t r x h) (unit_fits t r x h)))

-- what it counts fits
size-of-signed : (side : Side) (n : ℕ) → unsigned_abs (neg_ℤ (pos n *ℤ sign_of side)) ≡ n
size-of-signed Under n = omega (arith, ints)
size-of-signed Over n = omega (arith, ints)

pub count_fits : (t : Lists) (r : Row) (x : Leaver) → IsLeavingRow t r x → IsFitting (pos (left_count t x))
count_fits t r x h =
    let lev = level_kept t r x h in
    let by : ℤ = lev.numbers.by (Held r.id) in
    let fits : IsFitting (lev.numbers.by (Held r.id)) = any_is (λ l. IsFitting (lev.numbers.by l.name)) (λ l. l ≡ line_of_row r) (lines (problem_of t)) lev.numbers.fits.times_fit (its_line t r x h.is) (λ l k e. subst (λ (m : Line). IsFitting (lev.numbers.by m.name)) e k) in
    let is : lev.numbers.by (Held r.id) ≡ inside_number x.side x.level lev.unit lev.own (line_of_row r) =
    any_is (λ l. (s : Side) → IsIn (place_of l.name s) (marks_at t) → lev.numbers.by l.name ≡ inside_number s x.level lev.unit lev.own l) (λ l. l ≡ line_of_row r) (lines (problem_of t))
    (All-from_recursion (λ l. (s : Side) → IsIn (place_of l.name s) (marks_at t) → lev.numbers.by l.name ≡ inside_number s x.level lev.unit lev.own l) (lines (problem_of t)) (inside-numbers (problem_of t) (marks_at t) x.level lev.unit lev.own lev.numbers.by lev.numbers.row)) (its_line t r x h.is)
    (λ l k e. subst (λ (m : Line). (s : Side) → IsIn (place_of m.name s) (marks_at t) → lev.numbers.by m.name ≡ inside_number s x.level lev.unit lev.own m) e k x.side (its_mark t r x h.is)) in
    let size : unsigned_abs (lev.numbers.by (Held r.id)) ≡ lev.own * left_count t x =
    ap unsigned_abs (is ∙ times-count x.side x.level lev.unit lev.own (line_of_row r) ∙ ap (λ (z : ℤ). pos lev.own *ℤ z) (sym (count_is t r x h)))
    ∙ unsigned_abs-mul (pos lev.own) (neg_ℤ (pos (left_count t x) *ℤ sign_of x.side)) ∙ ap (λ (n : ℕ). lev.own * n) (size-of-signed x.side (left_count t x)) in
    own-part lev.own (left_count t x) PART_BOUND lev.numbers.row.own_positive (subst (λ (n : ℕ). n < PART_BOUND) size fits)

-- ---- the unit before by the one of now

pub record IsQuotient (t : Lists) (x : Leaver) (unit times : ℤ) : Type 0 where
  pub size : ℕ
  pub is : times ≡ pos size
  pub above : 0 < size
  pub whole : IsTimes t x unit size

pub left_unit_above : (t : Lists) (x : Leaver) (unit : ℤ) → IsLeftUnit t x unit → pos 0 <ℤ unit
left_unit_above t x unit u = subst (λ (z : ℤ). pos 0 <ℤ z) (sym u.unit_is) (positive-pos u.size u.least.above)

-- it divides the one before
unit-divides : (t : Lists) (r : Row) (x : Leaver) (unit : ℤ) → (h : IsLeavingRow t r x) → (u : IsLeftUnit t x unit) → u.size ∣ (level_kept t r x h).unit
unit-divides t r x unit h u = u.least.least (level_kept t r x h).unit (all_left (λ l. l.scale ∣ (level_kept t r x h).unit * weight_at l x.level) x.id (problem_of t) (level_kept t r x h).least.whole)

pub left_unit_fits : (t : Lists) (r : Row) (x : Leaver) (unit : ℤ) → IsLeavingRow t r x → IsLeftUnit t x unit → IsFitting unit
left_unit_fits t r x unit h u =
    let lev = level_kept t r x h in
    subst (λ (z : ℤ). IsFitting z) (sym u.unit_is)
    (divisor-small u.size lev.unit (lev.unit / u.size) PART_BOUND lev.least.above (mul-div_cancel' u.size (unit-divides t r x unit h u)) (own-part lev.own lev.unit PART_BOUND lev.numbers.row.own_positive lev.numbers.fits.scale_fits))

pub quotient_is : (t : Lists) (r : Row) (x : Leaver) (old unit times : ℤ) → (h : IsLeavingRow t r x) → IsLeftUnit t x unit → old ≡ (priority_at t x.level).unit → times ≡ pos (unsigned_abs old / unsigned_abs unit) → IsQuotient t x unit times
quotient_is t r x old unit times h u o is =
    let lev = level_kept t r x h in
    let e : unsigned_abs old / unsigned_abs unit ≡ lev.unit / u.size = ap₂ (λ (a b : ℤ). unsigned_abs a / unsigned_abs b) (o ∙ lev.unit_is) u.unit_is in
    let back : u.size * (lev.unit / u.size) ≡ lev.unit = mul-div_cancel' u.size (unit-divides t r x unit h u) in
    record {
      size = lev.unit / u.size;
      is = is ∙ ap pos e;
      above = quotient-above u.size (lev.unit / u.size) lev.unit back lev.least.above;
      whole = lev.unit_is ∙ ap pos (sym back ∙ (let a : ℕ = u.size in let b : ℕ = lev.unit / u.size in let f : a * b ≡ b * a = omega arith in f)) ∙ ap (λ (z : ℤ). pos (lev.unit / u.size) *ℤ z) (sym u.unit_is);
    }

smaller-product : (own times size unit b : ℕ) → 0 < size → times * size ≡ unit → own * unit < b → own * times < b
smaller-product own times zero unit b up e h = absurd (omega (arith, up))
smaller-product own times (suc s) unit b up e h =
    let m : ℕ = own * times in
    let n : ℕ = own * times * s in
    let f : own * unit ≡ own * (times * suc s) = ap (λ (k : ℕ). own * k) (sym e) in
    let g : own * (times * suc s) ≡ own * times * s + own * times = omega arith in
    omega (arith, f, g, h)

pub scale_room : (t : Lists) (r : Row) (x : Leaver) (unit times : ℤ) → (h : IsLeavingRow t r x) → IsLeftUnit t x unit → IsQuotient t x unit times → IsFitting (entry t x.level x.level *ℤ times)
scale_room t r x unit times h u q =
    let lev = level_kept t r x h in
    let same : q.size * u.size ≡ lev.unit = ap unsigned_abs (sym (ap (λ (z : ℤ). pos q.size *ℤ z) u.unit_is) ∙ sym q.whole ∙ lev.unit_is) in
    subst (λ (z : ℤ). IsFitting z) (sym (ap₂ ◌*ℤ◌ (level_own_is t r x h) q.is))
    (smaller-product lev.own q.size u.size lev.unit PART_BOUND u.least.above same lev.numbers.fits.scale_fits)

-- ---- factors

pub left_share : (t : Lists) (r : Row) (x : Leaver) (own line_own count : ℤ) (by : Factors) → IsLeavingRow t r x → own ≡ entry t x.level x.level → line_own ≡ entry t x.line x.line → count ≡ neg_ℤ (pos (left_count t x) *ℤ sign_of x.side)
    → (f : AreShareFactors own line_own count (pos 1) by) → IsLeftShare t x f.k by.n
left_share t r x own line_own count by h o l c f = record {
  above = f.above;
  same = ap (λ (z : ℤ). by.n *ℤ z) (sym l) ∙ f.same ∙ ap (λ (z : ℤ). z *ℤ pos f.k) (ap₂ ◌*ℤ◌ o c);
}

-- the combination is the whole
nothing-of : (t : Lists) (r : Row) (x : Leaver) → IsLeavingRow t r x → entry t x.line x.level ≡ pos 0
nothing-of t r x h = zero_unless (entry t x.line x.level) (λ some. not-level x.level (its_level t r x h) (h.kept.outside x.line x.level some (level_apart t r x h)).0.0)
  where
    not-level : (l : ℕ) → l < LEVELS → LEVELS ≤ l → ⊥
    not-level l a b = omega (arith, a, b)

-- k and the growth make k times as much
grown : (k own : ℕ) (times : ℕ) (n z : ℤ) → 0 < times → z ≡ pos 0 → (pos k *ℤ pos own +ℤ n *ℤ z) +ℤ pos k *ℤ (pos own *ℤ (pos times -ℤ pos 1)) ≡ pos (k * times) *ℤ pos own
grown k own times n z above e =
    let less : pos times -ℤ pos 1 ≡ pos (times - 1) = omega (arith, ints, above) in
    ap₂ (λ (a b : ℤ). (pos k *ℤ pos own +ℤ a) +ℤ pos k *ℤ (pos own *ℤ b)) (ap (λ (y : ℤ). n *ℤ y) e ∙ mul-zero_ℤ n) less
    ∙ plain (k * own) (k * (own * (times - 1))) ∙ ap pos (back times above)
  where
    plain : (a b : ℕ) → (pos a +ℤ pos 0) +ℤ pos b ≡ pos (a + b)
    plain a b = omega (arith, ints)

    back : (times : ℕ) → 0 < times → k * own + k * (own * (times - 1)) ≡ k * times * own
    back zero h = absurd (omega (arith, h))
    back (suc m) h = let e : suc m - 1 ≡ m = omega arith in ap (λ (i : ℕ). k * own + k * (own * i)) e ∙ (let p : k * own + k * (own * m) ≡ k * suc m * own = omega arith in p)

whole-cases : (t : Lists) (r : Row) (x : Leaver) (k times : ℕ) (by : Factors) (extra : ℤ) (c : ℕ) → (h : IsLeavingRow t r x) → 0 < times → by.k ≡ pos k → extra ≡ pos k *ℤ (entry t x.level x.level *ℤ (pos times -ℤ pos 1))
    → cond (nat_eq c x.line) (pos 0) (combination by.k (row_at t x.level) by.n (row_at t x.line) c +ℤ cond (nat_eq c x.level) extra (pos 0)) ≡ left_whole t x times k by.n c
whole-cases t r x k times by extra c h above kis grow =
    ap (λ (z : ℤ). cond (nat_eq c x.line) (pos 0) z) (elim (cases_eq c x.level) [
      | inl e ↦
          ap (λ (b : Bool). combination by.k (row_at t x.level) by.n (row_at t x.line) c +ℤ cond b extra (pos 0)) (eq-eqb c x.level e)
          ∙ ap (λ (d : ℕ). combination by.k (row_at t x.level) by.n (row_at t x.line) d +ℤ extra) e
          ∙ ap₂ (λ (a b : ℤ). (a *ℤ entry t x.level x.level +ℤ by.n *ℤ entry t x.line x.level) +ℤ b) kis grow
          ∙ ap (λ (o : ℤ). (pos k *ℤ o +ℤ by.n *ℤ entry t x.line x.level) +ℤ pos k *ℤ (o *ℤ (pos times -ℤ pos 1))) (level_own_is t r x h)
          ∙ grown k (level_kept t r x h).own times by.n (entry t x.line x.level) above (nothing-of t r x h)
          ∙ ap (λ (o : ℤ). pos (k * times) *ℤ o) (sym (level_own_is t r x h))
          ∙ sym (ap (λ (b : Bool). cond b (pos (k * times) *ℤ entry t x.level x.level) (pos k *ℤ entry t x.level c +ℤ by.n *ℤ entry t x.line c)) (eq-eqb c x.level e))
      | inr ne ↦
          ap (λ (b : Bool). combination by.k (row_at t x.level) by.n (row_at t x.line) c +ℤ cond b extra (pos 0)) (ne_eqb c x.level ne)
          ∙ add-zero_ℤ (combination by.k (row_at t x.level) by.n (row_at t x.line) c)
          ∙ ap (λ (a : ℤ). a *ℤ entry t x.level c +ℤ by.n *ℤ entry t x.line c) kis
          ∙ sym (ap (λ (b : Bool). cond b (pos (k * times) *ℤ entry t x.level x.level) (pos k *ℤ entry t x.level c +ℤ by.n *ℤ entry t x.line c)) (ne_eqb c x.level ne))
    ])

pub whole_is : (t : Lists) (r : Row) (x : Leaver) (k times : ℕ) (by : Factors) (but : Patch) (a b : List Term) → (h : IsLeavingRow t r x) → 0 < times → by.k ≡ pos k → but.extra ≡ pos k *ℤ (entry t x.level x.level *ℤ (pos times -ℤ pos 1))
    → but.without.0 ≡ x.line → but.at.0 ≡ x.level → row_at t x.level ≡ a → row_at t x.line ≡ b → (c : ℕ) → combination_but by a b but c ≡ left_whole t x times k by.n c
whole_is t r x k times by but a b h above kis grow line level ra rb c =
    ap₂ (λ (p q : List Term). combination_but by p q but c) (sym ra) (sym rb)
    ∙ ap₂ (λ (i j : ℕ). cond (nat_eq c i) (pos 0) (combination by.k (row_at t x.level) by.n (row_at t x.line) c +ℤ cond (nat_eq c j) but.extra (pos 0))) line level
    ∙ whole-cases t r x k times by but.extra c h above kis grow

-- ---- how large the growth is

pub growth_small : (k own times : ℤ) → IsFitting k → pos 0 <ℤ own → pos 0 <ℤ times → IsFitting (own *ℤ times) → IsFactor (k *ℤ (own *ℤ (times -ℤ pos 1))) × IsFitting (own *ℤ (times -ℤ pos 1))
growth_small k (pos own) (pos times) fits up above small =
    let less : pos times -ℤ pos 1 ≡ pos (times - 1) = omega (arith, ints, above) in
    let part : own * (times - 1) < PART_BOUND = shorter own times (omega (arith, ints, above)) small in
    let e : pos own *ℤ (pos times -ℤ pos 1) ≡ pos (own * (times - 1)) = ap (λ (z : ℤ). pos own *ℤ z) less in
    let size : unsigned_abs (k *ℤ (pos own *ℤ (pos times -ℤ pos 1))) ≡ unsigned_abs k * (own * (times - 1)) = ap (λ (z : ℤ). unsigned_abs (k *ℤ z)) e ∙ unsigned_abs-mul k (pos (own * (times - 1))) in (
      subst (λ (n : ℕ). n < 2 ^ 84) (sym size) (product-small (unsigned_abs k) (own * (times - 1)) fits part),
      subst (λ (z : ℤ). IsFitting z) (sym e) part,
    )
  where
    shorter : (own times : ℕ) → 0 < times → own * times < PART_BOUND → own * (times - 1) < PART_BOUND
    shorter own zero h s = absurd (omega (arith, h))
    shorter own (suc m) h s = let n : ℕ = own * m in let e : own * suc m ≡ own * m + own = omega arith in let f : suc m - 1 ≡ m = omega arith in subst (λ (i : ℕ). own * i < PART_BOUND) (sym f) (omega (arith, e, s))

    product-small : (a b : ℕ) → a < PART_BOUND → b < PART_BOUND → a * b < 2 ^ 84
    product-small a b h k = let a' : a ≤ PART_BOUND - 1 = omega (arith, h) in let b' : b ≤ PART_BOUND - 1 = omega (arith, k) in let m : a * b ≤ (PART_BOUND - 1) * (PART_BOUND - 1) = mul-le-mul a' b' in omega (arith, m)
growth_small k (pos own) (negsuc times) fits up above small = absurd above.lt
growth_small k (negsuc own) times fits up above small = absurd up.lt

-- ---- the row that leaves

pub leaver_is : (t : Lists) (r : Row) (id line home : ℕ) (side : Side) → AreSlots t → r.id ≡ id → Any (λ s. s ≡ r) t.rows → HasOneIn (marks_at t) r → line ≡ line_slot t (Held id) → ((s : Side) → (standing_at t line).side ≡ Some s → side ≡ s) → home ≡ (slot_at t line).home
    → IsLeaver t r (record { id = id; line = line; side = side; level = home })
leaver_is t r id line home side slots own held one at side_is home_is =
    let there : line_slot t (Held r.id) ≡ line = ap (λ (n : ℕ). line_slot t (Held n)) own ∙ sym at in
    let s = one-side t r one in
    let stands : (standing_at t line).side ≡ Some s.0 = ap (λ (w : ℕ). (standing_at t w).side) (sym there) ∙ s.1 in
    let slot : IsLineSlot t (line_of_row r) = any_is (IsLineSlot t) (λ l. l ≡ line_of_row r) (lines (problem_of t)) slots.lines (row_line t r held) (λ l k e. subst (IsLineSlot t) e k) in
    record {
      held = held;
      id_is = sym own;
      line_is = there;
      side_is = stands ∙ ap Some (sym (side_is s.0 stands));
      level_is = home_is ∙ ap (λ (w : ℕ). (slot_at t w).home) (sym there) ∙ slot.home;
    }

pub leaver_name : (t : Lists) (r : Row) (id : ℕ) → r.id ≡ id → Any (λ s. s ≡ r) t.rows → IsNamed (problem_of t) (Held id)
leaver_name t r id own held = subst (λ (n : ℕ). IsNamed (problem_of t) (Held n)) own (row_name t r held)

-- ---- a unit more

pub more_never : (t : Lists) (s : Row) (unit : ℤ) → IsKept t → Any (λ o. o ≡ s) t.rows → HasMultiple s unit → IsUnfitRise (slot_at t (line_slot t (Held s.id))) unit → ⊥
more_never t s unit kept is room rise =
    let slot = row_slot t s kept is in
    let whole : IsRow s = any_is IsRow (λ o. o ≡ s) t.rows kept.whole.rows is (λ o k e. subst IsRow e k) in
    never_unfit s (slot_at t (line_slot t (Held s.id))) unit whole.scale.0 (ap unsigned_abs slot.scale) (ap unsigned_abs slot.weight) room rise

pub unit_step : (t : Lists) (x : Leaver) (i : ℕ) (s : Row) (unit next : ℤ) → IsKept t → Any (λ o. o ≡ s) t.rows → i < length t.rows → get_or t.rows i s ≡ s → 1000 - s.rank ≡ x.level → s.id ≢ x.id
    → IsUnitTo x t.rows i unit → pos 0 <ℤ next → IsLeastUnit (slot_at t (line_slot t (Held s.id))) unit (unsigned_abs next) → IsUnitTo x t.rows (i + 1) next
unit_step t x i s unit next kept is lt e level other h above least =
    let slot = row_slot t s kept is in
    let whole : IsRow s = any_is IsRow (λ o. o ≡ s) t.rows kept.whole.rows is (λ o k e. subst IsRow e k) in
    one_row_more x t.rows i s (slot_at t (line_slot t (Held s.id))) unit next lt e level other whole.scale.0 (ap unsigned_abs slot.scale) (ap unsigned_abs slot.weight) h above least

pub among : (rows : List Row) (i : ℕ) (s : Row) → i < length rows → get_or rows i s ≡ s → Any (λ o. o ≡ s) rows
among rows i s lt e = (i, s, lt, e, refl)

-- ---- the row as the code finds it

pub signed_cost : (t : Lists) (r : Row) (x : Leaver) → IsLeavingRow t r x → IsFitting (pos (left_count t x) *ℤ sign_of x.side)
signed_cost t r x h = either x.side (left_count t x) (count_fits t r x h)
  where
    either : (side : Side) (n : ℕ) → IsFitting (pos n) → IsFitting (pos n *ℤ sign_of side)
    either Under n h = omega (arith, ints, h)
    either Over n h = omega (arith, ints, h)

pub line_above : (t : Lists) (r : Row) (x : Leaver) → IsLeavingRow t r x → pos 0 <ℤ entry t x.line x.line
line_above t r x h = subst (λ (z : ℤ). pos 0 <ℤ z) (sym (its_size_is t r x h)) (positive-pos (its_size t r x h) (its_size_above t r x h))

pub level_above : (t : Lists) (r : Row) (x : Leaver) → IsLeavingRow t r x → pos 0 <ℤ entry t x.level x.level
level_above t r x h = subst (λ (z : ℤ). pos 0 <ℤ z) (sym (level_own_is t r x h)) (positive-pos (level_kept t r x h).own (level_kept t r x h).numbers.row.own_positive)

share-k : (k : ℕ) (z : ℤ) → z ≡ pos k *ℤ pos 1 → z ≡ pos k
share-k k z e = e ∙ times-one (pos k)

unit-product : (old unit : ℤ) (times size : ℕ) → old ≡ pos times *ℤ unit → unit ≡ pos size → old ≡ pos (times * size)
unit-product old unit times size e f = e ∙ ap (λ (z : ℤ). pos times *ℤ z) f

-- what the code has found of the row of the level
pub record IsMade (t : Lists) (x : Leaver) (unit own line_own count times : ℤ) (by : Factors) (but : Patch) (a b : List Term) : Type 0 where
  pub left_unit : IsLeftUnit t x unit
  pub own_is : own ≡ entry t x.level x.level
  pub line_is : line_own ≡ entry t x.line x.line
  pub count_is : count ≡ neg_ℤ (pos (left_count t x) *ℤ sign_of x.side)
  pub factors : AreShareFactors own line_own count (pos 1) by
  pub size : ℕ
  pub times_is : times ≡ pos size
  pub times_above : 0 < size
  pub whole : IsTimes t x unit size
  pub extra : but.extra ≡ by.k *ℤ (own *ℤ (times -ℤ pos 1))
  pub without : but.without.0 ≡ x.line
  pub at_is : but.at.0 ≡ x.level
  pub level_row : row_at t x.level ≡ a
  pub line_row : row_at t x.line ≡ b

made-whole : (t : Lists) (r : Row) (x : Leaver) (unit own line_own count times : ℤ) (by : Factors) (but : Patch) (a b : List Term) → IsLeavingRow t r x → (m : IsMade t x unit own line_own count times by but a b) → (c : ℕ) → combination_but by a b but c ≡ left_whole t x m.size m.factors.k by.n c
made-whole t r x unit own line_own count times by but a b h m c =
    let kis = share-k m.factors.k by.k m.factors.k_is in
    whole_is t r x m.factors.k m.size by but a b h m.times_above kis
    (m.extra ∙ ap₂ ◌*ℤ◌ kis (ap₂ (λ (o s : ℤ). o *ℤ (s -ℤ pos 1)) m.own_is m.times_is)) m.without m.at_is m.level_row m.line_row c

pub made_row : (t : Lists) (r : Row) (x : Leaver) (unit own line_own count times : ℤ) (by : Factors) (but : Patch) (a b row : List Term) → IsLeavingRow t r x → IsReduced row (combination_but by a b but) → IsMade t x unit own line_own count times by but a b → IsLowestRow row
    → IsLeftRow t x (unsigned_abs unit) row
made_row t r x unit own line_own count times by but a b row h red m lowest =
    subst (λ (n : ℕ). IsLeftRow t x n row) (sym (ap unsigned_abs m.left_unit.unit_is))
    (left_row_is t r x m.left_unit.size m.size m.factors.k by.n row h m.left_unit.least m.times_above (unit-product (priority_at t x.level).unit unit m.size m.left_unit.size m.whole m.left_unit.unit_is)
    (left_share t r x own line_own count by h m.own_is m.line_is m.count_is m.factors)
    (reduced_same row (combination_but by a b but) (left_whole t x m.size m.factors.k by.n) (made-whole t r x unit own line_own count times by but a b h m) red) lowest)

pub made_unfit : (t : Lists) (r : Row) (x : Leaver) (unit own line_own count times : ℤ) (by : Factors) (but : Patch) (a b : List Term) → IsLeavingRow t r x → IsUnfit (combination_but by a b but) → IsMade t x unit own line_own count times by but a b
    → HasNoLevelWriting (problem_left t x) (marks_left t x) x.level
made_unfit t r x unit own line_own count times by but a b h unfit m =
    left_unfit t r x m.left_unit.size m.size m.factors.k by.n h m.left_unit.least m.times_above (unit-product (priority_at t x.level).unit unit m.size m.left_unit.size m.whole m.left_unit.unit_is)
    (left_share t r x own line_own count by h m.own_is m.line_is m.count_is m.factors)
    (unfit_same (combination_but by a b but) (left_whole t x m.size m.factors.k by.n) (made-whole t r x unit own line_own count times by but a b h m) unfit)

-- ---- sizes of words

pub factor_sfits : (z : ℤ) → unsigned_abs z < 2 ^ 84 → SFits w128 z
factor_sfits z h = omega (arith, ints, h)

pub factor_fits : (z : ℤ) → unsigned_abs z < 2 ^ 84 → FitsSigned w128 z
factor_fits z h = fits_signed_from_abs w128 z (omega (arith, h))

pub growth_times : (own times : ℤ) → pos 0 <ℤ own → pos 0 <ℤ times → IsFitting (own *ℤ times) → IsFitting (times -ℤ pos 1)
growth_times (pos own) (pos times) up above small = let t : times < PART_BOUND = own-part own times PART_BOUND (omega (arith, ints, up)) small in omega (arith, ints, above, t)
growth_times (pos own) (negsuc times) up above small = absurd above.lt
growth_times (negsuc own) times up above small = absurd up.lt

-- ---- a share that is whole in each unit

pub free_share : (t : Lists) (r : Row) (x : Leaver) (slot : Slot) (d : ℤ) → IsLeavingRow t r x → slot ≡ slot_at t x.line → d ≡ slot.scale → IsGcd (unsigned_abs slot.scale) (unsigned_abs slot.weight) (unsigned_abs d) → r.scale ∣ r.weight
free_share t r x slot d h e same is =
    let s = its_slot t r x h in
    let there : slot ≡ slot_at t (line_slot t (Held r.id)) = e ∙ ap (λ (w : ℕ). slot_at t w) (sym h.is.line_is) in
    let scale : unsigned_abs d ≡ r.scale = ap unsigned_abs (same ∙ ap (λ (z : Slot). z.scale) there ∙ s.scale) in
    let weight : unsigned_abs slot.weight ≡ r.weight = ap unsigned_abs (ap (λ (z : Slot). z.weight) there ∙ s.weight) in
    subst (λ (n : ℕ). n ∣ r.weight) scale (subst (λ (n : ℕ). unsigned_abs d ∣ n) weight is.1)

pub its_scale_above : (t : Lists) (r : Row) (x : Leaver) → IsLeavingRow t r x → pos 0 <ℤ (slot_at t x.line).scale
its_scale_above t r x h = scale_above (slot_at t x.line) (unit_at t (slot_at t x.line).home) (its_counted t r x h)
