-- How much each slot's value grows with a row's constant, as the lists have it.
use Rattle.std.proofs.Common.{◌≡◌, ◌≢◌, ◌∙◌, ℕ, ◌*◌, ◌<◌, ◌≤◌, Bool, cond, nat_eq, List, refl, sym, ap, ap₂, subst, arith, inl, inr, ℤ, pos, ◌+ℤ◌, ◌*ℤ◌, neg_ℤ, Some, None, eq-eqb, ne_eqb, lt-ltb, le-ltb}
use Rattle.std.specs.declared.option.Option.{Option}
use Rattle.std.proofs.lemmas.Bool.{cases_eq}
use Rattle.std.proofs.lemmas.List.Elements.{All-from_recursion}
use lib.IntN.{*ℤ_comm}
use borrow.Author.Differences.{ints}
use Rattle.frac_core.specs.Fraction.{Fraction, IsRatio, IsUnfitRatio, sum_den, sum_num}
use Rattle.frac_core.specs.Fraction as fractions
use Rattle.frac_core.proofs.Integers.{cancel_mul, mul-add_left, mul-zero_ℤ, mul_assoc_ℤ, mul_left_comm_ℤ}
use Rattle.problem_core.specs.declared.parts.RowName.{RowName}
use Rattle.problem_core.specs.declared.parts.RowName.TheVariants.{Held}
use Rattle.problem_core.specs.declared.parts.Side.{Side}
use Rattle.problem_core.specs.declared.parts.Side.TheVariants.{Over}
use Rattle.problem_core.specs.Layout.{lines}
use Rattle.problem_core.specs.Corners.{IsIn, place_of}
use Rattle.problem_core.proofs.Forms.{each-both}
use Rattle.corner_lines.specs.LineEquations.{IsOutsideLine, sign_of}
use Rattle.corner_lines.specs.Levels.LevelRows.{inside_number}
use Rattle.corner_lines.specs.Shifts.{IsShift}
use Rattle.corner_lines.proofs.LevelRows.LevelExchanges.{inside-numbers}
use Rattle.corner_lines.proofs.Lines.LineWritings.{named-mark}
use Rattle.corner_lines.proofs.ProblemChanges.Shifted.{held-named}
use Rattle.corner_shifts.specs.declared.shifting.Growth.{Growth}
use Rattle.corner_view.specs.declared.types.Owner.{Owner}
use Rattle.corner_table.specs.declared.table.Standing.{Standing}
use Rattle.corner_table.specs.declared.table.TheConstants.{LEVELS}
use Rattle.corner_table.specs.Tables.{Lists, entry, line_slot, marks_at, number, priority_at, problem_of, slot_at, standing_at}
use Rattle.corner_table.specs.Kept.{IsKept, IsLevelKept, IsSlot, home_of, level_own}
use Rattle.corner_exchange.specs.Swaps.LevelChanges.{count_by}
use Rattle.corner_table.specs.Reads.LevelNumbers.{count_of, unit_at}
use Rattle.corner_shifts.specs.Shifting.{AreShifted, growth_at, growth_by, home_growth, inside_growth, mark_growth, sign_at, sign_there, with_shifted}
use Rattle.corner_view.specs.Seen.{IsNamed}
use Rattle.corner_exchange.proofs.LevelFacts.LevelCounts.{count_is}
use Rattle.corner_writings.proofs.LevelFacts.LevelNumberFacts.{AreLevelsOf, IsKnown, all-known, named_line}
use Rattle.corner_writings.proofs.LevelFacts.LevelRowFacts.{in_line, out_line}
use Rattle.corner_view.proofs.Facts.{mark_named}
use Rattle.corner_shifts.proofs.Shifts.ShiftCosts.{IsShiftHere}
use Rattle.corner_table.proofs.Readings.SlotFacts.{any_is, named_slot}
use Rattle.corner_exchange.proofs.Basics.SumTurns.{nothing-added}
use Rattle.corner_table.proofs.Readings.WritingFacts.{number_is}
use Rattle.frac_core.proofs.Numbers.{one-times, zero-or-not as decide_zero, mul-neg}
use Rattle.problem_core.proofs.Sides.{none-not-some as not-some}

-- lists at which a row's constant changes
pub record IsShiftOf (t : Lists) (id : ℕ) (from to more : Fraction) : Type 0 where
  pub kept : IsKept t
  pub shift : IsShift (problem_of t) id from to more
  pub to_kept : fractions.IsKept to

pub shift_here : (t : Lists) (id : ℕ) (from to more : Fraction) → IsShiftOf t id from to more → IsShiftHere (problem_of t) (marks_at t) id from to more
shift_here t id from to more h = record {
  whole = h.kept.whole;
  corner = h.kept.corner;
  rays = h.kept.rays;
  shift = h.shift;
  kept = h.to_kept;
}

pub shift_line_named : (t : Lists) (id : ℕ) (from to more : Fraction) → IsShiftOf t id from to more → IsNamed (problem_of t) (Held id)
shift_line_named t id from to more h = mark_named (problem_of t) (record { row = Held id; side = Over }) (named-mark (problem_of t) (Held id) Over (held-named (problem_of t) id h.shift.held))

pub shift_line_slot : (t : Lists) (id : ℕ) (from to more : Fraction) → IsShiftOf t id from to more → IsSlot t (line_slot t (Held id))
shift_line_slot t id from to more h = named_slot t (Held id) h.kept.slots (shift_line_named t id from to more h)

-- the home of a row's line is a level's slot
pub home_low : (t : Lists) (id : ℕ) (from to more : Fraction) → IsShiftOf t id from to more → (slot_at t (line_slot t (Held id))).home < LEVELS
home_low t id from to more h =
    named_line t (Held id) h.kept (shift_line_named t id from to more h)
    (λ l k e.
    let home : (slot_at t (line_slot t (Held id))).home ≡ l.level = subst (λ (n : RowName). (slot_at t (line_slot t n)).home ≡ home_of t l n) e k.slot.home in
    let low : l.level ≤ 1000 = subst (λ (n : RowName). AreLevelsOf n l.level) e k.levels in
    omega (arith, home, low))

-- ---- sums with factors

factor-num : (a t : Fraction) (f : ℕ) (n d : ℤ) → sum_num a (pos f *ℤ n) (pos f *ℤ d) t ≡ pos f *ℤ sum_num a n d t
factor-num a t f n d =
    ap₂ ◌+ℤ◌ (ap (λ (z : ℤ). a.num *ℤ z) (mul_assoc_ℤ (pos f) d (pos t.den)) ∙ mul_left_comm_ℤ a.num (pos f) (d *ℤ pos t.den)) (mul_assoc_ℤ (pos f) n (t.num *ℤ pos a.den))
    ∙ sym (mul-add_left (pos f) (a.num *ℤ (d *ℤ pos t.den)) (n *ℤ (t.num *ℤ pos a.den)))

factor-den : (a t : Fraction) (f : ℕ) (d : ℤ) → sum_den a (pos f *ℤ d) t ≡ pos f *ℤ sum_den a d t
factor-den a t f d = ap (λ (z : ℤ). pos a.den *ℤ z) (mul_assoc_ℤ (pos f) d (pos t.den)) ∙ mul_left_comm_ℤ (pos a.den) (pos f) (d *ℤ pos t.den)

pub ratio_factor : (a t next : Fraction) (f : ℕ) (n d : ℤ) → IsRatio next (sum_num a n d t) (sum_den a d t) → IsRatio next (sum_num a (pos f *ℤ n) (pos f *ℤ d) t) (sum_den a (pos f *ℤ d) t)
ratio_factor a t next f n d h =
    ap (λ (z : ℤ). next.num *ℤ z) (factor-den a t f d) ∙ mul_left_comm_ℤ next.num (pos f) (sum_den a d t) ∙ ap (λ (z : ℤ). pos f *ℤ z) h
    ∙ sym (ap (λ (z : ℤ). z *ℤ pos next.den) (factor-num a t f n d) ∙ mul_assoc_ℤ (pos f) (sum_num a n d t) (pos next.den))

pub factor_ratio : (a t next : Fraction) (f : ℕ) (n d : ℤ) → 0 < f → IsRatio next (sum_num a (pos f *ℤ n) (pos f *ℤ d) t) (sum_den a (pos f *ℤ d) t) → IsRatio next (sum_num a n d t) (sum_den a d t)
factor_ratio a t next f n d above h =
    cancel_mul f (next.num *ℤ sum_den a d t) (sum_num a n d t *ℤ pos next.den) above
    (sym (ap (λ (z : ℤ). next.num *ℤ z) (factor-den a t f d) ∙ mul_left_comm_ℤ next.num (pos f) (sum_den a d t)) ∙ h
    ∙ ap (λ (z : ℤ). z *ℤ pos next.den) (factor-num a t f n d) ∙ mul_assoc_ℤ (pos f) (sum_num a n d t) (pos next.den))

-- ---- by the row's line

pub growth_side : (t : Lists) (line w : ℕ) (o : Option Side) → (standing_at t line).side ≡ o → growth_at t line w ≡ growth_by t line o w
growth_side t line w o e = ap (λ (i : Option Side). growth_by t line i w) e

pub own_growth : (t : Lists) (line : ℕ) (s : Side) → inside_growth t line s line ≡ mark_growth s
own_growth t line s =
    ap (λ (b : Bool). cond b (mark_growth s)
    (cond (nat_eq line (slot_at t line).home) (home_growth t line s) (record { n = pos 0; d = pos 1 }))) (eq-eqb line line refl)

other-growth : (t : Lists) (line w : ℕ) (s : Side) → w ≢ line → inside_growth t line s w ≡ cond (nat_eq w (slot_at t line).home) (home_growth t line s) (record { n = pos 0; d = pos 1 })
other-growth t line w s ne =
    ap (λ (b : Bool). cond b (mark_growth s)
    (cond (nat_eq w (slot_at t line).home) (home_growth t line s) (record { n = pos 0; d = pos 1 }))) (ne_eqb w line ne)

-- no growth where the row is inside and the slot is neither its line's nor its level's
no-growth : (t : Lists) (line w : ℕ) (s : Side) → w ≢ line → w ≢ (slot_at t line).home → inside_growth t line s w ≡ record { n = pos 0; d = pos 1 }
no-growth t line w s ne other =
    other-growth t line w s ne
    ∙ ap (λ (b : Bool). cond b (home_growth t line s) (record { n = pos 0; d = pos 1 })) (ne_eqb w (slot_at t line).home other)

-- ---- attributes and other lines

-- a line that is inside stands in no other row
inside-absent : (t : Lists) (w line : ℕ) (s : Side) → IsKept t → w ≢ line → (standing_at t line).side ≡ Some s → entry t w line ≡ pos 0
inside-absent t w line s kept ne inside = elim (decide_zero (entry t w line)) [
  | inl none ↦ none
  | inr some ↦ absurd (not-some s (sym (kept.outside w line some (λ e. ne (sym e))).1 ∙ inside))
]

-- the row's number in the slot's row, with the slot's sign, over its own number; or it has none
pub record GrowsBy (t : Lists) (id w own : ℕ) : Type 0 where
  pub n : (growth_at t (line_slot t (Held id)) w).n ≡ sign_at t w *ℤ number t w (Held id)
  pub d : (growth_at t (line_slot t (Held id)) w).n ≢ pos 0 → (growth_at t (line_slot t (Held id)) w).d ≡ pos own

pub number_grows : (t : Lists) (id : ℕ) (from to more : Fraction) (w own : ℕ) → IsShiftOf t id from to more → LEVELS ≤ w → w ≢ line_slot t (Held id) → entry t w w ≡ pos own → GrowsBy t id w own
number_grows t id from to more w own h high ne own_is = by_case (standing_at t (line_slot t (Held id))).side refl
  where
    num : number t w (Held id) ≡ neg_ℤ (entry t w (line_slot t (Held id)))
    num = number_is t w (Held id) (λ e. ne (sym e))

    by_case : (o : Option Side) → (standing_at t (line_slot t (Held id))).side ≡ o → GrowsBy t id w own
    by_case None e =
        let g = growth_side t (line_slot t (Held id)) w None e in
        record {
          n = ap (λ (k : Growth). k.n) g ∙ sym (ap (λ (z : ℤ). sign_at t w *ℤ z) num ∙ mul-neg (sign_at t w) (entry t w (line_slot t (Held id))));
          d = λ some. ap (λ (k : Growth). k.d) g ∙ ap (λ (b : Bool). cond b (level_own t w *ℤ (priority_at t w).unit) (entry t w w)) (le-ltb w LEVELS high) ∙ own_is;
        }
    by_case (Some s) e =
        let g = growth_side t (line_slot t (Held id)) w (Some s) e ∙ no-growth t (line_slot t (Held id)) w s ne (λ q. absurd (let low = home_low t id from to more h in omega (arith, low, q, high))) in
        let none : number t w (Held id) ≡ pos 0 = num ∙ ap neg_ℤ (inside-absent t w (line_slot t (Held id)) s h.kept ne e) in
        record {
          n = ap (λ (k : Growth). k.n) g ∙ sym (ap (λ (z : ℤ). sign_at t w *ℤ z) none ∙ mul-zero_ℤ (sign_at t w));
          d = λ some. absurd (some (ap (λ (k : Growth). k.n) g));
        }

-- ---- levels

-- a factor times the growth is the row's number in the level's row, over its own number and its unit
pub record LevelGrows (t : Lists) (id k own unit : ℕ) (by : ℤ) : Type 0 where
  pub none : (growth_at t (line_slot t (Held id)) k).n ≡ pos 0 → by ≡ pos 0
  pub factor : ℕ
  pub above : 0 < factor
  pub n : (growth_at t (line_slot t (Held id)) k).n ≢ pos 0 → by ≡ pos factor *ℤ (growth_at t (line_slot t (Held id)) k).n
  pub d : (growth_at t (line_slot t (Held id)) k).n ≢ pos 0 → pos (own * unit) ≡ pos factor *ℤ (growth_at t (line_slot t (Held id)) k).d

-- where the row is outside
out-level : (t : Lists) (id : ℕ) (from to more : Fraction) (k : ℕ) (h : IsShiftOf t id from to more) (low : k < LEVELS) → (standing_at t (line_slot t (Held id))).side ≡ None
    → LevelGrows t id k (h.kept.levels k low).own (h.kept.levels k low).unit ((h.kept.levels k low).numbers.by (Held id))
out-level t id from to more k h low e =
    let line : ℕ = line_slot t (Held id) in
    let l : IsLevelKept t k = h.kept.levels k low in
    let g = growth_side t (line_slot t (Held id)) k None e in
    let named = shift_line_named t id from to more h in
    let slot = shift_line_slot t id from to more h in
    let number_there : l.numbers.by (Held id) ≡ number t k (Held id) =
    any_is (λ i. IsOutsideLine (marks_at t) i.name → l.numbers.by i.name ≡ number t k i.name) (λ i. i.name ≡ Held id) (lines (problem_of t)) l.numbers.outside named
    (λ i f q. subst (λ (n : RowName). IsOutsideLine (marks_at t) n → l.numbers.by n ≡ number t k n) q f) (out_line t (Held id) e) in
    let by_is : l.numbers.by (Held id) ≡ neg_ℤ (entry t k (line_slot t (Held id))) = number_there ∙ number_is t k (Held id) (λ q. let high = slot.0 in absurd (omega (arith, high, low, q))) in
    let sign_is : sign_at t k ≡ pos 1 = ap (λ (o : Owner). sign_there o (standing_at t k).side) (h.kept.slots.level_owners k low) in
    let plain : neg_ℤ (sign_at t k *ℤ entry t k (line_slot t (Held id))) ≡ neg_ℤ (entry t k (line_slot t (Held id))) =
    ap (λ (z : ℤ). neg_ℤ (z *ℤ entry t k (line_slot t (Held id)))) sign_is ∙ ap neg_ℤ (one-times (entry t k (line_slot t (Held id)))) in
    let n_is : (growth_at t (line_slot t (Held id)) k).n ≡ l.numbers.by (Held id) = ap (λ (b : Growth). b.n) g ∙ plain ∙ sym by_is in
    let d_is : (growth_at t (line_slot t (Held id)) k).d ≡ pos (l.own * l.unit) =
    ap (λ (b : Growth). b.d) g ∙ ap (λ (b : Bool). cond b (level_own t k *ℤ (priority_at t k).unit) (entry t k k)) (lt-ltb k LEVELS low) ∙ ap₂ ◌*ℤ◌ l.own_is l.unit_is in
    record {
      none = λ z. sym n_is ∙ z;
      factor = 1;
      above = omega arith;
      n = λ some. sym n_is ∙ sym (one-times (growth_at t (line_slot t (Held id)) k).n);
      d = λ some. sym d_is ∙ sym (one-times (growth_at t (line_slot t (Held id)) k).d);
    }

-- what an inside line counts
in-level-number : (t : Lists) (id : ℕ) (from to more : Fraction) (k : ℕ) (s : Side) (h : IsShiftOf t id from to more) (low : k < LEVELS) → (standing_at t (line_slot t (Held id))).side ≡ Some s
    → (h.kept.levels k low).numbers.by (Held id) ≡ neg_ℤ (pos (h.kept.levels k low).own *ℤ count_by t k (line_slot t (Held id)) s)
in-level-number t id from to more k s h low e =
    let l : IsLevelKept t k = h.kept.levels k low in
    any_is (λ i. IsKnown t i × ((side : Side) → IsIn (place_of i.name side) (marks_at t) → l.numbers.by i.name ≡ inside_number side k l.unit l.own i)) (λ i. i.name ≡ Held id) (lines (problem_of t))
    (All-from_recursion _ (lines (problem_of t)) (each-both _ _ (lines (problem_of t)) (all-known t h.kept) (inside-numbers (problem_of t) (marks_at t) k l.unit l.own l.numbers.by l.numbers.row)))
    (shift_line_named t id from to more h)
    (λ i f q. subst (λ (n : RowName). l.numbers.by n ≡ neg_ℤ (pos l.own *ℤ count_by t k (line_slot t n) s)) q
    (turned-over (l.numbers.by i.name) (inside_number s k l.unit l.own i) (pos l.own *ℤ count_by t k (line_slot t i.name) s)
    (f.1 s (in_line t i s f.0 (ap (λ (n : RowName). (standing_at t (line_slot t n)).side) q ∙ e)))
    (count_is t k l.unit l.own i s h.kept f.0 low l.unit_is)))
  where
    turned-over : (a b c : ℤ) → a ≡ b → c ≡ neg_ℤ b → a ≡ neg_ℤ c
    turned-over a b c p q = omega (arith, ints, p, q)

in-level : (t : Lists) (id : ℕ) (from to more : Fraction) (k : ℕ) (s : Side) (h : IsShiftOf t id from to more) (low : k < LEVELS) → (standing_at t (line_slot t (Held id))).side ≡ Some s
    → LevelGrows t id k (h.kept.levels k low).own (h.kept.levels k low).unit ((h.kept.levels k low).numbers.by (Held id))
in-level t id from to more k s h low e =
    let l : IsLevelKept t k = h.kept.levels k low in
    let slot = shift_line_slot t id from to more h in
    let g = growth_side t (line_slot t (Held id)) k (Some s) e ∙ other-growth t (line_slot t (Held id)) k s (λ q. let high = slot.0 in absurd (omega (arith, high, low, q))) in
    let number_there = in-level-number t id from to more k s h low e in
    elim (cases_eq k (slot_at t (line_slot t (Held id))).home) [
      | inl there ↦
          let at = g ∙ ap (λ (b : Bool). cond b (home_growth t (line_slot t (Held id)) s) (record { n = pos 0; d = pos 1 })) (eq-eqb k (slot_at t (line_slot t (Held id))).home there) in
          let count : count_by t k (line_slot t (Held id)) s ≡ pos (count_of t (slot_at t (line_slot t (Held id))) s) *ℤ sign_of s =
          ap (λ (b : Bool). cond b (pos (count_of t (slot_at t (line_slot t (Held id))) s) *ℤ sign_of s) (pos 0)) (eq-eqb (slot_at t (line_slot t (Held id))).home k (sym there)) in
          let by_is : l.numbers.by (Held id) ≡ pos l.own *ℤ (growth_at t (line_slot t (Held id)) k).n =
          number_there ∙ ap (λ (z : ℤ). neg_ℤ (pos l.own *ℤ z)) (count ∙ *ℤ_comm (pos (count_of t (slot_at t (line_slot t (Held id))) s)) (sign_of s)) ∙ sym (mul-neg (pos l.own) (sign_of s *ℤ pos (count_of t (slot_at t (line_slot t (Held id))) s)))
          ∙ ap (λ (z : ℤ). pos l.own *ℤ z) (sym (ap (λ (b : Growth). b.n) at)) in
          let d_is : (growth_at t (line_slot t (Held id)) k).d ≡ pos l.unit = ap (λ (b : Growth). b.d) at ∙ ap (unit_at t) (sym there) ∙ ap (λ (b : Bool). cond b (priority_at t k).unit (pos 1)) (lt-ltb k LEVELS low) ∙ l.unit_is in
          record {
            none = λ z. by_is ∙ ap (λ (y : ℤ). pos l.own *ℤ y) z ∙ mul-zero_ℤ (pos l.own);
            factor = l.own;
            above = l.numbers.row.own_positive;
            n = λ some. by_is;
            d = λ some. sym (ap (λ (z : ℤ). pos l.own *ℤ z) d_is);
          }
      | inr apart ↦
          let at = g ∙ ap (λ (b : Bool). cond b (home_growth t (line_slot t (Held id)) s) (record { n = pos 0; d = pos 1 })) (ne_eqb k (slot_at t (line_slot t (Held id))).home apart) in
          let count : count_by t k (line_slot t (Held id)) s ≡ pos 0 = ap (λ (b : Bool). cond b (pos (count_of t (slot_at t (line_slot t (Held id))) s) *ℤ sign_of s) (pos 0)) (ne_eqb (slot_at t (line_slot t (Held id))).home k (λ q. apart (sym q))) in
          record {
            none = λ z. number_there ∙ ap (λ (y : ℤ). neg_ℤ (pos l.own *ℤ y)) count ∙ ap neg_ℤ (mul-zero_ℤ (pos l.own));
            factor = 1;
            above = omega arith;
            n = λ some. absurd (some (ap (λ (b : Growth). b.n) at));
            d = λ some. absurd (some (ap (λ (b : Growth). b.n) at));
          }
    ]

pub level_grows : (t : Lists) (id : ℕ) (from to more : Fraction) (k : ℕ) (h : IsShiftOf t id from to more) (low : k < LEVELS)
    → LevelGrows t id k (h.kept.levels k low).own (h.kept.levels k low).unit ((h.kept.levels k low).numbers.by (Held id))
level_grows t id from to more k h low = by_case (standing_at t (line_slot t (Held id))).side refl
  where
    by_case : (o : Option Side) → (standing_at t (line_slot t (Held id))).side ≡ o → LevelGrows t id k (h.kept.levels k low).own (h.kept.levels k low).unit ((h.kept.levels k low).numbers.by (Held id))
    by_case None e = out-level t id from to more k h low e
    by_case (Some s) e = in-level t id from to more k s h low e

-- ---- the values after

pub slot_grown : (t : Lists) (id : ℕ) (from to more : Fraction) (standings : List Standing) (w own : ℕ) → IsShiftOf t id from to more → AreShifted t id more standings → LEVELS ≤ w → w ≢ line_slot t (Held id) → entry t w w ≡ pos own
    → IsRatio (standing_at (with_shifted id to standings t) w).value (sum_num (standing_at t w).value (sign_at t w *ℤ number t w (Held id)) (pos own) more) (sum_den (standing_at t w).value (pos own) more)
slot_grown t id from to more standings w own h s high ne own_is =
    let g = number_grows t id from to more w own h high ne own_is in
    elim (decide_zero (growth_at t (line_slot t (Held id)) w).n) [
      | inl none ↦
          subst (λ (f : Fraction). IsRatio f (sum_num (standing_at t w).value (sign_at t w *ℤ number t w (Held id)) (pos own) more) (sum_den (standing_at t w).value (pos own) more)) (sym (ap (λ (x : Standing). x.value) (s.others w none)))
          (nothing-added (standing_at t w).value more (sign_at t w *ℤ number t w (Held id)) (pos own) (inl (sym g.n ∙ none)))
      | inr some ↦
          subst (λ (z : ℤ). IsRatio (standing_at (with_shifted id to standings t) w).value (sum_num (standing_at t w).value z (pos own) more) (sum_den (standing_at t w).value (pos own) more)) g.n
          (subst (λ (z : ℤ). IsRatio (standing_at (with_shifted id to standings t) w).value (sum_num (standing_at t w).value (growth_at t (line_slot t (Held id)) w).n z more) (sum_den (standing_at t w).value z more)) (g.d some) (s.grown w some))
    ]

pub level_grown : (t : Lists) (id : ℕ) (from to more : Fraction) (standings : List Standing) (k : ℕ) (h : IsShiftOf t id from to more) → AreShifted t id more standings → (low : k < LEVELS)
    → IsRatio (standing_at (with_shifted id to standings t) k).value (sum_num (standing_at t k).value ((h.kept.levels k low).numbers.by (Held id)) (pos ((h.kept.levels k low).own * (h.kept.levels k low).unit)) more)
    (sum_den (standing_at t k).value (pos ((h.kept.levels k low).own * (h.kept.levels k low).unit)) more)
level_grown t id from to more standings k h s low =
    let l : IsLevelKept t k = h.kept.levels k low in
    let b : ℤ = (h.kept.levels k low).numbers.by (Held id) in
    let d : ℤ = pos ((h.kept.levels k low).own * (h.kept.levels k low).unit) in
    let g = level_grows t id from to more k h low in
    elim (decide_zero (growth_at t (line_slot t (Held id)) k).n) [
      | inl none ↦
          subst (λ (f : Fraction). IsRatio f (sum_num (standing_at t k).value b d more) (sum_den (standing_at t k).value d more)) (sym (ap (λ (x : Standing). x.value) (s.others k none)))
          (nothing-added (standing_at t k).value more b d (inl (g.none none)))
      | inr some ↦
          subst (λ (z : ℤ). IsRatio (standing_at (with_shifted id to standings t) k).value (sum_num (standing_at t k).value z d more) (sum_den (standing_at t k).value d more)) (sym (g.n some))
          (subst (λ (z : ℤ). IsRatio (standing_at (with_shifted id to standings t) k).value (sum_num (standing_at t k).value (pos g.factor *ℤ (growth_at t (line_slot t (Held id)) k).n) z more) (sum_den (standing_at t k).value z more)) (sym (g.d some))
          (ratio_factor (standing_at t k).value more (standing_at (with_shifted id to standings t) k).value g.factor (growth_at t (line_slot t (Held id)) k).n (growth_at t (line_slot t (Held id)) k).d (s.grown k some)))
    ]

-- ---- what does not fit

-- the sum that the slot's value grows to
abbrev pub IsUnfitGrowth : Lists → ℕ → ℕ → Fraction → Type 0
IsUnfitGrowth t id w more = IsUnfitRatio (sum_num (standing_at t w).value (growth_at t (line_slot t (Held id)) w).n (growth_at t (line_slot t (Held id)) w).d more) (sum_den (standing_at t w).value (growth_at t (line_slot t (Held id)) w).d more)

pub slot_unfit : (t : Lists) (id : ℕ) (from to more : Fraction) (w own : ℕ) → IsShiftOf t id from to more → LEVELS ≤ w → w ≢ line_slot t (Held id) → entry t w w ≡ pos own → (growth_at t (line_slot t (Held id)) w).n ≢ pos 0 → IsUnfitGrowth t id w more
    → IsUnfitRatio (sum_num (standing_at t w).value (sign_at t w *ℤ number t w (Held id)) (pos own) more) (sum_den (standing_at t w).value (pos own) more)
slot_unfit t id from to more w own h high ne own_is some unfit =
    let g = number_grows t id from to more w own h high ne own_is in
    subst (λ (z : ℤ). IsUnfitRatio (sum_num (standing_at t w).value z (pos own) more) (sum_den (standing_at t w).value (pos own) more)) g.n
    (subst (λ (z : ℤ). IsUnfitRatio (sum_num (standing_at t w).value (growth_at t (line_slot t (Held id)) w).n z more) (sum_den (standing_at t w).value z more)) (g.d some) unfit)

pub level_unfit_growth : (t : Lists) (id : ℕ) (from to more : Fraction) (k : ℕ) (h : IsShiftOf t id from to more) (low : k < LEVELS) → (growth_at t (line_slot t (Held id)) k).n ≢ pos 0 → IsUnfitGrowth t id k more
    → IsUnfitRatio (sum_num (standing_at t k).value ((h.kept.levels k low).numbers.by (Held id)) (pos ((h.kept.levels k low).own * (h.kept.levels k low).unit)) more)
    (sum_den (standing_at t k).value (pos ((h.kept.levels k low).own * (h.kept.levels k low).unit)) more)
level_unfit_growth t id from to more k h low some unfit =
    let d : ℤ = pos ((h.kept.levels k low).own * (h.kept.levels k low).unit) in
    let g = level_grows t id from to more k h low in
    subst (λ (z : ℤ). IsUnfitRatio (sum_num (standing_at t k).value z d more) (sum_den (standing_at t k).value d more)) (sym (g.n some))
    (subst (λ (z : ℤ). IsUnfitRatio (sum_num (standing_at t k).value (pos g.factor *ℤ (growth_at t (line_slot t (Held id)) k).n) z more) (sum_den (standing_at t k).value z more)) (sym (g.d some))
    (λ f low_f ratio fits. unfit f low_f (factor_ratio (standing_at t k).value more f g.factor (growth_at t (line_slot t (Held id)) k).n (growth_at t (line_slot t (Held id)) k).d g.above ratio) fits))
