-- The row and the cost of a level after an exchange.
use Rattle.std.proofs.Common.{◌≡◌, ◌≢◌, ◌∙◌, ◌⊎◌, inl, inr, ℕ, ◌*◌, ◌<◌, ◌≤◌, Bool, cond, nat_eq, List, get_or, refl, sym, ap, ap₂, subst, arith, ℤ, pos, negsuc, neg_ℤ, ◌+ℤ◌, ◌-ℤ◌, ◌*ℤ◌, unsigned_abs, All, eq-eqb, ne_eqb, mul-pos, Some, None}
use Rattle.std.specs.declared.option.Option.{Option}
use Rattle.std.proofs.lemmas.Bool.{cases_eq}
use Rattle.std.proofs.lemmas.List.Elements.{All-from_recursion}
use borrow.Author.Differences.{ints}
use Rattle.frac_core.specs.Fraction.{IsFitting}
use Rattle.frac_core.proofs.Integers.{add-zero_ℤ, mul-zero_ℤ, neg-neg}
use Rattle.row_core.specs.Rows.{Term, coefficient, combination, IsLowestRow, IsReduced, IsUnfit}
use Rattle.problem_core.specs.declared.parts.RowName.{RowName}
use Rattle.problem_core.specs.declared.parts.Side.{Side}
use Rattle.problem_core.specs.declared.parts.Side.TheVariants.{Under}
use Rattle.problem_core.specs.Layout.{Line, lines}
use Rattle.problem_core.specs.Corners.{Swap, place_of}
use Rattle.problem_core.specs.Levels.{HasNoLevelWriting}
use Rattle.problem_core.proofs.Forms.{each-impl}
use Rattle.corner_lines.specs.LineEquations.{IsOutsideLine, sign_of}
use Rattle.corner_lines.specs.Levels.LevelRows.{AreFactors, HasLevelRow, IsEnteringNumber, IsLeavingNumber, IsLevelExchange, IsPivot, exchanged_sum, inside_number, line_numbers}
use Rattle.corner_lines.proofs.LevelRows.LevelDivided.{divided-same}
use Rattle.corner_lines.proofs.LevelRows.LevelExchanges.{by-sides, exchanged_row_is_multiple, exchanged_row_is_row, at-side as at_side}
use Rattle.corner_lines.proofs.Costs.LevelFits.{unfit_multiple_has_no_writing}
use Rattle.corner_lines.proofs.LevelRows.LevelSound.{whole_is_sound}
use Rattle.corner_lines.proofs.Costs.LevelTakes.{entering_number_fits, leaving_number_fits, opposite-fits as neg-fits}
use Rattle.corner_lines.proofs.Lines.LinePivots.{equation_is_pivot, pivot_is_solved}
use Rattle.corner_exchange.specs.declared.exchange.Pivot.{Pivot}
use Rattle.corner_writings.specs.declared.levels.Pair.{Pair}
use Rattle.corner_table.specs.declared.table.TheConstants.{LEVELS}
use Rattle.corner_table.specs.Tables.{Lists, entry, line_slot, marks_at, number, priority_at, problem_of, row_at, standing_at}
use Rattle.corner_table.specs.Kept.{IsKept, level_own}
use Rattle.corner_exchange.specs.Swaps.Exchanges.{IsOutsideAfter, IsPair, IsPivotAt, marks_after, signed}
use Rattle.corner_writings.specs.Rows.{row_number}
use Rattle.corner_writings.specs.Fitting.{side_after}
use Rattle.corner_exchange.specs.Swaps.LevelChanges.{count_by, entering_at, leaving_at, level_sum, side_or}
use Rattle.corner_table.proofs.Readings.SlotFacts.{any_is, named_slot}
use Rattle.corner_table.proofs.Readings.WritingFacts.{lines_apart, number_is}
use Rattle.corner_exchange.proofs.Basics.RowEquations.{AreTermsOf, reduced_terms}
use Rattle.corner_exchange.proofs.Pivots.PairFacts.{entering_number, leave_equation, leave_in, pair_exchange, pair_rays, slots_apart, way_of}
use Rattle.corner_exchange.proofs.Pivots.LineChanges.{after_line, cond-zero as cond_zero}
use Rattle.corner_writings.proofs.LevelFacts.LevelNumberFacts.{IsKnown, all-known}
use Rattle.corner_writings.proofs.LevelFacts.LevelRowFacts.{out_line}
use Rattle.corner_writings.proofs.LevelFacts.FittingRows.{StandsBy, none-out}
use Rattle.corner_exchange.proofs.LevelFacts.LevelTerms.{AreApart, divided_terms, unfit_divided}
use Rattle.corner_exchange.proofs.LevelFacts.LevelCounts.{IsAtLevel, at_level, count_is}
use Rattle.corner_writings.proofs.LevelFacts.LevelReadFacts.{named_line_slot}
use Rattle.corner_table.specs.Reads.LevelNumbers.{IsSlotOfLine}
use Rattle.corner_exchange.proofs.Swaps.SwapSides.{at_leave, elsewhere, pair_swap, sides_after}
use Rattle.frac_core.proofs.Numbers.{zero-or-not as decide_zero, zero-sum as zero_sum, neg-times, mul-neg}
use Rattle.problem_core.proofs.Sides.{none-not-some as not-some}

-- what the exchange starts from
pub record IsLevelPair (t : Lists) (pair : Pair) (s : Swap) (l unit own : ℕ) : Type 0 where
  pub kept : IsKept t
  pub pair_is : IsPair t pair s
  pub low : l < LEVELS
  pub level : IsAtLevel t l unit own

abbrev pub size_of : Lists → Pair → ℕ
size_of t pair = unsigned_abs (entry t pair.leave pair.enter)

-- ---- the pivot

abbrev pub pivot_sign : Lists → Pair → ℤ
pivot_sign t pair = signed (entry t pair.leave pair.enter) (pos 1)

-- the leaving line's numbers
abbrev pub leaving_numbers : Lists → Pair → Swap → ℕ → RowName → ℤ
leaving_numbers t pair s own = line_numbers s.leave.row own (number t pair.leave)

sign-size : (x : ℤ) → signed x (pos 1) *ℤ neg_ℤ x ≡ neg_ℤ (pos (unsigned_abs x))
sign-size (pos n) = omega (arith, ints)
sign-size (negsuc n) = omega (arith, ints)

row-apart : (t : Lists) (pair : Pair) (s : Swap) → IsPair t pair s → s.enter.row ≢ s.leave.row
row-apart t pair s are e = slots_apart t pair s are (sym are.leave_slot ∙ ap (line_slot t) (sym e) ∙ are.enter_slot)

pub other_numbers : (name line : RowName) (own : ℕ) (by : RowName → ℤ) → name ≢ line → line_numbers line own by name ≡ by name
other_numbers name line own by ne = ap (λ (b : Bool). cond b (neg_ℤ (pos own)) (by name)) (ne_eqb (place_of name Under) (place_of line Under) (λ e. ne (by-sides name line Under Under e).0))

own-numbers : (line : RowName) (own : ℕ) (by : RowName → ℤ) → line_numbers line own by line ≡ neg_ℤ (pos own)
own-numbers line own by = ap (λ (b : Bool). cond b (neg_ℤ (pos own)) (by line)) (eq-eqb (place_of line Under) (place_of line Under) refl)

pub exchange_pivot : (t : Lists) (pair : Pair) (s : Swap) → (kept : IsKept t) → (are : IsPair t pair s)
    → IsPivot (problem_of t) (marks_at t) s.enter.row s.leave.row (size_of t pair) (λ name. pivot_sign t pair *ℤ leaving_numbers t pair s (leave_equation t pair s kept are).0 name)
exchange_pivot t pair s kept are =
    let e = leave_equation t pair s kept are in
    let x : ℤ = entry t pair.leave pair.enter in
    pivot_is_solved (problem_of t) (marks_at t) s.enter.row s.leave.row e.0 (size_of t pair) (leaving_numbers t pair s e.0) (pivot_sign t pair)
    (equation_is_pivot (problem_of t) (marks_at t) s.leave e.0 (number t pair.leave) (sign_of s.leave.side *ℤ (standing_at t pair.leave).value.num) (standing_at t pair.leave).value.den kept.whole kept.corner (leave_in t pair s are) e.2)
    (way_of x are.stands).1.positive
    (ap (λ (z : ℤ). signed x (pos 1) *ℤ z) (other_numbers s.enter.row s.leave.row e.0 (number t pair.leave) (row-apart t pair s are) ∙ entering_number t pair s are) ∙ sign-size x)

pub level_exchange : (t : Lists) (pair : Pair) (s : Swap) (l unit own : ℕ) → (h : IsLevelPair t pair s l unit own)
    → IsLevelExchange (problem_of t) (marks_at t) s l unit own (number t l) (size_of t pair) (λ name. pivot_sign t pair *ℤ leaving_numbers t pair s (leave_equation t pair s h.kept h.pair_is).0 name)
level_exchange t pair s l unit own h = record {
  whole = h.kept.whole;
  corner = h.kept.corner;
  exchange = pair_exchange t pair s h.kept h.pair_is;
  row = h.level.row;
  pivot_is = exchange_pivot t pair s h.kept h.pair_is;
}

pub enter_out : (t : Lists) (pair : Pair) (s : Swap) → IsPair t pair s → IsOutsideLine (marks_at t) s.enter.row
enter_out t pair s are = out_line t s.enter.row (ap (λ w. (standing_at t w).side) are.enter_slot ∙ are.outside)

-- ---- what the two lines count

pub above_level : (t : Lists) (l : ℕ) (line : Line) → l < LEVELS → IsKnown t line → line_slot t line.name ≢ l
above_level t l line low known e = let high = known.slot.slot.0 in omega (arith, e, low, high)

number-there : (t : Lists) (l : ℕ) (line : Line) → l < LEVELS → IsKnown t line → number t l line.name ≡ neg_ℤ (entry t l (line_slot t line.name))
number-there t l line low known = number_is t l line.name (above_level t l line low known)

pub all_lines : (t : Lists) (P : Line → Type 0) → IsKept t → ((line : Line) → IsKnown t line → P line) → All P (lines (problem_of t))
all_lines t P kept f = All-from_recursion P (lines (problem_of t)) (each-impl (IsKnown t) P (lines (problem_of t)) f (all-known t kept))

entering-line : (a b c i : ℤ) → b ≡ neg_ℤ i → neg_ℤ (a -ℤ b) ≡ neg_ℤ a -ℤ i
entering-line a b c i e = omega (arith, ints, e)

count-there : (t : Lists) (l unit own : ℕ) (line : Line) (w : ℕ) (side : Side) → IsKept t → IsKnown t line → l < LEVELS → IsAtLevel t l unit own → line_slot t line.name ≡ w
    → level_own t l *ℤ count_by t l w side ≡ neg_ℤ (inside_number side l unit own line)
count-there t l unit own line w side kept known low level e =
    ap₂ (λ (z : ℤ) (c : ℕ). z *ℤ count_by t l c side) level.own_is (sym e) ∙ count_is t l unit own line side kept known low level.unit_is

pub level_entering : (t : Lists) (pair : Pair) (s : Swap) (l unit own : ℕ) → IsLevelPair t pair s l unit own → IsEnteringNumber (problem_of t) s.enter l unit own (number t l) (neg_ℤ (entering_at t pair l))
level_entering t pair s l unit own h =
    all_lines t (λ line. line.name ≡ s.enter.row → neg_ℤ (entering_at t pair l) ≡ number t l line.name -ℤ inside_number s.enter.side l unit own line) h.kept
    (λ line known e.
    let slot : line_slot t line.name ≡ pair.enter = ap (line_slot t) e ∙ h.pair_is.enter_slot in
    let i : ℤ = inside_number s.enter.side l unit own line in
    entering-line (entry t l pair.enter) (level_own t l *ℤ count_by t l pair.enter pair.side) (pos 0) i
    (count-there t l unit own line pair.enter pair.side h.kept known h.low h.level slot ∙ ap (λ (d : Side). neg_ℤ (inside_number d l unit own line)) (sym h.pair_is.enter_side))
    ∙ ap (λ (z : ℤ). z -ℤ i) (ap (λ w. neg_ℤ (entry t l w)) (sym slot) ∙ sym (number-there t l line h.low known)))

inside-side : (t : Lists) (pair : Pair) (s : Swap) → IsPair t pair s → side_or (standing_at t pair.leave).side ≡ s.leave.side
inside-side t pair s are = ap side_or are.inside

leaving-line : (t : Lists) (pair : Pair) (s : Swap) (l unit own : ℕ) (line : Line) → IsLevelPair t pair s l unit own → IsKnown t line → line.name ≡ s.leave.row → leaving_at t pair l ≡ neg_ℤ (inside_number s.leave.side l unit own line)
leaving-line t pair s l unit own line h known e =
    ap (λ (d : Side). level_own t l *ℤ count_by t l pair.leave d) (inside-side t pair s h.pair_is)
    ∙ count-there t l unit own line pair.leave s.leave.side h.kept known h.low h.level (ap (line_slot t) e ∙ h.pair_is.leave_slot)

neg-moves : (k a i : ℤ) → a ≡ neg_ℤ i → neg_ℤ (k *ℤ a) ≡ k *ℤ i
neg-moves k a i e = ap (λ (z : ℤ). neg_ℤ (k *ℤ z)) e ∙ ap neg_ℤ (mul-neg k i) ∙ neg-neg (k *ℤ i)

pub level_leaving : (t : Lists) (pair : Pair) (s : Swap) (l unit own : ℕ) → IsLevelPair t pair s l unit own
    → IsLeavingNumber (problem_of t) s.leave l unit own (size_of t pair) (neg_ℤ (pos (size_of t pair) *ℤ leaving_at t pair l))
level_leaving t pair s l unit own h =
    all_lines t (λ line. line.name ≡ s.leave.row → neg_ℤ (pos (size_of t pair) *ℤ leaving_at t pair l) ≡ pos (size_of t pair) *ℤ inside_number s.leave.side l unit own line) h.kept
    (λ line known e. neg-moves (pos (size_of t pair)) (leaving_at t pair l) (inside_number s.leave.side l unit own line) (leaving-line t pair s l unit own line h known e))

pub entering_fits : (t : Lists) (pair : Pair) (s : Swap) (l unit own : ℕ) → IsLevelPair t pair s l unit own → IsFitting (entering_at t pair l)
entering_fits t pair s l unit own h =
    neg-fits (entering_at t pair l) (neg_ℤ (entering_at t pair l)) (sym (neg-neg (entering_at t pair l)))
    (entering_number_fits (problem_of t) (marks_at t) s l unit own (number t l) (neg_ℤ (entering_at t pair l)) (pair_exchange t pair s h.kept h.pair_is) h.level.fits (enter_out t pair s h.pair_is) (level_entering t pair s l unit own h))

pub leaving_fits : (t : Lists) (pair : Pair) (s : Swap) (l unit own : ℕ) → IsLevelPair t pair s l unit own → IsFitting (leaving_at t pair l)
leaving_fits t pair s l unit own h =
    any_is (λ line. IsKnown t line × (line.name ≡ s.leave.row → IsFitting (inside_number s.leave.side l unit own line))) (λ line. line.name ≡ s.leave.row) (lines (problem_of t))
    (λ i d within. (all_lines t (IsKnown t) h.kept (λ line known. known) i d within, leaving_number_fits (problem_of t) (marks_at t) s l unit own (number t l) (leave_in t pair s h.pair_is) h.level.fits i d within)) h.pair_is.leaves
    (λ line k e. neg-fits (leaving_at t pair l) (inside_number s.leave.side l unit own line) (leaving-line t pair s l unit own line h k.0 e) (k.1 e))

-- ---- the sum

sum-enter : (t : Lists) (pair : Pair) (l c : ℕ) → c ≡ pair.enter → level_sum t pair l c ≡ pos 0
sum-enter t pair l c e =
    ap (λ (b : Bool). cond b (pos 0) (combination (pos (size_of t pair)) (row_at t l) (neg_ℤ (signed (entry t pair.leave pair.enter) (entering_at t pair l))) (row_at t pair.leave) c
    +ℤ cond (nat_eq c pair.leave) (pos (size_of t pair) *ℤ leaving_at t pair l) (pos 0))) (eq-eqb c pair.enter e)

sum-other : (t : Lists) (pair : Pair) (l c : ℕ) → c ≢ pair.enter → c ≢ pair.leave
    → level_sum t pair l c ≡ pos (size_of t pair) *ℤ entry t l c +ℤ neg_ℤ (signed (entry t pair.leave pair.enter) (entering_at t pair l)) *ℤ entry t pair.leave c
sum-other t pair l c ne nl =
    let z : ℤ = combination (pos (size_of t pair)) (row_at t l) (neg_ℤ (signed (entry t pair.leave pair.enter) (entering_at t pair l))) (row_at t pair.leave) c in
    let e : ℤ = pos (size_of t pair) *ℤ leaving_at t pair l in
    ap (λ (b : Bool). cond b (pos 0) (z +ℤ cond (nat_eq c pair.leave) e (pos 0))) (ne_eqb c pair.enter ne) ∙ ap (λ (b : Bool). z +ℤ cond b e (pos 0)) (ne_eqb c pair.leave nl) ∙ add-zero_ℤ z

sum-leave : (t : Lists) (pair : Pair) (l c : ℕ) → c ≢ pair.enter → c ≡ pair.leave
    → level_sum t pair l c ≡ (pos (size_of t pair) *ℤ entry t l c +ℤ neg_ℤ (signed (entry t pair.leave pair.enter) (entering_at t pair l)) *ℤ entry t pair.leave c) +ℤ pos (size_of t pair) *ℤ leaving_at t pair l
sum-leave t pair l c ne e =
    let z : ℤ = combination (pos (size_of t pair)) (row_at t l) (neg_ℤ (signed (entry t pair.leave pair.enter) (entering_at t pair l))) (row_at t pair.leave) c in
    let x : ℤ = pos (size_of t pair) *ℤ leaving_at t pair l in
    ap (λ (b : Bool). cond b (pos 0) (z +ℤ cond (nat_eq c pair.leave) x (pos 0))) (ne_eqb c pair.enter ne) ∙ ap (λ (b : Bool). z +ℤ cond b x (pos 0)) (eq-eqb c pair.leave e)

-- no row but its own has a number at a level's slot
pub level_absent : (t : Lists) (w l : ℕ) → IsKept t → l < LEVELS → l ≢ w → entry t w l ≡ pos 0
level_absent t w l kept low ne =
    elim (decide_zero (entry t w l)) [
      | inl none ↦ none
      | inr some ↦ let high = (kept.outside w l some ne).0.0 in absurd (omega (arith, low, high))
    ]

-- nor has one at an inside line's slot
inside-absent : (t : Lists) (w c : ℕ) (side : Side) → IsKept t → c ≢ w → (standing_at t c).side ≡ Some side → entry t w c ≡ pos 0
inside-absent t w c side kept ne inside =
    elim (decide_zero (entry t w c)) [
      | inl none ↦ none
      | inr some ↦ absurd (not-some side (sym (kept.outside w c some ne).1 ∙ inside))
    ]

pub sum_columns : (t : Lists) (pair : Pair) (s : Swap) (l c : ℕ) → IsKept t → IsPair t pair s → level_sum t pair l c ≢ pos 0 → c ≢ l → IsOutsideAfter t pair c
sum_columns t pair s l c kept are some ne =
    let not_enter : c ≢ pair.enter = λ e. some (sum-enter t pair l c e) in
    elim (cases_eq c pair.leave) [
      | inl e ↦ inl e
      | inr nl ↦ elim (decide_zero (entry t l c)) [
        | inr here ↦ inr (not_enter, kept.outside l c here ne)
        | inl none ↦ elim (decide_zero (entry t pair.leave c)) [
          | inr there ↦ inr (not_enter, kept.outside pair.leave c there nl)
          | inl gone ↦ absurd (some (sum-other t pair l c not_enter nl ∙ zero_sum (pos (size_of t pair)) (neg_ℤ (signed (entry t pair.leave pair.enter) (entering_at t pair l))) (entry t l c) (entry t pair.leave c) none gone))
        ]
      ]
    ]

pub enter_high : (t : Lists) (pair : Pair) (s : Swap) → IsKept t → IsPair t pair s → LEVELS ≤ pair.enter
enter_high t pair s kept are = subst (λ w. LEVELS ≤ w) are.enter_slot (named_slot t s.enter.row kept.slots are.enters).0

pub leave_high : (t : Lists) (pair : Pair) (s : Swap) → IsKept t → IsPair t pair s → LEVELS ≤ pair.leave
leave_high t pair s kept are = subst (λ w. LEVELS ≤ w) are.leave_slot (named_slot t s.leave.row kept.slots are.leaves).0

low-apart : (l w : ℕ) → l < LEVELS → LEVELS ≤ w → l ≢ w
low-apart l w low high e = omega (arith, low, high, e)

-- the numbers of lines in it
abbrev pub sum_number : Lists → Pair → ℕ → RowName → ℤ
sum_number t pair l name = cond (nat_eq (line_slot t name) l) (pos 0) (neg_ℤ (level_sum t pair l (line_slot t name)))

pub sum_terms : (t : Lists) (pair : Pair) (s : Swap) (l unit own : ℕ) → IsLevelPair t pair s l unit own → AreTermsOf t l (level_sum t pair l) (size_of t pair * own) (sum_number t pair l)
sum_terms t pair s l unit own h =
    let ne = low-apart l pair.enter h.low (enter_high t pair s h.kept h.pair_is) in
    let nl = low-apart l pair.leave h.low (leave_high t pair s h.kept h.pair_is) in
    let m : ℤ = neg_ℤ (signed (entry t pair.leave pair.enter) (entering_at t pair l)) in
    record {
      own_is = sum-other t pair l l ne nl
          ∙ ap₂ (λ (u v : ℤ). pos (size_of t pair) *ℤ u +ℤ m *ℤ v) h.level.entry_is (level_absent t pair.leave l h.kept h.low nl)
          ∙ ap (λ (z : ℤ). pos (size_of t pair) *ℤ pos own +ℤ z) (mul-zero_ℤ m) ∙ add-zero_ℤ (pos (size_of t pair) *ℤ pos own);
      by_is = λ i d within. refl;
      columns = λ c some other. after_line t pair s c h.kept h.pair_is (sum_columns t pair s l c h.kept h.pair_is some other);
    }

after-none : (t : Lists) (pair : Pair) (s : Swap) (c : ℕ) → IsPair t pair s → IsOutsideAfter t pair c → side_after t pair c ≡ None
after-none t pair s c are (inl e) = at_leave t pair c (λ z. slots_apart t pair s are (sym e ∙ z)) e
after-none t pair s c are (inr (ne, outside)) = elim (cases_eq c pair.leave) [
  | inl e ↦ at_leave t pair c ne e
  | inr nl ↦ elsewhere t pair c ne nl ∙ outside.1
]

inside-apart : (t : Lists) (pair : Pair) (s : Swap) (l : ℕ) (line : Line) (o : Option Side) → IsKept t → IsPair t pair s → l < LEVELS → IsKnown t line → side_after t pair (line_slot t line.name) ≡ o → StandsBy (marks_after t s) line.name o
    → IsOutsideLine (marks_after t s) line.name ⊎ ((IsOutsideLine (marks_after t s) line.name → ⊥) × (sum_number t pair l line.name ≡ pos 0))
inside-apart t pair s l line None kept are low known e stands = inl (none-out (marks_after t s) line.name stands)
inside-apart t pair s l line (Some side) kept are low known e stands = inr (
  (λ out. at_side side (marks_after t s) line.name out ((stands side).1 refl)),
  elim (decide_zero (level_sum t pair l (line_slot t line.name))) [
    | inl none ↦ cond_zero (nat_eq (line_slot t line.name) l) (level_sum t pair l (line_slot t line.name)) none
    | inr some ↦
        absurd (not-some side (sym (after-none t pair s (line_slot t line.name) are (sum_columns t pair s l (line_slot t line.name) kept are some (above_level t l line low known))) ∙ e))
  ],
)

pub sum_apart : (t : Lists) (pair : Pair) (s : Swap) (l unit own : ℕ) → IsLevelPair t pair s l unit own → AreApart (problem_of t) (marks_after t s) (sum_number t pair l)
sum_apart t pair s l unit own h i d within =
    let line : Line = get_or (lines (problem_of t)) i d in
    inside-apart t pair s l line (side_after t pair (line_slot t line.name)) h.kept h.pair_is h.low (all_lines t (IsKnown t) h.kept (λ k known. known) i d within) refl
    (sides_after t pair s h.kept (pair_swap t pair s h.pair_is) i d within)

-- ---- its numbers are the law's

signed-product : (x c y : ℤ) → neg_ℤ c *ℤ (signed x (pos 1) *ℤ neg_ℤ y) ≡ signed x c *ℤ y
signed-product (pos n) c y =
    let one : pos 1 *ℤ neg_ℤ y ≡ neg_ℤ y = omega (arith, ints) in
    ap (λ (z : ℤ). neg_ℤ c *ℤ z) one ∙ neg-times c (neg_ℤ y) ∙ ap neg_ℤ (mul-neg c y) ∙ neg-neg (c *ℤ y)
signed-product (negsuc n) c y =
    let one : negsuc 0 *ℤ neg_ℤ y ≡ y = omega (arith, ints) in
    ap (λ (z : ℤ). neg_ℤ c *ℤ z) one

other-sum : (p m a y u v w : ℤ) → u ≡ p *ℤ neg_ℤ a → v ≡ m *ℤ y → w ≡ p *ℤ a +ℤ neg_ℤ m *ℤ y → u +ℤ v ≡ neg_ℤ w
other-sum p m a y u v w e f g =
    let one : p *ℤ neg_ℤ a ≡ neg_ℤ (p *ℤ a) = mul-neg p a in
    let two : neg_ℤ m *ℤ y ≡ neg_ℤ (m *ℤ y) = neg-times m y in
    omega (arith, ints, e, f, g, one, two)

leave-sum : (p m a y q v w : ℤ) → a ≡ pos 0 → v ≡ m *ℤ y → w ≡ (p *ℤ a +ℤ neg_ℤ m *ℤ y) +ℤ q → neg_ℤ q +ℤ v ≡ neg_ℤ w
leave-sum p m a y q v w e f g =
    let one : p *ℤ a ≡ pos 0 = ap (λ (z : ℤ). p *ℤ z) e ∙ mul-zero_ℤ p in
    let two : neg_ℤ m *ℤ y ≡ neg_ℤ (m *ℤ y) = neg-times m y in
    omega (arith, ints, one, f, g, two)

abbrev law_sum : (t : Lists) (pair : Pair) (s : Swap) (l own : ℕ) → RowName → ℤ
law_sum t pair s l own = exchanged_sum (size_of t pair) (number t l) (neg_ℤ (entering_at t pair l)) (λ name. pivot_sign t pair *ℤ leaving_numbers t pair s own name) s.leave.row (neg_ℤ (pos (size_of t pair) *ℤ leaving_at t pair l))

number-is-sum : (t : Lists) (pair : Pair) (l : ℕ) (line : Line) → l < LEVELS → IsKnown t line → sum_number t pair l line.name ≡ neg_ℤ (level_sum t pair l (line_slot t line.name))
number-is-sum t pair l line low known = ap (λ (b : Bool). cond b (pos 0) (neg_ℤ (level_sum t pair l (line_slot t line.name)))) (ne_eqb (line_slot t line.name) l (above_level t l line low known))

law-leave : (t : Lists) (pair : Pair) (s : Swap) (l unit own : ℕ) (line : Line) → (h : IsLevelPair t pair s l unit own) → IsKnown t line → line.name ≡ s.leave.row
    → law_sum t pair s l (leave_equation t pair s h.kept h.pair_is).0 line.name ≡ sum_number t pair l line.name
law-leave t pair s l unit own line h known e =
    let eq = leave_equation t pair s h.kept h.pair_is in
    let x : ℤ = entry t pair.leave pair.enter in
    let c : ℤ = entering_at t pair l in
    let q : ℤ = pos (size_of t pair) *ℤ leaving_at t pair l in
    let w : ℕ = line_slot t line.name in
    let slot : w ≡ pair.leave = ap (line_slot t) e ∙ h.pair_is.leave_slot in
    let inside : (standing_at t w).side ≡ Some s.leave.side = ap (λ k. (standing_at t k).side) slot ∙ h.pair_is.inside in
    let absent : entry t l w ≡ pos 0 = inside-absent t l w s.leave.side h.kept (above_level t l line h.low known) inside in
    let own_is : leaving_numbers t pair s eq.0 line.name ≡ neg_ℤ (entry t pair.leave w) =
    ap (leaving_numbers t pair s eq.0) e ∙ own-numbers s.leave.row eq.0 (number t pair.leave) ∙ ap neg_ℤ (sym eq.1) ∙ ap (λ k. neg_ℤ (entry t pair.leave k)) (sym slot) in
    let pivot : neg_ℤ c *ℤ (signed x (pos 1) *ℤ leaving_numbers t pair s eq.0 line.name) ≡ signed x c *ℤ entry t pair.leave w =
    ap (λ (z : ℤ). neg_ℤ c *ℤ (signed x (pos 1) *ℤ z)) own_is ∙ signed-product x c (entry t pair.leave w) in
    ap (λ (b : Bool). cond b (neg_ℤ q +ℤ neg_ℤ c *ℤ (signed x (pos 1) *ℤ leaving_numbers t pair s eq.0 line.name)) (pos (size_of t pair) *ℤ number t l line.name +ℤ neg_ℤ c *ℤ (signed x (pos 1) *ℤ leaving_numbers t pair s eq.0 line.name)))
    (eq-eqb (place_of line.name Under) (place_of s.leave.row Under) (ap (λ (n : RowName). place_of n Under) e))
    ∙ leave-sum (pos (size_of t pair)) (signed x c) (entry t l w) (entry t pair.leave w) q (neg_ℤ c *ℤ (signed x (pos 1) *ℤ leaving_numbers t pair s eq.0 line.name)) (level_sum t pair l w) absent pivot
    (sum-leave t pair l w (λ z. slots_apart t pair s h.pair_is (sym slot ∙ z)) slot)
    ∙ sym (number-is-sum t pair l line h.low known)

law-other : (t : Lists) (pair : Pair) (s : Swap) (l unit own : ℕ) (line : Line) → (h : IsLevelPair t pair s l unit own) → IsKnown t line → line.name ≢ s.leave.row → line_slot t line.name ≢ pair.enter → line_slot t line.name ≢ pair.leave
    → law_sum t pair s l (leave_equation t pair s h.kept h.pair_is).0 line.name ≡ sum_number t pair l line.name
law-other t pair s l unit own line h known ne not_enter not_leave =
    let eq = leave_equation t pair s h.kept h.pair_is in
    let x : ℤ = entry t pair.leave pair.enter in
    let c : ℤ = entering_at t pair l in
    let q : ℤ = pos (size_of t pair) *ℤ leaving_at t pair l in
    let w : ℕ = line_slot t line.name in
    let there : leaving_numbers t pair s eq.0 line.name ≡ neg_ℤ (entry t pair.leave w) = other_numbers line.name s.leave.row eq.0 (number t pair.leave) ne ∙ number_is t pair.leave line.name not_leave in
    let pivot : neg_ℤ c *ℤ (signed x (pos 1) *ℤ leaving_numbers t pair s eq.0 line.name) ≡ signed x c *ℤ entry t pair.leave w =
    ap (λ (z : ℤ). neg_ℤ c *ℤ (signed x (pos 1) *ℤ z)) there ∙ signed-product x c (entry t pair.leave w) in
    ap (λ (b : Bool). cond b (neg_ℤ q +ℤ neg_ℤ c *ℤ (signed x (pos 1) *ℤ leaving_numbers t pair s eq.0 line.name)) (pos (size_of t pair) *ℤ number t l line.name +ℤ neg_ℤ c *ℤ (signed x (pos 1) *ℤ leaving_numbers t pair s eq.0 line.name)))
    (ne_eqb (place_of line.name Under) (place_of s.leave.row Under) (λ z. ne (by-sides line.name s.leave.row Under Under z).0))
    ∙ other-sum (pos (size_of t pair)) (signed x c) (entry t l w) (entry t pair.leave w) (pos (size_of t pair) *ℤ number t l line.name) (neg_ℤ c *ℤ (signed x (pos 1) *ℤ leaving_numbers t pair s eq.0 line.name)) (level_sum t pair l w)
    (ap (λ (z : ℤ). pos (size_of t pair) *ℤ z) (number-there t l line h.low known)) pivot (sum-other t pair l w not_enter not_leave)
    ∙ sym (number-is-sum t pair l line h.low known)

law-line : (t : Lists) (pair : Pair) (s : Swap) (l unit own : ℕ) (line : Line) → (h : IsLevelPair t pair s l unit own) → IsKnown t line → StandsBy (marks_after t s) line.name (side_after t pair (line_slot t line.name)) → IsOutsideLine (marks_after t s) line.name
    → law_sum t pair s l (leave_equation t pair s h.kept h.pair_is).0 line.name ≡ sum_number t pair l line.name
law-line t pair s l unit own line h known stands out =
    elim (cases_eq (line_slot t line.name) pair.leave) [
      | inl e ↦ law-leave t pair s l unit own line h known (lines_apart t line.name s.leave.row h.kept.slots known.named h.pair_is.leaves (h.pair_is.leave_slot ∙ sym e))
      | inr nl ↦
          law-other t pair s l unit own line h known (λ e. nl (ap (line_slot t) e ∙ h.pair_is.leave_slot))
          (λ e. at_side pair.side (marks_after t s) line.name out ((stands pair.side).1 (ap (λ (b : Bool). cond b (Some pair.side) (cond (nat_eq (line_slot t line.name) pair.leave) None (standing_at t (line_slot t line.name)).side)) (eq-eqb (line_slot t line.name) pair.enter e)))) nl
    ]

pub law_numbers : (t : Lists) (pair : Pair) (s : Swap) (l unit own : ℕ) → (h : IsLevelPair t pair s l unit own)
    → All (λ line. IsOutsideLine (marks_after t s) line.name → law_sum t pair s l (leave_equation t pair s h.kept h.pair_is).0 line.name ≡ sum_number t pair l line.name) (lines (problem_of t))
law_numbers t pair s l unit own h i d within =
    law-line t pair s l unit own (get_or (lines (problem_of t)) i d) h (all_lines t (IsKnown t) h.kept (λ k known. known) i d within) (sides_after t pair s h.kept (pair_swap t pair s h.pair_is) i d within)

-- ---- the row after the exchange

factors : (t : Lists) (pair : Pair) (s : Swap) (n : ℤ) → IsPair t pair s → AreFactors (size_of t pair) n (size_of t pair) n
factors t pair s n are = record { above = (way_of (entry t pair.leave pair.enter) are.stands).1.positive; same = refl }

own-above : (t : Lists) (pair : Pair) (s : Swap) (l unit own : ℕ) → IsLevelPair t pair s l unit own → 0 < size_of t pair * own
own-above t pair s l unit own h = mul-pos (way_of (entry t pair.leave pair.enter) h.pair_is.stands).1.positive h.level.row.row.own_positive

-- a row in lowest terms with the sum's numbers is the level's
pub row_after : (t : Lists) (pair : Pair) (s : Swap) (l unit own : ℕ) (row : List Term) → IsLevelPair t pair s l unit own → IsLowestRow row → IsReduced row (level_sum t pair l)
    → (low : ℕ) × (coefficient l row ≡ pos low) × HasLevelRow (problem_of t) (marks_after t s) l unit low (row_number t l row)
row_after t pair s l unit own row h lowest red =
    let terms = reduced_terms t l (level_sum t pair l) (size_of t pair * own) (sum_number t pair l) row (own-above t pair s l unit own h) (sum_terms t pair s l unit own h) lowest red in
    let eq = leave_equation t pair s h.kept h.pair_is in
    let n : ℤ = neg_ℤ (entering_at t pair l) in (
      terms.0,
      terms.1,
      exchanged_row_is_row (problem_of t) (marks_at t) s l unit own (size_of t pair) (size_of t pair) terms.0 (number t l) (λ name. pivot_sign t pair *ℤ leaving_numbers t pair s eq.0 name) (row_number t l row) n n (neg_ℤ (pos (size_of t pair) *ℤ leaving_at t pair l))
          (level_exchange t pair s l unit own h) (enter_out t pair s h.pair_is) (level_entering t pair s l unit own h) (level_leaving t pair s l unit own h) (factors t pair s n h.pair_is)
          (divided-same (problem_of t) (marks_after t s) (size_of t pair * own) terms.0 (sum_number t pair l) (law_sum t pair s l eq.0) (row_number t l row) (law_numbers t pair s l unit own h)
          (divided_terms (problem_of t) (marks_after t s) (size_of t pair * own) (sum_number t pair l) terms.0 (row_number t l row) terms.2 (sum_apart t pair s l unit own h))),
    )

-- where none fits, no writing of the level's cost does
pub row_unfit : (t : Lists) (pair : Pair) (s : Swap) (l unit own : ℕ) → IsLevelPair t pair s l unit own → IsUnfit (level_sum t pair l) → HasNoLevelWriting (problem_of t) (marks_after t s) l
row_unfit t pair s l unit own h unfit =
    let eq = leave_equation t pair s h.kept h.pair_is in
    let n : ℤ = neg_ℤ (entering_at t pair l) in
    let multiple = exchanged_row_is_multiple (problem_of t) (marks_at t) s l unit own (size_of t pair) (size_of t pair) (number t l) (λ name. pivot_sign t pair *ℤ leaving_numbers t pair s eq.0 name) n n (neg_ℤ (pos (size_of t pair) *ℤ leaving_at t pair l))
    (level_exchange t pair s l unit own h) (enter_out t pair s h.pair_is) (level_entering t pair s l unit own h) (level_leaving t pair s l unit own h) (factors t pair s n h.pair_is) in
    unfit_multiple_has_no_writing (problem_of t) (marks_after t s) l unit (size_of t pair * own) multiple.0 (sum_number t pair l) (whole_is_sound (problem_of t) h.kept.whole) (pair_rays t pair s h.kept h.pair_is) h.level.least multiple.1
    (λ i d within out. multiple.2 i d within out ∙ law_numbers t pair s l unit own h i d within out)
    (unfit_divided t l (level_sum t pair l) (size_of t pair * own) (sum_number t pair l) (marks_after t s) (own-above t pair s l unit own h) h.kept.slots (sum_terms t pair s l unit own h) (sum_apart t pair s l unit own h) unfit)

-- ---- where a pivot is known

pub pivot_level : (t : Lists) (pivot : Pivot) (s : Swap) (l : ℕ) → IsKept t → IsPivotAt t pivot s → l < LEVELS → (priority_at t l).rows ≢ 0 → (unit : ℕ) × (own : ℕ) × IsLevelPair t pivot.pair s l unit own
pivot_level t pivot s l kept at low some =
    let level = at_level t l kept low some in
    (level.0, level.1, record { kept = kept; pair_is = at.pair; low = low; level = level.2 })

pub entering_there : (t : Lists) (pivot : Pivot) (s : Swap) (l : ℕ) → IsKept t → IsPivotAt t pivot s → l < LEVELS → (priority_at t l).rows ≢ 0 → IsFitting (entering_at t pivot.pair l)
entering_there t pivot s l kept at low some = let h = pivot_level t pivot s l kept at low some in entering_fits t pivot.pair s l h.0 h.1 h.2

pub leaving_there : (t : Lists) (pivot : Pivot) (s : Swap) (l : ℕ) → IsKept t → IsPivotAt t pivot s → l < LEVELS → (priority_at t l).rows ≢ 0 → IsFitting (leaving_at t pivot.pair l)
leaving_there t pivot s l kept at low some = let h = pivot_level t pivot s l kept at low some in leaving_fits t pivot.pair s l h.0 h.1 h.2

-- the lines of the two slots
pub enter_line : (t : Lists) (pair : Pair) (s : Swap) → IsPair t pair s → IsSlotOfLine t pair.enter
enter_line t pair s are = subst (IsSlotOfLine t) are.enter_slot (named_line_slot t s.enter.row are.enters)

pub leave_line : (t : Lists) (pair : Pair) (s : Swap) → IsPair t pair s → IsSlotOfLine t pair.leave
leave_line t pair s are = subst (IsSlotOfLine t) are.leave_slot (named_line_slot t s.leave.row are.leaves)

pub side_there : (t : Lists) (pair : Pair) (s : Swap) (side : Side) → IsPair t pair s → ((r : Side) → (standing_at t pair.leave).side ≡ Some r → side ≡ r) → side ≡ side_or (standing_at t pair.leave).side
side_there t pair s side are h = h s.leave.side are.inside ∙ sym (inside-side t pair s are)
