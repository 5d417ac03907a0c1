-- Rising rows with another constant in the row of a number.
use Rattle.std.proofs.Common.{◌≡◌, ◌∙◌, ℕ, zero, suc, ◌<◌, List, [], ◌∷◌, length, map, refl, sym, ap, subst, arith, slice_index_or, slice_set, All, AllPairs, pos, negsuc}
use Rattle.frac_core.specs.Fraction.{Fraction, IsRatio, sum_den, sum_num}
use Rattle.frac_core.specs.Fraction as fractions
use Rattle.problem_core.specs.declared.parts.RowName.TheVariants.{Held}
use Rattle.problem_core.specs.Layout.{Problem, Row}
use Rattle.corner_lines.specs.Shifts.{IsShift, has_constant}
use Rattle.corner_shifts.specs.Shifting.{HaveGrown, IsShifted, with_constant_at, with_shifted}
use Rattle.corner_view.specs.Changes.{IsNear}
use Rattle.corner_table.specs.Tables.{Lists, line_slot, problem_of}
use Rattle.corner_lines.proofs.ProblemChanges.Shifted.{shift-off as other-row}
use Rattle.frac_core.proofs.Lists.{pairs-rest}
use Rattle.corner_laws.proofs.Counting.{head_pairs as pairs-first}

later-rows : (id : ℕ) (to : Fraction) (rows : List Row) → All (λ r. id < r.id) rows → map (has_constant id to) rows ≡ rows
later-rows id to [] above = refl
later-rows id to (r ∷ rows) above =
    let first : id < r.id = above 0 r (omega arith) in
    ap (λ (x : Row). x ∷ map (has_constant id to) rows) (other-row id to r (λ e. absurd (omega (arith, e, first))))
    ∙ ap (λ rs. r ∷ rs) (later-rows id to rows (λ k x within. above (suc k) x (omega (arith, within))))

-- with another constant in the row of the number
pub put_mapped : (rows : List Row) (at id : ℕ) (to : Fraction) (r : Row) → AllPairs (λ r s. r.id < s.id) rows → at < length rows → (slice_index_or rows at r).id ≡ id
    → slice_set rows at (has_constant (slice_index_or rows at r).id to (slice_index_or rows at r)) ≡ map (has_constant id to) rows
put_mapped [] at id to r rising within is = absurd (omega (arith, within))
put_mapped (x ∷ rows) zero id to r rising within is =
    ap (λ (i : ℕ). has_constant i to x ∷ rows) is
    ∙ ap (λ rs. has_constant id to x ∷ rs) (sym (later-rows id to rows (subst (λ (i : ℕ). All (λ s. i < s.id) rows) is (pairs-first (λ r s. r.id < s.id) x rows rising))))
put_mapped (x ∷ rows) (suc at) id to r rising within is =
    let less : x.id < (slice_index_or rows at r).id = pairs-first (λ r s. r.id < s.id) x rows rising at r (omega (arith, within)) in
    ap (λ rs. x ∷ rs) (put_mapped rows at id to r (pairs-rest (λ r s. r.id < s.id) x rows rising) (omega (arith, within)) is)
    ∙ ap (λ (y : Row). y ∷ map (has_constant id to) rows) (sym (other-row id to x (λ e. absurd (omega (arith, e, is, less)))))

-- ---- the lists

constant-there : (rows : List Row) (at id : ℕ) (from : Fraction) (r : Row) → All (λ r. r.id ≡ id → r.constant ≡ from) rows → at < length rows → (slice_index_or rows at r).id ≡ id → (slice_index_or rows at r).constant ≡ from
constant-there rows at id from r all within is = all at r within is

pub shift_there : (p : Problem) (at id : ℕ) (to more : Fraction) (r : Row) → IsNear p id to → at < length p.rows → (slice_index_or p.rows at r).id ≡ id → fractions.IsKept more
    → IsRatio more (sum_num to (negsuc 0) (pos 1) (slice_index_or p.rows at r).constant) (sum_den to (pos 1) (slice_index_or p.rows at r).constant)
    → (from : Fraction) × IsShift p id from to more
shift_there p at id to more r (from, other, shift, kept) within is own ratio = (
  from,
  record {
    held = shift.held;
    constant = shift.constant;
    from_positive = shift.from_positive;
    to_positive = shift.to_positive;
    more_positive = own.lowest.above;
    difference = subst (λ (f : Fraction). IsRatio more (sum_num to (negsuc 0) (pos 1) f) (sum_den to (pos 1) f)) (constant-there p.rows at id from r shift.constant within is) ratio;
  },
)

-- after the values and the constant
pub shifted : (t u v : Lists) (at id : ℕ) (to from more : Fraction) (r : Row) → AllPairs (λ r s. r.id < s.id) t.rows → at < length t.rows → (slice_index_or t.rows at r).id ≡ id
    → IsShift (problem_of t) id from to more → fractions.IsKept more → HaveGrown t (line_slot t (Held id)) more u → v ≡ with_constant_at u at (slice_index_or u.rows at r) to → IsShifted id to t v
shifted t u v at id to from more r rising within is shift kept grown put =
    let same : v ≡ with_shifted id to u.standings t = put ∙ ap (λ (x : Lists). with_constant_at x at (slice_index_or x.rows at r) to) grown.1
    ∙ ap (λ rows. rowed rows) (put_mapped t.rows at id to r rising within is) in
    subst (IsShifted id to t) (sym same) (from, more, shift, kept, grown.0, refl)
  where
    rowed : List Row → Lists
    rowed rows = record {
      rows = rows;
      stays = t.stays;
      slots = t.slots;
      standings = u.standings;
      matrix = t.matrix;
      attr_slots = t.attr_slots;
      row_slots = t.row_slots;
      priorities = t.priorities;
    }
