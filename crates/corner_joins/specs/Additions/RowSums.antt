-- Sums of a row's first terms, as rows of the slot that comes next.
use Rattle.std.specs.Prelude.{◌≡◌, ◌≢◌, ℕ, ◌<◌, cond, nat_eq, List, [], ◌∷◌, ◌++◌, length, ℤ, pos}
use Rattle.std.specs.Prelude.{◌+ℤ◌, ◌*ℤ◌, slice_index_or}
use Rattle.frac_core.specs.Fraction.{Fraction, IsKept, IsRatio, sum_den, sum_num}
use Rattle.row_core.specs.Rows.{IsKeptRow, IsReduced, IsUnfit, Term, coefficient}
use Rattle.row_core.specs.declared.entry.Factors.{Factors}
use Rattle.problem_core.specs.declared.parts.Term as parts
use Rattle.problem_core.specs.Layout.{Row}
use Rattle.problem_core.specs.Unfit.{first_terms}
use Rattle.corner_lines.specs.Joins.{over_joined}
use Rattle.corner_joins.specs.declared.joining.Sum.{Sum}
use Rattle.corner_table.specs.declared.table.Standing.{Standing}
use Rattle.corner_table.specs.Tables.{Lists, attr_slot, entry, marks_at, standing_at}
use Rattle.version_lists.specs.Numbers.{IsNumbered}
use Rattle.corner_table.specs.Joining.{at_zero, slot_of_row}
use Rattle.corner_exchange.specs.Swaps.Exchanges.{IsEquationBy}
use Rattle.corner_table.specs.Kept.{IsOutsideSlot}

-- with the row in the next slot, which has this standing and this row of numbers
abbrev pub with_pushed : Row → Standing → List Term → List ℕ → Lists → Lists
with_pushed r standing own row_slots t = record {
  rows = t.rows ++ (r ∷ []);
  stays = t.stays;
  slots = t.slots ++ (slot_of_row r ∷ []);
  standings = t.standings ++ (standing ∷ []);
  matrix = t.matrix ++ (own ∷ []);
  attr_slots = t.attr_slots;
  row_slots = row_slots;
  priorities = t.priorities;
}

-- the sum is the equation of the quantity where the row is over in the next slot
pub record IsSumRow (t : Lists) (r : Row) (quantity : (ℕ → ℤ) → ℤ) (sum : Sum) : Type 0 where
  pub columns : (c : ℕ) → coefficient c sum.row ≢ pos 0 → c ≢ length t.slots → IsOutsideSlot t c
  pub equation : (slots : List ℕ) → IsNumbered r.id (length t.slots) t.row_slots slots
      → IsEquationBy (with_pushed r at_zero [] slots t) (over_joined r (marks_at t)) quantity (length t.slots)
      sum.row sum.value.num sum.value.den

-- ---- a term more

-- the sum is that of the row's first i terms, and there is a next one
pub record HasNextTerm (t : Lists) (r : Row) (i : ℕ) (sum : Sum) : Type 0 where
  pub within : i < length r.terms
  pub is : IsSumRow t r (first_terms r i) sum

-- with these factors the sum's row and that of the term's attribute come to one own number
pub record AreTermFactors (own attr_own by : ℤ) (factors : Factors) : Type 0 where
  pub divisor : ℕ
  pub above : 0 < divisor
  pub k_is : pos divisor *ℤ factors.k ≡ attr_own
  pub n_is : pos divisor *ℤ factors.n ≡ own *ℤ by

-- the numbers of the sum with the term more
abbrev pub term_number : Lists → List Term → parts.Term → Factors → ℕ → ℤ
term_number t sum term factors c = cond (nat_eq c (attr_slot t term.attr)) (pos 0)
    (factors.k *ℤ coefficient c sum +ℤ factors.n *ℤ entry t (attr_slot t term.attr) c)

-- the factors for the sum, whose own number stands at this slot, and the term
abbrev pub HasTermFactors : Lists → ℕ → List Term → parts.Term → Factors → Type 0
HasTermFactors t at sum term factors = AreTermFactors (coefficient at sum)
    (entry t (attr_slot t term.attr) (attr_slot t term.attr)) term.by factors

-- the row of the sum with the term more, which is in lowest terms and fits
abbrev pub IsTermRow : Lists → ℕ → List Term → parts.Term → List Term → Type 0
IsTermRow t at sum term row = IsKeptRow row × ((factors : Factors) × HasTermFactors t at sum term factors
    × IsReduced row (term_number t sum term factors))

-- the row of the sum with the term more doesn't fit in lowest terms
abbrev pub IsUnfitTerm : Lists → ℕ → List Term → parts.Term → Type 0
IsUnfitTerm t at sum term = (factors : Factors) × HasTermFactors t at sum term factors
    × IsUnfit (term_number t sum term factors)

-- the row's i-th term
abbrev pub term_of : Row → ℕ → parts.Term
term_of r i = slice_index_or r.terms i (record { attr = 0; by = pos 0 })

-- the value with the i-th term
abbrev pub IsTermValue : Lists → Row → ℕ → Fraction → Fraction → Type 0
IsTermValue t r i sum value = IsKept value
    × IsRatio value
    (sum_num sum (term_of r i).by (pos 1) (standing_at t (attr_slot t (term_of r i).attr)).value)
    (sum_den sum (pos 1) (standing_at t (attr_slot t (term_of r i).attr)).value)
