-- What a row says of a line.
use Rattle.std.specs.Prelude.{ℕ, cond, nat_eq, List, ℤ, pos, neg_ℤ}
use Rattle.row_core.specs.Rows.{Term, coefficient}
use Rattle.problem_core.specs.declared.parts.RowName.{RowName}
use Rattle.corner_table.specs.Tables.{Lists, line_slot}

-- the number of a line in what a row of w says
abbrev pub row_number : Lists → ℕ → List Term → RowName → ℤ
row_number t w row name = cond (nat_eq (line_slot t name) w) (pos 0)
    (neg_ℤ (coefficient (line_slot t name) row))
