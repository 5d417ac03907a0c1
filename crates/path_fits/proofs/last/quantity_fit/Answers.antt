use Rattle.std.proofs.Common.{ℕ, List, sym, subst}
use Rattle.problem_core.specs.declared.parts.Mark.{Mark}
use Rattle.problem_core.specs.declared.stops.What.{What}
use Rattle.problem_core.specs.declared.stops.Quantity.{Quantity}
use Rattle.problem_core.specs.declared.stops.Quantity.TheVariants.{Plain, Shifts}
use Rattle.problem_core.specs.Layout.{Problem}
use Rattle.path_lines.specs.Exchanges.Pivots.{next_marks}
use Rattle.path_lines.proofs.Exchanges.Leading.{ok_then}
use Rattle.path_fits.specs.declared.last.Fit.{Fit}
use Rattle.path_fits.specs.declared.last.Fit.TheVariants.{Fits, Unfit, NoRoom}
use Rattle.path_fits.specs.Fits.{IsFitAt}
use Rattle.path_fits.proofs.last.quantity_fit.Goals as goal

-- a shift is judged as the quantity itself
shifts_same : (p : Problem) (at : List Mark) (what : What) (j : ℕ) (fit : Fit) → IsFitAt p at (Plain what) fit → IsFitAt p at (Shifts what j) fit
shifts_same p at what j Fits h = h
shifts_same p at what j Unfit h = h
shifts_same p at what j NoRoom h = h

pub returns-in-Plain : goal.returns-in-Plain
returns-in-Plain c = ok_then c.what_fit.result (λ fit h at is turn.
    subst (λ (q : Quantity). IsFitAt c.args.p.now (next_marks c.args.p.now c.args.pivot.now at) q fit) (sym c.in-Plain.is) (h at is turn)) c.what_fit.ensures

pub returns-in-Shifts : goal.returns-in-Shifts
returns-in-Shifts c = ok_then c.what_fit-in-Shifts.result (λ fit h at is turn.
    subst (λ (q : Quantity). IsFitAt c.args.p.now (next_marks c.args.p.now c.args.pivot.now at) q fit) (sym c.in-Shifts.is)
    (shifts_same c.args.p.now (next_marks c.args.p.now c.args.pivot.now at) c.in-Shifts.what c.in-Shifts.first fit (h at is turn))) c.what_fit-in-Shifts.ensures

pub returns-in-Terms : goal.returns-in-Terms
returns-in-Terms c = ok_then c.terms_fit.result (λ fit h at is turn.
    subst (λ (q : Quantity). IsFitAt c.args.p.now (next_marks c.args.p.now c.args.pivot.now at) q fit) (sym c.in-Terms.is) (h at turn is.kept.lines_are is.attrs)) c.terms_fit.ensures

pub returns-in-Rows : goal.returns-in-Rows
returns-in-Rows c = ok_then c.rows_fit.result (λ fit h at is turn.
    subst (λ (q : Quantity). IsFitAt c.args.p.now (next_marks c.args.p.now c.args.pivot.now at) q fit) (sym c.in-Rows.is) (h c.args.p.now at is turn)) c.rows_fit.ensures
