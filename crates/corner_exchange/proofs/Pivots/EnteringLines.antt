-- The row of the entering line.
use Rattle.std.proofs.Common.{◌≡◌, ◌≢◌, ◌∙◌, ℕ, ◌<◌, inl, inr, List, cond, nat_eq, refl, sym, ap, subst, ℤ, pos, negsuc, neg_ℤ, ◌*ℤ◌, unsigned_abs, get_or}
use Rattle.std.proofs.lemmas.Bool.{cases_eq}
use Rattle.std.proofs.lemmas.Int.{unsigned_abs-mul}
use Rattle.frac_core.specs.declared.frac.TheConstants.{PART_BOUND}
use Rattle.row_core.specs.Rows.{Term, coefficient, IsKeptRow}
use Rattle.problem_core.specs.Layout.{lines}
use Rattle.problem_core.specs.Corners.{Swap}
use Rattle.corner_lines.specs.LineEquations.{deviation, sign_of}
use Rattle.corner_exchange.specs.declared.exchange.Pivot.{Pivot}
use Rattle.corner_table.specs.Tables.{Lists, entry, line_slot, problem_of}
use Rattle.corner_table.specs.Kept.{IsKept}
use Rattle.corner_exchange.specs.Swaps.Exchanges.{AreOutsideAfter, IsEnteringChange, IsPivotAt, marks_after, signed, solved}
use Rattle.corner_writings.specs.Rows.{row_number}
use Rattle.corner_exchange.proofs.Pivots.LineChanges.{signed-zero}
use Rattle.corner_exchange.proofs.Pivots.LineSlots.{below_slots}
use Rattle.corner_exchange.proofs.Pivots.PivotFacts.{enter_within, leave_within}
use Rattle.corner_table.proofs.Basics.SameEquations.{same_numbers as equal_line}

signed-self : (x : ℤ) → signed x x ≡ pos (unsigned_abs x)
signed-self (pos n) = refl
signed-self (negsuc n) = refl

signed-none : (x z : ℤ) → signed x z ≢ pos 0 → z ≢ pos 0
signed-none x z some e = some (signed-zero x z e)

abs-twice : (x : ℤ) → unsigned_abs (pos 2 *ℤ pos (unsigned_abs x)) ≡ unsigned_abs (pos 2 *ℤ x)
abs-twice x = unsigned_abs-mul (pos 2) (pos (unsigned_abs x)) ∙ sym (unsigned_abs-mul (pos 2) x)

pub entering_is : (t : Lists) (pivot : Pivot) (s : Swap) (row : List Term) → IsKept t → IsPivotAt t pivot s → IsKeptRow row → ((c : ℕ) → coefficient c row ≡ signed pivot.by (entry t pivot.pair.leave c))
    → IsEnteringChange t pivot.pair s (record { at = pivot.pair.enter; row = row; value = pivot.value })
entering_is t pivot s row kept at row_kept same =
    let x : ℤ = entry t pivot.pair.leave pivot.pair.enter in
    let there : (c : ℕ) → coefficient c row ≡ signed x (entry t pivot.pair.leave c) = λ c. same c ∙ ap (λ z. signed z (entry t pivot.pair.leave c)) at.by in
    let own : coefficient pivot.pair.enter row ≡ pos (unsigned_abs x) = there pivot.pair.enter ∙ signed-self x in
    let outside : AreOutsideAfter t pivot.pair pivot.pair.enter row = λ c some ne.
    elim (cases_eq c pivot.pair.leave) [
      | inl e ↦ inl e
      | inr other ↦ inr (ne, kept.outside pivot.pair.leave c (signed-none x (entry t pivot.pair.leave c) (λ z. some (there c ∙ z))) other)
    ] in
    record {
      at = refl;
      below = below_slots t pivot.pair pivot.pair.enter row (enter_within t pivot.pair s kept.slots at.pair) (leave_within t pivot.pair s kept.slots at.pair) row_kept.lowest outside;
      outside = outside;
      line = (
        unsigned_abs x,
        own,
        equal_line (problem_of t) (marks_after t s) (deviation s.enter.row) (unsigned_abs x) (solved t pivot.pair) (row_number t pivot.pair.enter row) (sign_of s.enter.side *ℤ pivot.value.num) pivot.value.den
            (λ i d within. ap (λ z. cond (nat_eq (line_slot t (get_or (lines (problem_of t)) i d).name) pivot.pair.enter) (pos 0) (neg_ℤ z)) (there (line_slot t (get_or (lines (problem_of t)) i d).name))) at.line,
      );
      room = λ stay. subst (λ k. k < PART_BOUND) (sym (ap (λ z. unsigned_abs (pos 2 *ℤ z)) own ∙ abs-twice x ∙ ap (λ z. unsigned_abs (pos 2 *ℤ z)) (sym at.by))) (at.room stay);
    }
