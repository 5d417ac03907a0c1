-- The tables where a row's constant has changed, and what is seen of them then.
use Rattle.std.proofs.Common.{◌≡◌, ◌∙◌, ℕ, List, sym, ap, subst, slice_index_or, All}
use Rattle.frac_core.specs.Fraction.{Fraction}
use Rattle.frac_core.specs.Fraction as fractions
use Rattle.problem_core.specs.declared.parts.Mark.{Mark}
use Rattle.problem_core.specs.Changes.Stops.{TableStop}
use Rattle.problem_core.specs.Layout.{Problem}
use Rattle.corner_lines.specs.Shifts.{with_constant}
use Rattle.corner_table.specs.declared.table.Table.{Table}
use Rattle.corner_view.specs.Seen.{AreCandidates, IsNamed}
use Rattle.corner_view.specs.Stops.{IsUnfitStop}
use Rattle.corner_table.specs.Tables.{Lists, lists_of, marks_at, problem_of}
use Rattle.corner_table.specs.Kept.{IsKept, IsSlot}
use Rattle.corner_table.specs.Histories.{AreAlike, lists_before}
use Rattle.corner_table.specs.Invariants.{IsConsistent, IsEarlier, names_of}
use Rattle.corner_shifts.specs.Shifting.{IsShifted, IsShiftedStop, with_shifted}
use Rattle.corner_shifts.proofs.Shifts.ShiftGrowths.{IsShiftOf}
use Rattle.corner_shifts.proofs.Shifts.ShiftKept.{shift_kept}
use Rattle.corner_view.proofs.Seen.ShiftedLines.{shift_candidates, shift_named}
use Rattle.corner_shifts.proofs.Shifts.ShiftValues.{shift_marks_at, shift_stop}

shift-of : (t u : Lists) (id : ℕ) (to : Fraction) → IsKept t → fractions.IsKept to → (h : IsShifted id to t u) → IsShiftOf t id h.0 to h.1
shift-of t u id to kept to_kept h = record { kept = kept; shift = h.2; to_kept = to_kept }

pub shifted_marks : (t u : Lists) (id : ℕ) (to : Fraction) → IsShifted id to t u → marks_at u ≡ marks_at t
shifted_marks t u id to h = ap marks_at h.5 ∙ shift_marks_at t id to h.1 u.standings h.4

pub shifted_kept : (t u : Lists) (id : ℕ) (to : Fraction) → IsKept t → fractions.IsKept to → IsShifted id to t u → IsKept u
shifted_kept t u id to kept to_kept h = subst IsKept (sym h.5) (shift_kept t id h.0 to h.1 u.standings (shift-of t u id to kept to_kept h) h.4)

pub shifted_consistent : (t u : Table) (id : ℕ) (to : Fraction) (ws : List ℕ) → IsConsistent t ws → AreAlike u → lists_before u ≡ lists_before t → fractions.IsKept to → IsShifted id to (lists_of t) (lists_of u) → IsConsistent u ws
shifted_consistent t u id to ws c alike past to_kept h =
    let old : Lists = lists_of t in
    let new : Lists = with_shifted id to u.standings.items old in
    let p : Problem = problem_of old in
    let q : Problem = with_constant id to p in
    let marks = shift_marks_at old id to h.1 u.standings.items h.4 in
    let now : lists_of u ≡ new = h.5 in
    let candidates : AreCandidates q (marks_at new) (names_of old ws) = subst (λ (ms : List Mark). AreCandidates q ms (names_of old ws)) (sym marks) (shift_candidates p id to (marks_at old) (names_of old ws) c.candidates) in
    record {
      alike = alike;
      before = subst (All IsEarlier) (sym past) c.before;
      kept = shifted_kept old (lists_of u) id to c.kept to_kept h;
      slots = subst (λ (l : Lists). All (IsSlot l) ws) (sym now) c.slots;
      named = subst (λ (l : Lists). All (IsNamed (problem_of l)) (names_of l ws)) (sym now) (λ k x lt. shift_named p id to (slice_index_or (names_of old ws) k x) (c.named k x lt));
      candidates = subst (λ (l : Lists). AreCandidates (problem_of l) (marks_at l) (names_of l ws)) (sym now) candidates;
    }

-- the stop is of the problem with the constant
pub shifted_stop : (t : Lists) (id : ℕ) (to : Fraction) (stop : TableStop) → IsKept t → fractions.IsKept to → IsShiftedStop id to t stop → IsUnfitStop (with_constant id to (problem_of t)) (marks_at t) stop
shifted_stop t id to stop kept to_kept h = shift_stop t id h.0 to h.1 stop (record { kept = kept; shift = h.2; to_kept = to_kept }) h.4
