-- What joins once slots of nothing were taken out: the problem and the marks inside are the same.
use Rattle.std.proofs.Common.{◌≡◌, ◌∙◌, ◌+◌, ◌≤◌, ℕ, List, [], length, ap, ap₂, sym, subst, arith}
use Rattle.cert_core.specs.declared.stops.RunStop.{RunStop}
use Rattle.cert_core.specs.declared.stops.RunStop.TheVariants.{Conflict, Unfit, Spent, OutOfMemory}
use Rattle.problem_core.specs.declared.parts.Mark.{Mark}
use Rattle.problem_core.specs.declared.parts.Stay.{Stay}
use Rattle.problem_core.specs.Changes.Begins.{BeginsWith}
use Rattle.problem_core.specs.Layout.{Problem, Row}
use Rattle.corner_laws.specs.Lifts.{with_rows}
use Rattle.corner_table.specs.declared.table.TheConstants.{LEVELS}
use Rattle.corner_table.specs.Tables.{Lists, marks_at, problem_of}
use Rattle.corner_table.specs.Kept.{HasSlotsLeft, taken_slots}
use Rattle.corner_table.specs.Invariants.{order_of, seen_of}
use Rattle.corner_view.specs.Seen.{CornerView}
use Rattle.corner_view.specs.AddStops.{AllSumsFit, IsAddStop}
use Rattle.corner_joins.specs.Additions.CostJoins.{AreAllJoined}

pub packed_left : (t : Lists) → length t.slots ≤ LEVELS + taken_slots t → HasSlotsLeft t
packed_left t h = omega (arith, h)

-- ---- what tells of sums reads the problem and the marks alone

-- lists of which no more is seen
abbrev seen-as : Lists → Problem → List Mark → CornerView
seen-as t p at = record { problem = p; marks = at; before = []; candidates = []; order = order_of t }

other-order : (t u : Lists) (rows : List Row) (stop : RunStop) → IsAddStop (seen-as u (problem_of t) (marks_at t)) rows stop → IsAddStop (seen_of t) rows stop
other-order t u rows (Conflict by) h = h
other-order t u rows (Spent path) h = h
other-order t u rows (Unfit at) h = h
other-order t u rows OutOfMemory h = h

pub stop_as : (t u : Lists) (rows : List Row) (stop : RunStop) → problem_of u ≡ problem_of t → marks_at u ≡ marks_at t → IsAddStop (seen_of u) rows stop → IsAddStop (seen_of t) rows stop
stop_as t u rows stop problem marks h =
    other-order t u rows stop
    (subst (λ (at : List Mark). IsAddStop (seen-as u (problem_of t) at) rows stop) marks (subst (λ (p : Problem). IsAddStop (seen-as u p (marks_at u)) rows stop) problem h))

pub fits_as : (t u : Lists) (rows : List Row) → problem_of u ≡ problem_of t → marks_at u ≡ marks_at t → AllSumsFit (seen_of u) rows → AllSumsFit (seen_of t) rows
fits_as t u rows problem marks h = λ at stop. h at (stop_as u t rows (Unfit at) (sym problem) (sym marks) stop)

-- ---- rows that have joined

pub joined_problem : (t u w : Lists) (rows : List Row) (old new : List ℕ) → problem_of u ≡ problem_of t → AreAllJoined rows u old w new → problem_of w ≡ with_rows rows (problem_of t)
joined_problem t u w rows old new problem h =
    ap₂ (λ (xs : List Row) (ys : List Stay). record { rows = xs; stays = ys }) (h.joined.rows_same ∙ h.pushed.rows) (h.joined.stays ∙ h.pushed.stays)
    ∙ ap (with_rows rows) problem

pub joined_begins : (t u w : Lists) (rows : List Row) (old new : List ℕ) → marks_at u ≡ marks_at t → AreAllJoined rows u old w new → BeginsWith (problem_of w) (marks_at t) rows [] (marks_at w)
joined_begins t u w rows old new marks h =
    let same : problem_of h.mid ≡ problem_of w = ap₂ (λ (xs : List Row) (ys : List Stay). record { rows = xs; stays = ys }) (sym h.joined.rows_same) (sym h.joined.stays) in
    subst (λ (p : Problem). BeginsWith p (marks_at t) rows [] (marks_at w)) same
    (subst (λ (at : List Mark). BeginsWith (problem_of h.mid) (marks_at t) rows [] at) (sym h.joined.marks)
    (subst (λ (at : List Mark). BeginsWith (problem_of h.mid) at rows [] (marks_at h.mid)) marks h.begins))
