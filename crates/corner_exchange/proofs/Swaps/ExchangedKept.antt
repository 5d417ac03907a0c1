-- The lists after an exchange are kept.
use Rattle.std.proofs.Common.{◌≡◌, ◌∙◌, List, [], ◌∷◌, length, length-set, slice_index_or, sym, ap, subst, All, Some, None}
use Rattle.std.specs.List.{AllByRecursion as Each}
use Rattle.std.proofs.lemmas.List.Elements.{All-set, recursion_from_All}
use Rattle.frac_core.specs.Fraction as fractions
use Rattle.row_core.specs.Rows.{IsKeptRow, Term}
use Rattle.version_lists.proofs.Indexing.{none_kept}
use Rattle.problem_core.specs.Window.{zero_fraction}
use Rattle.problem_core.specs.Layout.{lines}
use Rattle.problem_core.specs.Corners.{SameMarks, Swap}
use Rattle.corner_exchange.specs.declared.exchange.Change.{Change}
use Rattle.corner_exchange.specs.declared.exchange.Exchange.{Exchange}
use Rattle.corner_table.specs.declared.table.Slot.{Slot}
use Rattle.corner_table.specs.declared.table.Standing.{Standing}
use Rattle.corner_table.specs.Tables.{Lists, marks_at, problem_of, standing_at}
use Rattle.corner_table.specs.Kept.{AreSlots, IsKept}
use Rattle.corner_exchange.specs.Swaps.Exchanges.{IsExchangeOf, cleared, exchanged_lists, marks_after, with_changes}
use Rattle.corner_exchange.specs.Swaps.NextLists.{AreKeptChanges, IsKeptBy, IsKeptChange, over}
use Rattle.corner_table.proofs.Basics.SmallFacts.{own_name, own_stay}
use Rattle.corner_table.proofs.Readings.KeptFacts.{zero_kept}
use Rattle.corner_exchange.proofs.Swaps.NextFacts.{kept_by, over_slots}
use Rattle.corner_exchange.proofs.Pivots.PairFacts.{pair_exchange, pair_rays}
use Rattle.corner_exchange.proofs.Swaps.PutFacts.{changes_keep, changes_slots, cleared_slots}
use Rattle.corner_exchange.proofs.Swaps.ExchangedFacts.{AreExchanged, IsNext, attr_next, exchanged_at, exchanged_over, line_next, stored_next}
use Rattle.corner_exchange.proofs.Swaps.ExchangedMarks.{exchanged_marks, exchanged_outside, exchanged_room}
use Rattle.corner_exchange.proofs.Swaps.ExchangedLevels.{exchanged_levels}

-- ---- rows and values

changes-rows : (t : Lists) (cs : List Change) → Each IsKeptChange cs → All IsKeptRow t.matrix → All IsKeptRow (with_changes t cs).matrix
changes-rows t [] h k = k
changes-rows t (c ∷ cs) h k = All-set IsKeptRow (with_changes t cs).matrix c.at c.row h.0.0 (changes-rows t cs h.1 k)

changes-values : (t : Lists) (cs : List Change) → Each IsKeptChange cs → All (λ s. fractions.IsKept s.value) t.standings → All (λ s. fractions.IsKept s.value) (with_changes t cs).standings
changes-values t [] h k = k
changes-values t (c ∷ cs) h k =
    All-set (λ (s : Standing). fractions.IsKept s.value) (with_changes t cs).standings c.at (record { side = (standing_at (with_changes t cs) c.at).side; value = c.value }) h.0.1 (changes-values t cs h.1 k)

exchanged-rows : (t : Lists) (made : Exchange) → AreKeptChanges made → IsKept t → All IsKeptRow (exchanged_lists t made).matrix
exchanged-rows t made h k =
    All-set IsKeptRow (with_changes (cleared t made.pair.leave) made.changes.items).matrix made.entering.at made.entering.row h.entering.0
    (changes-rows (cleared t made.pair.leave) made.changes.items (recursion_from_All IsKeptChange made.changes.items h.changes)
    (All-set IsKeptRow t.matrix made.pair.leave [] none_kept k.matrix))

exchanged-values : (t : Lists) (made : Exchange) → AreKeptChanges made → IsKept t → All (λ s. fractions.IsKept s.value) (exchanged_lists t made).standings
exchanged-values t made h k =
    All-set (λ (s : Standing). fractions.IsKept s.value) (with_changes (cleared t made.pair.leave) made.changes.items).standings made.entering.at (record { side = Some made.pair.side; value = made.entering.value }) h.entering.1
    (changes-values (cleared t made.pair.leave) made.changes.items (recursion_from_All IsKeptChange made.changes.items h.changes)
    (All-set (λ (s : Standing). fractions.IsKept s.value) t.standings made.pair.leave (record { side = None; value = zero_fraction }) zero_kept k.values))

exchanged-counts : (t : Lists) (made : Exchange) → AreSlots t → (length (exchanged_lists t made).standings ≡ length t.slots) × (length (exchanged_lists t made).matrix ≡ length t.slots)
exchanged-counts t made slots =
    let c0 : Lists = cleared t made.pair.leave in
    let c1 : Lists = with_changes c0 made.changes.items in
    let there = changes_slots c0 made.changes.items (cleared_slots t made.pair.leave slots) in
    let count : length c1.slots ≡ length t.slots = ap (λ (xs : List Slot). length xs) (changes_keep c0 made.changes.items) in
    (length-set c1.standings made.entering.at (record { side = Some made.pair.side; value = made.entering.value }) ∙ there.standings ∙ count, length-set c1.matrix made.entering.at made.entering.row ∙ there.matrix ∙ count)

-- ---- all of it

next-kept : (t : Lists) (v : List Standing) (m : List (List Term)) (made : Exchange) (s : Swap) → IsNext t v m made s → length v ≡ length t.slots → length m ≡ length t.slots → All IsKeptRow m → All (λ s. fractions.IsKept s.value) v
    → IsKeptBy (over t v m) (marks_after t s)
next-kept t v m made s n vs ms rows values = record {
  marks = exchanged_marks t v m made s n;
  whole = n.kept.whole;
  corner = (pair_exchange t made.pair s n.kept n.is.pair).corner;
  rays = pair_rays t made.pair s n.kept n.is.pair;
  slots = over_slots t v m n.kept.slots vs ms;
  stored = stored_next t v m made s n;
  matrix = rows;
  values = values;
  attrs = λ i x lt. attr_next t v m made s (slice_index_or t.stays i x).attr n (own_stay t.stays i x lt);
  lines = λ i x lt. line_next t v m made s (slice_index_or (lines (problem_of t)) i x).name n (own_name (lines (problem_of t)) i x lt);
  outside = exchanged_outside t v m made s ms n;
  levels = λ k lt. exchanged_levels t v m made s k n lt;
  stay_levels = exchanged_room t v m made s n;
}

next-by : (t : Lists) (made : Exchange) (s : Swap) → IsKept t → IsExchangeOf t made s → AreKeptChanges made
    → IsKeptBy (over t (exchanged_lists t made).standings (exchanged_lists t made).matrix) (marks_after t s)
next-by t made s kept is h =
    let u : Lists = exchanged_lists t made in
    let counts = exchanged-counts t made kept.slots in
    next-kept t u.standings u.matrix made s
    (record { kept = kept; is = is; at = subst (λ (x : Lists). AreExchanged t x made s) (exchanged_over t made) (exchanged_at t made s kept.slots is) })
    counts.0 counts.1 (exchanged-rows t made h kept) (exchanged-values t made h kept)

pub exchanged_kept : (t : Lists) (made : Exchange) (s : Swap) → IsKept t → IsExchangeOf t made s → AreKeptChanges made → IsKept (exchanged_lists t made)
exchanged_kept t made s kept is h =
    subst IsKept (sym (exchanged_over t made)) (kept_by (over t (exchanged_lists t made).standings (exchanged_lists t made).matrix) (marks_after t s) (next-by t made s kept is h))

pub exchanged_after : (t : Lists) (made : Exchange) (s : Swap) → IsKept t → IsExchangeOf t made s → AreKeptChanges made → SameMarks (marks_at (exchanged_lists t made)) (marks_after t s)
exchanged_after t made s kept is h =
    subst (λ (x : Lists). SameMarks (marks_at x) (marks_after t s)) (sym (exchanged_over t made))
    (let same = (next-by t made s kept is h).marks in (same.1, same.0))

pub slots_same : (t : Lists) (made : Exchange) → length (exchanged_lists t made).slots ≡ length t.slots
slots_same t made = ap (λ (x : Lists). length x.slots) (exchanged_over t made)
