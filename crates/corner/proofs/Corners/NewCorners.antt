-- The corner of no attribute and no row.
use Rattle.std.proofs.Common.{◌≡◌, ◌∙◌, ◌≤◌, List, [], map, filter, drop, length, ap, ap₂, arith}
use Rattle.std.proofs.Math.ListN.{drop_of_length-le}
use Rattle.problem_core.specs.declared.parts.Mark.{Mark}
use Rattle.problem_core.specs.Layout.{Problem, Row, lines}
use Rattle.problem_core.specs.declared.parts.RowName.{RowName}
use Rattle.problem_core.specs.Corners.{marks_of}
use Rattle.corner_view.specs.declared.types.Owner.{Owner}
use Rattle.corner_table.specs.declared.table.Slot.{Slot}
use Rattle.corner_table.specs.declared.table.TheConstants.{LEVELS}
use Rattle.corner_table.specs.declared.table.Table.{Table}
use Rattle.corner_view.specs.Seen.{CornerView, Scene}
use Rattle.corner_table.specs.Tables.{Lists, lists_of, marks_at, problem_of, scene_at, stands_in}
use Rattle.corner_table.specs.Histories.{lists_before, side_by_side}
use Rattle.corner_table.specs.Invariants.{view_of}
use Rattle.corner_table.specs.Joining.{HasNoPast}
use Rattle.corner_view.proofs.Facts.{made_problem}

no_problem : (t : Lists) → t.rows ≡ [] → t.stays ≡ [] → problem_of t ≡ made_problem [] []
no_problem t rows stays = ap₂ made_problem rows stays

no_marks : (t : Lists) → t.rows ≡ [] → t.stays ≡ [] → marks_of (lines (problem_of t)) ≡ []
no_marks t rows stays = ap (λ (p : Problem). marks_of (lines p)) (no_problem t rows stays)

none_inside : (t : Lists) → t.rows ≡ [] → t.stays ≡ [] → marks_at t ≡ []
none_inside t rows stays = none_of (marks_of (lines (problem_of t))) (no_marks t rows stays)
  where
    none_of : (ms : List Mark) → ms ≡ [] → filter (stands_in t) ms ≡ []
    none_of ms e = ap (filter (stands_in t)) e

none_before : (t : Table) → HasNoPast t → lists_before t ≡ []
none_before t past = ap (λ (rs : List (List Row)). side_by_side rs t.stays.before t.slots.before t.standings.before t.matrix.before t.attr_slots.before t.row_slots.before t.priorities.before) past.rows

abbrev seen : Problem → List Mark → List Scene → List RowName → List Owner → CornerView
seen p marks before candidates order = record { problem = p; marks = marks; before = before; candidates = candidates; order = order }

pub new_view : (t : Table) → HasNoPast t → t.rows.items ≡ [] → t.stays.items ≡ [] → length t.slots.items ≡ LEVELS → view_of t [] ≡ seen (made_problem [] []) [] [] [] []
new_view t past rows stays slots =
    let within : length t.slots.items ≤ LEVELS = omega (arith, slots) in
    let order : map (λ (s : Slot). s.owner) (drop LEVELS t.slots.items) ≡ [] = ap (map (λ (s : Slot). s.owner)) (drop_of_length-le t.slots.items within) in
    ap (λ p. seen p (marks_at (lists_of t)) (map scene_at (lists_before t)) [] (map (λ (s : Slot). s.owner) (drop LEVELS t.slots.items))) (no_problem (lists_of t) rows stays)
    ∙ ap (λ ms. seen (made_problem [] []) ms (map scene_at (lists_before t)) [] (map (λ (s : Slot). s.owner) (drop LEVELS t.slots.items))) (none_inside (lists_of t) rows stays)
    ∙ ap (λ ls. seen (made_problem [] []) [] (map scene_at ls) [] (map (λ (s : Slot). s.owner) (drop LEVELS t.slots.items))) (none_before t past)
    ∙ ap (λ order. seen (made_problem [] []) [] [] [] order) order
