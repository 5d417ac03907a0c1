-- Which attributes have other values than at an earlier corner.
use Rattle.std.proofs.Common.{◌≡◌, ◌∙◌, ◌∷◌, ◌<◌, ℕ, List, All, length, map, refl, sym, subst, arith, Some, None}
use Rattle.std.specs.declared.option.Option.{Option}
use Rattle.frac_core.specs.Fraction.{Fraction, IsLowest}
use Rattle.problem_core.specs.Corners.{attr_column}
use Rattle.problem_core.specs.Window.{zero_fraction}
use Rattle.corner_table.specs.declared.table.Table.{Table}
use Rattle.corner_table.specs.Histories.{AreAlike, lists_before}
use Rattle.corner_table.specs.Invariants.{IsEarlier}
use Rattle.corner_table.specs.Kept.{IsKept}
use Rattle.corner_view.specs.Moves.{AreMoved, AreMovedSince, HasValueIn, Shows}
use Rattle.corner_table.specs.Moves.{HasValue, marked_of}
use Rattle.corner_table.specs.Tables.{Lists, attr_slot, lists_of, marks_at, problem_of, scene_at, standing_at}
use Rattle.corner_view.specs.Seen.{HasValueAt}
use Rattle.corner_table.proofs.Corners.HistoryFacts.{sided}
use Rattle.frac_core.proofs.Lists.{length-mapped as map_length}
use Rattle.corner_table.proofs.Readings.MoveFacts.{first_before, slot_of}
use Rattle.corner_view.proofs.Facts.{moved_by}
use Rattle.corner_table.proofs.Readings.ReadFacts.{value_attr}

-- what the lists show is so at their corner
shows-in : (t : Lists) → IsKept t → (attr : ℕ) (o : Option Fraction) → Shows HasValue t attr o → Shows HasValueIn (scene_at t) attr o
shows-in t kept attr (Some f) shows =
    let within : attr_slot t attr < length t.standings =
    omega (arith, (slot_of t attr kept.slots shows.0).slot.1, kept.slots.standings) in
    let lowest : IsLowest (standing_at t (attr_slot t attr)).value =
    (kept.values (attr_slot t attr) (record { side = None; value = zero_fraction }) within).lowest in (
      shows.0,
      subst IsLowest shows.1 lowest,
      subst (λ (g : Fraction). HasValueAt (problem_of t) (marks_at t) (attr_column attr) g) shows.1 (value_attr t attr kept shows.0),
    )
shows-in t kept attr None none = λ f has. none (standing_at t (attr_slot t attr)).value (has.0, refl)

pub corner_moved :
    (t : Table) (attrs : List ℕ) → AreAlike t → 0 < length t.rows.before → All IsEarlier (lists_before t) → IsKept (lists_of t)
    → AreMoved HasValue (marked_of t) (lists_of t) attrs
    → AreMovedSince HasValueIn (map scene_at (lists_before t)) (scene_at (lists_of t)) attrs
corner_moved t attrs alike some earlier kept are =
    let first = first_before t alike some in
    let all : All IsEarlier (marked_of t ∷ first.0) = subst (All IsEarlier) first.1 earlier in
    let then : IsKept (marked_of t) = (all 0 (marked_of t) (omega arith)).kept in
    subst (λ (ls : List Lists). AreMovedSince HasValueIn (map scene_at ls) (scene_at (lists_of t)) attrs) (sym first.1)
    (moved_by HasValue HasValueIn (marked_of t) (lists_of t) (scene_at (marked_of t)) (scene_at (lists_of t)) attrs
    (shows-in (marked_of t) then) (shows-in (lists_of t) kept) are)

-- the lists at the newest mark keep what they keep
pub then_kept : (t : Table) → AreAlike t → 0 < length t.rows.before → All IsEarlier (lists_before t) → IsKept (marked_of t)
then_kept t alike some earlier =
    let first = first_before t alike some in
    let all : All IsEarlier (marked_of t ∷ first.0) = subst (All IsEarlier) first.1 earlier in
    (all 0 (marked_of t) (omega arith)).kept

-- where there is an earlier corner, there are earlier lists
pub lists_there : (t : Table) → AreAlike t → 0 < length (map scene_at (lists_before t)) → 0 < length t.rows.before
lists_there t alike some =
    let same : length (map scene_at (lists_before t)) ≡ length t.rows.before =
    map_length scene_at (lists_before t)
    ∙ sided t.rows.before t.stays.before t.slots.before t.standings.before t.matrix.before t.attr_slots.before t.row_slots.before
    t.priorities.before alike.stays alike.slots alike.standings alike.matrix alike.attr_slots alike.row_slots alike.priorities in
    omega (arith, some, same)
