use Rattle.std.proofs.Common.{rules, ◌≡◌, ◌≢◌, ◌<◌, ◌≤◌, ◌+◌, ◌-◌, ◌<ℤ◌, length, slice_index_or, ℤ, List, pos, to_z, w64, sym, subst, unsigned_abs}
use Rattle.problem_core.specs.Layout.{Row}
use Rattle.problem_core.specs.declared.parts.RowName.TheVariants.{Held}
use Rattle.corner_table.specs.Tables.{line_slot, lists_of, slot_at}
use Rattle.corner_joins.specs.Additions.CostJoins.{IsLeastUnit}
use Rattle.corner_leaving.proofs.Removals.LeavingUnits.{IsUnitTo, no_rows_yet, other_row_passes, row_room, unit_of_all}
use Rattle.corner_leaving.proofs.Removals.LeavingEnds.{among, room_fits, unit_step}
use Rattle.corner_leaving.proofs.leaving.rest_unit.Goals as goal
use Rattle.corner_leaving.proofs.leaving.rest_unit.Goals.{then-level_at-leaver+then-id-leaver, else-level_at-leaver, else-level_at-leaver-via-then-level_at-leaver+else-id-leaver, else-level_at-leaver-via-else-level_at-leaver}

pub loop-row-init : goal.loop-row-init
loop-row-init c = no_rows_yet c.args.leaver c.as_slice-row-items.result.now

pub more_unit-unit-requires-clause-room : goal.more_unit-unit-requires-clause-room
more_unit-unit-requires-clause-room c =
    let rows : c.as_slice-row-items.result.now ≡ c.args.table.now.rows.items = search rules in
    let lt : c.loop-row.row-index < length c.args.table.now.rows.items = search rules in
    let e : slice_index_or c.args.table.now.rows.items c.loop-row.row-index c.row-item.result ≡ c.row-item.result = search rules in
    let level : 1000 - c.row-item.result.rank ≡ c.args.leaver.level = search rules in
    let other : c.row-item.result.id ≢ c.args.leaver.id = search rules in
    row_room (lists_of c.args.table.now) c.requires.leaver.0 c.row-item.result c.args.leaver c.loop-row.row-index (to_z w64 c.loop-row.unit-bits) (record { kept = c.requires.kept; is = c.requires.leaver.1 })
    (among c.args.table.now.rows.items c.loop-row.row-index c.row-item.result lt e) level other
    (subst (λ (xs : List Row). IsUnitTo c.args.leaver xs c.loop-row.row-index (to_z w64 c.loop-row.unit-bits)) rows c.loop-row.invariant)

pub more_unit-unit-requires-clause-fits : goal.more_unit-unit-requires-clause-fits
more_unit-unit-requires-clause-fits c =
    let rows : c.as_slice-row-items.result.now ≡ c.args.table.now.rows.items = search rules in
    let lt : c.loop-row.row-index < length c.args.table.now.rows.items = search rules in
    let e : slice_index_or c.args.table.now.rows.items c.loop-row.row-index c.row-item.result ≡ c.row-item.result = search rules in
    let level : 1000 - c.row-item.result.rank ≡ c.args.leaver.level = search rules in
    let other : c.row-item.result.id ≢ c.args.leaver.id = search rules in
    room_fits c.row-item.result (to_z w64 c.loop-row.unit-bits)
    (row_room (lists_of c.args.table.now) c.requires.leaver.0 c.row-item.result c.args.leaver c.loop-row.row-index (to_z w64 c.loop-row.unit-bits) (record { kept = c.requires.kept; is = c.requires.leaver.1 })
    (among c.args.table.now.rows.items c.loop-row.row-index c.row-item.result lt e) level other
    (subst (λ (xs : List Row). IsUnitTo c.args.leaver xs c.loop-row.row-index (to_z w64 c.loop-row.unit-bits)) rows c.loop-row.invariant))

pub loop-row-preserved : goal.loop-row-preserved
loop-row-preserved c =
    let rows : c.as_slice-row-items.result.now ≡ c.args.table.now.rows.items = search rules in
    let lt : c.loop-row.row-index < length c.args.table.now.rows.items = search rules in
    let e : slice_index_or c.args.table.now.rows.items c.loop-row.row-index c.row-item.result ≡ c.row-item.result = search rules in
    let so_far : IsUnitTo c.args.leaver c.args.table.now.rows.items c.loop-row.row-index (to_z w64 c.loop-row.unit-bits) = subst (λ (xs : List Row). IsUnitTo c.args.leaver xs c.loop-row.row-index (to_z w64 c.loop-row.unit-bits)) rows c.loop-row.invariant in
    subst (λ (xs : List Row). IsUnitTo c.args.leaver xs (c.loop-row.row-index + 1) (to_z w64 c.if-level_at-leaver.unit-bits)) (sym rows)
    (elim c.if-level_at-leaver.branch [
      | then-level_at-leaver+then-id-leaver w ↦
          let level : 1000 - c.row-item.result.rank ≡ c.args.leaver.level = search rules in
          let other : c.row-item.result.id ≢ c.args.leaver.id = search rules in
          let next : to_z w64 c.if-level_at-leaver.unit-bits ≡ w.more_unit-unit.result = search rules in
          let above : pos 0 <ℤ w.more_unit-unit.result = search rules in
          let least : IsLeastUnit (slot_at (lists_of c.args.table.now) (line_slot (lists_of c.args.table.now) (Held c.row-item.result.id))) (to_z w64 c.loop-row.unit-bits) (unsigned_abs w.more_unit-unit.result) = search rules in
          subst (λ (z : ℤ). IsUnitTo c.args.leaver c.args.table.now.rows.items (c.loop-row.row-index + 1) z) (sym next)
          (unit_step (lists_of c.args.table.now) c.args.leaver c.loop-row.row-index c.row-item.result (to_z w64 c.loop-row.unit-bits) w.more_unit-unit.result c.requires.kept (among c.args.table.now.rows.items c.loop-row.row-index c.row-item.result lt e) lt e level other so_far above least)
      | else-level_at-leaver w ↦
          let same : to_z w64 c.if-level_at-leaver.unit-bits ≡ to_z w64 c.loop-row.unit-bits = search rules in
          subst (λ (z : ℤ). IsUnitTo c.args.leaver c.args.table.now.rows.items (c.loop-row.row-index + 1) z) (sym same)
          (other_row_passes c.args.leaver c.args.table.now.rows.items c.loop-row.row-index c.row-item.result (to_z w64 c.loop-row.unit-bits) lt e
          (λ level other. elim w.else-level_at-leaver.branch [
            | else-level_at-leaver-via-then-level_at-leaver+else-id-leaver v ↦ (let own : c.row-item.result.id ≡ c.args.leaver.id = search rules in other own)
            | else-level_at-leaver-via-else-level_at-leaver v ↦ (let ne : 1000 - c.row-item.result.rank ≢ c.args.leaver.level = search rules in ne level)
          ]) so_far)
    ])

pub returns : goal.returns
returns c =
    let rows : c.as_slice-row-items.result.now ≡ c.args.table.now.rows.items = search rules in
    let le : length c.args.table.now.rows.items ≤ c.loop-row.row-index = search rules in
    unit_of_all (lists_of c.args.table.now) c.requires.leaver.0 c.args.leaver c.loop-row.row-index (to_z w64 c.loop-row.unit-bits) (record { kept = c.requires.kept; is = c.requires.leaver.1 }) le
    (subst (λ (xs : List Row). IsUnitTo c.args.leaver xs c.loop-row.row-index (to_z w64 c.loop-row.unit-bits)) rows c.loop-row.invariant)
