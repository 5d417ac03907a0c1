use Rattle.std.proofs.Common.{◌≡◌, ◌∙◌, ◌<◌, ap, arith, length, subst, sym}
use Rattle.corner_table.specs.declared.table.TheConstants.{LEVELS}
use Rattle.corner_table.specs.Kept.{IsKept}
use Rattle.corner_table.proofs.Corners.NewTables.{levels_kept, levels_rows, levels_stays, matrix_count, slot_count}
use Rattle.corner_table.proofs.table.new_table.Goals as goal

pub push_level-requires : goal.push_level-requires
push_level-requires c =
    let n : length c.loop-level.table.matrix.rows ≡ c.loop-level.level = ap (λ t. length t.matrix) c.loop-level.invariant.lists ∙ matrix_count c.loop-level.level in
    let few : c.loop-level.level < LEVELS = grind (arith, c.loop-level-test.true) in
    record { room = omega (arith, n, few) }

pub returns-clause-kept : goal.returns-clause-kept
returns-clause-kept c =
    let n : c.loop-level.level ≡ LEVELS = grind (arith, c.loop-level-test.false, c.loop-level.auto.level-end) in
    subst IsKept (sym c.loop-level.invariant.lists) (levels_kept c.loop-level.level n)

pub returns-clause-rows : goal.returns-clause-rows
returns-clause-rows c = ap (λ t. t.rows) c.loop-level.invariant.lists ∙ levels_rows c.loop-level.level

pub returns-clause-stays : goal.returns-clause-stays
returns-clause-stays c = ap (λ t. t.stays) c.loop-level.invariant.lists ∙ levels_stays c.loop-level.level

pub returns-clause-slots : goal.returns-clause-slots
returns-clause-slots c =
    let n : c.loop-level.level ≡ LEVELS = grind (arith, c.loop-level-test.false, c.loop-level.auto.level-end) in
    ap (λ t. length t.slots) c.loop-level.invariant.lists ∙ slot_count c.loop-level.level ∙ n
