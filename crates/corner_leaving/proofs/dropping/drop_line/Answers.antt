use Rattle.std.proofs.Common.{◌∙◌, ◌<◌, length, ap, arith, subst, sym}
use Rattle.corner_table.specs.Tables.{Lists, lists_of}
use Rattle.corner_leaving.proofs.Removals.DroppedKept.{going}
use Rattle.corner_leaving.proofs.Removals.DroppedTables.{leaver_low, left_below, left_rows, left_standings, line_dropped}
use Rattle.corner_table.proofs.Basics.SmallFacts.{on_ok}
use Rattle.corner_leaving.proofs.dropping.drop_line.Goals as goal

pub row_place-at-requires-clause-held : goal.row_place-at-requires-clause-held
row_place-at-requires-clause-held c = (going (lists_of c.args.table.now) c.args.leaver c.requires.leaver.0 c.requires.kept c.requires.leaver.1).held

pub put_level-requires-clause-level : goal.put_level-requires-clause-level
put_level-requires-clause-level c =
    let lt = leaver_low (lists_of c.args.table.now) c.args.leaver c.requires.leaver.0 c.requires.leaver.1 in
    let e = c.requires.left.at_is in
    omega (arith, lt, e)

pub put_level-requires-clause-below : goal.put_level-requires-clause-below
put_level-requires-clause-below c =
    left_below (lists_of c.args.table.now) c.args.leaver c.args.left c.requires.kept (leaver_low (lists_of c.args.table.now) c.args.leaver c.requires.leaver.0 c.requires.leaver.1) c.requires.left

pub free_slot-requires-clause-slot : goal.free_slot-requires-clause-slot
free_slot-requires-clause-slot c =
    let g = (going (lists_of c.args.table.now) c.args.leaver c.requires.leaver.0 c.requires.kept c.requires.leaver.1).slot in
    subst (λ (x : Lists). c.args.leaver.line < length x.slots) (sym c.in_ok-put_level.ensures.ok) g.1

pub free_slot-requires-clause-standing : goal.free_slot-requires-clause-standing
free_slot-requires-clause-standing c =
    let g = (going (lists_of c.args.table.now) c.args.leaver c.requires.leaver.0 c.requires.kept c.requires.leaver.1).slot in
    let n = ap (λ (x : Lists). length x.standings) c.in_ok-put_level.ensures.ok ∙ left_standings (lists_of c.args.table.now) c.args.left in
    let k = c.requires.kept.slots.standings in
    let w = g.1 in
    omega (arith, n, k, w)

pub free_slot-requires-clause-row : goal.free_slot-requires-clause-row
free_slot-requires-clause-row c =
    let g = (going (lists_of c.args.table.now) c.args.leaver c.requires.leaver.0 c.requires.kept c.requires.leaver.1).slot in
    let n = ap (λ (x : Lists). length x.matrix) c.in_ok-put_level.ensures.ok ∙ left_rows (lists_of c.args.table.now) c.args.left in
    let k = c.requires.kept.slots.matrix in
    let w = g.1 in
    omega (arith, n, k, w)

pub remove-requires : goal.remove-requires
remove-requires c =
    let n = ap (λ (x : Lists). length x.rows) c.in_ok-free_slot.ensures.ok ∙ ap (λ (x : Lists). length x.rows) c.in_ok-put_level.ensures.ok in
    let lt = c.row_place-at.ensures.within in
    omega (arith, n, lt)

pub returns-clause-ok : goal.returns-clause-ok
returns-clause-ok c =
    on_ok c.remove.result _ _
    (λ more. line_dropped (lists_of c.args.table.now) (lists_of c.put_level.new.table) (lists_of c.free_slot.new.table) c.remove.new.self.items c.args.leaver c.args.left c.row_place-at.result
    c.requires.kept.whole.rising c.row_place-at.ensures.within c.row_place-at.ensures.is c.in_ok-put_level.ensures.ok c.in_ok-free_slot.ensures.ok more)
    c.remove.ensures.ok
