use Rattle.std.proofs.Common.{◌∙◌, length, ap, arith}
use Rattle.corner_leaving.specs.Dropping.{freed}
use Rattle.corner_table.specs.Tables.{Lists, lists_of, problem_of}
use Rattle.corner_table.proofs.Basics.OwnerFacts.{stay_named}
use Rattle.corner_leaving.proofs.Removals.DroppedTables.{freed_rows, freed_slots, freed_standings, stay_dropped}
use Rattle.corner_table.proofs.Basics.SmallFacts.{on_ok}
use Rattle.corner_leaving.proofs.dropping.drop_stay.Goals as goal

pub stay_place-i-requires : goal.stay_place-i-requires
stay_place-i-requires c = record { held = c.requires.free.held }

pub attr_slot-at-requires-clause-attr : goal.attr_slot-at-requires-clause-attr
attr_slot-at-requires-clause-attr c = c.requires.free.held

pub line_slot-line-requires-clause-row : goal.line_slot-line-requires-clause-row
line_slot-line-requires-clause-row c = stay_named (problem_of (lists_of c.args.table.now)) c.args.attr c.requires.free.held

pub free_slot-requires-clause-standing : goal.free_slot-requires-clause-standing
free_slot-requires-clause-standing c =
    let n = c.requires.kept.slots.standings in
    let w = c.attr_slot-at.ensures.within in
    omega (arith, n, w)

pub free_slot-requires-clause-row : goal.free_slot-requires-clause-row
free_slot-requires-clause-row c =
    let n = c.requires.kept.slots.matrix in
    let w = c.attr_slot-at.ensures.within in
    omega (arith, n, w)

pub free_slot-requires-2-clause-slot : goal.free_slot-requires-2-clause-slot
free_slot-requires-2-clause-slot c =
    let n = ap (λ (x : Lists). length x.slots) c.in_ok-free_slot.ensures.ok ∙ freed_slots (lists_of c.args.table.now) c.attr_slot-at.result in
    let w = c.line_slot-line.ensures.within in
    omega (arith, n, w)

pub free_slot-requires-2-clause-standing : goal.free_slot-requires-2-clause-standing
free_slot-requires-2-clause-standing c =
    let n = ap (λ (x : Lists). length x.standings) c.in_ok-free_slot.ensures.ok ∙ freed_standings (lists_of c.args.table.now) c.attr_slot-at.result in
    let k = c.requires.kept.slots.standings in
    let w = c.line_slot-line.ensures.within in
    omega (arith, n, k, w)

pub free_slot-requires-2-clause-row : goal.free_slot-requires-2-clause-row
free_slot-requires-2-clause-row c =
    let n = ap (λ (x : Lists). length x.matrix) c.in_ok-free_slot.ensures.ok ∙ freed_rows (lists_of c.args.table.now) c.attr_slot-at.result in
    let k = c.requires.kept.slots.matrix in
    let w = c.line_slot-line.ensures.within in
    omega (arith, n, k, w)

pub remove-requires : goal.remove-requires
remove-requires c =
    let n = ap (λ (x : Lists). length x.stays) c.in_ok-free_slot-2.ensures.ok ∙ ap (λ (x : Lists). length x.stays) c.in_ok-free_slot.ensures.ok in
    let lt = c.stay_place-i.ensures.within in
    omega (arith, n, lt)

pub returns-clause-ok : goal.returns-clause-ok
returns-clause-ok c =
    on_ok c.remove.result _ _
    (λ more. stay_dropped (lists_of c.args.table.now) (lists_of c.free_slot.new.table) (lists_of c.free_slot-2.new.table) c.remove.new.self.items c.args.attr c.stay_place-i.result
    c.requires.kept.whole.apart c.stay_place-i.ensures.within c.stay_place-i.ensures.is (c.in_ok-free_slot.ensures.ok ∙ ap (freed (lists_of c.args.table.now)) c.attr_slot-at.ensures.value)
    (c.in_ok-free_slot-2.ensures.ok ∙ ap (freed (lists_of c.free_slot.new.table)) c.line_slot-line.ensures.value) more)
    c.remove.ensures.ok
