use Rattle.std.proofs.Common.{◌<◌, ap, subst, sym, length}
use Rattle.corner_table.specs.declared.table.Slot.{Slot}
use Rattle.corner_table.specs.Tables.{lists_of}
use Rattle.corner_table.specs.Reads.LevelNumbers.{HasReducedAt, IsFirstInColumn, IsFirstSlot, IsNoneInColumn}
use Rattle.corner_writings.specs.declared.levels.Found.{Found}
use Rattle.corner_writings.proofs.LevelFacts.LevelFrontFacts.{column_is_first, home_within, none_at_all, none_so, some_so}
use Rattle.corner_writings.proofs.LevelFacts.ColumnFronts.{column_before, own_before}
use Rattle.corner_writings.proofs.levels.first_slot.Goals as goal

pub is_before-requires-clause-within : goal.is_before-requires-clause-within
is_before-requires-clause-within c = subst (λ (s : Slot). s.home < length c.args.table.now.slots.items) (sym c.slot_at-home.ensures) (home_within (lists_of c.args.table.now) c.args.line c.requires.kept c.requires.line)

pub found_at-requires-clause-within : goal.found_at-requires-clause-within
found_at-requires-clause-within c = subst (λ (s : Slot). s.home < length c.args.table.now.slots.items) (sym c.slot_at-home.ensures) (home_within (lists_of c.args.table.now) c.args.line c.requires.kept c.requires.line)

pub returns-in-Some-clause-some : goal.returns-in-Some-clause-some
returns-in-Some-clause-some c =
    own_before (lists_of c.args.table.now) c.args.line c.slot_at-home.result.home c.args.side c.first_in_column-first.result c.in-Some.found (sym (ap (λ (s : Slot). s.home) c.slot_at-home.ensures))
    (c.is_before.ensures.yes c.if-is_before.true) c.first_in_column-first.ensures.some c.first_in_column-first.ensures.none c.in-Some.ensures.slot c.in-Some.ensures.some

pub returns-in_default-clause-some : goal.returns-in_default-clause-some
returns-in_default-clause-some c =
    some_so (λ (f : Found). IsFirstInColumn (lists_of c.args.table.now) c.args.line c.args.side f.l) (λ f. IsFirstSlot (lists_of c.args.table.now) c.args.line c.args.side f.l) c.first_in_column-first.result
    (λ f. column_is_first (lists_of c.args.table.now) c.args.line c.args.side f.l
    (λ h. c.in_default.ensures.none (subst (λ (s : Slot). HasReducedAt (lists_of c.args.table.now) c.args.line c.args.side s.home) (sym c.slot_at-home.ensures) h))) c.first_in_column-first.ensures.some

pub returns-in_default-clause-none : goal.returns-in_default-clause-none
returns-in_default-clause-none c =
    none_so (IsNoneInColumn (lists_of c.args.table.now) c.args.line c.args.side) _ c.first_in_column-first.result
    (none_at_all (lists_of c.args.table.now) c.args.line c.args.side
    (λ h. c.in_default.ensures.none (subst (λ (s : Slot). HasReducedAt (lists_of c.args.table.now) c.args.line c.args.side s.home) (sym c.slot_at-home.ensures) h))) c.first_in_column-first.ensures.none

pub returns-else-is_before-clause-some : goal.returns-else-is_before-clause-some
returns-else-is_before-clause-some c =
    column_before (lists_of c.args.table.now) c.args.line c.slot_at-home.result.home c.args.side c.first_in_column-first.result (sym (ap (λ (s : Slot). s.home) c.slot_at-home.ensures))
    (c.is_before.ensures.no c.if-is_before.false) c.first_in_column-first.ensures.some
