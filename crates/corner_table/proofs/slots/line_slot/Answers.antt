use Rattle.std.proofs.Common.{◌≡◌, ℕ, ◌+◌, ◌^◌, ◌<◌, arith, subst}
use Rattle.problem_core.specs.declared.parts.Stay.{Stay}
use Rattle.corner_table.specs.Tables.{attr_slot, lists_of, problem_of}
use Rattle.corner_view.specs.Seen.{IsNamed}
use Rattle.corner_table.proofs.Readings.SlotFacts.{any_is, named_stay}
use Rattle.corner_table.proofs.slots.line_slot.Goals as goal

pub attr_slot-requires-clause-attr : goal.attr_slot-requires-clause-attr
attr_slot-requires-clause-attr c = named_stay (problem_of (lists_of c.args.table.now)) c.in-Stay.attr (subst (IsNamed (problem_of (lists_of c.args.table.now))) c.in-Stay.is c.requires.row)

pub overflow_add-result : goal.overflow_add-result
overflow_add-result c =
    let has = named_stay (problem_of (lists_of c.args.table.now)) c.in-Stay.attr (subst (IsNamed (problem_of (lists_of c.args.table.now))) c.in-Stay.is c.requires.row) in
    let few : attr_slot (lists_of c.args.table.now) c.in-Stay.attr + 1 < 2 ^ 32 =
    any_is (λ (s : Stay). attr_slot (lists_of c.args.table.now) s.attr + 1 < 2 ^ 32) (λ (s : Stay). s.attr ≡ c.in-Stay.attr) c.args.table.now.stays.items c.requires.slots.room has
    (λ s h e. subst (λ (a : ℕ). attr_slot (lists_of c.args.table.now) a + 1 < 2 ^ 32) e h) in
    omega (arith, few, c.attr_slot.ensures.value)
