use Rattle.std.proofs.Common.{inl}
use Rattle.corner_table.specs.Moves.{marked_of}
use Rattle.corner_table.specs.Tables.{lists_of}
use Rattle.corner_table.proofs.Readings.MoveFacts.{one_or_stayed, still_listed}
use Rattle.corner_table.proofs.moved.candidates.Goals as goal

pub returns : goal.returns
returns c =
    one_or_stayed (marked_of c.args.table.now) (lists_of c.args.table.now) c.push_present.new.out.items c.args.slots.now
    c.in_ok-written.field-0.items c.requires.then c.requires.now c.requires.others c.in_ok-written.ensures
    (still_listed (lists_of c.args.table.now) c.push_attrs.new.out.items c.push_present.new.out.items c.args.slots.now
    c.in_ok-push_present.ensures.keeps c.in_ok-push_attrs.ensures.now)
    (still_listed (marked_of c.args.table.now) c.push_attrs.new.out.items c.push_present.new.out.items c.args.slots.now
    c.in_ok-push_present.ensures.keeps c.in_ok-push_attrs.ensures.then)
    (λ k d within attr own. inl ((rw c.deref.ensures.value at c.in_ok-push_present.ensures.now) k d within attr own))
