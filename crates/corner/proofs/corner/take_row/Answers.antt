use Rattle.std.proofs.Common.{◌∙◌, ap}
use Rattle.corner_table.specs.Tables.{lists_of, marks_at, problem_of}
use Rattle.corner_leaving.proofs.Removals.DroppedConsistent.{drop_consistent}
use Rattle.corner_leaving.proofs.Removals.DroppedKept.{IsDrop, drop_marks, going}
use Rattle.corner.proofs.Swaps.NextConsistent.{marked_next}
use Rattle.corner.proofs.corner.take_row.Goals as goal

pub rewound-requires-clause-marked : goal.rewound-requires-clause-marked
rewound-requires-clause-marked c = marked_next c.args.table.now c.put_left.new.table c.requires.consistent.alike c.requires.marked c.in-Err-put_left.ensures.before

pub returns-in-Ok-put_left-clause-consistent : goal.returns-in-Ok-put_left-clause-consistent
returns-in-Ok-put_left-clause-consistent c =
    let d : IsDrop (lists_of c.args.table.now) c.args.leaver c.in-Ok.left = record {
      going = going (lists_of c.args.table.now) c.args.leaver c.requires.leaver.0 c.requires.consistent.kept c.requires.leaver.1;
      level = c.in-Ok.ensures.ok;
    } in
    drop_consistent c.args.table.now c.put_left.new.table c.args.leaver c.in-Ok.left c.requires.leaver.0 c.args.listed.now c.put_left.new.listed c.requires.consistent d c.requires.leaver.1
    c.in-Ok-put_left.ensures.alike c.in-Ok-put_left.ensures.before c.in-Ok-put_left.ensures.lists c.in-Ok-put_left.ensures.listed

pub returns-in-Ok-put_left-clause-problem : goal.returns-in-Ok-put_left-clause-problem
returns-in-Ok-put_left-clause-problem c = ap problem_of c.in-Ok-put_left.ensures.lists

pub returns-in-Ok-put_left-clause-marks : goal.returns-in-Ok-put_left-clause-marks
returns-in-Ok-put_left-clause-marks c =
    let d : IsDrop (lists_of c.args.table.now) c.args.leaver c.in-Ok.left = record {
      going = going (lists_of c.args.table.now) c.args.leaver c.requires.leaver.0 c.requires.consistent.kept c.requires.leaver.1;
      level = c.in-Ok.ensures.ok;
    } in
    ap marks_at c.in-Ok-put_left.ensures.lists ∙ drop_marks (lists_of c.args.table.now) c.args.leaver c.in-Ok.left d
