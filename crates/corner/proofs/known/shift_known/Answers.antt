use Rattle.corner_table.specs.Tables.{lists_of}
use Rattle.corner_table.proofs.Basics.SmallFacts.{on_ok}
use Rattle.corner_shifts.proofs.AstrayStays.{shifted_astray}
use Rattle.corner.proofs.Safety.{shifted_safe}
use Rattle.corner_shifts.proofs.Shifts.GrownInside.{held_named}
use Rattle.corner.proofs.known.shift_known.Goals as goal

pub line_slot-line-requires-clause-row : goal.line_slot-line-requires-clause-row
line_slot-line-requires-clause-row c = held_named (lists_of c.args.table.now) c.args.id c.requires.near.2.held

pub returns-clause-known : goal.returns-clause-known
returns-clause-known c =
    on_ok c.shift_row.result _ _
    (λ h. (
      shifted_safe (lists_of c.args.table.now) (lists_of c.shift_row.new.table) c.args.id c.args.to c.args.known.now.safe c.requires.kept h c.requires.known.0,
      shifted_astray (lists_of c.args.table.now) (lists_of c.shift_row.new.table) c.args.id c.line_slot-line.result c.args.to c.args.known.now.astray c.list_astray.new.astray
          c.requires.kept c.line_slot-line.ensures.value c.list_astray.ensures c.requires.known.1 h,
    ))
    c.shift_row.ensures.ok
