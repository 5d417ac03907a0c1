use Rattle.corner_table.specs.Tables.{lists_of}
use Rattle.corner_joins.proofs.Attributes.AttrLevels.{attr_kept}
use Rattle.corner_joins.proofs.Additions.SlotsLeft.{attr_left, attr_room}
use Rattle.corner_joins.proofs.joining.push_attr.Goals as goal

pub place_attr-requires-clause-room : goal.place_attr-requires-clause-room
place_attr-requires-clause-room c = attr_room (lists_of c.args.table.now) c.requires.kept c.requires.room c.requires.left

pub returns-clause-kept : goal.returns-clause-kept
returns-clause-kept c =
    attr_kept (lists_of c.args.table.now) (lists_of c.place_attr.new.table) c.args.attr c.args.target c.requires.kept c.requires.number c.den.ensures.kept c.requires.fresh c.requires.room c.in_ok-place_attr.ensures.lists

pub returns-clause-left : goal.returns-clause-left
returns-clause-left c =
    attr_left (lists_of c.args.table.now) (lists_of c.place_attr.new.table) c.args.attr c.args.target c.requires.left c.in_ok-place_attr.ensures.lists
