use Rattle.corner_table.proofs.Corners.HistoryFacts.{rewound}
use Rattle.corner_table.proofs.table.rewind.Goals as goal

pub returns-clause-now : goal.returns-clause-now
returns-clause-now c =
    rewound c.args.table.now (record { rows = c.rewind.new.self; stays = c.rewind-2.new.self; slots = c.rewind-3.new.self; standings = c.rewind-4.new.self; matrix = c.rewind-5.new.self; attr_slots = c.rewind-6.new.self; row_slots = c.rewind-7.new.self; priorities = c.rewind-8.new.self; alloc = c.args.table.now.alloc }) c.requires.alike c.requires.marked
    c.rewind.ensures.items c.rewind-2.ensures.items c.rewind-3.ensures.items c.rewind-4.ensures.items c.rewind-5.ensures.rows c.rewind-6.ensures.items c.rewind-7.ensures.items c.rewind-8.ensures.items
