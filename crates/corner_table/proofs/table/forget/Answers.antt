use Rattle.corner_table.proofs.Corners.HistoryFacts.{forgotten}
use Rattle.corner_table.proofs.table.forget.Goals as goal

pub returns-clause-before : goal.returns-clause-before
returns-clause-before c =
    forgotten c.args.table.now (record { rows = c.forget.new.self; stays = c.forget-2.new.self; slots = c.forget-3.new.self; standings = c.forget-4.new.self; matrix = c.forget-5.new.self; attr_slots = c.forget-6.new.self; row_slots = c.forget-7.new.self; priorities = c.forget-8.new.self; alloc = c.args.table.now.alloc }) c.requires.alike
    c.forget.ensures.before c.forget-2.ensures.before c.forget-3.ensures.before c.forget-4.ensures.before c.forget-5.ensures.before c.forget-6.ensures.before c.forget-7.ensures.before c.forget-8.ensures.before
