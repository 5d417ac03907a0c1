use Rattle.corner_table.proofs.Corners.HistoryFacts.{marked, marked_alike}
use Rattle.corner_table.proofs.table.mark.Goals as goal

pub returns-clause-alike : goal.returns-clause-alike
returns-clause-alike c =
    marked_alike c.args.table.now (record { rows = c.mark.new.self; stays = c.mark-2.new.self; slots = c.mark-3.new.self; standings = c.mark-4.new.self; matrix = c.mark-5.new.self; attr_slots = c.mark-6.new.self; row_slots = c.mark-7.new.self; priorities = c.mark-8.new.self; alloc = c.args.table.now.alloc }) c.requires
    c.mark.ensures.before c.mark-2.ensures.before c.mark-3.ensures.before c.mark-4.ensures.before c.mark-5.ensures.before c.mark-6.ensures.before c.mark-7.ensures.before c.mark-8.ensures.before

pub returns-clause-before : goal.returns-clause-before
returns-clause-before c =
    marked c.args.table.now (record { rows = c.mark.new.self; stays = c.mark-2.new.self; slots = c.mark-3.new.self; standings = c.mark-4.new.self; matrix = c.mark-5.new.self; attr_slots = c.mark-6.new.self; row_slots = c.mark-7.new.self; priorities = c.mark-8.new.self; alloc = c.args.table.now.alloc })
    c.mark.ensures.before c.mark-2.ensures.before c.mark-3.ensures.before c.mark-4.ensures.before c.mark-5.ensures.before c.mark-6.ensures.before c.mark-7.ensures.before c.mark-8.ensures.before
