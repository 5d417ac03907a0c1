use Rattle.version_lists.proofs.Edits.{rewound_from, with_items}
use Rattle.version_lists.proofs.slots.changes.insert.Goals as goal

pub returns-in-Err-clause-rising : goal.returns-in-Err-clause-rising
returns-in-Err-clause-rising c =
    rewound_from c.args.kept.now c.move_up.new.kept c.rewind.new.self c.requires.rising c.move_up.ensures.before c.rewind.ensures.items c.rewind.ensures.before

pub returns-in-Ok-clause-rising : goal.returns-in-Ok-clause-rising
returns-in-Ok-clause-rising c = with_items c.args.kept.now c.move_up.new.kept c.requires.rising c.in-Ok.ensures.rising c.move_up.ensures.before
