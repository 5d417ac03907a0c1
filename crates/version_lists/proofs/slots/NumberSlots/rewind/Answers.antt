use Rattle.version_lists.proofs.Edits.{rewound}
use Rattle.version_lists.proofs.slots.NumberSlots.rewind.Goals as goal

pub invariant_of-self : goal.invariant_of-self
invariant_of-self c = rewound c.self.inside.kept c.rewind.new.self c.self.invariant c.rewind.ensures.items c.rewind.ensures.before
