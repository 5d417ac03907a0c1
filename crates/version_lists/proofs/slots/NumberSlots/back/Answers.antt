use Rattle.version_lists.proofs.Edits.{gone_back}
use Rattle.version_lists.proofs.slots.NumberSlots.back.Goals as goal

pub invariant_of-self : goal.invariant_of-self
invariant_of-self c = gone_back c.self.inside.kept c.back.new.self c.self.invariant c.back.ensures.version
