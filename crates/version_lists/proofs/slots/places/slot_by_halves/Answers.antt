use Rattle.version_lists.proofs.ByNumber.{slot_absent, slot_found}
use Rattle.version_lists.proofs.slots.places.slot_by_halves.Goals as goal

pub returns-in_default : goal.returns-in_default
returns-in_default c = slot_absent c.args.kept.now c.args.number c.in_default.ensures.absent

pub returns : goal.returns
returns c =
    slot_found c.args.kept.now c.in-Some.i c.args.number (record { number = 0; slot = 0 }) c.requires c.in-Some.ensures.within (c.in-Some.ensures.found (record { number = 0; slot = 0 }))
