use Rattle.version_lists.proofs.ByNumber.{slot_found}
use Rattle.version_lists.proofs.slots.places.slot_of.Goals as goal

pub returns-then-is_at : goal.returns-then-is_at
returns-then-is_at c =
    slot_found c.args.kept.now c.guess-i.result c.args.number (record { number = 0; slot = 0 }) c.requires (c.is_at.ensures.within c.if-is_at.true) (c.is_at.ensures.found c.if-is_at.true (record { number = 0; slot = 0 }))
