use Rattle.std.proofs.Common.{ltb-true, sym}
use Rattle.version_lists.proofs.Searches.{above_last}
use Rattle.version_lists.proofs.slots.places.is_above.Goals as goal

pub returns-in-Some : goal.returns-in-Some
returns-in-Some c =
    λ less.
    above_last c.args.kept.now c.args.number c.in-Some.one.now c.requires (sym c.in-Some.ensures.value)
    (ltb-true c.in-Some.one.now.number c.args.number less)
