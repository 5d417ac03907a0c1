use Rattle.std.proofs.Common.{ltb-true, sym}
use Rattle.version_lists.proofs.Listed.{above_all}
use Rattle.version_lists.proofs.rows.list.is_above.Goals as goal

pub returns-in-Some : goal.returns-in-Some
returns-in-Some c =
    λ less.
    above_all c.args.list.now c.args.w c.in-Some.last.now c.requires (sym c.in-Some.ensures.value)
    (ltb-true c.in-Some.last.now c.args.w less)
