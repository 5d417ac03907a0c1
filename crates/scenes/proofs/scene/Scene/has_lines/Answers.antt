use Rattle.std.proofs.Common.{◌<◌, length, arith}
use Rattle.held_items.proofs.HeldRows.ItemRows.{few-lines}
use Rattle.scenes.proofs.scene.Scene.has_lines.Goals as goal

pub returns-then-len-count-clause-no : goal.returns-then-len-count-clause-no
returns-then-len-count-clause-no g c same =
    let few : length c.self.inside.items.items < c.args.count = omega (arith, c.len.ensures, c.if-len-count.true) in
    rw (← c.self.view_is) (omega (arith, few-lines c.self.inside.items.items, few))
