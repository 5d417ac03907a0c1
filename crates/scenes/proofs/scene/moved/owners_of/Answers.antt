use Rattle.std.proofs.Common.{◌∙◌, ap, map, arith}
use Rattle.std.proofs.lemmas.List.{take_all}
use Rattle.scenes.specs.Moves.{owner}
use Rattle.scenes.proofs.MovedFrames.{mapped_owners}
use Rattle.scenes.proofs.scene.moved.owners_of.Goals as goal

pub returns : goal.returns
returns c =
    mapped_owners c.args.attrs.now c.loop-attr.out.items
    (c.loop-attr.invariant ∙ ap (map owner) (take_all c.loop-attr.attr-index c.args.attrs.now (omega (arith, c.loop-attr-test.false))))
