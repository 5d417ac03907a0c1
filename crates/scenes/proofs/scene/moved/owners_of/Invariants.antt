use Rattle.std.proofs.Common.{◌≡◌, map, take}
use Rattle.scenes.specs.Moves.{owner}
use Rattle.scenes.proofs.scene.moved.owners_of.Given as goal

abbrev pub invariant-loop-attr : goal.invariant-loop-attr
invariant-loop-attr l = l.out.items ≡ map owner (take l.attr-index l.attrs)
