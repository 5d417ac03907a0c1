use Rattle.std.proofs.Common.{◌≡◌, ◌++◌, take, flat_map}
use Rattle.reply_texts.specs.Found.{moving_line}
use Rattle.reply_texts.proofs.found.push_movings.Given as goal

abbrev pub invariant-loop-attr : goal.invariant-loop-attr
invariant-loop-attr l = l.out.items ≡ l.fn.out.items ++ flat_map (moving_line l.tree.views) (take l.attr-index l.moving)
