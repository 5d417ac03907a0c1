use Rattle.std.proofs.Common.{◌≡◌, ◌++◌, take, flat_map}
use Rattle.reply_texts.specs.Found.{unmet_line}
use Rattle.reply_texts.proofs.found.push_unmets.Given as goal

abbrev pub invariant-loop-row : goal.invariant-loop-row
invariant-loop-row l = l.out.items ≡ l.fn.out.items ++ flat_map unmet_line (take l.row-index l.unmet)
