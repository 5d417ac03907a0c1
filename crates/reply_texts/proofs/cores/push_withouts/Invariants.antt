use Rattle.std.proofs.Common.{◌≡◌, ◌++◌, take, flat_map}
use Rattle.reply_texts.specs.Cores.{without_text}
use Rattle.reply_texts.proofs.cores.push_withouts.Given as goal

abbrev pub invariant-loop-part : goal.invariant-loop-part
invariant-loop-part l = l.out.items ≡ l.fn.out.items ++ flat_map without_text (take l.part-index l.parts)
