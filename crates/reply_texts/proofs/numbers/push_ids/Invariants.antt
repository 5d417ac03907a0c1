use Rattle.std.proofs.Common.{◌≡◌, ◌++◌, take, flat_map}
use Rattle.reply_texts.specs.Cores.{id_line}
use Rattle.reply_texts.proofs.numbers.push_ids.Given as goal

abbrev pub invariant-loop-id : goal.invariant-loop-id
invariant-loop-id l = l.out.items ≡ l.fn.out.items ++ flat_map (id_line l.fn.front) (take l.id-index l.ids)
