use Rattle.std.proofs.Common.{◌≡◌, ◌++◌, take, flat_map}
use Rattle.sweep_run.specs.Told.{stretches_of}
use Rattle.reply_texts.specs.Swept.{stretch_text}
use Rattle.reply_texts.proofs.swept.push_stretches.Given as goal

abbrev pub invariant-loop-stretch : goal.invariant-loop-stretch
invariant-loop-stretch l = l.out.items ≡ l.fn.out.items ++ flat_map (stretch_text l.tree.views) (stretches_of (take l.stretch-index l.stretches))
