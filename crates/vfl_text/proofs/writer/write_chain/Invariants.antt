use Rattle.std.proofs.Common.{◌≡◌, ◌++◌, drop}
use Rattle.vfl_text.specs.Text.{chain_text}
use Rattle.vfl_text.specs.View.{spacing_meanings, item_meanings}
use Rattle.vfl_text.proofs.writer.write_chain.Given as goal

abbrev pub invariant-loop-i : goal.invariant-loop-i
invariant-loop-i l = l.text.items ++ chain_text (spacing_meanings (drop l.i l.spacings)) (item_meanings (drop l.i l.items)) ≡ l.fn.text.items ++ chain_text (spacing_meanings l.spacings) (item_meanings l.items)
