use Rattle.script_text.specs.Grammar.{change_words, new_change_words}
use Rattle.script_text.proofs.Tables.{over_more}
use Rattle.script_text.proofs.words.changing_word.Goals as goal

-- those that only version 2 has are tried behind the others
pub returns : goal.returns
returns c = rw (← over_more change_words new_change_words c.args.text.now) (c.change_word.ensures _ c.new_change_word.ensures)
