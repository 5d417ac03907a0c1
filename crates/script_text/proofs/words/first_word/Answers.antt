use Rattle.std.proofs.Common.{refl}
use Rattle.script_text.specs.Grammar.{all_plain_words, change_words, changing_words, plain_words}
use Rattle.script_text.proofs.Tables.{first_tried, over_none}
use Rattle.script_text.proofs.words.first_word.Goals as goal

-- no other word is tried behind those of version 1
pub returns-in-One : goal.returns-in-One
returns-in-One c = rw (c.in-One.is, first_tried change_words plain_words c.args.text.now, ← over_none change_words c.args.text.now, ← over_none plain_words c.args.text.now)
    (c.first_of.ensures _ (c.change_word-change.ensures _ refl) _ (c.plain_word.ensures _ refl))

-- `why` is tried before the commands of version 2
pub returns-in-Two : goal.returns-in-Two
returns-in-Two c = rw (c.in-Two.is, first_tried changing_words all_plain_words c.args.text.now)
    (c.or_else.ensures _ (c.first_of-command.ensures _ c.changing_word.ensures _ c.any_plain_word.ensures))
