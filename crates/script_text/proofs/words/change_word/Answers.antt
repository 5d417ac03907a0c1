use Rattle.script_text.specs.Grammar.{change_words}
use Rattle.script_text.proofs.words.change_word.Goals as goal

pub returns : goal.returns
unfolding change_words
returns c = λ r h. c.or_else.ensures _ (c.or_else-found-9.ensures _ (c.or_else-found-8.ensures _ (c.or_else-found-7.ensures _ (c.or_else-found-6.ensures _ (c.or_else-found-5.ensures _ (c.or_else-found-4.ensures _ (c.or_else-found-3.ensures _ (c.or_else-found-2.ensures _ (c.or_else-found.ensures r h)))))))))
