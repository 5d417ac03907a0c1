use Rattle.script_text.specs.Grammar.{plain_words}
use Rattle.script_text.proofs.words.plain_word.Goals as goal

pub returns : goal.returns
unfolding plain_words
returns c = λ r h. c.or_else.ensures _ (c.or_else-found-5.ensures _ (c.or_else-found-4.ensures _ (c.or_else-found-3.ensures _ (c.or_else-found-2.ensures _ (c.or_else-found.ensures r h)))))
