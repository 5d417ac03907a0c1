use Rattle.std.proofs.Common.{refl}
use Rattle.script_text.specs.Grammar.{new_plain_words, plain_words}
use Rattle.script_text.proofs.Tables.{over_more}
use Rattle.script_text.proofs.words.any_plain_word.Goals as goal

-- the word that only version 2 has is tried behind the others
pub returns : goal.returns
unfolding new_plain_words
returns c = rw (← over_more plain_words new_plain_words c.args.text.now) (c.plain_word.ensures _ (c.or_else-found.ensures _ refl))
