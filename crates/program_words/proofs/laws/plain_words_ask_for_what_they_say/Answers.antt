use Rattle.program_words.proofs.Plain.{plain-says, plain-asks}
use Rattle.program_words.proofs.laws.plain_words_ask_for_what_they_say.Goals as goal

pub returns : goal.returns
returns c = record { said = plain-says; only = plain-asks }
