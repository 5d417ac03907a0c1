use Rattle.program_words.proofs.Plain.{no-words, help-asks}
use Rattle.program_words.proofs.laws.others_ask_for_nothing.Goals as goal

pub returns : goal.returns
returns c = record { none = no-words; help = help-asks }
