use Rattle.program_words.proofs.Unique.{asks-one}
use Rattle.program_words.proofs.laws.mode_is_unique.Goals as goal

pub returns : goal.returns
returns c = asks-one
