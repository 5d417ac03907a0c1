use Rattle.vfl_text.proofs.FormatTexts.{format_made}
use Rattle.vfl_text.specs.View.{meaning}
use Rattle.vfl_text.proofs.text.write.Goals as goal

pub returns-clause-reads_back : goal.returns-clause-reads_back
returns-clause-reads_back c = format_made (meaning c.args.format.now)
