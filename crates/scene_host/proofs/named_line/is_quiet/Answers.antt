use Rattle.scene_host.proofs.NamedLines.{quiet_no, quiet_yes}
use Rattle.scene_host.proofs.named_line.is_quiet.Goals as goal

pub returns-in-Ok-clause-yes : goal.returns-in-Ok-clause-yes
returns-in-Ok-clause-yes c = λ e. quiet_yes c.args.line.now c.in-Ok.ensures

pub returns-in-Err-clause-no : goal.returns-in-Err-clause-no
returns-in-Err-clause-no c = λ e h. quiet_no c.args.line.now _ c.in-Err.ensures h
