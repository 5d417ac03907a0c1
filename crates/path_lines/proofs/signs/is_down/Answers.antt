use Rattle.path_lines.proofs.Iffs.{not_then}
use Rattle.path_lines.proofs.Arithmetic.ValueSigns.{down_iff}
use Rattle.path_lines.proofs.signs.is_down.Goals as goal

pub returns : goal.returns
returns c = λ p at mark there line inside. not_then c.is_up.result (c.is_up.ensures p at mark.row there line) (down_iff p at mark c.args.line.now there line inside)
