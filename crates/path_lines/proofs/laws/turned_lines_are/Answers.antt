use Rattle.path_lines.proofs.Exchanges.Turning.{turned_lines_are}
use Rattle.path_lines.proofs.laws.turned_lines_are.Goals as goal

pub returns : goal.returns
returns c = turned_lines_are
