use Rattle.path_lines.proofs.MarkSides.SidesApart.{apart_by_sides}
use Rattle.path_lines.proofs.laws.apart_by_sides.Goals as goal

pub returns : goal.returns
returns c = apart_by_sides
