use Rattle.corner_lines.proofs.SameMarks.{same_corner, same_line, same_rays}
use Rattle.corner_lines.proofs.equations.same_marks_are_corner.Goals as goal

pub returns-clause-corner : goal.returns-clause-corner
returns-clause-corner c = same_corner

pub returns-clause-rays : goal.returns-clause-rays
returns-clause-rays c = same_rays

pub returns-clause-equations : goal.returns-clause-equations
returns-clause-equations c = λ p at other same quantity own by num den e. same_line p at other quantity own by num den same e
