use Rattle.frac_core.proofs.Gauss.{reduces}
use Rattle.problem_core.proofs.GapFacts.Multiples.{multiple-above, multiple-left, multiple-right, multiple-least}
use Rattle.problem_core.proofs.common.least_common.Goals as goal

pub nonzero_div-result : goal.nonzero_div-result
nonzero_div-result c = (reduces c.args.x c.args.y c.gcd.result c.requires.y c.gcd.ensures).g_above

pub returns-clause-above : goal.returns-clause-above
returns-clause-above c = multiple-above c.args.x c.args.y c.gcd.result c.requires.x c.requires.y (reduces c.args.x c.args.y c.gcd.result c.requires.y c.gcd.ensures)

pub returns-clause-x : goal.returns-clause-x
returns-clause-x c = multiple-left c.args.x c.args.y c.gcd.result (reduces c.args.x c.args.y c.gcd.result c.requires.y c.gcd.ensures)

pub returns-clause-y : goal.returns-clause-y
returns-clause-y c = multiple-right c.args.x c.args.y c.gcd.result

pub returns-clause-least : goal.returns-clause-least
returns-clause-least c = multiple-least c.args.x c.args.y c.gcd.result (reduces c.args.x c.args.y c.gcd.result c.requires.y c.gcd.ensures)
